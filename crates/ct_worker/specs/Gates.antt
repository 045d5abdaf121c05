-- What the gates of a run were asked and what they told, by the entries of their workers.
-- This project's own; the request of a start is after CMake manual, cmake-properties(7),
-- REQUIRED_FILES, TIMEOUT, WORKING_DIRECTORY; ctest(1), Resource Allocation.
use Rattle.std.specs.Prelude.{◌≡◌, ◌⊎◌, ℕ, ◌+◌, ◌-◌, ◌^◌, ◌≤◌, ⊤, min, nat_lt, Bool, true, false, not, ◌&&◌, ◌||◌, List, [], ◌∷◌, ◌++◌, map, filter_map, count_by, Option, Some, None, unwrap_or, IfSome, IsSomeAnd, ◌==◌, if◌then◌else◌}
use Rattle.std.specs.List.{list_all, list_any}
use Rattle.ct_base.specs.declared.defs.Pair.{Pair}
use Rattle.ct_base.specs.declared.defs.TestDef.{TestDef}
use Rattle.ct_base.specs.Outside.{Adds, Becomes}
use Rattle.ct_regex.specs.declared.pattern.Regex.{Regex}
use Rattle.ct_regex.specs.Ends.{hits}
use Rattle.ct_regex.specs.TreeOf.{regex_tree}
use Rattle.ct_props.specs.declared.props.Props.{Props}
use Rattle.ct_alloc.specs.declared.placement.Placement.{Placement}
use Rattle.ct_env.specs.Environment.{IsEnvironment}
use Rattle.ct_props.specs.Numbered.{at_number}
use Rattle.ct_verdict.specs.declared.attempt.Seen.{Seen}
use Rattle.ct_history.specs.declared.history.Entry.{Entry}
use Rattle.ct_history.specs.declared.history.Entry.TheVariants.{Start, End, Settle, Stop}
use Rattle.ct_history.specs.History.{Running, is_end_of}
use Rattle.ct_core.specs.declared.gate.Asked.{Asked}
use Rattle.ct_core.specs.declared.gate.Ended.{Ended}
use Rattle.ct_core.specs.declared.gate.Request.{Request}
use Rattle.ct_core.specs.declared.gate.Told.{Told}
use Rattle.ct_core.specs.Gate.{GateTell, asked_for, is_no_memory, is_not_started, told}
use Rattle.ct_worker.specs.declared.jobs.Jobs.{Jobs}
use Rattle.ct_groups.specs.GroupsIn.{count_groups}

-- what a run fixes for its attempts: its own environment, the tests with their properties,
-- the limit of a test without its own, in microseconds, and whether resources are lent
pub record Terms : Type 0 where
  pub own : List Pair
  pub defs : List TestDef
  pub props : List Props
  pub limit : ℕ
  pub lends : Bool

-- the terms that the workers' jobs give, with whether resources are lent
abbrev pub terms_of : Jobs → Bool → Terms
terms_of jobs lends = record {
  own = jobs.own.now;
  defs = jobs.defs.now;
  props = jobs.props.now;
  limit = jobs.timeout;
  lends = lends;
}

-- the entry ends an attempt for want of memory, for which its gate may not have been asked
abbrev pub lacks_memory : Entry → Bool
lacks_memory (Start t a w placement) = false
lacks_memory (End t a w seen) = is_no_memory seen.how
lacks_memory (Settle t cause) = false
lacks_memory Stop = false

-- no End among these entries lacks memory
abbrev pub had_memory : List Entry → Bool
had_memory entries = list_all (λ entry. not (lacks_memory entry)) entries

-- the attempt that an entry starts for a worker
abbrev pub started_by : ℕ → Entry → Option Running
started_by worker (Start t a w p) =
    if w == worker then Some (record { test = t; attempt = a; worker = w; placement = p }) else None
started_by worker (End t a w seen) = None
started_by worker (Settle t cause) = None
started_by worker Stop = None

-- the attempts of a worker, in the order of its Starts
abbrev pub starts_of : ℕ → List Entry → List Running
starts_of worker entries = filter_map (started_by worker) entries

-- the entry ends this attempt for want of memory
abbrev pub lacks_for : Running → Entry → Bool
lacks_for run entry = is_end_of run.test run.attempt entry && lacks_memory entry

-- some entry ends the attempt for want of memory
abbrev pub ended_lacking : List Entry → Running → Bool
ended_lacking entries run = list_any (lacks_for run) entries

-- the second list is the first, but runs that pass the test may be missing
abbrev pub MayMiss : (Running → Bool) → List Running → List Running → Type 0
MayMiss may [] kept = kept ≡ []
MayMiss may (run ∷ runs) [] = (may run ≡ true) × MayMiss may runs []
MayMiss may (run ∷ runs) (first ∷ kept) =
    ((first ≡ run) × MayMiss may runs kept) ⊎ ((may run ≡ true) × MayMiss may runs (first ∷ kept))

-- the record that a gate was asked for an attempt
abbrev pub asked_run : Running → Asked
asked_run run = asked_for run.test run.attempt

-- the limit of this many microseconds; 0 is no limit
abbrev pub limit_of : ℕ → Option ℕ
limit_of micros = if micros == 0 then None else Some micros

-- the test has groups
abbrev pub has_groups : Props → Bool
has_groups props = nat_lt 0 (count_groups props.groups)

-- a placement without picks
abbrev pub no_picks : Placement
no_picks = record { picks = [] }

-- the placement that the program of an attempt is shown: its own, or else,
-- if the test has groups and resources are lent, a placement without picks
abbrev pub placement_shown : Bool → Props → Option Placement → Option Placement
placement_shown lends props (Some placement) = Some placement
placement_shown lends props None = if lends && has_groups props then Some no_picks else None

-- what a gate is asked to run for an attempt of this test: its command, in its
-- folder, with this environment. The limit is the test's own, or else the run's.
abbrev pub request_in : List Pair → ℕ → TestDef → Props → Running → Request
request_in env limit def props run = record {
  test = run.test;
  attempt = run.attempt;
  name = def.name;
  command = def.command;
  dir = props.working_dir;
  env = env;
  limit = limit_of (unwrap_or props.timeout limit);
  required = props.required_files;
}

-- the request is the right one for an attempt of this test, with the
-- environment that its properties and its placement make of the run's own
pub record IsRequestOf (terms : Terms) (def : TestDef) (props : Props) (run : Running) (request : Request)
    : Type 0 where
  pub env : IsEnvironment terms.own props (placement_shown terms.lends props run.placement) request.env
  pub is : request ≡ request_in request.env terms.limit def props run

-- the request is the right one for this attempt, by the
-- test and the properties with the number of its test
abbrev pub IsRequestFor : Terms → Running → Request → Type 0
IsRequestFor terms run request =
    IsSomeAnd (at_number terms.defs run.test)
    (λ def. IsSomeAnd (at_number terms.props run.test) (λ props. IsRequestOf terms def props run request))

-- the requests are the right ones for these attempts, one for each, in order
abbrev pub AreRequests : Terms → List Running → List Request → Type 0
AreRequests terms [] [] = ⊤
AreRequests terms [] (request ∷ requests) = ⊥
AreRequests terms (run ∷ runs) [] = ⊥
AreRequests terms (run ∷ runs) (request ∷ requests) =
    IsRequestFor terms run request × AreRequests terms runs requests

-- the requests of these attempts were appended to the requests that were sent before
pub record Sends (terms : Terms) (runs : List Running) (before now : List Request) : Type 0 where
  pub requests : List Request
  pub are : AreRequests terms runs requests
  pub added : now ≡ before ++ requests

-- some pattern hits the text
abbrev pub some_hits : List Regex → List ℕ → Bool
some_hits patterns text = list_any (λ pattern. hits (regex_tree pattern) text) patterns

-- what is seen of an attempt, by what was heard of it and how it ended
abbrev pub seen_of : Props → List ℕ → Ended → Seen
seen_of props heard ended = record {
  how = ended.how;
  fail_hit = some_hits props.fail heard;
  pass_hit = some_hits props.pass heard;
  skip_hit = some_hits props.skip heard;
  micros = ended.micros;
}

-- what is seen of an attempt of a test is what the world tells of it
abbrev pub SeesTold : List Props → List Told → ℕ → ℕ → Seen → Type 0
SeesTold props world test attempt seen =
    IsSomeAnd (at_number props test)
    (λ own. seen ≡ seen_of own (told world test attempt).heard (told world test attempt).ended)

-- an End of the worker saw what the world tells of its attempt, unless memory was wanting
abbrev pub SawTold : List Props → List Told → ℕ → Entry → Type 0
SawTold props world worker (Start t a w placement) = ⊤
SawTold props world worker (End t a w seen) =
    w ≡ worker → is_no_memory seen.how ≡ false → SeesTold props world t a seen
SawTold props world worker (Settle t cause) = ⊤
SawTold props world worker Stop = ⊤

-- each End of the worker saw what the world tells of its attempt, unless memory was wanting
abbrev pub SawAllTold : List Props → List Told → ℕ → List Entry → Type 0
SawAllTold props world worker [] = ⊤
SawAllTold props world worker (entry ∷ entries) =
    SawTold props world worker entry × SawAllTold props world worker entries

-- the entry ends an attempt of the worker that could not be started
abbrev pub is_unstarted : ℕ → Entry → Bool
is_unstarted worker (Start t a w placement) = false
is_unstarted worker (End t a w seen) = w == worker && is_not_started seen.how
is_unstarted worker (Settle t cause) = false
is_unstarted worker Stop = false

-- how many attempts of the worker could not be started
abbrev pub unstarted_count : ℕ → List Entry → ℕ
unstarted_count worker entries = count_by (is_unstarted worker) entries

-- a gate's count rose by at least the attempts that could not be
-- started, up to its last value. If there was none, it stays.
pub record CountsUnstarted (unstarted before now : ℕ) : Type 0 where
  pub later : before ≤ now
  pub rose : min (before + unstarted) (2 ^ 64 - 1) ≤ now
  pub stays : unstarted ≡ 0 → now ≡ before

-- the attempt that an entry ends for a worker, if memory was there for it
abbrev pub ended_by : ℕ → Entry → Option Asked
ended_by worker (Start t a w placement) = None
ended_by worker (End t a w seen) =
    if w == worker && not (is_no_memory seen.how) then Some (asked_for t a) else None
ended_by worker (Settle t cause) = None
ended_by worker Stop = None

-- the attempts that a worker ended and for which memory was there, in the order of their Ends
abbrev pub ended_with_memory : ℕ → List Entry → List Asked
ended_with_memory worker entries = filter_map (ended_by worker) entries

-- a gate was asked for the attempts of its worker, but for some that lacked memory,
-- and the worker saw what the gate's world tells. Each attempt that the gate recorded
-- ended with memory: once a gate has run a program, memory is not wanting for its End.
-- It is the same gate as before, and it tells the same world.
pub record IsAsked (terms : Terms) (worker : ℕ) (before now : GateTell) (entries : List Entry) : Type 0 where
  pub told : IfSome before.world (λ world. SawAllTold terms.props world worker entries)
  pub runs : List Running
  pub kept : MayMiss (ended_lacking entries) (starts_of worker entries) runs
  pub ended : map asked_run runs ≡ ended_with_memory worker entries
  pub asked : Becomes before.asked now.asked (Adds (map asked_run runs))
  pub sent : Becomes before.sent now.sent (Sends terms runs)
  pub who : now.who ≡ before.who
  pub world : now.world ≡ before.world
  pub unstarted : CountsUnstarted (unstarted_count worker entries) before.faults now.faults

-- each of these gates was asked for the attempts of its worker: the
-- first gate for this worker, each later gate for the next worker
abbrev pub AreAsked : Terms → ℕ → List GateTell → List GateTell → List Entry → Type 0
AreAsked terms worker [] [] entries = ⊤
AreAsked terms worker [] (now ∷ nows) entries = ⊥
AreAsked terms worker (before ∷ befores) [] entries = ⊥
AreAsked terms worker (before ∷ befores) (now ∷ nows) entries =
    IsAsked terms worker before now entries × AreAsked terms (worker + 1) befores nows entries

-- the gates are the same ones in the same order: they are as many, and at each place
-- the same is told of which gate it is
abbrev pub AreSameGates : List GateTell → List GateTell → Type 0
AreSameGates before now = map (λ gate. gate.who) now ≡ map (λ gate. gate.who) before

-- a Start or an End is by one of the first `workers` workers; other entries pass
abbrev pub is_below : ℕ → Entry → Bool
is_below workers (Start t a w placement) = nat_lt w workers
is_below workers (End t a w seen) = nat_lt w workers
is_below workers (Settle t cause) = true
is_below workers Stop = true

-- each Start and End is by one of the first `workers` workers
abbrev pub are_below : ℕ → List Entry → Bool
are_below workers entries = list_all (is_below workers) entries
