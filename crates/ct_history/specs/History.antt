-- What a history of a run says: open starts, what they use, attempts. This project's own, after ctest(1).
use Rattle.std.specs.Prelude.{ℕ, Bool, true, false, ◌&&◌, List, [], ◌∷◌, filter_map, find, sum_by, Option, Some, None, option_and_then, ◌==◌, if◌then◌else◌}
use Rattle.std.specs.List.{list_any, cons_option}
use Rattle.ct_alloc.specs.declared.placement.Placement.{Placement}
use Rattle.ct_alloc.specs.Placement.{slots_at}
use Rattle.ct_verdict.specs.declared.verdict.Verdict.{Verdict}
use Rattle.ct_verdict.specs.declared.verdict.Cause.{Cause}
use Rattle.ct_verdict.specs.declared.rules.Rules.{Rules}
use Rattle.ct_verdict.specs.Verdict.{verdict_of}
use Rattle.ct_history.specs.declared.plan.PlanTest.{PlanTest}
use Rattle.ct_history.specs.declared.history.Entry.{Entry}
use Rattle.ct_history.specs.declared.history.Entry.TheVariants.{Start, End, Settle, Stop}
pub use Rattle.ct_history.specs.Plan.{test_at}

-- a start that no End has closed
pub record Running : Type 0 where
  pub test : ℕ
  pub attempt : ℕ
  pub worker : ℕ
  pub placement : Option Placement

-- the entry ends this attempt of the test
abbrev pub is_end_of : ℕ → ℕ → Entry → Bool
is_end_of test attempt (Start t a worker placement) = false
is_end_of test attempt (End t a worker seen) = t == test && a == attempt
is_end_of test attempt (Settle t cause) = false
is_end_of test attempt Stop = false

-- the start that the entry makes, unless an End behind the entry closes it
abbrev pub opened : Entry → List Entry → Option Running
opened (Start t a w p) behind =
    if list_any (is_end_of t a) behind
    then None
    else Some (record { test = t; attempt = a; worker = w; placement = p })
opened (End t a worker seen) behind = None
opened (Settle t cause) behind = None
opened Stop behind = None

-- the placement of the start that the entry opens, where it has one
abbrev pub opened_placement : Entry → List Entry → Option Placement
opened_placement e behind = option_and_then (λ (r : Running). r.placement) (opened e behind)

-- the open starts: each Start with no End of the same test and attempt behind it
abbrev pub open_starts : List Entry → List Running
open_starts [] = []
open_starts (e ∷ es) = cons_option (opened e es) (open_starts es)

-- the open start of a test, if there is one
abbrev pub open_start_of_test : ℕ → List Entry → Option Running
open_start_of_test test entries = find (λ (r : Running). r.test == test) (open_starts entries)

-- the open start of a worker, if it has one
abbrev pub open_start_of_worker : ℕ → List Entry → Option Running
open_start_of_worker worker entries = find (λ (r : Running). r.worker == worker) (open_starts entries)

-- a start of the test is open
abbrev pub is_open_in : ℕ → List Entry → Bool
is_open_in test entries = list_any (λ (r : Running). r.test == test) (open_starts entries)

-- the worker has an open start
abbrev pub is_busy_in : ℕ → List Entry → Bool
is_busy_in worker entries = list_any (λ (r : Running). r.worker == worker) (open_starts entries)

-- this attempt of the test is open, and the worker made it
abbrev pub holds_start : ℕ → ℕ → ℕ → List Entry → Bool
holds_start test attempt worker entries =
    list_any (λ (r : Running). r.test == test && r.attempt == attempt && r.worker == worker)
    (open_starts entries)

-- the processors of a test
abbrev pub processors_of : Option PlanTest → ℕ
processors_of None = 0
processors_of (Some t) = t.processors

-- the processors that the open starts use together
abbrev pub used_processors : List PlanTest → List Entry → ℕ
used_processors tests entries =
    sum_by (λ (r : Running). processors_of (test_at tests r.test)) (open_starts entries)

-- the slots that a placement takes of the resource at a place
abbrev pub placed_slots : ℕ → Option Placement → ℕ
placed_slots place None = 0
placed_slots place (Some p) = slots_at place p.picks

-- the slots of the resource at a place that the open starts use together
abbrev pub used_slots : List Entry → ℕ → ℕ
used_slots entries place = sum_by (λ (r : Running). placed_slots place r.placement) (open_starts entries)

-- the entry is a Stop
abbrev pub is_stop : Entry → Bool
is_stop (Start t a worker placement) = false
is_stop (End t a worker seen) = false
is_stop (Settle t cause) = false
is_stop Stop = true

-- a Stop stands in the history
abbrev pub has_stop : List Entry → Bool
has_stop entries = list_any is_stop entries

-- the cause that the entry settles the test with
abbrev pub settled_by : ℕ → Entry → Option Cause
settled_by test (Start t a worker placement) = None
settled_by test (End t a worker seen) = None
settled_by test (Settle t cause) = if t == test then Some cause else None
settled_by test Stop = None

-- the verdict of the attempt that the entry ends, if that is an attempt of the test
abbrev pub attempt_by : ℕ → Rules → Entry → Option Verdict
attempt_by test rules (Start t a worker placement) = None
attempt_by test rules (End t a worker seen) = if t == test then Some (verdict_of rules seen) else None
attempt_by test rules (Settle t cause) = None
attempt_by test rules Stop = None

-- the verdicts of a test's attempts, in order
abbrev pub attempts_of : ℕ → Rules → List Entry → List Verdict
attempts_of test rules entries = filter_map (attempt_by test rules) entries
