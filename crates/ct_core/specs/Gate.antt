-- What a gate was asked, what it tells, and how it answers. This project's own.
use Rattle.std.specs.Prelude.{◌≡◌, ℕ, ◌≤◌, pos, Bool, true, false, ◌&&◌, List, [], ◌∷◌, ◌++◌, find, Option, unwrap_or, IfSome, ◌==◌, if◌then◌else◌}
use Rattle.ct_base.specs.Outside.{Adds, Becomes, Rose}
use Rattle.ct_verdict.specs.declared.attempt.How.{How}
use Rattle.ct_verdict.specs.declared.attempt.How.TheVariants.{Exited, Signalled, TimedOut, NotStarted, Lacks, NoMemory}
use Rattle.ct_turn.specs.Pass.{PassValue}
use Rattle.ct_core.specs.declared.gate.Asked.{Asked}
use Rattle.ct_core.specs.declared.gate.Ended.{Ended}
use Rattle.ct_core.specs.declared.gate.Request.{Request}
use Rattle.ct_core.specs.declared.gate.Told.{Told}

-- the attempt ended for want of memory
abbrev pub is_no_memory : How → Bool
is_no_memory (Exited code) = false
is_no_memory Signalled = false
is_no_memory TimedOut = false
is_no_memory NotStarted = false
is_no_memory (Lacks place) = false
is_no_memory NoMemory = true

-- the attempt could not be started
abbrev pub is_not_started : How → Bool
is_not_started (Exited code) = false
is_not_started Signalled = false
is_not_started TimedOut = false
is_not_started NotStarted = true
is_not_started (Lacks place) = false
is_not_started NoMemory = false

-- the line for an attempt that the world does not name: nothing is heard, and it exits with 0 at once
abbrev pub untold : ℕ → ℕ → Told
untold test attempt = record {
  test = test;
  attempt = attempt;
  heard = [];
  ended = record { how = Exited (pos 0); micros = 0 };
}

-- what a world tells of an attempt: its first line of that test and attempt, else `untold`
abbrev pub told : List Told → ℕ → ℕ → Told
told world test attempt =
    unwrap_or (find (λ (t : Told). t.test == test && t.attempt == attempt) world) (untold test attempt)

-- what a gate tells: which gate it is, by a number; what each attempt comes to; the attempts and
-- requests that were run so far, and the pass that was lent for each, with all that it had seen.
-- Each of the five is told if it is known. Then how many starts and waits failed.
pub record GateTell : Type 0 where
  pub who : Option ℕ
  pub world : Option (List Told)
  pub asked : Option (List Asked)
  pub sent : Option (List Request)
  pub lent : Option (List PassValue)
  pub faults : ℕ

-- what a gate records of a call that ended like this: the item, or nothing if memory was wanting
abbrev pub recorded : {A : Type 0} → How → A → List A
recorded how item = if is_no_memory how then [] else item ∷ []

-- the record of a call: the test and the attempt that the gate was asked to run
abbrev pub asked_for : ℕ → ℕ → Asked
asked_for test attempt = record { test = test; attempt = attempt }

-- the answer is the one that the world tells, unless memory was wanting or the world is not known
abbrev pub IsTold : Option (List Told) → ℕ → ℕ → Ended → Type 0
IsTold world test attempt ended =
    is_no_memory ended.how ≡ false → IfSome world (λ w. ended ≡ (told w test attempt).ended)

-- the ear heard what the world tells, behind what it had heard
-- before, unless memory was wanting or the world is not known
abbrev pub HearsTold : Option (List Told) → ℕ → ℕ → How → (List ℕ → Type 0) → (List ℕ → Type 0) → Type 0
HearsTold world test attempt how before now =
    is_no_memory how ≡ false
    → IfSome world (λ w. (text : List ℕ) → before text → now (text ++ (told w test attempt).heard))

-- the count of faults rose if the attempt was not started, and else stays; it never falls
pub record HasStartCause (before now : ℕ) (how : How) : Type 0 where
  pub later : before ≤ now
  pub failed : is_not_started how ≡ true → Rose before now
  pub unfailed : is_not_started how ≡ false → now ≡ before

-- a request was run while this pass was lent. Unless memory was wanting, the answer and what the ear heard
-- are as the world tells, and the call is recorded. It is the same gate, and its world stays. The count of
-- faults follows the answer.
pub record RunsRequest
    (pass : PassValue) (request : Request) (before now : GateTell) (heard_before heard_now : List ℕ → Type 0)
    (ended : Ended) : Type 0 where
  pub told : IsTold before.world request.test request.attempt ended
  pub heard : HearsTold before.world request.test request.attempt ended.how heard_before heard_now
  pub asked :
      Becomes before.asked now.asked (Adds (recorded ended.how (asked_for request.test request.attempt)))
  pub sent : Becomes before.sent now.sent (Adds (recorded ended.how request))
  pub lent : Becomes before.lent now.lent (Adds (recorded ended.how pass))
  pub who : now.who ≡ before.who
  pub world : now.world ≡ before.world
  pub cause : HasStartCause before.faults now.faults ended.how
