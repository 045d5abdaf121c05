-- The value of a gate that follows a script, as its callers see it. This project's own.
use Rattle.std.specs.Prelude.{◌≡◌, ℕ, ◌+◌, ◌-◌, ◌^◌, min, nat_lt, ◌==◌, Bool, true, false, ◌&&◌, ◌||◌, List, Some, None, [], ◌∷◌, ◌++◌, if◌then◌else◌}
use Rattle.std.specs.List.Sorted.{IsPartitionPoint, IsSortedBy}
use Rattle.ct_verdict.specs.declared.attempt.How.{How}
use Rattle.ct_turn.specs.Pass.{PassValue}
use Rattle.ct_core.specs.declared.gate.Asked.{Asked}
use Rattle.ct_core.specs.declared.gate.Request.{Request}
use Rattle.ct_core.specs.declared.gate.Told.{Told}
use Rattle.ct_core.specs.Gate.{GateTell, asked_for, is_not_started}

-- the gate's world, the attempts and the requests that it was given so far,
-- the pass that it was lent for each, and how many attempts were not started
pub record ScriptValue : Type 0 where
  pub world : List Told
  pub asked : List Asked
  pub sent : List Request
  pub lent : List PassValue
  pub faults : ℕ

-- what a gate that follows a script tells: its world, its attempts, its requests, the passes
-- that it was lent, and its count of faults; it does not tell which gate it is
abbrev pub told_of_script : ScriptValue → GateTell
told_of_script gate = record {
  who = None;
  world = Some gate.world;
  asked = Some gate.asked;
  sent = Some gate.sent;
  lent = Some gate.lent;
  faults = gate.faults;
}

-- the request was recorded and the pass that was lent for it, and nothing else changed
abbrev pub Records : ScriptValue → PassValue → Request → ScriptValue → Type 0
Records old pass request new =
    new
    ≡ record old {
      asked = old.asked ++ asked_for request.test request.attempt ∷ [];
      sent = old.sent ++ request ∷ [];
      lent = old.lent ++ pass ∷ [];
    }

-- the count of faults rose by one if the attempt was not started, up to 2^64 - 1; nothing else changed
abbrev pub CountsStart : ScriptValue → How → ScriptValue → Type 0
CountsStart old how new =
    new
    ≡ record old { faults = (if is_not_started how then min (old.faults + 1) (2 ^ 64 - 1) else old.faults) }

-- a line is before an attempt: its test is lower, or its test is the same and its attempt is lower
abbrev pub is_before : Told → ℕ → ℕ → Bool
is_before line test attempt = nat_lt line.test test || (line.test == test && nat_lt line.attempt attempt)

-- the lines of the world are in the order of test and attempt: no line is before the one in front of it
abbrev pub AreInOrder : List Told → Type 0
AreInOrder world = IsSortedBy (λ (t u : Told). is_before t u.test u.attempt) world

-- each line in front of the place is before the attempt, and no line from the place on is
abbrev pub IsPlaceInScript : ℕ → ℕ → List Told → ℕ → Type 0
IsPlaceInScript test attempt world place =
    IsPartitionPoint
    (λ (t : Told). is_before t test attempt ≡ true)
    (λ (t : Told). is_before t test attempt ≡ false)
    world
    place
