-- Where the attempts of a chain stand among the entries of a history. This project's own.
use Rattle.std.specs.Prelude.{◌≡◌, ℕ, ◌+◌, ◌<◌, Bool, true, false, List, length, position, slice_get, Some, ◌==◌}
use Rattle.std.specs.List.{AllWithin, HoldsAt}
use Rattle.ct_history.specs.declared.plan.PlanParts.{PlanParts}
use Rattle.ct_history.specs.declared.history.Entry.{Entry}
use Rattle.ct_history.specs.declared.history.Entry.TheVariants.{Start, End, Settle, Stop}
use Rattle.ct_history.specs.Legal.{is_legal}
use Rattle.ct_times.specs.declared.chain.Link.{Link as PlacedLink}
use Rattle.ct_times.specs.Times.{least_times}
use Rattle.ct_times.specs.Chain.{Link}

-- the history is legal for some plan
abbrev pub IsLegalForSome : List Entry → Type 0
IsLegalForSome entries = (plan : PlanParts) × (is_legal plan entries ≡ true)

-- the attempt of a link, without its places
abbrev pub as_link : PlacedLink → Link
as_link l = record { test = l.test; attempt = l.attempt; start = l.start; micros = l.micros }

-- the entry starts an attempt of the test
abbrev pub is_start_of_test : ℕ → Entry → Bool
is_start_of_test test (Start t a w p) = t == test
is_start_of_test test (End t a w seen) = false
is_start_of_test test (Settle t cause) = false
is_start_of_test test Stop = false

-- the entry starts this attempt of the test
abbrev pub StartsAttempt : ℕ → ℕ → Entry → Type 0
StartsAttempt test attempt (Start t a w p) = (t ≡ test) × (a ≡ attempt)
StartsAttempt test attempt (End t a w seen) = ⊥
StartsAttempt test attempt (Settle t cause) = ⊥
StartsAttempt test attempt Stop = ⊥

-- the entry ends this attempt of the test, which took these microseconds
abbrev pub EndsAttempt : ℕ → ℕ → ℕ → Entry → Type 0
EndsAttempt test attempt micros (Start t a w p) = ⊥
EndsAttempt test attempt micros (End t a w seen) = (t ≡ test) × (a ≡ attempt) × (seen.micros ≡ micros)
EndsAttempt test attempt micros (Settle t cause) = ⊥
EndsAttempt test attempt micros Stop = ⊥

-- this place is that of the last Start of the test in front of an End's place
pub record IsLastStart (entries : List Entry) (test : ℕ) (begin end : ℕ) : Type 0 where
  pub before : begin < end
  pub starts : HoldsAt (λ e. is_start_of_test test e ≡ true) entries begin
  pub last : AllWithin (λ e. is_start_of_test test e ≡ false) entries (begin + 1) end

-- a link stands at its places: at `end` the End of its attempt, which is the first entry at the moment at
-- which it is over, and at `begin`, at the moment `start`, its Start, the last one of its test in front
-- of that
pub record IsPlaced (entries : List Entry) (l : PlacedLink) : Type 0 where
  pub inside : l.end < length entries
  pub ends : HoldsAt (EndsAttempt l.test l.attempt l.micros) entries l.end
  pub first : position (λ moment. moment == l.start + l.micros) (least_times entries) ≡ Some l.end
  pub begins : HoldsAt (StartsAttempt l.test l.attempt) entries l.begin
  pub last : IsLastStart entries l.test l.begin l.end
  pub moment : slice_get (least_times entries) l.begin ≡ Some l.start

-- one link ends in front of the Start of another one
abbrev pub EndsBefore : PlacedLink → PlacedLink → Type 0
EndsBefore one other = one.end < other.begin
