-- The attempts that make a history as long as it is. This project's own.
use Rattle.std.specs.Prelude.{◌≡◌, ◌≢◌, ℕ, ◌+◌, ◌<◌, List, [], ◌∷◌, reverse, filter, find, sum_by, nat_lt, Option, Some, None, option_and_then, ◌==◌, AllPairs}
use Rattle.ct_history.specs.declared.history.Entry.{Entry}
use Rattle.ct_history.specs.declared.history.Entry.TheVariants.{Start, End, Settle, Stop}
use Rattle.ct_times.specs.Times.{Timed, length_of, started, timed}

-- an attempt with the moment at which it starts and how long it took, in microseconds
pub record Link : Type 0 where
  pub test : ℕ
  pub attempt : ℕ
  pub start : ℕ
  pub micros : ℕ

-- the first entry at this moment. Moments never fall, so for a moment above 0 it is the one at which the
-- time rises to it
abbrev pub rise_of : ℕ → List Timed → Option Timed
rise_of moment entries = find (λ (x : Timed). x.moment == moment) entries

-- the entries that stand earlier than this moment, which are those in front of its rise
abbrev pub earlier : ℕ → List Timed → List Timed
earlier moment entries = filter (λ (x : Timed). nat_lt x.moment moment) entries

-- the attempt that the entry ends, where `front` stands in front of it
abbrev pub link_ended_by : List Timed → Entry → Option Link
link_ended_by front (Start t a w p) = None
link_ended_by front (End t a w seen) =
    Some (record { test = t; attempt = a; start = started t front; micros = seen.micros })
link_ended_by front (Settle t cause) = None
link_ended_by front Stop = None

-- the attempt whose End is the rise of this moment
abbrev pub ended_at : ℕ → List Timed → Option Link
ended_at moment entries =
    option_and_then (λ (x : Timed). link_ended_by (earlier moment entries) x.entry) (rise_of moment entries)

-- these attempts, the last one first, lead from a moment back to 0: the first one's End is the rise of the
-- moment, and the others lead from its Start back to 0
abbrev pub LeadBack : List Timed → ℕ → List Link → Type 0
LeadBack entries moment [] = moment ≡ 0
LeadBack entries moment (l ∷ ls) =
    (0 < moment) × (ended_at moment entries ≡ Some l) × LeadBack entries l.start ls

-- the chain of a history: its attempts in order lead from 0 to the length
abbrev pub IsChain : List Entry → List Link → Type 0
IsChain entries chain = LeadBack (timed entries) (length_of entries) (reverse chain)

-- these attempts follow one another from one moment to another: each takes some time, and starts where
-- the one in front of it ends
abbrev pub Follow : ℕ → List Link → ℕ → Type 0
Follow from [] to = from ≡ to
Follow from (l ∷ ls) to = (l.start ≡ from) × (0 < l.micros) × Follow (from + l.micros) ls to

-- a history has one chain, and no other. Its attempts differ, each starts where the one in front of it
-- ends, and their micros add up to the length
pub record HasOneChain (entries : List Entry) : Type 0 where
  pub chain : List Link
  pub is : IsChain entries chain
  pub only : (other : List Link) → IsChain entries other → other ≡ chain
  pub differ : AllPairs (λ (one other : Link). one ≢ other) chain
  pub follow : Follow 0 chain (length_of entries)
  pub sum : sum_by (λ (l : Link). l.micros) chain ≡ length_of entries
