-- The rule of the turn, and what each step shows. This project's own.
-- Word 0 is 0 while the turn is free. Word 1 is a count of rounds, of which the rule says nothing. Slot 0
-- has the state.
use Rattle.std.specs.Prelude.{◌≡◌, ◌≢◌, ℕ, ◌+◌, ◌<◌, ◌≤◌, ◌⊎◌, true, false, All, Contains, sum_by, if◌then◌else◌, List, [], ◌∷◌, map, length, slice_index, Option, Some, None}
use Rattle.std.specs.List.{list_any}
use mathlib.Core.Option.{some}
use lib.ListN.{get_elem?}
use Rattle.atomic_table.specs.Table.{State, Me, rest}
use Rattle.ct_history.specs.declared.board.Base.{Base}
use Rattle.ct_history.specs.declared.history.Entry.{Entry}
use Rattle.ct_history.specs.declared.plan.PlanParts.{PlanParts}
use Rattle.ct_history.specs.History.{Running, open_starts}
use Rattle.ct_history.specs.Legal.{is_legal}
use Rattle.ct_turn.specs.declared.view.Moment.{Moment}
use Rattle.ct_turn.specs.declared.view.Known.{Known}
use Rattle.ct_turn.specs.declared.view.View.{View}
use Rattle.ct_turn.specs.Seen.{HistoryGoesOn, IsKeptBy, IsTrueNote, Sight, Suits, has_seen, held_start, is_by, is_noted, nobody, opener, split_off}

-- what the worker knows at a seat
abbrev pub known_at : View → Known
known_at v = v.known

-- the seat of worker 0, which opens the turn
abbrev pub first_view : Sight → View
first_view state = record { known = opener state.plan state.base; taken = None; is_lent = false }

-- what each seat that is out knows has this property
abbrev pub EachOut : (Known → Type 0) → List Known → Type 0
EachOut P seats = (j : ℕ) (k : Known) → get_elem? seats j ≡ some k → k.is_out ≡ true → P k

-- what the seat in this place knows has this property, if the seat is out
abbrev pub EachOutAt : List Known → ℕ → (Known → Type 0) → Type 0
EachOutAt seats j P = (k : Known) → get_elem? seats j ≡ some k → k.is_out ≡ true → P k

-- what some seat that is out knows has this property
abbrev pub SomeOut : (Known → Type 0) → List Known → Type 0
SomeOut P seats = (j : ℕ) × (k : Known) × (get_elem? seats j ≡ some k) × (k.is_out ≡ true) × P k

-- a worker has no entry, or its seat is out, or it was noted
abbrev pub IsOwned : List Entry → List Known → ℕ → Type 0
IsOwned now seats w =
    (list_any (is_by w) now ≡ false)
    ⊎ (SomeOut (λ k. k.worker ≡ w) seats ⊎ SomeOut (λ k. is_noted w k.notes ≡ true) seats)

-- how many passes a seat stands for: where it is out, its own and those joined into it; else none
abbrev pub passes_at : Known → ℕ
passes_at k = if k.is_out then 1 + length k.notes else 0

-- what holds of the state, as it was when the turn was last free, and of what the workers know
pub record AllAgree (plan : PlanParts) (base : Base) (now : Moment) (seats : List Known) : Type 0 where
  pub same : EachOut (λ k. (k.plan ≡ plan) × (k.base ≡ base)) seats
  pub legal : is_legal plan now.entries ≡ true
  pub seen : EachOut (λ k. HistoryGoesOn k.worker k.seen.entries now.entries) seats
  pub halted : EachOut (λ k. k.seen.halted ≡ true → now.halted ≡ true) seats
  pub exact : SomeOut (λ k. k.seen.entries ≡ now.entries) seats
  pub apart : (i j : ℕ) → EachOutAt seats i (λ k. EachOutAt seats j (λ l. k.worker ≡ l.worker → i ≡ j))
  pub owned : (w : ℕ) → IsOwned now.entries seats w
  pub started : (r : Running) → Contains (open_starts now.entries) r
      → SomeOut (λ k. (k.worker ≡ r.worker) × (held_start k ≡ Some r)) seats
  pub noted : EachOut (λ k. All (IsTrueNote now.entries k.worker) k.notes) seats
  pub absent : EachOut (λ k. EachOut (λ l. is_noted l.worker k.notes ≡ false) seats) seats
  pub made : ℕ
  pub numbered : EachOut (λ k. (k.worker < made) × ((w : ℕ) → is_noted w k.notes ≡ true → w < made)) seats
  pub counted : EachOut (λ k. k.worker ≡ 0 → k.made ≡ made) seats
  pub plain : EachOut (λ k. k.worker ≢ 0 → k.notes ≡ []) seats
  pub whole : sum_by passes_at seats ≡ made

-- what a worker may rely on: its notes are kept by it. If it is worker 0, no worker whose pass was not made
-- yet has an entry in what it has seen.
pub record Assures (known : Known) : Type 0 where
  pub notes : All (IsKeptBy known.worker) known.notes
  pub unmade : known.worker ≡ 0 → (w : ℕ) → known.made ≤ w → list_any (is_by w) known.seen.entries ≡ false

-- the seat has taken the turn at this moment
abbrev pub with_turn : View → Moment → View
with_turn v now = record v { taken = Some now; is_lent = false }

-- the seat has given the turn back at this moment
abbrev pub without_turn : View → Moment → View
without_turn v now = record { known = has_seen v.known now; taken = None; is_lent = false }

module _ {T : Type 0} (see : T → Sight) where
  -- the rule: the turn is free and the state is at home, or exactly one seat has the turn. What the workers
  -- know is true of the state as it was when the turn was last free.
  pub record IsOrderly (opened : T) (s : State (Option T) View) : Type 0 where
    pub words : length s.words ≡ 2
    pub now : Moment
    pub idle : slice_index s.words 0 ≡ 0 → (j : ℕ) (v : View) → get_elem? s.views j ≡ some v → v.taken ≡ None
    pub busy : slice_index s.words 0 ≢ 0 → (j : ℕ) × (v : View) × (m : Moment)
        × (get_elem? s.views j ≡ some v) × (v.taken ≡ Some m)
    pub lone : (i j : ℕ) (v w : View) (m n : Moment) → get_elem? s.views i ≡ some v
        → get_elem? s.views j ≡ some w → v.taken ≡ Some m → w.taken ≡ Some n → i ≡ j
    pub held : (j : ℕ) (v : View) (m : Moment) → get_elem? s.views j ≡ some v → v.taken ≡ Some m
        → (m ≡ now) × (v.known.is_out ≡ true)
    pub empty : (j : ℕ) (v : View) (m : Moment) → get_elem? s.views j ≡ some v → v.taken ≡ Some m
        → v.is_lent ≡ true → get_elem? s.homes 0 ≡ some (some None)
    pub home : slice_index s.words 0 ≡ 0 → (x : T) × (get_elem? s.homes 0 ≡ some (some (Some x)))
        × (see x ≡ record { plan = (see opened).plan; base = (see opened).base; now = now })
    pub kept : AllAgree (see opened).plan (see opened).base now (map known_at s.views)

  -- the turn was taken: the seat has the slot with the state, which fits what its worker knows
  abbrev pub Taken : Me (Option T) View → Me (Option T) View → Type 0
  Taken m n = (x : T) × (n ≡ (with_turn m.0 (see x).now, (0, Some x) ∷ m.1)) × Suits m.0.known (see x)

  -- the turn was free and is taken, or it was held and the seat is as it was
  abbrev pub Tried : Me (Option T) View → ℕ → Me (Option T) View → Type 0
  Tried m found n = ((found ≡ 0) × Taken m n) ⊎ ((0 < found) × (n ≡ m))

  -- the turn was given back with the state in the slot, and the worker has seen it
  abbrev pub GivenBack : Me (Option T) View → Me (Option T) View → Type 0
  GivenBack m n = (x : T) × (m.1 ≡ (0, Some x) ∷ []) × (n ≡ (without_turn m.0 (see x).now, []))

module _ {T : Type 0} where
  -- the empty slot was put back
  abbrev pub Lent : Me (Option T) View → Me (Option T) View → Type 0
  Lent m n = n ≡ (record m.0 { is_lent = true }, rest m.1)

  -- the empty slot was taken
  abbrev pub Counted : Me (Option T) View → Me (Option T) View → Type 0
  Counted m n = n ≡ (record m.0 { is_lent = false }, (0, None) ∷ m.1)

  -- a look leaves the seat as it was, and shows what its worker may rely on
  abbrev pub Looked : Me (Option T) View → Me (Option T) View → Type 0
  Looked m n = (n ≡ m) × Assures m.0.known

-- the seat of a worker whose pass was joined away
abbrev pub spent_view : View
spent_view = record { known = nobody; taken = None; is_lent = false }

-- the seat of a new pass
abbrev pub new_view : View → View
new_view v = record { known = split_off v.known; taken = None; is_lent = false }
