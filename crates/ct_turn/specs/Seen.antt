-- What a seat of the turn has seen of the state, and how a state goes on from there. This project's own.
use Rattle.std.specs.Prelude.{◌≡◌, ◌≢◌, ℕ, ◌+◌, Bool, true, false, ◌||◌, List, [], ◌∷◌, ◌++◌, All, length, Option, None, ◌==◌, nat_lt, if◌then◌else◌}
use Rattle.std.specs.List.{list_all, list_any}
use Rattle.ct_verdict.specs.declared.repeat.Mode.TheVariants.{Once}
use Rattle.ct_history.specs.declared.board.Base.{Base}
use Rattle.ct_history.specs.declared.history.Entry.{Entry}
use Rattle.ct_history.specs.declared.history.Entry.TheVariants.{Start, End, Settle, Stop}
use Rattle.ct_history.specs.declared.plan.PlanParts.{PlanParts}
use Rattle.ct_history.specs.History.{Running, open_starts, open_start_of_worker}
use Rattle.ct_history.specs.Legal.{is_legal}
use Rattle.ct_turn.specs.declared.view.Moment.{Moment}
use Rattle.ct_turn.specs.declared.view.Known.{Known}
use Rattle.ct_turn.specs.declared.view.Note.{Note}

-- a history, with whether the run was given up
abbrev pub moment : List Entry → Bool → Moment
moment entries halted = record { entries = entries; halted = halted }

-- what the holder of the turn sees of a state
pub record Sight : Type 0 where
  pub plan : PlanParts
  pub base : Base
  pub now : Moment

-- the sight of a state, by its plan, its base, its history, and whether it is halted
abbrev pub sight : {T : Type 0} → (T → PlanParts) → (T → Base) → (T → List Entry) → (T → Bool) → T → Sight
sight plan base history halted x = record {
  plan = plan x;
  base = base x;
  now = moment (history x) (halted x);
}

-- what worker 0 knows when it opens the turn: nothing has happened, and one pass was made
abbrev pub opener : PlanParts → Base → Known
opener plan base = record {
  plan = plan;
  base = base;
  worker = 0;
  seen = moment [] false;
  is_out = true;
  made = 1;
  notes = [];
}

-- the plan without tests
abbrev pub no_plan : PlanParts
no_plan = record {
  dir = [];
  tests = [];
  queue = [];
  resources = None;
  level = 0;
  repeat = record { mode = Once; times = 1 };
  stop_on_failure = false;
}

-- what is known in a place from which the seat was taken away
abbrev pub nobody : Known
nobody = record (opener no_plan (record { written = None; pieces = None; faults = 0 })) { is_out = false }

-- what a worker knows once it has seen this moment
abbrev pub has_seen : Known → Moment → Known
has_seen known now = record known { seen = now }

-- what worker 0 knows once one more pass was made
abbrev pub one_more : Known → Known
one_more known = record known { made = known.made + 1 }

-- what the worker of a new pass knows: it has seen the same, and its number is the number of passes made
-- before
abbrev pub split_off : Known → Known
split_off known = record known { worker = known.made; made = 0; notes = [] }

-- the longer of two histories
abbrev pub longer : List Entry → List Entry → List Entry
longer one other = if nat_lt (length one) (length other) then other else one

-- the note of another worker: its number, what it has seen, and what the keeper of the note had seen
abbrev pub note_of : Known → Known → Note
note_of keeper other = record {
  worker = other.worker;
  seen = other.seen.entries;
  before = keeper.seen.entries;
}

-- what the keeper knows once another pass was joined away: the longer history, a halt that
-- either has seen, and one more note
abbrev pub with_joined : Known → Known → Known
with_joined keeper other =
    record keeper {
      seen = moment (longer keeper.seen.entries other.seen.entries) (keeper.seen.halted || other.seen.halted);
      notes = keeper.notes ++ note_of keeper other ∷ [];
    }

-- the worker's pass was joined away
abbrev pub is_noted : ℕ → List Note → Bool
is_noted worker notes = list_any (λ (n : Note). n.worker == worker) notes

-- the entry is a Start or an End of this worker
abbrev pub is_by : ℕ → Entry → Bool
is_by worker (Start t a w p) = w == worker
is_by worker (End t a w seen) = w == worker
is_by worker (Settle t cause) = false
is_by worker Stop = false

-- the entry is of this worker, or of none: a Settle or a Stop
abbrev pub is_own : ℕ → Entry → Bool
is_own worker (Start t a w p) = w == worker
is_own worker (End t a w seen) = w == worker
is_own worker (Settle t cause) = true
is_own worker Stop = true

-- the history goes on from what was seen of it, and behind that no Start and no End of the worker stands
pub record HistoryGoesOn (worker : ℕ) (seen now : List Entry) : Type 0 where
  pub more : List Entry
  pub is : now ≡ seen ++ more
  pub others : list_any (is_by worker) more ≡ false

-- the history adds entries, each of this worker or of none
pub record AddsOwn (worker : ℕ) (before now : List Entry) : Type 0 where
  pub more : List Entry
  pub is : now ≡ before ++ more
  pub own : list_all (is_own worker) more ≡ true

-- the start that a worker holds: its own open start in what it has seen
abbrev pub held_start : Known → Option Running
held_start known = open_start_of_worker known.worker known.seen.entries

-- the state fits what the worker knows: it has the plan and the base, and its history is legal. The history
-- goes on from what the worker has seen, with none of its own entries. The state is halted where the worker
-- has seen it halted. The worker's open start is the one that it holds.
pub record Suits (known : Known) (state : Sight) : Type 0 where
  pub plan : state.plan ≡ known.plan
  pub base : state.base ≡ known.base
  pub legal : is_legal known.plan state.now.entries ≡ true
  pub history : HistoryGoesOn known.worker known.seen.entries state.now.entries
  pub halted : known.seen.halted ≡ true → state.now.halted ≡ true
  pub start : open_start_of_worker known.worker state.now.entries ≡ held_start known

-- the state may come back: it has the plan and the base that the worker knows, and its history is
-- legal. The history adds only entries of the worker, or of none, to what was taken. The state is
-- halted where it was when it was taken.
pub record Continues (known : Known) (taken : Moment) (state : Sight) : Type 0 where
  pub plan : state.plan ≡ known.plan
  pub base : state.base ≡ known.base
  pub legal : is_legal known.plan state.now.entries ≡ true
  pub history : AddsOwn known.worker taken.entries state.now.entries
  pub halted : taken.halted ≡ true → state.now.halted ≡ true

-- the longer history of a note goes on from what its keeper had seen, with none of the keeper's entries, and
-- so the keeper holds the same start in both
pub record IsKeptBy (keeper : ℕ) (note : Note) : Type 0 where
  pub own : HistoryGoesOn keeper note.before (longer note.before note.seen)
  pub held :
      open_start_of_worker keeper (longer note.before note.seen) ≡ open_start_of_worker keeper note.before

-- what is noted of a worker is true: the history goes on from what the worker had seen, with none of its
-- entries. The worker held no start, and the note is kept by its keeper.
pub record IsTrueNote (now : List Entry) (keeper : ℕ) (note : Note) : Type 0 where
  pub history : HistoryGoesOn note.worker note.seen now
  pub idle : open_start_of_worker note.worker note.seen ≡ None
  pub kept : IsKeptBy keeper note

-- the state at the end is what the one worker that is left has seen. It has the plan and the base, its
-- history is legal, and it is halted where that worker has seen it halted. The history goes on from what was
-- noted of each other worker, with none of that worker's entries. No other worker without a note has an
-- entry, and nothing is open.
pub record Closes (known : Known) (state : Sight) : Type 0 where
  pub plan : state.plan ≡ known.plan
  pub base : state.base ≡ known.base
  pub legal : is_legal known.plan state.now.entries ≡ true
  pub history : state.now.entries ≡ known.seen.entries
  pub halted : known.seen.halted ≡ true → state.now.halted ≡ true
  pub notes : All (λ (n : Note). HistoryGoesOn n.worker n.seen state.now.entries) known.notes
  pub owners : (w : ℕ) → w ≢ known.worker → is_noted w known.notes ≡ false
      → list_any (is_by w) state.now.entries ≡ false
  pub idle : open_starts state.now.entries ≡ []
