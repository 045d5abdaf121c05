-- What a pass is to its callers. This project's own.
use Rattle.std.specs.Prelude.{◌≡◌, true, List, [], ◌∷◌, Option, None, is_some}
use Rattle.atomic_table.specs.Seated.{TableId}
use Rattle.ct_turn.specs.declared.view.Moment.{Moment}
use Rattle.ct_turn.specs.declared.view.Known.{Known}
use Rattle.ct_turn.specs.declared.view.View.{View}
use Rattle.ct_turn.specs.Seen.{nobody}

-- a pass: its turn, what it knows, and the moment at which it took the turn, if it has the turn
pub record PassValue : Type 0 where
  pub turn : TableId
  pub known : Known
  pub taken : Option Moment

-- a seat that holds no slot: where it has the turn, the slot is lent
abbrev pub away : Known → Option Moment → View
away known taken = record { known = known; taken = taken; is_lent = is_some taken }

-- what the seat in a place knows; an empty place knows what `nobody` does
abbrev pub known_in : List View → Known
known_in [] = nobody
known_in (v ∷ vs) = v.known

-- when the seat in a place took the turn; an empty place has no turn
abbrev pub taken_in : List View → Option Moment
taken_in [] = None
taken_in (v ∷ vs) = v.taken

-- the place has one seat, which is out with its worker and holds no slot
pub record IsAway (views : List View) : Type 0 where
  pub is : views ≡ away (known_in views) (taken_in views) ∷ []
  pub out : (known_in views).is_out ≡ true

-- a pass that has no turn
abbrev pub idle_pass : TableId → Known → PassValue
idle_pass turn known = record { turn = turn; known = known; taken = None }
