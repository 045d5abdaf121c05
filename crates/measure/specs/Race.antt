-- What the passes of a race stand for. This project's own.
use Rattle.std.specs.Prelude.{◌≡◌, ℕ, ◌+◌, false, [], length, None}
use Rattle.ct_turn.specs.Pass.{PassValue}
use Rattle.ct_turn.specs.Seen.{moment}
use Rattle.ct_turn.specs.Turn.{TurnValue}

-- the pass is of this turn and does not have it, and its worker has seen that nothing happened
pub record IsFresh (turn : TurnValue) (pass : PassValue) : Type 0 where
  pub belongs : pass.turn ≡ turn.id
  pub idle : pass.taken ≡ None
  pub seen : pass.known.seen ≡ moment [] false

-- the fresh pass of worker 0, which knows that so many passes were made and so many joined into it
pub record IsFirstPass (turn : TurnValue) (passes joins : ℕ) (pass : PassValue) : Type 0 where
  pub fresh : IsFresh turn pass
  pub opener : pass.known.worker ≡ 0
  pub made : pass.known.made ≡ passes
  pub joined : length pass.known.notes ≡ joins

-- the pass of worker 0 knows that `count` more passes were made
abbrev pub with_made : PassValue → ℕ → PassValue
with_made pass count = record pass { known = record pass.known { made = pass.known.made + count } }

-- `count` more passes were joined into the one of worker 0
pub record HasJoined (old : PassValue) (count : ℕ) (new : PassValue) : Type 0 where
  pub worker : new.known.worker ≡ old.known.worker
  pub made : new.known.made ≡ old.known.made
  pub notes : length new.known.notes ≡ length old.known.notes + count
