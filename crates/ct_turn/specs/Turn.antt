-- What a turn is to its callers. This project's own.
use Rattle.std.specs.Prelude.{ℕ}
use Rattle.atomic_table.specs.Seated.{TableId}

-- the id of a turn, and how many passes it may have
pub record TurnValue : Type 0 where
  pub id : TableId
  pub seats : ℕ
