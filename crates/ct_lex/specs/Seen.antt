-- Units that were read, as parts of an argument.
use Rattle.std.specs.Prelude.{ℕ, [], ◌∷◌, Result, Ok, codes}
use Rattle.ct_lex.specs.Stop.{◌>>=◌}
use Rattle.ct_lex.specs.declared.unit.Unit.{Unit}
use Rattle.ct_lex.specs.declared.unit.Unit.TheVariants as unit
use Rattle.ct_lex.specs.declared.call.Part.{Part}
use Rattle.ct_lex.specs.declared.call.Part.TheVariants.{Bytes, Ref}
use Rattle.ct_lex.specs.declared.stop.Stop.{Stop}

-- the part that a unit stands for
abbrev pub piece_of : Unit → Part
piece_of (unit.Byte byte) = Bytes (byte ∷ [])
piece_of unit.Semicolon = Bytes (codes "\\;")
piece_of unit.Nothing = Bytes []
piece_of (unit.Ref name) = Ref name.now

-- a unit that was read, as the part that it stands for, with how many bytes it takes
abbrev pub seen : Result (Unit × ℕ) Stop → Result (Part × ℕ) Stop
seen read = read >>= λ x. Ok (piece_of x.0, x.1)
