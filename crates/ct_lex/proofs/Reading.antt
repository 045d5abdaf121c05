-- What each turn of the loop over units keeps: the parts read so far, in front of the parts still to be read.
use Rattle.std.proofs.Common.{ℕ, ◌+◌, List, Result, Ok}
use Rattle.ct_lex.specs.Stop.{◌>>=◌}
use Rattle.ct_lex.specs.Joined.{joined_parts}
use Rattle.ct_lex.specs.declared.call.Part.{Part}
use Rattle.ct_lex.specs.declared.parts.Parts.{Parts}
use Rattle.ct_lex.specs.declared.stop.Stop.{Stop}

-- the parts of a text: those read so far, in front of those that are read of the rest
abbrev pub parts_behind : Parts → ℕ → Result (List Part × ℕ) Stop → Result (List Part × ℕ) Stop
parts_behind parts at read = read >>= λ x. Ok (joined_parts parts x.0, x.1 + at)
