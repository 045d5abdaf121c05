-- The parts that a reader of units has so far.
use Rattle.std.specs.Prelude.{List, ◌++◌}
use Rattle.ct_lex.specs.Argument.{with_bytes}
use Rattle.ct_lex.specs.declared.call.Part.{Part}
use Rattle.ct_lex.specs.declared.parts.Parts.{Parts}

-- all parts of an argument: the parts read so far, followed by the parts still to be read
abbrev pub joined_parts : Parts → List Part → List Part
joined_parts parts more = parts.whole ++ with_bytes parts.bytes.items more
