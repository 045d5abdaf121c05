use Rattle.std.proofs.Common.{◌≡◌, ◌++◌, drop, map, string_bytes}
use Rattle.ct_info.specs.Text.{shown_byte}
use Rattle.ct_info.proofs.text.ascii_of.Given as goal

abbrev pub invariant-loop-byte : goal.invariant-loop-byte
invariant-loop-byte l = string_bytes l.text ++ map shown_byte (drop l.byte-index l.bytes) ≡ map shown_byte l.bytes
