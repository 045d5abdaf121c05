-- Which words of a request are texts.
use Rattle.std.proofs.Common.{rules}
use Rattle.std.specs.Prelude.{ℕ, Bool, true, false, List, codes, IsUtf8}
use Rattle.std.proofs.lemmas.Str.{IsUtf8-append}
use Rattle.ct_edge.specs.Process.{program_as}

dot_slash : IsUtf8 (codes "./")
dot_slash = search rules

-- a program as the system looks it up is a text if its name is a text
pub program_is_text : (beside : Bool) (program : List ℕ) → IsUtf8 program → IsUtf8 (program_as beside program)
program_is_text true program text = IsUtf8-append (codes "./") program dot_slash text
program_is_text false program text = text
