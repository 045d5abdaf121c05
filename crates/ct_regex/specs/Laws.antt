-- Definitions for the laws of patterns.
use Rattle.std.specs.Prelude.{◌≡◌, ℕ, ◌==◌, Bool, not, List, ◌++◌, Result, Ok, Err}
use Rattle.ct_regex.specs.Tree.{Tree}
use Rattle.ct_regex.specs.Ends.{hits}
use Rattle.ct_regex.specs.declared.fault.RegexFault.{RegexFault}
use Rattle.ct_regex.specs.declared.fault.RegexFault.TheVariants.{TooLarge}
use Rattle.std.specs.List.{list_all, list_any}
use Rattle.ct_regex.specs.Bytes.{special}

-- whether a byte stands for itself outside a set
abbrev pub stands_for_itself : ℕ → Bool
stands_for_itself byte = not (list_any (λ other. byte == other) special)

-- whether each of the bytes stands for itself
abbrev pub are_plain : List ℕ → Bool
are_plain bytes = list_all stands_for_itself bytes

-- the text contains the bytes, one directly behind the other
pub record HasPart (bytes text : List ℕ) : Type 0 where
  pub front : List ℕ
  pub back : List ℕ
  pub there : text ≡ front ++ (bytes ++ back)

-- the pattern was read and hits the text exactly if the tree does, or it was too large
abbrev pub HitsAlike : Tree → List ℕ → Result Tree RegexFault → Type 0
HitsAlike tree text (Ok other) = hits other text ≡ hits tree text
HitsAlike tree text (Err (TooLarge place)) = Unit {0}
HitsAlike tree text (Err why) = ⊥
