-- Patterns that were read in front of those that are still to be read.
use Rattle.std.proofs.Common.{◌≡◌, List, [], ◌∷◌, ◌++◌, refl, sym, ap, Ok, Err}
use Rattle.std.specs.Prelude.{Result}
use Rattle.std.proofs.lemmas.List.{append_assoc}
use Rattle.ct_regex.specs.Tree.{Tree}
use Rattle.ct_regex.specs.Reading.{and_then}
use Rattle.ct_regex.specs.declared.fault.RegexFault.{RegexFault}

-- patterns in front of those that are read
abbrev pub behind : List Tree → Result (List Tree) RegexFault → Result (List Tree) RegexFault
behind trees (Ok others) = Ok (trees ++ others)
behind trees (Err why) = Err why

-- one more pattern is read
pub behind-one : (trees : List Tree) (tree : Tree) (read : Result (List Tree) RegexFault) → behind trees (and_then read (λ others. Ok (tree ∷ others))) ≡ behind (trees ++ tree ∷ []) read
behind-one trees tree (Ok others) = ap (λ all. Ok all) (sym (append_assoc trees (tree ∷ []) others))
behind-one trees tree (Err why) = refl
