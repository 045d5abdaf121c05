-- Labels that are gathered in two pieces are gathered at once.
use Rattle.std.proofs.Common.{ℕ, ◌≡◌, List, [], ◌++◌, fold, sym}
use Rattle.std.proofs.lemmas.List.Sums.{fold-append}
use Rattle.ct_base.specs.Names.{each_once, with_new_name}

-- names that are gathered in two pieces, from no label, are those of both, each once
pub both_once : (one two : List (List ℕ)) → fold with_new_name (fold with_new_name [] one) two ≡ each_once (one ++ two)
both_once one two = sym (fold-append with_new_name [] one two)
