-- What is written by the grammar repeats only what cannot be empty.
use Rattle.std.proofs.Common.{◌≡◌, true, ℕ, List, [], ◌∷◌, ◌++◌, refl, sym, ◌∙◌}
use Rattle.std.proofs.lemmas.Bool.{and_from, and_parts}
use Rattle.ct_regex.specs.declared.tree.Quantifier.{Quantifier}
use Rattle.ct_regex.specs.declared.tree.Quantifier.TheVariants.{ZeroOrOne, ZeroOrMore, OneOrMore}
use Rattle.ct_regex.specs.Tree.{Tree, repeat, sequence_of, branch_of}
use Rattle.ct_regex.specs.Reading.{may_repeat}
use Rattle.ct_regex.specs.Sound.{is_sound}
use Rattle.ct_regex.specs.Grammar as grammar
use Rattle.ct_regex.specs.Grammar.{IsOne, IsPattern, IsBranches, IsBranch, IsPart, IsAtom}
use Rattle.ct_regex.proofs.EmptyLemmas.{may_as}

choice_sound : (trees : List Tree) (tree : Tree) → is_sound (branch_of trees) ≡ true → is_sound tree ≡ true → is_sound (branch_of (trees ++ tree ∷ [])) ≡ true
choice_sound [] tree h k = and_from (is_sound tree) true k refl
choice_sound (first ∷ trees) tree h k =
    let both = and_parts (is_sound first) (is_sound (branch_of trees)) h in
    and_from (is_sound first) (is_sound (branch_of (trees ++ tree ∷ []))) both.0 (choice_sound trees tree both.1 k)

sequence_sound : (trees : List Tree) (tree : Tree) → is_sound (sequence_of trees) ≡ true → is_sound tree ≡ true → is_sound (sequence_of (trees ++ tree ∷ [])) ≡ true
sequence_sound [] tree h k = and_from (is_sound tree) true k refl
sequence_sound (first ∷ trees) tree h k =
    let both = and_parts (is_sound first) (is_sound (sequence_of trees)) h in
    and_from (is_sound first) (is_sound (sequence_of (trees ++ tree ∷ []))) both.0 (sequence_sound trees tree both.1 k)

one_sound : {text : List ℕ} {tree : Tree} → IsOne text tree → is_sound tree ≡ true
one_sound grammar.at_start = refl
one_sound grammar.at_end = refl
one_sound grammar.any_byte = refl
one_sound (grammar.plain byte h) = refl
one_sound (grammar.escaped byte) = refl
one_sound (grammar.of_set h i) = refl
one_sound (grammar.of_negated i) = refl

repeat_sound : (quantifier : Quantifier) (tree : Tree) → may_repeat quantifier tree ≡ true → is_sound tree ≡ true → is_sound (repeat quantifier tree) ≡ true
repeat_sound ZeroOrOne tree h k = k
repeat_sound ZeroOrMore tree h k = and_from _ _ h k
repeat_sound OneOrMore tree h k = and_from _ _ h k

mutual
  pub pattern_sound : {text : List ℕ} {tree : Tree} → IsPattern text tree → is_sound tree ≡ true
  pattern_sound (grammar.pattern {trees = trees} {parts = parts} bs b) = choice_sound trees (sequence_of parts) (branches_sound bs) (branch_sound b)

  branches_sound : {text : List ℕ} {trees : List Tree} → IsBranches text trees → is_sound (branch_of trees) ≡ true
  branches_sound grammar.no_branch = refl
  branches_sound (grammar.and_branch {trees = trees} {parts = parts} bs b) = choice_sound trees (sequence_of parts) (branches_sound bs) (branch_sound b)

  branch_sound : {text : List ℕ} {trees : List Tree} → IsBranch text trees → is_sound (sequence_of trees) ≡ true
  branch_sound grammar.no_part = refl
  branch_sound (grammar.and_part {trees = trees} {tree = tree} b p) = sequence_sound trees tree (branch_sound b) (part_sound p)

  part_sound : {text : List ℕ} {tree : Tree} → IsPart text tree → is_sound tree ≡ true
  part_sound (grammar.bare a) = atom_sound a
  part_sound (grammar.often {tree = tree} quantifier a may) =
      let sound : is_sound tree ≡ true = atom_sound a in
      repeat_sound quantifier tree (sym (may_as quantifier tree sound) ∙ may) sound

  pub atom_sound : {text : List ℕ} {tree : Tree} → IsAtom text tree → is_sound tree ≡ true
  atom_sound (grammar.alone o) = one_sound o
  atom_sound (grammar.group p) = pattern_sound p
