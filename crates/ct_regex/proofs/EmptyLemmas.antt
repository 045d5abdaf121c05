-- What the reader's rule says can be empty is what matches the empty text.
use Rattle.std.proofs.Common.{◌≡◌, ℕ, ◌&&◌, ◌||◌, Bool, true, false, not, List, [], ◌∷◌, ◌++◌, refl, sym, ap, ◌∙◌, subst}
use Rattle.std.proofs.lemmas.Bool.{and_parts, not-true}
use Rattle.std.specs.List.{flat_map}
use Rattle.ct_regex.specs.declared.tree.Quantifier.{Quantifier}
use Rattle.ct_regex.specs.declared.tree.Quantifier.TheVariants.{ZeroOrOne, ZeroOrMore, OneOrMore}
use Rattle.ct_regex.specs.Tree.{Tree, empty, never, start, end, one, sequence, choice, repeat}
use Rattle.ct_regex.specs.Ends.{ends, has_place, rounds}
use Rattle.ct_regex.specs.Reading.{can_be_empty, may_repeat}
use Rattle.ct_regex.specs.Sound.{is_sound}
use Rattle.ct_regex.specs.Grammar.{may_stand_behind}
use Rattle.ct_regex.proofs.HitLemmas.{has_place-append}

abbrev AreZero : List ℕ → Type 0
AreZero [] = Unit {0}
AreZero (place ∷ places) = (place ≡ 0) × AreZero places

zero_append : (xs ys : List ℕ) → AreZero xs → AreZero ys → AreZero (xs ++ ys)
zero_append [] ys a b = b
zero_append (x ∷ xs) ys a b = (a.0, zero_append xs ys a.1 b)

zero_flat : (f : ℕ → List ℕ) (xs : List ℕ) → AreZero xs → AreZero (f 0) → AreZero (flat_map f xs)
zero_flat f [] a b = tt
zero_flat f (x ∷ xs) a b =
    zero_append (f x) (flat_map f xs) (subst (λ (p : ℕ). AreZero (f p)) (sym a.0) b) (zero_flat f xs a.1 b)

has_flat : (f : ℕ → List ℕ) (xs : List ℕ) → AreZero xs → has_place (flat_map f xs) ≡ (has_place xs && has_place (f 0))
has_flat f [] a = refl
has_flat f (x ∷ xs) a =
    has_place-append (f x) (flat_map f xs)
    ∙ ap (λ p. has_place (f p) || has_place (flat_map f xs)) a.0
    ∙ ap (λ b. has_place (f 0) || b) (has_flat f xs a.1)
    ∙ by_bits (has_place (f 0)) (has_place xs)
  where
    by_bits : (a b : Bool) → (a || (b && a)) ≡ a
    by_bits true b = refl
    by_bits false true = refl
    by_bits false false = refl

-- how a tree matches the empty text: from 0 to 0, if the reader's rule says that it can be empty
pub record OnEmpty (tree : Tree) : Type 0 where
  pub zeros : AreZero (ends [] tree 0)
  pub has : has_place (ends [] tree 0) ≡ can_be_empty tree

pub on_empty : (tree : Tree) → is_sound tree ≡ true → OnEmpty tree
on_empty empty s = record { zeros = (refl, tt); has = refl }
on_empty never s = record { zeros = tt; has = refl }
on_empty start s = record { zeros = (refl, tt); has = refl }
on_empty end s = record { zeros = (refl, tt); has = refl }
on_empty (one test) s = record { zeros = tt; has = refl }
on_empty (sequence first others) s =
    let both = and_parts (is_sound first) (is_sound others) s in
    let a = on_empty first both.0 in
    let b = on_empty others both.1 in
    record {
      zeros = zero_flat (ends [] others) (ends [] first 0) a.zeros b.zeros;
      has = has_flat (ends [] others) (ends [] first 0) a.zeros ∙ ap (λ x. x && has_place (ends [] others 0)) a.has ∙ ap (λ x. can_be_empty first && x) b.has;
    }
on_empty (choice left right) s =
    let both = and_parts (is_sound left) (is_sound right) s in
    let a = on_empty left both.0 in
    let b = on_empty right both.1 in
    record {
      zeros = zero_append (ends [] left 0) (ends [] right 0) a.zeros b.zeros;
      has = has_place-append (ends [] left 0) (ends [] right 0) ∙ ap (λ x. x || has_place (ends [] right 0)) a.has ∙ ap (λ x. can_be_empty left || x) b.has;
    }
on_empty (repeat ZeroOrOne tree) s = let a = on_empty tree s in record { zeros = (refl, a.zeros); has = refl }
on_empty (repeat ZeroOrMore tree) s =
    let both = and_parts (not (can_be_empty tree)) (is_sound tree) s in
    let a = on_empty tree both.1 in
    record { zeros = (refl, zero_flat (rounds 0 (ends [] tree)) (ends [] tree 0) a.zeros (refl, tt)); has = refl }
on_empty (repeat OneOrMore tree) s =
    let both = and_parts (not (can_be_empty tree)) (is_sound tree) s in
    let a = on_empty tree both.1 in
    record {
      zeros = zero_flat (rounds 0 (ends [] tree)) (ends [] tree 0) a.zeros (refl, tt);
      has = has_flat (rounds 0 (ends [] tree)) (ends [] tree 0) a.zeros ∙ ap (λ x. x && true) (a.has ∙ not-true (can_be_empty tree) both.0);
    }

-- the rule of the reader is the rule of the grammar
pub may_as : (quantifier : Quantifier) (tree : Tree) → is_sound tree ≡ true → may_stand_behind quantifier tree ≡ may_repeat quantifier tree
may_as ZeroOrOne tree s = refl
may_as ZeroOrMore tree s = ap (λ b. not b) (on_empty tree s).has
may_as OneOrMore tree s = ap (λ b. not b) (on_empty tree s).has
