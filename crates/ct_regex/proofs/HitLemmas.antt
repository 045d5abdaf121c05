-- A match exists where the set of all places leads anywhere.
use Rattle.std.proofs.Common.{◌≡◌, ◌≤◌, ◌⊎◌, ◌||◌, ℕ, zero, suc, true, false, List, [], ◌∷◌, inl, ⊎_elim, refl, subst, arith, ◌++◌}
use Rattle.std.proofs.lemmas.Bool.{or_cases, or_left, or_right}
use Rattle.ct_regex.specs.Tree.{Tree}
use Rattle.ct_regex.specs.Ends.{ends, has_place, hits_up_to}
use Rattle.ct_regex.proofs.AmongLemmas.{Among}

has_among : (places : List ℕ) (place : ℕ) → Among place places → has_place places ≡ true
has_among [] place a = absurd a
has_among (p ∷ ps) place a = refl

pub has_place-append : (xs ys : List ℕ) → has_place (xs ++ ys) ≡ (has_place xs || has_place ys)
has_place-append [] ys = refl
has_place-append (x ∷ xs) ys = refl

among_of : (places : List ℕ) → has_place places ≡ true → (place : ℕ) × Among place places
among_of [] h = absurd (let no : false ≡ true = h in cc)
among_of (p ∷ ps) h = (p, inl refl)

pub hits_from : (last : ℕ) (text : List ℕ) (tree : Tree) (origin place : ℕ) → origin ≤ last → Among place (ends text tree origin) → hits_up_to last text tree ≡ true
hits_from zero text tree origin place h a =
    let first : origin ≡ 0 = omega arith in
    has_among (ends text tree 0) place (subst (λ (v : ℕ). Among place (ends text tree v)) first a)
hits_from (suc last) text tree origin place h a =
    ⊎_elim (λ below. or_right (has_place (ends text tree (suc last))) (hits_up_to last text tree) (hits_from last text tree origin place below a))
    (λ here. or_left (has_place (ends text tree (suc last))) (hits_up_to last text tree)
    (has_among (ends text tree (suc last)) place (subst (λ (v : ℕ). Among place (ends text tree v)) here a)))
    (below_or origin last h)
  where
    below_or : (a b : ℕ) → a ≤ suc b → (a ≤ b) ⊎ (a ≡ suc b)
    below_or a b h = grind arith

pub hits_to : (last : ℕ) (text : List ℕ) (tree : Tree) → hits_up_to last text tree ≡ true →
    (origin : ℕ) × (origin ≤ last) × (place : ℕ) × Among place (ends text tree origin)
hits_to zero text tree h = let found = among_of (ends text tree 0) h in (0, omega arith, found.0, found.1)
hits_to (suc last) text tree h =
    ⊎_elim (λ here. let found = among_of (ends text tree (suc last)) here in (suc last, omega arith, found.0, found.1))
    (λ below. let found = hits_to last text tree below in (found.0, omega (arith, found.1), found.2, found.3))
    (or_cases (has_place (ends text tree (suc last))) (hits_up_to last text tree) h)
