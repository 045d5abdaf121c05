-- The place of a line of a world whose lines are in the order of test and attempt.
use Rattle.std.proofs.Common.{arith, ◌≡◌, ◌∙◌, ap, subst, sym, ℕ, ◌<◌, ◌≤◌, ◌-◌, List, length, get_or, eqb-true, false, true}
use Rattle.std.specs.Prelude.{◌==◌, ◌&&◌}
use Rattle.std.specs.Cmp.{IsStrictWeakOrder}
use Rattle.std.specs.List.{AllWithin}
use Rattle.std.proofs.lemmas.Bool.{and_parts}
use Rattle.std.proofs.lemmas.Bool.Decides.{nat_tests}
use Rattle.std.proofs.lemmas.List.{get_or_read}
use Rattle.std.proofs.lemmas.List.Sorted.{sorted_far}
use Rattle.ct_core.specs.declared.gate.Told.{Told}
use Rattle.ct_core.specs.ScriptValue.{AreInOrder, IsPlaceInScript, is_before}

-- of two lines at most one is before the other, and a line that is
-- not before one that is not before a third is not before the third
is_before-order : IsStrictWeakOrder (λ (t u : Told). is_before t u.test u.attempt)
is_before-order = record {
  one_way = λ t u less. grind (arith, nat_tests);
  chain = λ t u v first second. grind (arith, nat_tests);
}

-- if a line is before an attempt, so is each line that it is not before
before_too : (t u : Told) (test attempt : ℕ) → is_before u t.test t.attempt ≡ false →
    is_before u test attempt ≡ true → is_before t test attempt ≡ true
before_too t u test attempt rises before = grind (arith, nat_tests)

-- a line that is before an attempt is not of that attempt
pub before_other : (t : Told) (test attempt : ℕ) → is_before t test attempt ≡ true →
    (t.test == test && t.attempt == attempt) ≡ false
before_other t test attempt before = grind (arith, nat_tests)

-- if a line is neither before an attempt nor of it, no line that is not before that line is of it
pub behind_other : (t u : Told) (test attempt : ℕ) → is_before u t.test t.attempt ≡ false →
    is_before t test attempt ≡ false → (t.test == test && t.attempt == attempt) ≡ false →
    (u.test == test && u.attempt == attempt) ≡ false
behind_other t u test attempt rises behind other = grind (arith, nat_tests)

module _ (told : List Told) (ordered : AreInOrder told) where
  -- no line is before any line in front of it
  pub rises_far : (i j : ℕ) (d : Told) → i ≤ j → j < length told →
      is_before (get_or told j d) (get_or told i d).test (get_or told i d).attempt ≡ false
  rises_far = sorted_far (λ (t u : Told). is_before t u.test u.attempt) is_before-order told ordered

  -- the lines in front of a line that is before an attempt are before it
  pub before_in_front : (test attempt i j : ℕ) (d : Told) → i ≤ j → j < length told →
      is_before (get_or told j d) test attempt ≡ true → is_before (get_or told i d) test attempt ≡ true
  before_in_front test attempt i j d low high before = before_too (get_or told i d) (get_or told j d) test attempt (rises_far i j d low high) before

  module _ (test attempt at : ℕ) (line : Told) (within : at < length told) (is : line ≡ get_or told at line) (of : (line.test == test && line.attempt == attempt) ≡ true) where
    from_here : AllWithin (λ (t : Told). is_before t test attempt ≡ false) told at (length told)
    from_here k d low high =
        let reads : line ≡ get_or told at d = get_or_read told at line within is d in
        let both = and_parts (line.test == test) (line.attempt == attempt) of in
        let tests : (get_or told at d).test ≡ test = sym (ap (λ (t : Told). t.test) reads) ∙ eqb-true line.test test both.0 in
        let attempts : (get_or told at d).attempt ≡ attempt = sym (ap (λ (t : Told). t.attempt) reads) ∙ eqb-true line.attempt attempt both.1 in
        let other = get_or told k d in
        subst (λ (n : ℕ). is_before other n attempt ≡ false) tests
        (subst (λ (n : ℕ). is_before other (get_or told at d).test n ≡ false) attempts (rises_far at k d low high))

    -- a line of the attempt stands at its place, if no line is in front of it
    pub place_first : at ≡ 0 → IsPlaceInScript test attempt told at
    place_first first = ((λ k d low high. absurd (omega (arith, high, first))), from_here)

    -- so it does, if the line in front of it is before the attempt
    pub place_behind : (front : Told) → 0 < at → front ≡ get_or told (at - 1) front → is_before front test attempt ≡ true → IsPlaceInScript test attempt told at
    place_behind front some is_front lower = (before, from_here)
      where
        before : AllWithin (λ (t : Told). is_before t test attempt ≡ true) told 0 at
        before k d low high =
            let reads : front ≡ get_or told (at - 1) d = get_or_read told (at - 1) front (omega (arith, some, within)) is_front d in
            let last : is_before (get_or told (at - 1) d) test attempt ≡ true = subst (λ (t : Told). is_before t test attempt ≡ true) reads lower in
            before_in_front test attempt k (at - 1) d (omega (arith, high)) (omega (arith, some, within)) last
