-- Tests that are added to those that are in, and the list of all that are in.
use Rattle.std.proofs.Common.{◌≡◌, ℕ, ◌+◌, ◌-◌, ◌<◌, ◌≤◌, Bool, true, false, cond, not, eqb, ◌||◌, List, [], ◌∷◌, ◌++◌, length, get_or, take, filter, count_by, inl, inr, sym, ap, ◌∙◌, subst, arith, append-nil, length-append}
use Rattle.std.specs.List.{range_with_len}
use Rattle.std.proofs.Math.Bool.{or-false, or_assoc}
use Rattle.std.proofs.lemmas.Bool.{cases_Bool}
use Rattle.std.proofs.lemmas.List.{map-id}
use Rattle.std.proofs.lemmas.List.Folds.{list_any-append, list_any_more}
use Rattle.std.proofs.lemmas.List.FromFn.{filter_of_map_range_with_len_more}
use Rattle.ct_base.specs.Numbers.{is_in}
use Rattle.ct_fixture.specs.declared.members.Members.{Members}
use Rattle.ct_fixture.specs.Kept.{AddsTests, Extends, is_drawn_in, open_count}

-- which tests wait, with one more test
pub waits_more : (waiting : List ℕ) (number : ℕ) (test : ℕ) → is_in (waiting ++ number ∷ []) test ≡ (is_in waiting test || (eqb number test || false))
waits_more waiting number test = list_any-append (λ n. eqb n test) waiting (number ∷ [])

-- two additions in a row are one
pub extends_on : (first second third : Members) → Extends first second → Extends second third → Extends first third
extends_on first second third one two = record {
  long = two.long ∙ one.long;
  kept = λ number was. two.kept number (one.kept number was);
  waits = λ number in_now was. elim (cases_Bool (is_drawn_in second number)) [
    | inl between ↦ two.waits_still number (one.waits number between was)
    | inr between ↦ two.waits number in_now between
  ];
  waits_still = λ number was. two.waits_still number (one.waits_still number was);
  waits_in = λ all_in number waits. two.waits_in (λ n w. one.waits_in all_in n w) number waits;
  count = two.count ∙ one.count;
}

-- where a test that waited is taken, and tests are added, fewer marks are open and fewer tests wait
pub fewer_open : (before taken now : Members) (number : ℕ) → taken.marks ≡ before.marks → before.waiting.items ≡ taken.waiting.items ++ number ∷ [] → Extends taken now → open_count now < open_count before
fewer_open before taken now number marks waits more =
    let unmarked : count_by not taken.marks.items ≡ count_by not before.marks.items = ap (λ ms. count_by not ms.items) marks in
    let waiting : length before.waiting.items ≡ length taken.waiting.items + 1 = ap length waits ∙ length-append taken.waiting.items (number ∷ []) in
    omega (arith, more.count, unmarked, waiting)

-- tests of a list are added, with one more test
pub adds_more : (tests : List ℕ) (at : ℕ) (first second third : Members) → at < length tests → AddsTests (take at tests) first second → AddsTests (get_or tests at 0 ∷ []) second third → AddsTests (take (at + 1) tests) first third
adds_more tests at first second third within one two = record {
  extends = extends_on first second third one.extends two.extends;
  is = λ number.
      two.is number
      ∙ ap (λ m. m || (eqb (get_or tests at 0) number || false)) (one.is number)
      ∙ or_assoc (is_drawn_in first number) (is_in (take at tests) number) (eqb (get_or tests at 0) number || false)
      ∙ ap (λ later. is_drawn_in first number || (is_in (take at tests) number || later)) (or-false (eqb (get_or tests at 0) number))
      ∙ ap (λ later. is_drawn_in first number || later) (sym (list_any_more (λ n. eqb n number) tests at 0 within));
}

-- the list of the tests that are in, with one number more
listed_more : (test : ℕ → Bool) (number : ℕ) → 1 ≤ number → filter test (range_with_len 1 (number + 1 - 1)) ≡ filter test (range_with_len 1 (number - 1)) ++ cond (test number) (number ∷ []) []
listed_more test number low =
    let front : number + 1 - 1 ≡ number - 1 + 1 = omega (arith, low) in
    let here : 1 + (number - 1) ≡ number = omega (arith, low) in
    ap (λ count. filter test (range_with_len 1 count)) front
    ∙ ap (filter test) (sym (map-id (range_with_len 1 (number - 1 + 1))))
    ∙ filter_of_map_range_with_len_more test (λ n. n) 1 (number - 1) number here
    ∙ ap (λ numbers. filter test numbers ++ cond (test number) (number ∷ []) []) (map-id (range_with_len 1 (number - 1)))

-- a test that is in is listed next
pub listed : (test : ℕ → Bool) (number : ℕ) (members : List ℕ) → 1 ≤ number → members ≡ filter test (range_with_len 1 (number - 1)) → test number ≡ true → members ++ number ∷ [] ≡ filter test (range_with_len 1 (number + 1 - 1))
listed test number members low is passes = ap (λ numbers. numbers ++ number ∷ []) is ∙ sym (listed_more test number low ∙ ap (λ b. filter test (range_with_len 1 (number - 1)) ++ cond b (number ∷ []) []) passes)

-- a test that is not in is passed over
pub passed_over : (test : ℕ → Bool) (number : ℕ) (members : List ℕ) → 1 ≤ number → members ≡ filter test (range_with_len 1 (number - 1)) → test number ≡ false → members ≡ filter test (range_with_len 1 (number + 1 - 1))
passed_over test number members low is fails = is ∙ sym (listed_more test number low ∙ ap (λ b. filter test (range_with_len 1 (number - 1)) ++ cond b (number ∷ []) []) fails ∙ append-nil (filter test (range_with_len 1 (number - 1))))

-- an addition of tests is one of equal tests
pub adds_same : (tests others : List ℕ) (before now : Members) → tests ≡ others → AddsTests tests before now → AddsTests others before now
adds_same tests others before now same added = subst (λ ts. AddsTests ts before now) same added
