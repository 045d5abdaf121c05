-- The steps of a walk keep what holds of it, and a test that is met twice closes a cycle.
use Rattle.std.proofs.Common.{ℕ, ◌≡◌, ◌+◌, ◌*◌, ◌<◌, ◌≤◌, Bool, true, false, cond, List, [], ◌∷◌, ◌++◌, length, take, reverse, get_or, set, replicate, count_by, All, refl, sym, ap, ◌∙◌, subst, ⊎_elim, arith, add-zero, eqb, not}
use Rattle.std.proofs.lemmas.Bool.{true≢false, false≢true, both_ways, eqb-true, eqb-false, or_parts, or_from, or_left, or_right, or_cases, and_from, cases_eq, cases_lt, lt-ltb, ne_eqb, eq-eqb}
use Rattle.std.proofs.lemmas.List.{reverse-append, get_or-set_same, get_or-set_other, length-set, length-replicate, get_or-replicate, get_or_past}
use Rattle.std.proofs.lemmas.List.Folds.{sum_by-replicate, list_all_more}
use Rattle.std.proofs.lemmas.List.Sums.{sum_by-set}
use Rattle.std.proofs.lemmas.List.Elements.{All-get_or}
use Rattle.ct_base.specs.Numbers.{is_in}
use Rattle.ct_graph.specs.Cycle.{are_distinct, is_cycle, leads_round, leads_to}
use Rattle.ct_graph.specs.Walk.{row_of, AreWithin, mark_of, is_unseen, is_ranked, is_taken_below, are_taken, are_taken_below, is_on, is_before_last, IsStep, IsTrail, IsWalk, WalksOn, steps_left, back_to}
use Rattle.ct_graph.specs.declared.walk.Mark.{Mark}
use Rattle.ct_graph.specs.declared.walk.Mark.TheVariants.{Unseen, Open, Taken}
use Rattle.ct_graph.specs.declared.walk.Step.{Step}
use Rattle.ct_graph.proofs.TestLemmas.{list_all-weaker, is_in-get_or}

-- a test that is taken with a rank below another is taken
taken_from_below : (rank : ℕ) (mark : Mark) → is_taken_below rank mark ≡ true → is_ranked mark ≡ true
taken_from_below rank Unseen is = absurd (false≢true is)
taken_from_below rank Open is = absurd (false≢true is)
taken_from_below rank (Taken other) is = refl

-- a taken test is taken with a rank below one that is above all given ranks
below_from_taken : (most : ℕ) (mark : Mark) → ((rank : ℕ) → mark ≡ Taken rank → rank < most) → is_ranked mark ≡ true → is_taken_below most mark ≡ true
below_from_taken most Unseen below is = absurd (false≢true is)
below_from_taken most Open below is = absurd (false≢true is)
below_from_taken most (Taken rank) below is = lt-ltb rank most (below rank refl)

not_open : (mark : Mark) → mark ≡ Unseen → mark ≡ Open → ⊥
not_open mark unseen open_mark = true≢false (sym (ap is_unseen unseen) ∙ ap is_unseen open_mark)

same_rank : (rank other : ℕ) → Taken rank ≡ Taken other → rank ≡ other
same_rank rank other is = cc

-- one test that was not taken gets a mark
module _ (rows : List (List ℕ)) (marks : List Mark) (test : ℕ) (mark : Mark) (free : is_ranked (mark_of marks test) ≡ false) where
  pub kept_if_taken : (j : ℕ) → is_ranked (mark_of marks j) ≡ true → mark_of (set marks test mark) j ≡ mark_of marks j
  kept_if_taken j is =
      get_or-set_other marks test j mark Unseen (λ same. both_ways (is_ranked (mark_of marks j)) (ap (λ t. is_ranked (mark_of marks t)) same ∙ free) is)

  taken_stays : (j : ℕ) → is_ranked (mark_of marks j) ≡ true → is_ranked (mark_of (set marks test mark) j) ≡ true
  taken_stays j is = ap is_ranked (kept_if_taken j is) ∙ is

  below_stays : (rank j : ℕ) → is_taken_below rank (mark_of marks j) ≡ true → is_taken_below rank (mark_of (set marks test mark) j) ≡ true
  below_stays rank j is = ap (is_taken_below rank) (kept_if_taken j (taken_from_below rank (mark_of marks j) is)) ∙ is

  step_stays : (s : Step) → (s.test ≡ test → ⊥) → IsStep rows marks s → IsStep rows (set marks test mark) s
  step_stays s other is = record {
    within = is.within;
    open_mark = get_or-set_other marks test s.test mark Unseen other ∙ is.open_mark;
    few = is.few;
    looked_at = list_all-weaker _ _ taken_stays (take s.looked (row_of rows s.test)) is.looked_at;
  }

  trail_stays : (trail : List Step) → is_on trail test ≡ false → IsTrail rows marks trail → IsTrail rows (set marks test mark) trail
  trail_stays [] off is = tt
  trail_stays (s ∷ trail) off is =
      let both = or_parts (eqb s.test test) (is_on trail test) off in
      (step_stays s (eqb-false s.test test both.0) is.0, is.1, is.2, trail_stays trail both.1 is.3)

-- a test that is not open does not stand on the trail
off_trail : (rows : List (List ℕ)) (marks : List Mark) (test : ℕ) → (mark_of marks test ≡ Open → ⊥) → (trail : List Step) → IsTrail rows marks trail → is_on trail test ≡ false
off_trail rows marks test closed [] is = refl
off_trail rows marks test closed (s ∷ trail) is =
    or_from (eqb s.test test) (is_on trail test)
    (ne_eqb s.test test (λ same. closed (ap (mark_of marks) (sym same) ∙ is.0.open_mark)))
    (off_trail rows marks test closed trail is.3)

-- a test on the trail that is not its newest stands on the rest
on_rest : (s : Step) (trail : List Step) (test : ℕ) → (test ≡ s.test → ⊥) → is_on (s ∷ trail) test ≡ true → is_on trail test ≡ true
on_rest s trail test other on =
    ⊎_elim (λ is. absurd (other (sym (eqb-true s.test test is)))) (λ is. is) (or_cases (eqb s.test test) (is_on trail test) on)

-- what a mark adds to the count of unseen tests
abbrev unseen_weight : Bool → ℕ
unseen_weight b = cond b 1 0

-- how many tests are unseen once one of them has a mark that is not
unseen_after : (marks : List Mark) (test : ℕ) (mark : Mark) → test < length marks → is_unseen mark ≡ false → count_by is_unseen (set marks test mark) + unseen_weight (is_unseen (mark_of marks test)) ≡ count_by is_unseen marks
unseen_after marks test mark within seen =
    sum_by-set (λ m. cond (is_unseen m) 1 0) marks test mark Unseen within
    ∙ ap (λ b. count_by is_unseen marks + unseen_weight b) seen
    ∙ add-zero (count_by is_unseen marks)

module _ (rows : List (List ℕ)) (marks : List Mark) (s : Step) (trail : List Step) (taken : ℕ) (walk : IsWalk rows marks (s ∷ trail) taken) (all : are_taken marks (row_of rows s.test) ≡ true) where
  step : IsStep rows marks s
  step = walk.is_trail.0

  free : is_ranked (mark_of marks s.test) ≡ false
  free = ap is_ranked step.open_mark

  within : s.test < length marks
  within = subst (λ n. s.test < n) (sym walk.marked) step.within

  here : mark_of (set marks s.test (Taken taken)) s.test ≡ Taken taken
  here = get_or-set_same marks s.test (Taken taken) Unseen within

  there : (test : ℕ) → (test ≡ s.test → ⊥) → mark_of (set marks s.test (Taken taken)) test ≡ mark_of marks test
  there test other = get_or-set_other marks s.test test (Taken taken) Unseen other

  ranked_here : are_taken_below (set marks s.test (Taken taken)) taken (row_of rows s.test) ≡ true
  ranked_here =
      list_all-weaker (λ j. is_ranked (mark_of marks j)) (λ j. is_taken_below taken (mark_of (set marks s.test (Taken taken)) j))
      (λ j is. below_stays rows marks s.test (Taken taken) free taken j (below_from_taken taken (mark_of marks j) (walk.below j) is))
      (row_of rows s.test) all

  ranked_there : (test rank : ℕ) → mark_of marks test ≡ Taken rank → are_taken_below (set marks s.test (Taken taken)) rank (row_of rows test) ≡ true
  ranked_there test rank is =
      list_all-weaker (λ j. is_taken_below rank (mark_of marks j)) (λ j. is_taken_below rank (mark_of (set marks s.test (Taken taken)) j))
      (λ j below. below_stays rows marks s.test (Taken taken) free rank j below)
      (row_of rows test) (walk.ranked test rank is)

  rank_here : (test rank : ℕ) → test ≡ s.test → mark_of (set marks s.test (Taken taken)) test ≡ Taken rank → rank ≡ taken
  rank_here test rank same is =
      same_rank rank taken (sym is ∙ ap (mark_of (set marks s.test (Taken taken))) same ∙ here)

  -- the newest test is taken once all before it are
  pub takes : IsWalk rows (set marks s.test (Taken taken)) trail (taken + 1)
  takes = record {
    marked = length-set marks s.test (Taken taken) ∙ walk.marked;
    ranked = λ test rank is.
        ⊎_elim
        (λ same. subst (λ t. are_taken_below (set marks s.test (Taken taken)) rank (row_of rows t) ≡ true) (sym same)
        (subst (λ r. are_taken_below (set marks s.test (Taken taken)) r (row_of rows s.test) ≡ true) (sym (rank_here test rank same is)) ranked_here))
        (λ other. ranked_there test rank (sym (there test other) ∙ is))
        (cases_eq test s.test);
    below = λ test rank is.
        ⊎_elim
        (λ same. let e : rank ≡ taken = rank_here test rank same is in omega arith)
        (λ other. let less : rank < taken = walk.below test rank (sym (there test other) ∙ is) in omega arith)
        (cases_eq test s.test);
    is_trail = trail_stays rows marks s.test (Taken taken) free trail walk.is_trail.2 walk.is_trail.3;
    on_trail = λ test is.
        ⊎_elim
        (λ same. absurd (true≢false (sym (ap is_ranked here) ∙ ap (λ t. is_ranked (mark_of (set marks s.test (Taken taken)) t)) (sym same) ∙ ap is_ranked is)))
        (λ other. on_rest s trail test other (walk.on_trail test (sym (there test other) ∙ is)))
        (cases_eq test s.test);
    count =
        let counted : count_by is_unseen (set marks s.test (Taken taken)) + unseen_weight false ≡ count_by is_unseen marks = sym (ap (λ m. count_by is_unseen (set marks s.test (Taken taken)) + unseen_weight (is_unseen m)) step.open_mark) ∙ unseen_after marks s.test (Taken taken) within refl in
        let old : taken + count_by is_unseen marks + length (s ∷ trail) ≡ length rows = walk.count in
        omega arith;
  }

  -- fewer tests are taken than there are rows
  pub room_to_take : taken + 1 ≤ length rows
  room_to_take = let old : taken + count_by is_unseen marks + length (s ∷ trail) ≡ length rows = walk.count in omega arith

-- a test that is unseen is put on the trail
module _ (rows : List (List ℕ)) (marks : List Mark) (trail : List Step) (taken next : ℕ) (walk : IsWalk rows marks trail taken) (inside : next < length rows) (unseen : mark_of marks next ≡ Unseen) where
  not_taken : is_ranked (mark_of marks next) ≡ false
  not_taken = ap is_ranked unseen

  within_marks : next < length marks
  within_marks = subst (λ n. next < n) (sym walk.marked) inside

  opened_here : mark_of (set marks next Open) next ≡ Open
  opened_here = get_or-set_same marks next Open Unseen within_marks

  unchanged : (test : ℕ) → (test ≡ next → ⊥) → mark_of (set marks next Open) test ≡ mark_of marks test
  unchanged test other = get_or-set_other marks next test Open Unseen other

  was_taken : (test rank : ℕ) → mark_of (set marks next Open) test ≡ Taken rank → mark_of marks test ≡ Taken rank
  was_taken test rank is =
      ⊎_elim
      (λ same. absurd (true≢false (sym (ap is_ranked is) ∙ ap (λ t. is_ranked (mark_of (set marks next Open) t)) same ∙ ap is_ranked opened_here)))
      (λ other. sym (unchanged test other) ∙ is)
      (cases_eq test next)

  pub opens : is_before_last rows trail next ≡ true → IsWalk rows (set marks next Open) (record { test = next; looked = 0 } ∷ trail) taken
  opens before = record {
    marked = length-set marks next Open ∙ walk.marked;
    ranked = λ test rank is.
        list_all-weaker (λ j. is_taken_below rank (mark_of marks j)) (λ j. is_taken_below rank (mark_of (set marks next Open) j))
        (λ j below. below_stays rows marks next Open not_taken rank j below)
        (row_of rows test) (walk.ranked test rank (was_taken test rank is));
    below = λ test rank is. walk.below test rank (was_taken test rank is);
    is_trail = (
      record { within = inside; open_mark = opened_here; few = omega arith; looked_at = refl },
      before,
      off_trail rows marks next (not_open (mark_of marks next) unseen) trail walk.is_trail,
      trail_stays rows marks next Open not_taken trail (off_trail rows marks next (not_open (mark_of marks next) unseen) trail walk.is_trail) walk.is_trail,
    );
    on_trail = λ test is.
        ⊎_elim
        (λ same. or_left (eqb next test) (is_on trail test) (eq-eqb next test (sym same)))
        (λ other. or_right (eqb next test) (is_on trail test) (walk.on_trail test (sym (unchanged test other) ∙ is)))
        (cases_eq test next);
    count =
        let counted : count_by is_unseen (set marks next Open) + unseen_weight true ≡ count_by is_unseen marks = sym (ap (λ m. count_by is_unseen (set marks next Open) + unseen_weight (is_unseen m)) unseen) ∙ unseen_after marks next Open within_marks refl in
        let old : taken + count_by is_unseen marks + length trail ≡ length rows = walk.count in
        omega arith;
  }

-- the newest test of the trail has looked at more tests that are taken
pub looks : (rows : List (List ℕ)) (marks : List Mark) (s : Step) (trail : List Step) (taken at : ℕ) → IsWalk rows marks (s ∷ trail) taken → at ≤ length (row_of rows s.test) → are_taken marks (take at (row_of rows s.test)) ≡ true → IsWalk rows marks (record { test = s.test; looked = at } ∷ trail) taken
looks rows marks s trail taken at walk few looked_at = record {
  marked = walk.marked;
  ranked = walk.ranked;
  below = walk.below;
  is_trail = (
    record { within = walk.is_trail.0.within; open_mark = walk.is_trail.0.open_mark; few = few; looked_at = looked_at },
    walk.is_trail.1,
    walk.is_trail.2,
    walk.is_trail.3,
  );
  on_trail = walk.on_trail;
  count = walk.count;
}

-- the tests lead round from the newest test of the trail on, or from one behind it
closes_by : (rows : List (List ℕ)) (first : ℕ) (s : Step) (trail : List Step) (tests : List ℕ) → is_on (s ∷ trail) first ≡ true → leads_to (row_of rows) first (s.test ∷ tests) ≡ true → (is_on trail first ≡ true → leads_round (row_of rows) (back_to first trail (s.test ∷ tests)) ≡ true) → (b : Bool) → eqb s.test first ≡ b → leads_round (row_of rows) (cond b (s.test ∷ tests) (back_to first trail (s.test ∷ tests))) ≡ true
closes_by rows first s trail tests on leads behind true same =
    subst (λ f. leads_to (row_of rows) f (s.test ∷ tests) ≡ true) (sym (eqb-true s.test first same)) leads
closes_by rows first s trail tests on leads behind false other =
    behind (⊎_elim (λ same. absurd (both_ways (eqb s.test first) other same)) (λ on. on) (or_cases (eqb s.test first) (is_on trail first) on))

-- from the newest test of the trail back to one on it, each has the next one before it
pub closes : (rows : List (List ℕ)) (marks : List Mark) (first : ℕ) (s : Step) (trail : List Step) (tests : List ℕ) → IsTrail rows marks (s ∷ trail) → is_on (s ∷ trail) first ≡ true → leads_to (row_of rows) first (s.test ∷ tests) ≡ true → leads_round (row_of rows) (back_to first (s ∷ trail) tests) ≡ true
closes rows marks first s [] tests is on leads =
    closes_by rows first s [] tests on leads (λ on. absurd (false≢true on)) (eqb s.test first) refl
closes rows marks first s (next ∷ rest) tests is on leads =
    closes_by rows first s (next ∷ rest) tests on leads
    (λ on. closes rows marks first next rest (s.test ∷ tests) is.3 on (and_from (is_in (row_of rows next.test) s.test) (leads_to (row_of rows) first (s.test ∷ tests)) is.1 leads))
    (eqb s.test first) refl

-- the tests of a trail, back to one of them, are distinct
apart : (rows : List (List ℕ)) (marks : List Mark) (first : ℕ) (trail : List Step) (tests : List ℕ) → IsTrail rows marks trail → are_distinct tests ≡ true → ((j : ℕ) → is_in tests j ≡ true → is_on trail j ≡ false) → are_distinct (back_to first trail tests) ≡ true
apart rows marks first [] tests is distinct off = distinct
apart rows marks first (s ∷ trail) tests is distinct off =
    by (apart rows marks first trail (s.test ∷ tests) is.3 more behind) (eqb s.test first)
  where
    new : (b : Bool) → is_in tests s.test ≡ b → not b ≡ true
    new false is = refl
    new true is =
        absurd (both_ways (is_on (s ∷ trail) s.test) (off s.test is) (or_left (eqb s.test s.test) (is_on trail s.test) (eq-eqb s.test s.test refl)))

    more : are_distinct (s.test ∷ tests) ≡ true
    more = and_from (not (is_in tests s.test)) (are_distinct tests) (new (is_in tests s.test) refl) distinct

    behind : (j : ℕ) → is_in (s.test ∷ tests) j ≡ true → is_on trail j ≡ false
    behind j here =
        ⊎_elim (λ same. subst (λ k. is_on trail k ≡ false) (eqb-true s.test j same) is.2)
        (λ there. (or_parts (eqb s.test j) (is_on trail j) (off j there)).1)
        (or_cases (eqb s.test j) (is_in tests j) here)

    by : are_distinct (back_to first trail (s.test ∷ tests)) ≡ true → (b : Bool) → are_distinct (cond b (s.test ∷ tests) (back_to first trail (s.test ∷ tests))) ≡ true
    by rest true = more
    by rest false = rest

-- a mark that is not unseen is given to a test that was not taken
pub goes-set : (rows : List (List ℕ)) (marks : List Mark) (test : ℕ) (mark : Mark) → test < length marks → is_ranked (mark_of marks test) ≡ false → is_unseen mark ≡ false → WalksOn marks (set marks test mark)
goes-set rows marks test mark within free seen = record {
  seen = λ j was. ⊎_elim
      (λ same. ap (λ t. is_unseen (mark_of (set marks test mark) t)) same ∙ ap is_unseen (get_or-set_same marks test mark Unseen within) ∙ seen)
      (λ other. ap is_unseen (get_or-set_other marks test j mark Unseen other) ∙ was)
      (cases_eq j test);
  taken = λ j was. taken_stays rows marks test mark free j was;
}

-- no test is marked yet
unmarked : (n test : ℕ) → mark_of (replicate n Unseen) test ≡ Unseen
unmarked n test =
    ⊎_elim (λ within. get_or-replicate n test Unseen Unseen within)
    (λ past. get_or_past (replicate n Unseen) test Unseen (let long = length-replicate n Unseen in omega arith))
    (cases_lt test n)

-- a walk starts where no test is marked
pub starts : (rows : List (List ℕ)) → IsWalk rows (replicate (length rows) Unseen) [] 0
starts rows = record {
  marked = length-replicate (length rows) Unseen;
  ranked = λ test rank is. absurd (true≢false (sym (ap is_ranked is) ∙ ap is_ranked (unmarked (length rows) test)));
  below = λ test rank is. absurd (true≢false (sym (ap is_ranked is) ∙ ap is_ranked (unmarked (length rows) test)));
  is_trail = tt;
  on_trail = λ test is. absurd (not_open (mark_of (replicate (length rows) Unseen) test) (unmarked (length rows) test) is);
  count =
      let all : count_by is_unseen (replicate (length rows) Unseen) ≡ length rows * 1 = sum_by-replicate (λ m. cond (is_unseen m) 1 0) (length rows) Unseen in
      omega arith;
}

-- where the trail is empty, a test that is not unseen is taken
pub taken_at_end : (rows : List (List ℕ)) (marks : List Mark) (taken test : ℕ) → IsWalk rows marks [] taken → is_unseen (mark_of marks test) ≡ false → is_ranked (mark_of marks test) ≡ true
taken_at_end rows marks taken test walk seen = by (mark_of marks test) refl
  where
    by : (mark : Mark) → mark_of marks test ≡ mark → is_ranked (mark_of marks test) ≡ true
    by Unseen is = absurd (true≢false (sym (ap is_unseen is) ∙ seen))
    by Open is = absurd (false≢true (walk.on_trail test is))
    by (Taken rank) is = ap is_ranked is

-- what holds of a walk holds of an equal one
pub same_walk : (rows : List (List ℕ)) (marks now : List Mark) (trail on : List Step) (taken count : ℕ) → now ≡ marks → on ≡ trail → count ≡ taken → IsWalk rows marks trail taken → IsWalk rows now on count
same_walk rows marks now trail on taken count same_marks same_trail same_count walk =
    subst (λ ms. IsWalk rows ms on count) (sym same_marks)
    (subst (λ ss. IsWalk rows marks ss count) (sym same_trail)
    (subst (λ n. IsWalk rows marks trail n) (sym same_count) walk))

-- a test that was pushed on the path is the newest of the trail
pub trail_push : (path now : List Step) (s : Step) → now ≡ path ++ s ∷ [] → reverse now ≡ s ∷ reverse path
trail_push path now s is = ap reverse is ∙ reverse-append path (s ∷ [])

-- a test that stands in a row has a row
pub next_within : (rows : List (List ℕ)) (test at : ℕ) → AreWithin rows → test < length rows → at < length (row_of rows test) → get_or (row_of rows test) at 0 < length rows
next_within rows test at within inside few =
    All-get_or (λ j. j < length rows) (row_of rows test) at 0 few (All-get_or (All (λ j. j < length rows)) rows test [] inside within)

unseen_from : (mark : Mark) → is_ranked mark ≡ false → (mark ≡ Open → ⊥) → mark ≡ Unseen
unseen_from Unseen untaken closed = refl
unseen_from Open untaken closed = absurd (closed refl)
unseen_from (Taken rank) untaken closed = absurd (true≢false untaken)

-- the newest test of the trail has one before it that is not taken
module _ (rows : List (List ℕ)) (marks : List Mark) (s : Step) (trail : List Step) (taken at : ℕ) (within : AreWithin rows) (walk : IsWalk rows marks (s ∷ trail) taken) (few : at < length (row_of rows s.test)) where
  pub next_inside : get_or (row_of rows s.test) at 0 < length marks
  next_inside = subst (λ n. get_or (row_of rows s.test) at 0 < n) (sym walk.marked) (next_within rows s.test at within walk.is_trail.0.within few)

  -- where that test is open, it closes a cycle
  pub finds_cycle : mark_of marks (get_or (row_of rows s.test) at 0) ≡ Open → is_cycle (row_of rows) (back_to (get_or (row_of rows s.test) at 0) (s ∷ trail) []) ≡ true
  finds_cycle is =
      let first = get_or (row_of rows s.test) at 0 in
      let tests = back_to first (s ∷ trail) [] in
      and_from (leads_round (row_of rows) tests) (are_distinct tests)
      (closes rows marks first s trail [] walk.is_trail (walk.on_trail first is) (is_in-get_or (row_of rows s.test) at 0 few))
      (apart rows marks first (s ∷ trail) [] walk.is_trail refl (λ j none. absurd (false≢true none)))

  -- where that test is unseen, it is opened
  module _ (looked : are_taken marks (take at (row_of rows s.test)) ≡ true) (untaken : is_ranked (mark_of marks (get_or (row_of rows s.test) at 0)) ≡ false) (closed : mark_of marks (get_or (row_of rows s.test) at 0) ≡ Open → ⊥) where
    unseen : mark_of marks (get_or (row_of rows s.test) at 0) ≡ Unseen
    unseen = unseen_from (mark_of marks (get_or (row_of rows s.test) at 0)) untaken closed

    pub opens_next : IsWalk rows (set marks (get_or (row_of rows s.test) at 0) Open) (record { test = get_or (row_of rows s.test) at 0; looked = 0 } ∷ record { test = s.test; looked = at } ∷ trail) taken
    opens_next =
        opens rows marks (record { test = s.test; looked = at } ∷ trail) taken (get_or (row_of rows s.test) at 0)
        (looks rows marks s trail taken at walk (omega arith) looked)
        (next_within rows s.test at within walk.is_trail.0.within few)
        unseen
        (is_in-get_or (row_of rows s.test) at 0 few)

    pub goes_next : WalksOn marks (set marks (get_or (row_of rows s.test) at 0) Open)
    goes_next = goes-set rows marks (get_or (row_of rows s.test) at 0) Open next_inside untaken refl

    pub fewer_next : (trail' : List Step) → trail' ≡ record { test = get_or (row_of rows s.test) at 0; looked = 0 } ∷ record { test = s.test; looked = at } ∷ trail → (now : List Mark) → now ≡ set marks (get_or (row_of rows s.test) at 0) Open → steps_left now trail' < steps_left marks (s ∷ trail)
    fewer_next trail' same_trail now same_marks =
        let counted : count_by is_unseen (set marks (get_or (row_of rows s.test) at 0) Open) + unseen_weight true ≡ count_by is_unseen marks = sym (ap (λ m. count_by is_unseen (set marks (get_or (row_of rows s.test) at 0) Open) + unseen_weight (is_unseen m)) unseen) ∙ unseen_after marks (get_or (row_of rows s.test) at 0) Open next_inside refl in
        let same_count : count_by is_unseen now ≡ count_by is_unseen (set marks (get_or (row_of rows s.test) at 0) Open) = ap (count_by is_unseen) same_marks in
        let long : length trail' ≡ length (record { test = get_or (row_of rows s.test) at 0; looked = 0 } ∷ record { test = s.test; looked = at } ∷ trail) = ap length same_trail in
        omega arith

-- a walk that goes on keeps the members that were taken, and takes one more
pub takes_more : (marks now : List Mark) (members : List ℕ) (at d : ℕ) → at < length members → WalksOn marks now → are_taken marks (take at members) ≡ true → is_ranked (mark_of now (get_or members at d)) ≡ true → are_taken now (take (at + 1) members) ≡ true
takes_more marks now members at d within goes before here =
    list_all_more (λ j. is_ranked (mark_of now j)) members at d within
    ∙ and_from (are_taken now (take at members)) (is_ranked (mark_of now (get_or members at d)))
    (list_all-weaker (λ j. is_ranked (mark_of marks j)) (λ j. is_ranked (mark_of now j)) goes.taken (take at members) before)
    here

pub goes-refl : (marks : List Mark) → WalksOn marks marks
goes-refl marks = record { seen = λ j is. is; taken = λ j is. is }

pub seen_from : (mark : Mark) → (mark ≡ Unseen → ⊥) → is_unseen mark ≡ false
seen_from Unseen other = absurd (other refl)
seen_from Open other = refl
seen_from (Taken rank) other = refl
