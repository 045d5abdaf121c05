-- The work of a lock by some tests, with one test more.
use Rattle.std.proofs.Common.{◌≡◌, ◌∙◌, sym, ap, subst, Bool, true, false, cond, ℕ, ◌+◌, ◌≤◌, ◌<◌, ◌^◌, List, [], ◌∷◌, ◌++◌, map, refl, arith}
use Rattle.std.specs.Prelude.{Option, Some, None, IfSome, ◌-◌, filter, min, nat_le, not, sum_by, ◌==◌, ◌&&◌}
use Rattle.std.proofs.lemmas.Bool.Decides.{nat_tests}
use Rattle.std.proofs.lemmas.List.{append-nil, map-append}
use Rattle.std.proofs.lemmas.List.Elements.{filter-append}
use Rattle.std.proofs.lemmas.List.Sums.{sum_by-append, sum_by-cons}
use Rattle.ct_base.specs.Names.{is_among}
use Rattle.ct_history.specs.declared.plan.PlanTest.{PlanTest}
use Rattle.ct_times.specs.declared.locks.LockWork.{LockWork}
use Rattle.ct_times.specs.Bounds.{Done, ran_beside}
use Rattle.ct_times.specs.First.{IsFirstIfAny, IsFirstOf, sharers}
use Rattle.ct_times.specs.Locks.{AreBelow, IsLockWork, added_of, alone_of, held_if, held_new, lock_with_test, no_work, shared_if, shared_new, sharer_in}
use Rattle.ct_times.proofs.FirstLemmas.{first_alone, first_changed, first_kept}
use Rattle.ct_times.proofs.WalkLemmas.{self}

module _ (level : ℕ) (done : Done) (lock : List ℕ) where
  -- a lock of no tests has no work
  pub work_of_none : IsLockWork level done lock [] no_work
  work_of_none = record {
    alone = omega arith;
    added = refl;
    sharer = refl;
    shared = tt;
    holder_is_below = λ number some all. some;
    sharer_is_below = λ number some all. some;
  }

  -- no test below a number is the one with that number
  none_added : (number : ℕ) (tests : List PlanTest) → AreBelow number tests → sum_by (added_of level done lock number) tests ≡ 0
  none_added number [] below = refl
  none_added number (t ∷ ts) below =
      let other : (t.number == number) ≡ false = let less : t.number < number = below.0 in grind (arith, nat_tests) in
      let nothing : added_of level done lock number t ≡ 0 =
      ap (λ (b : Bool). cond (ran_beside level done t && (not (is_among lock t.locks) && (b && is_among lock t.shared))) (done.took t.number) 0) other
      ∙ never (ran_beside level done t) (not (is_among lock t.locks)) (done.took t.number)
      in
      omega (arith, sum_by-cons (added_of level done lock number) t ts, nothing, none_added number ts below.1)
    where
      never : (r a : Bool) (n : ℕ) → cond (r && (a && false)) n 0 ≡ 0
      never true true n = refl
      never true false n = refl
      never false a n = refl

  module _ (tests : List PlanTest) (t : PlanTest) (some : 0 < t.number) (below : AreBelow t.number tests) (w : LockWork) (is : IsLockWork level done lock tests w) where
    abbrev took : ℕ
    took = done.took t.number

    abbrev front : List ℕ
    front = sharers level done lock tests

    -- the numbers of the sharers, with the next test
    sharers_next : (r s : Bool) → ran_beside level done t ≡ r → is_among lock t.shared ≡ s → sharers level done lock (tests ++ t ∷ []) ≡ front ++ cond (r && s) (t.number ∷ []) []
    sharers_next r s r_is s_is =
        let p : PlanTest → Bool = λ (x : PlanTest). ran_beside level done x && is_among lock x.shared in
        let number : PlanTest → ℕ = λ (x : PlanTest). x.number in
        ap (map number) (filter-append p tests (t ∷ []))
        ∙ map-append number (filter p tests) (cond (p t) (t ∷ []) [])
        ∙ ap (λ (ns : List ℕ). front ++ ns) (one (ran_beside level done t) (is_among lock t.shared) r s r_is s_is)
      where
        one : (x y r s : Bool) → x ≡ r → y ≡ s → map (λ (u : PlanTest). u.number) (cond (x && y) (t ∷ []) []) ≡ cond (r && s) (t.number ∷ []) []
        one x y r s r_is s_is = ap (λ (b : Bool). map (λ (u : PlanTest). u.number) (cond (b && y) (t ∷ []) [])) r_is ∙ ap (λ (b : Bool). map (λ (u : PlanTest). u.number) (cond (r && b) (t ∷ []) [])) s_is ∙ out (r && s)
          where
            out : (b : Bool) → map (λ (u : PlanTest). u.number) (cond b (t ∷ []) []) ≡ cond b (t.number ∷ []) []
            out true = refl
            out false = refl

    added_t : (sharer : ℕ) (r a s : Bool) → ran_beside level done t ≡ r → is_among lock t.locks ≡ a → is_among lock t.shared ≡ s → added_of level done lock sharer t ≡ cond (r && (not a && (t.number == sharer && s))) took 0
    added_t sharer r a s r_is a_is s_is =
        ap (λ (b : Bool). cond (b && (not (is_among lock t.locks) && (t.number == sharer && is_among lock t.shared))) took 0) r_is
        ∙ ap (λ (b : Bool). cond (r && (not b && (t.number == sharer && is_among lock t.shared))) took 0) a_is
        ∙ ap (λ (b : Bool). cond (r && (not a && (t.number == sharer && b))) took 0) s_is

    alone_t : (r a : Bool) → ran_beside level done t ≡ r → is_among lock t.locks ≡ a → alone_of level done lock t ≡ cond (r && a) took 0
    alone_t r a r_is a_is = ap (λ (b : Bool). cond (b && is_among lock t.locks) took 0) r_is ∙ ap (λ (b : Bool). cond (r && b) took 0) a_is

    -- what a work has to have with the next test
    build : (new : LockWork) (r a s : Bool) → ran_beside level done t ≡ r → is_among lock t.locks ≡ a → is_among lock t.shared ≡ s
        → new.alone ≡ min (w.alone + cond (r && a) took 0) (2 ^ 128 - 1)
        → new.added ≡ sum_by (added_of level done lock new.sharer) tests + cond (r && (not a && (t.number == new.sharer && s))) took 0
        → IsFirstIfAny done.took (front ++ cond (r && s) (t.number ∷ []) []) (sharer_in new)
        → IfSome (sharer_in new) (λ n. new.shared ≡ done.took n)
        → ((number : ℕ) → t.number < number → AreBelow number tests → new.holder < number)
        → ((number : ℕ) → t.number < number → AreBelow number tests → new.sharer < number)
        → IsLockWork level done lock (tests ++ t ∷ []) new
    build new r a s r_is a_is s_is alone added sharer shared holder_low sharer_low = record {
      alone =
          let none : sum_by (alone_of level done lock) [] ≡ 0 = refl in
          omega (arith, alone, is.alone, alone_t r a r_is a_is, sum_by-append (alone_of level done lock) tests (t ∷ []), sum_by-cons (alone_of level done lock) t [], none);
      added =
          let none : sum_by (added_of level done lock new.sharer) [] ≡ 0 = refl in
          omega (arith, added, added_t new.sharer r a s r_is a_is s_is, sum_by-append (added_of level done lock new.sharer) tests (t ∷ []), sum_by-cons (added_of level done lock new.sharer) t [], none);
      sharer = subst (λ (ns : List ℕ). IsFirstIfAny done.took ns (sharer_in new)) (sym (sharers_next r s r_is s_is)) sharer;
      shared = shared;
      holder_is_below = λ number more all. (let parts = split number tests all in holder_low number parts.1 parts.0);
      sharer_is_below = λ number more all. (let parts = split number tests all in sharer_low number parts.1 parts.0);
    }
      where
        split : (number : ℕ) (ts : List PlanTest) → AreBelow number (ts ++ t ∷ []) → AreBelow number ts × (t.number < number)
        split number [] all = (tt, all.0)
        split number (x ∷ xs) all = (let rest = split number xs all.1 in ((all.0, rest.0), rest.1))

    differs : (n : ℕ) → n < t.number → (t.number == n) ≡ false
    differs n less = grind (arith, nat_tests)

    differs' : (n : ℕ) → n < t.number → (n == t.number) ≡ false
    differs' n less = grind (arith, nat_tests)

    nobody : (r a s : Bool) (n : ℕ) → n < t.number → cond (r && (not a && (t.number == n && s))) took 0 ≡ 0
    nobody r a s n less = ap (λ (b : Bool). cond (r && (not a && (b && s))) took 0) (differs n less) ∙ out r (not a)
      where
        out : (x y : Bool) → cond (x && (y && false)) took 0 ≡ 0
        out true true = refl
        out true false = refl
        out false y = refl

    sharer_less : w.sharer < t.number
    sharer_less = is.sharer_is_below t.number some below

    holder_less : w.holder < t.number
    holder_less = is.holder_is_below t.number some below

    with_none : (o : Option ℕ) → IsFirstIfAny done.took front o → IsFirstIfAny done.took (front ++ []) o
    with_none o first = subst (λ (ns : List ℕ). IsFirstIfAny done.took ns o) (sym (append-nil front)) first

    -- a work with the same sharer a_is before
    keeps : (new : LockWork) (r a s : Bool) → ran_beside level done t ≡ r → is_among lock t.locks ≡ a → is_among lock t.shared ≡ s
        → new.alone ≡ min (w.alone + cond (r && a) took 0) (2 ^ 128 - 1) → new.added ≡ w.added → new.sharer ≡ w.sharer → new.shared ≡ w.shared
        → ((number : ℕ) → t.number < number → AreBelow number tests → new.holder < number)
        → IsFirstIfAny done.took (front ++ cond (r && s) (t.number ∷ []) []) (sharer_in w)
        → IsLockWork level done lock (tests ++ t ∷ []) new
    keeps new r a s r_is a_is s_is alone added sharer shared holder first =
        build new r a s r_is a_is s_is alone
        (omega (arith, added, is.added, ap (λ (n : ℕ). sum_by (added_of level done lock n) tests) sharer, nobody r a s new.sharer (omega (arith, sharer, sharer_less))))
        (subst (λ (n : ℕ). IsFirstIfAny done.took (front ++ cond (r && s) (t.number ∷ []) []) (cond (n == 0) None (Some n))) (sym sharer) first)
        (subst (λ (n : ℕ). IfSome (cond (n == 0) None (Some n)) (λ m. new.shared ≡ done.took m)) (sym sharer)
        (subst (λ (k : ℕ). IfSome (sharer_in w) (λ m. k ≡ done.took m)) (sym shared) is.shared))
        holder
        (λ number more all. omega (arith, sharer, is.sharer_is_below number (omega (arith, more)) all))

    -- the next test a_is the sharer
    changes : (one : LockWork) (a : Bool) → ran_beside level done t ≡ true → is_among lock t.locks ≡ a → is_among lock t.shared ≡ true
        → one.alone ≡ min (w.alone + cond (true && a) took 0) (2 ^ 128 - 1) → one.holder ≡ cond a t.number w.holder
        → ((number : ℕ) → t.number < number → AreBelow number tests → one.holder < number)
        → IsFirstOf done.took (front ++ t.number ∷ []) t.number
        → IsLockWork level done lock (tests ++ t ∷ []) (shared_new one t.number took)
    changes one a r_is a_is s_is alone holder low first =
        build (shared_new one t.number took) true a true r_is a_is s_is alone
        (omega (arith, none_added t.number tests below, ap (λ (n : ℕ). cond (n == t.number) 0 took) holder, adds a))
        (subst (λ (b : Bool). IsFirstIfAny done.took (front ++ t.number ∷ []) (cond b None (Some t.number))) (sym zero_not) first)
        (subst (λ (b : Bool). IfSome (cond b None (Some t.number)) (λ m. took ≡ done.took m)) (sym zero_not) refl)
        low
        (λ number more all. more)
      where
        zero_not : (t.number == 0) ≡ false
        zero_not = grind (arith, nat_tests)

        adds : (b : Bool) → cond (cond b t.number w.holder == t.number) 0 took ≡ cond (true && (not b && (t.number == t.number && true))) took 0
        adds true = ap (λ (c : Bool). cond c 0 took) (self t.number)
        adds false = ap (λ (c : Bool). cond c 0 took) (differs' w.holder holder_less) ∙ sym (ap (λ (c : Bool). cond (c && true) took 0) (self t.number))

    -- the test is offered to the lock, or not
    offers : (one : LockWork) (a s : Bool) → ran_beside level done t ≡ true → is_among lock t.locks ≡ a → is_among lock t.shared ≡ s
        → one.alone ≡ min (w.alone + cond (true && a) took 0) (2 ^ 128 - 1) → one.added ≡ w.added → one.sharer ≡ w.sharer → one.shared ≡ w.shared → one.holder ≡ cond a t.number w.holder
        → ((number : ℕ) → t.number < number → AreBelow number tests → one.holder < number)
        → IsLockWork level done lock (tests ++ t ∷ []) (shared_if s one t.number took)
    offers one a false r_is a_is s_is alone added sharer shared holder low = keeps one true a false r_is a_is s_is alone added sharer shared low (with_none (sharer_in w) is.sharer)
    offers one a true r_is a_is s_is alone added sharer shared holder low = by (one.sharer == 0) (nat_le took one.shared) refl refl
      where
        Goal : Bool → Type 0
        Goal b = IsLockWork level done lock (tests ++ t ∷ []) (cond b one (shared_new one t.number took))

        by : (z l : Bool) → (one.sharer == 0) ≡ z → nat_le took one.shared ≡ l → Goal (not (one.sharer == 0) && nat_le took one.shared)
        by true l zero less =
            let none : (w.sharer == 0) ≡ true = sym (ap (λ (n : ℕ). n == 0) sharer) ∙ zero in
            let nobody_shares : front ≡ [] = subst (λ (b : Bool). IsFirstIfAny done.took front (cond b None (Some w.sharer))) none is.sharer in
            subst Goal (sym (ap (λ (b : Bool). not b && nat_le took one.shared) zero))
            (changes one a r_is a_is s_is alone holder low (subst (λ (ns : List ℕ). IsFirstOf done.took (ns ++ t.number ∷ []) t.number) (sym nobody_shares) (first_alone done.took t.number)))
        by false l some_sharer less =
            let there : (w.sharer == 0) ≡ false = sym (ap (λ (n : ℕ). n == 0) sharer) ∙ some_sharer in
            let first : IsFirstOf done.took front w.sharer = subst (λ (b : Bool). IsFirstIfAny done.took front (cond b None (Some w.sharer))) there is.sharer in
            let value : w.shared ≡ done.took w.sharer = subst (λ (b : Bool). IfSome (cond b None (Some w.sharer)) (λ m. w.shared ≡ done.took m)) there is.shared in
            subst Goal (sym (ap (λ (b : Bool). not b && nat_le took one.shared) some_sharer))
            (choose l less there first value)
          where
            choose : (l : Bool) → nat_le took one.shared ≡ l → (w.sharer == 0) ≡ false → IsFirstOf done.took front w.sharer → w.shared ≡ done.took w.sharer → Goal (nat_le took one.shared)
            choose true most there first value =
                let le : took ≤ one.shared = grind (arith, nat_tests) in
                subst Goal (sym most)
                (keeps one true a true r_is a_is s_is alone added sharer shared low
                (subst (λ (b : Bool). IsFirstIfAny done.took (front ++ t.number ∷ []) (cond b None (Some w.sharer))) (sym there)
                (first_kept done.took front (t.number ∷ []) w.sharer t.number first (first_alone done.took t.number) (omega (arith, le, shared, value)))))
            choose false more there first value =
                let lt : one.shared < took = grind (arith, nat_tests) in
                subst Goal (sym more)
                (changes one a r_is a_is s_is alone holder low (first_changed done.took front (t.number ∷ []) w.sharer t.number first (first_alone done.took t.number) (omega (arith, lt, shared, value))))

    -- the test holds the lock alone, or not
    holds : (a s : Bool) → ran_beside level done t ≡ true → is_among lock t.locks ≡ a → is_among lock t.shared ≡ s
        → IsLockWork level done lock (tests ++ t ∷ []) (shared_if s (held_if a w t.number took) t.number took)
    holds false s r_is a_is s_is = offers w false s r_is a_is s_is (omega (arith, is.alone)) refl refl refl refl (λ number more all. is.holder_is_below number (omega (arith, more)) all)
    holds true s r_is a_is s_is =
        subst (λ (b : Bool). IsLockWork level done lock (tests ++ t ∷ []) (shared_if s (cond b w (held_new w t.number took)) t.number took)) (sym (differs' w.holder holder_less))
        (offers (held_new w t.number took) true s r_is a_is s_is refl refl refl refl refl (λ number more all. more))

    -- the work of a lock with the next test
    pub work_more : IsLockWork level done lock (tests ++ t ∷ []) (lock_with_test level done lock t w)
    work_more = by (ran_beside level done t) refl
      where
        Goal : Bool → Type 0
        Goal b = IsLockWork level done lock (tests ++ t ∷ []) (cond b (shared_if (is_among lock t.shared) (held_if (is_among lock t.locks) w t.number took) t.number took) w)

        by : (r : Bool) → ran_beside level done t ≡ r → Goal (ran_beside level done t)
        by true r_is = subst Goal (sym r_is) (holds (is_among lock t.locks) (is_among lock t.shared) r_is refl refl)
        by false r_is =
            subst Goal (sym r_is)
            (keeps w false (is_among lock t.locks) (is_among lock t.shared) r_is refl refl (omega (arith, is.alone)) refl refl refl
            (λ number more all. is.holder_is_below number (omega (arith, more)) all) (with_none (sharer_in w) is.sharer))
