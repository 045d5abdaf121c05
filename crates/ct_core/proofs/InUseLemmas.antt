-- What the open starts use together: with one more start,
-- with one less, and beside a test that may start.
use Rattle.std.proofs.Common.{◌≡◌, ◌≢◌, ◌∙◌, sym, ap, subst, Bool, true, false, ℕ, suc, ◌+◌, ◌^◌, ◌<◌, ◌≤◌, List, [], ◌∷◌, ◌++◌, length, get_or, arith, refl, inl, inr, leb-true}
use Rattle.std.specs.Prelude.{Option, Some, All, AllPairs, find, filter, not, ◌&&◌, ◌||◌, ◌==◌, bytes_eq, cond, nat_le, nat_lt, sum_by}
use Rattle.std.specs.List.{list_any, list_all}
use Rattle.std.proofs.lemmas.Bool.{cases_Bool, eqb-true, false_from_ne_true, lt-ltb, or_parts}
use Rattle.std.proofs.lemmas.List.{length-append}
use Rattle.std.proofs.lemmas.List.Elements.{All-head, All-tail}
use Rattle.std.proofs.lemmas.List.Folds.{list_any-append}
use Rattle.std.proofs.lemmas.List.Sums.{sum_by-cons, sum_by_push}
use Rattle.std.proofs.lemmas.Slice.Eq.{bytes_eq-Decides}
use Rattle.std.proofs.Math.Bool.{or-false}
use Rattle.ct_base.specs.declared.defs.Resource.{Resource}
use Rattle.ct_alloc.specs.declared.placement.Placement.{Placement}
use Rattle.ct_history.specs.declared.plan.PlanTest.{PlanTest}
use Rattle.ct_history.specs.declared.plan.PlanParts.{PlanParts}
use Rattle.ct_history.specs.declared.history.Entry.{Entry}
use Rattle.ct_history.specs.Plan.{test_at}
use Rattle.ct_history.specs.History.{Running, open_starts, placed_slots, processors_of, used_processors, used_slots}
use Rattle.ct_history.specs.Rules.{exclude, has_room, is_placed, is_serial, locks_of, locks_out, may_start, shared_of}
use Rattle.ct_history.specs.Legal.{GetAlong}
use Rattle.ct_history.proofs.ExcludeLemmas.{exclude-sym, shares_none}
use Rattle.ct_history.proofs.MayLemmas.{may_start-parts}
use Rattle.ct_history.proofs.PlanLemmas.{find_passes}
use Rattle.ct_core.specs.Locks.{is_held, knows}
use Rattle.ct_core.specs.Sharers.{counts_sharers, is_shared, one_if}
use Rattle.ct_core.specs.Slots.{IsFreeBeside, used_of}
use Rattle.ct_core.specs.declared.in_use.InUse.{InUse}
use Rattle.ct_core.specs.InUse.{CanGive, CanTake, CountsSharers, GivesBack, IsInUse, KnowsLocks, Takes, has_room_beside, is_excluded_beside, is_locked}
use Rattle.ct_core.proofs.FreeLemmas.{placed_beside, taken_for, used_if_some}
use Rattle.ct_base.specs.Names.{is_among, shares_name}
use Rattle.ct_base.proofs.NameLemmas.{bytes_eq_comm}

-- if each lock is known as before, the locks of all tests stay known
still_known : (tests : List PlanTest) (old new : InUse) → ((name : List ℕ) → knows new.locks name ≡ knows old.locks name) → KnowsLocks tests old → KnowsLocks tests new
still_known tests old new same known = λ k d lt.
    let all : knows new.locks ≡ knows old.locks = λ j name. same name j in
    ap (λ (p : List ℕ → Bool). list_all p (get_or tests k d).locks) all ∙ known k d lt

-- if the sharers of the same locks are counted as before, those of all tests still are
still_counted : (tests : List PlanTest) (old new : InUse) → ((name : List ℕ) → counts_sharers new.sharers name ≡ counts_sharers old.sharers name) → CountsSharers tests old → CountsSharers tests new
still_counted tests old new same counted = λ k d lt.
    let all : counts_sharers new.sharers ≡ counts_sharers old.sharers = λ j name. same name j in
    ap (λ (p : List ℕ → Bool). list_all p (get_or tests k d).shared) all ∙ counted k d lt

any_one : (p : Running → Bool) (rs : List Running) (r : Running) → list_any p (rs ++ r ∷ []) ≡ (list_any p rs || p r)
any_one p rs r = list_any-append p rs (r ∷ []) ∙ ap (λ (b : Bool). list_any p rs || b) (or-false (p r))

-- once a test takes what it needs, what is in use agrees with the starts and the new one
pub taken : (plan : PlanParts) (rs : List Running) (r : Running) (t : PlanTest) (old new : InUse) → IsInUse plan rs old → test_at plan.tests r.test ≡ Some t → Takes t r.placement old new → IsInUse plan (rs ++ r ∷ []) new
taken plan rs r t old new is found takes = record {
  processors =
      let same : processors_of (test_at plan.tests r.test) ≡ t.processors = ap processors_of found in
      omega (arith, takes.processors, is.processors, same, sum_by_push (λ (q : Running). processors_of (test_at plan.tests q.test)) rs r);
  opens = omega (arith, takes.opens, is.opens, length-append rs (r ∷ []));
  serial =
      takes.serial
      ∙ ap (λ (b : Bool). b || t.serial) is.serial
      ∙ ap (λ (o : Option PlanTest). list_any (λ (q : Running). is_serial (test_at plan.tests q.test)) rs || is_serial o) (sym found)
      ∙ sym (any_one (λ (q : Running). is_serial (test_at plan.tests q.test)) rs r);
  known = still_known plan.tests old new takes.known is.known;
  locks = λ name.
      takes.locks name
      ∙ ap (λ (b : Bool). b || is_among name t.locks) (is.locks name)
      ∙ ap (λ (o : Option PlanTest). list_any (λ (q : Running). is_among name (locks_of (test_at plan.tests q.test))) rs || is_among name (locks_of o)) (sym found)
      ∙ sym (any_one (λ (q : Running). is_among name (locks_of (test_at plan.tests q.test))) rs r);
  counted = still_counted plan.tests old new takes.counted is.counted;
  shares = λ name.
      let same : one_if (is_among name (shared_of (test_at plan.tests r.test))) ≡ one_if (is_among name t.shared) = ap (λ (o : Option PlanTest). one_if (is_among name (shared_of o))) found in
      omega (arith, takes.shares name, is.shares name, same, sum_by_push (λ (q : Running). one_if (is_among name (shared_of (test_at plan.tests q.test)))) rs r);
  resources = takes.resources ∙ is.resources;
  slots = λ place. omega (arith, takes.slots place, is.slots place, sum_by_push (λ (q : Running). placed_slots place q.placement) rs r);
}

-- a list of starts is one start and the others, for each sum and each search
record IsTakenOut (tests : List PlanTest) (rs : List Running) (r : Running) (others : List Running) : Type 0 where
  sums : (f : Running → ℕ) → sum_by f rs ≡ f r + sum_by f others
  lengths : length rs ≡ length others + 1
  anys : (p : Running → Bool) → list_any p rs ≡ (p r || list_any p others)
  alone : list_any (λ (q : Running). exclude (test_at tests r.test) (test_at tests q.test)) others ≡ false

-- the starts of all tests but one
abbrev others_of : ℕ → List Running → List Running
others_of n rs = filter (λ (q : Running). not (q.test == n)) rs

pairs-head : (R : Running → Running → Type 0) (x : Running) (xs : List Running) → AllPairs R (x ∷ xs) → All (R x) xs
pairs-head R x xs all = λ k d lt. all 0 (suc k) d (omega arith) (omega (arith, lt))

pairs-tail : (R : Running → Running → Type 0) (x : Running) (xs : List Running) → AllPairs R (x ∷ xs) → AllPairs R xs
pairs-tail R x xs all = λ i j d less lt. all (suc i) (suc j) d (omega (arith, less)) (omega (arith, lt))

-- if no start of the list is of the test, all of them stay
others-all : (n : ℕ) (x : Running) (xs : List Running) → (x.test == n) ≡ true → All (λ (y : Running). x.test ≢ y.test) xs → others_of n xs ≡ xs
others-all n x [] here all = refl
others-all n x (y ∷ ys) here all =
    let apart : x.test ≢ y.test = All-head (λ (z : Running). x.test ≢ z.test) y ys all in
    let other : (y.test == n) ≡ false = false_from_ne_true (y.test == n) (λ same. apart (eqb-true x.test n here ∙ sym (eqb-true y.test n same))) in
    ap (λ (b : Bool). cond (not b) (y ∷ others_of n ys) (others_of n ys)) other
    ∙ ap (λ (zs : List Running). y ∷ zs) (others-all n x ys here (All-tail (λ (z : Running). x.test ≢ z.test) y ys all))

none_excluded : (tests : List PlanTest) (x : Running) (xs : List Running) → All (GetAlong tests x) xs → list_any (λ (q : Running). exclude (test_at tests x.test) (test_at tests q.test)) xs ≡ false
none_excluded tests x [] all = refl
none_excluded tests x (y ∷ ys) all =
    ap (λ (b : Bool). b || list_any (λ (q : Running). exclude (test_at tests x.test) (test_at tests q.test)) ys) (All-head (GetAlong tests x) y ys all)
    ∙ none_excluded tests x ys (All-tail (GetAlong tests x) y ys all)

found_along : (P : Running → Type 0) (p : Running → Bool) (xs : List Running) (r : Running) → find p xs ≡ Some r → All P xs → P r
found_along P p [] r is all = cc
found_along P p (x ∷ xs) r is all = elim (cases_Bool (p x)) [
  | inl passes ↦
      let here : Some x ≡ Some r = sym (ap (λ (b : Bool). cond b (Some x) (find p xs)) passes) ∙ is in
      let same : x ≡ r = cc in
      subst P same (All-head P x xs all)
  | inr fails ↦ found_along P p xs r (sym (ap (λ (b : Bool). cond b (Some x) (find p xs)) fails) ∙ is) (All-tail P x xs all)
]

swapped : (a b c : Bool) → (a || (b || c)) ≡ (b || (a || c))
swapped true true c = refl
swapped true false c = refl
swapped false true c = refl
swapped false false c = refl

-- the only start of a test is taken out of the list
taken_out : (tests : List PlanTest) (n : ℕ) (rs : List Running) (r : Running) → find (λ (q : Running). q.test == n) rs ≡ Some r → AllPairs (λ (x y : Running). x.test ≢ y.test) rs → AllPairs (GetAlong tests) rs → IsTakenOut tests rs r (others_of n rs)
taken_out tests n [] r is once along = cc
taken_out tests n (x ∷ xs) r is once along = elim (cases_Bool (x.test == n)) [
  | inl here ↦
      let some : Some x ≡ Some r = sym (ap (λ (b : Bool). cond b (Some x) (find (λ (q : Running). q.test == n) xs)) here) ∙ is in
      let same : x ≡ r = cc in
      let others : xs ≡ others_of n (x ∷ xs) =
      sym (others-all n x xs here (pairs-head (λ (y z : Running). y.test ≢ z.test) x xs once)) ∙ sym (ap (λ (b : Bool). cond (not b) (x ∷ others_of n xs) (others_of n xs)) here) in
      let first : IsTakenOut tests (x ∷ xs) x xs = record {
        sums = λ f. sum_by-cons f x xs;
        lengths = omega arith;
        anys = λ p. refl;
        alone = none_excluded tests x xs (pairs-head (GetAlong tests) x xs along);
      } in
      subst (λ (os : List Running). IsTakenOut tests (x ∷ xs) r os) others (subst (λ (q : Running). IsTakenOut tests (x ∷ xs) q xs) same first)
  | inr other ↦
      let rest = sym (ap (λ (b : Bool). cond b (Some x) (find (λ (q : Running). q.test == n) xs)) other) ∙ is in
      let later = taken_out tests n xs r rest (pairs-tail (λ (y z : Running). y.test ≢ z.test) x xs once) (pairs-tail (GetAlong tests) x xs along) in
      let others : x ∷ others_of n xs ≡ others_of n (x ∷ xs) = sym (ap (λ (b : Bool). cond (not b) (x ∷ others_of n xs) (others_of n xs)) other) in
      let gets_along : exclude (test_at tests x.test) (test_at tests r.test) ≡ false = found_along (GetAlong tests x) (λ (q : Running). q.test == n) xs r rest (pairs-head (GetAlong tests) x xs along) in
      let behind : IsTakenOut tests (x ∷ xs) r (x ∷ others_of n xs) = record {
        sums = λ f. omega (arith, later.sums f, sum_by-cons f x xs, sum_by-cons f x (others_of n xs));
        lengths = omega (arith, later.lengths);
        anys = λ p. ap (λ (b : Bool). p x || b) (later.anys p) ∙ swapped (p x) (p r) (list_any p (others_of n xs));
        alone =
            ap (λ (b : Bool). b || list_any (λ (q : Running). exclude (test_at tests r.test) (test_at tests q.test)) (others_of n xs))
            (exclude-sym (test_at tests r.test) (test_at tests x.test) ∙ gets_along)
            ∙ later.alone;
      } in
      subst (λ (os : List Running). IsTakenOut tests (x ∷ xs) r os) others behind
]

-- what holds of two tests that get along
record GoTogether (one other : Option PlanTest) : Type 0 where
  shares : shares_name (locks_of one) (locks_of other) ≡ false
  first : is_serial one ≡ false
  second : is_serial other ≡ false

together : (one other : Option PlanTest) → exclude one other ≡ false → GoTogether one other
unfolding exclude
together one other apart =
    let both = or_parts (locks_out one other || locks_out other one || is_serial one) (is_serial other) apart in
    let rest = or_parts (locks_out one other || locks_out other one) (is_serial one) both.0 in
    let out = or_parts (locks_out one other) (locks_out other one) rest.0 in
    let names = or_parts (shares_name (locks_of one) (locks_of other)) (shares_name (locks_of one) (shared_of other)) out.0 in
    record { shares = names.0; first = rest.1; second = both.1 }

any_less : (p q : Running → Bool) → ((r : Running) → q r ≡ false → p r ≡ false) → (rs : List Running) → list_any q rs ≡ false → list_any p rs ≡ false
any_less p q less [] none = refl
any_less p q less (r ∷ rs) none =
    let both = or_parts (q r) (list_any q rs) none in
    ap (λ (b : Bool). b || list_any p rs) (less r both.0) ∙ any_less p q less rs both.1

-- if two lists share no name, a name of the one is not in the other
shared_among : (name : List ℕ) (names others : List (List ℕ)) → shares_name names others ≡ false → is_among name names ≡ true → is_among name others ≡ false
shared_among name [] others apart among = cc
shared_among name (x ∷ xs) others apart among =
    let both = or_parts (is_among x others) (shares_name xs others) apart in
    elim (cases_Bool (bytes_eq name x)) [
      | inl here ↦ ap (λ (bytes : List ℕ). is_among bytes others) ((bytes_eq-Decides name x).0 here) ∙ both.0
      | inr other ↦ shared_among name xs others both.1 (sym (ap (λ (b : Bool). b || is_among name xs) other) ∙ among)
    ]

-- the second part of a disjunction stays once the first is taken away
left_over : (old new mine theirs : Bool) → old ≡ (mine || theirs) → new ≡ (old && not mine) → (mine ≡ true → theirs ≡ false) → new ≡ theirs
left_over old new true theirs was is apart = is ∙ ap (λ (b : Bool). b && false) was ∙ sym (apart refl)
left_over old new false true was is apart = is ∙ ap (λ (b : Bool). b && true) was
left_over old new false false was is apart = is ∙ ap (λ (b : Bool). b && true) was

-- once a test gives back what it used, what is in use agrees with the other starts
pub given : (plan : PlanParts) (rs : List Running) (n : ℕ) (r : Running) (t : PlanTest) (old new : InUse) → IsInUse plan rs old → find (λ (q : Running). q.test == n) rs ≡ Some r → AllPairs (λ (x y : Running). x.test ≢ y.test) rs → AllPairs (GetAlong plan.tests) rs → test_at plan.tests n ≡ Some t → GivesBack t r.placement old new → IsInUse plan (filter (λ (q : Running). not (q.test == n)) rs) new
given plan rs n r t old new is finds once along looked gives =
    let out = taken_out plan.tests n rs r finds once along in
    let same : r.test ≡ n = eqb-true r.test n (find_passes (λ (q : Running). q.test == n) rs r finds) in
    let found : test_at plan.tests r.test ≡ Some t = ap (test_at plan.tests) same ∙ looked in
    let others = others_of n rs in
    record {
      processors =
          let mine : processors_of (test_at plan.tests r.test) ≡ t.processors = ap processors_of found in
          omega (arith, gives.processors, is.processors, mine, out.sums (λ (q : Running). processors_of (test_at plan.tests q.test)));
      opens = omega (arith, gives.opens, is.opens, out.lengths);
      serial =
          left_over old.serial new.serial t.serial (list_any (λ (q : Running). is_serial (test_at plan.tests q.test)) others)
          (is.serial ∙ out.anys (λ (q : Running). is_serial (test_at plan.tests q.test)) ∙ ap (λ (o : Option PlanTest). is_serial o || list_any (λ (q : Running). is_serial (test_at plan.tests q.test)) others) found)
          gives.serial
          (λ mine. any_less (λ (q : Running). is_serial (test_at plan.tests q.test)) (λ (q : Running). exclude (test_at plan.tests r.test) (test_at plan.tests q.test)) (λ q apart. (together (test_at plan.tests r.test) (test_at plan.tests q.test) apart).second) others out.alone);
      known = still_known plan.tests old new gives.known is.known;
      locks = λ name.
          left_over (is_held old.locks name) (is_held new.locks name) (is_among name t.locks) (list_any (λ (q : Running). is_among name (locks_of (test_at plan.tests q.test))) others)
          (is.locks name ∙ out.anys (λ (q : Running). is_among name (locks_of (test_at plan.tests q.test))) ∙ ap (λ (o : Option PlanTest). is_among name (locks_of o) || list_any (λ (q : Running). is_among name (locks_of (test_at plan.tests q.test))) others) found)
          (gives.locks name)
          (λ mine. any_less (λ (q : Running). is_among name (locks_of (test_at plan.tests q.test))) (λ (q : Running). exclude (test_at plan.tests r.test) (test_at plan.tests q.test))
          (λ q apart. shared_among name t.locks (locks_of (test_at plan.tests q.test)) (ap (λ (o : Option PlanTest). shares_name (locks_of o) (locks_of (test_at plan.tests q.test))) (sym found) ∙ (together (test_at plan.tests r.test) (test_at plan.tests q.test) apart).shares) mine)
          others out.alone);
      counted = still_counted plan.tests old new gives.counted is.counted;
      shares = λ name.
          let mine : one_if (is_among name (shared_of (test_at plan.tests r.test))) ≡ one_if (is_among name t.shared) = ap (λ (o : Option PlanTest). one_if (is_among name (shared_of o))) found in
          omega (arith, gives.shares name, is.shares name, mine, out.sums (λ (q : Running). one_if (is_among name (shared_of (test_at plan.tests q.test)))));
      resources = gives.resources ∙ is.resources;
      slots = λ place. omega (arith, gives.slots place, is.slots place, out.sums (λ (q : Running). placed_slots place q.placement));
    }

found_sum : (f : Running → ℕ) (p : Running → Bool) (rs : List Running) (r : Running) → find p rs ≡ Some r → f r ≤ sum_by f rs
found_sum f p [] r is = cc
found_sum f p (x ∷ xs) r is = elim (cases_Bool (p x)) [
  | inl passes ↦
      let here : Some x ≡ Some r = sym (ap (λ (b : Bool). cond b (Some x) (find p xs)) passes) ∙ is in
      let same : x ≡ r = cc in
      let most : f x ≤ sum_by f (x ∷ xs) = omega (arith, sum_by-cons f x xs) in
      subst (λ (q : Running). f q ≤ sum_by f (x ∷ xs)) same most
  | inr fails ↦
      let later = found_sum f p xs r (sym (ap (λ (b : Bool). cond b (Some x) (find p xs)) fails) ∙ is) in
      omega (arith, later, sum_by-cons f x xs)
]

found_any : (p : Running → Bool) (rs : List Running) (r : Running) → find p rs ≡ Some r → 0 < length rs
found_any p [] r is = cc
found_any p (x ∷ xs) r is = omega arith

-- what holds of each test holds of the test that is looked up
looked_up : (P : PlanTest → Type 0) (n : ℕ) (tests : List PlanTest) (t : PlanTest) → test_at tests n ≡ Some t → All P tests → P t
looked_up P n [] t is all = cc
looked_up P n (x ∷ xs) t is all = elim (cases_Bool (x.number == n)) [
  | inl passes ↦
      let here : Some x ≡ Some t = sym (ap (λ (b : Bool). cond b (Some x) (test_at xs n)) passes) ∙ is in
      let same : x ≡ t = cc in
      subst P same (All-head P x xs all)
  | inr fails ↦ looked_up P n xs t (sym (ap (λ (b : Bool). cond b (Some x) (test_at xs n)) fails) ∙ is) (All-tail P x xs all)
]

-- the start of a test can be given back
pub give_possible : (plan : PlanParts) (rs : List Running) (n : ℕ) (r : Running) (t : PlanTest) (u : InUse) (used : ℕ → ℕ) → IsInUse plan rs u → find (λ (q : Running). q.test == n) rs ≡ Some r → test_at plan.tests n ≡ Some t → is_placed plan.resources t.needs used r.placement ≡ true → CanGive t r.placement u
give_possible plan rs n r t u used is finds looked placed =
    let same : r.test ≡ n = eqb-true r.test n (find_passes (λ (q : Running). q.test == n) rs r finds) in
    record {
      processors =
          let mine : processors_of (test_at plan.tests r.test) ≡ t.processors = ap (λ (m : ℕ). processors_of (test_at plan.tests m)) same ∙ ap processors_of looked in
          omega (arith, is.processors, mine, found_sum (λ (q : Running). processors_of (test_at plan.tests q.test)) (λ (q : Running). q.test == n) rs r finds);
      opens = omega (arith, is.opens, found_any (λ (q : Running). q.test == n) rs r finds);
      known = looked_up (λ (x : PlanTest). list_all (knows u.locks) x.locks ≡ true) n plan.tests t looked is.known;
      counted = looked_up (λ (x : PlanTest). list_all (counts_sharers u.sharers) x.shared ≡ true) n plan.tests t looked is.counted;
      shares = λ name.
          let mine : one_if (is_among name (shared_of (test_at plan.tests r.test))) ≡ one_if (is_among name t.shared) =
          ap (λ (m : ℕ). one_if (is_among name (shared_of (test_at plan.tests m)))) same ∙ ap (λ (o : Option PlanTest). one_if (is_among name (shared_of o))) looked in
          omega (arith, is.shares name, mine, found_sum (λ (q : Running). one_if (is_among name (shared_of (test_at plan.tests q.test)))) (λ (q : Running). q.test == n) rs r finds);
      slots = taken_for u.free plan.resources t.needs used r.placement is.resources placed
          (λ place. omega (arith, is.slots place, found_sum (λ (q : Running). placed_slots place q.placement) (λ (q : Running). q.test == n) rs r finds));
    }

-- no more of these starts are counted than there are
few_share : (p : Running → Bool) (rs : List Running) → sum_by (λ (r : Running). one_if (p r)) rs ≤ length rs
few_share p [] = omega arith
few_share p (r ∷ rs) = omega (arith, sum_by-cons (λ (q : Running). one_if (p q)) r rs, few_share p rs, at_most (p r))
  where
    at_most : (b : Bool) → one_if b ≤ 1
    at_most true = omega arith
    at_most false = omega arith

-- a test that may start can take what it needs
pub take_possible : (plan : PlanParts) (entries : List Entry) (n : ℕ) (t : PlanTest) (placement : Option Placement) (u : InUse) → IsInUse plan (open_starts entries) u → test_at plan.tests n ≡ Some t → may_start plan t placement entries ≡ true → plan.level < 2 ^ 32 → length (open_starts entries) + 1 < 2 ^ 64 → CanTake t placement u
take_possible plan entries n t placement u is looked may level few =
    let parts = may_start-parts plan t placement entries may in
    record {
      processors =
          let fits = leb-true (t.processors + used_processors plan.tests entries) plan.level parts.processors in
          omega (arith, is.processors, fits);
      opens = omega (arith, is.opens);
      known = looked_up (λ (x : PlanTest). list_all (knows u.locks) x.locks ≡ true) n plan.tests t looked is.known;
      counted = looked_up (λ (x : PlanTest). list_all (counts_sharers u.sharers) x.shared ≡ true) n plan.tests t looked is.counted;
      few = λ name. omega (arith, is.shares name, few_share (λ (q : Running). is_among name (shared_of (test_at plan.tests q.test))) (open_starts entries));
      placed =
          ap (λ (o : Option (List Resource)). is_placed o t.needs (used_of u.free) placement) is.resources
          ∙ placed_beside plan.resources t.needs (used_slots entries) (used_of u.free) placement (λ place. sym (is.slots place)) parts.placed;
    }

-- what is in use has the plan's resources, and the slots that the open starts use
pub free_beside : (plan : PlanParts) (entries : List Entry) (u : InUse) → IsInUse plan (open_starts entries) u → IsFreeBeside plan entries u.free
free_beside plan entries u is = record {
  resources = is.resources;
  used = used_if_some u.free (used_slots entries) is.slots;
}

any_same : {A : Type 0} (p q : A → Bool) → ((x : A) → p x ≡ q x) → (xs : List A) → list_any p xs ≡ list_any q xs
any_same p q same [] = refl
any_same p q same (x ∷ xs) = ap (λ (b : Bool). b || list_any p xs) (same x) ∙ ap (λ (b : Bool). q x || b) (any_same p q same xs)

any_nowhere : {A : Type 0} (xs : List A) → list_any (λ x. false) xs ≡ false
any_nowhere [] = refl
any_nowhere (x ∷ xs) = any_nowhere xs

any_either : {A : Type 0} (p q : A → Bool) (xs : List A) → list_any (λ x. p x || q x) xs ≡ (list_any p xs || list_any q xs)
any_either p q [] = refl
any_either p q (x ∷ xs) = ap (λ (b : Bool). p x || q x || b) (any_either p q xs) ∙ in_pairs (p x) (q x) (list_any p xs) (list_any q xs)
  where
    in_pairs : (a b c d : Bool) → (a || b || (c || d)) ≡ (a || c || (b || d))
    in_pairs true b c d = refl
    in_pairs false true true d = refl
    in_pairs false true false d = refl
    in_pairs false false c d = refl

-- a search by lock and a search by start agree on whether some start has a name of this list
any_shared : (of : Option PlanTest → List (List ℕ)) (tests : List PlanTest) (names : List (List ℕ)) (rs : List Running) → list_any (λ (name : List ℕ). list_any (λ (r : Running). is_among name (of (test_at tests r.test))) rs) names ≡ list_any (λ (r : Running). shares_name names (of (test_at tests r.test))) rs
any_shared of tests [] rs = sym (any_nowhere rs)
any_shared of tests (name ∷ names) rs =
    ap (λ (b : Bool). list_any (λ (r : Running). is_among name (of (test_at tests r.test))) rs || b) (any_shared of tests names rs)
    ∙ sym (any_either (λ (r : Running). is_among name (of (test_at tests r.test))) (λ (r : Running). shares_name names (of (test_at tests r.test))) rs)

-- some start is counted exactly if some start passes
any_counted : (p : Running → Bool) (rs : List Running) → nat_lt 0 (sum_by (λ (r : Running). one_if (p r)) rs) ≡ list_any p rs
any_counted p [] = refl
any_counted p (r ∷ rs) =
    ap (nat_lt 0) (sum_by-cons (λ (q : Running). one_if (p q)) r rs)
    ∙ by_first (p r) (sum_by (λ (q : Running). one_if (p q)) rs) (list_any p rs) (any_counted p rs)
  where
    by_first : (b : Bool) (n : ℕ) (rest : Bool) → nat_lt 0 n ≡ rest → nat_lt 0 (one_if b + n) ≡ (b || rest)
    by_first true n rest is = lt-ltb 0 (one_if true + n) (omega arith)
    by_first false n rest is = let none : one_if false + n ≡ n = omega arith in ap (nat_lt 0) none ∙ is

-- two lists share a name, whichever is looked at first
shares_name-sym : (xs ys : List (List ℕ)) → shares_name xs ys ≡ shares_name ys xs
shares_name-sym [] ys = sym (shares_none ys)
shares_name-sym (x ∷ xs) ys =
    ap (λ (b : Bool). is_among x ys || b) (shares_name-sym xs ys)
    ∙ ap (λ (b : Bool). b || shares_name ys xs) (any_same (λ y. bytes_eq x y) (λ y. bytes_eq y x) (λ y. bytes_eq_comm x y) ys)
    ∙ sym (any_either (λ y. bytes_eq y x) (λ y. is_among y xs) ys)

-- two tests exclude each other: a lock that the one holds is held or shared by the other, or a lock that the one
-- shares is held by the other, or one of them is serial
exclude_parts : (t : PlanTest) (o : Option PlanTest) → exclude (Some t) o ≡ (shares_name t.locks (locks_of o) || shares_name t.locks (shared_of o) || shares_name t.shared (locks_of o) || t.serial || is_serial o)
unfolding exclude
exclude_parts t o =
    ap (λ (b : Bool). locks_out (Some t) o || (b || shares_name (locks_of o) t.shared) || t.serial || is_serial o) (shares_name-sym (locks_of o) t.locks)
    ∙ ap (λ (b : Bool). locks_out (Some t) o || (shares_name t.locks (locks_of o) || b) || t.serial || is_serial o) (shares_name-sym (locks_of o) t.shared)
    ∙ ap (λ (b : Bool). b || t.serial || is_serial o) (said_once (shares_name t.locks (locks_of o)) (shares_name t.locks (shared_of o)) (shares_name t.shared (locks_of o)))
  where
    said_once : (a b c : Bool) → (a || b || (a || c)) ≡ (a || b || c)
    said_once true b c = refl
    said_once false true c = refl
    said_once false false c = refl

any_alike : (b : Bool) (rs : List Running) → list_any (λ (r : Running). b) rs ≡ (b && nat_lt 0 (length rs))
any_alike true [] = refl
any_alike true (r ∷ rs) = sym (lt-ltb 0 (length (r ∷ rs)) (omega arith))
any_alike false rs = any_nowhere rs

module _ (tests : List PlanTest) (t : PlanTest) where
  -- the start holds alone a lock that the test wants alone
  abbrev holds_held : Running → Bool
  holds_held r = shares_name t.locks (locks_of (test_at tests r.test))

  -- the start shares a lock that the test wants alone
  abbrev holds_shared : Running → Bool
  holds_shared r = shares_name t.locks (shared_of (test_at tests r.test))

  -- the start holds alone a lock that the test wants to share
  abbrev shares_held : Running → Bool
  shares_held r = shares_name t.shared (locks_of (test_at tests r.test))

  abbrev is_lone : Running → Bool
  is_lone r = is_serial (test_at tests r.test)

  excluded_any : (rs : List Running) → list_any (λ (r : Running). exclude (Some t) (test_at tests r.test)) rs ≡ (list_any holds_held rs || list_any holds_shared rs || list_any shares_held rs || (t.serial && nat_lt 0 (length rs)) || list_any is_lone rs)
  excluded_any rs =
      any_same (λ (r : Running). exclude (Some t) (test_at tests r.test)) (λ (r : Running). holds_held r || holds_shared r || shares_held r || t.serial || is_lone r) (λ r. exclude_parts t (test_at tests r.test)) rs
      ∙ any_either (λ (r : Running). holds_held r || holds_shared r || shares_held r || t.serial) is_lone rs
      ∙ ap (λ (b : Bool). b || list_any is_lone rs) (any_either (λ (r : Running). holds_held r || holds_shared r || shares_held r) (λ (r : Running). t.serial) rs)
      ∙ ap (λ (b : Bool). b || list_any (λ (r : Running). t.serial) rs || list_any is_lone rs) (any_either (λ (r : Running). holds_held r || holds_shared r) shares_held rs)
      ∙ ap (λ (b : Bool). b || list_any shares_held rs || list_any (λ (r : Running). t.serial) rs || list_any is_lone rs) (any_either holds_held holds_shared rs)
      ∙ ap (λ (b : Bool). list_any holds_held rs || list_any holds_shared rs || list_any shares_held rs || b || list_any is_lone rs) (any_alike t.serial rs)

turned : (a b c d : Bool) → (a || b || c || d) ≡ (c || d || b || a)
turned true true true d = refl
turned true true false true = refl
turned true true false false = refl
turned true false true d = refl
turned true false false true = refl
turned true false false false = refl
turned false true true d = refl
turned false true false true = refl
turned false true false false = refl
turned false false true d = refl
turned false false false true = refl
turned false false false false = refl

-- what is in use excludes a test exactly if an open test excludes it
module _ (plan : PlanParts) (rs : List Running) (u : InUse) (t : PlanTest) (is : IsInUse plan rs u) where
  held_any : (names : List (List ℕ)) → list_any (is_held u.locks) names ≡ list_any (λ (r : Running). shares_name names (locks_of (test_at plan.tests r.test))) rs
  held_any names =
      any_same (is_held u.locks) (λ (name : List ℕ). list_any (λ (r : Running). is_among name (locks_of (test_at plan.tests r.test))) rs) is.locks names
      ∙ any_shared locks_of plan.tests names rs

  shared_any : (names : List (List ℕ)) → list_any (is_shared u.sharers) names ≡ list_any (λ (r : Running). shares_name names (shared_of (test_at plan.tests r.test))) rs
  shared_any names =
      any_same (is_shared u.sharers) (λ (name : List ℕ). list_any (λ (r : Running). is_among name (shared_of (test_at plan.tests r.test))) rs)
      (λ name. ap (nat_lt 0) (is.shares name) ∙ any_counted (λ (r : Running). is_among name (shared_of (test_at plan.tests r.test))) rs) names
      ∙ any_shared shared_of plan.tests names rs

  taken_any : list_any (is_locked u) t.locks ≡ (list_any (holds_held plan.tests t) rs || list_any (holds_shared plan.tests t) rs)
  taken_any =
      any_either (is_held u.locks) (is_shared u.sharers) t.locks
      ∙ ap (λ (b : Bool). b || list_any (is_shared u.sharers) t.locks) (held_any t.locks)
      ∙ ap (λ (b : Bool). list_any (holds_held plan.tests t) rs || b) (shared_any t.locks)

  excluded_beside : is_excluded_beside u t ≡ list_any (λ (r : Running). exclude (Some t) (test_at plan.tests r.test)) rs
  excluded_beside =
      ap (λ (b : Bool). b || t.serial && nat_lt 0 u.open_count || list_any (is_locked u) t.locks || list_any (is_held u.locks) t.shared) is.serial
      ∙ ap (λ (n : ℕ). list_any (is_lone plan.tests t) rs || t.serial && nat_lt 0 n || list_any (is_locked u) t.locks || list_any (is_held u.locks) t.shared) is.opens
      ∙ ap (λ (b : Bool). list_any (is_lone plan.tests t) rs || t.serial && nat_lt 0 (length rs) || b || list_any (is_held u.locks) t.shared) taken_any
      ∙ ap (λ (b : Bool). list_any (is_lone plan.tests t) rs || t.serial && nat_lt 0 (length rs) || (list_any (holds_held plan.tests t) rs || list_any (holds_shared plan.tests t) rs) || b) (held_any t.shared)
      ∙ turned (list_any (is_lone plan.tests t) rs) (t.serial && nat_lt 0 (length rs)) (list_any (holds_held plan.tests t) rs || list_any (holds_shared plan.tests t) rs) (list_any (shares_held plan.tests t) rs)
      ∙ sym (excluded_any plan.tests t rs)

-- there is room beside what is in use exactly if the history has room
pub room_beside : (plan : PlanParts) (entries : List Entry) (u : InUse) (t : PlanTest) → IsInUse plan (open_starts entries) u → has_room_beside plan.level u t ≡ has_room plan t entries
room_beside plan entries u t is =
    ap (λ (n : ℕ). nat_le (t.processors + n) plan.level && not (is_excluded_beside u t)) is.processors
    ∙ ap (λ (b : Bool). nat_le (t.processors + used_processors plan.tests entries) plan.level && not b) (excluded_beside plan (open_starts entries) u t is)
