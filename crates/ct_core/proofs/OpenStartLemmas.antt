-- The open starts of an allowed history: a test has at most
-- one, of its next attempt, and is not final meanwhile.
use Rattle.std.proofs.Common.{◌≡◌, ◌≢◌, ◌⊎◌, ◌∙◌, sym, ap, subst, Bool, true, false, ℕ, zero, suc, ◌+◌, ◌<◌, List, [], ◌∷◌, ◌++◌, length, get_or, refl, arith, append_assoc, inl, inr}
use Rattle.std.specs.Prelude.{Option, Some, None, not, ◌&&◌, ◌||◌, ◌==◌, cond, find, filter, All, AllPairs, Contains, if◌then◌else◌}
use Rattle.std.specs.List.{list_any}
use Rattle.std.proofs.lemmas.Bool.{and_parts, cases_Bool, true≢false, eq-eqb}
use Rattle.std.proofs.lemmas.Bool.Decides.{nat_tests}
use Rattle.std.proofs.lemmas.List.Elements.{All-contains, All-filter, All-nil, All-push, filter_passes}
use Rattle.std.proofs.lemmas.List.Folds.{list_any_at}
use Rattle.std.proofs.Math.Bool.{and-true}
use Rattle.ct_alloc.specs.declared.placement.Placement.{Placement}
use Rattle.ct_verdict.specs.declared.attempt.Seen.{Seen}
use Rattle.ct_verdict.specs.declared.repeat.Repeat.{Repeat}
use Rattle.ct_verdict.specs.declared.verdict.Cause.{Cause}
use Rattle.ct_verdict.specs.declared.verdict.Verdict.{Verdict}
use Rattle.ct_verdict.specs.declared.verdict.Verdict.TheVariants.{Disabled}
use Rattle.ct_history.specs.declared.plan.PlanTest.{PlanTest}
use Rattle.ct_history.specs.declared.plan.PlanParts.{PlanParts}
use Rattle.ct_history.specs.declared.history.Entry.{Entry}
use Rattle.ct_history.specs.declared.history.Entry.TheVariants.{Start, End, Settle, Stop}
use Rattle.ct_history.specs.Plan.{test_at}
use Rattle.ct_history.specs.History.{Running, attempts_of, holds_start, is_open_in, open_starts, used_slots, open_start_of_test}
use Rattle.ct_history.specs.Verdicts.{is_over, last_of_list, settled_cause, settled_or, verdict_at, verdict_in, verdict_of_test}
use Rattle.ct_history.specs.Rules.{is_placed}
use Rattle.ct_history.specs.Legal.{is_allowed, is_allowed_so_far}
use Rattle.ct_history.proofs.ApartLemmas.{starts_apart}
use Rattle.ct_history.proofs.AttemptLemmas.{attempts_left}
use Rattle.ct_history.proofs.MayLemmas.{SettlesAs, StartsAs}
use Rattle.ct_history.proofs.OpenLemmas.{is_of, open_starts-end, open_starts-snoc, opens_settle, opens_stop}
use Rattle.ct_history.proofs.PlanLemmas.{find_passes}
use Rattle.ct_history.proofs.ProgressLemmas.{found_contains}
use Rattle.ct_history.proofs.FinalLemmas.{settled-snoc, attempts-snoc}
use Rattle.ct_history.proofs.OtherLemmas.{is_about, settled_other, attempts_other}
use Rattle.ct_history.proofs.LegalLemmas.{any_found}
pub use Rattle.ct_core.proofs.AllowedLemmas.{IsAboutOnly, IsUndecided, about_end, about_settle, about_start, allowed_induction, end_holds, number_at, settle_settles, start_begins, undecided}

-- if no open start is of the test, then the open start at each position is of another test
closed_unlike : (n : ℕ) (rs : List Running) → list_any (λ (r : Running). r.test == n) rs ≡ false → (k : ℕ) (d : Running) → k < length rs → (get_or rs k d).test ≢ n
closed_unlike n rs closed k d lt same = true≢false (sym (list_any_at (λ (r : Running). r.test == n) rs k d lt (eq-eqb (get_or rs k d).test n same)) ∙ closed)

module _ (plan : PlanParts) (es : List Entry) where
  pub start_unlike : (n a : ℕ) (p : Option Placement) → StartsAs plan es a p (test_at plan.tests n) → (k : ℕ) (d : Running) → k < length (open_starts es) → (get_or (open_starts es) k d).test ≢ n
  start_unlike n a p begins =
      let closed = (undecided plan begins.test es begins.may.pending).closed in
      closed_unlike n (open_starts es) (subst (λ (m : ℕ). is_open_in m es ≡ false) (number_at plan.tests n begins.test begins.found) closed)

  pub settle_unlike : (n : ℕ) (c : Cause) → SettlesAs plan es c (test_at plan.tests n) → (k : ℕ) (d : Running) → k < length (open_starts es) → (get_or (open_starts es) k d).test ≢ n
  settle_unlike n c settled =
      let closed = (undecided plan settled.test es settled.pending).closed in
      closed_unlike n (open_starts es) (subst (λ (m : ℕ). is_open_in m es ≡ false) (number_at plan.tests n settled.test settled.found) closed)

-- a Start adds itself to the open starts
pub start_opens : (es : List Entry) (n a w : ℕ) (p : Option Placement) → open_starts (es ++ Start n a w p ∷ []) ≡ open_starts es ++ (record { test = n; attempt = a; worker = w; placement = p }) ∷ []
start_opens es n a w p = open_starts-snoc es (Start n a w p) refl

-- any two open starts are of different tests
pub open_apart : (plan : PlanParts) (es : List Entry) → is_allowed_so_far plan es ≡ true → AllPairs (λ (x y : Running). x.test ≢ y.test) (open_starts es)
open_apart plan es so_far = (starts_apart plan es so_far).tests

-- the placement was right for the test at some moment of the history
pub record WasPlaced (plan : PlanParts) (t : PlanTest) (placement : Option Placement) (es : List Entry) : Type 0 where
  pub front : List Entry
  pub behind : List Entry
  pub whole : es ≡ front ++ behind
  pub placed : is_placed plan.resources t.needs (used_slots front) placement ≡ true

placed-snoc : (plan : PlanParts) (t : PlanTest) (p : Option Placement) (es : List Entry) (e : Entry) → WasPlaced plan t p es → WasPlaced plan t p (es ++ e ∷ [])
placed-snoc plan t p es e was = record {
  front = was.front;
  behind = was.behind ++ e ∷ [];
  whole = ap (λ (xs : List Entry). xs ++ e ∷ []) was.whole ∙ append_assoc was.front was.behind (e ∷ []);
  placed = was.placed;
}

-- no attempt of the test has ended, or fewer than it may have
abbrev pub HasLeft : PlanParts → PlanTest → List Entry → Type 0
HasLeft plan t es = (length (attempts_of t.number t.rules es) ≡ 0) ⊎ (length (attempts_of t.number t.rules es) < plan.repeat.times)

left-same : (plan : PlanParts) (t : PlanTest) (es more : List Entry) → attempts_of t.number t.rules more ≡ attempts_of t.number t.rules es → HasLeft plan t es → HasLeft plan t more
left-same plan t es more same left = subst (λ (vs : List Verdict). (length vs ≡ 0) ⊎ (length vs < plan.repeat.times)) (sym same) left

-- an open start is of a test of the plan that is neither
-- disabled nor settled, and of the test's next attempt
pub record IsOpenStart (plan : PlanParts) (es : List Entry) (r : Running) : Type 0 where
  pub test : PlanTest
  pub found : test_at plan.tests r.test ≡ Some test
  pub enabled : test.disabled ≡ false
  pub unsettled : settled_cause test.number es ≡ None
  pub next : r.attempt ≡ length (attempts_of test.number test.rules es) + 1
  pub left : HasLeft plan test es
  pub placed : WasPlaced plan test r.placement es

-- two open starts of one test are of the same attempt
pub same_attempt : (plan : PlanParts) (es : List Entry) (q r : Running) → IsOpenStart plan es q → IsOpenStart plan es r → q.test ≡ r.test → q.attempt ≡ r.attempt
same_attempt plan es q r one other same =
    let both : Some one.test ≡ Some other.test = sym one.found ∙ ap (λ (n : ℕ). test_at plan.tests n) same ∙ other.found in
    let alike : one.test ≡ other.test = cc in
    one.next ∙ ap (λ (t : PlanTest). length (attempts_of t.number t.rules es) + 1) alike ∙ sym other.next

start-kept : (plan : PlanParts) (es : List Entry) (e : Entry) (r : Running) → IsOpenStart plan es r → is_about r.test e ≡ false → IsOpenStart plan (es ++ e ∷ []) r
start-kept plan es e r start other =
    let t = start.test in
    let unlike : is_about t.number e ≡ false = ap (λ (n : ℕ). is_about n e) (number_at plan.tests r.test t start.found) ∙ other in
    record {
      test = t;
      found = start.found;
      enabled = start.enabled;
      unsettled = settled_other t.number es e unlike ∙ start.unsettled;
      next = start.next ∙ ap (λ (vs : List Verdict). length vs + 1) (sym (attempts_other t.number t.rules es e unlike));
      left = left-same plan t es (es ++ e ∷ []) (attempts_other t.number t.rules es e unlike) start.left;
      placed = placed-snoc plan t r.placement es e start.placed;
    }

-- the start of this test and attempt that the worker holds
pub record Held (n a w : ℕ) (rs : List Running) : Type 0 where
  pub start : Running
  pub there : Contains rs start
  pub test : start.test ≡ n
  pub attempt : start.attempt ≡ a
  pub worker : start.worker ≡ w

-- an element that is found is in the list
pub found_in : {A : Type 0} (p : A → Bool) (xs : List A) (x : A) → find p xs ≡ Some x → Contains xs x
found_in p xs x is = let at = found_contains p xs x is in (at.0, at.1, at.2)

pub held_in : (n a w : ℕ) (rs : List Running) → list_any (λ (r : Running). r.test == n && r.attempt == a && r.worker == w) rs ≡ true → Held n a w rs
held_in n a w rs holds =
    let p : Running → Bool = λ r. r.test == n && r.attempt == a && r.worker == w in
    let found = any_found p rs holds in
    let r = found.0 in
    let passes = find_passes p rs r found.1 in
    let most = and_parts (r.test == n && r.attempt == a) (r.worker == w) passes in
    let both = and_parts (r.test == n) (r.attempt == a) most.0 in
    record {
      start = r;
      there = found_in p rs r found.1;
      test = same r.test n both.0;
      attempt = same r.attempt a both.1;
      worker = same r.worker w most.1;
    }
  where
    same : (x y : ℕ) → (x == y) ≡ true → x ≡ y
    same x y is = grind (arith, nat_tests)

end-kept : (plan : PlanParts) (es : List Entry) (n a w : ℕ) (s : Seen) (q r : Running) → IsOpenStart plan es q → q.test ≡ n → q.attempt ≡ a → IsOpenStart plan es r → not (is_of n a r) ≡ true → IsOpenStart plan (es ++ End n a w s ∷ []) r
end-kept plan es n a w s q r ended test attempt start unlike = elim (cases_Bool (n == r.test)) [
  | inl same ↦
      let here : r.test ≡ q.test = grind (arith, nat_tests, test) in
      let attempts : r.attempt ≡ a = same_attempt plan es r q start ended here ∙ attempt in
      let of : is_of n a r ≡ true = grind (arith, nat_tests) in
      absurd (true≢false (sym unlike ∙ ap not of))
  | inr other ↦ start-kept plan es (End n a w s) r start other
]

starts-snoc : (plan : PlanParts) (es : List Entry) (e : Entry) → is_allowed plan es e ≡ true → All (IsOpenStart plan es) (open_starts es) → All (IsOpenStart plan (es ++ e ∷ [])) (open_starts (es ++ e ∷ []))
starts-snoc plan es (Start n a w p) allowed all =
    let start = Start n a w p in
    let begins = start_begins plan es n a w p allowed in
    let t = begins.test in
    let run : Running = record { test = n; attempt = a; worker = w; placement = p } in
    let may = undecided plan t es begins.may.pending in
    let next : a ≡ length (attempts_of t.number t.rules es) + 1 = equal a (length (attempts_of t.number t.rules es) + 1) begins.next in
    let new : IsOpenStart plan (es ++ start ∷ []) run = record {
      test = t;
      found = begins.found;
      enabled = may.enabled;
      unsettled = settled-snoc t.number es start refl ∙ may.unsettled;
      next = next ∙ ap (λ (vs : List Verdict). length vs + 1) (sym (attempts-snoc t.number t.rules es start refl));
      left = left-same plan t es (es ++ start ∷ []) (attempts-snoc t.number t.rules es start refl) (attempts_left plan t es begins.may.pending);
      placed = record { front = es; behind = start ∷ []; whole = refl; placed = begins.may.placed };
    } in
    subst (All (IsOpenStart plan (es ++ start ∷ []))) (sym (start_opens es n a w p))
    (All-push (IsOpenStart plan (es ++ start ∷ [])) (open_starts es) run (λ k d lt. start-kept plan es start (get_or (open_starts es) k d) (all k d lt) (unlike n (get_or (open_starts es) k d).test (start_unlike plan es n a p begins k d lt))) new)
  where
    equal : (x y : ℕ) → (x == y) ≡ true → x ≡ y
    equal x y is = grind (arith, nat_tests)

    unlike : (x y : ℕ) → y ≢ x → (x == y) ≡ false
    unlike x y other = grind (arith, nat_tests, other)
starts-snoc plan es (End n a w s) allowed all =
    let held = held_in n a w (open_starts es) (end_holds plan es n a w s allowed) in
    let ended = All-contains (IsOpenStart plan es) (open_starts es) held.start all held.there in
    let p : Running → Bool = λ r. not (is_of n a r) in
    subst (All (IsOpenStart plan (es ++ End n a w s ∷ []))) (sym (open_starts-end es n a w s))
    (λ k d lt. end-kept plan es n a w s held.start (get_or (filter p (open_starts es)) k d) ended held.test held.attempt (All-filter p (IsOpenStart plan es) (open_starts es) all k d lt) (filter_passes p (open_starts es) k d lt))
starts-snoc plan es (Settle n c) allowed all =
    subst (All (IsOpenStart plan (es ++ Settle n c ∷ []))) (sym (opens_settle es n c))
    (λ k d lt. start-kept plan es (Settle n c) (get_or (open_starts es) k d) (all k d lt) (unlike n (get_or (open_starts es) k d).test (settle_unlike plan es n c (settle_settles plan es n c allowed) k d lt)))
  where
    unlike : (x y : ℕ) → y ≢ x → (x == y) ≡ false
    unlike x y other = grind (arith, nat_tests, other)
starts-snoc plan es Stop allowed all =
    subst (All (IsOpenStart plan (es ++ Stop ∷ []))) (sym (opens_stop es)) (λ k d lt. start-kept plan es Stop (get_or (open_starts es) k d) (all k d lt) refl)

-- each open start is of a test of the plan, and of the test's next attempt
pub all_open : (plan : PlanParts) (es : List Entry) → is_allowed_so_far plan es ≡ true → All (IsOpenStart plan es) (open_starts es)
all_open plan es so_far =
    allowed_induction plan (λ (xs : List Entry). All (IsOpenStart plan xs) (open_starts xs)) (λ xs e allowed all. starts-snoc plan xs e allowed all) (All-nil (IsOpenStart plan [])) es so_far

-- the test with an open start: it is in the plan, not disabled, not settled and not final
pub record IsOpenTest (plan : PlanParts) (es : List Entry) (n : ℕ) (r : Running) : Type 0 where
  pub test : PlanTest
  pub found : test_at plan.tests n ≡ Some test
  pub number : r.test ≡ n
  pub enabled : test.disabled ≡ false
  pub unsettled : settled_cause test.number es ≡ None
  pub unfinished : verdict_of_test plan es n ≡ None
  pub next : r.attempt ≡ length (attempts_of test.number test.rules es) + 1
  pub left : HasLeft plan test es
  pub placed : WasPlaced plan test r.placement es

-- a test with an open start has no verdict, if it is neither disabled nor settled
no_verdict : (repeat : Repeat) (t : PlanTest) (es : List Entry) → t.disabled ≡ false → settled_cause t.number es ≡ None → is_open_in t.number es ≡ true → verdict_in repeat t es ≡ None
no_verdict repeat t es enabled unsettled opens = by_parts t.disabled (settled_cause t.number es) (is_open_in t.number es) (is_over repeat (attempts_of t.number t.rules es)) (last_of_list (attempts_of t.number t.rules es)) enabled unsettled opens
  where
    by_parts : (d : Bool) (c : Option Cause) (o over : Bool) (last : Option Verdict) → d ≡ false → c ≡ None → o ≡ true → (if d then Some Disabled else settled_or c (if not o && over then last else None)) ≡ None
    by_parts true c o over last enabled unsettled opens = cc
    by_parts false (Some c) o over last enabled unsettled opens = cc
    by_parts false None false over last enabled unsettled opens = cc
    by_parts false None true over last enabled unsettled opens = refl

found_some : {A : Type 0} (p : A → Bool) (xs : List A) (x : A) → find p xs ≡ Some x → list_any p xs ≡ true
found_some p [] x is = cc
found_some p (y ∷ ys) x is = elim (cases_Bool (p y)) [
  | inl here ↦ ap (λ (b : Bool). b || list_any p ys) here
  | inr other ↦ ap (λ (b : Bool). b || list_any p ys) other ∙ found_some p ys x (sym (ap (λ (b : Bool). cond b (Some y) (find p ys)) other) ∙ is)
]

-- a test with an open start is in the plan, and not final
pub open_planned : (plan : PlanParts) (es : List Entry) (n : ℕ) (r : Running) → is_allowed_so_far plan es ≡ true → open_start_of_test n es ≡ Some r → IsOpenTest plan es n r
open_planned plan es n r so_far is =
    let p : Running → Bool = λ q. q.test == n in
    let start = All-contains (IsOpenStart plan es) (open_starts es) r (all_open plan es so_far) (found_in p (open_starts es) r is) in
    let t = start.test in
    let passes = find_passes p (open_starts es) r is in
    let here : r.test ≡ n = grind (arith, nat_tests) in
    let found : test_at plan.tests n ≡ Some t = ap (λ (m : ℕ). test_at plan.tests m) (sym here) ∙ start.found in
    let opens : is_open_in t.number es ≡ true = ap (λ (m : ℕ). is_open_in m es) (number_at plan.tests n t found) ∙ found_some p (open_starts es) r is in
    record {
      test = t;
      found = found;
      number = here;
      enabled = start.enabled;
      unsettled = start.unsettled;
      unfinished = ap (λ (o : Option PlanTest). verdict_at plan es o) found ∙ no_verdict plan.repeat t es start.enabled start.unsettled opens;
      next = start.next;
      left = start.left;
      placed = start.placed;
    }

-- the placement of a test's open start was right for the test when it started
pub open_placed : (plan : PlanParts) (es : List Entry) (n : ℕ) (r : Running) (t : PlanTest) → is_allowed_so_far plan es ≡ true → open_start_of_test n es ≡ Some r → test_at plan.tests n ≡ Some t → WasPlaced plan t r.placement es
open_placed plan es n r t so_far is found =
    let opens = open_planned plan es n r so_far is in
    let both : Some opens.test ≡ Some t = sym opens.found ∙ found in
    let same : opens.test ≡ t = cc in
    subst (λ (u : PlanTest). WasPlaced plan u r.placement es) same opens.placed

-- if any two starts are of different tests, each start is found by its test
found_apart : (rs : List Running) (q : Running) → AllPairs (λ (x y : Running). x.test ≢ y.test) rs → Contains rs q → find (λ (r : Running). r.test == q.test) rs ≡ Some q
found_apart [] q apart is = absurd (omega (arith, is.1))
found_apart (r ∷ rs) q apart (zero, lt, same) =
    let here : r ≡ q = same in
    let itself : (r.test == q.test) ≡ true = eq-eqb r.test q.test (ap (λ (x : Running). x.test) here) in
    ap (λ (b : Bool). cond b (Some r) (find (λ (x : Running). x.test == q.test) rs)) itself ∙ ap Some here
found_apart (r ∷ rs) q apart (suc k, lt, same) =
    let within : k < length rs = omega (arith, lt) in
    let here : get_or rs k q ≡ q = same in
    let unlike : r.test ≢ q.test = subst (λ (x : Running). r.test ≢ x.test) here (apart 0 (suc k) q (omega arith) lt) in
    let other : (r.test == q.test) ≡ false = grind (arith, nat_tests, unlike) in
    ap (λ (b : Bool). cond b (Some r) (find (λ (x : Running). x.test == q.test) rs)) other
    ∙ found_apart rs q (λ i j d less inside. apart (suc i) (suc j) d (omega (arith, less)) (omega (arith, inside))) (k, within, here)

filter_same : {A : Type 0} (p q : A → Bool) (xs : List A) → ((x : A) → Contains xs x → p x ≡ q x) → filter p xs ≡ filter q xs
filter_same p q [] same = refl
filter_same p q (x ∷ xs) same =
    ap (λ (b : Bool). cond b (x ∷ filter p xs) (filter p xs)) (same x (0, omega arith, refl))
    ∙ ap (λ ys. cond (q x) (x ∷ ys) ys) (filter_same p q xs (λ y is. same y (suc is.0, omega (arith, is.1), is.2)))

-- a held start is the open start of its test, of the test's
-- next attempt, and its End closes no other start
pub record IsHeldOpen (plan : PlanParts) (es : List Entry) (n a w : ℕ) : Type 0 where
  pub start : Running
  pub opens : open_start_of_test n es ≡ Some start
  pub attempt : start.attempt ≡ a
  pub worker : start.worker ≡ w
  pub test : PlanTest
  pub found : test_at plan.tests n ≡ Some test
  pub enabled : test.disabled ≡ false
  pub unsettled : settled_cause test.number es ≡ None
  pub next : a ≡ length (attempts_of test.number test.rules es) + 1
  pub left : HasLeft plan test es
  pub closes : (s : Seen) → open_starts (es ++ End n a w s ∷ []) ≡ filter (λ (q : Running). not (q.test == n)) (open_starts es)

pub held_open : (plan : PlanParts) (es : List Entry) (n a w : ℕ) → is_allowed_so_far plan es ≡ true → holds_start n a w es ≡ true → IsHeldOpen plan es n a w
held_open plan es n a w so_far holds =
    let held = held_in n a w (open_starts es) holds in
    let q = held.start in
    let all = all_open plan es so_far in
    let ended = All-contains (IsOpenStart plan es) (open_starts es) q all held.there in
    let opens : open_start_of_test n es ≡ Some q = subst (λ (m : ℕ). open_start_of_test m es ≡ Some q) held.test (found_apart (open_starts es) q (open_apart plan es so_far) held.there) in
    record {
      start = q;
      opens = opens;
      attempt = held.attempt;
      worker = held.worker;
      test = ended.test;
      found = ap (λ (m : ℕ). test_at plan.tests m) (sym held.test) ∙ ended.found;
      enabled = ended.enabled;
      unsettled = ended.unsettled;
      next = sym held.attempt ∙ ended.next;
      left = ended.left;
      closes = λ s. open_starts-end es n a w s ∙ filter_same (λ r. not (is_of n a r)) (λ (r : Running). not (r.test == n)) (open_starts es) (λ r is. ap not (only q r ended held.test held.attempt (All-contains (IsOpenStart plan es) (open_starts es) r all is)));
    }
  where
    only : (q r : Running) → IsOpenStart plan es q → q.test ≡ n → q.attempt ≡ a → IsOpenStart plan es r → is_of n a r ≡ (r.test == n)
    only q r ended test attempt start = elim (cases_Bool (r.test == n)) [
      | inl same ↦
          let here : r.test ≡ q.test = grind (arith, nat_tests, test) in
          let attempts : r.attempt ≡ a = same_attempt plan es r q start ended here ∙ attempt in
          ap (λ (b : Bool). r.test == n && b) (eq-eqb r.attempt a attempts) ∙ and-true (r.test == n)
      | inr other ↦ ap (λ (b : Bool). b && r.attempt == a) other ∙ sym other
    ]
