-- What a legal history says at each Start and at each End.
use Rattle.std.proofs.Common.{◌≡◌, ◌∙◌, sym, ap, subst, refl, ℕ, suc, Bool, true, false, cond, List, [], ◌∷◌, ◌++◌, All, arith, inl, inr}
use Rattle.std.specs.Prelude.{◌&&◌, ◌||◌, ◌==◌, not, find, is_none, is_some, Contains, Option, Some, None}
use Rattle.std.specs.List.{list_all, list_any, cons_option}
use Rattle.std.proofs.lemmas.Bool.{and_parts, cases_Bool, eqb-true, not-true, or_parts, or_right, true≢false}
use Rattle.std.proofs.lemmas.List.Elements.{All-cons, All-nil}
use Rattle.std.proofs.lemmas.List.Folds.{list_any-append, list_any_at}
use Rattle.ct_alloc.specs.declared.placement.Placement.{Placement}
use Rattle.ct_verdict.specs.declared.attempt.Seen.{Seen}
use Rattle.ct_verdict.specs.declared.verdict.Verdict.{Verdict}
use Rattle.ct_verdict.specs.declared.verdict.Verdict.TheVariants.{Passed, Failed, Timeout, Exception, Skipped, NotRun, Disabled}
use Rattle.ct_history.specs.declared.plan.PlanTest.{PlanTest}
use Rattle.ct_history.specs.declared.plan.PlanParts.{PlanParts}
use Rattle.ct_history.specs.declared.history.Entry.{Entry}
use Rattle.ct_history.specs.declared.history.Entry.TheVariants.{Start, End, Settle, Stop}
use Rattle.ct_history.specs.Plan.{test_at}
use Rattle.ct_history.specs.History.{Running, has_stop, holds_start, is_busy_in, is_end_of, is_open_in, is_stop, open_starts, opened}
use Rattle.ct_history.specs.Verdicts.{verdict_of_test}
use Rattle.ct_history.specs.Rules.{first_unpassed, follows_finals, is_passed_verdict}
use Rattle.ct_history.specs.Legal.{is_allowed, is_legal, is_stop_due, starts}
use Rattle.ct_history.proofs.BoolLemmas.{eq_same}
use Rattle.ct_history.proofs.MayLemmas.{StartsAs, pending-parts, starts-parts}
use Rattle.ct_history.proofs.PlanLemmas.{find_passes}
use Rattle.ct_laws.specs.Places.{HasWaited, EndAttempt, LeaveOpen}
use Rattle.ct_laws.proofs.CutLemmas.{cut}

-- a test that was looked up has its number
pub own_number : (plan : PlanParts) (n : ℕ) (t : PlanTest) → test_at plan.tests n ≡ Some t → t.number ≡ n
own_number plan n t found = eqb-true t.number n (find_passes (λ (u : PlanTest). u.number == n) plan.tests t found)

-- a Start that is allowed
pub record IsStart (plan : PlanParts) (front : List Entry) (n a w : ℕ) (p : Option Placement) : Type 0 where
  pub begins : StartsAs plan front a p (test_at plan.tests n)
  pub number : begins.test.number ≡ n
  pub closed : is_open_in n front ≡ false
  pub idle : is_busy_in w front ≡ false

pub start_parts : (plan : PlanParts) (front : List Entry) (n a w : ℕ) (p : Option Placement) → is_allowed plan front (Start n a w p) ≡ true → IsStart plan front n a w p
start_parts plan front n a w p allowed =
    let most = and_parts (not (is_stop_due plan front) && starts plan front a p (test_at plan.tests n)) (not (is_busy_in w front)) allowed in
    let both = and_parts (not (is_stop_due plan front)) (starts plan front a p (test_at plan.tests n)) most.0 in
    let begins = starts-parts plan front a p (test_at plan.tests n) both.1 in
    let number = own_number plan n begins.test begins.found in
    record {
      begins = begins;
      number = number;
      closed = subst (λ (k : ℕ). is_open_in k front ≡ false) number (pending-parts plan begins.test front begins.may.pending).closed;
      idle = not-true (is_busy_in w front) most.1;
    }

-- a Start in a legal history
pub start_at : (plan : PlanParts) (front rest : List Entry) (n a w : ℕ) (p : Option Placement) → is_legal plan (front ++ Start n a w p ∷ rest) ≡ true → IsStart plan front n a w p
start_at plan front rest n a w p legal = start_parts plan front n a w p (cut plan front (Start n a w p) rest legal).allowed

-- the second Start of two
pub second_start : (plan : PlanParts) (front between rest : List Entry) (e : Entry) (n a w : ℕ) (p : Option Placement) → is_legal plan (front ++ e ∷ between ++ Start n a w p ∷ rest) ≡ true → IsStart plan (front ++ e ∷ between) n a w p
second_start plan front between rest e n a w p legal = start_at plan (front ++ e ∷ between) rest n a w p legal

-- no test starts behind a Stop
pub stop_last : (plan : PlanParts) (front between rest : List Entry) (n a w : ℕ) (p : Option Placement) → is_legal plan (front ++ Stop ∷ between ++ Start n a w p ∷ rest) ≡ false
stop_last plan front between rest n a w p = elim (cases_Bool (is_legal plan (front ++ Stop ∷ between ++ Start n a w p ∷ rest))) [
  | inl legal ↦
      let start = second_start plan front between rest Stop n a w p legal in
      let stops : has_stop (front ++ Stop ∷ between) ≡ true = list_any-append is_stop front (Stop ∷ between) ∙ or_right (has_stop front) true refl in
      absurd (true≢false (sym stops ∙ start.begins.may.goes_on))
  | inr illegal ↦ illegal
]

all_from : (p : ℕ → Bool) (xs : List ℕ) → list_all p xs ≡ true → All (λ x. p x ≡ true) xs
all_from p [] all = All-nil (λ x. p x ≡ true)
all_from p (x ∷ xs) all =
    let both = and_parts (p x) (list_all p xs) all in
    All-cons (λ x. p x ≡ true) x xs both.0 (all_from p xs both.1)

passed_from : (found : Option Verdict) → is_passed_verdict found ≡ true → found ≡ Some Passed
passed_from None is = cc
passed_from (Some Passed) is = refl
passed_from (Some Failed) is = cc
passed_from (Some Timeout) is = cc
passed_from (Some Exception) is = cc
passed_from (Some Skipped) is = cc
passed_from (Some (NotRun cause)) is = cc
passed_from (Some Disabled) is = cc

none_unpassed : (verdict : ℕ → Option Verdict) (setups : List ℕ) → is_none (find (λ s. not (is_passed_verdict (verdict s))) setups) ≡ true → All (λ s. verdict s ≡ Some Passed) setups
none_unpassed verdict [] none = All-nil (λ s. verdict s ≡ Some Passed)
none_unpassed verdict (s ∷ setups) none = elim (cases_Bool (is_passed_verdict (verdict s))) [
  | inl passed ↦
      let later = sym (ap (λ b. is_none (cond (not b) (Some s) (find (λ t. not (is_passed_verdict (verdict t))) setups))) passed) ∙ none in
      All-cons (λ t. verdict t ≡ Some Passed) s setups (passed_from (verdict s) passed) (none_unpassed verdict setups later)
  | inr other ↦
      let some : is_none (Some s) ≡ true = sym (ap (λ b. is_none (cond (not b) (Some s) (find (λ t. not (is_passed_verdict (verdict t))) setups))) other) ∙ none in
      absurd (true≢false (sym some))
]

-- where a test starts, those that it waits for have ended as they have to
pub waited : (plan : PlanParts) (front rest : List Entry) (n a w : ℕ) (p : Option Placement) → is_legal plan (front ++ Start n a w p ∷ rest) ≡ true → HasWaited plan n front
waited plan front rest n a w p legal =
    let begins = (start_at plan front rest n a w p legal).begins in
    let t = begins.test in
    let most = and_parts (follows_finals plan t front && is_none (first_unpassed plan t front)) (is_none t.fixed) begins.may.ready in
    let both = and_parts (follows_finals plan t front) (is_none (first_unpassed plan t front)) most.0 in
    record {
      test = t;
      is = begins.found;
      final = all_from (λ j. is_some (verdict_of_test plan front j)) t.before both.0;
      passed = none_unpassed (verdict_of_test plan front) t.setups both.1;
    }

first_there : {A : Type 0} (x : A) (xs : List A) → Contains (x ∷ xs) x
first_there x xs = (0, omega arith, refl)

later_there : {A : Type 0} (x y : A) (xs : List A) → Contains xs y → Contains (x ∷ xs) y
later_there x y xs there = (suc there.0, omega (arith, there.1), there.2)

ended_later : (t a : ℕ) (x : Entry) (xs : List Entry) → EndAttempt t a xs → EndAttempt t a (x ∷ xs)
ended_later t a x xs ended = record {
  worker = ended.worker;
  seen = ended.seen;
  there = later_there x (End t a ended.worker ended.seen) xs ended.there;
}

ended_here : (t a : ℕ) (x : Entry) (xs : List Entry) → is_end_of t a x ≡ true → EndAttempt t a (x ∷ xs)
ended_here t a (Start u b v q) xs is = cc
ended_here t a (End u b v s) xs is =
    let both = and_parts (u == t) (b == a) is in
    let same : End u b v s ≡ End t a v s = λ i. End (eqb-true u t both.0 i) (eqb-true b a both.1 i) v s in
    record { worker = v; seen = s; there = (0, omega arith, same) }
ended_here t a (Settle u c) xs is = cc
ended_here t a Stop xs is = cc

-- an attempt that an entry ends is ended
pub ended_from : (t a : ℕ) (es : List Entry) → list_any (is_end_of t a) es ≡ true → EndAttempt t a es
ended_from t a [] any = cc
ended_from t a (x ∷ xs) any = elim (cases_Bool (is_end_of t a x)) [
  | inl here ↦ ended_here t a x xs here
  | inr not_here ↦ ended_later t a x xs (ended_from t a xs (sym (ap (λ b. b || list_any (is_end_of t a) xs) not_here) ∙ any))
]

ends_own : (t a w : ℕ) (s : Seen) → is_end_of t a (End t a w s) ≡ true
ends_own t a w s = ap (λ b. b && a == a) (eq_same t) ∙ eq_same a

pub ended_any : (t a : ℕ) (es : List Entry) → EndAttempt t a es → list_any (is_end_of t a) es ≡ true
ended_any t a es ended =
    let there = ended.there in
    list_any_at (is_end_of t a) es there.0 (End t a ended.worker ended.seen) there.1 (ap (is_end_of t a) there.2 ∙ ends_own t a ended.worker ended.seen)

none_cons : (p : Running → Bool) (found : Option Running) (rs : List Running) → list_any p (cons_option found rs) ≡ false → list_any p rs ≡ false
none_cons p None rs none = none
none_cons p (Some r) rs none = (or_parts (p r) (list_any p rs) none).1

-- where no open start of a history passes a test, none that the last entries open does
none_behind : (p : Running → Bool) (front es : List Entry) → list_any p (open_starts (front ++ es)) ≡ false → list_any p (open_starts es) ≡ false
none_behind p [] es none = none
none_behind p (x ∷ front) es none = none_behind p front es (none_cons p (opened x (front ++ es)) (open_starts (front ++ es)) none)

abbrev started_run : ℕ → ℕ → ℕ → Option Placement → Running
started_run t a w p = record { test = t; attempt = a; worker = w; placement = p }

closed_by : (p : Running → Bool) (run : Running) (rs : List Running) (ended : Bool) → p run ≡ true → list_any p (cons_option (cond ended None (Some run)) rs) ≡ false → ended ≡ true
closed_by p run rs true is none = refl
closed_by p run rs false is none = absurd (true≢false (sym is ∙ (or_parts (p run) (list_any p rs) none).0))

-- a start is ended before one begins that may not be open beside it
pub ends_between : (p : Running → Bool) (front between : List Entry) (t a w : ℕ) (q : Option Placement) → p (started_run t a w q) ≡ true → list_any p (open_starts (front ++ Start t a w q ∷ between)) ≡ false → EndAttempt t a between
ends_between p front between t a w q is none =
    ended_from t a between
    (closed_by p (started_run t a w q) (open_starts between) (list_any (is_end_of t a) between) is (none_behind p front (Start t a w q ∷ between) none))

-- between two starts of a test stands the end of the first one
pub one_of_test : (plan : PlanParts) (front between rest : List Entry) (t a b v w : ℕ) (p q : Option Placement) → is_legal plan (front ++ Start t a v p ∷ between ++ Start t b w q ∷ rest) ≡ true → EndAttempt t a between
one_of_test plan front between rest t a b v w p q legal =
    ends_between (λ r. r.test == t) front between t a v p (eq_same t) (second_start plan front between rest (Start t a v p) t b w q legal).closed

-- between two starts by a worker stands the end of the first one
pub one_of_worker : (plan : PlanParts) (front between rest : List Entry) (t a u b w : ℕ) (p q : Option Placement) → is_legal plan (front ++ Start t a w p ∷ between ++ Start u b w q ∷ rest) ≡ true → EndAttempt t a between
one_of_worker plan front between rest t a u b w p q legal =
    ends_between (λ r. r.worker == w) front between t a w p (eq_same w) (second_start plan front between rest (Start t a w p) u b w q legal).idle

way_behind : (t a w : ℕ) (x : Entry) (es : List Entry) → LeaveOpen t a w es → LeaveOpen t a w (x ∷ es)
way_behind t a w x es way = record {
  before = x ∷ way.before;
  placement = way.placement;
  behind = way.behind;
  started = ap (λ more. x ∷ more) way.started;
  unended = way.unended;
}

abbrev is_held : ℕ → ℕ → ℕ → Running → Bool
is_held t a w r = r.test == t && r.attempt == a && r.worker == w

way_here : (t a w u b v : ℕ) (q : Option Placement) (es : List Entry) → list_any (is_end_of u b) es ≡ false → is_held t a w (started_run u b v q) ≡ true → LeaveOpen t a w (Start u b v q ∷ es)
way_here t a w u b v q es none is =
    let most = and_parts (u == t && b == a) (v == w) is in
    let both = and_parts (u == t) (b == a) most.0 in
    let test = eqb-true u t both.0 in
    let attempt = eqb-true b a both.1 in
    let worker = eqb-true v w most.1 in
    let waits : list_any (is_end_of t a) es ≡ false = subst (λ (k : ℕ). list_any (is_end_of t k) es ≡ false) attempt (subst (λ (k : ℕ). list_any (is_end_of k b) es ≡ false) test none) in
    record {
      before = [];
      placement = q;
      behind = es;
      started = λ i. Start (test i) (attempt i) (worker i) q ∷ es;
      unended = λ ended. true≢false (sym (ended_any t a es ended) ∙ waits);
    }

way_by : (t a w u b v : ℕ) (q : Option Placement) (es : List Entry) → (list_any (is_held t a w) (open_starts es) ≡ true → LeaveOpen t a w es) → (ended : Bool) → list_any (is_end_of u b) es ≡ ended
    → list_any (is_held t a w) (cons_option (cond ended None (Some (started_run u b v q))) (open_starts es)) ≡ true → LeaveOpen t a w (Start u b v q ∷ es)
way_by t a w u b v q es later true is holds = way_behind t a w (Start u b v q) es (later holds)
way_by t a w u b v q es later false is holds = elim (cases_Bool (is_held t a w (started_run u b v q))) [
  | inl here ↦ way_here t a w u b v q es is here
  | inr other ↦ way_behind t a w (Start u b v q) es (later (sym (ap (λ c. c || list_any (is_held t a w) (open_starts es)) other) ∙ holds))
]

-- a start that is held was made, and has not ended
pub under_way : (t a w : ℕ) (es : List Entry) → holds_start t a w es ≡ true → LeaveOpen t a w es
under_way t a w [] holds = cc
under_way t a w (Start u b v q ∷ es) holds = way_by t a w u b v q es (under_way t a w es) (list_any (is_end_of u b) es) refl holds
under_way t a w (End u b v s ∷ es) holds = way_behind t a w (End u b v s) es (under_way t a w es holds)
under_way t a w (Settle u c ∷ es) holds = way_behind t a w (Settle u c) es (under_way t a w es holds)
under_way t a w (Stop ∷ es) holds = way_behind t a w Stop es (under_way t a w es holds)

-- an attempt ends behind its start
pub ends_own_start : (plan : PlanParts) (front rest : List Entry) (t a w : ℕ) (s : Seen) → is_legal plan (front ++ End t a w s ∷ rest) ≡ true → LeaveOpen t a w front
ends_own_start plan front rest t a w s legal =
    under_way t a w front (and_parts (not (is_stop_due plan front)) (holds_start t a w front) (cut plan front (End t a w s) rest legal).allowed).1
