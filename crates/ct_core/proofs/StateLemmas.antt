-- The state of one test, with one more entry.
use Rattle.std.proofs.Common.{◌≡◌, ◌∙◌, sym, ap, subst, Bool, true, false, ℕ, ◌+◌, ◌<◌, ◌^◌, List, [], ◌∷◌, ◌++◌, length, refl, arith, inl, inr, length-append}
use Rattle.std.specs.Prelude.{Option, Some, None, is_some, not, ◌&&◌, ◌||◌, ◌==◌, cond, find, filter, filter_map, if◌then◌else◌}
use Rattle.std.specs.List.{list_any, cons_option}
use Rattle.std.proofs.lemmas.Bool.{cases_Bool, eq-eqb}
use Rattle.std.proofs.lemmas.List.Elements.{filter_map-append}
use Rattle.ct_alloc.specs.declared.placement.Placement.{Placement}
use Rattle.ct_verdict.specs.declared.attempt.Seen.{Seen}
use Rattle.ct_verdict.specs.declared.repeat.Repeat.{Repeat}
use Rattle.ct_verdict.specs.declared.verdict.Cause.{Cause}
use Rattle.ct_verdict.specs.declared.verdict.Verdict.{Verdict}
use Rattle.ct_verdict.specs.declared.verdict.Verdict.TheVariants.{Disabled, NotRun}
use Rattle.ct_verdict.specs.Verdict.{is_repeated, verdict_of}
use Rattle.ct_history.specs.declared.plan.PlanTest.{PlanTest}
use Rattle.ct_history.specs.declared.plan.PlanParts.{PlanParts}
use Rattle.ct_history.specs.declared.history.Entry.{Entry}
use Rattle.ct_history.specs.declared.history.Entry.TheVariants.{Start, End, Settle, Stop}
use Rattle.ct_history.specs.Plan.{test_at}
use Rattle.ct_history.specs.History.{Running, attempt_by, attempts_of, holds_start, open_starts, settled_by, open_start_of_test}
use Rattle.ct_history.specs.Verdicts.{first_of_list, is_final_in, is_over, last_of_list, settled_cause, settled_or, verdict_at, verdict_in, verdict_of_test}
use Rattle.ct_history.specs.Rules.{is_pending}
use Rattle.ct_history.proofs.BoolLemmas.{eq_one}
use Rattle.ct_history.specs.Legal.{is_allowed_so_far}
use Rattle.ct_history.proofs.OpenLemmas.{is_of, open_starts-end, opens_settle, opens_stop}
use Rattle.ct_history.proofs.AttemptLemmas.{last_or-snoc}
use Rattle.ct_history.proofs.OtherLemmas.{verdict_in_other, attempts_other, is_about, settled_other}
use Rattle.ct_history.proofs.FinalLemmas.{attempts-snoc, settled-snoc}
use Rattle.ct_history.proofs.PartListLemmas.{find-filter}
use Rattle.ct_history.proofs.PlanLemmas.{find_new}
use Rattle.ct_core.specs.declared.state.State.{State}
use Rattle.ct_core.specs.declared.state.State.TheVariants.{Pending, Open, Final}
use Rattle.ct_core.specs.Standing.{is_pending_state, standing, state_of, verdict_of_state}
use Rattle.ct_core.proofs.OpenStartLemmas.{HasLeft, held_open, number_at, open_planned, start_opens, undecided}

-- some element of a list passes exactly if one is found
any_is_found : {A : Type 0} (p : A → Bool) (xs : List A) → list_any p xs ≡ is_some (find p xs)
any_is_found p [] = refl
any_is_found p (x ∷ xs) = elim (cases_Bool (p x)) [
  | inl here ↦ ap (λ (b : Bool). b || list_any p xs) here ∙ sym (ap (λ (b : Bool). is_some (cond b (Some x) (find p xs))) here)
  | inr other ↦
      ap (λ (b : Bool). b || list_any p xs) other ∙ any_is_found p xs ∙ sym (ap (λ (b : Bool). is_some (cond b (Some x) (find p xs))) other)
]

-- the verdict of a test by its own facts in a history: its open start, its cause, its attempts
abbrev verdict_from : Repeat → PlanTest → Option Running → Option Cause → List Verdict → Option Verdict
verdict_from repeat t start cause attempts =
    if t.disabled then Some Disabled else settled_or cause (if not (is_some start) && is_over repeat attempts then last_of_list attempts else None)

abbrev state_from : Repeat → PlanTest → Option Running → Option Cause → List Verdict → State
state_from repeat t start cause attempts = standing (verdict_from repeat t start cause attempts) start (length attempts)

verdict_is : (repeat : Repeat) (es : List Entry) (t : PlanTest) → verdict_in repeat t es ≡ verdict_from repeat t (open_start_of_test t.number es) (settled_cause t.number es) (attempts_of t.number t.rules es)
verdict_is repeat es t =
    ap (λ (b : Bool). if t.disabled then Some Disabled else settled_or (settled_cause t.number es) (if not b && is_over repeat (attempts_of t.number t.rules es) then last_of_list (attempts_of t.number t.rules es) else None))
    (any_is_found (λ (r : Running). r.test == t.number) (open_starts es))

-- a history's facts about one test: its open start, its cause and its attempts
record Says (t : PlanTest) (es : List Entry) (start : Option Running) (cause : Option Cause) (attempts : List Verdict) : Type 0 where
  opens : open_start_of_test t.number es ≡ start
  settled : settled_cause t.number es ≡ cause
  ended : attempts_of t.number t.rules es ≡ attempts

verdict_by : (repeat : Repeat) (es : List Entry) (t : PlanTest) (start : Option Running) (cause : Option Cause) (attempts : List Verdict) → Says t es start cause attempts → verdict_in repeat t es ≡ verdict_from repeat t start cause attempts
verdict_by repeat es t start cause attempts says =
    verdict_is repeat es t
    ∙ ap (λ (o : Option Running). verdict_from repeat t o (settled_cause t.number es) (attempts_of t.number t.rules es)) says.opens
    ∙ ap (λ (c : Option Cause). verdict_from repeat t start c (attempts_of t.number t.rules es)) says.settled
    ∙ ap (λ (vs : List Verdict). verdict_from repeat t start cause vs) says.ended

state_by : (repeat : Repeat) (es : List Entry) (t : PlanTest) (start : Option Running) (cause : Option Cause) (attempts : List Verdict) → Says t es start cause attempts → state_of repeat es t ≡ state_from repeat t start cause attempts
state_by repeat es t start cause attempts says =
    ap (λ (v : Option Verdict). standing v (open_start_of_test t.number es) (length (attempts_of t.number t.rules es))) (verdict_by repeat es t start cause attempts says)
    ∙ ap (λ (o : Option Running). standing (verdict_from repeat t start cause attempts) o (length (attempts_of t.number t.rules es))) says.opens
    ∙ ap (λ (vs : List Verdict). standing (verdict_from repeat t start cause attempts) start (length vs)) says.ended

find_more : {A : Type 0} (p : A → Bool) (xs : List A) (y : A) → p y ≡ false → find p (xs ++ y ∷ []) ≡ find p xs
find_more p [] y fails = ap (λ (b : Bool). cond b (Some y) None) fails
find_more p (x ∷ xs) y fails = ap (λ o. cond (p x) (Some x) o) (find_more p xs y fails)

find_gone : {A : Type 0} (p : A → Bool) (xs : List A) → find p (filter (λ x. not (p x)) xs) ≡ None
find_gone p [] = refl
find_gone p (x ∷ xs) = elim (cases_Bool (p x)) [
  | inl here ↦ ap (λ (b : Bool). find p (cond (not b) (x ∷ filter (λ y. not (p y)) xs) (filter (λ y. not (p y)) xs))) here ∙ find_gone p xs
  | inr other ↦
      ap (λ (b : Bool). find p (cond (not b) (x ∷ filter (λ y. not (p y)) xs) (filter (λ y. not (p y)) xs))) other
      ∙ ap (λ (b : Bool). cond b (Some x) (find p (filter (λ y. not (p y)) xs))) other
      ∙ find_gone p xs
]

-- an entry that is not about a test leaves its open start
pub open_other : (n : ℕ) (es : List Entry) (e : Entry) → is_about n e ≡ false → open_start_of_test n (es ++ e ∷ []) ≡ open_start_of_test n es
open_other n es (Start m a w p) other =
    ap (λ (rs : List Running). find (λ (r : Running). r.test == n) rs) (start_opens es m a w p)
    ∙ find_more (λ (r : Running). r.test == n) (open_starts es) (record { test = m; attempt = a; worker = w; placement = p }) other
open_other n es (End m a w s) other =
    ap (λ (rs : List Running). find (λ (r : Running). r.test == n) rs) (open_starts-end es m a w s)
    ∙ find-filter (λ (r : Running). r.test == n) (λ r. not (is_of m a r)) (λ r is. ap (λ (b : Bool). not (b && r.attempt == a)) (eq_one n m r.test other is)) (open_starts es)
open_other n es (Settle m c) other = ap (λ (rs : List Running). find (λ (r : Running). r.test == n) rs) (opens_settle es m c)
open_other n es Stop other = ap (λ (rs : List Running). find (λ (r : Running). r.test == n) rs) (opens_stop es)

says_same : (t : PlanTest) (es : List Entry) (e : Entry) → is_about t.number e ≡ false → Says t (es ++ e ∷ []) (open_start_of_test t.number es) (settled_cause t.number es) (attempts_of t.number t.rules es)
says_same t es e other = record {
  opens = open_other t.number es e other;
  settled = settled_other t.number es e other;
  ended = attempts_other t.number t.rules es e other;
}

says_itself : (t : PlanTest) (es : List Entry) → Says t es (open_start_of_test t.number es) (settled_cause t.number es) (attempts_of t.number t.rules es)
says_itself t es = record { opens = refl; settled = refl; ended = refl }

-- an entry that is not about a test leaves its state
pub state_other : (repeat : Repeat) (t : PlanTest) (es : List Entry) (e : Entry) → is_about t.number e ≡ false → state_of repeat (es ++ e ∷ []) t ≡ state_of repeat es t
state_other repeat t es e other =
    state_by repeat (es ++ e ∷ []) t (open_start_of_test t.number es) (settled_cause t.number es) (attempts_of t.number t.rules es) (says_same t es e other)
    ∙ sym (state_by repeat es t (open_start_of_test t.number es) (settled_cause t.number es) (attempts_of t.number t.rules es) (says_itself t es))

-- an entry that is not about a test leaves its verdict
pub verdict_other : (plan : PlanParts) (es : List Entry) (e : Entry) (n : ℕ) → is_about n e ≡ false → verdict_of_test plan (es ++ e ∷ []) n ≡ verdict_of_test plan es n
verdict_other plan es e n other = by_test (test_at plan.tests n) (λ t found. number_at plan.tests n t found)
  where
    by_test : (o : Option PlanTest) → ((t : PlanTest) → o ≡ Some t → t.number ≡ n) → verdict_at plan (es ++ e ∷ []) o ≡ verdict_at plan es o
    by_test None number = refl
    by_test (Some t) number = verdict_in_other plan.repeat t es e (ap (λ (m : ℕ). is_about m e) (number t refl) ∙ other)

-- a test is pending exactly if its state is
pub pending_state : (plan : PlanParts) (t : PlanTest) (es : List Entry) → is_pending plan t es ≡ is_pending_state (state_of plan.repeat es t)
pending_state plan t es =
    ap (λ (b : Bool). not (is_final_in plan.repeat t es) && not b) (any_is_found (λ (r : Running). r.test == t.number) (open_starts es))
    ∙ by_parts (verdict_in plan.repeat t es) (open_start_of_test t.number es) (length (attempts_of t.number t.rules es))
  where
    by_parts : (v : Option Verdict) (o : Option Running) (k : ℕ) → (not (is_some v) && not (is_some o)) ≡ is_pending_state (standing v o k)
    by_parts (Some v) o k = refl
    by_parts None (Some r) k = refl
    by_parts None None k = refl

pub pending_other : (plan : PlanParts) (t : PlanTest) (es : List Entry) (e : Entry) → is_about t.number e ≡ false → is_pending plan t (es ++ e ∷ []) ≡ is_pending plan t es
pending_other plan t es e other =
    pending_state plan t (es ++ e ∷ []) ∙ ap is_pending_state (state_other plan.repeat t es e other) ∙ sym (pending_state plan t es)

pub verdict_standing : (v : Option Verdict) (o : Option Running) (k : ℕ) → verdict_of_state (standing v o k) ≡ v
verdict_standing (Some v) o k = refl
verdict_standing None (Some r) k = refl
verdict_standing None None k = refl

pub verdict_state : (repeat : Repeat) (t : PlanTest) (es : List Entry) → verdict_of_state (state_of repeat es t) ≡ verdict_in repeat t es
verdict_state repeat t es = verdict_standing (verdict_in repeat t es) (open_start_of_test t.number es) (length (attempts_of t.number t.rules es))

-- in the empty history a test is final if it is disabled, else pending
pub state_first : (repeat : Repeat) (t : PlanTest) → state_of repeat [] t ≡ (if t.disabled then Final Disabled else Pending 0)
state_first repeat t = by_disabled t.disabled
  where
    by_disabled : (d : Bool) → standing (if d then Some Disabled else None) None 0 ≡ (if d then Final Disabled else Pending 0)
    by_disabled true = refl
    by_disabled false = refl

-- the state behind so many attempts, of which the last had
-- this verdict: the test is tried again, or final
abbrev pub state_after : Repeat → ℕ → Verdict → State
state_after repeat k v = if is_repeated repeat k (Some v) then Pending k else Final v

-- the state of the test with this number
module _ (plan : PlanParts) (es : List Entry) (n : ℕ) (t : PlanTest) (found : test_at plan.tests n ≡ Some t) where
  number : t.number ≡ n
  number = number_at plan.tests n t found

  is_number : (n == t.number) ≡ true
  is_number = eq-eqb n t.number (sym number)

  pending_none : is_pending plan t es ≡ true → open_start_of_test t.number es ≡ None
  pending_none pending = none (open_start_of_test t.number es) (sym (any_is_found (λ (r : Running). r.test == t.number) (open_starts es)) ∙ (undecided plan t es pending).closed)
    where
      none : (o : Option Running) → is_some o ≡ false → o ≡ None
      none None is = refl
      none (Some r) is = cc

  -- the state of a pending test
  pub state_pending : is_pending plan t es ≡ true → state_of plan.repeat es t ≡ Pending (length (attempts_of t.number t.rules es))
  state_pending pending = by_parts (verdict_in plan.repeat t es) (open_start_of_test t.number es) (sym (pending_state plan t es) ∙ pending)
    where
      by_parts : (v : Option Verdict) (o : Option Running) → is_pending_state (standing v o (length (attempts_of t.number t.rules es))) ≡ true → standing v o (length (attempts_of t.number t.rules es)) ≡ Pending (length (attempts_of t.number t.rules es))
      by_parts (Some v) o is = cc
      by_parts None (Some r) is = cc
      by_parts None None is = refl

  -- the state of an open test
  pub state_open : is_allowed_so_far plan es ≡ true → (r : Running) → open_start_of_test n es ≡ Some r → state_of plan.repeat es t ≡ Open (length (attempts_of t.number t.rules es)) r.placement
  state_open so_far r is =
      let opens = open_planned plan es n r so_far is in
      let none : verdict_in plan.repeat t es ≡ None = sym (ap (λ (o : Option PlanTest). verdict_at plan es o) found) ∙ opens.unfinished in
      let at : open_start_of_test t.number es ≡ Some r = ap (λ (m : ℕ). open_start_of_test m es) number ∙ is in
      let k = length (attempts_of t.number t.rules es) in
      ap (λ (v : Option Verdict). standing v (open_start_of_test t.number es) k) none ∙ ap (λ (o : Option Running). standing None o k) at

  -- a Start opens a pending test
  pub state_started : (a w : ℕ) (p : Option Placement) → is_pending plan t es ≡ true → state_of plan.repeat (es ++ Start n a w p ∷ []) t ≡ Open (length (attempts_of t.number t.rules es)) p
  state_started a w p pending =
      let begins = undecided plan t es pending in
      let start = Start n a w p in
      let run : Running = record { test = n; attempt = a; worker = w; placement = p } in
      let vs = attempts_of t.number t.rules es in
      let opens : open_start_of_test t.number (es ++ start ∷ []) ≡ Some run =
      ap (λ (rs : List Running). find (λ (r : Running). r.test == t.number) rs) (start_opens es n a w p)
      ∙ find_new (λ (r : Running). r.test == t.number) (open_starts es) run (pending_none pending) is_number in
      let says : Says t (es ++ start ∷ []) (Some run) None vs = record {
        opens = opens;
        settled = settled-snoc t.number es start refl ∙ begins.unsettled;
        ended = attempts-snoc t.number t.rules es start refl;
      } in
      state_by plan.repeat (es ++ start ∷ []) t (Some run) None vs says ∙ ap (λ (d : Bool). standing (if d then Some Disabled else None) (Some run) (length vs)) begins.enabled

  -- an End closes its test, which is then tried again or final
  pub state_ended : is_allowed_so_far plan es ≡ true → (a w : ℕ) (s : Seen) → holds_start n a w es ≡ true → state_of plan.repeat (es ++ End n a w s ∷ []) t ≡ state_after plan.repeat (length (attempts_of t.number t.rules es) + 1) (verdict_of t.rules s)
  state_ended so_far a w s holds =
      let held = held_open plan es n a w so_far holds in
      let both : Some held.test ≡ Some t = sym held.found ∙ found in
      let same : held.test ≡ t = cc in
      let end = End n a w s in
      let v = verdict_of t.rules s in
      let vs = attempts_of t.number t.rules es in
      let enabled : t.disabled ≡ false = sym (ap (λ (u : PlanTest). u.disabled) same) ∙ held.enabled in
      let unsettled : settled_cause t.number es ≡ None = sym (ap (λ (u : PlanTest). settled_cause u.number es) same) ∙ held.unsettled in
      let opens : open_start_of_test n (es ++ end ∷ []) ≡ None =
      ap (λ (rs : List Running). find (λ (r : Running). r.test == n) rs) (held.closes s) ∙ find_gone (λ (r : Running). r.test == n) (open_starts es) in
      let ended : attempts_of t.number t.rules (es ++ end ∷ []) ≡ vs ++ v ∷ [] =
      filter_map-append (attempt_by t.number t.rules) es (end ∷ []) ∙ ap (λ (b : Bool). vs ++ cons_option (if b then Some v else None) []) is_number in
      let says : Says t (es ++ end ∷ []) None None (vs ++ v ∷ []) = record {
        opens = ap (λ (m : ℕ). open_start_of_test m (es ++ end ∷ [])) number ∙ opens;
        settled = settled-snoc t.number es end refl ∙ unsettled;
        ended = ended;
      } in
      state_by plan.repeat (es ++ end ∷ []) t None None (vs ++ v ∷ []) says
      ∙ ap (λ (d : Bool). standing (if d then Some Disabled else (if is_over plan.repeat (vs ++ v ∷ []) then last_of_list (vs ++ v ∷ []) else None)) None (length (vs ++ v ∷ []))) enabled
      ∙ ap (λ (o : Option Verdict). standing (if not (is_repeated plan.repeat (length (vs ++ v ∷ [])) o) then o else None) None (length (vs ++ v ∷ []))) (last_or-snoc None vs v)
      ∙ ap (λ (k : ℕ). standing (if not (is_repeated plan.repeat k (Some v)) then Some v else None) None k) (length-append vs (v ∷ []))
      ∙ by_again (is_repeated plan.repeat (length vs + 1) (Some v)) (length vs + 1) v
    where
      by_again : (b : Bool) (k : ℕ) (v : Verdict) → standing (if not b then Some v else None) None k ≡ (if b then Pending k else Final v)
      by_again true k v = refl
      by_again false k v = refl

  -- a pending test that is settled is final
  pub state_settled : (c : Cause) → is_pending plan t es ≡ true → state_of plan.repeat (es ++ Settle n c ∷ []) t ≡ Final (NotRun c)
  state_settled c pending =
      let begins = undecided plan t es pending in
      let settle = Settle n c in
      let vs = attempts_of t.number t.rules es in
      let settled : settled_cause t.number (es ++ settle ∷ []) ≡ Some c =
      ap first_of_list (filter_map-append (settled_by t.number) es (settle ∷ []) ∙ ap (λ (b : Bool). filter_map (settled_by t.number) es ++ cons_option (if b then Some c else None) []) is_number)
      ∙ first-snoc (filter_map (settled_by t.number) es) c begins.unsettled in
      let says : Says t (es ++ settle ∷ []) None (Some c) vs = record {
        opens = ap (λ (rs : List Running). find (λ (r : Running). r.test == t.number) rs) (opens_settle es n c) ∙ pending_none pending;
        settled = settled;
        ended = attempts-snoc t.number t.rules es settle refl;
      } in
      state_by plan.repeat (es ++ settle ∷ []) t None (Some c) vs says ∙ ap (λ (d : Bool). standing (if d then Some Disabled else Some (NotRun c)) None (length vs)) begins.enabled
    where
      first-snoc : {A : Type 0} (xs : List A) (x : A) → first_of_list xs ≡ None → first_of_list (xs ++ x ∷ []) ≡ Some x
      first-snoc [] x none = refl
      first-snoc (y ∷ ys) x none = cc

  -- the verdict of a test behind one more entry is the verdict of its state
  verdict_behind : (e : Entry) (s : State) → state_of plan.repeat (es ++ e ∷ []) t ≡ s → verdict_of_test plan (es ++ e ∷ []) n ≡ verdict_of_state s
  verdict_behind e s is = ap (λ (o : Option PlanTest). verdict_at plan (es ++ e ∷ []) o) found ∙ sym (verdict_state plan.repeat t (es ++ e ∷ [])) ∙ ap verdict_of_state is

  pub verdict_started : (a w : ℕ) (p : Option Placement) → is_pending plan t es ≡ true → verdict_of_test plan (es ++ Start n a w p ∷ []) n ≡ None
  verdict_started a w p pending = verdict_behind (Start n a w p) (Open (length (attempts_of t.number t.rules es)) p) (state_started a w p pending)

  pub verdict_ended : is_allowed_so_far plan es ≡ true → (a w : ℕ) (s : Seen) → holds_start n a w es ≡ true → verdict_of_test plan (es ++ End n a w s ∷ []) n ≡ verdict_of_state (state_after plan.repeat (length (attempts_of t.number t.rules es) + 1) (verdict_of t.rules s))
  verdict_ended so_far a w s holds = verdict_behind (End n a w s) (state_after plan.repeat (length (attempts_of t.number t.rules es) + 1) (verdict_of t.rules s)) (state_ended so_far a w s holds)

  pub verdict_settled : (c : Cause) → is_pending plan t es ≡ true → verdict_of_test plan (es ++ Settle n c ∷ []) n ≡ Some (NotRun c)
  verdict_settled c pending = verdict_behind (Settle n c) (Final (NotRun c)) (state_settled c pending)

  -- the attempts of an open test and one more fit in 32 bits
  pub attempts_few : is_allowed_so_far plan es ≡ true → plan.repeat.times < 2 ^ 32 → (a w : ℕ) → holds_start n a w es ≡ true → length (attempts_of t.number t.rules es) + 1 < 2 ^ 32
  attempts_few so_far small a w holds =
      let held = held_open plan es n a w so_far holds in
      let both : Some held.test ≡ Some t = sym held.found ∙ found in
      let same : held.test ≡ t = cc in
      elim (subst (λ (u : PlanTest). HasLeft plan u es) same held.left) [
        | inl none ↦ omega (arith, none)
        | inr fewer ↦ omega (arith, fewer, small)
      ]
