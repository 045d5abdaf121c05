-- The attempts of a test are numbered in order.
use Rattle.std.proofs.Common.{◌≡◌, ◌∙◌, sym, ap, subst, refl, ℕ, ◌+◌, Bool, true, false, cond, List, [], ◌∷◌, ◌++◌, length, filter, arith, inl, inr}
use Rattle.std.specs.Prelude.{◌&&◌, ◌||◌, ◌==◌, not, count_by, Option, Some, None}
use Rattle.std.specs.List.{list_any, cons_option}
use Rattle.std.proofs.lemmas.Bool.{and_parts, cases_Bool, eqb-true, or_left, or_parts, or_right}
use Rattle.std.proofs.lemmas.List.{length-append}
use Rattle.std.proofs.lemmas.List.Elements.{filter_map-append}
use Rattle.std.proofs.lemmas.List.Sums.{sum_by-cons, sum_by_push}
use Rattle.ct_alloc.specs.declared.placement.Placement.{Placement}
use Rattle.ct_verdict.specs.declared.attempt.Seen.{Seen}
use Rattle.ct_verdict.specs.Verdict.{verdict_of}
use Rattle.ct_verdict.specs.declared.rules.Rules.{Rules}
use Rattle.ct_history.specs.declared.plan.PlanParts.{PlanParts}
use Rattle.ct_history.specs.declared.history.Entry.{Entry}
use Rattle.ct_history.specs.declared.history.Entry.TheVariants.{Start, End, Settle, Stop}
use Rattle.ct_history.specs.History.{Running, attempt_by, attempts_of, holds_start, open_starts}
use Rattle.ct_history.specs.Legal.{is_allowed, is_allowed_so_far, is_legal, is_stop_due}
use Rattle.ct_history.proofs.ApartLemmas.{Differ, allowed_induction, differ-head, differ-tail, starts_apart}
use Rattle.ct_history.proofs.FinalLemmas.{attempts-snoc}
use Rattle.ct_history.proofs.LegalLemmas.{allowed-snoc}
use Rattle.ct_history.proofs.OpenLemmas.{filter_none, is_of, open_starts-end, open_starts-snoc, opens_settle, opens_stop}
use Rattle.ct_laws.specs.Places.{starts_test, started_attempts}
use Rattle.ct_laws.proofs.CutLemmas.{cut}
use Rattle.ct_laws.proofs.PlaceLemmas.{start_at}

any_more : (p q : Running → Bool) → ((r : Running) → p r ≡ true → q r ≡ true) → (rs : List Running) → list_any p rs ≡ true → list_any q rs ≡ true
any_more p q holds [] any = cc
any_more p q holds (r ∷ rs) any = elim (cases_Bool (p r)) [
  | inl here ↦ or_left (q r) (list_any q rs) (holds r here)
  | inr other ↦ or_right (q r) (list_any q rs) (any_more p q holds rs (sym (ap (λ (b : Bool). b || list_any p rs) other) ∙ any))
]

any_held : (t a w : ℕ) (rs : List Running) → list_any (λ (r : Running). r.test == t && r.attempt == a && r.worker == w) rs ≡ true → list_any (is_of t a) rs ≡ true
any_held t a w rs any =
    any_more (λ (r : Running). r.test == t && r.attempt == a && r.worker == w) (is_of t a) (λ r is. (and_parts (is_of t a r) (r.worker == w) is).0) rs any

-- one where the test is passed
abbrev one_if : Bool → ℕ
one_if b = cond b 1 0

module _ (n : ℕ) where
  -- how many of these starts are of the test
  abbrev pub open_of : List Running → ℕ
  open_of rs = count_by (λ (r : Running). r.test == n) rs

  pub open-cons : (r : Running) (rs : List Running) → open_of (r ∷ rs) ≡ cond (r.test == n) 1 0 + open_of rs
  open-cons r rs = sum_by-cons (λ (q : Running). cond (q.test == n) 1 0) r rs

  pub none_open : (rs : List Running) → list_any (λ (r : Running). r.test == n) rs ≡ false → open_of rs ≡ 0
  none_open [] none = refl
  none_open (r ∷ rs) none =
      let both = or_parts (r.test == n) (list_any (λ (q : Running). q.test == n) rs) none in
      open-cons r rs ∙ ap (λ (b : Bool). cond b 1 0 + open_of rs) both.0 ∙ ap (λ (k : ℕ). 0 + k) (none_open rs both.1)

  -- an End of an open start leaves one less
  closes_one : (m a : ℕ) (rs : List Running) → Differ (λ r. r.test) rs → list_any (is_of m a) rs ≡ true → open_of (filter (λ r. not (is_of m a r)) rs) + cond (m == n) 1 0 ≡ open_of rs
  closes_one m a [] apart any = cc
  closes_one m a (r ∷ rs) apart any = elim (cases_Bool (is_of m a r)) [
    | inl here ↦
        let test : r.test ≡ m = eqb-true r.test m (and_parts (r.test == m) (r.attempt == a) here).0 in
        let none : list_any (λ (q : Running). q.test == m) rs ≡ false = subst (λ (k : ℕ). list_any (λ (q : Running). q.test == k) rs ≡ false) test (differ-head (λ q. q.test) r rs apart) in
        let left : open_of (filter (λ q. not (is_of m a q)) (r ∷ rs)) ≡ open_of rs =
        ap (λ (b : Bool). open_of (cond (not b) (r ∷ filter (λ q. not (is_of m a q)) rs) (filter (λ q. not (is_of m a q)) rs))) here
        ∙ ap open_of (filter_none m a rs none) in
        let same : one_if (r.test == n) ≡ one_if (m == n) = ap (λ (k : ℕ). one_if (k == n)) test in
        omega (arith, left, same, open-cons r rs)
    | inr other ↦
        let rest = filter (λ q. not (is_of m a q)) rs in
        let left : open_of (filter (λ q. not (is_of m a q)) (r ∷ rs)) ≡ open_of (r ∷ rest) = ap (λ (b : Bool). open_of (cond (not b) (r ∷ rest) rest)) other in
        let any_later : list_any (is_of m a) rs ≡ true = sym (ap (λ (b : Bool). b || list_any (is_of m a) rs) other) ∙ any in
        let later : open_of rest + cond (m == n) 1 0 ≡ open_of rs = closes_one m a rs (differ-tail (λ q. q.test) r rs apart) any_later in
        omega (arith, left, later, open-cons r rest, open-cons r rs)
  ]

  module _ (rules : Rules) where
    -- each attempt that was started has ended or is open
    abbrev pub AreCounted : List Entry → Type 0
    AreCounted es = started_attempts n es ≡ length (attempts_of n rules es) + open_of (open_starts es)

    starts-snoc : (es : List Entry) (e : Entry) → started_attempts n (es ++ e ∷ []) ≡ started_attempts n es + cond (starts_test n e) 1 0
    starts-snoc es e = sum_by_push (λ x. cond (starts_test n x) 1 0) es e

    one_verdict : (b : Bool) (seen : Seen) → length (cons_option (cond b (Some (verdict_of rules seen)) None) []) ≡ cond b 1 0
    one_verdict true seen = omega arith
    one_verdict false seen = omega arith

    ends-snoc : (es : List Entry) (m a w : ℕ) (s : Seen) → length (attempts_of n rules (es ++ End m a w s ∷ [])) ≡ length (attempts_of n rules es) + cond (m == n) 1 0
    ends-snoc es m a w s =
        let more = cons_option (cond (m == n) (Some (verdict_of rules s)) None) [] in
        let split : length (attempts_of n rules (es ++ End m a w s ∷ [])) ≡ length (attempts_of n rules es ++ more) = ap length (filter_map-append (attempt_by n rules) es (End m a w s ∷ [])) in
        omega (arith, split, length-append (attempts_of n rules es) more, one_verdict (m == n) s)

    counted-snoc : (plan : PlanParts) (es : List Entry) (e : Entry) → is_allowed_so_far plan es ≡ true → is_allowed plan es e ≡ true → AreCounted es → AreCounted (es ++ e ∷ [])
    counted-snoc plan es (Start m a w p) so_far allowed known =
        let run : Running = record { test = m; attempt = a; worker = w; placement = p } in
        let ends : length (attempts_of n rules (es ++ Start m a w p ∷ [])) ≡ length (attempts_of n rules es) = ap length (attempts-snoc n rules es (Start m a w p) refl) in
        let opens : open_of (open_starts (es ++ Start m a w p ∷ [])) ≡ open_of (open_starts es) + cond (m == n) 1 0 =
        ap open_of (open_starts-snoc es (Start m a w p) refl) ∙ sum_by_push (λ (q : Running). cond (q.test == n) 1 0) (open_starts es) run in
        omega (arith, known, starts-snoc es (Start m a w p), ends, opens)
    counted-snoc plan es (End m a w s) so_far allowed known =
        let held = (and_parts (not (is_stop_due plan es)) (holds_start m a w es) allowed).1 in
        let closes = closes_one m a (open_starts es) (starts_apart plan es so_far).tests (any_held m a w (open_starts es) held) in
        let opens : open_of (open_starts (es ++ End m a w s ∷ [])) ≡ open_of (filter (λ r. not (is_of m a r)) (open_starts es)) = ap open_of (open_starts-end es m a w s) in
        let starts : started_attempts n (es ++ End m a w s ∷ []) ≡ started_attempts n es + 0 = starts-snoc es (End m a w s) in
        omega (arith, known, starts, ends-snoc es m a w s, opens, closes)
    counted-snoc plan es (Settle m c) so_far allowed known =
        let ends : length (attempts_of n rules (es ++ Settle m c ∷ [])) ≡ length (attempts_of n rules es) = ap length (attempts-snoc n rules es (Settle m c) refl) in
        let opens : open_of (open_starts (es ++ Settle m c ∷ [])) ≡ open_of (open_starts es) = ap open_of (opens_settle es m c) in
        let starts : started_attempts n (es ++ Settle m c ∷ []) ≡ started_attempts n es + 0 = starts-snoc es (Settle m c) in
        omega (arith, known, starts, ends, opens)
    counted-snoc plan es Stop so_far allowed known =
        let ends : length (attempts_of n rules (es ++ Stop ∷ [])) ≡ length (attempts_of n rules es) = ap length (attempts-snoc n rules es Stop refl) in
        let opens : open_of (open_starts (es ++ Stop ∷ [])) ≡ open_of (open_starts es) = ap open_of (opens_stop es) in
        let starts : started_attempts n (es ++ Stop ∷ []) ≡ started_attempts n es + 0 = starts-snoc es Stop in
        omega (arith, known, starts, ends, opens)

    pub counted : (plan : PlanParts) (es : List Entry) → is_allowed_so_far plan es ≡ true → AreCounted es
    counted plan es so_far =
        (allowed_induction plan (λ xs. (is_allowed_so_far plan xs ≡ true) × AreCounted xs)
        (λ xs e allowed known. (allowed-snoc plan xs e known.0 allowed, counted-snoc plan xs e known.0 allowed known.1)) (refl, refl) es so_far).1

-- an attempt is one more than the starts of its test in front of it
pub numbered : (plan : PlanParts) (front rest : List Entry) (n a w : ℕ) (p : Option Placement) → is_legal plan (front ++ Start n a w p ∷ rest) ≡ true → a ≡ started_attempts n front + 1
numbered plan front rest n a w p legal =
    let start = start_at plan front rest n a w p legal in
    let rules = start.begins.test.rules in
    let next : a ≡ length (attempts_of start.begins.test.number rules front) + 1 = eqb-true a _ start.begins.next in
    let same : length (attempts_of start.begins.test.number rules front) ≡ length (attempts_of n rules front) = ap (λ (k : ℕ). length (attempts_of k rules front)) start.number in
    let all = counted n rules plan front (cut plan front (Start n a w p) rest legal).so_far in
    let none = none_open n (open_starts front) start.closed in
    omega (arith, next, same, all, none)
