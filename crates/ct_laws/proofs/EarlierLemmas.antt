-- What holds at a Start holds behind earlier entries too, where its attempt is the next one there and the tests
-- in front of it are final.
use Rattle.std.proofs.Common.{◌≡◌, ◌∙◌, sym, ap, subst, refl, ℕ, ◌+◌, Bool, true, false, cond, List, [], ◌∷◌, ◌++◌, length, append_assoc, arith, inl, inr}
use Rattle.std.specs.Prelude.{◌&&◌, ◌||◌, ◌==◌, not, find, is_none, is_some, nat_le, Option, Some, None}
use Rattle.std.specs.List.{list_all, list_any}
use Rattle.std.proofs.lemmas.Bool.{and_from, and_parts, cases_Bool, eqb-true, le-leb, leb-true, or_parts, true≢false}
use Rattle.std.proofs.lemmas.List.{append-nil}
use Rattle.std.proofs.lemmas.List.Folds.{list_any-append}
use Rattle.std.proofs.lemmas.List.Sums.{sum_by-append}
use Rattle.ct_base.specs.declared.defs.Need.{Need}
use Rattle.ct_base.specs.declared.defs.Resource.{Resource}
use Rattle.ct_alloc.specs.declared.placement.Pick.{Pick}
use Rattle.ct_alloc.specs.declared.placement.Placement.{Placement}
use Rattle.ct_alloc.specs.Placement.{fits_beside, fits_from, is_placement, slots_at}
use Rattle.ct_verdict.specs.declared.verdict.Cause.{Cause}
use Rattle.ct_verdict.specs.declared.verdict.Verdict.{Verdict}
use Rattle.ct_history.specs.declared.plan.PlanTest.{PlanTest}
use Rattle.ct_history.specs.declared.plan.PlanParts.{PlanParts}
use Rattle.ct_history.specs.declared.history.Entry.{Entry}
use Rattle.ct_history.specs.declared.history.Entry.TheVariants.{Start}
use Rattle.ct_history.specs.Plan.{IsSound, has_sound_links, is_before_rank, test_at}
use Rattle.ct_history.specs.History.{Running, attempts_of, has_stop, is_open_in, is_stop, open_starts, used_slots}
use Rattle.ct_history.specs.Verdicts.{is_final_in, verdict_at, verdict_in, verdict_of_test}
use Rattle.ct_history.specs.Rules.{first_unpassed, follows_finals, is_passed_verdict, is_placed}
use Rattle.ct_history.specs.Legal.{are_allowed_behind, is_allowed, is_allowed_so_far, is_legal, is_next_attempt, is_stop_due}
use Rattle.ct_history.proofs.FinalLemmas.{verdict_stays}
use Rattle.ct_history.proofs.LegalLemmas.{legal_allowed}
use Rattle.ct_history.proofs.MayLemmas.{MayStart, pending-parts}
use Rattle.ct_history.proofs.ProgressLemmas.{all_found}
use Rattle.ct_explain.specs.Waits.{IsElseReady, wait_of}
use Rattle.ct_explain.specs.declared.wait.Wait.TheVariants.{Nothing}
use Rattle.ct_explain.proofs.NothingLemmas.{allowed_by_nothing, meets_each}
use Rattle.ct_laws.specs.Places.{starts_test, started_attempts}
use Rattle.ct_laws.proofs.CutLemmas.{cut}
use Rattle.ct_laws.proofs.NumberLemmas.{counted, none_open, open-cons, open_of}
use Rattle.ct_laws.proofs.OverLemmas.{looked_up, there_is}
use Rattle.ct_laws.proofs.PlaceLemmas.{own_number, start_at}
use Rattle.ct_laws.proofs.StopLemmas.{not_due}

-- entries that are allowed behind others, cut in two
split : (plan : PlanParts) (before xs ys : List Entry) → are_allowed_behind plan before (xs ++ ys) ≡ true → (are_allowed_behind plan before xs ≡ true) × (are_allowed_behind plan (before ++ xs) ys ≡ true)
split plan before [] ys allowed = (refl, subst (λ (es : List Entry). are_allowed_behind plan es ys ≡ true) (sym (append-nil before)) allowed)
split plan before (x ∷ xs) ys allowed =
    let both = and_parts (is_allowed plan before x) (are_allowed_behind plan (before ++ x ∷ []) (xs ++ ys)) allowed in
    let later = split plan (before ++ x ∷ []) xs ys both.1 in (
      and_from (is_allowed plan before x) (are_allowed_behind plan (before ++ x ∷ []) xs) both.0 later.0,
      subst (λ (es : List Entry). are_allowed_behind plan es ys ≡ true) (append_assoc before (x ∷ []) xs) later.1,
    )

-- where a Start stands behind entries with no Stop, no Stop is due in front of them
none_due : (plan : PlanParts) (front between rest : List Entry) (n a w : ℕ) (p : Option Placement) → has_stop between ≡ false → are_allowed_behind plan front (between ++ Start n a w p ∷ rest) ≡ true → is_stop_due plan front ≡ false
none_due plan front [] rest n a w p none allowed =
    not_due plan front (Start n a w p) refl (and_parts (is_allowed plan front (Start n a w p)) (are_allowed_behind plan (front ++ Start n a w p ∷ []) rest) allowed).0
none_due plan front (e ∷ es) rest n a w p none allowed =
    not_due plan front e (or_parts (is_stop e) (has_stop es) none).0 (and_parts (is_allowed plan front e) (are_allowed_behind plan (front ++ e ∷ []) (es ++ Start n a w p ∷ rest)) allowed).0

-- a final test keeps its verdict, whatever is allowed behind
verdict_kept : (plan : PlanParts) (t : PlanTest) (at : test_at plan.tests t.number ≡ Some t) (es more : List Entry) (v : Verdict) → are_allowed_behind plan es more ≡ true → verdict_in plan.repeat t es ≡ Some v → verdict_in plan.repeat t (es ++ more) ≡ Some v
verdict_kept plan t at es [] v allowed is = ap (verdict_in plan.repeat t) (append-nil es) ∙ is
verdict_kept plan t at es (e ∷ more) v allowed is =
    let both = and_parts (is_allowed plan es e) (are_allowed_behind plan (es ++ e ∷ []) more) allowed in
    ap (verdict_in plan.repeat t) (sym (append_assoc es (e ∷ []) more)) ∙ verdict_kept plan t at (es ++ e ∷ []) more v both.1 (verdict_stays plan t at es v is e both.0)

own_place : (plan : PlanParts) (n : ℕ) (t : PlanTest) → test_at plan.tests n ≡ Some t → test_at plan.tests t.number ≡ Some t
own_place plan n t found = ap (test_at plan.tests) (own_number plan n t found) ∙ found

number_kept : (plan : PlanParts) (es more : List Entry) → are_allowed_behind plan es more ≡ true → (n : ℕ) (v : Verdict) → verdict_of_test plan es n ≡ Some v → verdict_of_test plan (es ++ more) n ≡ Some v
number_kept plan es more allowed n v is =
    let found = looked_up plan es (test_at plan.tests n) (ap is_some is) in
    let t = found.0 in
    let here : verdict_in plan.repeat t es ≡ Some v = subst (λ (o : Option PlanTest). verdict_at plan es o ≡ Some v) found.1 is in
    subst (λ (o : Option PlanTest). verdict_at plan (es ++ more) o ≡ Some v) (sym found.1) (verdict_kept plan t (own_place plan n t found.1) es more v allowed here)

-- a test that is not final later is not final before
unfinished_before : (plan : PlanParts) (t : PlanTest) (at : test_at plan.tests t.number ≡ Some t) (es more : List Entry) → are_allowed_behind plan es more ≡ true → is_final_in plan.repeat t (es ++ more) ≡ false → is_final_in plan.repeat t es ≡ false
unfinished_before plan t at es more allowed unfinished = elim (cases_Bool (is_final_in plan.repeat t es)) [
  | inl final ↦
      let has = there_is (verdict_in plan.repeat t es) final in
      absurd (true≢false (sym (ap is_some (verdict_kept plan t at es more has.0 allowed has.1)) ∙ unfinished))
  | inr other ↦ other
]

none_from_count : (n : ℕ) (rs : List Running) → open_of n rs ≡ 0 → list_any (λ (r : Running). r.test == n) rs ≡ false
none_from_count n [] none = refl
none_from_count n (r ∷ rs) none = by (r.test == n) (open-cons n r rs) (λ zero. none_from_count n rs zero)
  where
    by : (b : Bool) → open_of n (r ∷ rs) ≡ cond b 1 0 + open_of n rs → (open_of n rs ≡ 0 → list_any (λ (q : Running). q.test == n) rs ≡ false) → (b || list_any (λ (q : Running). q.test == n) rs) ≡ false
    by true is rest = absurd (omega (arith, is, none))
    by false is rest = rest (omega (arith, is, none))

-- a test that is not open later, where as many of its attempts have ended as before, was not open before
closed_before : (plan : PlanParts) (t : PlanTest) (es more : List Entry) → is_allowed_so_far plan es ≡ true → is_allowed_so_far plan (es ++ more) ≡ true → length (attempts_of t.number t.rules es) ≡ length (attempts_of t.number t.rules (es ++ more)) → is_open_in t.number (es ++ more) ≡ false
    → is_open_in t.number es ≡ false
closed_before plan t es more so_far further same closed =
    let n = t.number in
    let before : started_attempts n es ≡ length (attempts_of n t.rules es) + open_of n (open_starts es) = counted n t.rules plan es so_far in
    let behind : started_attempts n (es ++ more) ≡ length (attempts_of n t.rules (es ++ more)) + open_of n (open_starts (es ++ more)) = counted n t.rules plan (es ++ more) further in
    let none : open_of n (open_starts (es ++ more)) ≡ 0 = none_open n (open_starts (es ++ more)) closed in
    let both : started_attempts n (es ++ more) ≡ started_attempts n es + started_attempts n more = sum_by-append (λ (e : Entry). cond (starts_test n e) 1 0) es more in
    none_from_count n (open_starts es) (omega (arith, before, behind, none, both, same))

at_number : (p : ℕ → Bool) (s : ℕ) (ns : List ℕ) → list_all p ns ≡ true → list_any (λ j. j == s) ns ≡ true → p s ≡ true
at_number p s [] all any = cc
at_number p s (n ∷ ns) all any =
    let both = and_parts (p n) (list_all p ns) all in
    elim (cases_Bool (n == s)) [
      | inl here ↦ subst (λ (k : ℕ). p k ≡ true) (eqb-true n s here) both.0
      | inr other ↦ at_number p s ns both.1 (sym (ap (λ b. b || list_any (λ j. j == s) ns) other) ∙ any)
    ]

-- setups that have passed later, and are final before, have passed before
module _ (before later : ℕ → Option Verdict) (keeps : (n : ℕ) (v : Verdict) → before n ≡ Some v → later n ≡ Some v) (finals : List ℕ) (final : list_all (λ j. is_some (before j)) finals ≡ true) where
  passed_then : (s : ℕ) → list_any (λ j. j == s) finals ≡ true → is_passed_verdict (later s) ≡ true → is_passed_verdict (before s) ≡ true
  passed_then s among passed =
      let has = there_is (before s) (at_number (λ j. is_some (before j)) s finals final among) in
      ap is_passed_verdict (has.1 ∙ sym (keeps s has.0 has.1)) ∙ passed

  all_passed : (setups : List ℕ) → list_all (λ s. list_any (λ j. j == s) finals) setups ≡ true → is_none (find (λ s. not (is_passed_verdict (later s))) setups) ≡ true → find (λ s. not (is_passed_verdict (before s))) setups ≡ None
  all_passed [] among none = refl
  all_passed (s ∷ setups) among none =
      let both = and_parts (list_any (λ j. j == s) finals) (list_all (λ s. list_any (λ j. j == s) finals) setups) among in
      elim (cases_Bool (is_passed_verdict (later s))) [
        | inl passed ↦
            let rest = sym (ap (λ b. is_none (cond (not b) (Some s) (find (λ t. not (is_passed_verdict (later t))) setups))) passed) ∙ none in
            ap (λ b. cond (not b) (Some s) (find (λ t. not (is_passed_verdict (before t))) setups)) (passed_then s both.0 passed) ∙ all_passed setups both.1 rest
        | inr other ↦
            let some : is_none (Some s) ≡ true = sym (ap (λ b. is_none (cond (not b) (Some s) (find (λ t. not (is_passed_verdict (later t))) setups))) other) ∙ none in
            absurd (true≢false (sym some))
      ]

fits_alone : (place : ℕ) (rs : List Resource) (used : ℕ → ℕ) (picks : List Pick) → fits_from place rs used picks ≡ true → fits_from place rs (λ (at : ℕ). 0) picks ≡ true
fits_alone place [] used picks fits = refl
fits_alone place (r ∷ rs) used picks fits =
    let both = and_parts (nat_le (used place + slots_at place picks) r.slots) (fits_from (place + 1) rs used picks) fits in
    let most = leb-true (used place + slots_at place picks) r.slots both.0 in
    and_from (nat_le (0 + slots_at place picks) r.slots) (fits_from (place + 1) rs (λ (at : ℕ). 0) picks) (le-leb (0 + slots_at place picks) r.slots (omega (arith, most))) (fits_alone (place + 1) rs used picks both.1)

-- a placement that is right beside some used slots is right where no slot is used
placed_alone : (resources : Option (List Resource)) (needs : List Need) (used : ℕ → ℕ) (placement : Option Placement) → is_placed resources needs used placement ≡ true → is_placed resources needs (λ (at : ℕ). 0) placement ≡ true
placed_alone None needs used placement right = right
placed_alone (Some rs) [] used placement right = right
placed_alone (Some rs) (need ∷ needs) used None right = cc
placed_alone (Some rs) (need ∷ needs) used (Some p) right =
    let both = and_parts (is_placement rs (need ∷ needs) p.picks) (fits_beside rs used p.picks) right in
    and_from (is_placement rs (need ∷ needs) p.picks) (fits_beside rs (λ (at : ℕ). 0) p.picks) both.0 (fits_alone 0 rs used p.picks both.1)

no_cause : (fixed : Option Cause) → is_none fixed ≡ true → fixed ≡ None
no_cause None none = refl
no_cause (Some cause) none = cc

same_found : (o : Option PlanTest) (t u : PlanTest) → o ≡ Some t → o ≡ Some u → t ≡ u
same_found o t u one other =
    let both : Some t ≡ Some u = sym one ∙ other in
    (cc)

-- behind entries in front of a Start, where its attempt is the next one and the tests in front of it are final,
-- nothing else forbids that Start
ready_before : (plan : PlanParts) (front between rest : List Entry) (t : PlanTest) (n a w : ℕ) (p : Option Placement) → IsSound plan → test_at plan.tests n ≡ Some t → is_legal plan (front ++ between ++ Start n a w p ∷ rest) ≡ true
    → is_next_attempt t a front ≡ true → follows_finals plan t front ≡ true → IsElseReady plan front t p
ready_before plan front between rest t n a w p sound found legal next final =
    let now = front ++ between in
    let at = cut plan now (Start n a w p) rest legal in
    let begins = (start_at plan now rest n a w p legal).begins in
    let whole : is_legal plan (front ++ (between ++ Start n a w p ∷ rest)) ≡ true = subst (λ (es : List Entry). is_legal plan es ≡ true) (append_assoc front between (Start n a w p ∷ rest)) legal in
    let same : begins.test ≡ t = same_found (test_at plan.tests n) begins.test t begins.found found in
    let may = subst (λ (u : PlanTest). MayStart plan u p now) same begins.may in
    let later : is_next_attempt t a now ≡ true = subst (λ (u : PlanTest). is_next_attempt u a now ≡ true) same begins.next in
    let parts = pending-parts plan t now may.pending in
    let halves = split plan [] front between at.so_far in
    let number = own_place plan n t found in
    let stops = or_parts (has_stop front) (has_stop between) (sym (list_any-append is_stop front between) ∙ may.goes_on) in
    let behind = split plan [] front (between ++ Start n a w p ∷ rest) (legal_allowed plan (front ++ (between ++ Start n a w p ∷ rest)) whole) in
    let ready = and_parts (follows_finals plan t now && is_none (first_unpassed plan t now)) (is_none t.fixed) may.ready in
    let unpassed = (and_parts (follows_finals plan t now) (is_none (first_unpassed plan t now)) ready.0).1 in
    let links = and_parts (list_all (λ j. is_before_rank t.rank (test_at plan.tests j)) t.before) (list_all (λ s. list_any (λ j. j == s) t.before) t.setups)
    (all_found (has_sound_links plan.tests) (λ (u : PlanTest). u.number == n) plan.tests t sound.links found) in
    let ended : a ≡ length (attempts_of t.number t.rules front) + 1 = eqb-true a _ next in
    let ended_later : a ≡ length (attempts_of t.number t.rules now) + 1 = eqb-true a _ later in
    let closed = closed_before plan t front between halves.0 at.so_far (omega (arith, ended, ended_later)) parts.closed in
    let unfinished = unfinished_before plan t number front between halves.1 parts.unfinished in
    record {
      no_stop_due = none_due plan front between rest n a w p stops.1 behind.1;
      goes_on = stops.0;
      pending = and_from (not (is_final_in plan.repeat t front)) (not (is_open_in t.number front)) (ap not unfinished) (ap not closed);
      setups = all_passed (verdict_of_test plan front) (verdict_of_test plan now) (number_kept plan front between halves.1) t.before final t.setups links.1 unpassed;
      fixed = no_cause t.fixed ready.1;
      placed = placed_alone plan.resources t.needs (used_slots now) p may.placed;
    }

-- an attempt that waits for nothing behind entries in front of its Start could have started there
pub could_start : (plan : PlanParts) (front between rest : List Entry) (t : PlanTest) (n a w : ℕ) (p : Option Placement) → IsSound plan → test_at plan.tests n ≡ Some t → is_legal plan (front ++ between ++ Start n a w p ∷ rest) ≡ true → wait_of plan front t a w p ≡ Nothing
    → is_allowed plan front (Start n a w p) ≡ true
could_start plan front between rest t n a w p sound found legal nothing =
    let meets = meets_each plan front t a w p nothing in
    let ready = ready_before plan front between rest t n a w p sound found legal meets.next meets.final in
    subst (λ (k : ℕ). is_allowed plan front (Start k a w p) ≡ true) (own_number plan n t found) (allowed_by_nothing plan front t a w p (own_place plan n t found) ready nothing)
