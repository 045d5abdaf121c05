-- Each verdict of a complete legal history is the meant one, or the test was not run because a Stop stands.
use Rattle.std.proofs.Common.{◌≡◌, ◌∙◌, sym, ap, subst, Bool, true, false, ℕ, ◌+◌, ◌≤◌, ◌<◌, List, [], ◌∷◌, ◌++◌, length, refl, arith, append_assoc, inl, inr}
use Rattle.std.specs.Prelude.{Option, Some, None, find, is_none, is_some, not, option_map, ◌&&◌, ◌||◌, ◌==◌, ◌⊎◌, if◌then◌else◌}
use Rattle.std.specs.List.{list_all}
use Rattle.std.proofs.lemmas.Bool.{and_parts, and_from, cases_Bool, true≢false, or_right}
use Rattle.std.proofs.lemmas.Bool.Decides.{nat_tests}
use Rattle.std.proofs.lemmas.List.{append-nil}
use Rattle.std.proofs.lemmas.List.Folds.{list_all-append}
use Rattle.std.proofs.lemmas.List.FromFn.{length-map-range_with_len}
use Rattle.ct_base.proofs.TruthLemmas.{same_truth}
use Rattle.ct_base.proofs.OptionLemmas.{some_is}
use Rattle.ct_alloc.specs.declared.placement.Placement.{Placement}
use Rattle.ct_verdict.specs.declared.attempt.Seen.{Seen}
use Rattle.ct_verdict.specs.declared.verdict.Cause.{Cause}
use Rattle.ct_verdict.specs.declared.verdict.Cause.TheVariants.{Stopped}
use Rattle.ct_verdict.specs.declared.verdict.Verdict.{Verdict}
use Rattle.ct_verdict.specs.declared.verdict.Verdict.TheVariants.{NotRun, Disabled}
use Rattle.ct_verdict.specs.Verdict.{verdict_of}
use Rattle.ct_history.specs.declared.plan.PlanTest.{PlanTest}
use Rattle.ct_history.specs.declared.plan.PlanParts.{PlanParts}
use Rattle.ct_history.specs.declared.history.Entry.{Entry}
use Rattle.ct_history.specs.declared.history.Entry.TheVariants.{Start, End, Settle, Stop}
use Rattle.ct_history.specs.Plan.{test_at}
use Rattle.ct_history.specs.History.{Running, attempts_of, has_stop, holds_start, is_busy_in, is_open_in, is_stop, open_starts}
use Rattle.ct_history.specs.Verdicts.{are_all_final, is_final_in, is_failing_in, is_over, is_passed_verdict, last_of_list, settled_cause, settled_or, verdict_at, verdict_in, verdict_of_test}
use Rattle.ct_history.specs.Rules.{cause_behind, first_unpassed, follows_finals, is_pending, is_ready, may_start, settle_cause}
use Rattle.ct_history.specs.Legal.{are_allowed_behind, has_failing, is_allowed, is_allowed_so_far, is_legal, is_next_attempt, is_stop_due, ends_in_first_failure, settles, starts}
use Rattle.ct_history.proofs.BoolLemmas.{eq_same}
use Rattle.ct_history.proofs.FinalLemmas.{start_ends_none, settled-snoc, attempts-snoc, open_by_hold}
use Rattle.ct_history.proofs.LegalLemmas.{legal_allowed, stop_failed}
use Rattle.ct_history.proofs.MayLemmas.{may_start-parts, pending-parts}
use Rattle.ct_history.proofs.OpenLemmas.{is_of, open_starts-end, open_starts-snoc, opens_settle, opens_stop}
use Rattle.ct_history.proofs.PartListLemmas.{find_where}
use Rattle.ct_history.proofs.PlanLemmas.{find_passes, found_at}
use Rattle.ct_history.specs.Endings.{last_seen}
use Rattle.ct_app.specs.Meant.{AreMeant, AreSeen, IsMeant, IsSeen, first_unpassed_setup, first_verdicts, is_meant_to_fail, last_attempt, meant_by_setups, meant_cause, meant_of_attempts, meant_verdict}
use Rattle.ct_app.proofs.MeantLemmas.{IsRanked, attempts_meant, first_verdicts-more, last_attempt-is, last_of_first, meant_verdict-is, setups_before, some_attempt}
use Rattle.ct_app.proofs.EntryLemmas.{Keeps, all_filter, any_from, apart, attempts-end, cause-is, held_attempt, is_numbered, keeps-end, keeps-quiet, keeps-start, last-end, last-snoc, none_passes, over_last, passed_over, settled-first, settled_so, stops, unfinished, verdict_from, verdict_kept}
use Rattle.ct_history.proofs.ProgressLemmas.{all_found}

-- the test is meant to run: it is not disabled, and has no meant cause
record IsFree (plan : PlanParts) (seen : ℕ → ℕ → Seen) (t : PlanTest) : Type 0 where
  pub enabled : t.disabled ≡ false
  pub uncaused : meant_cause (meant_verdict plan seen) t ≡ None

-- the verdict is the meant verdict, or NotRun for a Stop of the history
abbrev IsRight : PlanParts → (ℕ → ℕ → Seen) → ℕ → List Entry → Verdict → Type 0
IsRight plan seen number es v = (meant_verdict plan seen number ≡ Some v) ⊎ ((has_stop es ≡ true) × (v ≡ NotRun Stopped))

-- the state of a test in a history, as it should be:
-- - its attempts have the first `count` verdicts, and what was last seen is of attempt `count`;
-- - the attempts were not over before attempt `count`, and are not over while a start is open;
-- - an open start has attempt `count` + 1, and a test with an open start is meant to run;
-- - its verdict, if any, is right
record Goes (plan : PlanParts) (seen : ℕ → ℕ → Seen) (es : List Entry) (t : PlanTest) : Type 0 where
  pub count : ℕ
  pub attempts : attempts_of t.number t.rules es ≡ first_verdicts t.rules (seen t.number) count
  pub last : 1 ≤ count → last_seen t.number es ≡ Some (seen t.number count)
  pub before : (j : ℕ) → j < count → is_over plan.repeat (first_verdicts t.rules (seen t.number) j) ≡ false
  pub numbered : list_all (is_numbered t.number (count + 1)) (open_starts es) ≡ true
  pub goes : is_open_in t.number es ≡ true → is_over plan.repeat (first_verdicts t.rules (seen t.number) count) ≡ false
  pub free : is_open_in t.number es ≡ true → IsFree plan seen t
  pub verdict : (v : Verdict) → verdict_in plan.repeat t es ≡ Some v → IsRight plan seen t.number es v

-- each test of the plan is in the state that it should have
abbrev AllGo : PlanParts → (ℕ → ℕ → Seen) → List Entry → Type 0
AllGo plan seen es = (t : PlanTest) → test_at plan.tests t.number ≡ Some t → Goes plan seen es t

right_stays : (plan : PlanParts) (seen : ℕ → ℕ → Seen) (number : ℕ) (es more : List Entry) (v : Verdict) → (has_stop es ≡ true → has_stop more ≡ true) → IsRight plan seen number es v → IsRight plan seen number more v
right_stays plan seen number es more v stays (inl is) = inl is
right_stays plan seen number es more v stays (inr (stop, is)) = inr (stays stop, is)

goes_kept : (plan : PlanParts) (seen : ℕ → ℕ → Seen) (t : PlanTest) (es more : List Entry) → Keeps t es more → ((v : Verdict) → verdict_in plan.repeat t more ≡ Some v → IsRight plan seen t.number more v) → Goes plan seen es t → Goes plan seen more t
goes_kept plan seen t es more kept right g = record {
  count = g.count;
  attempts = kept.attempts ∙ g.attempts;
  last = λ some. kept.last ∙ g.last some;
  before = g.before;
  numbered = kept.numbered (g.count + 1) g.numbered;
  goes = λ is. g.goes (sym kept.opens ∙ is);
  free = λ is. g.free (sym kept.opens ∙ is);
  verdict = right;
}

-- an entry about another test leaves this one as it is
goes_same : (plan : PlanParts) (seen : ℕ → ℕ → Seen) (t : PlanTest) (es more : List Entry) → Keeps t es more → settled_cause t.number more ≡ settled_cause t.number es → Goes plan seen es t → Goes plan seen more t
goes_same plan seen t es more kept settled g =
    goes_kept plan seen t es more kept (λ v is. right_stays plan seen t.number es more v kept.stops (g.verdict v (sym (verdict_kept plan.repeat t es more kept settled) ∙ is))) g

module _ (plan : PlanParts) (ranked : IsRanked plan) (seen : ℕ → ℕ → Seen) where
  -- a test that is meant to run has the meant verdict of its attempts
  meant_free : (t : PlanTest) → test_at plan.tests t.number ≡ Some t → IsFree plan seen t → meant_verdict plan seen t.number ≡ meant_of_attempts plan.repeat t.rules (seen t.number)
  meant_free t own free =
      meant_verdict-is plan ranked seen t.number
      ∙ ap (λ (o : Option PlanTest). meant_by_setups plan.repeat seen (meant_verdict plan seen) o) own
      ∙ ap (λ (b : Bool). if b then Some Disabled else settled_or (meant_cause (meant_verdict plan seen) t) (meant_of_attempts plan.repeat t.rules (seen t.number))) free.enabled
      ∙ ap (λ (o : Option Cause). settled_or o (meant_of_attempts plan.repeat t.rules (seen t.number))) free.uncaused

  -- a test with a meant cause has the meant verdict NotRun for this cause
  meant_caused : (t : PlanTest) (c : Cause) → test_at plan.tests t.number ≡ Some t → t.disabled ≡ false → meant_cause (meant_verdict plan seen) t ≡ Some c → meant_verdict plan seen t.number ≡ Some (NotRun c)
  meant_caused t c own enabled caused =
      meant_verdict-is plan ranked seen t.number
      ∙ ap (λ (o : Option PlanTest). meant_by_setups plan.repeat seen (meant_verdict plan seen) o) own
      ∙ ap (λ (b : Bool). if b then Some Disabled else settled_or (meant_cause (meant_verdict plan seen) t) (meant_of_attempts plan.repeat t.rules (seen t.number))) enabled
      ∙ ap (λ (o : Option Cause). settled_or o (meant_of_attempts plan.repeat t.rules (seen t.number))) caused

  meant_disabled : (t : PlanTest) → test_at plan.tests t.number ≡ Some t → t.disabled ≡ true → meant_verdict plan seen t.number ≡ Some Disabled
  meant_disabled t own disabled =
      meant_verdict-is plan ranked seen t.number
      ∙ ap (λ (o : Option PlanTest). meant_by_setups plan.repeat seen (meant_verdict plan seen) o) own
      ∙ ap (λ (b : Bool). if b then Some Disabled else settled_or (meant_cause (meant_verdict plan seen) t) (meant_of_attempts plan.repeat t.rules (seen t.number))) disabled

  module _ (es : List Entry) (all : AllGo plan seen es) where
    -- the verdict that a test has so far is right
    right_at : (number : ℕ) (o : Option PlanTest) → test_at plan.tests number ≡ o → (v : Verdict) → verdict_at plan es o ≡ Some v → IsRight plan seen number es v
    right_at number None found v is = cc
    right_at number (Some u) found v is =
        let passes = find_passes (λ (x : PlanTest). x.number == number) plan.tests u found in
        let here : u.number ≡ number = grind (arith, nat_tests) in
        let own : test_at plan.tests u.number ≡ Some u = ap (λ (n : ℕ). test_at plan.tests n) here ∙ found in
        subst (λ (n : ℕ). IsRight plan seen n es v) here ((all u own).verdict v is)

    -- without a Stop, the verdict that a test has so far is the meant verdict
    agrees : has_stop es ≡ false → (number : ℕ) → is_some (verdict_of_test plan es number) ≡ true → meant_verdict plan seen number ≡ verdict_of_test plan es number
    agrees on number final = by_verdict (verdict_of_test plan es number) refl final
      where
        by_verdict : (o : Option Verdict) → verdict_of_test plan es number ≡ o → is_some o ≡ true → meant_verdict plan seen number ≡ o
        by_verdict None is some = cc
        by_verdict (Some v) is some = elim (right_at number (test_at plan.tests number) refl v is) [
          | inl meant ↦ meant
          | inr stopped ↦ absurd (true≢false (sym stopped.0 ∙ on))
        ]

    -- after all predecessors are final, the first setup that did not pass is the first that is not meant
    -- to pass
    setups_agree : (t : PlanTest) → test_at plan.tests t.number ≡ Some t → has_stop es ≡ false → follows_finals plan t es ≡ true → first_unpassed_setup (meant_verdict plan seen) t ≡ first_unpassed plan t es
    setups_agree t own on follows =
        find_where (λ s. is_some (verdict_of_test plan es s)) (λ s. not (is_passed_verdict (meant_verdict plan seen s))) (λ s. not (is_passed_verdict (verdict_of_test plan es s)))
        (λ s final. ap (λ (o : Option Verdict). not (is_passed_verdict o)) (agrees on s final)) t.setups (setups_before plan ranked t.number t own (λ s. is_some (verdict_of_test plan es s)) follows)

    cause_agrees : (t : PlanTest) → test_at plan.tests t.number ≡ Some t → has_stop es ≡ false → follows_finals plan t es ≡ true → meant_cause (meant_verdict plan seen) t ≡ cause_behind (first_unpassed plan t es) t.fixed
    cause_agrees t own on follows = ap (λ (o : Option ℕ). cause_behind o t.fixed) (setups_agree t own on follows)

    no_some : {A : Type 0} (o : Option A) → is_none o ≡ true → o ≡ None
    no_some None is = refl
    no_some (Some x) is = cc

    -- a ready test is meant to run
    ready_free : (t : PlanTest) → test_at plan.tests t.number ≡ Some t → t.disabled ≡ false → has_stop es ≡ false → is_ready plan t es ≡ true → IsFree plan seen t
    ready_free t own enabled on ready =
        let two = and_parts (follows_finals plan t es && is_none (first_unpassed plan t es)) (is_none t.fixed) ready in
        let one = and_parts (follows_finals plan t es) (is_none (first_unpassed plan t es)) two.0 in
        record {
          enabled = enabled;
          uncaused =
              cause_agrees t own on one.0
              ∙ ap (λ (o : Option ℕ). cause_behind o t.fixed) (no_some (first_unpassed plan t es) one.1)
              ∙ no_some t.fixed two.1;
        }

    module _ (t : PlanTest) (own : test_at plan.tests t.number ≡ Some t) where
      -- the number of attempts so far
      long : length (attempts_of t.number t.rules es) ≡ (all t own).count
      long = ap (λ (vs : List Verdict). length vs) (all t own).attempts ∙ length-map-range_with_len (λ k. verdict_of t.rules (seen t.number k)) 1 (all t own).count

      start_own : (a w : ℕ) (p : Option Placement) → starts plan es a p (Some t) ≡ true → Goes plan seen (es ++ Start t.number a w p ∷ []) t
      start_own a w p begins =
          let g = all t own in
          let run : Running = record { test = t.number; attempt = a; worker = w; placement = p } in
          let both = and_parts (may_start plan t p es) (is_next_attempt t a es) begins in
          let may = may_start-parts plan t p es both.0 in
          let pending = pending-parts plan t es may.pending in
          let left = unfinished plan.repeat t.disabled (settled_cause t.number es) (is_open_in t.number es) (attempts_of t.number t.rules es) pending.closed pending.unfinished in
          let next : (a == g.count + 1) ≡ true = sym (ap (λ (n : ℕ). a == n + 1) long) ∙ both.1 in
          record {
            count = g.count;
            attempts = attempts-snoc t.number t.rules es (Start t.number a w p) refl ∙ g.attempts;
            last = λ some. last-snoc t.number es (Start t.number a w p) refl ∙ g.last some;
            before = g.before;
            numbered =
                ap (λ (rs : List Running). list_all (is_numbered t.number (g.count + 1)) rs) (open_starts-snoc es (Start t.number a w p) refl)
                ∙ list_all-append (is_numbered t.number (g.count + 1)) (open_starts es) (run ∷ [])
                ∙ and_from (list_all (is_numbered t.number (g.count + 1)) (open_starts es)) (is_numbered t.number (g.count + 1) run && true) g.numbered
                (and_from (is_numbered t.number (g.count + 1) run) true (or_right (not (t.number == t.number)) (a == g.count + 1) next) refl);
            goes = λ is. sym (ap (λ (vs : List Verdict). is_over plan.repeat vs) g.attempts) ∙ left.goes;
            free = λ is. ready_free t own left.enabled may.goes_on may.ready;
            verdict = λ v is. right_stays plan seen t.number es (es ++ Start t.number a w p ∷ []) v (stops es (Start t.number a w p)) (g.verdict v (start_ends_none plan.repeat t es t.number a w p v is));
          }

      -- while a start is open, the attempts so far are not over
      below_more : is_open_in t.number es ≡ true → (j : ℕ) → j < (all t own).count + 1 → is_over plan.repeat (first_verdicts t.rules (seen t.number) j) ≡ false
      below_more opens j less = elim (cases_Bool (j == (all t own).count)) [
        | inl same ↦
            let here : j ≡ (all t own).count = grind (arith, nat_tests) in
            ap (λ (n : ℕ). is_over plan.repeat (first_verdicts t.rules (seen t.number) n)) here ∙ (all t own).goes opens
        | inr other ↦
            let lesser : j < (all t own).count = grind (arith, nat_tests) in
            (all t own).before j lesser
      ]

      -- the verdict of a test whose open attempt ended
      right-end : (es' : List Entry) → (has_stop es ≡ true → has_stop es' ≡ true) → is_open_in t.number es ≡ true → (v : Verdict) → verdict_from plan.repeat false (settled_cause t.number es) false (first_verdicts t.rules (seen t.number) ((all t own).count + 1)) ≡ Some v → IsRight plan seen t.number es' v
      right-end es' stays opens v is = by_settled (settled_cause t.number es) refl is
        where
          g : Goes plan seen es t
          g = all t own

          -- a test that was settled had its verdict before
          was : (c : Cause) → settled_cause t.number es ≡ Some c → Some (NotRun c) ≡ Some v → verdict_in plan.repeat t es ≡ Some v
          was c settled has =
              ap (λ (b : Bool). verdict_from plan.repeat b (settled_cause t.number es) (is_open_in t.number es) (attempts_of t.number t.rules es)) (g.free opens).enabled
              ∙ ap (λ (o : Option Cause). verdict_from plan.repeat false o (is_open_in t.number es) (attempts_of t.number t.rules es)) settled
              ∙ has

          -- a test that was not settled has the verdict of this attempt, which was the last one
          came : is_over plan.repeat (first_verdicts t.rules (seen t.number) (g.count + 1)) ≡ true → last_of_list (first_verdicts t.rules (seen t.number) (g.count + 1)) ≡ Some v → meant_verdict plan seen t.number ≡ Some v
          came over last =
              meant_free t own (g.free opens)
              ∙ attempts_meant plan.repeat t.rules (seen t.number) g.count ranked.times over (below_more opens)
              ∙ sym (last_of_first t.rules (seen t.number) g.count)
              ∙ last

          by_settled : (o : Option Cause) → settled_cause t.number es ≡ o → verdict_from plan.repeat false o false (first_verdicts t.rules (seen t.number) (g.count + 1)) ≡ Some v → IsRight plan seen t.number es' v
          by_settled (Some c) settled has = right_stays plan seen t.number es es' v stays (g.verdict v (was c settled has))
          by_settled None settled has =
              let both = over_last (is_over plan.repeat (first_verdicts t.rules (seen t.number) (g.count + 1))) (last_of_list (first_verdicts t.rules (seen t.number) (g.count + 1))) v has in
              inl (came both.0 both.1)

      -- the End of the test's open attempt adds one more first attempt
      attempts_ended : (a w : ℕ) (s : Seen) → a ≡ (all t own).count + 1 → s ≡ seen t.number a → attempts_of t.number t.rules (es ++ End t.number a w s ∷ []) ≡ first_verdicts t.rules (seen t.number) ((all t own).count + 1)
      attempts_ended a w s attempt told =
          attempts-end t.number t.rules es a w s
          ∙ ap (λ (vs : List Verdict). vs ++ verdict_of t.rules s ∷ []) (all t own).attempts
          ∙ ap (λ (x : Seen). first_verdicts t.rules (seen t.number) (all t own).count ++ verdict_of t.rules x ∷ []) (told ∙ ap (λ (n : ℕ). seen t.number n) attempt)
          ∙ sym (first_verdicts-more t.rules (seen t.number) (all t own).count)

      -- the End of the test's open attempt leaves no open start of the test
      others_open : (a w : ℕ) (s : Seen) → a ≡ (all t own).count + 1 → list_all (λ (r : Running). not (r.test == t.number)) (open_starts (es ++ End t.number a w s ∷ [])) ≡ true
      others_open a w s attempt =
          ap (λ (rs : List Running). list_all (λ (r : Running). not (r.test == t.number)) rs) (open_starts-end es t.number a w s)
          ∙ all_filter (is_numbered t.number ((all t own).count + 1)) (λ r. not (is_of t.number a r)) (λ r. not (r.test == t.number)) (open_starts es)
          (λ r numbered kept. apart (r.test == t.number) (r.attempt == (all t own).count + 1) (r.attempt == a) (ap (λ (n : ℕ). r.attempt == n) attempt) numbered kept) (all t own).numbered

      end_own : (a w : ℕ) (s : Seen) → holds_start t.number a w es ≡ true → s ≡ seen t.number a → Goes plan seen (es ++ End t.number a w s ∷ []) t
      end_own a w s holds told = record {
        count = (all t own).count + 1;
        attempts = verdicts;
        last = λ some. last-end t.number es a w s ∙ ap (λ (x : Seen). Some x) (told ∙ ap (λ (n : ℕ). seen t.number n) attempt);
        before = below_more opens;
        numbered = weaker (open_starts more) ((all t own).count + 1 + 1) others;
        goes = λ is. absurd (true≢false (sym is ∙ closed));
        free = λ is. absurd (true≢false (sym is ∙ closed));
        verdict = λ v is. right-end more (stops es (End t.number a w s)) opens v (sym same ∙ is);
      }
        where
          more : List Entry
          more = es ++ End t.number a w s ∷ []

          opens : is_open_in t.number es ≡ true
          opens = open_by_hold t.number a w (open_starts es) holds

          attempt : a ≡ (all t own).count + 1
          attempt = held_attempt t.number a w ((all t own).count + 1) (open_starts es) holds (all t own).numbered

          verdicts : attempts_of t.number t.rules more ≡ first_verdicts t.rules (seen t.number) ((all t own).count + 1)
          verdicts = attempts_ended a w s attempt told

          others : list_all (λ (r : Running). not (r.test == t.number)) (open_starts more) ≡ true
          others = others_open a w s attempt

          closed : is_open_in t.number more ≡ false
          closed = none_passes (λ (r : Running). r.test == t.number) (open_starts more) others

          same : verdict_in plan.repeat t more ≡ verdict_from plan.repeat false (settled_cause t.number es) false (first_verdicts t.rules (seen t.number) ((all t own).count + 1))
          same =
              ap (λ (o : Option Cause). verdict_from plan.repeat t.disabled o (is_open_in t.number more) (attempts_of t.number t.rules more)) (settled-snoc t.number es (End t.number a w s) refl)
              ∙ ap (λ (b : Bool). verdict_from plan.repeat t.disabled (settled_cause t.number es) b (attempts_of t.number t.rules more)) closed
              ∙ ap (λ (vs : List Verdict). verdict_from plan.repeat t.disabled (settled_cause t.number es) false vs) verdicts
              ∙ ap (λ (b : Bool). verdict_from plan.repeat b (settled_cause t.number es) false (first_verdicts t.rules (seen t.number) ((all t own).count + 1))) ((all t own).free opens).enabled

          weaker : (rs : List Running) (k : ℕ) → list_all (λ (r : Running). not (r.test == t.number)) rs ≡ true → list_all (is_numbered t.number k) rs ≡ true
          weaker [] k none = refl
          weaker (r ∷ rs) k none =
              let both = and_parts (not (r.test == t.number)) (list_all (λ (q : Running). not (q.test == t.number)) rs) none in
              and_from (is_numbered t.number k r) (list_all (is_numbered t.number k) rs) (ap (λ (b : Bool). b || r.attempt == k) both.0) (weaker rs k both.1)

      settle_own : (c : Cause) → settle_cause plan t es ≡ Some c → Goes plan seen (es ++ Settle t.number c ∷ []) t
      settle_own c settles =
          let more = es ++ Settle t.number c ∷ [] in
          let so = settled_so (is_pending plan t es) (has_stop es) (follows_finals plan t es) (cause_behind (first_unpassed plan t es) t.fixed) c settles in
          let pending = pending-parts plan t es so.0 in
          let left = unfinished plan.repeat t.disabled (settled_cause t.number es) (is_open_in t.number es) (attempts_of t.number t.rules es) pending.closed pending.unfinished in
          let caused : settled_cause t.number more ≡ Some c = settled-first t.number es (Settle t.number c) c left.unsettled (ap (λ (b : Bool). if b then Some c else None) (eq_same t.number)) in
          goes_kept plan seen t es more (keeps-quiet t es (Settle t.number c) refl refl (opens_settle es t.number c)) (λ v is. settled_right v left.enabled so.1 (sym (comes left.enabled caused) ∙ is)) (all t own)
        where
          comes : t.disabled ≡ false → settled_cause t.number (es ++ Settle t.number c ∷ []) ≡ Some c → verdict_in plan.repeat t (es ++ Settle t.number c ∷ []) ≡ Some (NotRun c)
          comes enabled caused =
              ap (λ (b : Bool). verdict_from plan.repeat b (settled_cause t.number (es ++ Settle t.number c ∷ [])) (is_open_in t.number (es ++ Settle t.number c ∷ [])) (attempts_of t.number t.rules (es ++ Settle t.number c ∷ []))) enabled
              ∙ ap (λ (o : Option Cause). verdict_from plan.repeat false o (is_open_in t.number (es ++ Settle t.number c ∷ [])) (attempts_of t.number t.rules (es ++ Settle t.number c ∷ []))) caused

          settled_right : (v : Verdict) → t.disabled ≡ false → ((has_stop es ≡ true) × (c ≡ Stopped)) ⊎ ((has_stop es ≡ false) × (follows_finals plan t es ≡ true) × (cause_behind (first_unpassed plan t es) t.fixed ≡ Some c)) → Some (NotRun c) ≡ Some v → IsRight plan seen t.number (es ++ Settle t.number c ∷ []) v
          settled_right v enabled (inl (stop, cause)) is = inr (stops es (Settle t.number c) stop, sym (some_same is) ∙ ap (λ (d : Cause). NotRun d) cause)
            where
              some_same : {A : Type 0} {x y : A} → Some x ≡ Some y → x ≡ y
              some_same same = cc
          settled_right v enabled (inr (on, follows, cause)) is = inl (meant_caused t c own enabled (cause_agrees t own on follows ∙ cause) ∙ is)

    -- after an allowed entry each test is in the state that it should have
    goes_on : (e : Entry) → is_allowed plan es e ≡ true → IsSeen seen e → AllGo plan seen (es ++ e ∷ [])
    goes_on (Start n a w p) allowed is t own = elim (cases_Bool (n == t.number)) [
      | inl same ↦
          let here : n ≡ t.number = grind (arith, nat_tests) in
          let most = and_parts (not (is_stop_due plan es) && starts plan es a p (test_at plan.tests n)) (not (is_busy_in w es)) allowed in
          let both = and_parts (not (is_stop_due plan es)) (starts plan es a p (test_at plan.tests n)) most.0 in
          subst (λ (m : ℕ). Goes plan seen (es ++ Start m a w p ∷ []) t) (sym here)
          (start_own t own a w p (sym (ap (λ (m : ℕ). starts plan es a p (test_at plan.tests m)) here ∙ ap (λ (o : Option PlanTest). starts plan es a p o) own) ∙ both.1))
      | inr unlike ↦ goes_same plan seen t es (es ++ Start n a w p ∷ []) (keeps-start t es n a w p unlike) (settled-snoc t.number es (Start n a w p) refl) (all t own)
    ]
    goes_on (End n a w s) allowed is t own = elim (cases_Bool (n == t.number)) [
      | inl same ↦
          let here : n ≡ t.number = grind (arith, nat_tests) in
          let both = and_parts (not (is_stop_due plan es)) (holds_start n a w es) allowed in
          subst (λ (m : ℕ). Goes plan seen (es ++ End m a w s ∷ []) t) (sym here)
          (end_own t own a w s (sym (ap (λ (m : ℕ). holds_start m a w es) here) ∙ both.1) (is ∙ ap (λ (m : ℕ). seen m a) here))
      | inr unlike ↦ goes_same plan seen t es (es ++ End n a w s ∷ []) (keeps-end t es n a w s unlike) (settled-snoc t.number es (End n a w s) refl) (all t own)
    ]
    goes_on (Settle n c) allowed is t own = elim (cases_Bool (n == t.number)) [
      | inl same ↦
          let here : n ≡ t.number = grind (arith, nat_tests) in
          let both = and_parts (not (is_stop_due plan es)) (settles plan es c (test_at plan.tests n)) allowed in
          subst (λ (m : ℕ). Goes plan seen (es ++ Settle m c ∷ []) t) (sym here)
          (settle_own t own c (cause-is c (settle_cause plan t es) (sym (ap (λ (m : ℕ). settles plan es c (test_at plan.tests m)) here ∙ ap (λ (o : Option PlanTest). settles plan es c o) own) ∙ both.1)))
      | inr unlike ↦
          goes_same plan seen t es (es ++ Settle n c ∷ []) (keeps-quiet t es (Settle n c) refl refl (opens_settle es n c))
          (settled-snoc t.number es (Settle n c) (ap (λ (b : Bool). if b then Some c else None) unlike)) (all t own)
    ]
    goes_on Stop allowed is t own = goes_same plan seen t es (es ++ Stop ∷ []) (keeps-quiet t es Stop refl refl (opens_stop es)) (settled-snoc t.number es Stop refl) (all t own)

  goes_behind : (front es : List Entry) → are_allowed_behind plan front es ≡ true → AreSeen seen es → AllGo plan seen front → AllGo plan seen (front ++ es)
  goes_behind front [] allowed are all = subst (λ (xs : List Entry). AllGo plan seen xs) (sym (append-nil front)) all
  goes_behind front (e ∷ es) allowed are all =
      let both = and_parts (is_allowed plan front e) (are_allowed_behind plan (front ++ e ∷ []) es) allowed in
      subst (λ (xs : List Entry). AllGo plan seen xs) (append_assoc front (e ∷ []) es) (goes_behind (front ++ e ∷ []) es both.1 are.1 (goes_on front all e both.0 are.0))

  -- in the empty history each test is in the state that it should have
  goes_first : AllGo plan seen []
  goes_first t own = record {
    count = 0;
    attempts = refl;
    last = λ some. absurd (omega (arith, some));
    before = λ j less. absurd (omega (arith, less));
    numbered = refl;
    goes = λ is. absurd (true≢false (sym is));
    free = λ is. absurd (true≢false (sym is));
    verdict = λ v is. by_disabled t.disabled refl v is;
  }
    where
      by_disabled : (d : Bool) → t.disabled ≡ d → (v : Verdict) → verdict_from plan.repeat d None false [] ≡ Some v → IsRight plan seen t.number [] v
      by_disabled true disabled v is = inl (meant_disabled t own disabled ∙ is)
      by_disabled false disabled v is = cc

  -- without --stop-on-failure a legal history has no Stop
  no_stop-behind : (front es : List Entry) → plan.stop_on_failure ≡ false → are_allowed_behind plan front es ≡ true → has_stop es ≡ false
  no_stop-behind front [] off allowed = refl
  no_stop-behind front (e ∷ es) off allowed =
      let both = and_parts (is_allowed plan front e) (are_allowed_behind plan (front ++ e ∷ []) es) allowed in
      ap (λ (b : Bool). b || has_stop es) (by_entry e both.0) ∙ no_stop-behind (front ++ e ∷ []) es off both.1
    where
      by_entry : (x : Entry) → is_allowed plan front x ≡ true → is_stop x ≡ false
      by_entry (Start n a w p) may = refl
      by_entry (End n a w s) may = refl
      by_entry (Settle n c) may = refl
      by_entry Stop due = absurd (true≢false (sym due ∙ ap (λ (b : Bool). b && ends_in_first_failure plan front) off))

  module _ (es : List Entry) (legal : is_legal plan es ≡ true) (final : are_all_final plan es ≡ true) (are : AreSeen seen es) where
    so_far : is_allowed_so_far plan es ≡ true
    so_far = legal_allowed plan es legal

    all_go : AllGo plan seen es
    all_go = goes_behind [] es so_far are goes_first

    verdict_meant : (number : ℕ) → IsMeant plan seen es number
    verdict_meant number = by_test (test_at plan.tests number) refl
      where
        by_test : (o : Option PlanTest) → test_at plan.tests number ≡ o → (verdict_at plan es o ≡ meant_verdict plan seen number) ⊎ ((has_stop es ≡ true) × (verdict_at plan es o ≡ Some (NotRun Stopped)))
        by_test None found = inl (sym (meant_verdict-is plan ranked seen number ∙ ap (λ (o : Option PlanTest). meant_by_setups plan.repeat seen (meant_verdict plan seen) o) found))
        by_test (Some t) found =
            let has = all_found (λ (x : PlanTest). is_final_in plan.repeat x es) (λ (x : PlanTest). x.number == number) plan.tests t final found in
            let verdict = some_is (verdict_in plan.repeat t es) has in
            elim (right_at es all_go number (Some t) found verdict.0 verdict.1) [
              | inl meant ↦ inl (verdict.1 ∙ sym meant)
              | inr stopped ↦ inr (stopped.0, verdict.1 ∙ ap (λ (v : Verdict). Some v) stopped.1)
            ]

    verdict_unstopped : plan.stop_on_failure ≡ false → (number : ℕ) → verdict_of_test plan es number ≡ meant_verdict plan seen number
    verdict_unstopped off number = elim (verdict_meant number) [
      | inl meant ↦ meant
      | inr stopped ↦ absurd (true≢false (sym stopped.0 ∙ no_stop-behind [] es off so_far))
    ]

    -- a test that passed ended in its last attempt
    pub passed_last : (t : PlanTest) → test_at plan.tests t.number ≡ Some t → is_passed_verdict (verdict_in plan.repeat t es) ≡ true → last_seen t.number es ≡ option_map (seen t.number) (last_attempt plan.repeat t.rules (seen t.number))
    passed_last t own is =
        let g = all_go t own in
        let over = passed_over plan.repeat t.disabled (settled_cause t.number es) (is_open_in t.number es) (attempts_of t.number t.rules es) is in
        let some = some_attempt t.rules (seen t.number) g.count (sym (ap (λ (vs : List Verdict). is_passed_verdict (last_of_list vs)) g.attempts) ∙ over.1) in
        let last = last_attempt-is plan.repeat t.rules (seen t.number) g.count ranked.times some (sym (ap (λ (vs : List Verdict). is_over plan.repeat vs) g.attempts) ∙ over.0) g.before in
        g.last some ∙ sym (ap (λ (o : Option ℕ). option_map (seen t.number) o) last)

    own_of : (p : PlanTest → Bool) (t : PlanTest) → find p plan.tests ≡ Some t → test_at plan.tests t.number ≡ Some t
    own_of p t found = found_at p 1 plan.tests t ranked.numbers found

    verdict_here : (t : PlanTest) → test_at plan.tests t.number ≡ Some t → verdict_of_test plan es t.number ≡ verdict_in plan.repeat t es
    verdict_here t own = ap (λ (o : Option PlanTest). verdict_at plan es o) own

    failing_meant : has_failing plan es ≡ true → is_meant_to_fail plan seen ≡ true
    failing_meant failing =
        any_from (λ t. is_failing_in (verdict_in plan.repeat t es)) (λ t. is_failing_in (meant_verdict plan seen t.number)) plan.tests
        (λ t found. by_meant t (own_of (λ x. is_failing_in (verdict_in plan.repeat x es)) t found) (find_passes (λ x. is_failing_in (verdict_in plan.repeat x es)) plan.tests t found)) failing
      where
        by_meant : (t : PlanTest) → test_at plan.tests t.number ≡ Some t → is_failing_in (verdict_in plan.repeat t es) ≡ true → is_failing_in (meant_verdict plan seen t.number) ≡ true
        by_meant t own fails = elim (verdict_meant t.number) [
          | inl meant ↦ ap is_failing_in (sym meant ∙ verdict_here t own) ∙ fails
          | inr stopped ↦ absurd (true≢false (sym fails ∙ ap is_failing_in (sym (verdict_here t own) ∙ stopped.1)))
        ]

    meant_failing : is_meant_to_fail plan seen ≡ true → has_failing plan es ≡ true
    meant_failing meant_to = elim (cases_Bool (has_stop es)) [
      | inl stop ↦ stop_failed plan ranked.numbers es so_far stop
      | inr on ↦
          any_from (λ t. is_failing_in (meant_verdict plan seen t.number)) (λ t. is_failing_in (verdict_in plan.repeat t es)) plan.tests
          (λ t found. by_verdict on t (own_of (λ x. is_failing_in (meant_verdict plan seen x.number)) t found) (find_passes (λ x. is_failing_in (meant_verdict plan seen x.number)) plan.tests t found)) meant_to
    ]
      where
        by_verdict : has_stop es ≡ false → (t : PlanTest) → test_at plan.tests t.number ≡ Some t → is_failing_in (meant_verdict plan seen t.number) ≡ true → is_failing_in (verdict_in plan.repeat t es) ≡ true
        by_verdict on t own fails = elim (verdict_meant t.number) [
          | inl meant ↦ ap is_failing_in (sym (verdict_here t own) ∙ meant) ∙ fails
          | inr stopped ↦ absurd (true≢false (sym stopped.0 ∙ on))
        ]

    -- a complete legal history has the meant verdicts
    pub are_meant : AreMeant plan seen es
    are_meant = record {
      verdicts = verdict_meant;
      unstopped = verdict_unstopped;
      failing = same_truth (has_failing plan es) (is_meant_to_fail plan seen) failing_meant meant_failing;
    }
