-- Which tests wait for others, and which may be settled, behind a Start, an End, a Settle or a Stop.
use Rattle.std.proofs.Common.{◌≡◌, ◌∙◌, sym, ap, subst, Bool, true, false, ℕ, ◌+◌, ◌<◌, ◌≤◌, List, [], ◌∷◌, ◌++◌, length, refl, arith}
use Rattle.std.specs.Prelude.{Option, Some, None, is_some, is_none, not, ◌&&◌, ◌||◌, ◌==◌, nat_lt, slice_get, slice_set}
use Rattle.std.specs.List.{list_any}
use Rattle.std.proofs.lemmas.Bool.{and_parts, and_from, eq-eqb, lt-ltb}
use Rattle.std.proofs.lemmas.List.Folds.{list_any-append}
use Rattle.std.proofs.lemmas.Map.Views.{any-filter_same}
use Rattle.std.proofs.Math.Bool.{and-false, or-true}
use Rattle.ct_base.specs.Numbers.{is_in}
use Rattle.ct_base.proofs.OptionLemmas.{not_some}
use Rattle.ct_alloc.specs.declared.placement.Placement.{Placement}
use Rattle.ct_verdict.specs.declared.attempt.Seen.{Seen}
use Rattle.ct_verdict.specs.declared.verdict.Cause.{Cause}
use Rattle.ct_verdict.specs.declared.verdict.Verdict.{Verdict}
use Rattle.ct_history.specs.declared.plan.PlanTest.{PlanTest}
use Rattle.ct_history.specs.declared.plan.PlanParts.{PlanParts}
use Rattle.ct_history.specs.declared.history.Entry.{Entry}
use Rattle.ct_history.specs.declared.history.Entry.TheVariants.{Start, End, Settle, Stop}
use Rattle.ct_history.specs.Plan.{IsPlaceOf, IsSound, test_at}
use Rattle.ct_history.specs.History.{Running, attempts_of, has_stop, holds_start, is_open_in, is_stop, open_starts, open_start_of_test}
use Rattle.ct_history.specs.Verdicts.{verdict_at, verdict_in, verdict_of_test}
use Rattle.ct_history.specs.Rules.{first_unpassed, follows_finals, is_pending, is_ready, may_start, settle_cause}
use Rattle.ct_history.specs.Legal.{is_allowed_so_far}
use Rattle.ct_history.proofs.LegalLemmas.{stop-snoc}
use Rattle.ct_history.proofs.MayLemmas.{may_start-parts, pending-parts, settled_pending}
use Rattle.ct_queue.specs.Ready.{ReadyValue, StandsIn, predecessors_left, is_out, place_of, with_out}
use Rattle.ct_queue.specs.Ready as Queue
use Rattle.ct_queue.specs.Marks.{is_marked}
use Rattle.ct_core.specs.Standing.{is_pending_state, standing}
use Rattle.ct_core.specs.Waiting.{AreSettleable, IsQueued, followers_of, is_pending_at, open_before_at, settles_but}
use Rattle.ct_core.proofs.BegunLemmas.{open_is_ready}
use Rattle.ct_core.proofs.ChangeLemmas.{ChangesOne, cause_of, cause_stopped, counts_final, counts_same, marks_set, marks_stay, no_cause, no_cause_ready, others_final, others_same, others_stopped, queue_set, queue_stays, ready_same}
use Rattle.ct_core.proofs.AllowedLemmas.{IsAboutOnly, about_end, about_settle, about_start, number_at, undecided}
use Rattle.ct_core.proofs.KeptLemmas.{stop_stays}
use Rattle.ct_core.proofs.OpenStartLemmas.{held_open, open_planned, start_opens}
use Rattle.ct_core.proofs.PredecessorLemmas.{none_open}
use Rattle.ct_core.proofs.EnabledLemmas.{enabled_queued}
use Rattle.ct_core.proofs.StateLemmas.{pending_other, pending_state, verdict_other, verdict_settled, verdict_started}

-- an entry about one test changes no other test
changes_one : (plan : PlanParts) (es : List Entry) (e : Entry) (n : ℕ) → is_stop e ≡ false → IsAboutOnly n e → ChangesOne plan es (es ++ e ∷ []) n
changes_one plan es e n plain only = record {
  stops = stop_stays es e plain;
  verdicts = λ j other. verdict_other plan es e j (only j other);
  pendings = λ u other. pending_other plan u es e (only u.number other);
}

-- a pending test whose predecessors are final is a member of the ready set
ready_member : (plan : PlanParts) → IsSound plan → (es : List Entry) (n : ℕ) (t : PlanTest) → test_at plan.tests n ≡ Some t → (r : ReadyValue) → IsQueued plan es [] r → is_pending plan t es ≡ true → follows_finals plan t es ≡ true → Queue.is_in_ready_set r n ≡ true
ready_member plan sound es n t found r queued pending follows =
    let stands = enabled_queued plan sound n t found (undecided plan t es pending).enabled in
    let none = none_open (verdict_of_test plan es) t.before follows in
    let counted : predecessors_left r n ≡ open_before_at plan es (test_at plan.tests n) + 0 = queued.counts n stands in
    let there : open_before_at plan es (test_at plan.tests n) ≡ 0 = ap (λ (o : Option PlanTest). open_before_at plan es o) found ∙ none in
    let count : predecessors_left r n ≡ 0 = omega (arith, counted, there) in
    let out : is_out r n ≡ false = queued.outs n stands ∙ ap not (ap (λ (o : Option PlanTest). is_pending_at plan es o) found ∙ pending) in
    let within : place_of r.order n < length r.order = subst (λ (xs : List ℕ). place_of xs n < length xs) (sym queued.order) stands in
    and_from (nat_lt (place_of r.order n) (length r.order) && (predecessors_left r n == 0)) (not (is_out r n))
    (and_from (nat_lt (place_of r.order n) (length r.order)) (predecessors_left r n == 0) (lt-ltb (place_of r.order n) (length r.order) within) (eq-eqb (predecessors_left r n) 0 count))
    (ap not out)

module _ (plan : PlanParts) (sound : IsSound plan) (es : List Entry) (n : ℕ) (t : PlanTest) (found : test_at plan.tests n ≡ Some t) where
  own_verdict : (xs : List Entry) → verdict_of_test plan xs n ≡ verdict_in plan.repeat t xs
  own_verdict xs = ap (λ (o : Option PlanTest). verdict_at plan xs o) found

  number : t.number ≡ n
  number = number_at plan.tests n t found

  none_settles : (xs : List Entry) → settle_cause plan t xs ≡ None → settles_but plan xs [] (Some t) ≡ false
  none_settles xs none = ap (λ (c : Option Cause). is_some c && true) none

  -- neither a final test nor an open one is pending
  final_done : (xs : List Entry) → is_none (verdict_of_test plan xs n) ≡ false → is_pending plan t xs ≡ false
  final_done xs final = by_verdict (verdict_in plan.repeat t xs) (is_open_in t.number xs) (sym (ap (λ (o : Option Verdict). is_none o) (own_verdict xs)) ∙ final)
    where
      by_verdict : (o : Option Verdict) (opens : Bool) → is_none o ≡ false → (not (is_some o) && not opens) ≡ false
      by_verdict None opens none = cc
      by_verdict (Some v) opens none = refl

  open_busy : (xs : List Entry) → is_open_in t.number xs ≡ true → is_pending plan t xs ≡ false
  open_busy xs opens = ap (λ (b : Bool). not (is_some (verdict_in plan.repeat t xs)) && not b) opens ∙ and-false (not (is_some (verdict_in plan.repeat t xs)))

  -- a pending test has no verdict
  pending_none : is_pending plan t es ≡ true → verdict_of_test plan es n ≡ None
  pending_none pending = own_verdict es ∙ not_some (verdict_in plan.repeat t es) (pending-parts plan t es pending).unfinished

  -- the case that the test may start
  module _ (a w : ℕ) (p : Option Placement) (may : may_start plan t p es ≡ true) where
    abbrev started : List Entry
    started = es ++ Start n a w p ∷ []

    start_changes : ChangesOne plan es started n
    start_changes = changes_one plan es (Start n a w p) n refl (about_start n a w p)

    start_pending : is_pending plan t es ≡ true
    start_pending = (may_start-parts plan t p es may).pending

    start_ready : is_ready plan t es ≡ true
    start_ready = (may_start-parts plan t p es may).ready

    start_open : is_open_in t.number started ≡ true
    start_open =
        let run : Running = record { test = n; attempt = a; worker = w; placement = p } in
        ap (λ (rs : List Running). list_any (λ (r : Running). r.test == t.number) rs) (start_opens es n a w p)
        ∙ list_any-append (λ (r : Running). r.test == t.number) (open_starts es) (run ∷ [])
        ∙ ap (λ (b : Bool). list_any (λ (r : Running). r.test == t.number) (open_starts es) || (b || false)) (eq-eqb n t.number (sym number))
        ∙ or-true (list_any (λ (r : Running). r.test == t.number) (open_starts es))

    start_verdict : verdict_of_test plan started n ≡ verdict_of_test plan es n
    start_verdict = verdict_started plan es n t found a w p start_pending ∙ sym (pending_none start_pending)

    -- the test stands in the queue, and is a member of the ready set
    pub start_stands : StandsIn plan.queue n
    start_stands = enabled_queued plan sound n t found (undecided plan t es start_pending).enabled

    pub start_member : (r : ReadyValue) → IsQueued plan es [] r → Queue.is_in_ready_set r n ≡ true
    start_member r queued =
        let most = and_parts (follows_finals plan t es && is_none (first_unpassed plan t es)) (is_none t.fixed) start_ready in
        let both = and_parts (follows_finals plan t es) (is_none (first_unpassed plan t es)) most.0 in
        ready_member plan sound es n t found r queued start_pending both.0

    -- the Start of the test takes it out of the ready set, and leaves which tests may be settled
    pub start_queued : (r : ReadyValue) → IsQueued plan es [] r → IsQueued plan started [] (with_out r n true)
    start_queued r queued =
        queue_set plan sound es started n t found start_changes [] r true (counts_same plan sound es started n t found start_changes start_verdict) start_stands (ap not (open_busy started start_open)) queued

    pub start_settleable : (m : List Bool) → AreSettleable plan es [] m → AreSettleable plan started [] m
    start_settleable m marks =
        let on = (may_start-parts plan t p es may).goes_on in
        let was = none_settles es (no_cause_ready plan t es on start_ready) in
        let now = none_settles started (no_cause plan t started (open_busy started start_open)) in
        marks_stay plan sound es started n t found start_changes [] m (others_same plan sound es started n t found start_changes start_verdict) (now ∙ sym was) marks

  -- the case that an open attempt of the test ends
  module _ (a w : ℕ) (s : Seen) (so_far : is_allowed_so_far plan es ≡ true) (holds : holds_start n a w es ≡ true) where
    abbrev ended : List Entry
    ended = es ++ End n a w s ∷ []

    end_changes : ChangesOne plan es ended n
    end_changes = changes_one plan es (End n a w s) n refl (about_end n a w s)

    pub end_stands : StandsIn plan.queue n
    end_stands =
        let held = held_open plan es n a w so_far holds in
        enabled_queued plan sound n held.test held.found held.enabled

    end_unfinished : verdict_of_test plan es n ≡ None
    end_unfinished =
        let held = held_open plan es n a w so_far holds in
        (open_planned plan es n held.start so_far held.opens).unfinished

    end_busy : is_pending plan t es ≡ false
    end_busy =
        let held = held_open plan es n a w so_far holds in
        let k = length (attempts_of t.number t.rules es) in
        pending_state plan t es
        ∙ ap (λ (m : ℕ). is_pending_state (standing (verdict_in plan.repeat t es) (open_start_of_test m es) k)) number
        ∙ ap (λ (o : Option Running). is_pending_state (standing (verdict_in plan.repeat t es) o k)) held.opens
        ∙ by_verdict (verdict_in plan.repeat t es) held.start k
      where
        by_verdict : (v : Option Verdict) (r : Running) (k : ℕ) → is_pending_state (standing v (Some r) k) ≡ false
        by_verdict None r k = refl
        by_verdict (Some v) r k = refl

    end_ready : is_ready plan t es ≡ true
    end_ready =
        let held = held_open plan es n a w so_far holds in
        open_is_ready plan es so_far n t found held.start held.opens

    -- the test is out of the ready set in front of the End
    pub end_out : (r : ReadyValue) → IsQueued plan es [] r → is_out r n ≡ true
    end_out r queued = queued.outs n end_stands ∙ ap not (ap (λ (o : Option PlanTest). is_pending_at plan es o) found ∙ end_busy)

    none_settled : settles_but plan es [] (Some t) ≡ false
    none_settled = none_settles es (no_cause plan t es end_busy)

    -- the case that the test goes on
    module _ (goes_on : verdict_of_test plan ended n ≡ None) where
      again_verdict : verdict_of_test plan ended n ≡ verdict_of_test plan es n
      again_verdict = goes_on ∙ sym end_unfinished

      again_closed : is_open_in t.number ended ≡ false
      again_closed =
          let held = held_open plan es n a w so_far holds in
          ap (λ (m : ℕ). is_open_in m ended) number
          ∙ ap (λ (rs : List Running). list_any (λ (r : Running). r.test == n) rs) (held.closes s)
          ∙ any-filter_same (λ (r : Running). r.test == n) (λ (q : Running). not (q.test == n)) false (λ r is. ap not is) (open_starts es)

      again_pending : is_pending plan t ended ≡ true
      again_pending =
          ap (λ (o : Option Verdict). not (is_some o) && not (is_open_in t.number ended)) (sym (own_verdict ended) ∙ goes_on)
          ∙ ap not again_closed

      pub again_queued : (r : ReadyValue) → IsQueued plan es [] r → IsQueued plan ended [] (with_out r n false)
      again_queued r queued =
          queue_set plan sound es ended n t found end_changes [] r false (counts_same plan sound es ended n t found end_changes again_verdict) end_stands (ap not again_pending) queued

      -- while there is no Stop the test may not be settled, since it was ready and is ready again
      pub again_settleable : (m : List Bool) → has_stop es ≡ false → AreSettleable plan es [] m → AreSettleable plan ended [] m
      again_settleable m on marks =
          let ready = ready_same plan sound es ended n t found end_changes again_verdict t ∙ end_ready in
          let now = none_settles ended (no_cause_ready plan t ended (end_changes.stops ∙ on) ready) in
          marks_stay plan sound es ended n t found end_changes [] m (others_same plan sound es ended n t found end_changes again_verdict) (now ∙ sym none_settled) marks

      -- behind a Stop the test may be settled
      pub again_stopped : (m : List Bool) (place : ℕ) → has_stop es ≡ true → IsPlaceOf plan.tests n place → AreSettleable plan es [] m → AreSettleable plan ended [] (slice_set m place true)
      again_stopped m place stop here marks =
          let now : settles_but plan ended [] (Some t) ≡ true = ap (λ (b : Bool). b && true) (cause_stopped plan t ended (end_changes.stops ∙ stop) ∙ again_pending) in
          marks_set plan sound es ended n t found end_changes [] m place true here (others_stopped plan sound es ended n t found end_changes stop) now marks

    -- the case that the test is final
    module _ (v : Verdict) (is : verdict_of_test plan ended n ≡ Some v) where
      final : is_none (verdict_of_test plan ended n) ≡ false
      final = ap (λ (o : Option Verdict). is_none o) is

      pub over_queued : (r : ReadyValue) → IsQueued plan es [] r → IsQueued plan ended (followers_of plan.tests n) r
      over_queued r queued =
          queue_stays plan sound es ended n t found end_changes (followers_of plan.tests n) r (counts_final plan sound es ended n t found end_changes end_unfinished final) (final_done ended final ∙ sym end_busy) queued

      over_settles : (left : List ℕ) → settles_but plan ended left (Some t) ≡ settles_but plan es [] (Some t)
      over_settles left = ap (λ (c : Option Cause). is_some c && not (is_in left t.number)) (no_cause plan t ended (final_done ended final)) ∙ sym none_settled

      pub over_settleable : (m : List Bool) → has_stop es ≡ false → AreSettleable plan es [] m → AreSettleable plan ended (followers_of plan.tests n) m
      over_settleable m on marks =
          marks_stay plan sound es ended n t found end_changes (followers_of plan.tests n) m (others_final plan sound es ended n t found end_changes end_unfinished on) (over_settles (followers_of plan.tests n)) marks

      pub over_stopped : (m : List Bool) → has_stop es ≡ true → AreSettleable plan es [] m → AreSettleable plan ended [] m
      over_stopped m stop marks =
          marks_stay plan sound es ended n t found end_changes [] m (others_stopped plan sound es ended n t found end_changes stop) (over_settles []) marks

  -- the case that the test may be settled
  module _ (c : Cause) (has : settle_cause plan t es ≡ Some c) where
    abbrev settled : List Entry
    settled = es ++ Settle n c ∷ []

    settle_changes : ChangesOne plan es settled n
    settle_changes = changes_one plan es (Settle n c) n refl (about_settle n c)

    settle_pending : is_pending plan t es ≡ true
    settle_pending = settled_pending plan t es c has

    pub settle_stands : StandsIn plan.queue n
    settle_stands = enabled_queued plan sound n t found (undecided plan t es settle_pending).enabled

    -- the Settle of the test makes it final
    settle_final : is_none (verdict_of_test plan settled n) ≡ false
    settle_final = ap (λ (o : Option Verdict). is_none o) (verdict_settled plan es n t found c settle_pending)

    settle_follows : has_stop es ≡ false → follows_finals plan t es ≡ true
    settle_follows on =
        by_follows (is_pending plan t es) (follows_finals plan t es) (first_unpassed plan t es) t.fixed
        (sym (ap (λ (b : Bool). cause_of (is_pending plan t es) b (follows_finals plan t es) (first_unpassed plan t es) t.fixed) on) ∙ has)
      where
        by_follows : (pending follows : Bool) (first : Option ℕ) (fixed : Option Cause) → cause_of pending false follows first fixed ≡ Some c → follows ≡ true
        by_follows false follows first fixed is = cc
        by_follows true true first fixed is = refl
        by_follows true false first fixed is = cc

    pub settle_member : (r : ReadyValue) → has_stop es ≡ false → IsQueued plan es [] r → Queue.is_in_ready_set r n ≡ true
    settle_member r on queued = ready_member plan sound es n t found r queued settle_pending (settle_follows on)

    pub settle_queued : (r : ReadyValue) → IsQueued plan es [] r → IsQueued plan settled (followers_of plan.tests n) (with_out r n true)
    settle_queued r queued =
        queue_set plan sound es settled n t found settle_changes (followers_of plan.tests n) r true (counts_final plan sound es settled n t found settle_changes (pending_none settle_pending) settle_final) settle_stands (ap not (final_done settled settle_final)) queued

    settle_done : (left : List ℕ) → settles_but plan settled left (Some t) ≡ false
    settle_done left = ap (λ (x : Option Cause). is_some x && not (is_in left t.number)) (no_cause plan t settled (final_done settled settle_final))

    pub settle_settleable : (m : List Bool) (place : ℕ) → has_stop es ≡ false → IsPlaceOf plan.tests n place → AreSettleable plan es [] m → AreSettleable plan settled (followers_of plan.tests n) (slice_set m place false)
    settle_settleable m place on here marks =
        marks_set plan sound es settled n t found settle_changes (followers_of plan.tests n) m place false here (others_final plan sound es settled n t found settle_changes (pending_none settle_pending) on) (settle_done (followers_of plan.tests n)) marks

    pub settle_stopped : (m : List Bool) (place : ℕ) → has_stop es ≡ true → IsPlaceOf plan.tests n place → AreSettleable plan es [] m → AreSettleable plan settled [] (slice_set m place false)
    settle_stopped m place stop here marks =
        marks_set plan sound es settled n t found settle_changes [] m place false here (others_stopped plan sound es settled n t found settle_changes stop) (settle_done []) marks

-- behind a Stop, marks at exactly the pending tests are right
pub stop_settleable : (plan : PlanParts) (es : List Entry) (m : List Bool) → length plan.tests ≤ length m → ((place : ℕ) → is_marked m place ≡ is_pending_at plan es (slice_get plan.tests place)) → AreSettleable plan (es ++ Stop ∷ []) [] m
stop_settleable plan es m room marked = record {
  room = room;
  marked = λ place. marked place ∙ by_test (slice_get plan.tests place);
}
  where
    stopped : has_stop (es ++ Stop ∷ []) ≡ true
    stopped = stop-snoc es Stop ∙ or-true (has_stop es)

    and_true : (b : Bool) → b ≡ (b && true)
    and_true true = refl
    and_true false = refl

    by_test : (o : Option PlanTest) → is_pending_at plan es o ≡ settles_but plan (es ++ Stop ∷ []) [] o
    by_test None = refl
    by_test (Some u) = and_true (is_pending plan u es) ∙ sym (ap (λ (b : Bool). b && true) (cause_stopped plan u (es ++ Stop ∷ []) stopped ∙ pending_other plan u es Stop refl))
