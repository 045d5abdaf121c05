-- Which tests wait for others, and which may be settled, when one test changes.
use Rattle.std.proofs.Common.{◌≡◌, ◌∙◌, sym, ap, subst, Bool, true, false, ℕ, ◌+◌, ◌<◌, ◌≤◌, List, [], ◌∷◌, length, refl, arith, inl, inr}
use Rattle.std.specs.Prelude.{Option, Some, None, is_some, is_none, not, ◌&&◌, ◌==◌, cond, filter, find, slice_get, slice_set, if◌then◌else◌}
use Rattle.std.specs.List.{list_any, list_all}
use Rattle.std.proofs.Math.Path.{fun_ext}
use Rattle.std.proofs.Math.Bool.{and-false}
use Rattle.std.proofs.lemmas.Bool.{and_parts, cases_Bool, cases_eq}
use Rattle.std.proofs.lemmas.Bool.Decides.{nat_tests}
use Rattle.std.proofs.lemmas.Grind.{get_or-set_at}
use Rattle.std.proofs.lemmas.List.{get_or-set_other, length-set}
use Rattle.ct_base.specs.Numbers.{is_in}
use Rattle.ct_verdict.specs.declared.verdict.Cause.{Cause}
use Rattle.ct_verdict.specs.declared.verdict.Cause.TheVariants.{Stopped}
use Rattle.ct_verdict.specs.declared.verdict.Verdict.{Verdict}
use Rattle.ct_verdict.specs.declared.verdict.Verdict.TheVariants.{Disabled}
use Rattle.ct_history.specs.declared.plan.PlanTest.{PlanTest}
use Rattle.ct_history.specs.declared.plan.PlanParts.{PlanParts}
use Rattle.ct_history.specs.declared.history.Entry.{Entry}
use Rattle.ct_history.specs.Plan.{AllAscend, IsAscendingFrom, IsPlaceOf, IsSound, has_sound_links, is_before_rank, test_at}
use Rattle.ct_history.specs.History.{has_stop, is_open_in}
use Rattle.ct_history.specs.Verdicts.{attempted_verdict, is_passed_verdict, settled_cause, settled_or, verdict_of_test}
use Rattle.ct_history.specs.Rules.{cause_behind, first_unpassed, follows_finals, is_pending, is_ready, settle_cause}
use Rattle.ct_history.proofs.ProgressLemmas.{all_found}
use Rattle.ct_queue.specs.Ready.{ReadyValue, StandsIn, predecessors_left, is_out, place_of, with_out}
use Rattle.ct_queue.proofs.CallerLemmas.{out_said}
use Rattle.ct_core.specs.Standing.{open_before}
use Rattle.ct_core.specs.Waiting.{AreSettleable, IsQueued, followers_of, is_pending_at, open_before_at, settles_but}
use Rattle.ct_core.proofs.NumberLemmas.{listed}
use Rattle.ct_core.proofs.PredecessorLemmas.{none_of_setups, not_all, one_if, one_less, same_all, same_first}
use Rattle.ct_core.proofs.EnabledLemmas.{out_other, queued_enabled}
use Rattle.ct_core.proofs.QueueLemmas.{one_place, there_found}

-- between two histories only one test changes
pub record ChangesOne (plan : PlanParts) (es more : List Entry) (n : ℕ) : Type 0 where
  pub stops : has_stop more ≡ has_stop es
  pub verdicts : (j : ℕ) → (j == n) ≡ false → verdict_of_test plan more j ≡ verdict_of_test plan es j
  pub pendings : (u : PlanTest) → (u.number == n) ≡ false → is_pending plan u more ≡ is_pending plan u es

-- the cause that a test is settled with, as a function of the facts that decide it
abbrev pub cause_of : Bool → Bool → Bool → Option ℕ → Option Cause → Option Cause
cause_of pending stop follows first fixed = if not pending then None else (if stop then Some Stopped else (if follows then cause_behind first fixed else None))

-- a disabled test is not pending
disabled_done : (plan : PlanParts) (u : PlanTest) (es : List Entry) → u.disabled ≡ true → is_pending plan u es ≡ false
disabled_done plan u es disabled =
    ap (λ (d : Bool). not (is_some (if d then Some Disabled else settled_or (settled_cause u.number es) (attempted_verdict plan.repeat u es))) && not (is_open_in u.number es)) disabled

-- a test that is not pending has no cause
pub no_cause : (plan : PlanParts) (u : PlanTest) (es : List Entry) → is_pending plan u es ≡ false → settle_cause plan u es ≡ None
no_cause plan u es not_pending = ap (λ (b : Bool). cause_of b (has_stop es) (follows_finals plan u es) (first_unpassed plan u es) u.fixed) not_pending

-- a test with predecessors that are not final has no cause, while there is no Stop
no_cause_yet : (plan : PlanParts) (u : PlanTest) (es : List Entry) → has_stop es ≡ false → follows_finals plan u es ≡ false → settle_cause plan u es ≡ None
no_cause_yet plan u es on waits =
    ap (λ (b : Bool). cause_of (is_pending plan u es) b (follows_finals plan u es) (first_unpassed plan u es) u.fixed) on
    ∙ ap (λ (b : Bool). cause_of (is_pending plan u es) false b (first_unpassed plan u es) u.fixed) waits
    ∙ either (is_pending plan u es)
  where
    either : (b : Bool) → cause_of b false false (first_unpassed plan u es) u.fixed ≡ None
    either true = refl
    either false = refl

-- a ready test has no cause, while there is no Stop
pub no_cause_ready : (plan : PlanParts) (u : PlanTest) (es : List Entry) → has_stop es ≡ false → is_ready plan u es ≡ true → settle_cause plan u es ≡ None
no_cause_ready plan u es on ready =
    let most = and_parts (follows_finals plan u es && is_none (first_unpassed plan u es)) (is_none u.fixed) ready in
    let both = and_parts (follows_finals plan u es) (is_none (first_unpassed plan u es)) most.0 in
    ap (λ (b : Bool). cause_of (is_pending plan u es) b (follows_finals plan u es) (first_unpassed plan u es) u.fixed) on
    ∙ ap (λ (b : Bool). cause_of (is_pending plan u es) false b (first_unpassed plan u es) u.fixed) both.0
    ∙ either (is_pending plan u es) (first_unpassed plan u es) u.fixed both.1 most.1
  where
    either : (b : Bool) (first : Option ℕ) (fixed : Option Cause) → is_none first ≡ true → is_none fixed ≡ true → cause_of b false true first fixed ≡ None
    either true None None passed free = refl
    either true (Some s) fixed passed free = cc
    either true None (Some c) passed free = cc
    either false first fixed passed free = refl

-- behind a Stop exactly the pending tests have a cause
pub cause_stopped : (plan : PlanParts) (u : PlanTest) (es : List Entry) → has_stop es ≡ true → is_some (settle_cause plan u es) ≡ is_pending plan u es
cause_stopped plan u es stop =
    ap (λ (b : Bool). is_some (cause_of (is_pending plan u es) b (follows_finals plan u es) (first_unpassed plan u es) u.fixed)) stop ∙ either (is_pending plan u es)
  where
    either : (b : Bool) → is_some (cause_of b true (follows_finals plan u es) (first_unpassed plan u es) u.fixed) ≡ b
    either true = refl
    either false = refl

ascends_at : (links : PlanTest → List ℕ) (ts : List PlanTest) (u : PlanTest) (q : PlanTest → Bool) → AllAscend links ts → find q ts ≡ Some u → IsAscendingFrom 1 (links u)
ascends_at links [] u q all found = cc
ascends_at links (x ∷ xs) u q all found = elim (cases_Bool (q x)) [
  | inl here ↦
      let both : Some x ≡ Some u = sym (ap (λ (b : Bool). cond b (Some x) (find q xs)) here) ∙ found in
      let same : x ≡ u = cc in
      subst (λ (y : PlanTest). IsAscendingFrom 1 (links y)) same all.0
  | inr other ↦ ascends_at links xs u q all.1 (sym (ap (λ (b : Bool). cond b (Some x) (find q xs)) other) ∙ found)
]

module _ (plan : PlanParts) (sound : IsSound plan) (es more : List Entry) (n : ℕ) (t : PlanTest) (found : test_at plan.tests n ≡ Some t) (one : ChangesOne plan es more n) where
  -- the test of the plan with this number is this test
  this_test : (u : PlanTest) → test_at plan.tests u.number ≡ Some u → (u.number == n) ≡ true → u ≡ t
  this_test u itself here =
      let same : u.number ≡ n = grind (arith, nat_tests) in
      let both : Some u ≡ Some t = sym itself ∙ ap (λ (m : ℕ). test_at plan.tests m) same ∙ found in
      cc

  -- whether another test may be settled is as before, but for the tests of `left`
  abbrev SettlesAsBefore : List ℕ → PlanTest → Type 0
  SettlesAsBefore left u = settles_but plan more left (Some u) ≡ settles_but plan es [] (Some u)

  abbrev OthersAsBefore : List ℕ → Type 0
  OthersAsBefore left = (u : PlanTest) → test_at plan.tests u.number ≡ Some u → (u.number == n) ≡ false → SettlesAsBefore left u

  -- the marks stay right if whether the test itself may be settled is as before
  pub marks_stay : (left : List ℕ) (m : List Bool) → OthersAsBefore left → SettlesAsBefore left t → AreSettleable plan es [] m → AreSettleable plan more left m
  marks_stay left m others own marks = record {
    room = marks.room;
    marked = λ q. marks.marked q ∙ sym (by_test q (slice_get plan.tests q) refl);
  }
    where
      by_test : (q : ℕ) (o : Option PlanTest) → slice_get plan.tests q ≡ o → settles_but plan more left o ≡ settles_but plan es [] o
      by_test q None at = refl
      by_test q (Some u) at =
          let itself = there_found plan.tests q u sound.numbers at in
          elim (cases_Bool (u.number == n)) [
            | inl here ↦ subst (λ (x : PlanTest). SettlesAsBefore left x) (sym (this_test u itself here)) own
            | inr other ↦ others u itself other
          ]

  -- the marks are right once the test's own mark is set
  pub marks_set : (left : List ℕ) (m : List Bool) (place : ℕ) (b : Bool) → IsPlaceOf plan.tests n place → OthersAsBefore left → settles_but plan more left (Some t) ≡ b → AreSettleable plan es [] m → AreSettleable plan more left (slice_set m place b)
  marks_set left m place b here others own marks =
      let room = marks.room in
      let within = here.within in
      record {
        room = subst (λ (k : ℕ). length plan.tests ≤ k) (sym (length-set m place b)) room;
        marked = λ q. elim (cases_eq q place) [
          | inl same ↦
              get_or-set_at m place q b false same (omega (arith, room, within))
              ∙ sym (ap (λ (o : Option PlanTest). settles_but plan more left o) (ap (λ (k : ℕ). slice_get plan.tests k) same ∙ here.there ∙ found) ∙ own)
          | inr apart ↦ get_or-set_other m place q b false apart ∙ marks.marked q ∙ sym (by_test q apart (slice_get plan.tests q) refl)
        ];
      }
    where
      by_test : (q : ℕ) → (q ≡ place → ⊥) → (o : Option PlanTest) → slice_get plan.tests q ≡ o → settles_but plan more left o ≡ settles_but plan es [] o
      by_test q apart None at = refl
      by_test q apart (Some u) at =
          let itself = there_found plan.tests q u sound.numbers at in
          elim (cases_Bool (u.number == n)) [
            | inl same ↦
                let equal : u.number ≡ t.number = ap (λ (x : PlanTest). x.number) (this_test u itself same) in
                absurd (apart (one_place plan.tests q place u t sound.numbers at (here.there ∙ found) equal))
            | inr other ↦ others u itself other
          ]

  -- each enabled test has as many predecessors that are not
  -- final as before, or one less if it is in `left`
  abbrev CountsAsBefore : List ℕ → Type 0
  CountsAsBefore left = (u : PlanTest) → test_at plan.tests u.number ≡ Some u → u.disabled ≡ false → open_before plan es u ≡ open_before plan more u + one_if (is_in left u.number)

  queued_counts : (left : List ℕ) (r : ReadyValue) → CountsAsBefore left → IsQueued plan es [] r → (j : ℕ) → StandsIn plan.queue j → predecessors_left r j ≡ open_before_at plan more (test_at plan.tests j) + one_if (is_in left j)
  queued_counts left r counts queued j stands =
      let is = queued_enabled plan sound j stands in
      let u = is.test in
      let before : predecessors_left r j ≡ open_before plan es u + 0 = queued.counts j stands ∙ ap (λ (o : Option PlanTest). open_before_at plan es o + 0) is.found in
      let now : open_before plan es u ≡ open_before plan more u + one_if (is_in left j) = counts u is.itself is.enabled ∙ ap (λ (m : ℕ). open_before plan more u + one_if (is_in left m)) is.number in
      let there : open_before_at plan more (test_at plan.tests j) ≡ open_before plan more u = ap (λ (o : Option PlanTest). open_before_at plan more o) is.found in
      omega (arith, before, now, there)

  -- whether another test is pending is as before
  pending_before : (j : ℕ) → StandsIn plan.queue j → (j ≡ n → ⊥) → is_pending_at plan es (test_at plan.tests j) ≡ is_pending_at plan more (test_at plan.tests j)
  pending_before j stands apart =
      let is = queued_enabled plan sound j stands in
      let number = is.number in
      let other : (is.test.number == n) ≡ false = grind (arith, nat_tests, number, apart) in
      ap (λ (o : Option PlanTest). is_pending_at plan es o) is.found ∙ sym (one.pendings is.test other) ∙ sym (ap (λ (o : Option PlanTest). is_pending_at plan more o) is.found)

  pending_here : (j : ℕ) (xs : List Entry) → j ≡ n → is_pending_at plan xs (test_at plan.tests j) ≡ is_pending plan t xs
  pending_here j xs same = ap (λ (o : Option PlanTest). is_pending_at plan xs o) (ap (λ (m : ℕ). test_at plan.tests m) same ∙ found)

  -- the ready set stays right if whether the test itself is pending is as before
  pub queue_stays : (left : List ℕ) (r : ReadyValue) → CountsAsBefore left → is_pending plan t more ≡ is_pending plan t es → IsQueued plan es [] r → IsQueued plan more left r
  queue_stays left r counts own queued = record {
    order = queued.order;
    counted = queued.counted;
    said = queued.said;
    counts = queued_counts left r counts queued;
    outs = λ j stands. queued.outs j stands ∙ ap not (elim (cases_eq j n) [
      | inl same ↦ pending_here j es same ∙ sym own ∙ sym (pending_here j more same)
      | inr apart ↦ pending_before j stands apart
    ]);
    lines = queued.lines;
  }

  -- the ready set is right once the test itself is put out or back
  pub queue_set : (left : List ℕ) (r : ReadyValue) (b : Bool) → CountsAsBefore left → StandsIn plan.queue n → not (is_pending plan t more) ≡ b → IsQueued plan es [] r → IsQueued plan more left (with_out r n b)
  queue_set left r b counts stands own queued =
      let within : place_of r.order n < length r.outs = subst (λ (xs : List ℕ). place_of xs n < length r.outs) (sym queued.order) (subst (λ (k : ℕ). place_of plan.queue n < k) (sym queued.said) stands) in
      record {
        order = queued.order;
        counted = queued.counted;
        said = length-set r.outs (place_of r.order n) b ∙ queued.said;
        counts = queued_counts left r counts queued;
        outs = λ j there. elim (cases_eq j n) [
          | inl same ↦
              ap (λ (m : ℕ). is_out (with_out r n b) m) same ∙ out_said r n b within ∙ sym own ∙ sym (ap not (pending_here j more same))
          | inr apart ↦
              out_other r n j b (subst (λ (xs : List ℕ). StandsIn xs n) (sym queued.order) stands) (subst (λ (xs : List ℕ). StandsIn xs j) (sym queued.order) there) apart
              ∙ queued.outs j there ∙ ap not (pending_before j there apart)
        ];
        lines = queued.lines;
      }

  -- a test has the same cause if the facts that decide it are the same
  cause_by : (u : PlanTest) → is_pending plan u more ≡ is_pending plan u es → follows_finals plan u more ≡ follows_finals plan u es → first_unpassed plan u more ≡ first_unpassed plan u es → settle_cause plan u more ≡ settle_cause plan u es
  cause_by u pending follows first =
      ap (λ (b : Bool). cause_of b (has_stop more) (follows_finals plan u more) (first_unpassed plan u more) u.fixed) pending
      ∙ ap (λ (b : Bool). cause_of (is_pending plan u es) b (follows_finals plan u more) (first_unpassed plan u more) u.fixed) one.stops
      ∙ ap (λ (b : Bool). cause_of (is_pending plan u es) (has_stop es) b (first_unpassed plan u more) u.fixed) follows
      ∙ ap (λ (s : Option ℕ). cause_of (is_pending plan u es) (has_stop es) (follows_finals plan u es) s u.fixed) first

  -- behind a Stop, whether another test may be settled is as before
  pub others_stopped : has_stop es ≡ true → OthersAsBefore []
  others_stopped stop u itself other =
      ap (λ (b : Bool). b && true) (cause_stopped plan u more (one.stops ∙ stop) ∙ one.pendings u other ∙ sym (cause_stopped plan u es stop))

  -- the test's own verdict stays too, so no verdict changes
  module _ (own : verdict_of_test plan more n ≡ verdict_of_test plan es n) where
    verdicts_same : verdict_of_test plan more ≡ verdict_of_test plan es
    verdicts_same = fun_ext (λ j. elim (cases_eq j n) [
      | inl same ↦ ap (λ (m : ℕ). verdict_of_test plan more m) same ∙ own ∙ sym (ap (λ (m : ℕ). verdict_of_test plan es m) same)
      | inr apart ↦ let other : (j == n) ≡ false = grind (arith, nat_tests, apart) in one.verdicts j other
    ])

    pub counts_same : CountsAsBefore []
    counts_same u itself enabled =
        let zero_more : open_before plan more u ≡ open_before plan more u + 0 = omega arith in
        ap (λ (f : ℕ → Option Verdict). length (filter (λ j. is_none (f j)) u.before)) (sym verdicts_same) ∙ zero_more

    follows_same : (u : PlanTest) → follows_finals plan u more ≡ follows_finals plan u es
    follows_same u = ap (λ (f : ℕ → Option Verdict). list_all (λ j. is_some (f j)) u.before) verdicts_same

    first_same : (u : PlanTest) → first_unpassed plan u more ≡ first_unpassed plan u es
    first_same u = ap (λ (f : ℕ → Option Verdict). find (λ j. not (is_passed_verdict (f j))) u.setups) verdicts_same

    pub ready_same : (u : PlanTest) → is_ready plan u more ≡ is_ready plan u es
    ready_same u =
        ap (λ (b : Bool). b && is_none (first_unpassed plan u more) && is_none u.fixed) (follows_same u)
        ∙ ap (λ (s : Option ℕ). follows_finals plan u es && is_none s && is_none u.fixed) (first_same u)

    pub others_same : OthersAsBefore []
    others_same u itself other = ap (λ (c : Option Cause). is_some c && true) (cause_by u (one.pendings u other) (follows_same u) (first_same u))

  -- the test becomes final, so each follower has one less predecessor that is not final
  module _ (before : verdict_of_test plan es n ≡ None) where
    follower_is : (u : PlanTest) → test_at plan.tests u.number ≡ Some u → u.disabled ≡ false → is_in (followers_of plan.tests n) u.number ≡ is_in u.before n
    follower_is u itself enabled =
        listed (λ (x : PlanTest). not x.disabled && is_in x.before n) 1 plan.tests u sound.numbers itself
        ∙ ap (λ (d : Bool). not d && is_in u.before n) enabled

    pub counts_final : is_none (verdict_of_test plan more n) ≡ false → CountsAsBefore (followers_of plan.tests n)
    counts_final behind u itself enabled =
        let ascends = ascends_at (λ (x : PlanTest). x.before) plan.tests u (λ (x : PlanTest). x.number == u.number) sound.before itself in
        one_less (verdict_of_test plan es) (verdict_of_test plan more) n one.verdicts before behind 1 u.before ascends
        ∙ ap (λ (b : Bool). open_before plan more u + one_if b) (sym (follower_is u itself enabled))

    pub others_final : has_stop es ≡ false → OthersAsBefore (followers_of plan.tests n)
    others_final on u itself other =
        let left : List ℕ = followers_of plan.tests n in
        elim (cases_Bool u.disabled) [
          | inl disabled ↦
              ap (λ (c : Option Cause). is_some c && not (is_in left u.number)) (no_cause plan u more (disabled_done plan u more disabled))
              ∙ sym (ap (λ (c : Option Cause). is_some c && true) (no_cause plan u es (disabled_done plan u es disabled)))
          | inr enabled ↦
              let links = all_found (has_sound_links plan.tests) (λ (x : PlanTest). x.number == u.number) plan.tests u sound.links itself in
              let among = (and_parts (list_all (λ j. is_before_rank u.rank (test_at plan.tests j)) u.before) (list_all (λ s. list_any (λ j. j == s) u.before) u.setups) links).1 in
              elim (cases_Bool (is_in u.before n)) [
                | inl waits ↦
                    ap (λ (b : Bool). is_some (settle_cause plan u more) && not b) (follower_is u itself enabled ∙ waits)
                    ∙ and-false (is_some (settle_cause plan u more))
                    ∙ sym (ap (λ (c : Option Cause). is_some c && true) (no_cause_yet plan u es on (not_all (verdict_of_test plan es) (verdict_of_test plan more) n one.verdicts before u.before waits)))
                | inr free ↦
                    ap (λ (b : Bool). is_some (settle_cause plan u more) && not b) (follower_is u itself enabled ∙ free)
                    ∙ ap (λ (c : Option Cause). is_some c && true)
                    (cause_by u (one.pendings u other)
                    (same_all (verdict_of_test plan es) (verdict_of_test plan more) n one.verdicts u.before free)
                    (same_first (verdict_of_test plan es) (verdict_of_test plan more) n one.verdicts u.setups (none_of_setups n u.before u.setups among free)))
              ]
        ]
