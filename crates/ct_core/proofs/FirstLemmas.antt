-- The parts of a run agree with the empty history.
use Rattle.std.proofs.Common.{◌≡◌, ◌∙◌, sym, ap, Bool, true, false, not, cond, ◌&&◌, ℕ, suc, ◌+◌, ◌<◌, ◌≤◌, List, [], ◌∷◌, length, map, filter, set, ltb, slice_get, is_none, ⊎_elim, refl, subst, arith, inl, inr}
use Rattle.std.specs.Prelude.{Option, Some, None}
use Rattle.std.proofs.lemmas.Bool.{cases_eq, cases_lt, lt-ltb, le-ltb, true≢false}
use Rattle.std.proofs.lemmas.List.{get_or-set_other, length-map, length-set}
use Rattle.std.proofs.lemmas.Grind.{get_or-set_at}
use Rattle.std.proofs.lemmas.Option.{slice_get_past, slice_get_within}
use Rattle.std.proofs.lemmas.List.Sorted.{length_permutation}
use Rattle.ct_history.specs.declared.plan.PlanTest.{PlanTest}
use Rattle.ct_history.specs.declared.plan.PlanParts.{PlanParts}
use Rattle.ct_history.specs.Plan.{IsSound, enabled}
use Rattle.ct_history.proofs.LegalLemmas.{legal-nil}
use Rattle.ct_queue.specs.Marks.{is_marked}
use Rattle.ct_queue.specs.Ready.{ReadyValue, none_out}
use Rattle.ct_core.specs.declared.state.State.{State}
use Rattle.ct_core.specs.declared.parts.Parts.{Parts}
use Rattle.ct_core.specs.Begin.{first_counts, first_state, settles_first}
use Rattle.ct_core.specs.Bunches.{AreBunchesOf}
use Rattle.ct_core.specs.InUse.{IsInUse}
use Rattle.ct_core.specs.Lines.{AreLinesOf}
use Rattle.ct_core.specs.Parts.{IsKept}
use Rattle.ct_core.specs.Standing.{count_unfinished, state_of, states_of, verdict_of_state}
use Rattle.ct_core.specs.Waiting.{AreSettleable, IsQueued, followers_of}
use Rattle.ct_core.proofs.BeginLemmas.{begins_queued}
use Rattle.ct_core.proofs.StateLemmas.{state_first}

-- the first states are the states of the empty history
first_states_of : (plan : PlanParts) → map first_state plan.tests ≡ states_of plan []
first_states_of plan = by_tests plan.tests
  where
    by_tests : (ts : List PlanTest) → map first_state ts ≡ map (state_of plan.repeat []) ts
    by_tests [] = refl
    by_tests (t ∷ ts) =
        ap (λ (s : State). s ∷ map first_state ts) (sym (state_first plan.repeat t))
        ∙ ap (λ (ss : List State). state_of plan.repeat [] t ∷ ss) (by_tests ts)

-- at first the tests that are not final are the enabled ones
unfinished_enabled : (ts : List PlanTest) → count_unfinished (map first_state ts) ≡ length (enabled ts)
unfinished_enabled [] = refl
unfinished_enabled (t ∷ ts) = by_disabled t.disabled (unfinished_enabled ts)
  where
    by_disabled : (d : Bool) → count_unfinished (map first_state ts) ≡ length (enabled ts)
        → length (cond (is_none (verdict_of_state (first_state (record t { disabled = d })))) (first_state (record t { disabled = d }) ∷ filter (λ s. is_none (verdict_of_state s)) (map first_state ts)) (filter (λ s. is_none (verdict_of_state s)) (map first_state ts)))
        ≡ length (cond (not d) (t ∷ enabled ts) (enabled ts))
    by_disabled true rest = rest
    by_disabled false rest = ap suc rest

-- at first as many tests are not final as the queue has
unfinished_first : (plan : PlanParts) → IsSound plan → length plan.queue ≡ count_unfinished (states_of plan [])
unfinished_first plan sound =
    sym (length_permutation plan.queue (map (λ (t : PlanTest). t.number) (enabled plan.tests)) sound.queue)
    ∙ length-map (enabled plan.tests) (λ (t : PlanTest). t.number)
    ∙ sym (unfinished_enabled plan.tests)
    ∙ ap (λ (ss : List State). count_unfinished ss) (first_states_of plan)

-- of the places before `end`, exactly those of tests that may
-- be settled before any entry are marked; no other place is
abbrev pub AreSettleableTo : List PlanTest → List Bool → ℕ → Type 0
AreSettleableTo tests marks end = (place : ℕ) → is_marked marks place ≡ (ltb place end && settles_first (slice_get tests place))

settleable_set : (tests : List PlanTest) (marks : List Bool) (end : ℕ) (mark : Bool) → end < length marks → mark ≡ settles_first (slice_get tests end) → AreSettleableTo tests marks end → AreSettleableTo tests (set marks end mark) (end + 1)
settleable_set tests marks end mark room is marked place =
    ⊎_elim
    (λ same.
    get_or-set_at marks end place mark false same room
    ∙ is
    ∙ ap (λ (k : ℕ). settles_first (slice_get tests k)) (sym same)
    ∙ sym (ap (λ (b : Bool). b && settles_first (slice_get tests place)) (lt-ltb place (end + 1) (omega (arith, same)))))
    (λ other.
    get_or-set_other marks end place mark false other ∙ marked place
    ∙ ap (λ (b : Bool). b && settles_first (slice_get tests place))
    (⊎_elim
    (λ (before : place < end). lt-ltb place end before ∙ sym (lt-ltb place (end + 1) (omega arith)))
    (λ (after : end ≤ place). le-ltb place end after ∙ sym (le-ltb place (end + 1) (omega (arith, other))))
    (cases_lt place end)))
    (cases_eq place end)

pub settleable_more : (tests : List PlanTest) (marks new : List Bool) (end : ℕ) (t : PlanTest) (mark : Bool) → slice_get tests end ≡ Some t → mark ≡ settles_first (Some t) → new ≡ set marks end mark → (length tests ≤ length marks) × AreSettleableTo tests marks end → (length tests ≤ length new) × AreSettleableTo tests new (end + 1)
settleable_more tests marks new end t mark there is made marked =
    let within = slice_get_within tests end t there in
    let same = length-set marks end mark in
    let count = ap length made in (
      omega (arith, marked.0, same, count),
      subst (λ (m : List Bool). AreSettleableTo tests m (end + 1)) (sym made)
          (settleable_set tests marks end mark (omega (arith, within, marked.0)) (is ∙ sym (ap (λ (o : Option PlanTest). settles_first o) there)) marked.1),
    )

-- once `end` is past the last test, the marks are right for each place
pub settleable_all : (tests : List PlanTest) (marks : List Bool) (end : ℕ) → length tests ≤ end → AreSettleableTo tests marks end → (place : ℕ) → is_marked marks place ≡ settles_first (slice_get tests place)
settleable_all tests marks end all marked place =
    marked place
    ∙ elim (cases_lt place end) [
      | inl before ↦ ap (λ (b : Bool). b && settles_first (slice_get tests place)) (lt-ltb place end before)
      | inr behind ↦
          let none : slice_get tests place ≡ None = slice_get_past tests place (omega (arith, all, behind)) in
          ap (λ (b : Bool). b && settles_first (slice_get tests place)) (le-ltb place end behind)
          ∙ sym (ap (λ (o : Option PlanTest). settles_first o) none)
    ]

-- a set of tests with the first counts, none of them out, agrees with the empty history
pub queued_first : (plan : PlanParts) → IsSound plan → (counts lines bunches : List ℕ) (ready : ReadyValue) → counts ≡ first_counts plan → AreLinesOf plan lines → ready ≡ none_out plan.queue counts lines bunches → IsQueued plan [] [] ready
queued_first plan sound counts lines bunches ready counted are is =
    subst (λ (r : ReadyValue). IsQueued plan [] [] r) (sym (is ∙ ap (λ (ns : List ℕ). none_out plan.queue ns lines bunches) counted)) (begins_queued plan sound lines bunches are)

-- if each part agrees with the empty history, the run is kept
pub begun : (plan : PlanParts) (parts : Parts) → IsSound plan → parts.states.items ≡ map first_state plan.tests → parts.unfinished ≡ length plan.queue → IsInUse plan [] parts.in_use → parts.followers.items ≡ map (λ (t : PlanTest). followers_of plan.tests t.number) plan.tests → IsQueued plan [] [] parts.ready → AreBunchesOf plan parts.keys.items parts.ready.bunches → AreSettleable plan [] [] parts.settleable → parts.stopped ≡ false → IsKept plan [] 0 parts
begun plan parts sound states unfinished in_use followers ready bunches settleable stopped = record {
  legal = legal-nil plan;
  reserved = λ some. absurd (omega (arith, some, in_use.opens));
  current = record {
    sound = sound;
    states = states ∙ first_states_of plan;
    in_use = in_use;
    stopped = stopped;
    followers = followers;
  };
  unfinished = unfinished ∙ unfinished_first plan sound ∙ ap (λ (ss : List State). count_unfinished ss) (sym (states ∙ first_states_of plan));
  queued = record { ready = λ on. ready; halted = λ stop. absurd (true≢false (sym stop)); bunches = bunches; settleable = settleable };
}
