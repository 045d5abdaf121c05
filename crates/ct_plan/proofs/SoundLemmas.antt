-- The parts of a plan are sound, and the plan is that of the run.
use Rattle.std.proofs.Common.{ℕ, ◌≡◌, ◌≤◌, ◌∙◌, Bool, true, false, cond, ◌&&◌, nat_le, min, List, [], ◌∷◌, length, map, Option, Some, None, zero, suc, refl, sym, ap, subst, arith}
use Rattle.std.specs.Prelude.{All, IfSome, nat_le, option_map}
use Rattle.std.specs.List.{list_all}
use Rattle.std.proofs.lemmas.Bool.{and_from}
use Rattle.std.proofs.lemmas.Bool.Decides.{nat_tests}
use Rattle.std.proofs.lemmas.List.Elements.{All-cons, All-get_or, All-nil}
use Rattle.std.proofs.lemmas.Option.{get_or_from_slice_get, slice_get_within}
use Rattle.ct_base.specs.Resources.{AreDistinct}
use Rattle.ct_alloc.specs.Placement.{SomeFits}
use Rattle.ct_base.specs.declared.defs.Need.{Need}
use Rattle.ct_base.specs.declared.defs.Resource.{Resource}
use Rattle.ct_base.specs.declared.defs.TestDef.{TestDef}
use Rattle.ct_props.specs.declared.props.Props.{Props}
use Rattle.ct_props.specs.declared.wanted.Wanted.{Wanted}
use Rattle.ct_props.specs.Numbered.{at_number}
use Rattle.ct_env.specs.Modification.{first_bad}
use Rattle.ct_graph.specs.Before.{comes_before, sets_up}
use Rattle.ct_graph.specs.Order.{IsOrder}
use Rattle.ct_graph.specs.declared.ordering.Links.{Links}
use Rattle.ct_verdict.specs.declared.verdict.Cause.{Cause}
use Rattle.ct_verdict.specs.declared.verdict.Cause.TheVariants.{Unstarted, Lacks, Fixture, NotAvailable, BadOperation, Insufficient, Stopped, Memory}
use Rattle.ct_history.specs.declared.plan.PlanTest.{PlanTest}
use Rattle.ct_history.specs.declared.plan.PlanParts.{PlanParts}
use Rattle.ct_history.specs.Plan.{IsPlaceable, IsSound, IsAscendingFrom, AllAscend, has_sound_processors, is_fixed_cause}
use Rattle.ct_history.proofs.AscendLemmas.{ascends-filter}
use Rattle.ct_cost.specs.declared.cost_data.CostData.{CostData}
use Rattle.ct_plan.specs.Source.{members_before, setup_members, run_members, source}
use Rattle.ct_plan.specs.Planned.{ArePlaceable, IsFixedBy, is_not_available, own_cause}
use Rattle.ct_plan.specs.Queue.{IsQueue}
use Rattle.ct_plan.specs.PlanOf.{IsPlanOf}
use Rattle.ct_plan.specs.Linked.{AreLinked, standing_in}
use Rattle.ct_plan.proofs.NumberLemmas.{AreOfTests, AreSome, some-members}
use Rattle.ct_plan.proofs.LinkLemmas.{AreOrdered, are_ordered, are_planned, numbers_are}
use Rattle.ct_plan.proofs.RankLemmas.{links_sound}

-- where each of some properties has at least one processor, so has the one of a number
some_processors : (props : List Props) (number : ℕ) (own : Props) → All (λ (p : Props). 1 ≤ p.processors) props → at_number props number ≡ Some own → 1 ≤ own.processors
some_processors props zero own all is = let no : None ≡ Some own = is in absurd (cc)
some_processors props (suc place) own all is =
    subst (λ (p : Props). 1 ≤ p.processors) (get_or_from_slice_get props place own own is) (All-get_or (λ (p : Props). 1 ≤ p.processors) props place own (slice_get_within props place own is) all)

processors_within : (processors level : ℕ) → 1 ≤ processors → 1 ≤ level → (nat_le 1 (min processors level) && nat_le (min processors level) level) ≡ true
processors_within processors level some one =
    and_from (nat_le 1 (min processors level)) (nat_le (min processors level) level) (grind (arith, nat_tests)) (grind (arith, nat_tests))

-- what keeps a test from running is known before the run
unfit_ok : (resources : Option (List Resource)) (needs : List Need) (cause : Option Cause) → IsFixedBy None (ArePlaceable resources needs) cause → is_fixed_cause resources cause ≡ true
unfit_ok resources needs None is = refl
unfit_ok None needs (Some Insufficient) is = absurd (is tt)
unfit_ok (Some rs) needs (Some Insufficient) is = refl
unfit_ok resources needs (Some Unstarted) is = absurd is
unfit_ok resources needs (Some (Lacks place)) is = absurd is
unfit_ok resources needs (Some (Fixture setup)) is = absurd is
unfit_ok resources needs (Some NotAvailable) is = absurd is
unfit_ok resources needs (Some (BadOperation place)) is = absurd is
unfit_ok resources needs (Some Stopped) is = absurd is
unfit_ok resources needs (Some Memory) is = absurd is

fixed_ok : (resources : Option (List Resource)) (needs : List Need) (gone : Bool) (place : Option ℕ) (cause : Option Cause) → IsFixedBy (cond gone (Some NotAvailable) (option_map BadOperation place)) (ArePlaceable resources needs) cause → is_fixed_cause resources cause ≡ true
fixed_ok resources needs true place cause is = ap (is_fixed_cause resources) is
fixed_ok resources needs false (Some n) cause is = ap (is_fixed_cause resources) is
fixed_ok resources needs false None cause is = unfit_ok resources needs cause is

-- the needs of a test without a fixed cause fit
free_fits : (gone : Bool) (place : Option ℕ) (Fits : Type 0) → IsFixedBy (cond gone (Some NotAvailable) (option_map BadOperation place)) Fits None → Fits
free_fits true place Fits is = let no : None ≡ Some NotAvailable = is in absurd (cc)
free_fits false (Some n) Fits is = let no : None ≡ Some (BadOperation n) = is in absurd (cc)
free_fits false None Fits is = is

-- the needs of each test without a fixed cause fit while nothing is used
placeable_on : (rs : List Resource) (defs : List TestDef) (props : List Props) (level : ℕ) (ls : List Links) (ts : List PlanTest) → AreLinked (Some rs) level defs props ls ts → All (IsPlaceable rs) ts
placeable_on rs defs props level [] [] linked = All-nil (IsPlaceable rs)
placeable_on rs defs props level [] (t ∷ ts) linked = absurd linked
placeable_on rs defs props level (l ∷ ls) [] linked = absurd linked
placeable_on rs defs props level (l ∷ ls) (t ∷ ts) linked =
    All-cons (IsPlaceable rs) t ts
    (λ free.
    let own = linked.0.own in
    let fixed = subst (λ (cause : Option Cause). IsFixedBy (own_cause linked.0.def own) (ArePlaceable (Some rs) own.groups.needs) cause) free linked.0.fixed in
    subst (λ (needs : List Need). SomeFits rs needs (λ place. 0)) (sym (ap (λ (u : PlanTest). u.needs) linked.0.is))
    (free_fits (is_not_available linked.0.def.command) (first_bad own.modification) (SomeFits rs own.groups.needs (λ place. 0)) fixed))
    (placeable_on rs defs props level ls ts linked.1)

placeable_sound : (resources : Option (List Resource)) (defs : List TestDef) (props : List Props) (level : ℕ) (ls : List Links) (ts : List PlanTest) → AreLinked resources level defs props ls ts → IfSome resources (λ rs. All (IsPlaceable rs) ts)
placeable_sound None defs props level ls ts linked = tt
placeable_sound (Some rs) defs props level ls ts linked = placeable_on rs defs props level ls ts linked

module _ (defs : List TestDef) (props : List Props) (wanted : Wanted) (resources : Option (List Resource)) (costs : CostData) where
  processors_sound : All (λ (p : Props). 1 ≤ p.processors) props → 1 ≤ wanted.level → (ls : List Links) (ts : List PlanTest) → AreLinked resources wanted.level defs props ls ts → list_all (has_sound_processors wanted.level) ts ≡ true
  processors_sound all one [] [] linked = refl
  processors_sound all one [] (t ∷ ts) linked = absurd linked
  processors_sound all one (l ∷ ls) [] linked = absurd linked
  processors_sound all one (l ∷ ls) (t ∷ ts) linked =
      let some : 1 ≤ linked.0.own.processors = some_processors props l.number linked.0.own all linked.0.own_is in
      and_from (has_sound_processors wanted.level t) (list_all (has_sound_processors wanted.level) ts)
      (ap (λ (u : PlanTest). has_sound_processors wanted.level u) linked.0.is ∙ processors_within linked.0.own.processors wanted.level some one)
      (processors_sound all one ls ts linked.1)

  fixed_sound : (ls : List Links) (ts : List PlanTest) → AreLinked resources wanted.level defs props ls ts → list_all (λ (t : PlanTest). is_fixed_cause resources t.fixed) ts ≡ true
  fixed_sound [] [] linked = refl
  fixed_sound [] (t ∷ ts) linked = absurd linked
  fixed_sound (l ∷ ls) [] linked = absurd linked
  fixed_sound (l ∷ ls) (t ∷ ts) linked =
      and_from (is_fixed_cause resources t.fixed) (list_all (λ (u : PlanTest). is_fixed_cause resources u.fixed) ts)
      (fixed_ok resources linked.0.own.groups.needs (is_not_available linked.0.def.command) (first_bad linked.0.own.modification) t.fixed linked.0.fixed)
      (fixed_sound ls ts linked.1)

  before_ascend : IsAscendingFrom 1 (run_members (source defs props wanted resources costs)) → (ms : List ℕ) (ls : List Links) (ts : List PlanTest) → AreOrdered (source defs props wanted resources costs) ms ls → AreLinked resources wanted.level defs props ls ts → AllAscend (λ t. t.before) ts
  before_ascend up [] [] [] ordered linked = tt
  before_ascend up [] [] (t ∷ ts) ordered linked = absurd linked
  before_ascend up [] (l ∷ ls) ts ordered linked = absurd ordered
  before_ascend up (m ∷ ms) [] ts ordered linked = absurd ordered
  before_ascend up (m ∷ ms) (l ∷ ls) [] ordered linked = absurd linked
  before_ascend up (m ∷ ms) (l ∷ ls) (t ∷ ts) ordered linked =
      let is : t.before ≡ members_before (source defs props wanted resources costs) m = ap (λ (u : PlanTest). u.before) linked.0.is ∙ ordered.0.before in (
        subst (IsAscendingFrom 1) (sym is) (ascends-filter (λ j. comes_before (at_number defs j) (at_number props j) (at_number props m)) 1 (run_members (source defs props wanted resources costs)) up),
        before_ascend up ms ls ts ordered.1 linked.1,
      )

  setups_ascend : IsAscendingFrom 1 (run_members (source defs props wanted resources costs)) → (ms : List ℕ) (ls : List Links) (ts : List PlanTest) → AreOrdered (source defs props wanted resources costs) ms ls → AreLinked resources wanted.level defs props ls ts → AllAscend (λ t. t.setups) ts
  setups_ascend up [] [] [] ordered linked = tt
  setups_ascend up [] [] (t ∷ ts) ordered linked = absurd linked
  setups_ascend up [] (l ∷ ls) ts ordered linked = absurd ordered
  setups_ascend up (m ∷ ms) [] ts ordered linked = absurd ordered
  setups_ascend up (m ∷ ms) (l ∷ ls) [] ordered linked = absurd linked
  setups_ascend up (m ∷ ms) (l ∷ ls) (t ∷ ts) ordered linked =
      let is : t.setups ≡ setup_members (source defs props wanted resources costs) m = ap (λ (u : PlanTest). u.setups) linked.0.is ∙ ordered.0.setups in (
        subst (IsAscendingFrom 1) (sym is) (ascends-filter (λ j. sets_up (at_number props j) (at_number props m)) 1 (run_members (source defs props wanted resources costs)) up),
        setups_ascend up ms ls ts ordered.1 linked.1,
      )

  -- the parts of the plan in this folder, with these tests and this queue
  abbrev pub parts_with : List ℕ → List PlanTest → List ℕ → PlanParts
  parts_with dir tests queue = record {
    dir = dir;
    tests = tests;
    queue = queue;
    resources = resources;
    level = wanted.level;
    repeat = wanted.repeat;
    stop_on_failure = wanted.stop_on_failure;
  }

  -- the links are of tests
  pub links_of_tests : length props ≡ length defs → (links : List Links) → IsOrder defs props (run_members (source defs props wanted resources costs)) links → AreOfTests (length defs) (map (λ (l : Links). l.number) links)
  links_of_tests same links order = subst (AreOfTests (length defs)) (sym order.numbers) (some-members wanted.choice defs props same).of_tests

  -- tests made of equal definitions, properties and resources are made of these
  pub made_of : (ds : List TestDef) (ps : List Props) (rs : Option (List Resource)) (links : List Links) (tests : List PlanTest) → ds ≡ defs → ps ≡ props → rs ≡ resources → AreLinked rs wanted.level ds ps links tests → AreLinked resources wanted.level defs props links tests
  made_of ds ps rs links tests defs_are props_are resources_are made =
      subst (λ r. AreLinked r wanted.level defs props links tests) resources_are
      (subst (λ qs. AreLinked rs wanted.level defs qs links tests) props_are
      (subst (λ es. AreLinked rs wanted.level es ps links tests) defs_are made))

  pub queue_of : (ds : List TestDef) (ps : List Props) (ts tests : List PlanTest) (queue : List ℕ) → ds ≡ defs → ps ≡ props → ts ≡ tests → IsQueue wanted.level (standing_in ds ps costs) ts queue → IsQueue wanted.level (standing_in defs props costs) tests queue
  queue_of ds ps ts tests queue defs_are props_are tests_are queued =
      subst (λ us. IsQueue wanted.level (standing_in defs props costs) us queue) tests_are
      (subst (λ qs. IsQueue wanted.level (standing_in defs qs costs) ts queue) props_are
      (subst (λ es. IsQueue wanted.level (standing_in es ps costs) ts queue) defs_are queued))

  module _ (same : length props ≡ length defs) (links : List Links) (order : IsOrder defs props (run_members (source defs props wanted resources costs)) links) (tests : List PlanTest) (linked : AreLinked resources wanted.level defs props links tests) where
    some : AreSome (length defs) (run_members (source defs props wanted resources costs))
    some = some-members wanted.choice defs props same

    ordered : AreOrdered (source defs props wanted resources costs) (run_members (source defs props wanted resources costs)) links
    ordered = are_ordered (source defs props wanted resources costs) (run_members (source defs props wanted resources costs)) links order.numbers order.before order.setups

    -- the tests have the numbers of the members
    made_numbers : map (λ (t : PlanTest). t.number) tests ≡ run_members (source defs props wanted resources costs)
    made_numbers = numbers_are defs props wanted resources costs (run_members (source defs props wanted resources costs)) links tests ordered linked

    pub made_some : AreSome (length defs) (map (λ (t : PlanTest). t.number) tests)
    made_some = subst (AreSome (length defs)) (sym made_numbers) some

    pub plan_sound : All (λ (p : Props). 1 ≤ p.processors) props → 1 ≤ wanted.level → 1 ≤ wanted.repeat.times → (dir queue : List ℕ) → IsQueue wanted.level (standing_in defs props costs) tests queue → IfSome resources AreDistinct → IsSound (parts_with dir tests queue)
    plan_sound all level times dir queue queued distinct = record {
      numbers = subst (IsAscendingFrom 1) (sym made_numbers) some.ascend;
      before = before_ascend some.ascend (run_members (source defs props wanted resources costs)) links tests ordered linked;
      setups = setups_ascend some.ascend (run_members (source defs props wanted resources costs)) links tests ordered linked;
      links = links_sound defs props wanted resources costs same links tests linked (run_members (source defs props wanted resources costs)) links tests ordered linked order.ranks;
      processors = processors_sound all level links tests linked;
      fixed = fixed_sound links tests linked;
      queue = queued.all;
      times = times;
      distinct = distinct;
      placeable = placeable_sound resources defs props wanted.level links tests linked;
    }

    pub plan_is : (dir queue : List ℕ) → dir ≡ wanted.dir → IsQueue wanted.level (standing_in defs props costs) tests queue → IsPlanOf (source defs props wanted resources costs) (parts_with dir tests queue)
    plan_is dir queue dir_is queued = record {
      dir = dir_is;
      tests = are_planned defs props wanted resources costs (run_members (source defs props wanted resources costs)) links tests ordered linked;
      ranks = links_sound defs props wanted resources costs same links tests linked (run_members (source defs props wanted resources costs)) links tests ordered linked order.ranks;
      queue = queued;
      resources = refl;
      level = refl;
      repeat = refl;
      stop = refl;
    }
