-- Two sources that read alike lead to plans whose tests differ in their ranks alone.
use Rattle.std.proofs.Common.{◌≡◌, ◌∙◌, sym, ap, subst, ℕ, zero, suc, List, [], ◌∷◌, map, refl}
use Rattle.std.specs.Prelude.{Option, Some, None, slice_get}
use Rattle.std.proofs.lemmas.Option.{same_Some}
use Rattle.ct_base.specs.declared.defs.Resource.{Resource}
use Rattle.ct_base.specs.declared.defs.TestDef.{TestDef}
use Rattle.ct_regex.specs.TreeOf.{regex_tree}
use Rattle.ct_groups.specs.declared.groups.Groups.{Groups}
use Rattle.ct_props.specs.declared.props.Props.{Props}
use Rattle.ct_props.specs.Numbered.{at_number}
use Rattle.ct_props.specs.PropsOf.{HasProps}
use Rattle.ct_verdict.specs.declared.verdict.Cause.{Cause}
use Rattle.ct_verdict.specs.declared.verdict.Cause.TheVariants.{Unstarted, Lacks, Fixture, NotAvailable, BadOperation, Insufficient, Stopped, Memory}
use Rattle.ct_history.specs.declared.plan.PlanTest.{PlanTest}
use Rattle.ct_plan.specs.Planned.{ArePlaceable, ArePlannedTests, IsFixed, IsFixedBy, IsPlannedTest, own_cause, planned_test}
use Rattle.ct_plan.specs.Source.{HaveProps, Source, members_before, run_members, setup_members}
use Rattle.ct_app.proofs.SourceLemmas.{same_ok, trees_length}

-- the test without its rank
abbrev pub unranked : PlanTest → PlanTest
unranked t = record t { rank = 0 }

own_at : (defs : List TestDef) (props : List Props) (place : ℕ) (def : TestDef) (own : Props) → HaveProps defs props → slice_get defs place ≡ Some def → slice_get props place ≡ Some own → HasProps def own
own_at [] props place def own have there here = absurd (cc)
own_at (d ∷ ds) [] place def own have there here = absurd have
own_at (d ∷ ds) (p ∷ ps) zero def own have there here =
    subst (λ (x : TestDef). HasProps x own) (same_Some d def there) (subst (λ (x : Props). HasProps d x) (same_Some p own here) have.0)
own_at (d ∷ ds) (p ∷ ps) (suc place) def own have there here = own_at ds ps place def own have.1 there here

-- the properties of a test that stand at its number are its own
own_there : (defs : List TestDef) (props : List Props) (number : ℕ) (def : TestDef) (own : Props) → HaveProps defs props → at_number defs number ≡ Some def → at_number props number ≡ Some own → HasProps def own
own_there defs props zero def own have there here = absurd (cc)
own_there defs props (suc place) def own have there here = own_at defs props place def own have there here

-- without a cause of its own, a test is kept by Insufficient alone
kept_so : (Fits : Type 0) (cause : Cause) → IsFixedBy None Fits (Some cause) → (cause ≡ Insufficient) × (Fits → ⊥)
kept_so Fits Unstarted is = absurd is
kept_so Fits (Lacks place) is = absurd is
kept_so Fits (Fixture setup) is = absurd is
kept_so Fits NotAvailable is = absurd is
kept_so Fits (BadOperation place) is = absurd is
kept_so Fits Insufficient is = (refl, is)
kept_so Fits Stopped is = absurd is
kept_so Fits Memory is = absurd is

fixed_once : (own : Option Cause) (Fits : Type 0) (a b : Option Cause) → IsFixedBy own Fits a → IsFixedBy own Fits b → a ≡ b
fixed_once (Some own) Fits a b is also = is ∙ sym also
fixed_once None Fits None None is also = refl
fixed_once None Fits None (Some b) is also = absurd ((kept_so Fits b also).1 is)
fixed_once None Fits (Some a) None is also = absurd ((kept_so Fits a is).1 also)
fixed_once None Fits (Some a) (Some b) is also = ap (λ (c : Cause). Some c) ((kept_so Fits a is).0 ∙ sym (kept_so Fits b also).0)

-- two sources of the same tests and the same links, with the same level and resources
pub record AreAlike (one other : Source) : Type 0 where
  pub level : one.wanted.level ≡ other.wanted.level
  pub resources : one.resources ≡ other.resources
  pub defs : one.defs ≡ other.defs
  pub have : HaveProps one.defs one.props
  pub own : HaveProps other.defs other.props
  pub members : run_members one ≡ run_members other
  pub before : members_before one ≡ members_before other
  pub setups : setup_members one ≡ setup_members other

module _ (one other : Source) (alike : AreAlike one other) where
  test_alike : (number : ℕ) (a b : PlanTest) → IsPlannedTest one number a → IsPlannedTest other number b → unranked a ≡ unranked b
  test_alike number a b is also =
      let def : is.def ≡ also.def = same_Some is.def also.def (sym is.def_is ∙ ap (λ (ds : List TestDef). at_number ds number) alike.defs ∙ also.def_is) in
      let has : HasProps also.def is.props = subst (λ (d : TestDef). HasProps d is.props) def (own_there one.defs one.props number is.def is.props alike.have is.def_is is.props_are) in
      let own : HasProps also.def also.props = own_there other.defs other.props number also.def also.props alike.own also.def_is also.props_are in
      let processors = same_ok _ is.props.processors also.props.processors has.processors own.processors in
      let skip = same_ok _ is.props.skip_code also.props.skip_code has.skip_code own.skip_code in
      let groups = same_ok _ is.props.groups also.props.groups has.groups own.groups in
      let pass = trees_length is.props.pass also.props.pass (same_ok _ (map regex_tree is.props.pass) (map regex_tree also.props.pass) has.pass own.pass) in
      let disabled = has.disabled ∙ sym own.disabled in
      let locks = has.locks ∙ sym own.locks in
      let shared = has.shared ∙ sym own.shared in
      let serial = has.serial ∙ sym own.serial in
      let will_fail = has.will_fail ∙ sym own.will_fail in
      let labels = has.labels ∙ sym own.labels in
      let modification = has.modification ∙ sym own.modification in
      let before = ap (λ (f : ℕ → List ℕ). f number) alike.before in
      let setups = ap (λ (f : ℕ → List ℕ). f number) alike.setups in
      let kept : IsFixed other.resources also.def also.props a.fixed =
      subst (λ (cause : Option Cause). IsFixedBy cause (ArePlaceable other.resources also.props.groups.needs) a.fixed) (rw (def, modification) refl)
      (subst (λ (g : Groups). IsFixedBy (own_cause is.def is.props) (ArePlaceable other.resources g.needs) a.fixed) groups
      (subst (λ (rs : Option (List Resource)). IsFixedBy (own_cause is.def is.props) (ArePlaceable rs is.props.groups.needs) a.fixed) alike.resources is.fixed)) in
      let fixed : a.fixed ≡ b.fixed = fixed_once (own_cause also.def also.props) (ArePlaceable other.resources also.props.groups.needs) a.fixed b.fixed kept also.fixed in
      let planned : unranked (planned_test one number is.def is.props a.rank a.fixed) ≡ unranked (planned_test other number also.def also.props b.rank b.fixed) =
      rw (def, disabled, processors, alike.level, locks, shared, serial, pass, skip, will_fail, groups, before, setups, fixed, labels) refl in
      ap unranked is.is ∙ planned ∙ sym (ap unranked also.is)

  -- tests that are planned for the same numbers differ in their ranks alone
  pub tests_alike : (numbers : List ℕ) (ps qs : List PlanTest) → ArePlannedTests one numbers ps → ArePlannedTests other numbers qs → map unranked ps ≡ map unranked qs
  tests_alike [] [] [] are also = refl
  tests_alike [] [] (q ∷ qs) are also = absurd also
  tests_alike [] (p ∷ ps) qs are also = absurd are
  tests_alike (n ∷ ns) [] qs are also = absurd are
  tests_alike (n ∷ ns) (p ∷ ps) [] are also = absurd also
  tests_alike (n ∷ ns) (p ∷ ps) (q ∷ qs) are also =
      ap (λ (t : PlanTest). t ∷ map unranked ps) (test_alike n p q are.0 also.0)
      ∙ ap (λ (ts : List PlanTest). unranked q ∷ ts) (tests_alike ns ps qs are.1 also.1)
