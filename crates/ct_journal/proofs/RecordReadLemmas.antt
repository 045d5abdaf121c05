-- Two plans of the same words differ in the order of their starts alone, where what is read for them reads
-- alike, and so a journal is accepted for the one where it is accepted for the other.
use Rattle.std.proofs.Common.{◌≡◌, ◌∙◌, sym, ap, subst, Bool, true, false, ℕ, List, map, refl}
use Rattle.std.specs.Prelude.{Option, Some, None, Ok, IfSome}
use Rattle.ct_base.specs.declared.defs.Resource.{Resource}
use Rattle.ct_base.specs.declared.defs.TestDef.{TestDef}
use Rattle.ct_base.specs.Outside.{FilesTell, Held}
use Rattle.ct_props.specs.declared.wanted.Wanted.{Wanted}
use Rattle.ct_testfile.specs.Tree.{tree_of}
use Rattle.ct_history.specs.declared.plan.PlanParts.{PlanParts}
use Rattle.ct_args.specs.declared.invocation.Invocation.{Invocation}
use Rattle.ct_args.specs.Invocation.{InvocationValue}
use Rattle.ct_plan.specs.PlanOf.{IsPlanOf}
use Rattle.ct_plan.specs.Planned.{ArePlannedTests}
use Rattle.ct_plan.specs.Source.{HaveProps, Source, members_before, run_members, setup_members}
use Rattle.ct_app.specs.Planning.{HasPlan}
use Rattle.ct_app.specs.Reading.{AskFor, IsSource}
use Rattle.ct_app.specs.Rerun.{AreOnly, choice_for, last_failed}
use Rattle.ct_app.specs.SpecFile.{AreLent, declared_in}
use Rattle.ct_app.proofs.CompleteLemmas.{same_asked, same_choice}
use Rattle.ct_app.proofs.AlikeLemmas.{AreAlike, tests_alike}
use Rattle.ct_app.proofs.SourceLemmas.{IsSameChoice, before_same, members_same, same_ok, set_up_same}
use Rattle.ct_journal.specs.RecordPlan.{without_order, without_rank}
use Rattle.ct_journal.specs.RecordReads.{ReadsAlike, ReadsAlikeFor}

-- two sources that lead to plans which differ in the order of the starts alone
record ReadAlike (one other : Source) : Type 0 where
  dir : one.wanted.dir ≡ other.wanted.dir
  repeat : one.wanted.repeat ≡ other.wanted.repeat
  stop : one.wanted.stop_on_failure ≡ other.wanted.stop_on_failure
  alike : AreAlike one other

module _ (one other : Source) (read : ReadAlike one other) where
  plan_alike : (p q : PlanParts) → IsPlanOf one p → IsPlanOf other q → without_order p ≡ without_order q
  plan_alike p q is also =
      let dir = is.dir ∙ read.dir ∙ sym also.dir in
      let tests : map without_rank p.tests ≡ map without_rank q.tests =
      tests_alike one other read.alike (run_members other) p.tests q.tests (subst (λ (ns : List ℕ). ArePlannedTests one ns p.tests) read.alike.members is.tests) also.tests in
      let resources = is.resources ∙ read.alike.resources ∙ sym also.resources in
      let level = is.level ∙ read.alike.level ∙ sym also.level in
      let repeat = is.repeat ∙ read.repeat ∙ sym also.repeat in
      let stop = is.stop ∙ read.stop ∙ sym also.stop in
      rw (dir, tests, resources, level, repeat, stop) refl

-- names that were read alike are the same
only_alike : (one other : Held) (rerun : Bool) (dir : List ℕ) (names others : Option (List (List ℕ))) → (rerun ≡ true → last_failed dir one ≡ last_failed dir other) → AreOnly (Some one) rerun dir names → AreOnly (Some other) rerun dir others → names ≡ others
only_alike one other false dir names others log is also = is ∙ sym also
only_alike one other true dir None others log is also = absurd is
only_alike one other true dir (Some names) None log is also = absurd also
only_alike one other true dir (Some names) (Some others) log is also = ap (λ (ns : List (List ℕ)). Some ns) (is ∙ log refl ∙ sym also)

-- resources that were read alike are the same
lent_alike : (one other : Held) (file : Option (List ℕ)) (rs qs : Option (List Resource)) → IfSome file (λ path. declared_in (one path) ≡ declared_in (other path)) → AreLent (Some one) file rs → AreLent (Some other) file qs → rs ≡ qs
lent_alike one other None rs qs spec is also = is ∙ sym also
lent_alike one other (Some path) None qs spec is also = absurd is
lent_alike one other (Some path) (Some rs) None spec is also = absurd also
lent_alike one other (Some path) (Some rs) (Some qs) spec is also =
    ap (λ (resources : List Resource). Some resources) (same_ok (declared_in (other path)) rs qs (sym spec ∙ is) also)

-- what is read for the same words in holdings that read alike
module _ (words : List (List ℕ)) (held later : Held) (reads : (invocation : Invocation) → AskFor words invocation → ReadsAlikeFor invocation held later) where
  sources_alike : (first second : Invocation) (one other : Source) → AskFor words first → AskFor words second → IsSource (Some held) first one → IsSource (Some later) second other → ReadAlike one other
  sources_alike first second one other asked again is also =
      let same = same_asked words first second asked again in
      let dir = ap (λ (v : InvocationValue). v.dir) same in
      let config = ap (λ (v : InvocationValue). v.config) same in
      let rerun = ap (λ (v : InvocationValue). v.rerun) same in
      let file = ap (λ (v : InvocationValue). v.spec_file) same in
      let alike = reads first asked in
      let tree : tree_of held first.wanted.dir first.config ≡ Ok other.defs =
      alike.tree ∙ ap (λ (d : List ℕ). tree_of later d first.config) dir ∙ ap (tree_of later second.wanted.dir) config ∙ also.tests.tree in
      let defs : one.defs ≡ other.defs = same_ok (tree_of held first.wanted.dir first.config) one.defs other.defs is.tests.tree tree in
      let have : HaveProps other.defs one.props = subst (λ (ds : List TestDef). HaveProps ds one.props) defs is.tests.have in
      let only : one.wanted.choice.only ≡ other.wanted.choice.only =
      only_alike held later first.rerun first.wanted.dir one.wanted.choice.only other.wanted.choice.only alike.log is.only
      (subst (λ (d : List ℕ). AreOnly (Some later) first.rerun d other.wanted.choice.only) (sym dir)
      (subst (λ (r : Bool). AreOnly (Some later) r second.wanted.dir other.wanted.choice.only) (sym rerun) also.only)) in
      let choice : IsSameChoice one.wanted.choice other.wanted.choice =
      subst (λ (w : Wanted). IsSameChoice w.choice other.wanted.choice) (sym is.wanted)
      (subst (λ (w : Wanted). IsSameChoice (choice_for first one.wanted.choice.only) w.choice) (sym also.wanted) (same_choice first second one.wanted.choice.only other.wanted.choice.only same only)) in
      record {
        dir = ap (λ (w : Wanted). w.dir) is.wanted ∙ dir ∙ sym (ap (λ (w : Wanted). w.dir) also.wanted);
        repeat = ap (λ (w : Wanted). w.repeat) is.wanted ∙ ap (λ (v : InvocationValue). v.repeat) same ∙ sym (ap (λ (w : Wanted). w.repeat) also.wanted);
        stop = ap (λ (w : Wanted). w.stop_on_failure) is.wanted ∙ ap (λ (v : InvocationValue). v.stop_on_failure) same ∙ sym (ap (λ (w : Wanted). w.stop_on_failure) also.wanted);
        alike = record {
          level = ap (λ (w : Wanted). w.level) is.wanted ∙ ap (λ (v : InvocationValue). v.level) same ∙ sym (ap (λ (w : Wanted). w.level) also.wanted);
          resources = lent_alike held later first.spec_file one.resources other.resources alike.spec is.resources (subst (λ (f : Option (List ℕ)). AreLent (Some later) f other.resources) (sym file) also.resources);
          defs = defs;
          have = is.tests.have;
          own = also.tests.have;
          members = ap (λ (ds : List TestDef). run_members (record one { defs = ds })) defs ∙ members_same other.defs one.props other.props have also.tests.have one.wanted.choice other.wanted.choice choice;
          before = ap (λ (ds : List TestDef). members_before (record one { defs = ds })) defs ∙ before_same other.defs one.props other.props have also.tests.have one.wanted.choice other.wanted.choice choice;
          setups = ap (λ (ds : List TestDef). setup_members (record one { defs = ds })) defs ∙ set_up_same other.defs one.props other.props have also.tests.have one.wanted.choice other.wanted.choice choice;
        };
      }

  -- plans of these words differ in the order of the starts alone
  plans_alike : (first second : Invocation) (one other : Source) (p q : PlanParts) → AskFor words first → AskFor words second → IsSource (Some held) first one → IsSource (Some later) second other → IsPlanOf one p → IsPlanOf other q → without_order p ≡ without_order q
  plans_alike first second one other p q asked again is also planned replanned =
      plan_alike one other (sources_alike first second one other asked again is also) p q planned replanned

-- plans of the same words differ in the order of the starts alone, where what is told reads alike
pub told_alike : (words : List (List ℕ)) (told retold : Option Held) (first second : Invocation) (one other : Source) (p q : PlanParts) → ReadsAlike words told retold → AskFor words first → AskFor words second → IsSource told first one → IsSource retold second other → IsPlanOf one p → IsPlanOf other q → without_order p ≡ without_order q
told_alike words None retold first second one other p q reads = absurd reads
told_alike words (Some held) None first second one other p q reads = absurd reads
told_alike words (Some held) (Some later) first second one other p q reads = plans_alike words held later reads first second one other p q

-- two plans that the same words have, in files that read alike, differ in the order of the starts alone
pub same_plan : (words : List (List ℕ)) (before now again after : FilesTell) (plan other : PlanParts) → ReadsAlike words before.held again.held → HasPlan words before now plan → HasPlan words again after other → without_order plan ≡ without_order other
same_plan words before now again after plan other reads has also =
    told_alike words before.held again.held has.invocation also.invocation has.source also.source plan other reads has.words_are also.words_are has.read also.read has.planned also.planned
