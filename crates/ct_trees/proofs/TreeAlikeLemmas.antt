-- Two trees that define the same tests, of which the same is wanted with the same resources, have the same tests but
-- for their ranks, and the same is seen of each attempt.
use Rattle.std.proofs.Common.{◌≡◌, ◌∙◌, sym, ap, subst, ℕ, zero, suc, List, [], ◌∷◌, map, refl}
use Rattle.std.specs.Prelude.{Option, Some, slice_get}
use Rattle.std.specs.List.{list_any}
use Rattle.std.proofs.Math.Path.{fun_ext}
use Rattle.ct_base.specs.declared.defs.Resource.{Resource}
use Rattle.ct_base.specs.declared.defs.TestDef.{TestDef}
use Rattle.ct_regex.specs.declared.pattern.Regex.{Regex}
use Rattle.ct_regex.specs.Ends.{hits}
use Rattle.ct_regex.specs.Tree.{Tree as RegexTree}
use Rattle.ct_regex.specs.TreeOf.{regex_tree}
use Rattle.ct_props.specs.declared.props.Props.{Props}
use Rattle.ct_props.specs.Numbered.{at_number}
use Rattle.ct_props.specs.PropsOf.{HasProps}
use Rattle.ct_graph.proofs.NameLemmas.{list_any-map}
use Rattle.ct_core.specs.declared.gate.Told.{Told}
use Rattle.ct_worker.specs.Gates.{some_hits}
use Rattle.ct_args.specs.Invocation.{InvocationValue, invocation_seen}
use Rattle.ct_plan.specs.declared.whole.Tree.{Tree}
use Rattle.ct_plan.specs.Planned.{ArePlannedTests}
use Rattle.ct_plan.specs.Source.{HaveProps, Source, members_before, run_members, setup_members}
use Rattle.ct_app.specs.MeantTold.{seen_as_told}
use Rattle.ct_app.proofs.AlikeLemmas.{AreAlike, tests_alike, unranked}
use Rattle.ct_app.proofs.SourceLemmas.{IsSameChoice, before_same, members_same, same_ok, set_up_same}
use Rattle.ct_trees.specs.TreeMeant.{IsTreeFor, seen_by}
use Rattle.ct_trees.specs.Trees.{source_for}
use Rattle.ct_trees.proofs.TreeCompleteLemmas.{choices_alike}

-- patterns with the same trees have the same hits in a text
hits_alike : (a b : List Regex) → map regex_tree a ≡ map regex_tree b → (text : List ℕ) → some_hits a text ≡ some_hits b text
hits_alike a b alike text =
    sym (list_any-map regex_tree (λ (t : RegexTree). hits t text) a) ∙ ap (list_any (λ (t : RegexTree). hits t text)) alike ∙ list_any-map regex_tree (λ (t : RegexTree). hits t text) b

-- what is seen of an attempt is the same for two readings of the properties
one_seen : (def : TestDef) (p q : Props) → HasProps def p → HasProps def q → (attempt : Told) → seen_as_told (Some p) attempt ≡ seen_as_told (Some q) attempt
one_seen def p q has own attempt =
    let fail : some_hits p.fail attempt.heard ≡ some_hits q.fail attempt.heard = hits_alike p.fail q.fail (same_ok _ (map regex_tree p.fail) (map regex_tree q.fail) has.fail own.fail) attempt.heard in
    let pass : some_hits p.pass attempt.heard ≡ some_hits q.pass attempt.heard = hits_alike p.pass q.pass (same_ok _ (map regex_tree p.pass) (map regex_tree q.pass) has.pass own.pass) attempt.heard in
    let skip : some_hits p.skip attempt.heard ≡ some_hits q.skip attempt.heard = hits_alike p.skip q.skip (same_ok _ (map regex_tree p.skip) (map regex_tree q.skip) has.skip own.skip) attempt.heard in
    λ i. record { how = attempt.ended.how; fail_hit = fail i; pass_hit = pass i; skip_hit = skip i; micros = attempt.ended.micros }

seen_there : (defs : List TestDef) (ps qs : List Props) → HaveProps defs ps → HaveProps defs qs → (place : ℕ) (attempt : Told) → seen_as_told (slice_get ps place) attempt ≡ seen_as_told (slice_get qs place) attempt
seen_there [] [] [] have own place attempt = refl
seen_there [] [] (q ∷ qs) have own place attempt = absurd own
seen_there [] (p ∷ ps) qs have own place attempt = absurd have
seen_there (d ∷ ds) [] qs have own place attempt = absurd have
seen_there (d ∷ ds) (p ∷ ps) [] have own place attempt = absurd own
seen_there (d ∷ ds) (p ∷ ps) (q ∷ qs) have own zero attempt = one_seen d p q have.0 own.0 attempt
seen_there (d ∷ ds) (p ∷ ps) (q ∷ qs) have own (suc place) attempt = seen_there ds ps qs have.1 own.1 place attempt

seen_at : (defs : List TestDef) (ps qs : List Props) → HaveProps defs ps → HaveProps defs qs → (number : ℕ) (attempt : Told) → seen_as_told (at_number ps number) attempt ≡ seen_as_told (at_number qs number) attempt
seen_at defs ps qs have own zero attempt = refl
seen_at defs ps qs have own (suc place) attempt = seen_there defs ps qs have own place attempt

-- two trees that define the same tests, of which the same is wanted with the same resources
module _ (wanted : InvocationValue) (lent : Option (List Resource)) (defs : List TestDef) (one other : Tree) (is : IsTreeFor wanted lent defs one) (also : IsTreeFor wanted lent defs other) where
  seen_same : invocation_seen is.invocation ≡ invocation_seen also.invocation
  seen_same = is.asks ∙ sym also.asks

  defs_same : one.defs ≡ other.defs
  defs_same = is.defines ∙ sym also.defines

  have_one : HaveProps other.defs one.props
  have_one = subst (λ (ds : List TestDef). HaveProps ds one.props) defs_same is.is.read.tests.have

  abbrev one_source : Source
  one_source = source_for is.invocation lent is.dir one.defs one.props one.costs

  abbrev other_source : Source
  other_source = source_for also.invocation lent also.dir other.defs other.props other.costs

  choices : IsSameChoice is.invocation.wanted.choice also.invocation.wanted.choice
  choices = choices_alike is.invocation also.invocation seen_same

  sources_alike : AreAlike one_source other_source
  sources_alike = record {
    level = ap (λ (v : InvocationValue). v.level) seen_same;
    resources = refl;
    defs = defs_same;
    have = is.is.read.tests.have;
    own = also.is.read.tests.have;
    members =
        ap (λ (ds : List TestDef). run_members (source_for is.invocation lent is.dir ds one.props one.costs)) defs_same
        ∙ members_same other.defs one.props other.props have_one also.is.read.tests.have is.invocation.wanted.choice also.invocation.wanted.choice choices;
    before =
        ap (λ (ds : List TestDef). members_before (source_for is.invocation lent is.dir ds one.props one.costs)) defs_same
        ∙ before_same other.defs one.props other.props have_one also.is.read.tests.have is.invocation.wanted.choice also.invocation.wanted.choice choices;
    setups =
        ap (λ (ds : List TestDef). setup_members (source_for is.invocation lent is.dir ds one.props one.costs)) defs_same
        ∙ set_up_same other.defs one.props other.props have_one also.is.read.tests.have is.invocation.wanted.choice also.invocation.wanted.choice choices;
  }

  -- their plans have the same tests but for the ranks
  pub trees_tests : map unranked one.plan.tests ≡ map unranked other.plan.tests
  trees_tests =
      tests_alike one_source other_source sources_alike (run_members other_source) one.plan.tests other.plan.tests
      (subst (λ (ns : List ℕ). ArePlannedTests one_source ns one.plan.tests) sources_alike.members is.is.planned.tests) also.is.planned.tests

  pub trees_repeat : one.plan.repeat ≡ other.plan.repeat
  trees_repeat = is.is.planned.repeat ∙ ap (λ (v : InvocationValue). v.repeat) seen_same ∙ sym also.is.planned.repeat

  pub trees_stop : one.plan.stop_on_failure ≡ other.plan.stop_on_failure
  trees_stop = is.is.planned.stop ∙ ap (λ (v : InvocationValue). v.stop_on_failure) seen_same ∙ sym also.is.planned.stop

  -- the same is seen of each attempt
  pub trees_seen : (answers : ℕ → ℕ → Told) → seen_by one.props answers ≡ seen_by other.props answers
  trees_seen answers = fun_ext λ test. fun_ext λ attempt. seen_at other.defs one.props other.props have_one also.is.read.tests.have test (answers test attempt)
