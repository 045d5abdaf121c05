-- A test failed in a run of the whole plan exactly where one failed in the part of some tree.
use Rattle.std.proofs.Common.{◌≡◌, ◌∙◌, sym, ap, refl, ℕ, ◌+◌, Bool, true, List, [], ◌∷◌, length, map}
use Rattle.std.specs.Prelude.{Option, Some, None, option_map, ◌||◌}
use Rattle.std.specs.List.{list_all, list_any}
use Rattle.std.proofs.lemmas.List.Folds.{list_any-append}
use Rattle.std.proofs.lemmas.Bool.{and_parts}
use Rattle.ct_verdict.specs.declared.repeat.Repeat.{Repeat}
use Rattle.ct_verdict.specs.declared.verdict.Cause.{Cause}
use Rattle.ct_verdict.specs.declared.verdict.Cause.TheVariants.{Unstarted, Lacks, Fixture, NotAvailable, BadOperation, Insufficient, Stopped, Memory}
use Rattle.ct_verdict.specs.declared.verdict.Verdict.{Verdict}
use Rattle.ct_verdict.specs.declared.verdict.Verdict.TheVariants.{Passed, Failed, Timeout, Exception, Skipped, NotRun, Disabled}
use Rattle.ct_verdict.specs.Verdict.{is_failing_cause}
use Rattle.ct_history.specs.declared.plan.PlanTest.{PlanTest}
use Rattle.ct_history.specs.declared.plan.PlanParts.{PlanParts}
use Rattle.ct_history.specs.declared.history.Entry.{Entry}
use Rattle.ct_history.specs.Legal.{has_failing}
use Rattle.ct_history.specs.Parts.{cause_back, is_in_tree, part_of, renumbered, verdict_back}
use Rattle.ct_history.specs.Verdicts.{is_failing_in, verdict_in}
use Rattle.ct_history.proofs.PartLemmas.{tests_in, verdict-part}
use Rattle.ct_plan.specs.declared.whole.Tree.{Tree}
use Rattle.ct_plan.specs.Whole.{AreTreeParts, IsWholePlan, tests_of_trees}
use Rattle.ct_trees.specs.TreeParts.{parts_behind, some_failing}
use Rattle.ct_trees.specs.TreeReports.{rest_of}

cause_fails_back : (o : ℕ) (cause : Cause) → is_failing_cause (cause_back o cause) ≡ is_failing_cause cause
cause_fails_back o Unstarted = refl
cause_fails_back o (Lacks k) = refl
cause_fails_back o (Fixture s) = refl
cause_fails_back o NotAvailable = refl
cause_fails_back o (BadOperation k) = refl
cause_fails_back o Insufficient = refl
cause_fails_back o Stopped = refl
cause_fails_back o Memory = refl

-- a verdict fails under each number of its setup
fails_back : (o : ℕ) (v : Option Verdict) → is_failing_in (option_map (verdict_back o) v) ≡ is_failing_in v
fails_back o None = refl
fails_back o (Some Passed) = refl
fails_back o (Some Failed) = refl
fails_back o (Some Timeout) = refl
fails_back o (Some Exception) = refl
fails_back o (Some Skipped) = refl
fails_back o (Some (NotRun cause)) = cause_fails_back o cause
fails_back o (Some Disabled) = refl

-- one of these tests failed in the part exactly where it failed in the whole history
tests_fail : (o c : ℕ) (repeat : Repeat) (es : List Entry) (ts : List PlanTest) → list_all (λ (t : PlanTest). is_in_tree o c (t.number + o)) ts ≡ true → list_any (λ (t : PlanTest). is_failing_in (verdict_in repeat t (part_of o c es))) ts ≡ list_any (λ (t : PlanTest). is_failing_in (verdict_in repeat t es)) (map (renumbered o) ts)
tests_fail o c repeat es [] here = refl
tests_fail o c repeat es (t ∷ ts) here =
    let both = and_parts (is_in_tree o c (t.number + o)) (list_all (λ (u : PlanTest). is_in_tree o c (u.number + o)) ts) here in
    let first : is_failing_in (verdict_in repeat t (part_of o c es)) ≡ is_failing_in (verdict_in repeat (renumbered o t) es) = ap is_failing_in (verdict-part o c repeat t both.0 es) ∙ fails_back o (verdict_in repeat (renumbered o t) es) in
    ap (λ (b : Bool). b || list_any (λ (u : PlanTest). is_failing_in (verdict_in repeat u (part_of o c es))) ts) first
    ∙ ap (λ (b : Bool). is_failing_in (verdict_in repeat (renumbered o t) es) || b) (tests_fail o c repeat es ts both.1)

-- one of the tests of these trees failed
trees_fail : (whole : PlanParts) (es : List Entry) (o : ℕ) (trees : List Tree) → AreTreeParts whole o trees → some_failing (map rest_of trees) (parts_behind o (map rest_of trees) es) ≡ list_any (λ (t : PlanTest). is_failing_in (verdict_in whole.repeat t es)) (tests_of_trees o trees)
trees_fail whole es o [] parts = refl
trees_fail whole es o (tree ∷ trees) parts =
    let c = length tree.defs in
    let behind = trees_fail whole es (o + c) trees parts.1 in
    ap (λ (b : Bool). b || some_failing (map rest_of trees) (parts_behind (o + c) (map rest_of trees) es))
    (ap (λ (r : Repeat). list_any (λ (t : PlanTest). is_failing_in (verdict_in r t (part_of o c es))) tree.plan.tests) (sym parts.0.repeat)
    ∙ tests_fail o c whole.repeat es tree.plan.tests (tests_in whole o c tree.plan parts.0))
    ∙ ap (λ (b : Bool). list_any (λ (t : PlanTest). is_failing_in (verdict_in whole.repeat t es)) (map (renumbered o) tree.plan.tests) || b) behind
    ∙ sym (list_any-append (λ (t : PlanTest). is_failing_in (verdict_in whole.repeat t es)) (map (renumbered o) tree.plan.tests) (tests_of_trees (o + c) trees))

-- a test failed in the part of some tree exactly where one failed in the whole history
pub parts_fail : (trees : List Tree) (whole : PlanParts) (es : List Entry) → IsWholePlan trees whole → AreTreeParts whole 0 trees → some_failing (map rest_of trees) (parts_behind 0 (map rest_of trees) es) ≡ has_failing whole es
parts_fail trees whole es is parts =
    trees_fail whole es 0 trees parts
    ∙ ap (λ (ts : List PlanTest). list_any (λ (t : PlanTest). is_failing_in (verdict_in whole.repeat t es)) ts) (sym is.tests)
