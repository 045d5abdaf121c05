use Rattle.std.proofs.Common.{◌∙◌, sym, ap, subst, ℕ, List, refl, inr, length, map}
use Rattle.std.specs.Prelude.{Some, Result, Ok, is_some}
use Rattle.std.proofs.lemmas.List.{length-map}
use Rattle.ct_history.specs.declared.plan.PlanParts.{PlanParts}
use Rattle.ct_graph.specs.Order.{most_edges}
use Rattle.ct_plan.specs.PlanOf.{IsPlanAnswer}
use Rattle.ct_plan.specs.Source.{source}
use Rattle.ct_worker.specs.Gates.{AreAsked, Terms}
use Rattle.ct_app.specs.Calls.{sides}
use Rattle.ct_app.specs.Ends.{Ends, history_entries}
use Rattle.ct_app.specs.Rerun.{wanted_of}
use Rattle.ct_app.specs.RunFiles.{done_of}
use Rattle.ct_app.specs.declared.outcome.Outcome.{Outcome}
use Rattle.ct_app.specs.declared.props.Tests.{Tests}
use Rattle.ct_app.specs.Tests.{terms_from, without_links}
use Rattle.ct_app.proofs.LeaveLemmas.{folder_ends, terms_are}
use Rattle.ct_app.proofs.PlanLemmas.{reaches}
use Rattle.ct_app.proofs.TermLemmas.{asked_with_links}
use Rattle.ct_app.proofs.folder.run_folder.Goals as goal

pub run_plan-ended-requires-clause-reach : goal.run_plan-ended-requires-clause-reach
run_plan-ended-requires-clause-reach g c lifetimes outlives =
    let folder = c.in-Ok.folder in
    let is = c.in-Ok.ensures.ok in
    reaches (source folder.tests.defs folder.tests.props (wanted_of c.args.invocation is.only) is.resources folder.costs) _ folder.plan (ap (λ (t : Tests). t.defs) c.without_links-tests.ensures) (ap (λ (t : Tests). length t.props) c.without_links-tests.ensures ∙ length-map folder.tests.props without_links) is.read.read.read.have is.answer.1

pub returns-clause-ends : goal.returns-clause-ends
returns-clause-ends g c words asked =
    let folder = c.in-Ok.folder in
    let is = c.in-Ok.ensures.ok in
    let run = c.run_plan-ended in
    let files = g.F.Files.tells c.args.files.now in
    let files_now = g.F.Files.tells c.leave_files-ended.new.files in
    let gates = map g.G.Gate.tells c.args.gates.now in
    let gates_now = map g.G.Gate.tells run.new.gates in
    let sink = g.S.Sink.tells c.args.sink in
    let sink_now = g.S.Sink.tells run.result.sink in
    let entries = history_entries run.result.history in
    let made = source folder.tests.defs folder.tests.props (wanted_of c.args.invocation is.only) is.resources folder.costs in
    let limit = c.args.invocation.timeout in
    let lends = is_some folder.plan.resources in
    let asked_so : AreAsked (record { own = c.args.env.now; defs = c.without_links-tests.result.defs; props = c.without_links-tests.result.props; limit = limit; lends = lends }) 0 gates gates_now entries → AreAsked (terms_from c.args.env.now made limit) 0 gates gates_now entries = λ were. subst (λ (t : Terms). AreAsked t 0 gates gates_now entries) (terms_are c.args.env.now made limit folder.plan is.answer.1)
    (asked_with_links c.args.env.now folder.tests.defs folder.tests.props limit lends c.without_links-tests.result c.without_links-tests.ensures 0 gates gates_now entries were) in
    let planned = subst (λ (p : PlanParts). IsPlanAnswer most_edges made (Ok p)) (sym run.ensures.plan) is.answer in
    subst (λ (ended : Result ℕ Outcome). Ends (sides words c.args.env.now files files_now gates gates_now sink sink_now (Some run.result.plan) (Some entries)) c.new.result ended) (sym c.leave_files-ended.ensures.status)
    (folder_ends words c.args.env.now c.args.invocation asked files (g.F.Files.tells c.plan_folder.new.files) files_now folder.tests is.resources folder.costs is.only is.read
    _ gates gates_now sink sink_now run.result.plan entries c.new.result run.result.ended (done_of c.leave_files-ended.result) asked_so planned run.ensures.ran run.ensures.order run.ensures.ends c.leave_files-ended.ensures.left)

pub returns-in-Err-clause-ends : goal.returns-in-Err-clause-ends
returns-in-Err-clause-ends g c words asked =
    let gates = map g.G.Gate.tells c.args.gates.now in
    let sink = g.S.Sink.tells c.args.sink in
    rw c.unplanned.ensures (inr (c.in-Err.ensures.err words c.args.env.now gates sink asked, refl))
