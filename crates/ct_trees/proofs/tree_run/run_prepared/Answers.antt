use Rattle.std.proofs.Common.{◌≡◌, ◌∙◌, sym, subst, List, map}
use Rattle.ct_app.specs.Ends.{history_entries}
use Rattle.ct_trees.specs.declared.joining.TreeRest.{TreeRest}
use Rattle.ct_trees.specs.TreeEnds.{EndsWithTrees}
use Rattle.ct_trees.specs.TreeReports.{rest_of}
use Rattle.ct_trees.specs.TreeRuns.{sides_of_run}
use Rattle.ct_trees.specs.TreeStops.{TreesEnd}
use Rattle.ct_trees.proofs.PlannedRunLemmas.{rests_few, rests_final, rests_parts, rests_places, rests_plans, rests_within, run_so, trees_ran, whole_level}
use Rattle.ct_trees.proofs.ReachLemmas.{whole_reach}
use Rattle.ct_trees.proofs.tree_run.run_prepared.Goals as goal

pub run_whole-ended-requires-clause-level : goal.run_whole-ended-requires-clause-level
run_whole-ended-requires-clause-level g c lifetimes outlives = whole_level c.requires.ready.0 c.args.ready.whole c.requires.ready.1.alike c.requires.ready.1.whole c.requires.ready.1.level

pub run_whole-ended-requires-clause-reach : goal.run_whole-ended-requires-clause-reach
run_whole-ended-requires-clause-reach g c lifetimes outlives = whole_reach c.requires.ready.0 c.args.ready.whole _ c.requires.ready.1.planned c.requires.ready.1.whole c.requires.ready.1.joined.defs c.requires.ready.1.joined.props

pub run_whole-ended-requires-clause-parts : goal.run_whole-ended-requires-clause-parts
run_whole-ended-requires-clause-parts g c lifetimes outlives = rests_parts c.requires.ready.0 c.as_slice.result.now (c.as_slice.ensures ∙ c.requires.ready.1.rests) c.args.ready.whole c.requires.ready.1.parts

pub run_whole-ended-requires-clause-few : goal.run_whole-ended-requires-clause-few
run_whole-ended-requires-clause-few g c lifetimes outlives = rests_few c.requires.ready.0 c.as_slice.result.now (c.as_slice.ensures ∙ c.requires.ready.1.rests) c.requires.ready.1.few

pub leave_files-ended-requires-clause-complete : goal.leave_files-ended-requires-clause-complete
leave_files-ended-requires-clause-complete g c =
    let run = c.run_whole-ended in
    let rests = c.as_slice-2.result.now in
    let same : rests ≡ map rest_of c.requires.ready.0 = c.as_slice-2.ensures ∙ c.requires.ready.1.rests in
    let alike : c.as_slice.result.now ≡ rests = c.as_slice.ensures ∙ sym c.as_slice-2.ensures in
    rests_final c.requires.ready.0 rests same c.args.ready.whole run.result.plan (history_entries run.result.history) (g.S.Sink.tells c.args.sink) (g.S.Sink.tells run.result.sink) run.result.ended run.ensures.plan c.requires.ready.1.parts
    (subst (λ (rs : List TreeRest). TreesEnd rs run.result.plan (history_entries run.result.history) (g.S.Sink.tells c.args.sink) (g.S.Sink.tells run.result.sink) run.result.ended) alike run.ensures.ends)

pub leave_files-ended-requires-clause-few : goal.leave_files-ended-requires-clause-few
leave_files-ended-requires-clause-few g c = rests_few c.requires.ready.0 c.as_slice-2.result.now (c.as_slice-2.ensures ∙ c.requires.ready.1.rests) c.requires.ready.1.few

pub leave_files-ended-requires-clause-places : goal.leave_files-ended-requires-clause-places
leave_files-ended-requires-clause-places g c = rests_places c.requires.ready.0 c.as_slice-2.result.now (c.as_slice-2.ensures ∙ c.requires.ready.1.rests) c.requires.ready.1.places

pub returns-clause-ran : goal.returns-clause-ran
returns-clause-ran g c trees is =
    let run = c.run_whole-ended in
    let left = c.leave_files-ended in
    let entries = history_entries run.result.history in
    let rests = c.as_slice.result.now in
    let same : rests ≡ map rest_of trees = c.as_slice.ensures ∙ is.rests in
    let alike : c.as_slice-2.result.now ≡ rests = c.as_slice-2.ensures ∙ sym c.as_slice.ensures in
    let files = g.F.Files.tells c.args.files.now in
    let files_now = g.F.Files.tells left.new.files in
    let gates = map g.G.Gate.tells c.args.gates.now in
    let gates_now = map g.G.Gate.tells run.new.gates in
    let s = sides_of_run files files_now gates gates_now (g.S.Sink.tells c.args.sink) (g.S.Sink.tells run.result.sink) in (
      c.plans_of.ensures ∙ rests_plans trees c.args.ready.rests is.rests,
      run_so trees rests same s c.args.run.now run.result.plan entries left.result.tree left.result.ended run.result.ended
          (trees_ran trees c.args.ready.joined is.joined c.args.run.now c.args.ready.whole run.result.plan run.ensures.plan entries gates gates_now is.whole run.ensures.ran run.ensures.order)
          run.ensures.ends
          (subst (λ (rs : List TreeRest). EndsWithTrees c.args.run.now.empty_is_error rs entries files files_now run.result.ended left.result.tree left.result.ended) alike left.ensures),
    )

pub plans_of-requires-clause-room : goal.plans_of-requires-clause-room
plans_of-requires-clause-room g c = rests_within c.requires.ready.0 c.args.ready.rests c.requires.ready.1.rests _ c.requires.ready.1.room
