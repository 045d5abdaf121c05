use Rattle.std.proofs.Common.{rules, List, map, get_or, refl, sym, ap, ◌∙◌}
use Rattle.ct_regex.specs.Walk.{Step, step_of}
use Rattle.ct_regex.specs.Stand.{Stand, a_stand}
use Rattle.ct_regex.specs.declared.walk.Flow.{Flow}
use Rattle.ct_regex.proofs.ScanLemmas.{walk_stands, goes_by_one, finds_here}
use Rattle.ct_regex.proofs.walk.walk_on.Goals as goal

pub loop-i-preserved : goal.loop-i-preserved
loop-i-preserved c =
    let steps : List Step = map step_of c.args.steps.now in
    let here : Stand = a_stand c.loop-i.marks c.loop-i.last in
    let next : Stand = a_stand c.walk-flow.new.marks c.walk-flow.result.last in
    let first : Stand = a_stand c.args.marks.now c.args.ends in
    record {
      same = goes_by_one steps first here next c.args.bytes.now c.loop-i.i c.loop-i-test.true
          (walk_stands steps here (get_or c.args.bytes.now c.loop-i.i 0) c.walk-flow.new.marks c.walk-flow.result refl c.walk-flow.ensures.flow c.walk-flow.ensures.marks c.if-flow.false)
          c.loop-i.invariant.same;
      room = search rules;
    }

pub returns-then-flow-clause-comes : goal.returns-then-flow-clause-comes
returns-then-flow-clause-comes c =
    let steps : List Step = map step_of c.args.steps.now in
    let here : Stand = a_stand c.loop-i.marks c.loop-i.last in
    let first : Stand = a_stand c.args.marks.now c.args.ends in
    finds_here steps first here c.args.bytes.now c.loop-i.i c.loop-i-test.true c.loop-i.invariant.same
    (ap (λ (f : Flow). f.now) (sym c.walk-flow.ensures.flow) ∙ c.if-flow.true)
