use Rattle.std.proofs.Common.{◌≡◌, [], sym, ap, ◌∙◌}
use Rattle.std.proofs.lemmas.List.{nil_from_length}
use Rattle.std.proofs.lemmas.Result.{err_from_is_err_and}
use Rattle.std.specs.Vec.Iter.{into_iter_items}
use Rattle.ct_suite.specs.Values.{argument_text, part_text}
use Rattle.ct_suite.proofs.TakesLemmas.{stands-on, takes-done, takes-stopped}
use Rattle.ct_suite.proofs.reader.Reader.take_parts.Goals as goal

pub returns-in_err-take_part : goal.returns-in_err-take_part
returns-in_err-take_part c =
    let texts = argument_text c.args.table.now in
    let behind = into_iter_items c.loop-part.part-iterator in
    let more = into_iter_items c.next.new.self in
    let p = err_from_is_err_and c.from_residual.result c.from_residual.ensures.1 in
    rw (p.1, p.2) (takes-stopped c.args.limits.now c.args.self.now c.loop-part.self c.take_part.new.self (texts c.args.parts) (texts behind) (part_text c.args.table.now c.in-Some.part) (texts more) c.in_err-take_part.field-0.0 (ap texts c.in-Some.ensures.steps.0) c.loop-part.invariant.same c.in_err-take_part.ensures.stopped)

pub loop-part-preserved : goal.loop-part-preserved
loop-part-preserved c =
    let texts = argument_text c.args.table.now in
    let behind = into_iter_items c.loop-part.part-iterator in
    let more = into_iter_items c.next.new.self in record {
      within = c.in_ok-take_part.ensures.within;
      same = stands-on c.args.self.now c.loop-part.self c.take_part.new.self (texts c.args.parts) (texts behind) (part_text c.args.table.now c.in-Some.part) (texts more) (ap texts c.in-Some.ensures.steps.0) c.loop-part.invariant.same c.in_ok-take_part.ensures.taken;
    }

pub returns : goal.returns
returns c =
    let texts = argument_text c.args.table.now in
    let done : into_iter_items c.loop-part.part-iterator ≡ [] =
    nil_from_length _ (sym c.loop-part.part-iterator.rest.ok.0 ∙ c.in-None.ensures.steps.0) in
    takes-done c.args.limits.now c.args.self.now c.loop-part.self (texts c.args.parts) (texts (into_iter_items c.loop-part.part-iterator)) (ap texts done) c.loop-part.invariant.within c.loop-part.invariant.same
