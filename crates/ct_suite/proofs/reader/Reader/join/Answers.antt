use Rattle.std.proofs.Common.{◌++◌, ap, sym, ◌∙◌, append_assoc}
use Rattle.std.specs.Vec.Iter.{into_iter_items}
use Rattle.ct_suite.specs.Values.{argument_text, part_text}
use Rattle.ct_suite.proofs.reader.Reader.join.Goals as goal

pub loop-part-preserved : goal.loop-part-preserved
loop-part-preserved c =
    let texts = argument_text c.args.table.now in
    let text = c.loop-part.self.text.items in
    let more = into_iter_items c.next.new.self in record {
      within = record {
        counted = c.loop-part.invariant.within.counted;
        values = c.loop-part.invariant.within.values;
        text = c.in_ok-join_part.ensures.within;
      };
      values = c.loop-part.invariant.values;
      held = c.loop-part.invariant.held;
      same = ap (λ items. items ++ texts more) c.in_ok-join_part.ensures.joined
          ∙ append_assoc text (part_text c.args.table.now c.in-Some.part) (texts more)
          ∙ ap (λ parts. text ++ texts parts) (sym c.in-Some.ensures.steps.0)
          ∙ c.loop-part.invariant.same;
    }
