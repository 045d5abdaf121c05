use Rattle.std.proofs.Common.{◌∙◌, ◌+◌, ◌<◌, Bool, List, eqb, get_or, length, sym, ap, subst, arith}
use Rattle.std.proofs.lemmas.List.{length-set}
use Rattle.ct_queue.specs.Lines.{LinesValue}
use Rattle.ct_queue.proofs.ReadyLemmas.{AreMarkedTo, marked_to_more}
use Rattle.ct_queue.proofs.ready.lines_at_zero.Goals as goal

pub loop-place-preserved : goal.loop-place-preserved
loop-place-preserved c =
    let before = c.loop-place.invariant in
    let place = c.loop-place.place in
    let counts = c.args.counts.now in
    let members = c.loop-place.members.members in
    let counted = c.requires.counted in
    let test = c.loop-place-test.true in
    let seated = before.2 in
    let room : place < length members = omega (arith, counted, test, seated) in (
      ap (λ (v : LinesValue). v.lines) c.set.ensures ∙ before.0,
      ap (λ (v : LinesValue). v.bunches) c.set.ensures ∙ before.1,
      ap (λ (v : LinesValue). length v.members) c.set.ensures ∙ length-set members place (eqb (get_or counts place 0) 0) ∙ before.2,
      subst (λ (ms : List Bool). AreMarkedTo counts ms (place + 1)) (sym (ap (λ (v : LinesValue). v.members) c.set.ensures))
          (marked_to_more counts members place room before.3),
    )
