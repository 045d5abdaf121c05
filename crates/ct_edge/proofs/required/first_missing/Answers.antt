use Rattle.std.proofs.Common.{◌∷◌, ◌++◌, [], take, sym, ap, subst, ◌∙◌}
use Rattle.std.proofs.lemmas.List.{take_more}
use Rattle.ct_edge.specs.Required.{IsMissing}
use Rattle.ct_edge.proofs.RequiredLemmas.{kept-more, calm-more, there-more}
use Rattle.ct_edge.proofs.required.first_missing.Goals as goal

pub loop-place-preserved : goal.loop-place-preserved
loop-place-preserved g c =
    let files = c.args.required.now in
    let at = c.loop-place.place in
    let path = c.index-required-place.result in
    let start = g.F.Files.tells c.args.files.now in
    let before = g.F.Files.tells c.loop-place.files in
    let now = g.F.Files.tells c.exists.new.self in
    let was = c.loop-place.invariant in
    let says = c.exists.ensures in
    let missing = subst (IsMissing c.exists.result) c.if-branch.false c.in_ok-is_missing.ensures in
    let next = take_more files at path c.loop-place-test.true ∙ ap (λ last. take at files ++ last ∷ []) (sym c.index-required-place.is) in
    record {
      kept = kept-more start.held before.held now.held was.kept says.looks.kept;
      calm = calm-more start.faults before.faults now.faults c.exists.result was.calm says.looks.asks.cause missing;
      there = there-more files at path next start.held before.held c.exists.result was.kept was.there says.ok missing;
    }
