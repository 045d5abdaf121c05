use Rattle.std.proofs.Common.{◌≡◌, ◌∙◌, ◌<◌, length, sym, arith}
use Rattle.std.proofs.lemmas.Slice.Eq.{bytes_eq-Decides}
use Rattle.ct_core.proofs.LineLemmas.{same_more}
use Rattle.ct_core.proofs.lines.are_same_names.Goals as goal

pub loop-at-preserved : goal.loop-at-preserved
loop-at-preserved c =
    let name = c.index-names-at.result in
    let other = c.index-others-at.result in
    let within : c.loop-at.at < length c.args.names.now = omega arith in
    let inside : c.loop-at.at < length c.args.others.now = omega arith in
    let same : name ≡ other = (bytes_eq-Decides name other).0 (sym c.is.ensures ∙ c.if-not-is.false) in
    same_more c.args.names.now c.args.others.now c.loop-at.at name other within inside c.index-names-at.is c.index-others-at.is same c.loop-at.invariant
