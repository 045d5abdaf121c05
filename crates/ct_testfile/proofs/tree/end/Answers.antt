use Rattle.std.proofs.Common.{◌∷◌, ap, sym, ◌∙◌, refl, None, Err}
use Rattle.ct_testfile.specs.Tree.{ended}
use Rattle.ct_testfile.specs.declared.fault.ReadKind.TheVariants.{UnpairedIf}
use Rattle.ct_testfile.proofs.ConditionLemmas.{innermost-none, innermost-some}
use Rattle.ct_testfile.proofs.OverLemmas.{IsAnswerOf-same}
use Rattle.ct_testfile.proofs.tree.end.Goals as goal

pub returns-in-None-clause-says : goal.returns-in-None-clause-says
returns-in-None-clause-says c =
    ap (λ ifs. ended c.args.here.now.file.now.path ifs c.args.state None) (innermost-none c.args.ifs (sym c.take_inner.ensures ∙ c.in-None.is))

pub returns-in-Some-clause-says : goal.returns-in-Some-clause-says
returns-in-Some-clause-says c =
    let inner = c.in-Some.inner in
    let outer = c.in-Some.field-0-1 in
    IsAnswerOf-same (ended c.args.here.now.file.now.path (inner ∷ outer) c.args.state None) (ended c.args.here.now.file.now.path c.args.ifs c.args.state None) c.at_line.result (ap (λ ifs. ended c.args.here.now.file.now.path ifs c.args.state None) (sym (innermost-some c.args.ifs outer inner (sym c.take_inner.ensures ∙ c.in-Some.is)))) (c.at_line.ensures.says (Err UnpairedIf) refl)

pub returns-in-Some-clause-unfailed : goal.returns-in-Some-clause-unfailed
returns-in-Some-clause-unfailed c = c.at_line.ensures.unfailed
