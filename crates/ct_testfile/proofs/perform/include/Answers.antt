use Rattle.std.proofs.Common.{sym, ◌∙◌}
use Rattle.ct_testfile.proofs.PerformLemmas.{apart-is, apart-none, included-one, included-more, included-none}
use Rattle.ct_testfile.proofs.perform.include.Goals as goal

pub returns-in_default : goal.returns-in_default
returns-in_default c =
    included-none c.args.values c.args.state (apart-none c.args.values (sym c.take_apart.ensures ∙ c.in_default.is))

pub returns-in_ok-file-in-None : goal.returns-in_ok-file-in-None
returns-in_ok-file-in-None c =
    included-one c.args.values c.in-Some.rest c.in-Some.name c.args.state c.in_ok-file-in-None.field-0 (apart-is c.args.values c.in-Some.name c.in-Some.rest (sym c.take_apart.ensures ∙ c.in-Some.is)) (apart-none c.in-Some.rest (sym c.take_apart-2.ensures ∙ c.in-None.is)) c.in_ok-file-in-None.ensures

pub returns-in-Some-take_apart : goal.returns-in-Some-take_apart
returns-in-Some-take_apart c =
    let more = c.in-Some-take_apart.field-0 in
    included-more c.args.values c.in-Some.rest more.1 c.in-Some.name more.0 c.args.state (apart-is c.args.values c.in-Some.name c.in-Some.rest (sym c.take_apart.ensures ∙ c.in-Some.is)) (apart-is c.in-Some.rest more.0 more.1 (sym c.take_apart-2.ensures ∙ c.in-Some-take_apart.is))
