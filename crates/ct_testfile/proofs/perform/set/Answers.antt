use Rattle.std.proofs.Common.{ap, sym, ◌∙◌}
use Rattle.ct_suite.specs.Words.{list_value}
use Rattle.ct_testfile.specs.Commands.{set}
use Rattle.ct_testfile.proofs.PerformLemmas.{apart-is, apart-none, set-done}
use Rattle.ct_testfile.proofs.perform.set.Goals as goal

pub returns-in_default : goal.returns-in_default
returns-in_default c =
    ap (λ values. set values c.args.state) (apart-none c.args.values (sym c.take_apart.ensures ∙ c.in_default.is))

pub returns : goal.returns
returns c =
    set-done c.args.values c.in-Some.values c.in-Some.name c.args.state c.in_ok-value.value c.in_ok-with.field-0 (apart-is c.args.values c.in-Some.name c.in-Some.values (sym c.take_apart.ensures ∙ c.in-Some.is)) (c.in_ok-value.ensures ∙ ap list_value c.as_slice.ensures) c.in_ok-with.ensures
