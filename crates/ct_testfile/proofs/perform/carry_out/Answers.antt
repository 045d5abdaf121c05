use Rattle.std.proofs.Common.{List}
use Rattle.std.proofs.lemmas.Result.{err_from_is_err_and}
use Rattle.ct_suite.specs.Tests.{most_bytes}
use Rattle.ct_suite.specs.Values.{texts}
use Rattle.ct_testfile.specs.Commands.{begun, performed}
use Rattle.ct_testfile.specs.declared.state.State.{State}
use Rattle.ct_suite.specs.declared.value.Value.{Value}
use Rattle.ct_testfile.proofs.SaysLemmas.{Follows-then, Follows-stopped}
use Rattle.ct_testfile.proofs.BegunLemmas.{begun-short}
use Rattle.ct_testfile.proofs.perform.carry_out.Goals as goal

pub returns-in_err-values : goal.returns-in_err-values
returns-in_err-values c =
    let p = err_from_is_err_and c.from_residual.result c.from_residual.ensures.1 in
    rw (p.1, p.2) (Follows-stopped (begun c.args.limits.now c.args.args.now c.args.state) (λ (read : List Value × State). performed c.args.limits.now c.args.dir.now c.args.command (texts read.0) read.1) c.in_err-values.field-0.0 c.in_err-values.ensures)

pub returns : goal.returns
returns c =
    Follows-then (begun c.args.limits.now c.args.args.now c.args.state) (λ (read : List Value × State). performed c.args.limits.now c.args.dir.now c.args.command (texts read.0) read.1) (c.in_ok-values.values, c.in_ok-values.state) c.perform.result c.in_ok-values.ensures c.perform.ensures

pub perform-requires-clause-values : goal.perform-requires-clause-values
perform-requires-clause-values c =
    begun-short c.args.limits.now most_bytes c.requires.values c.args.args.now c.args.state c.in_ok-values.state c.in_ok-values.values c.in_ok-values.ensures
