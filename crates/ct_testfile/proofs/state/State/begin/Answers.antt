use Rattle.std.proofs.lemmas.Result.{err_from_is_err_and}
use Rattle.std.proofs.Common.{Err, subst}
use Rattle.ct_suite.specs.Values.{values_of}
use Rattle.ct_suite.specs.Readers.{StopsFor}
use Rattle.ct_testfile.specs.Commands.{with_command, evaluated, value_limits}
use Rattle.ct_testfile.specs.Says.{stop_for}
use Rattle.ct_testfile.proofs.SaysLemmas.{Follows-then}
use Rattle.ct_testfile.proofs.BegunLemmas.{counted-variables, stops-evaluated}
use Rattle.ct_testfile.proofs.state.State.begin.Goals as goal

pub returns-in_err-values : goal.returns-in_err-values
returns-in_err-values c =
    let all = values_of c.args.self.variables c.args.args.now in
    let same = counted-variables c.args.limits.now c.args.self c.in_ok-state.state c.in_ok-state.ensures in
    let why = c.in_err-values.field-0.0 in
    let p = err_from_is_err_and c.from_residual-in_err-values.result c.from_residual-in_err-values.ensures.1 in
    let stopped = subst (λ limits. StopsFor limits (values_of c.in_ok-state.state.variables c.args.args.now) why) c.value_limits.ensures c.in_err-values.ensures.stopped in
    rw (p.1, p.2) (Follows-then (with_command c.args.limits.now c.args.self) (evaluated c.args.limits.now all) c.in_ok-state.state (Err (stop_for why)) c.in_ok-state.ensures (stops-evaluated c.args.limits.now all c.in_ok-state.state why (subst (λ vs. StopsFor (value_limits c.args.limits.now) (values_of vs c.args.args.now) why) same stopped)))
