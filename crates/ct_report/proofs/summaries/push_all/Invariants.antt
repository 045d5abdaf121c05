use Rattle.std.proofs.Common.{◌≡◌, ◌++◌}
use Rattle.ct_report.proofs.summaries.push_all.Given as goal

abbrev pub invariant-loop-line : goal.invariant-loop-line
invariant-loop-line l = l.lines ≡ l.initial.lines ++ l.yielded
