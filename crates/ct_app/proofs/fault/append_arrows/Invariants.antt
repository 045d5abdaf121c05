use Rattle.std.proofs.Common.{◌≡◌, ◌++◌, drop}
use Rattle.ct_app.specs.Outcome.{arrows_to}
use Rattle.ct_app.proofs.fault.append_arrows.Given as goal

abbrev pub invariant-loop-name : goal.invariant-loop-name
invariant-loop-name l = l.text ++ arrows_to (drop l.name-index l.names) ≡ l.initial.text ++ arrows_to l.names
