use Rattle.std.proofs.Common.{◌≡◌, ◌++◌, drop}
use Rattle.ct_explain.specs.Escaped.{escaped_text, escaped_from}
use Rattle.ct_explain.proofs.escaped.append_escaped.Given as goal

abbrev pub invariant-loop-at : goal.invariant-loop-at
invariant-loop-at l = l.text ++ escaped_from l.left (drop l.at l.bytes) ≡ l.initial.text ++ escaped_text l.bytes
