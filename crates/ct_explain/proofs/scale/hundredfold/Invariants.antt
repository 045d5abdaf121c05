use Rattle.std.proofs.Common.{◌≡◌, ◌+◌, ◌*◌, ◌<◌, ◌≤◌}
use Rattle.ct_explain.proofs.scale.hundredfold.Given as goal

abbrev pub invariant-loop : goal.invariant-loop
invariant-loop l = record {
  is : l.share.times * l.whole + l.share.rest ≡ l.counter * l.part;
  left : l.share.rest < l.whole;
  few : l.share.times ≤ l.counter;
}
