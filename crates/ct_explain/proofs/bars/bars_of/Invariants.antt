use Rattle.std.proofs.Common.{◌≡◌, ◌++◌, take, drop}
use Rattle.ct_explain.specs.Bars.{AreBegins, bars, bars_behind}
use Rattle.ct_explain.proofs.bars.bars_of.Given as goal

abbrev pub invariant-loop-at : goal.invariant-loop-at
invariant-loop-at l = record {
  bars : l.bars ++ bars_behind l.times (take l.at l.entries) (drop l.at l.entries) ≡ bars l.entries l.times;
  begins : AreBegins (take l.at l.entries) l.begins;
}
