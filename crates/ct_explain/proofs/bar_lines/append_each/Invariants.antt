use Rattle.std.proofs.Common.{◌≡◌, ◌++◌, drop}
use Rattle.ct_explain.specs.Picture.{each_pick}
use Rattle.ct_explain.proofs.bar_lines.append_each.Given as goal

abbrev pub invariant-loop-pick : goal.invariant-loop-pick
invariant-loop-pick l = l.text ++ each_pick (drop l.pick-index l.picks) ≡ l.initial.text ++ each_pick l.picks
