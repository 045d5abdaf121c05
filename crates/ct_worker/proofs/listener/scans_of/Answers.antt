use Rattle.std.proofs.Common.{rules, ◌≡◌, ◌<◌, ◌++◌, ◌∷◌, [], arith, length}
use Rattle.ct_worker.proofs.ListenerLemmas.{all_stand-more}
use Rattle.ct_worker.proofs.listener.scans_of.Goals as goal

pub loop-pattern-preserved : goal.loop-pattern-preserved
loop-pattern-preserved c =
    let inside : c.loop-pattern.pattern-index < length c.args.patterns.now = omega arith in
    let pushed : c.push.new.self.items ≡ c.loop-pattern.scans.items ++ c.in_ok-new.field-0 ∷ [] = search rules in
    all_stand-more c.loop-pattern.pattern-index c.args.patterns.now [] c.loop-pattern.scans.items c.push.new.self.items c.pattern-item.result c.in_ok-new.field-0 inside c.pattern-item.is pushed c.loop-pattern.invariant c.in_ok-new.ensures
