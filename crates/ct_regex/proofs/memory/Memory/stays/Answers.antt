use Rattle.std.proofs.Common.{rules, ◌≡◌, ℕ, get_or, Some, ◌∙◌}
use Rattle.ct_regex.specs.Memory.{entry_at}
use Rattle.ct_regex.proofs.MemoryLemmas.{goes_by}
use Rattle.ct_regex.proofs.memory.Memory.stays.Goals as goal

pub loop-i-preserved : goal.loop-i-preserved
loop-i-preserved c = λ steps h.
    let byte : ℕ = get_or c.args.piece.now c.loop-i.i 0 in
    let back : entry_at c.args.self.now c.args.at byte ≡ Some c.args.at = search rules in
    goes_by steps c.args.self.now c.args.piece.now c.args.at c.args.at c.loop-i.i c.loop-i-test.true (search rules) h back ∙ c.loop-i.invariant steps h
