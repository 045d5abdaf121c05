use Rattle.std.proofs.Common.{rules, ◌≡◌, ◌<◌, ℕ, length, get_or, Some, ◌∙◌, arith}
use Rattle.ct_regex.specs.Memory.{entry_at}
use Rattle.ct_regex.proofs.MemoryLemmas.{goes_by}
use Rattle.ct_regex.proofs.memory.Memory.follow.Goals as goal

pub bytes-preserved : goal.bytes-preserved
bytes-preserved c =
    let byte : ℕ = get_or c.args.piece.now c.bytes.known 0 in
    let inside : c.bytes.known < length c.args.piece.now = search rules in
    let small : byte < 256 = search rules in
    let known : entry_at c.args.self.now c.bytes.at byte ≡ Some c.in-Some.to = search rules in
    record {
      within = omega (arith, inside);
      behind = λ steps h. goes_by steps c.args.self.now c.args.piece.now c.bytes.at c.in-Some.to c.bytes.known inside small h known ∙ c.bytes.invariant.behind steps h;
      met = λ steps h. (h c.bytes.at byte c.in-Some.to small known).1;
    }
