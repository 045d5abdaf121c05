use Rattle.std.proofs.Common.{length}
use Rattle.ct_regex.specs.Scan.{ScansOn}
use Rattle.ct_regex.proofs.scan.Scan.feed.Given as goal

abbrev pub invariant-rest : goal.invariant-rest
invariant-rest l = ScansOn l.fn.self l.piece l.rest l.self

abbrev pub decreases-rest : goal.decreases-rest
decreases-rest l = length l.rest
