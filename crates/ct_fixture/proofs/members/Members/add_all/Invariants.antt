use Rattle.std.proofs.Common.{take}
use Rattle.ct_fixture.specs.Kept.{AddsTests}
use Rattle.ct_fixture.proofs.members.Members.add_all.Given as goal

abbrev pub invariant-loop-number : goal.invariant-loop-number
invariant-loop-number l = AddsTests (take l.number-index l.numbers) l.initial.self l.self
