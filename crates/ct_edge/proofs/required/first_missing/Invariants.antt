use Rattle.std.proofs.Common.{◌≡◌, take, IfSome}
use Rattle.ct_base.specs.Outside.{Becomes, SameHeld}
use Rattle.ct_edge.specs.Required.{AreHeld}
use Rattle.ct_edge.proofs.required.first_missing.Given as goal

abbrev pub invariant-loop-place : goal.invariant-loop-place
invariant-loop-place g l = record {
  kept : Becomes (g.F.Files.tells l.initial.files).held (g.F.Files.tells l.files).held SameHeld;
  calm : (g.F.Files.tells l.files).faults ≡ (g.F.Files.tells l.initial.files).faults;
  there : IfSome (g.F.Files.tells l.initial.files).held (λ held. AreHeld held (take l.place l.required));
}
