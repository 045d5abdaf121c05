use Rattle.std.proofs.Common.{◌≡◌, ◌+◌, true, false, nat_lt, refl, arith}
use Rattle.std.proofs.lemmas.Bool.Decides.{nat_tests}
use Rattle.ct_testfile.specs.Limits.{tree_limits}
use Rattle.ct_testfile.proofs.laws.up_to_4_000_000_commands_are_carried_out.Goals as goal

pub returns-clause-last : goal.returns-clause-last
returns-clause-last c = λ state few. let test : nat_lt tree_limits.commands (state.commands + 1) ≡ false = grind (arith, nat_tests) in rw test refl

pub returns-clause-first : goal.returns-clause-first
returns-clause-first c = λ state many. let test : nat_lt tree_limits.commands (state.commands + 1) ≡ true = grind (arith, nat_tests) in rw test refl
