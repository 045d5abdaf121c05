use Rattle.std.proofs.Common.{◌≡◌, ◌+◌, true, false, nat_lt, refl, arith}
use Rattle.std.proofs.lemmas.Bool.Decides.{nat_tests}
use Rattle.ct_testfile.specs.Limits.{tree_limits}
use Rattle.ct_testfile.proofs.laws.all_values_have_up_to_512_mib.Goals as goal

pub returns-clause-last : goal.returns-clause-last
returns-clause-last c = λ bytes state few. let test : nat_lt tree_limits.all_value_bytes (state.value_bytes + bytes) ≡ false = grind (arith, nat_tests) in rw test refl

pub returns-clause-first : goal.returns-clause-first
returns-clause-first c = λ bytes state many. let test : nat_lt tree_limits.all_value_bytes (state.value_bytes + bytes) ≡ true = grind (arith, nat_tests) in rw test refl
