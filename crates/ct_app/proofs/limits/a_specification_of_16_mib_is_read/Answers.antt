use Rattle.std.proofs.Common.{◌≡◌, true, false, length, refl, arith}
use Rattle.std.specs.Prelude.{nat_le}
use Rattle.std.proofs.lemmas.Bool.Decides.{nat_tests}
use Rattle.ct_app.specs.SpecFile.{most_spec_bytes}
use Rattle.ct_app.proofs.limits.a_specification_of_16_mib_is_read.Goals as goal

pub returns-clause-last : goal.returns-clause-last
returns-clause-last c = λ text few. let test : nat_le (length text) most_spec_bytes ≡ true = grind (arith, nat_tests) in rw test refl

pub returns-clause-first : goal.returns-clause-first
returns-clause-first c = λ text many. let test : nat_le (length text) most_spec_bytes ≡ false = grind (arith, nat_tests) in rw test refl
