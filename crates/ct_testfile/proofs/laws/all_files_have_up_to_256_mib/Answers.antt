use Rattle.std.proofs.Common.{◌≡◌, ℕ, ◌+◌, List, Err, Bool, true, false, length, nat_lt, refl, arith}
use Rattle.std.proofs.lemmas.Bool.Decides.{nat_tests}
use Rattle.ct_testfile.specs.Limits.{tree_limits}
use Rattle.ct_testfile.specs.Tree.{admitted}
use Rattle.ct_testfile.specs.declared.fault.ReadKind.TheVariants.{TooLong}
use Rattle.ct_testfile.specs.declared.state.State.{State}
use Rattle.ct_testfile.proofs.laws.all_files_have_up_to_256_mib.Goals as goal

pub returns-clause-last : goal.returns-clause-last
returns-clause-last c = λ text state short few.
    let one : nat_lt tree_limits.file_bytes (length text) ≡ false = grind (arith, nat_tests) in
    let all : nat_lt tree_limits.all_file_bytes (state.file_bytes + length text) ≡ false = grind (arith, nat_tests) in
    rw (one, all) refl

pub returns-clause-first : goal.returns-clause-first
returns-clause-first c = λ text state many.
    let all : nat_lt tree_limits.all_file_bytes (state.file_bytes + length text) ≡ true = grind (arith, nat_tests) in
    by_len text state all (nat_lt tree_limits.file_bytes (length text)) refl
  where
    by_len : (text : List ℕ) (state : State) → nat_lt tree_limits.all_file_bytes (state.file_bytes + length text) ≡ true → (b : Bool) → nat_lt tree_limits.file_bytes (length text) ≡ b → admitted tree_limits text state ≡ Err TooLong
    by_len text state all true one = rw one refl
    by_len text state all false one = rw (one, all) refl
