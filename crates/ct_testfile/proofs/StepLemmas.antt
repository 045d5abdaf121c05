-- A command of an `if`, step by step.
use Rattle.std.proofs.Common.{◌≡◌, ℕ, Bool, List, Result, Ok, Err, if◌then◌else◌, refl}
use Rattle.ct_base.specs.Outside.{Held}
use Rattle.ct_lex.specs.declared.call.Call.{Call}
use Rattle.ct_testfile.specs.Outcome.{◌>>=◌, on_line}
use Rattle.ct_testfile.specs.Condition.{holds}
use Rattle.ct_testfile.specs.Commands.{begun}
use Rattle.ct_testfile.specs.Ifs.{asked}
use Rattle.ct_testfile.specs.declared.branch.Branch.{Branch}
use Rattle.ct_testfile.specs.declared.branch.Branch.TheVariants.{Taken, Waiting}
use Rattle.ct_testfile.specs.declared.fault.ReadKind.{ReadKind}
use Rattle.ct_testfile.specs.declared.fault.ReadFault.{ReadFault}
use Rattle.ct_testfile.specs.declared.limits.Limits.{Limits}
use Rattle.ct_testfile.specs.declared.state.State.{State}
use Rattle.ct_suite.specs.declared.value.Value.{Value}

-- the branch that a condition leads to, by whether it holds, with the state
abbrev pub branch_with : State → Bool → Branch × State
branch_with state is = (if is then Taken else Waiting, state)

-- the rest of evaluating a condition, once its command has begun
abbrev pub then_asked : Held → List ℕ → List ℕ → ℕ → List Value × State → Result (Branch × State) ReadFault
then_asked held dir file line read =
    on_line file line (holds held dir read.1.variables read.0) >>= λ is. Ok (branch_with read.1 is)

asked-by : (held : Held) (dir file : List ℕ) (line : ℕ) (read : Result (List Value × State) ReadKind) → on_line file line (read >>= λ r. holds held dir r.1.variables r.0 >>= λ is. Ok (branch_with r.1 is)) ≡ (on_line file line read >>= then_asked held dir file line)
asked-by held dir file line (Err kind) = refl
asked-by held dir file line (Ok read) = by (holds held dir read.1.variables read.0)
  where
    by : (found : Result Bool ReadKind) → on_line file line (found >>= λ is. Ok (branch_with read.1 is)) ≡ (on_line file line found >>= λ is. Ok (branch_with read.1 is))
    by (Ok is) = refl
    by (Err kind) = refl

-- a condition is evaluated in two steps
pub asked-on_line : (limits : Limits) (held : Held) (dir file : List ℕ) (line : ℕ) (call : Call) (state : State) → on_line file line (asked limits held dir call state) ≡ (on_line file line (begun limits call.args state) >>= then_asked held dir file line)
asked-on_line limits held dir file line call state =
    asked-by held dir file line (begun limits call.args state)
