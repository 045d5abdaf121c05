use Rattle.std.proofs.Common.{ap, sym, ◌∙◌, Result, Ok}
use Rattle.ct_testfile.specs.Commands.{opening_nothing, no_files}
use Rattle.ct_testfile.specs.declared.opening.Opens.{Opens}
use Rattle.ct_testfile.specs.declared.fault.ReadKind.{ReadKind}
use Rattle.ct_testfile.specs.declared.state.State.{State}
use Rattle.ct_testfile.proofs.SaysLemmas.{Follows-stopped}
use Rattle.ct_testfile.proofs.perform.opening_nothing.Goals as goal

pub returns-in-Ok : goal.returns-in-Ok
returns-in-Ok c = λ says given.
    let opened : Opens → Result (State × Opens) ReadKind = λ opens. Ok (c.in-Ok.state, opens) in
    ap opening_nothing (rw c.in-Ok.is at given) ∙ ap opened (sym c.nothing.ensures)

pub returns-in-Err : goal.returns-in-Err
returns-in-Err c = λ says given. Follows-stopped says (λ state. Ok (state, no_files)) c.in-Err.stop (rw c.in-Err.is at given)
