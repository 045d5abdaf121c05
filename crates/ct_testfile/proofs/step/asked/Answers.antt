use Rattle.std.proofs.Common.{sym, subst, Bool, Result, Ok, Err, List}
use Rattle.std.proofs.lemmas.Result.{err_from_is_err_and}
use Rattle.ct_base.specs.Outside.{Held}
use Rattle.ct_testfile.specs.Outcome.{◌>>=◌, on_line}
use Rattle.ct_testfile.specs.Says.{Over}
use Rattle.ct_testfile.specs.Condition.{holds}
use Rattle.ct_testfile.specs.Commands.{begun}
use Rattle.ct_testfile.specs.Ifs.{asked}
use Rattle.ct_testfile.specs.declared.branch.Branch.{Branch}
use Rattle.ct_testfile.specs.declared.fault.ReadFault.{ReadFault}
use Rattle.ct_testfile.specs.declared.state.State.{State}
use Rattle.ct_suite.specs.declared.value.Value.{Value}
use Rattle.ct_testfile.proofs.OverLemmas.{Over-same, Over-still, Over-stopped, Over-then, Over-made}
use Rattle.ct_testfile.proofs.StepLemmas.{then_asked, branch_with, asked-on_line}
use Rattle.ct_testfile.specs.Asks.{ConditionAsks, NamesPath}
use Rattle.ct_testfile.specs.Says.{IfFilesFailed}
use Rattle.ct_testfile.proofs.AsksLemmas.{blamed-fault, ok-and, on_line-ok, unblamed}
use Rattle.std.proofs.Common.{[]}
use Rattle.ct_base.specs.declared.file_call.FileCall.{FileCall}
use Rattle.ct_testfile.specs.TreeCalls.{MakesCalls, calls_behind, exists_calls}
use Rattle.ct_testfile.proofs.CallsLemmas.{behind-on_line, made-fault, made-same, made-stopped, made-then, made-value, still}
use Rattle.ct_testfile.proofs.step.asked.Goals as goal

pub returns-in_err-values-clause-says : goal.returns-in_err-values-clause-says
returns-in_err-values-clause-says g c =
    let tells = g.F.Files.tells c.args.files.now in
    let path = c.args.here.now.file.now.path in
    let dir = c.args.here.now.file.now.dir in
    let line = c.args.call.now.line in
    let read = begun c.args.here.now.limits.now c.args.call.now.args c.args.state in
    let begins = c.begin-begun.ensures in
    let fault = c.in_err-values.field-0.0 in
    let p = err_from_is_err_and c.from_residual.result c.from_residual.ensures.1 in
    let first : Held → Result (List Value × State) ReadFault = λ held. on_line path line read in
    let asks : Held → Result (Branch × State) ReadFault = λ held. on_line path line (asked c.args.here.now.limits.now held dir c.args.call.now c.args.state) in
    rw (p.1, p.2) (Over-same tells tells (λ held. first held >>= then_asked held dir path line) asks (Err fault) (λ held. sym (asked-on_line c.args.here.now.limits.now held dir path line c.args.call.now c.args.state)) (Over-stopped tells tells first (λ held. then_asked held dir path line) fault (Over-still tells first (Err fault) c.in_err-values.ensures.unfailed (λ held. c.in_err-values.ensures.says read begins))))

pub returns-in_err-found-clause-says : goal.returns-in_err-found-clause-says
returns-in_err-found-clause-says g c =
    let tells = g.F.Files.tells c.args.files.now in
    let now = g.F.Files.tells c.holds.new.files in
    let path = c.args.here.now.file.now.path in
    let dir = c.args.here.now.file.now.dir in
    let line = c.args.call.now.line in
    let read = begun c.args.here.now.limits.now c.args.call.now.args c.args.state in
    let begins = c.begin-begun.ensures in
    let fault = c.in_err-found.field-0.0 in
    let state = c.in_ok-values.state in
    let values = c.in_ok-values.values in
    let p = err_from_is_err_and c.from_residual-in_err-found.result c.from_residual-in_err-found.ensures.1 in
    let first : Held → Result (List Value × State) ReadFault = λ held. on_line path line read in
    let asks : Held → Result (Branch × State) ReadFault = λ held. on_line path line (asked c.args.here.now.limits.now held dir c.args.call.now c.args.state) in
    let Q : List Value → Type 0 = λ vs. Over {A = Bool} tells now (λ held. on_line path line (holds held dir state.variables vs)) (Err fault) in
    let over = subst Q c.as_slice.ensures c.in_err-found.ensures.says in
    rw (p.1, p.2) (Over-same tells now (λ held. first held >>= then_asked held dir path line) asks (Err fault) (λ held. sym (asked-on_line c.args.here.now.limits.now held dir path line c.args.call.now c.args.state)) (Over-then tells tells now first (λ held. then_asked held dir path line) (values, state) (Err fault) (Over-still tells first (Ok (values, state)) tt (λ held. c.in_ok-values.ensures.says read begins)) (Over-stopped tells now (λ held. on_line path line (holds held dir state.variables values)) (λ held is. Ok (branch_with state is)) fault over)))

pub returns-clause-says : goal.returns-clause-says
returns-clause-says g c =
    let tells = g.F.Files.tells c.args.files.now in
    let now = g.F.Files.tells c.holds.new.files in
    let path = c.args.here.now.file.now.path in
    let dir = c.args.here.now.file.now.dir in
    let line = c.args.call.now.line in
    let read = begun c.args.here.now.limits.now c.args.call.now.args c.args.state in
    let begins = c.begin-begun.ensures in
    let state = c.in_ok-values.state in
    let values = c.in_ok-values.values in
    let found = c.in_ok-found.found in
    let first : Held → Result (List Value × State) ReadFault = λ held. on_line path line read in
    let asks : Held → Result (Branch × State) ReadFault = λ held. on_line path line (asked c.args.here.now.limits.now held dir c.args.call.now c.args.state) in
    let Q : List Value → Type 0 = λ vs. Over {A = Bool} tells now (λ held. on_line path line (holds held dir state.variables vs)) (Ok found) in
    let over = subst Q c.as_slice.ensures c.in_ok-found.ensures.says in
    Over-same tells now (λ held. first held >>= then_asked held dir path line) asks (Ok (c.branch_by.result, state)) (λ held. sym (asked-on_line c.args.here.now.limits.now held dir path line c.args.call.now c.args.state)) (Over-then tells tells now first (λ held. then_asked held dir path line) (values, state) (Ok (c.branch_by.result, state)) (Over-still tells first (Ok (values, state)) tt (λ held. c.in_ok-values.ensures.says read begins)) (Over-made tells now (λ held. on_line path line (holds held dir state.variables values)) (branch_with state) found (c.branch_by.result, state) over (λ i. (c.branch_by.ensures i, state))))

pub returns-in_err-values-clause-asks : goal.returns-in_err-values-clause-asks
returns-in_err-values-clause-asks g c =
    let asks = ConditionAsks c.args.here.now.limits.now c.args.here.now.file.now.dir c.args.call.now c.args.state in
    let p = err_from_is_err_and c.from_residual.result c.from_residual.ensures.1 in
    rw (p.1, p.2) (unblamed {A = List Value × State} asks (Err c.in_err-values.field-0.0) c.in_err-values.ensures.unfailed)

pub returns-in_err-found-clause-asks : goal.returns-in_err-found-clause-asks
returns-in_err-found-clause-asks g c =
    let limits = c.args.here.now.limits.now in
    let dir = c.args.here.now.file.now.dir in
    let line = c.args.call.now.line in
    let read = begun limits c.args.call.now.args c.args.state in
    let values = c.in_ok-values.values in
    let state = c.in_ok-values.state in
    let fault = c.in_err-found.field-0.0 in
    let asks = ConditionAsks limits dir c.args.call.now c.args.state in
    let is = on_line-ok c.args.here.now.file.now.path line read (values, state) (c.in_ok-values.ensures.says read c.begin-begun.ensures) in
    let named = subst (λ (vs : List Value). IfFilesFailed fault (NamesPath dir vs)) c.as_slice.ensures c.in_err-found.ensures.asks in
    let p = err_from_is_err_and c.from_residual-in_err-found.result c.from_residual-in_err-found.ensures.1 in
    rw (p.1, p.2) (blamed-fault (NamesPath dir values) asks fault (λ path. ok-and read (values, state) (λ r. NamesPath dir r.0 path) is) named)

pub returns-in_err-values-clause-calls : goal.returns-in_err-values-clause-calls
returns-in_err-values-clause-calls g c =
    let told = g.F.Files.calls c.args.files.now in
    let path = c.args.here.now.file.now.path in
    let dir = c.args.here.now.file.now.dir in
    let line = c.args.call.now.line in
    let read = begun c.args.here.now.limits.now c.args.call.now.args c.args.state in
    let rest : List Value × State → List FileCall = λ read. exists_calls dir read.0 in
    let fault = c.in_err-values.field-0.0 in
    let p = err_from_is_err_and c.from_residual.result c.from_residual.ensures.1 in
    rw (p.1, p.2) (made-same {A = Branch × State} (calls_behind (on_line path line read) rest) (calls_behind read rest) told told (Err fault) (behind-on_line path line read rest) (made-stopped {A = List Value × State} (Branch × State) (on_line path line read) rest [] told told fault (c.in_err-values.ensures.says read c.begin-begun.ensures) (still {A = List Value × State} told (Err fault) c.in_err-values.ensures.unfailed)))

pub returns-in_err-found-clause-calls : goal.returns-in_err-found-clause-calls
returns-in_err-found-clause-calls g c =
    let told = g.F.Files.calls c.args.files.now in
    let now = g.F.Files.calls c.holds.new.files in
    let path = c.args.here.now.file.now.path in
    let dir = c.args.here.now.file.now.dir in
    let line = c.args.call.now.line in
    let read = begun c.args.here.now.limits.now c.args.call.now.args c.args.state in
    let rest : List Value × State → List FileCall = λ read. exists_calls dir read.0 in
    let fault = c.in_err-found.field-0.0 in
    let state = c.in_ok-values.state in
    let values = c.in_ok-values.values in
    let Q : List Value → Type 0 = λ vs. MakesCalls {A = Bool} (exists_calls dir vs) told now (Err fault) in
    let made = made-fault (Bool) (Branch × State) (exists_calls dir values) told now fault (subst Q c.as_slice.ensures c.in_err-found.ensures.calls) in
    let p = err_from_is_err_and c.from_residual-in_err-found.result c.from_residual-in_err-found.ensures.1 in
    rw (p.1, p.2) (made-same {A = Branch × State} (calls_behind (on_line path line read) rest) (calls_behind read rest) told now (Err fault) (behind-on_line path line read rest) (made-then {A = List Value × State} {B = Branch × State} (on_line path line read) rest [] told told now (values, state) (Err fault) (c.in_ok-values.ensures.says read c.begin-begun.ensures) (still {A = List Value × State} told (Ok (values, state)) tt) made))

pub returns-clause-calls : goal.returns-clause-calls
returns-clause-calls g c =
    let told = g.F.Files.calls c.args.files.now in
    let now = g.F.Files.calls c.holds.new.files in
    let path = c.args.here.now.file.now.path in
    let dir = c.args.here.now.file.now.dir in
    let line = c.args.call.now.line in
    let read = begun c.args.here.now.limits.now c.args.call.now.args c.args.state in
    let rest : List Value × State → List FileCall = λ read. exists_calls dir read.0 in
    let state = c.in_ok-values.state in
    let values = c.in_ok-values.values in
    let found = c.in_ok-found.found in
    let answer : Branch × State = (c.branch_by.result, state) in
    let Q : List Value → Type 0 = λ vs. MakesCalls {A = Bool} (exists_calls dir vs) told now (Ok found) in
    let made = made-value {A = Bool} {B = Branch × State} (exists_calls dir values) told now found answer (subst Q c.as_slice.ensures c.in_ok-found.ensures.calls) in
    made-same {A = Branch × State} (calls_behind (on_line path line read) rest) (calls_behind read rest) told now (Ok answer) (behind-on_line path line read rest) (made-then {A = List Value × State} {B = Branch × State} (on_line path line read) rest [] told told now (values, state) (Ok answer) (c.in_ok-values.ensures.says read c.begin-begun.ensures) (still {A = List Value × State} told (Ok (values, state)) tt) made)
