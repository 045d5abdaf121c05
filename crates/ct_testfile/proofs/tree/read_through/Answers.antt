use Rattle.std.proofs.Common.{Result, Ok, Err}
use Rattle.std.proofs.lemmas.Result.{err_from_is_err_and}
use Rattle.ct_base.specs.Outside.{Held}
use Rattle.ct_testfile.specs.Tree.{read_through, tree_within}
use Rattle.ct_testfile.specs.declared.fault.ReadFault.{ReadFault}
use Rattle.ct_testfile.specs.declared.fault.ReadFault.TheVariants.{NoMemory}
use Rattle.ct_testfile.specs.declared.state.State.{State}
use Rattle.ct_testfile.proofs.OverLemmas.{Over-made, Over-memory, Over-still, Over-stopped}
use Rattle.ct_testfile.proofs.TreeLemmas.{begun-through}
use Rattle.std.proofs.Common.{subst}
use Rattle.ct_testfile.specs.Asks.{BlamesBy, NestedAsks, OpeningAsks}
use Rattle.ct_testfile.specs.Tree.{top}
use Rattle.std.proofs.Common.{List}
use Rattle.ct_base.specs.declared.defs.TestDef.{TestDef}
use Rattle.ct_testfile.specs.TreeCalls.{MakesCallsBy, calls_within, nested_calls, opening_calls}
use Rattle.ct_testfile.proofs.CallsLemmas.{made-fault, made-memory, made-value, wanting}
use Rattle.ct_testfile.proofs.tree.read_through.Goals as goal

pub returns-in_err-state-clause-says : goal.returns-in_err-state-clause-says
returns-in_err-state-clause-says g c =
    let p = err_from_is_err_and c.from_residual.result c.from_residual.ensures.1 in
    rw (p.1, p.2) (Over-still (g.F.Files.tells c.args.files.now) (λ held. tree_within c.args.limits.now held c.args.dir.now c.args.config.now) (Err NoMemory) tt (λ held. tt))

pub returns-in_err-state-2-clause-says : goal.returns-in_err-state-2-clause-says
returns-in_err-state-2-clause-says g c =
    let before = g.F.Files.tells c.args.files.now in
    let now = g.F.Files.tells c.open_top.new.files in
    let fault = c.in_err-state-2.field-0.0 in
    let says : Held → Result State ReadFault = λ held. read_through c.args.limits.now held c.args.dir.now c.args.config.now in
    let p = err_from_is_err_and c.from_residual-in_err-state-2.result c.from_residual-in_err-state-2.ensures.1 in
    rw (p.1, p.2) (Over-stopped before now says (λ held state. Ok state.tests) fault (begun-through c.args.limits.now c.args.dir.now c.args.config.now c.in_ok-state.state before now (Err fault) c.in_ok-state.ensures c.in_err-state-2.ensures.says))

pub returns-in_err-define-clause-says : goal.returns-in_err-define-clause-says
returns-in_err-define-clause-says g c =
    let before = g.F.Files.tells c.args.files.now in
    let now = g.F.Files.tells c.open_top.new.files in
    let state = c.in_ok-state-2.state in
    let says : Held → Result State ReadFault = λ held. read_through c.args.limits.now held c.args.dir.now c.args.config.now in
    let p = err_from_is_err_and c.from_residual-in_err-define.result c.from_residual-in_err-define.ensures.1 in
    rw (p.1, p.2) (Over-memory before now says (λ held. tree_within c.args.limits.now held c.args.dir.now c.args.config.now) state (begun-through c.args.limits.now c.args.dir.now c.args.config.now c.in_ok-state.state before now (Ok state) c.in_ok-state.ensures c.in_ok-state-2.ensures.says))

pub returns-clause-says : goal.returns-clause-says
returns-clause-says g c =
    let before = g.F.Files.tells c.args.files.now in
    let now = g.F.Files.tells c.open_top.new.files in
    let state = c.in_ok-state-2.state in
    let says : Held → Result State ReadFault = λ held. read_through c.args.limits.now held c.args.dir.now c.args.config.now in
    Over-made before now says (λ (state : State). state.tests) state c.in_ok-define.field-0 (begun-through c.args.limits.now c.args.dir.now c.args.config.now c.in_ok-state.state before now (Ok state) c.in_ok-state.ensures c.in_ok-state-2.ensures.says) c.in_ok-define.ensures.is

pub returns-in_err-state-2-clause-asks : goal.returns-in_err-state-2-clause-asks
returns-in_err-state-2-clause-asks g c =
    let limits = c.args.limits.now in
    let before = (g.F.Files.tells c.args.files.now).held in
    let fault = c.in_err-state-2.field-0.0 in
    let asks = subst (λ (state : State). BlamesBy {A = State} before (λ held. OpeningAsks (NestedAsks limits held limits.open_files) held (top c.args.dir.now) state) (Err fault)) c.in_ok-state.ensures c.in_err-state-2.ensures.asks in
    let p = err_from_is_err_and c.from_residual-in_err-state-2.result c.from_residual-in_err-state-2.ensures.1 in
    rw (p.1, p.2) asks

pub returns-in_err-state-clause-calls : goal.returns-in_err-state-clause-calls
returns-in_err-state-clause-calls g c =
    let p = err_from_is_err_and c.from_residual.result c.from_residual.ensures.1 in
    rw (p.1, p.2) (λ held told. wanting (List TestDef) (calls_within c.args.limits.now held c.args.dir.now c.args.config.now) (g.F.Files.calls c.args.files.now))

pub returns-in_err-state-2-clause-calls : goal.returns-in_err-state-2-clause-calls
returns-in_err-state-2-clause-calls g c =
    let limits = c.args.limits.now in
    let dir = c.args.dir.now in
    let before = g.F.Files.calls c.args.files.now in
    let now = g.F.Files.calls c.open_top.new.files in
    let fault = c.in_err-state-2.field-0.0 in
    let made = subst (λ (state : State). MakesCallsBy {A = State} (g.F.Files.tells c.args.files.now).held (λ held. opening_calls (nested_calls limits held limits.open_files) limits held (top dir) state) before now (Err fault)) c.in_ok-state.ensures c.in_err-state-2.ensures.calls in
    let p = err_from_is_err_and c.from_residual-in_err-state-2.result c.from_residual-in_err-state-2.ensures.1 in
    rw (p.1, p.2) (λ held told. made-fault (State) (List TestDef) (calls_within limits held dir c.args.config.now) before now fault (made held told))

pub returns-in_err-define-clause-calls : goal.returns-in_err-define-clause-calls
returns-in_err-define-clause-calls g c =
    let limits = c.args.limits.now in
    let dir = c.args.dir.now in
    let before = g.F.Files.calls c.args.files.now in
    let now = g.F.Files.calls c.open_top.new.files in
    let known = c.in_ok-state-2.state in
    let made = subst (λ (state : State). MakesCallsBy {A = State} (g.F.Files.tells c.args.files.now).held (λ held. opening_calls (nested_calls limits held limits.open_files) limits held (top dir) state) before now (Ok known)) c.in_ok-state.ensures c.in_ok-state-2.ensures.calls in
    let p = err_from_is_err_and c.from_residual-in_err-define.result c.from_residual-in_err-define.ensures.1 in
    rw (p.1, p.2) (λ held told. made-memory {A = State} (List TestDef) (calls_within limits held dir c.args.config.now) before now known (made held told))

pub returns-clause-calls : goal.returns-clause-calls
returns-clause-calls g c =
    let limits = c.args.limits.now in
    let dir = c.args.dir.now in
    let before = g.F.Files.calls c.args.files.now in
    let now = g.F.Files.calls c.open_top.new.files in
    let known = c.in_ok-state-2.state in
    let made = subst (λ (state : State). MakesCallsBy {A = State} (g.F.Files.tells c.args.files.now).held (λ held. opening_calls (nested_calls limits held limits.open_files) limits held (top dir) state) before now (Ok known)) c.in_ok-state.ensures c.in_ok-state-2.ensures.calls in
    λ held told. made-value {A = State} {B = List TestDef} (calls_within limits held dir c.args.config.now) before now known c.in_ok-define.field-0 (made held told)
