use Rattle.std.proofs.Common.{subst, Err}
use Rattle.std.proofs.lemmas.Result.{err_from_is_err_and}
use Rattle.ct_testfile.specs.Says.{Over}
use Rattle.ct_testfile.specs.Commands.{test_file}
use Rattle.ct_testfile.specs.Tree.{nested, opened_by, top}
use Rattle.ct_testfile.specs.declared.fault.ReadFault.TheVariants.{NoMemory}
use Rattle.ct_testfile.specs.declared.opening.Opening.{Opening}
use Rattle.ct_testfile.specs.declared.state.State.{State}
use Rattle.ct_testfile.proofs.OverLemmas.{Over-still}
use Rattle.ct_testfile.specs.Asks.{BlamesBy, NestedAsks, OpeningAsks}
use Rattle.ct_testfile.specs.TreeCalls.{MakesCallsBy, nested_calls, opening_calls}
use Rattle.ct_testfile.proofs.CallsLemmas.{wanting}
use Rattle.ct_testfile.proofs.tree.open_top.Goals as goal

pub returns-in_err-opening-clause-says : goal.returns-in_err-opening-clause-says
returns-in_err-opening-clause-says g c =
    let limits = c.args.limits.now in
    let dir = c.args.dir.now in
    let p = err_from_is_err_and c.from_residual.result c.from_residual.ensures.1 in
    rw (p.1, p.2) (Over-still (g.F.Files.tells c.args.files.now) (λ held. opened_by (nested limits held limits.open_files) (test_file dir).path 0 (top dir) c.args.state (held (test_file dir).path)) (Err NoMemory) tt (λ held. tt))

pub returns-clause-says : goal.returns-clause-says
returns-clause-says g c =
    let limits = c.args.limits.now in
    subst (λ (opening : Opening). Over {A = State} (g.F.Files.tells c.args.files.now) (g.F.Files.tells c.open.new.files) (λ held. opened_by (nested limits held limits.open_files) opening.file.path 0 opening c.args.state (held opening.file.path)) c.open.result) c.in_ok-opening.ensures c.open.ensures.says

pub returns-clause-asks : goal.returns-clause-asks
returns-clause-asks g c =
    let limits = c.args.limits.now in
    subst (λ (opening : Opening). BlamesBy {A = State} (g.F.Files.tells c.args.files.now).held (λ held. OpeningAsks (NestedAsks limits held limits.open_files) held opening c.args.state) c.open.result) c.in_ok-opening.ensures c.open.ensures.asks

pub returns-in_err-opening-clause-calls : goal.returns-in_err-opening-clause-calls
returns-in_err-opening-clause-calls g c =
    let limits = c.args.limits.now in
    let p = err_from_is_err_and c.from_residual.result c.from_residual.ensures.1 in
    rw (p.1, p.2) (λ held told. wanting (State) (opening_calls (nested_calls limits held limits.open_files) limits held (top c.args.dir.now) c.args.state) (g.F.Files.calls c.args.files.now))

pub returns-clause-calls : goal.returns-clause-calls
returns-clause-calls g c =
    let limits = c.args.limits.now in
    subst (λ (opening : Opening). MakesCallsBy {A = State} (g.F.Files.tells c.args.files.now).held (λ held. opening_calls (nested_calls limits held limits.open_files) limits held opening c.args.state) (g.F.Files.calls c.args.files.now) (g.F.Files.calls c.open.new.files) c.open.result) c.in_ok-opening.ensures c.open.ensures.calls
