use Rattle.std.proofs.Common.{sym, subst, Bool, Result, Ok, Err}
use Rattle.std.proofs.lemmas.Result.{err_from_is_err_and}
use Rattle.ct_base.specs.Outside.{Held}
use Rattle.ct_testfile.specs.Outcome.{◌>>=◌, on_line}
use Rattle.ct_testfile.specs.Says.{Over}
use Rattle.ct_testfile.specs.Ifs.{begun_if, behind_if, in_branch, is_live}
use Rattle.ct_testfile.specs.declared.branch.Branch.{Branch}
use Rattle.ct_testfile.specs.declared.fault.ReadFault.{ReadFault}
use Rattle.ct_testfile.specs.declared.state.State.{State}
use Rattle.ct_testfile.proofs.OverLemmas.{Over-same, Over-stopped, Over-memory, Over-made, on_line-then}
use Rattle.std.proofs.Common.{◌≡◌, ◌∙◌, true}
use Rattle.ct_testfile.specs.Asks.{ConditionAsks}
use Rattle.ct_testfile.proofs.AsksLemmas.{blamed-fault}
use Rattle.ct_testfile.specs.TreeCalls.{condition_calls}
use Rattle.ct_testfile.specs.declared.step.Step.{Step}
use Rattle.std.proofs.Common.{cond, []}
use Rattle.ct_testfile.proofs.CallsLemmas.{made-fault, made-memory, made-value, made-when}
use Rattle.ct_testfile.proofs.step.do_if.Goals as goal

pub returns-in_err-branch-clause-says : goal.returns-in_err-branch-clause-says
returns-in_err-branch-clause-says g c =
    let tells = g.F.Files.tells c.args.files.now in
    let now = g.F.Files.tells c.behind_if.new.files in
    let path = c.args.here.now.file.now.path in
    let dir = c.args.here.now.file.now.dir in
    let call = c.args.call.now in
    let ifs = c.args.ifs in
    let fault = c.in_err-branch.field-0.0 in
    let branch_of : Bool → Held → Result (Branch × State) ReadFault = λ live held. on_line path call.line (behind_if c.args.here.now.limits.now held dir call c.args.state live) in
    let P : Bool → Type 0 = λ live. Over tells now (branch_of live) (Err fault) in
    let over = subst P c.is_live-live.ensures c.in_err-branch.ensures.says in
    let p = err_from_is_err_and c.from_residual.result c.from_residual.ensures.1 in
    rw (p.1, p.2) (Over-same tells now (λ held. branch_of (is_live ifs) held >>= λ found. Ok (in_branch call.line ifs found)) (λ held. on_line path call.line (begun_if c.args.here.now.limits.now held dir call ifs c.args.state)) (Err fault) (λ held. sym (on_line-then path call.line (behind_if c.args.here.now.limits.now held dir call c.args.state (is_live ifs)) (in_branch call.line ifs))) (Over-stopped tells now (branch_of (is_live ifs)) (λ held found. Ok (in_branch call.line ifs found)) fault over))

pub returns-in_err-in_branch-clause-says : goal.returns-in_err-in_branch-clause-says
returns-in_err-in_branch-clause-says g c =
    let tells = g.F.Files.tells c.args.files.now in
    let now = g.F.Files.tells c.behind_if.new.files in
    let path = c.args.here.now.file.now.path in
    let call = c.args.call.now in
    let branch_of : Bool → Held → Result (Branch × State) ReadFault = λ live held. on_line path call.line (behind_if c.args.here.now.limits.now held c.args.here.now.file.now.dir call c.args.state live) in
    let p = err_from_is_err_and c.from_residual-in_err-in_branch.result c.from_residual-in_err-in_branch.ensures.1 in
    rw (p.1, p.2) (Over-memory tells now (branch_of c.is_live-live.result) (λ held. on_line path call.line (begun_if c.args.here.now.limits.now held c.args.here.now.file.now.dir call c.args.ifs c.args.state)) (c.in_ok-branch.branch, c.in_ok-branch.state) c.in_ok-branch.ensures.says)

pub returns-clause-says : goal.returns-clause-says
returns-clause-says g c =
    let tells = g.F.Files.tells c.args.files.now in
    let now = g.F.Files.tells c.behind_if.new.files in
    let path = c.args.here.now.file.now.path in
    let dir = c.args.here.now.file.now.dir in
    let call = c.args.call.now in
    let ifs = c.args.ifs in
    let found : Branch × State = (c.in_ok-branch.branch, c.in_ok-branch.state) in
    let branch_of : Bool → Held → Result (Branch × State) ReadFault = λ live held. on_line path call.line (behind_if c.args.here.now.limits.now held dir call c.args.state live) in
    let P : Bool → Type 0 = λ live. Over tells now (branch_of live) (Ok found) in
    let over = subst P c.is_live-live.ensures c.in_ok-branch.ensures.says in
    Over-same tells now (λ held. branch_of (is_live ifs) held >>= λ f. Ok (in_branch call.line ifs f)) (λ held. on_line path call.line (begun_if c.args.here.now.limits.now held dir call ifs c.args.state)) (Ok c.in_ok-in_branch.field-0) (λ held. sym (on_line-then path call.line (behind_if c.args.here.now.limits.now held dir call c.args.state (is_live ifs)) (in_branch call.line ifs))) (Over-made tells now (branch_of (is_live ifs)) (in_branch call.line ifs) found c.in_ok-in_branch.field-0 over c.in_ok-in_branch.ensures)

pub returns-in_err-branch-clause-asks : goal.returns-in_err-branch-clause-asks
returns-in_err-branch-clause-asks g c =
    let asks = ConditionAsks c.args.here.now.limits.now c.args.here.now.file.now.dir c.args.call.now c.args.state in
    let p = err_from_is_err_and c.from_residual.result c.from_residual.ensures.1 in
    rw (p.1, p.2) (blamed-fault (λ path. (c.is_live-live.result ≡ true) × asks path) (λ path. (is_live c.args.ifs ≡ true) × asks path) c.in_err-branch.field-0.0 (λ path is. (sym c.is_live-live.ensures ∙ is.0, is.1)) c.in_err-branch.ensures.asks)

pub returns-in_err-branch-clause-calls : goal.returns-in_err-branch-clause-calls
returns-in_err-branch-clause-calls g c =
    let before = g.F.Files.calls c.args.files.now in
    let now = g.F.Files.calls c.behind_if.new.files in
    let calls = condition_calls c.args.here.now.limits.now c.args.here.now.file.now.dir c.args.call.now c.args.state in
    let live = is_live c.args.ifs in
    let fault = c.in_err-branch.field-0.0 in
    let p = err_from_is_err_and c.from_residual.result c.from_residual.ensures.1 in
    rw (p.1, p.2) (made-fault (Branch × State) (Step) (cond live calls []) before now fault (made-when {A = Branch × State} c.is_live-live.result live calls before now (Err fault) c.is_live-live.ensures c.in_err-branch.ensures.calls))

pub returns-in_err-in_branch-clause-calls : goal.returns-in_err-in_branch-clause-calls
returns-in_err-in_branch-clause-calls g c =
    let before = g.F.Files.calls c.args.files.now in
    let now = g.F.Files.calls c.behind_if.new.files in
    let calls = condition_calls c.args.here.now.limits.now c.args.here.now.file.now.dir c.args.call.now c.args.state in
    let live = is_live c.args.ifs in
    let found : Branch × State = (c.in_ok-branch.branch, c.in_ok-branch.state) in
    let p = err_from_is_err_and c.from_residual-in_err-in_branch.result c.from_residual-in_err-in_branch.ensures.1 in
    rw (p.1, p.2) (made-memory {A = Branch × State} (Step) (cond live calls []) before now found (made-when {A = Branch × State} c.is_live-live.result live calls before now (Ok found) c.is_live-live.ensures c.in_ok-branch.ensures.calls))

pub returns-clause-calls : goal.returns-clause-calls
returns-clause-calls g c =
    let before = g.F.Files.calls c.args.files.now in
    let now = g.F.Files.calls c.behind_if.new.files in
    let calls = condition_calls c.args.here.now.limits.now c.args.here.now.file.now.dir c.args.call.now c.args.state in
    let live = is_live c.args.ifs in
    let found : Branch × State = (c.in_ok-branch.branch, c.in_ok-branch.state) in
    made-value {A = Branch × State} {B = Step} (cond live calls []) before now found c.in_ok-in_branch.field-0 (made-when {A = Branch × State} c.is_live-live.result live calls before now (Ok found) c.is_live-live.ensures c.in_ok-branch.ensures.calls)
