use Rattle.std.proofs.Common.{◌≡◌, ◌∷◌, [], sym, ap, ◌∙◌, List, Result, Ok, Err}
use Rattle.std.proofs.lemmas.Result.{err_from_is_err_and}
use Rattle.ct_base.specs.Outside.{Held}
use Rattle.ct_testfile.specs.Outcome.{◌>>=◌, on_line}
use Rattle.ct_testfile.specs.Ifs.{continued, behind_elseif, in_branch}
use Rattle.ct_testfile.specs.declared.branch.Branch.{Branch}
use Rattle.ct_testfile.specs.declared.branch.OpenIf.{OpenIf}
use Rattle.ct_testfile.specs.declared.fault.ReadFault.{ReadFault}
use Rattle.ct_testfile.specs.declared.state.State.{State}
use Rattle.ct_testfile.specs.declared.step.Step.{Step}
use Rattle.ct_testfile.proofs.ConditionLemmas.{innermost-none, innermost-some}
use Rattle.ct_testfile.proofs.OverLemmas.{Over-same, Over-still, Over-stopped, Over-memory, Over-made, on_line-then}
use Rattle.std.proofs.Common.{Some}
use Rattle.ct_testfile.specs.Asks.{ConditionAsks, IsEvaluated}
use Rattle.ct_testfile.specs.Ifs.{innermost}
use Rattle.ct_testfile.specs.declared.branch.Branch.TheVariants.{Waiting}
use Rattle.ct_testfile.specs.declared.command.Flow.TheVariants.{ElseIf}
use Rattle.ct_testfile.proofs.AsksLemmas.{blamed-fault, some-and, unblamed}
use Rattle.ct_testfile.specs.TreeCalls.{condition_calls, is_open_to_elseif, is_untaken}
use Rattle.std.proofs.Common.{cond, false}
use Rattle.ct_testfile.proofs.CallsLemmas.{made-fault, made-memory, made-value, made-when, open-none, still}
use Rattle.ct_testfile.proofs.step.do_elseif.Goals as goal

pub returns-in_default-clause-says : goal.returns-in_default-clause-says
returns-in_default-clause-says g c =
    let tells = g.F.Files.tells c.args.files.now in
    let path = c.args.here.now.file.now.path in
    let call = c.args.call.now in
    let goes : List OpenIf → Held → Result Step ReadFault = λ ifs held. on_line path call.line (continued c.args.here.now.limits.now held c.args.here.now.file.now.dir call ifs c.args.state) in
    let none : c.args.ifs ≡ [] = innermost-none c.args.ifs (sym c.take_inner.ensures ∙ c.in_default.is) in
    Over-same tells tells (goes []) (goes c.args.ifs) c.unpaired.result (λ held. ap (λ ifs. goes ifs held) (sym none)) (Over-still tells (goes []) c.unpaired.result c.unpaired.ensures.unfailed (λ held. c.unpaired.ensures.says))

pub returns-in_err-branch-clause-says : goal.returns-in_err-branch-clause-says
returns-in_err-branch-clause-says g c =
    let tells = g.F.Files.tells c.args.files.now in
    let now = g.F.Files.tells c.behind_elseif.new.files in
    let path = c.args.here.now.file.now.path in
    let dir = c.args.here.now.file.now.dir in
    let call = c.args.call.now in
    let inner = c.in-Some.inner in
    let outer = c.in-Some.outer in
    let fault = c.in_err-branch.field-0.0 in
    let goes : List OpenIf → Held → Result Step ReadFault = λ ifs held. on_line path call.line (continued c.args.here.now.limits.now held dir call ifs c.args.state) in
    let some : c.args.ifs ≡ inner ∷ outer = innermost-some c.args.ifs outer inner (sym c.take_inner.ensures ∙ c.in-Some.is) in
    let branch_of : Held → Result (Branch × State) ReadFault = λ held. on_line path call.line (behind_elseif c.args.here.now.limits.now held dir call c.args.state inner.branch) in
    let p = err_from_is_err_and c.from_residual.result c.from_residual.ensures.1 in
    rw (p.1, p.2) (Over-same tells now (λ held. branch_of held >>= λ f. Ok (in_branch inner.line outer f)) (goes c.args.ifs) (Err fault) (λ held. sym (on_line-then path call.line (behind_elseif c.args.here.now.limits.now held dir call c.args.state inner.branch) (in_branch inner.line outer)) ∙ ap (λ ifs. goes ifs held) (sym some)) (Over-stopped tells now branch_of (λ held f. Ok (in_branch inner.line outer f)) fault c.in_err-branch.ensures.says))

pub returns-in_err-in_branch-clause-says : goal.returns-in_err-in_branch-clause-says
returns-in_err-in_branch-clause-says g c =
    let tells = g.F.Files.tells c.args.files.now in
    let now = g.F.Files.tells c.behind_elseif.new.files in
    let path = c.args.here.now.file.now.path in
    let call = c.args.call.now in
    let branch_of : Held → Result (Branch × State) ReadFault = λ held. on_line path call.line (behind_elseif c.args.here.now.limits.now held c.args.here.now.file.now.dir call c.args.state c.in-Some.inner.branch) in
    let p = err_from_is_err_and c.from_residual-in_err-in_branch.result c.from_residual-in_err-in_branch.ensures.1 in
    rw (p.1, p.2) (Over-memory tells now branch_of (λ held. on_line path call.line (continued c.args.here.now.limits.now held c.args.here.now.file.now.dir call c.args.ifs c.args.state)) (c.in_ok-branch.branch, c.in_ok-branch.state) c.in_ok-branch.ensures.says)

pub returns-clause-says : goal.returns-clause-says
returns-clause-says g c =
    let tells = g.F.Files.tells c.args.files.now in
    let now = g.F.Files.tells c.behind_elseif.new.files in
    let path = c.args.here.now.file.now.path in
    let dir = c.args.here.now.file.now.dir in
    let call = c.args.call.now in
    let inner = c.in-Some.inner in
    let outer = c.in-Some.outer in
    let found : Branch × State = (c.in_ok-branch.branch, c.in_ok-branch.state) in
    let goes : List OpenIf → Held → Result Step ReadFault = λ ifs held. on_line path call.line (continued c.args.here.now.limits.now held dir call ifs c.args.state) in
    let some : c.args.ifs ≡ inner ∷ outer = innermost-some c.args.ifs outer inner (sym c.take_inner.ensures ∙ c.in-Some.is) in
    let branch_of : Held → Result (Branch × State) ReadFault = λ held. on_line path call.line (behind_elseif c.args.here.now.limits.now held dir call c.args.state inner.branch) in
    Over-same tells now (λ held. branch_of held >>= λ f. Ok (in_branch inner.line outer f)) (goes c.args.ifs) (Ok c.in_ok-in_branch.field-0) (λ held. sym (on_line-then path call.line (behind_elseif c.args.here.now.limits.now held dir call c.args.state inner.branch) (in_branch inner.line outer)) ∙ ap (λ ifs. goes ifs held) (sym some)) (Over-made tells now branch_of (in_branch inner.line outer) found c.in_ok-in_branch.field-0 c.in_ok-branch.ensures.says c.in_ok-in_branch.ensures)

pub returns-in_default-clause-asks : goal.returns-in_default-clause-asks
returns-in_default-clause-asks g c =
    let asks = ConditionAsks c.args.here.now.limits.now c.args.here.now.file.now.dir c.args.call.now c.args.state in
    unblamed (λ path. IsEvaluated (Some ElseIf) c.args.ifs × asks path) c.unpaired.result c.unpaired.ensures.unfailed

pub returns-in_err-branch-clause-asks : goal.returns-in_err-branch-clause-asks
returns-in_err-branch-clause-asks g c =
    let asks = ConditionAsks c.args.here.now.limits.now c.args.here.now.file.now.dir c.args.call.now c.args.state in
    let inner = c.in-Some.inner in
    let outer = c.in-Some.outer in
    let is : innermost c.args.ifs ≡ Some (inner, outer) = sym c.take_inner.ensures ∙ c.in-Some.is in
    let p = err_from_is_err_and c.from_residual.result c.from_residual.ensures.1 in
    rw (p.1, p.2) (blamed-fault (λ path. (inner.branch ≡ Waiting) × asks path) (λ path. IsEvaluated (Some ElseIf) c.args.ifs × asks path) c.in_err-branch.field-0.0 (λ path waits. (some-and (innermost c.args.ifs) (inner, outer) (λ found. found.0.branch ≡ Waiting) is waits.0, waits.1)) c.in_err-branch.ensures.asks)

pub returns-in_default-clause-calls : goal.returns-in_default-clause-calls
returns-in_default-clause-calls g c =
    let told = g.F.Files.calls c.args.files.now in
    let calls = condition_calls c.args.here.now.limits.now c.args.here.now.file.now.dir c.args.call.now c.args.state in
    made-when false (is_open_to_elseif c.args.ifs) calls told told c.unpaired.result (sym (open-none c.args.ifs (sym c.take_inner.ensures ∙ c.in_default.is))) (still told c.unpaired.result c.unpaired.ensures.unfailed)

pub returns-in_err-branch-clause-calls : goal.returns-in_err-branch-clause-calls
returns-in_err-branch-clause-calls g c =
    let before = g.F.Files.calls c.args.files.now in
    let now = g.F.Files.calls c.behind_elseif.new.files in
    let calls = condition_calls c.args.here.now.limits.now c.args.here.now.file.now.dir c.args.call.now c.args.state in
    let inner = c.in-Some.inner in
    let some = innermost-some c.args.ifs c.in-Some.outer inner (sym c.take_inner.ensures ∙ c.in-Some.is) in
    let fault = c.in_err-branch.field-0.0 in
    let p = err_from_is_err_and c.from_residual.result c.from_residual.ensures.1 in
    rw (p.1, p.2) (made-fault (Branch × State) (Step) (cond (is_open_to_elseif c.args.ifs) calls []) before now fault (made-when {A = Branch × State} (is_untaken inner.branch) (is_open_to_elseif c.args.ifs) calls before now (Err fault) (sym (ap is_open_to_elseif some)) c.in_err-branch.ensures.calls))

pub returns-in_err-in_branch-clause-calls : goal.returns-in_err-in_branch-clause-calls
returns-in_err-in_branch-clause-calls g c =
    let before = g.F.Files.calls c.args.files.now in
    let now = g.F.Files.calls c.behind_elseif.new.files in
    let calls = condition_calls c.args.here.now.limits.now c.args.here.now.file.now.dir c.args.call.now c.args.state in
    let inner = c.in-Some.inner in
    let some = innermost-some c.args.ifs c.in-Some.outer inner (sym c.take_inner.ensures ∙ c.in-Some.is) in
    let found : Branch × State = (c.in_ok-branch.branch, c.in_ok-branch.state) in
    let p = err_from_is_err_and c.from_residual-in_err-in_branch.result c.from_residual-in_err-in_branch.ensures.1 in
    rw (p.1, p.2) (made-memory {A = Branch × State} (Step) (cond (is_open_to_elseif c.args.ifs) calls []) before now found (made-when {A = Branch × State} (is_untaken inner.branch) (is_open_to_elseif c.args.ifs) calls before now (Ok found) (sym (ap is_open_to_elseif some)) c.in_ok-branch.ensures.calls))

pub returns-clause-calls : goal.returns-clause-calls
returns-clause-calls g c =
    let before = g.F.Files.calls c.args.files.now in
    let now = g.F.Files.calls c.behind_elseif.new.files in
    let calls = condition_calls c.args.here.now.limits.now c.args.here.now.file.now.dir c.args.call.now c.args.state in
    let inner = c.in-Some.inner in
    let some = innermost-some c.args.ifs c.in-Some.outer inner (sym c.take_inner.ensures ∙ c.in-Some.is) in
    let found : Branch × State = (c.in_ok-branch.branch, c.in_ok-branch.state) in
    made-value {A = Branch × State} {B = Step} (cond (is_open_to_elseif c.args.ifs) calls []) before now found c.in_ok-in_branch.field-0 (made-when {A = Branch × State} (is_untaken inner.branch) (is_open_to_elseif c.args.ifs) calls before now (Ok found) (sym (ap is_open_to_elseif some)) c.in_ok-branch.ensures.calls)
