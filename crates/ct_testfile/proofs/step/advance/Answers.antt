use Rattle.std.proofs.Common.{◌≡◌, sym, ap, ◌∙◌, Option, Some, None, Result}
use Rattle.ct_base.specs.Outside.{Held}
use Rattle.ct_testfile.specs.Outcome.{on_line}
use Rattle.ct_testfile.specs.Ifs.{flow_of, stepped_by, done, begun_else, left, is_live}
use Rattle.ct_testfile.specs.declared.command.Flow.{Flow}
use Rattle.ct_testfile.specs.declared.command.Flow.TheVariants.{If, ElseIf, Else, EndIf}
use Rattle.ct_testfile.specs.declared.fault.ReadFault.{ReadFault}
use Rattle.ct_testfile.specs.declared.step.Step.{Step}
use Rattle.ct_testfile.proofs.OverLemmas.{Over-same, Over-still}
use Rattle.std.proofs.Common.{subst}
use Rattle.ct_testfile.specs.Asks.{CallAsks, ConditionAsks, IsEvaluated}
use Rattle.ct_testfile.proofs.AsksLemmas.{blamed, unblamed}
use Rattle.std.proofs.Common.{false}
use Rattle.ct_testfile.specs.TreeCalls.{condition_calls, is_evaluated}
use Rattle.ct_testfile.proofs.CallsLemmas.{made-when, still}
use Rattle.ct_testfile.proofs.step.advance.Goals as goal

pub returns-in_default-clause-says : goal.returns-in_default-clause-says
returns-in_default-clause-says g c =
    let tells = g.F.Files.tells c.args.files.now in
    let path = c.args.here.now.file.now.path in
    let dir = c.args.here.now.file.now.dir in
    let call = c.args.call.now in
    let goes : Option Flow → Held → Result Step ReadFault = λ flow held. on_line path call.line (stepped_by c.args.here.now.limits.now held dir call c.args.ifs c.args.state flow) in
    let is : flow_of call.name ≡ None = ap flow_of (sym c.bytes.ensures) ∙ sym c.flow_of.ensures ∙ c.in_default.is in
    Over-same tells tells (goes None) (goes (flow_of call.name)) c.at_line.result (λ held. ap (λ flow. goes flow held) (sym is)) (Over-still tells (goes None) c.at_line.result c.at_line.ensures.unfailed (λ held. c.at_line.ensures.says (done c.args.here.now.limits.now dir call c.args.ifs c.args.state (is_live c.args.ifs)) c.do_other-step.ensures))

pub returns-in-If-clause-says : goal.returns-in-If-clause-says
returns-in-If-clause-says g c =
    let tells = g.F.Files.tells c.args.files.now in
    let path = c.args.here.now.file.now.path in
    let call = c.args.call.now in
    let goes : Option Flow → Held → Result Step ReadFault = λ flow held. on_line path call.line (stepped_by c.args.here.now.limits.now held c.args.here.now.file.now.dir call c.args.ifs c.args.state flow) in
    let is : flow_of call.name ≡ Some If = ap flow_of (sym c.bytes.ensures) ∙ sym c.flow_of.ensures ∙ c.in-Some.is ∙ ap Some c.in-If.is in
    Over-same tells (g.F.Files.tells c.do_if.new.files) (goes (Some If)) (goes (flow_of call.name)) c.do_if.result (λ held. ap (λ flow. goes flow held) (sym is)) c.do_if.ensures.says

pub returns-in-ElseIf-clause-says : goal.returns-in-ElseIf-clause-says
returns-in-ElseIf-clause-says g c =
    let tells = g.F.Files.tells c.args.files.now in
    let path = c.args.here.now.file.now.path in
    let call = c.args.call.now in
    let goes : Option Flow → Held → Result Step ReadFault = λ flow held. on_line path call.line (stepped_by c.args.here.now.limits.now held c.args.here.now.file.now.dir call c.args.ifs c.args.state flow) in
    let is : flow_of call.name ≡ Some ElseIf = ap flow_of (sym c.bytes.ensures) ∙ sym c.flow_of.ensures ∙ c.in-Some.is ∙ ap Some c.in-ElseIf.is in
    Over-same tells (g.F.Files.tells c.do_elseif.new.files) (goes (Some ElseIf)) (goes (flow_of call.name)) c.do_elseif.result (λ held. ap (λ flow. goes flow held) (sym is)) c.do_elseif.ensures.says

pub returns-in-Else-clause-says : goal.returns-in-Else-clause-says
returns-in-Else-clause-says g c =
    let tells = g.F.Files.tells c.args.files.now in
    let path = c.args.here.now.file.now.path in
    let call = c.args.call.now in
    let goes : Option Flow → Held → Result Step ReadFault = λ flow held. on_line path call.line (stepped_by c.args.here.now.limits.now held c.args.here.now.file.now.dir call c.args.ifs c.args.state flow) in
    let is : flow_of call.name ≡ Some Else = ap flow_of (sym c.bytes.ensures) ∙ sym c.flow_of.ensures ∙ c.in-Some.is ∙ ap Some c.in-Else.is in
    Over-same tells tells (goes (Some Else)) (goes (flow_of call.name)) c.at_line-in-Else.result (λ held. ap (λ flow. goes flow held) (sym is)) (Over-still tells (goes (Some Else)) c.at_line-in-Else.result c.at_line-in-Else.ensures.unfailed (λ held. c.at_line-in-Else.ensures.says (begun_else c.args.here.now.limits.now c.args.ifs c.args.state) c.do_else.ensures))

pub returns-in-EndIf-clause-says : goal.returns-in-EndIf-clause-says
returns-in-EndIf-clause-says g c =
    let tells = g.F.Files.tells c.args.files.now in
    let path = c.args.here.now.file.now.path in
    let call = c.args.call.now in
    let goes : Option Flow → Held → Result Step ReadFault = λ flow held. on_line path call.line (stepped_by c.args.here.now.limits.now held c.args.here.now.file.now.dir call c.args.ifs c.args.state flow) in
    let is : flow_of call.name ≡ Some EndIf = ap flow_of (sym c.bytes.ensures) ∙ sym c.flow_of.ensures ∙ c.in-Some.is ∙ ap Some c.in-EndIf.is in
    Over-same tells tells (goes (Some EndIf)) (goes (flow_of call.name)) c.at_line-in-EndIf.result (λ held. ap (λ flow. goes flow held) (sym is)) (Over-still tells (goes (Some EndIf)) c.at_line-in-EndIf.result c.at_line-in-EndIf.ensures.unfailed (λ held. c.at_line-in-EndIf.ensures.says (left c.args.ifs c.args.state) c.do_endif.ensures))

pub returns-in_default-clause-asks : goal.returns-in_default-clause-asks
returns-in_default-clause-asks g c =
    unblamed (CallAsks c.args.here.now.limits.now c.args.here.now.file.now.dir c.args.ifs c.args.state c.args.call.now) c.at_line.result c.at_line.ensures.unfailed

pub returns-in-Else-clause-asks : goal.returns-in-Else-clause-asks
returns-in-Else-clause-asks g c =
    unblamed (CallAsks c.args.here.now.limits.now c.args.here.now.file.now.dir c.args.ifs c.args.state c.args.call.now) c.at_line-in-Else.result c.at_line-in-Else.ensures.unfailed

pub returns-in-EndIf-clause-asks : goal.returns-in-EndIf-clause-asks
returns-in-EndIf-clause-asks g c =
    unblamed (CallAsks c.args.here.now.limits.now c.args.here.now.file.now.dir c.args.ifs c.args.state c.args.call.now) c.at_line-in-EndIf.result c.at_line-in-EndIf.ensures.unfailed

pub returns-in-If-clause-asks : goal.returns-in-If-clause-asks
returns-in-If-clause-asks g c =
    let call = c.args.call.now in
    let asks = ConditionAsks c.args.here.now.limits.now c.args.here.now.file.now.dir call c.args.state in
    let is : flow_of call.name ≡ Some If = ap flow_of (sym c.bytes.ensures) ∙ sym c.flow_of.ensures ∙ c.in-Some.is ∙ ap Some c.in-If.is in
    blamed (λ path. IsEvaluated (Some If) c.args.ifs × asks path) (λ path. IsEvaluated (flow_of call.name) c.args.ifs × asks path) c.do_if.result (λ path asked. (subst (λ (flow : Option Flow). IsEvaluated flow c.args.ifs) (sym is) asked.0, asked.1)) c.do_if.ensures.asks

pub returns-in-ElseIf-clause-asks : goal.returns-in-ElseIf-clause-asks
returns-in-ElseIf-clause-asks g c =
    let call = c.args.call.now in
    let asks = ConditionAsks c.args.here.now.limits.now c.args.here.now.file.now.dir call c.args.state in
    let is : flow_of call.name ≡ Some ElseIf = ap flow_of (sym c.bytes.ensures) ∙ sym c.flow_of.ensures ∙ c.in-Some.is ∙ ap Some c.in-ElseIf.is in
    blamed (λ path. IsEvaluated (Some ElseIf) c.args.ifs × asks path) (λ path. IsEvaluated (flow_of call.name) c.args.ifs × asks path) c.do_elseif.result (λ path asked. (subst (λ (flow : Option Flow). IsEvaluated flow c.args.ifs) (sym is) asked.0, asked.1)) c.do_elseif.ensures.asks

pub returns-in_default-clause-calls : goal.returns-in_default-clause-calls
returns-in_default-clause-calls g c =
    let told = g.F.Files.calls c.args.files.now in
    let call = c.args.call.now in
    let calls = condition_calls c.args.here.now.limits.now c.args.here.now.file.now.dir call c.args.state in
    let is : flow_of call.name ≡ None = ap flow_of (sym c.bytes.ensures) ∙ sym c.flow_of.ensures ∙ c.in_default.is in
    made-when false (is_evaluated (flow_of call.name) c.args.ifs) calls told told c.at_line.result (sym (ap (λ (flow : Option Flow). is_evaluated flow c.args.ifs) is)) (still told c.at_line.result c.at_line.ensures.unfailed)

pub returns-in-If-clause-calls : goal.returns-in-If-clause-calls
returns-in-If-clause-calls g c =
    let call = c.args.call.now in
    let calls = condition_calls c.args.here.now.limits.now c.args.here.now.file.now.dir call c.args.state in
    let is : flow_of call.name ≡ Some If = ap flow_of (sym c.bytes.ensures) ∙ sym c.flow_of.ensures ∙ c.in-Some.is ∙ ap Some c.in-If.is in
    made-when (is_evaluated (Some If) c.args.ifs) (is_evaluated (flow_of call.name) c.args.ifs) calls (g.F.Files.calls c.args.files.now) (g.F.Files.calls c.do_if.new.files) c.do_if.result (sym (ap (λ (flow : Option Flow). is_evaluated flow c.args.ifs) is)) c.do_if.ensures.calls

pub returns-in-ElseIf-clause-calls : goal.returns-in-ElseIf-clause-calls
returns-in-ElseIf-clause-calls g c =
    let call = c.args.call.now in
    let calls = condition_calls c.args.here.now.limits.now c.args.here.now.file.now.dir call c.args.state in
    let is : flow_of call.name ≡ Some ElseIf = ap flow_of (sym c.bytes.ensures) ∙ sym c.flow_of.ensures ∙ c.in-Some.is ∙ ap Some c.in-ElseIf.is in
    made-when (is_evaluated (Some ElseIf) c.args.ifs) (is_evaluated (flow_of call.name) c.args.ifs) calls (g.F.Files.calls c.args.files.now) (g.F.Files.calls c.do_elseif.new.files) c.do_elseif.result (sym (ap (λ (flow : Option Flow). is_evaluated flow c.args.ifs) is)) c.do_elseif.ensures.calls

pub returns-in-Else-clause-calls : goal.returns-in-Else-clause-calls
returns-in-Else-clause-calls g c =
    let told = g.F.Files.calls c.args.files.now in
    let call = c.args.call.now in
    let calls = condition_calls c.args.here.now.limits.now c.args.here.now.file.now.dir call c.args.state in
    let is : flow_of call.name ≡ Some Else = ap flow_of (sym c.bytes.ensures) ∙ sym c.flow_of.ensures ∙ c.in-Some.is ∙ ap Some c.in-Else.is in
    made-when false (is_evaluated (flow_of call.name) c.args.ifs) calls told told c.at_line-in-Else.result (sym (ap (λ (flow : Option Flow). is_evaluated flow c.args.ifs) is)) (still told c.at_line-in-Else.result c.at_line-in-Else.ensures.unfailed)

pub returns-in-EndIf-clause-calls : goal.returns-in-EndIf-clause-calls
returns-in-EndIf-clause-calls g c =
    let told = g.F.Files.calls c.args.files.now in
    let call = c.args.call.now in
    let calls = condition_calls c.args.here.now.limits.now c.args.here.now.file.now.dir call c.args.state in
    let is : flow_of call.name ≡ Some EndIf = ap flow_of (sym c.bytes.ensures) ∙ sym c.flow_of.ensures ∙ c.in-Some.is ∙ ap Some c.in-EndIf.is in
    made-when false (is_evaluated (flow_of call.name) c.args.ifs) calls told told c.at_line-in-EndIf.result (sym (ap (λ (flow : Option Flow). is_evaluated flow c.args.ifs) is)) (still told c.at_line-in-EndIf.result c.at_line-in-EndIf.ensures.unfailed)
