use Rattle.std.proofs.Common.{refl, Result, Ok, Err}
use Rattle.ct_base.specs.Outside.{Held}
use Rattle.ct_testfile.specs.declared.branch.Branch.{Branch}
use Rattle.ct_testfile.specs.declared.branch.Branch.TheVariants.{Idle, Over as passed}
use Rattle.ct_testfile.specs.declared.fault.ReadFault.{ReadFault}
use Rattle.ct_testfile.specs.declared.fault.ReadFault.TheVariants.{At}
use Rattle.ct_testfile.specs.declared.fault.ReadKind.TheVariants.{UnpairedIf}
use Rattle.ct_testfile.specs.declared.state.State.{State}
use Rattle.ct_testfile.proofs.OverLemmas.{Over-still}
use Rattle.std.proofs.Common.{◌≡◌}
use Rattle.ct_testfile.specs.Asks.{ConditionAsks}
use Rattle.ct_testfile.specs.declared.branch.Branch.TheVariants.{Waiting}
use Rattle.ct_testfile.proofs.AsksLemmas.{blamed, unblamed}
use Rattle.ct_testfile.proofs.CallsLemmas.{still}
use Rattle.ct_testfile.proofs.step.behind_elseif.Goals as goal

pub returns-in-Waiting-clause-says : goal.returns-in-Waiting-clause-says
returns-in-Waiting-clause-says g c = rw c.in-Waiting.is c.asked.ensures.says

pub returns-in-Taken-clause-says : goal.returns-in-Taken-clause-says
returns-in-Taken-clause-says g c =
    let says : Held → Result (Branch × State) ReadFault = λ held. Ok (passed, c.args.state) in
    rw c.in-Taken.is (Over-still (g.F.Files.tells c.args.files.now) says (Ok (passed, c.args.state)) tt (λ held. refl))

pub returns-in-Over-clause-says : goal.returns-in-Over-clause-says
returns-in-Over-clause-says g c =
    let says : Held → Result (Branch × State) ReadFault = λ held. Ok (passed, c.args.state) in
    rw c.in-Over.is (Over-still (g.F.Files.tells c.args.files.now) says (Ok (passed, c.args.state)) tt (λ held. refl))

pub returns-in-Idle-clause-says : goal.returns-in-Idle-clause-says
returns-in-Idle-clause-says g c =
    let says : Held → Result (Branch × State) ReadFault = λ held. Ok (Idle, c.args.state) in
    rw c.in-Idle.is (Over-still (g.F.Files.tells c.args.files.now) says (Ok (Idle, c.args.state)) tt (λ held. refl))

pub returns-in-ElseTaken-clause-says : goal.returns-in-ElseTaken-clause-says
returns-in-ElseTaken-clause-says g c =
    let says : Held → Result (Branch × State) ReadFault = λ held. Err (At c.args.here.now.file.now.path c.args.call.now.line UnpairedIf) in
    rw c.in-ElseTaken.is (Over-still (g.F.Files.tells c.args.files.now) says c.unpaired.result c.unpaired.ensures.unfailed (λ held. c.unpaired.ensures.says))

pub returns-in-ElseOver-clause-says : goal.returns-in-ElseOver-clause-says
returns-in-ElseOver-clause-says g c =
    let says : Held → Result (Branch × State) ReadFault = λ held. Err (At c.args.here.now.file.now.path c.args.call.now.line UnpairedIf) in
    rw c.in-ElseOver.is (Over-still (g.F.Files.tells c.args.files.now) says c.unpaired-in-ElseOver.result c.unpaired-in-ElseOver.ensures.unfailed (λ held. c.unpaired-in-ElseOver.ensures.says))

pub returns-in-Waiting-clause-asks : goal.returns-in-Waiting-clause-asks
returns-in-Waiting-clause-asks g c =
    let asks = ConditionAsks c.args.here.now.limits.now c.args.here.now.file.now.dir c.args.call.now c.args.state in
    blamed asks (λ path. (c.args.branch ≡ Waiting) × asks path) c.asked.result (λ path is. (c.in-Waiting.is, is)) c.asked.ensures.asks

pub returns-in-ElseTaken-clause-asks : goal.returns-in-ElseTaken-clause-asks
returns-in-ElseTaken-clause-asks g c =
    let asks = ConditionAsks c.args.here.now.limits.now c.args.here.now.file.now.dir c.args.call.now c.args.state in
    unblamed (λ path. (c.args.branch ≡ Waiting) × asks path) c.unpaired.result c.unpaired.ensures.unfailed

pub returns-in-ElseOver-clause-asks : goal.returns-in-ElseOver-clause-asks
returns-in-ElseOver-clause-asks g c =
    let asks = ConditionAsks c.args.here.now.limits.now c.args.here.now.file.now.dir c.args.call.now c.args.state in
    unblamed (λ path. (c.args.branch ≡ Waiting) × asks path) c.unpaired-in-ElseOver.result c.unpaired-in-ElseOver.ensures.unfailed

pub returns-in-Waiting-clause-calls : goal.returns-in-Waiting-clause-calls
returns-in-Waiting-clause-calls g c = rw c.in-Waiting.is c.asked.ensures.calls

pub returns-in-Taken-clause-calls : goal.returns-in-Taken-clause-calls
returns-in-Taken-clause-calls g c =
    rw c.in-Taken.is (still {A = Branch × State} (g.F.Files.calls c.args.files.now) (Ok (passed, c.args.state)) tt)

pub returns-in-Over-clause-calls : goal.returns-in-Over-clause-calls
returns-in-Over-clause-calls g c =
    rw c.in-Over.is (still {A = Branch × State} (g.F.Files.calls c.args.files.now) (Ok (passed, c.args.state)) tt)

pub returns-in-Idle-clause-calls : goal.returns-in-Idle-clause-calls
returns-in-Idle-clause-calls g c =
    rw c.in-Idle.is (still {A = Branch × State} (g.F.Files.calls c.args.files.now) (Ok (Idle, c.args.state)) tt)

pub returns-in-ElseTaken-clause-calls : goal.returns-in-ElseTaken-clause-calls
returns-in-ElseTaken-clause-calls g c =
    rw c.in-ElseTaken.is (still (g.F.Files.calls c.args.files.now) c.unpaired.result c.unpaired.ensures.unfailed)

pub returns-in-ElseOver-clause-calls : goal.returns-in-ElseOver-clause-calls
returns-in-ElseOver-clause-calls g c =
    rw c.in-ElseOver.is (still (g.F.Files.calls c.args.files.now) c.unpaired-in-ElseOver.result c.unpaired-in-ElseOver.ensures.unfailed)
