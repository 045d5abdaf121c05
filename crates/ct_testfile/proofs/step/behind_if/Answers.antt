use Rattle.std.proofs.Common.{refl, Result, Ok}
use Rattle.ct_base.specs.Outside.{Held}
use Rattle.ct_testfile.specs.declared.branch.Branch.{Branch}
use Rattle.ct_testfile.specs.declared.branch.Branch.TheVariants.{Idle}
use Rattle.ct_testfile.specs.declared.fault.ReadFault.{ReadFault}
use Rattle.ct_testfile.specs.declared.state.State.{State}
use Rattle.ct_testfile.proofs.OverLemmas.{Over-still}
use Rattle.std.proofs.Common.{◌≡◌, true}
use Rattle.ct_testfile.specs.Asks.{ConditionAsks}
use Rattle.ct_testfile.proofs.AsksLemmas.{blamed}
use Rattle.ct_testfile.proofs.CallsLemmas.{still}
use Rattle.ct_testfile.proofs.step.behind_if.Goals as goal

pub returns-then-live-clause-says : goal.returns-then-live-clause-says
returns-then-live-clause-says g c = rw c.if-live.true c.asked.ensures.says

pub returns-else-live-clause-says : goal.returns-else-live-clause-says
returns-else-live-clause-says g c =
    let says : Held → Result (Branch × State) ReadFault = λ held. Ok (Idle, c.args.state) in
    rw c.if-live.false (Over-still (g.F.Files.tells c.args.files.now) says (Ok (Idle, c.args.state)) tt (λ held. refl))

pub returns-then-live-clause-asks : goal.returns-then-live-clause-asks
returns-then-live-clause-asks g c =
    let asks = ConditionAsks c.args.here.now.limits.now c.args.here.now.file.now.dir c.args.call.now c.args.state in
    blamed asks (λ path. (c.args.live ≡ true) × asks path) c.asked.result (λ path is. (c.if-live.true, is)) c.asked.ensures.asks

pub returns-then-live-clause-calls : goal.returns-then-live-clause-calls
returns-then-live-clause-calls g c = rw c.if-live.true c.asked.ensures.calls

pub returns-else-live-clause-calls : goal.returns-else-live-clause-calls
returns-else-live-clause-calls g c =
    rw c.if-live.false (still {A = Branch × State} (g.F.Files.calls c.args.files.now) (Ok (Idle, c.args.state)) tt)
