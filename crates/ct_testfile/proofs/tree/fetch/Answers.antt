use Rattle.std.proofs.Common.{◌+◌, ℕ, List, ap, sym, ◌∙◌, refl, Option, option_map, take, Result, Ok, Err}
use Rattle.std.proofs.lemmas.Result.{err_from_is_err_and}
use Rattle.ct_base.specs.Outside.{Held}
use Rattle.ct_testfile.specs.declared.fault.ReadFault.{ReadFault}
use Rattle.ct_testfile.specs.declared.fault.ReadFault.TheVariants.{NoMemory}
use Rattle.ct_testfile.proofs.OverLemmas.{Over-still, looked-ok, looked-err, told-at}
use Rattle.std.proofs.Common.{◌≡◌}
use Rattle.ct_testfile.proofs.AsksLemmas.{blamed-path}
use Rattle.std.proofs.Common.{[], ◌∷◌}
use Rattle.ct_base.specs.declared.file_call.FileCall.TheVariants.{Read}
use Rattle.ct_testfile.specs.Says.{files_fault}
use Rattle.ct_testfile.proofs.CallsLemmas.{made-same, one-err, one-ok, wanting}
use Rattle.ct_testfile.proofs.tree.fetch.Goals as goal

pub returns-in_err-asked-clause-says : goal.returns-in_err-asked-clause-says
returns-in_err-asked-clause-says g c =
    let says : Held → Result (Option (List ℕ)) ReadFault = λ held. Ok (option_map (take (c.args.most + 1)) (held c.args.path.now)) in
    let p = err_from_is_err_and c.from_residual.result c.from_residual.ensures.1 in
    rw (p.1, p.2) (Over-still (g.F.Files.tells c.args.files.now) says (Err NoMemory) tt (λ held. tt))

pub returns-in-Ok-clause-says : goal.returns-in-Ok-clause-says
returns-in-Ok-clause-says g c =
    let says : Held → Result (Option (List ℕ)) ReadFault = λ held. Ok (option_map (take (c.args.most + 1)) (held c.args.path.now)) in
    let tells = g.F.Files.tells c.args.files.now in
    looked-ok c.in_ok-asked.asked tells (g.F.Files.tells c.read.new.self) c.in-Ok.got says (Ok c.in-Ok.got) c.in-Ok.ensures.looks tt (λ held told. ap Ok (sym (told-at held tells.held c.in_ok-asked.asked c.in-Ok.got (option_map (take (c.from.result + 1))) c.in-Ok.ensures.ok told ∙ (λ i. option_map (take (c.from.ensures i + 1)) (held (c.in_ok-asked.ensures i))))))

pub returns-in-Err-clause-says : goal.returns-in-Err-clause-says
returns-in-Err-clause-says g c =
    let says : Held → Result (Option (List ℕ)) ReadFault = λ held. Ok (option_map (take (c.args.most + 1)) (held c.args.path.now)) in
    rw c.files_fault.ensures (looked-err c.in_ok-asked.asked (g.F.Files.tells c.args.files.now) (g.F.Files.tells c.read.new.self) c.in-Err.fault says c.in-Err.ensures.looks)

pub same-asked : goal.same-asked
same-asked g c = refl

pub returns-in-Err-clause-asks : goal.returns-in-Err-clause-asks
returns-in-Err-clause-asks g c =
    rw c.files_fault.ensures (blamed-path (λ refused. refused ≡ c.args.path.now) c.in_ok-asked.asked c.in-Err.fault c.in_ok-asked.ensures)

pub returns-in_err-asked-clause-calls : goal.returns-in_err-asked-clause-calls
returns-in_err-asked-clause-calls g c =
    let p = err_from_is_err_and c.from_residual.result c.from_residual.ensures.1 in
    rw (p.1, p.2) (wanting (Option (List ℕ)) (Read c.args.path.now c.args.most ∷ []) (g.F.Files.calls c.args.files.now))

pub returns-in-Ok-clause-calls : goal.returns-in-Ok-clause-calls
returns-in-Ok-clause-calls g c =
    let before = g.F.Files.calls c.args.files.now in
    let now = g.F.Files.calls c.read.new.self in
    let got = c.in-Ok.got in
    made-same {A = Option (List ℕ)} (Read c.in_ok-asked.asked c.from.result ∷ []) (Read c.args.path.now c.args.most ∷ []) before now (Ok got) (λ i. Read (c.in_ok-asked.ensures i) (c.from.ensures i) ∷ []) (one-ok {A = Option (List ℕ)} (Read c.in_ok-asked.asked c.from.result) before now got got c.in-Ok.ensures.made)

pub returns-in-Err-clause-calls : goal.returns-in-Err-clause-calls
returns-in-Err-clause-calls g c =
    let before = g.F.Files.calls c.args.files.now in
    let now = g.F.Files.calls c.read.new.self in
    let asked = c.in_ok-asked.asked in
    let fault = c.in-Err.fault in
    rw c.files_fault.ensures (made-same {A = Option (List ℕ)} (Read asked c.from.result ∷ []) (Read c.args.path.now c.args.most ∷ []) before now (Err (files_fault asked fault)) (λ i. Read (c.in_ok-asked.ensures i) (c.from.ensures i) ∷ []) (one-err (Option (List ℕ)) (Read asked c.from.result) asked before now fault refl c.in-Err.ensures.made))
