use Rattle.std.proofs.Common.{◌≡◌, ap, sym, ◌∙◌, Ok, Err, is_some}
use Rattle.std.proofs.lemmas.Result.{err_from_is_err_and}
use Rattle.ct_base.specs.Path.{joined}
use Rattle.ct_testfile.specs.declared.fault.ReadFault.TheVariants.{NoMemory}
use Rattle.ct_testfile.proofs.OverLemmas.{Over-still, looked-ok, looked-err, told-at}
use Rattle.ct_testfile.proofs.AsksLemmas.{blamed-path}
use Rattle.std.proofs.Common.{Bool, ℕ, List, [], ◌∷◌, refl}
use Rattle.ct_base.specs.declared.file_call.FileCall.TheVariants.{Exists}
use Rattle.ct_testfile.specs.Says.{files_fault}
use Rattle.ct_testfile.proofs.CallsLemmas.{made-same, one-err, one-ok, wanting}
use Rattle.ct_testfile.proofs.condition.exists.Goals as goal

pub returns-in_err-path-clause-says : goal.returns-in_err-path-clause-says
returns-in_err-path-clause-says g c =
    let p = err_from_is_err_and c.from_residual.result c.from_residual.ensures.1 in
    rw (p.1, p.2) (Over-still (g.F.Files.tells c.args.files.now) (λ held. Ok (is_some (held (joined c.args.dir.now c.args.name.now)))) (Err NoMemory) tt (λ held. tt))

pub returns-in-Ok-clause-says : goal.returns-in-Ok-clause-says
returns-in-Ok-clause-says g c =
    looked-ok c.in_ok-path.path (g.F.Files.tells c.args.files.now) (g.F.Files.tells c.exists.new.self) c.in-Ok.found (λ held. Ok (is_some (held (joined c.args.dir.now c.args.name.now)))) (Ok c.in-Ok.found) c.in-Ok.ensures.looks tt (λ held told. ap Ok (ap (λ path. is_some (held path)) (sym c.in_ok-path.ensures) ∙ sym (told-at held (g.F.Files.tells c.args.files.now).held c.in_ok-path.path c.in-Ok.found is_some c.in-Ok.ensures.ok told)))

pub returns-in-Err-clause-says : goal.returns-in-Err-clause-says
returns-in-Err-clause-says g c =
    rw c.files_fault.ensures (looked-err c.in_ok-path.path (g.F.Files.tells c.args.files.now) (g.F.Files.tells c.exists.new.self) c.in-Err.fault (λ held. Ok (is_some (held (joined c.args.dir.now c.args.name.now)))) c.in-Err.ensures.looks)

pub returns-in-Err-clause-asks : goal.returns-in-Err-clause-asks
returns-in-Err-clause-asks g c =
    rw c.files_fault.ensures (blamed-path (λ path. path ≡ joined c.args.dir.now c.args.name.now) c.in_ok-path.path c.in-Err.fault c.in_ok-path.ensures)

pub returns-in_err-path-clause-calls : goal.returns-in_err-path-clause-calls
returns-in_err-path-clause-calls g c =
    let p = err_from_is_err_and c.from_residual.result c.from_residual.ensures.1 in
    rw (p.1, p.2) (wanting (Bool) (Exists (joined c.args.dir.now c.args.name.now) ∷ []) (g.F.Files.calls c.args.files.now))

pub returns-in-Ok-clause-calls : goal.returns-in-Ok-clause-calls
returns-in-Ok-clause-calls g c =
    let before = g.F.Files.calls c.args.files.now in
    let now = g.F.Files.calls c.exists.new.self in
    let found = c.in-Ok.found in
    made-same {A = Bool} (Exists c.in_ok-path.path ∷ []) (Exists (joined c.args.dir.now c.args.name.now) ∷ []) before now (Ok found) (ap (λ (path : List ℕ). Exists path ∷ []) c.in_ok-path.ensures) (one-ok {A = Bool} (Exists c.in_ok-path.path) before now found found c.in-Ok.ensures.made)

pub returns-in-Err-clause-calls : goal.returns-in-Err-clause-calls
returns-in-Err-clause-calls g c =
    let before = g.F.Files.calls c.args.files.now in
    let now = g.F.Files.calls c.exists.new.self in
    let path = c.in_ok-path.path in
    let fault = c.in-Err.fault in
    rw c.files_fault.ensures (made-same {A = Bool} (Exists path ∷ []) (Exists (joined c.args.dir.now c.args.name.now) ∷ []) before now (Err (files_fault path fault)) (ap (λ (path : List ℕ). Exists path ∷ []) c.in_ok-path.ensures) (one-err (Bool) (Exists path) path before now fault refl c.in-Err.ensures.made))
