use Rattle.std.proofs.Common.{◌≡◌, [], ◌∷◌, ℕ, List, Ok, subst, refl, inl}
use Rattle.std.specs.Prelude.{Result}
use Rattle.ct_base.specs.declared.sink.SinkFault.{SinkFault}
use Rattle.ct_base.specs.Outside.{SinkTell}
use Rattle.ct_report.specs.PutLines.{PutsLines}
use Rattle.ct_app.specs.declared.outcome.Outcome.{Outcome}
use Rattle.ct_app.specs.declared.outcome.Outcome.TheVariants.{Completed, Listed, Usage, Refused, FilesFault, OutputFault, Memory}
use Rattle.ct_app.specs.Ends.{ReportsFault}
use Rattle.ct_app.specs.Outcome.{fault_line}
use Rattle.ct_app.proofs.fault.report_fault.Goals as goal

-- the line of an outcome was put, unless it has none
tells_put : (names : List (List ℕ)) (o : Outcome) (old new : SinkTell) → (o ≡ Listed → ⊥) → (o ≡ OutputFault → ⊥) → PutsLines (fault_line names o ∷ []) old new (Ok tt) → ReportsFault names o o old new
tells_put names Completed old new unlisted unfailed put = inl (refl, inl put)
tells_put names Listed old new unlisted unfailed put = absurd (unlisted refl)
tells_put names (Usage word kind) old new unlisted unfailed put = inl (refl, inl put)
tells_put names (Refused refusal) old new unlisted unfailed put = inl (refl, inl put)
tells_put names (FilesFault path) old new unlisted unfailed put = inl (refl, inl put)
tells_put names OutputFault old new unlisted unfailed put = absurd (unfailed refl)
tells_put names Memory old new unlisted unfailed put = inl (refl, inl put)

pub returns-in-Ok : goal.returns-in-Ok
returns-in-Ok g c =
    let old = g.S.Sink.tells c.args.sink.now in
    let new = g.S.Sink.tells c.put_fault.new.sink in
    tells_put c.args.names.now c.args.outcome old new c.in_default.not-Listed c.in_default.not-OutputFault
    (subst (λ (r : Result (Unit {0}) SinkFault). PutsLines (fault_line c.args.names.now c.args.outcome ∷ []) old new r) c.in-Ok.is c.put_fault.ensures)
