use Rattle.std.proofs.Common.{rules, ◌≡◌, sym, subst, ℕ, List, [], ◌∷◌}
use Rattle.std.specs.Prelude.{Result, Err}
use Rattle.ct_base.specs.declared.sink.SinkFault.{SinkFault}
use Rattle.ct_base.specs.declared.sink.SinkFault.TheVariants as Sinks
use Rattle.ct_info.specs.Info.{info_text, info_value}
use Rattle.ct_report.specs.PutLines.{PutsLines}
use Rattle.ct_report.proofs.PutLemmas.{lines_none}
use Rattle.ct_app.proofs.list.put_json.Goals as goal

pub returns-in_err-text : goal.returns-in_err-text
returns-in_err-text g c =
    let sink = g.S.Sink.tells c.args.sink.now in
    let lines : List (List ℕ) = info_text (info_value c.args.tests.now.defs c.args.members.now c.args.config.now) ∷ [] in
    let gave : c.from_residual.result ≡ Err Sinks.NoMemory = search rules in
    subst (λ (result : Result (Unit {0}) SinkFault). PutsLines lines sink sink result) (sym gave) (lines_none sink lines)
