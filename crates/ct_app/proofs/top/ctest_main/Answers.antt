use Rattle.std.proofs.Common.{◌≡◌, ◌∙◌, List, ℕ, sym, ap, subst, length, drop, ◌++◌, map, inl, inr}
use Rattle.std.specs.Prelude.{Option, option_map}
use Rattle.std.proofs.Math.ListN.{take}
use Rattle.std.proofs.lemmas.Bool.{cases_Bool}
use Rattle.ct_history.specs.declared.history.History.{History}
use Rattle.ct_core.specs.Gate.{GateTell}
use Rattle.ct_worker.specs.Gates.{AreSameGates}
use Rattle.ct_worker.proofs.PartLemmas.{front_of}
use Rattle.ct_app.specs.Answers.{Answers}
use Rattle.ct_app.specs.Calls.{sides}
use Rattle.ct_app.specs.Ends.{ReportsEnd, history_entries}
use Rattle.ct_app.specs.Reading.{ask_for_list}
use Rattle.ct_app.proofs.AnswerLemmas.{told_answer}
use Rattle.ct_app.proofs.CompleteLemmas.{call_completes}
use Rattle.ct_app.proofs.GateOrderLemmas.{ends_in_order}
use Rattle.ct_app.proofs.ListLemmas.{list_told}
use Rattle.ct_app.proofs.MeantAnswerLemmas.{answers_as_meant}
use Rattle.ct_app.proofs.top.ctest_main.Goals as goal

pub returns-clause-answer : goal.returns-clause-answer
returns-clause-answer g c =
    let ran = c.run_words-ended in
    let gates = c.args.gates in
    let lent = c.as_mut_slice.result.now in
    let now = ran.new.gates in
    let back : take gates.len (now ++ drop (length now) gates.items) ≡ now = front_of gates.len now (drop (length now) gates.items) (ran.auto.gates ∙ c.as_mut_slice.ensures.len) in
    let told = subst (λ (names : List (List ℕ)). ReportsEnd names ran.result.ended c.report_end-outcome.result.0 c.report_end-outcome.result.1 (g.S.Sink.tells ran.result.sink) (g.S.Sink.tells c.report_end-outcome.new.sink)) c.as_slice.ensures c.report_end-outcome.ensures in
    subst (λ (gs : List _). Answers (sides c.args.words.now c.args.env.now (g.F.Files.tells c.args.files) (g.F.Files.tells ran.new.files) (map g.G.Gate.tells gates.items) (map g.G.Gate.tells gs) (g.S.Sink.tells c.args.sink) (g.S.Sink.tells c.report_end-outcome.new.sink) ran.result.plan (option_map history_entries ran.result.history)) c.report_end-outcome.result.0 c.report_end-outcome.result.1) (sym back)
    (subst (λ (gs : List _). Answers (sides c.args.words.now c.args.env.now (g.F.Files.tells c.args.files) (g.F.Files.tells ran.new.files) (map g.G.Gate.tells gs) (map g.G.Gate.tells now) (g.S.Sink.tells c.args.sink) (g.S.Sink.tells c.report_end-outcome.new.sink) ran.result.plan (option_map history_entries ran.result.history)) c.report_end-outcome.result.0 c.report_end-outcome.result.1) c.as_mut_slice.ensures.value
    (record {
      run = λ no_list. told_answer c.args.words.now c.args.env.now (g.F.Files.tells c.args.files) (g.F.Files.tells ran.new.files) (map g.G.Gate.tells lent) (map g.G.Gate.tells now) (g.S.Sink.tells c.args.sink) (g.S.Sink.tells ran.result.sink) (g.S.Sink.tells c.report_end-outcome.new.sink) ran.result.plan (option_map history_entries ran.result.history) ran.result.names
          ran.result.ended c.report_end-outcome.result.0 c.report_end-outcome.result.1 (ran.ensures.run no_list) told;
      list = λ asks.
          list_told c.args.words.now c.args.env.now (g.F.Files.tells c.args.files) (g.F.Files.tells ran.new.files) (map g.G.Gate.tells lent) (map g.G.Gate.tells now) (g.S.Sink.tells c.args.sink) (g.S.Sink.tells ran.result.sink) (g.S.Sink.tells c.report_end-outcome.new.sink) ran.result.plan (option_map history_entries ran.result.history)
          (record {
            no_plan = ran.ensures.plan asks;
            no_history = ap (λ (h : Option History). option_map history_entries h) (ran.ensures.history asks);
            unasked = ap (λ gs. map g.G.Gate.tells gs) (ran.ensures.unasked asks);
          })
          ran.result.names ran.result.ended c.report_end-outcome.result.0 c.report_end-outcome.result.1 (ran.ensures.list asks) told;
    }))

pub returns-clause-meant : goal.returns-clause-meant
returns-clause-meant g c = answers_as_meant (returns-clause-answer g c)

pub returns-clause-complete : goal.returns-clause-complete
returns-clause-complete g c = call_completes (returns-clause-answer g c)

pub returns-clause-all : goal.returns-clause-all
returns-clause-all g c =
    let ran = c.run_words-ended in
    let gates = c.args.gates in
    let lent = c.as_mut_slice.result.now in
    let now = ran.new.gates in
    let back : take gates.len (now ++ drop (length now) gates.items) ≡ now = front_of gates.len now (drop (length now) gates.items) (ran.auto.gates ∙ c.as_mut_slice.ensures.len) in
    let same : AreSameGates (map g.G.Gate.tells lent) (map g.G.Gate.tells now) = elim (cases_Bool (ask_for_list c.args.words.now)) [
      | inl asks ↦ ap (λ gs. map (λ (gate : GateTell). gate.who) (map g.G.Gate.tells gs)) (ran.ensures.unasked asks)
      | inr runs ↦ ends_in_order (sides c.args.words.now c.args.env.now (g.F.Files.tells c.args.files) (g.F.Files.tells ran.new.files) (map g.G.Gate.tells lent) (map g.G.Gate.tells now) (g.S.Sink.tells c.args.sink) (g.S.Sink.tells ran.result.sink) ran.result.plan (option_map history_entries ran.result.history)) ran.result.names ran.result.ended (ran.ensures.run runs)
    ] in
    subst (λ (gs : List _). AreSameGates (map g.G.Gate.tells gates.items) (map g.G.Gate.tells gs)) (sym back)
    (subst (λ (gs : List _). AreSameGates (map g.G.Gate.tells gs) (map g.G.Gate.tells now)) c.as_mut_slice.ensures.value same)
