use Rattle.std.proofs.Common.{◌≡◌, sym, subst, ◌∙◌, ℕ, Some}
use Rattle.std.specs.Prelude.{IfSome, Option}
use Rattle.std.proofs.lemmas.Option.{none-some}
use Rattle.ct_load.specs.Load.{CanBeRun, asked_count}
use Rattle.ct_load.proofs.RunLemmas.{load_not_one}
use Rattle.ct_load.proofs.RunnableLemmas.{can_be_run}
use Rattle.ct_load.proofs.load.load_main.Goals as goal

pub returns-in-Some-clause-usage : goal.returns-in-Some-clause-usage
returns-in-Some-clause-usage g c =
    let loaded = c.load.result in
    let some : asked_count c.args.words.now ≡ Some c.in-Some.count = sym c.asked_count.ensures.is ∙ c.in-Some.is in (
      (λ one. absurd (load_not_one c.in-Some.count (g.S.Sink.tells c.args.sink) (g.S.Sink.tells loaded.sink) loaded.run loaded.status c.load.ensures one)),
      (λ none. absurd (none-some c.in-Some.count (sym none ∙ some))),
    )

pub returns-in-Some-clause-runnable : goal.returns-in-Some-clause-runnable
returns-in-Some-clause-runnable g c =
    subst (λ (asked : Option ℕ). IfSome asked CanBeRun) c.asked_count.ensures.is (can_be_run c.asked_count.result c.asked_count.ensures.within)
