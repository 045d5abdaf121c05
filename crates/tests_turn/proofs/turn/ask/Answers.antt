use Rattle.std.proofs.Common.{rules, ◌≡◌, ◌∙◌, sym, ap, subst, ℕ}
use Rattle.std.specs.Prelude.{None, IsSomeAnd}
use Rattle.ct_core.specs.Core.{no_base}
use Rattle.ct_turn.specs.Pass.{PassValue}
use Rattle.ct_turn.specs.Seen.{Continues, held_start, moment}
use Rattle.ct_turn.proofs.CallerLemmas.{not_busy}
use Rattle.tests_turn.proofs.TurnLemmas.{continues, next_holds, next_works}
use Rattle.tests_turn.proofs.turn.ask.Goals as goal
use Rattle.ct_history.specs.History.{open_start_of_worker}

pub next-next-requires : goal.next-next-requires
next-next-requires g c =
    not_busy c.args.worker c.take-core.result.entries (ap (λ (w : ℕ). open_start_of_worker w c.take-core.result.entries) (sym c.requires.worker) ∙ c.take-core.ensures.suits.start ∙ c.requires.idle.1)

pub give-requires-clause-continues : goal.give-requires-clause-continues
give-requires-clause-continues g c =
    let old = c.take-core.result in
    let new = c.next-next.new.self in
    let suits = c.take-core.ensures.suits in
    let works = next_works old c.args.worker c.next-next.result new c.next-next.ensures.step in
    subst (λ (p : PassValue). IsSomeAnd p.taken (λ taken. Continues p.known taken (record { plan = new.plan; base = no_base; now = moment new.entries new.aborted }))) (sym c.take-core.ensures.pass)
    (continues c.args.pass.now.known c.args.worker old new c.requires.worker suits.plan suits.base works (search rules))

pub returns-clause-held : goal.returns-clause-held
returns-clause-held g c =
    let old = c.take-core.result in
    let new = c.next-next.new.self in
    let free : open_start_of_worker c.args.worker old.entries ≡ None = ap (λ (w : ℕ). open_start_of_worker w old.entries) (sym c.requires.worker) ∙ c.take-core.ensures.suits.start ∙ c.requires.idle.1 in
    ap (λ (p : PassValue). held_start p.known) c.give.ensures ∙ ap (λ (p : PassValue). open_start_of_worker p.known.worker new.entries) c.take-core.ensures.pass
    ∙ ap (λ (w : ℕ). open_start_of_worker w new.entries) c.requires.worker ∙ next_holds old c.args.worker c.next-next.result new c.next-next.ensures.step free
