use Rattle.std.proofs.Common.{rules, ◌≡◌, ◌∙◌, sym, ap, subst, refl, true}
use Rattle.std.specs.Prelude.{Some, IsSomeAnd}
use Rattle.ct_history.specs.Legal.{is_legal}
use Rattle.ct_core.specs.Core.{no_base}
use Rattle.ct_turn.specs.Pass.{PassValue}
use Rattle.ct_turn.specs.Seen.{Continues, held_start, moment}
use Rattle.ct_turn.proofs.CallerLemmas.{holds_own}
use Rattle.tests_turn.specs.Held.{open_start_of_ticket}
use Rattle.tests_turn.proofs.TurnLemmas.{continues, end_frees, end_works}
use Rattle.tests_turn.proofs.turn.finish.Goals as goal
use Rattle.ct_history.specs.History.{open_start_of_worker}

pub finish-requires : goal.finish-requires
finish-requires g c =
    (holds_own c.args.pass.now.known.worker (open_start_of_ticket c.args.ticket) c.take-core.result.entries (c.take-core.ensures.suits.start ∙ c.requires.held.1)).1

pub give-requires-clause-continues : goal.give-requires-clause-continues
give-requires-clause-continues g c =
    let old = c.take-core.result in
    let new = c.finish.new.self in
    let suits = c.take-core.ensures.suits in
    let known = c.args.pass.now.known in
    let by = (holds_own known.worker (open_start_of_ticket c.args.ticket) old.entries (suits.start ∙ c.requires.held.1)).0 in
    let works = end_works old new known.worker c.args.ticket c.args.seen by c.finish.ensures.appended in
    subst (λ (p : PassValue). IsSomeAnd p.taken (λ taken. Continues p.known taken (record { plan = new.plan; base = no_base; now = moment new.entries new.aborted }))) (sym c.take-core.ensures.pass)
    (continues known known.worker old new refl suits.plan suits.base works (search rules))

pub returns-clause-held : goal.returns-clause-held
returns-clause-held g c =
    let old = c.take-core.result in
    let new = c.finish.new.self in
    let known = c.args.pass.now.known in
    let held : open_start_of_worker known.worker old.entries ≡ Some (open_start_of_ticket c.args.ticket) = c.take-core.ensures.suits.start ∙ c.requires.held.1 in
    let legal : is_legal old.plan old.entries ≡ true = search rules in
    ap (λ (p : PassValue). held_start p.known) c.give.ensures ∙ ap (λ (p : PassValue). open_start_of_worker p.known.worker new.entries) c.take-core.ensures.pass
    ∙ end_frees old new known.worker c.args.ticket c.args.seen legal held c.finish.ensures.appended
