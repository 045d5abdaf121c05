use Rattle.std.proofs.Common.{rules, ◌≡◌, ◌∙◌, ◌<◌, ◌≤◌, ◌^◌, ◌-◌, List, ap, arith, true, false, None, IfOk, subst, sym}
use Rattle.std.specs.Prelude.{◌==◌}
use Rattle.std.specs.Option.{option_copied}
use Rattle.ct_history.specs.Course.{course_at, runs}
use Rattle.ct_history.specs.Seen.{next_attempt, processors_used}
use Rattle.ct_explain.specs.declared.wait.Wait.{Wait}
use Rattle.ct_explain.specs.declared.wait.Wait.TheVariants.{Attempt}
use Rattle.ct_explain.specs.Waits.{first_wait, waits_beside}
use Rattle.ct_history.specs.declared.open_start.OpenStart.{OpenStart}
use Rattle.ct_explain.proofs.WaitLemmas.{says_few, waits_attempt, waits_beside_starts, waits_predecessor}
use Rattle.ct_explain.proofs.wait.wait_of.Goals as goal

pub returns-then-not-is_next : goal.returns-then-not-is_next
returns-then-not-is_next c front told allowed =
    let small : c.args.plan.now.repeat.times < 2 ^ 32 = rw c.parts.ensures.is at c.hand_out_times.ensures in
    let short : c.args.attempt < 2 ^ 32 = omega arith in
    let late : (c.args.attempt == next_attempt (course_at c.args.audit.now.courses c.args.test.now.number).ended) ≡ false = search rules in
    let one : c.saturating_sub.result ≡ c.args.attempt - 1 = search rules in
    ap Attempt one ∙ waits_attempt c.args.plan.now small front c.args.audit.now told c.args.test.now c.args.attempt c.args.worker (option_copied c.args.placement) short late

pub returns-in-Some : goal.returns-in-Some
returns-in-Some c front told allowed =
    let small : c.args.plan.now.repeat.times < 2 ^ 32 = rw c.parts.ensures.is at c.hand_out_times.ensures in
    let short : c.args.attempt < 2 ^ 32 = omega arith in
    let next : (c.args.attempt == next_attempt (course_at c.args.audit.now.courses c.args.test.now.number).ended) ≡ true = search rules in
    waits_predecessor c.args.plan.now small front c.args.audit.now told c.args.test.now c.args.attempt c.args.worker (option_copied c.args.placement) c.in-Some.number short next (sym c.unfinished.ensures ∙ c.in-Some.is)

pub returns : goal.returns
returns c front told allowed =
    let small : c.args.plan.now.repeat.times < 2 ^ 32 = rw c.parts.ensures.is at c.hand_out_times.ensures in
    let short : c.args.attempt < 2 ^ 32 = omega arith in
    let next : (c.args.attempt == next_attempt (course_at c.args.audit.now.courses c.args.test.now.number).ended) ≡ true = search rules in
    let none : c.unfinished.result ≡ None = search rules in
    let rest = waits_beside_starts c.args.plan.now small front c.args.audit.now told c.args.test.now c.args.attempt c.args.worker (option_copied c.args.placement) short next (sym c.unfinished.ensures ∙ none) in
    let few = says_few c.args.plan.now small front c.args.audit.now told allowed in
    let starts : c.open_starts.result.now ≡ c.args.audit.now.running.items = c.open_starts.ensures in
    let room = c.wait_for_room.ensures (subst (λ (xs : List OpenStart). processors_used c.args.plan.now.tests (runs xs) ≤ c.args.plan.now.level) (sym starts) few) in
    subst (λ (w : Wait). IfOk c.wait_for_room.result (λ wait. wait ≡ w)) rest
    (subst (λ (xs : List OpenStart). IfOk c.wait_for_room.result (λ wait. wait ≡ first_wait (waits_beside c.args.plan.now (runs xs) c.args.test.now c.args.worker (option_copied c.args.placement)))) starts room)
