-- What the core's calls do to the start that a worker holds.
use Rattle.std.proofs.Common.{◌≡◌, ◌∙◌, sym, ap, subst, refl, Bool, true, ℕ, List, [], ◌∷◌, ◌++◌, inl, inr, arith}
use Rattle.std.specs.Prelude.{Some, None, if◌then◌else◌}
use Rattle.std.proofs.lemmas.Bool.{cases_Bool}
use Rattle.std.proofs.lemmas.Bool.Decides.{nat_tests}
use Rattle.ct_verdict.specs.declared.attempt.Seen.{Seen}
use Rattle.ct_history.specs.declared.plan.PlanParts.{PlanParts}
use Rattle.ct_history.specs.declared.history.Entry.{Entry}
use Rattle.ct_history.specs.declared.history.Entry.TheVariants.{Settle, Stop}
use Rattle.ct_history.specs.Legal.{is_legal, is_stop_due}
use Rattle.ct_history.proofs.OpenLemmas.{open_starts-end, open_starts-snoc}
use Rattle.ct_core.specs.declared.ticket.Ticket.{Ticket}
use Rattle.ct_core.specs.declared.scheduler.Next.{Next}
use Rattle.ct_core.specs.declared.scheduler.Next.TheVariants.{Start, Settled, Wait, Done, Aborted, NoMemory}
use Rattle.ct_core.specs.Core.{IsNext, no_base, with_due_stop, with_entry, with_final}
use Rattle.ct_core.specs.CoreValue.{CoreValue}
use Rattle.ct_core.specs.Ticket.{end_of, start_of}
use Rattle.ct_turn.specs.declared.view.Known.{Known}
use Rattle.ct_turn.specs.Seen.{AddsOwn, Continues, is_own, moment}
use Rattle.ct_turn.proofs.CallerLemmas.{adds_none, adds_one, end_holds_none, settle_stays, start_holds, adds_due}
use Rattle.tests_turn.specs.Held.{held_behind, open_start_of_ticket}
use Rattle.ct_history.specs.History.{open_start_of_worker}

-- what one call of a worker does to the core
pub record Works (worker : ℕ) (old new : CoreValue) : Type 0 where
  pub plan : new.plan ≡ old.plan
  pub history : AddsOwn worker old.entries new.entries
  pub halted : new.aborted ≡ old.aborted

final_holds : (w : ℕ) (plan : PlanParts) (es : List Entry) → open_start_of_worker w (with_due_stop plan es) ≡ open_start_of_worker w es
final_holds w plan es = elim (cases_Bool (is_stop_due plan es)) [
  | inl due ↦ ap (λ (b : Bool). open_start_of_worker w (if b then es ++ Stop ∷ [] else es)) due ∙ settle_stays w es Stop (open_starts-snoc es Stop refl)
  | inr none ↦ ap (λ (b : Bool). open_start_of_worker w (if b then es ++ Stop ∷ [] else es)) none
]

entry_works : (w : ℕ) (old new : CoreValue) (e : Entry) → is_own w e ≡ true → new ≡ with_entry old e → Works w old new
entry_works w old new e own is = subst (λ (c : CoreValue). Works w old c) (sym is) (record { plan = refl; history = adds_one w old.entries e own; halted = refl })

final_works : (w : ℕ) (old new : CoreValue) (e : Entry) → is_own w e ≡ true → new ≡ with_final old e → Works w old new
final_works w old new e own is = subst (λ (c : CoreValue). Works w old c) (sym is) (record { plan = refl; history = adds_due w old.plan old.entries e own; halted = refl })

kept_works : (w : ℕ) (old new : CoreValue) → new ≡ old → Works w old new
kept_works w old new is = subst (λ (c : CoreValue). Works w old c) (sym is) (record { plan = refl; history = adds_none w old.entries; halted = refl })

-- each answer of `next` adds own entries alone
pub next_works : (old : CoreValue) (w : ℕ) (next : Next) (new : CoreValue) → IsNext old w next new → Works w old new
next_works old w (Start ticket) new is = entry_works w old new (start_of ticket) (let by = is.by in grind (arith, nat_tests, by)) is.appended
next_works old w (Settled test) new is = final_works w old new (Settle test is.cause) refl is.appended
next_works old w Wait new is = kept_works w old new is.kept
next_works old w Done new is = kept_works w old new is.kept
next_works old w Aborted new is = kept_works w old new is.1
next_works old w NoMemory new is = kept_works w old new is.kept

-- behind an answer of `next` its worker holds the start that it was given, if it was given one
pub next_holds : (old : CoreValue) (w : ℕ) (next : Next) (new : CoreValue) → IsNext old w next new → open_start_of_worker w old.entries ≡ None → open_start_of_worker w new.entries ≡ held_behind next
next_holds old w (Start ticket) new is none =
    ap (λ (c : CoreValue). open_start_of_worker w c.entries) is.appended
    ∙ subst (λ (v : ℕ). open_start_of_worker v old.entries ≡ None → open_start_of_worker v (old.entries ++ start_of ticket ∷ []) ≡ Some (open_start_of_ticket ticket)) is.by (λ free. start_holds old.entries (open_start_of_ticket ticket) free) none
next_holds old w (Settled test) new is none =
    ap (λ (c : CoreValue). open_start_of_worker w c.entries) is.appended ∙ final_holds w old.plan (old.entries ++ Settle test is.cause ∷ [])
    ∙ settle_stays w old.entries (Settle test is.cause) (open_starts-snoc old.entries (Settle test is.cause) refl) ∙ none
next_holds old w Wait new is none = ap (λ (c : CoreValue). open_start_of_worker w c.entries) is.kept ∙ none
next_holds old w Done new is none = ap (λ (c : CoreValue). open_start_of_worker w c.entries) is.kept ∙ none
next_holds old w Aborted new is none = ap (λ (c : CoreValue). open_start_of_worker w c.entries) is.1 ∙ none
next_holds old w NoMemory new is none = ap (λ (c : CoreValue). open_start_of_worker w c.entries) is.kept ∙ none

-- the end of a held ticket adds own entries alone
pub end_works : (old new : CoreValue) (w : ℕ) (ticket : Ticket) (seen : Seen) → ticket.worker ≡ w → new ≡ with_final old (end_of ticket seen) → Works w old new
end_works old new w ticket seen by is = final_works w old new (end_of ticket seen) (grind (arith, nat_tests, by)) is

-- behind the end of a held ticket its worker holds no start
pub end_frees : (old new : CoreValue) (w : ℕ) (ticket : Ticket) (seen : Seen) → is_legal old.plan old.entries ≡ true → open_start_of_worker w old.entries ≡ Some (open_start_of_ticket ticket) → new ≡ with_final old (end_of ticket seen) → open_start_of_worker w new.entries ≡ None
end_frees old new w ticket seen legal held is =
    ap (λ (c : CoreValue). open_start_of_worker w c.entries) is ∙ final_holds w old.plan (old.entries ++ end_of ticket seen ∷ [])
    ∙ end_holds_none old.plan w (open_start_of_ticket ticket) old.entries legal held (end_of ticket seen) (open_starts-end old.entries ticket.test ticket.attempt ticket.worker seen)

-- a core that comes back after one call goes on from the one that was taken
pub continues : (known : Known) (w : ℕ) (old new : CoreValue) → known.worker ≡ w → old.plan ≡ known.plan → no_base ≡ known.base → Works w old new → is_legal new.plan new.entries ≡ true
    → Continues known (moment old.entries old.aborted) (record { plan = new.plan; base = no_base; now = moment new.entries new.aborted })
continues known w old new by plan base works legal = record {
  plan = works.plan ∙ plan;
  base = base;
  legal = subst (λ (p : PlanParts). is_legal p new.entries ≡ true) (works.plan ∙ plan) legal;
  history = subst (λ (v : ℕ). AddsOwn v old.entries new.entries) (sym by) works.history;
  halted = λ was. works.halted ∙ was;
}
