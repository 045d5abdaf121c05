-- The tickets that a run holds stay those of the open starts, whatever the core appends.
use Rattle.std.proofs.Common.{◌≡◌, ◌∙◌, sym, ap, subst, refl, Bool, true, false, ℕ, ◌<◌, List, [], ◌∷◌, ◌++◌, length, get_or, inl, inr, arith}
use Rattle.std.specs.Prelude.{Option, Some, None, filter, map, not, ◌==◌, ◌||◌, cond, if◌then◌else◌}
use Rattle.std.specs.List.{list_any, remove}
use Rattle.std.proofs.lemmas.Bool.{cases_Bool, true≢false, or_parts, or_from, eqb-true}
use Rattle.std.proofs.lemmas.Bool.Decides.{nat_tests}
use Rattle.std.proofs.lemmas.List.{append-nil, map-append}
use Rattle.std.proofs.lemmas.List.Folds.{list_any-append}
use Rattle.ct_verdict.specs.declared.attempt.Seen.{Seen}
use Rattle.ct_history.specs.declared.plan.PlanParts.{PlanParts}
use Rattle.ct_history.specs.declared.plan.PlanTest.{PlanTest}
use Rattle.ct_history.specs.declared.history.Entry.{Entry}
use Rattle.ct_history.specs.declared.history.Entry.TheVariants.{Settle, Stop}
use Rattle.ct_history.specs.Plan.{test_at}
use Rattle.ct_history.specs.History.{Running, is_busy_in, is_open_in, open_starts}
use Rattle.ct_history.specs.Legal.{is_stop_due}
use Rattle.ct_history.specs.Rules.{CanStart, may_start_at}
use Rattle.ct_history.proofs.MayLemmas.{may_start-parts, pending-parts}
use Rattle.ct_history.proofs.OpenLemmas.{is_of, open_starts-end, open_starts-snoc, opens_stop, filter_none}
use Rattle.ct_history.proofs.PlanLemmas.{find_passes}
use Rattle.ct_history.proofs.BoolLemmas.{flipped}
use Rattle.ct_core.specs.declared.ticket.Ticket.{Ticket}
use Rattle.ct_core.specs.Core.{SettlesLeast, StartsFirst, with_due_stop, with_final}
use Rattle.ct_core.specs.CoreValue.{CoreValue}
use Rattle.ct_core.specs.Ticket.{end_of, start_of, worker_of}
use Rattle.measure.specs.Held.{HaveDistinctTests, AreTicketsOf, is_held_by, start_of_ticket}

apart-snoc : (rs : List Running) (r : Running) → HaveDistinctTests rs → list_any (λ (q : Running). q.test == r.test) rs ≡ false → HaveDistinctTests (rs ++ r ∷ [])
apart-snoc [] r all none = (refl, tt)
apart-snoc (x ∷ xs) r all none =
    let both = or_parts (x.test == r.test) (list_any (λ (q : Running). q.test == r.test) xs) none in (
      list_any-append (λ (q : Running). q.test == x.test) xs (r ∷ []) ∙ or_from _ _ all.0 (or_from (r.test == x.test) false (flipped x.test r.test both.0) refl),
      apart-snoc xs r all.1 both.1,
    )

-- the End of the first of these starts leaves the others
first_ends : (r : Running) (rs : List Running) → list_any (λ (q : Running). q.test == r.test) rs ≡ false → filter (λ q. not (is_of r.test r.attempt q)) (r ∷ rs) ≡ rs
first_ends r rs none =
    let same : is_of r.test r.attempt r ≡ true = grind (arith, nat_tests) in
    ap (λ (b : Bool). cond (not b) (r ∷ filter (λ q. not (is_of r.test r.attempt q)) rs) (filter (λ q. not (is_of r.test r.attempt q)) rs)) same
    ∙ filter_none r.test r.attempt rs none

-- a test that may start is not open
closed_before : (plan : PlanParts) (es : List Entry) (n : ℕ) (can : CanStart plan es n) (o : Option PlanTest) → test_at plan.tests n ≡ o → is_open_in n es ≡ false
closed_before plan es n can None is = absurd (true≢false (sym can.may ∙ ap (λ (o : Option PlanTest). may_start_at plan es can.placement o) is))
closed_before plan es n can (Some t) is =
    let may = sym (ap (λ (o : Option PlanTest). may_start_at plan es can.placement o) is) ∙ can.may in
    let closed = (pending-parts plan t es (may_start-parts plan t can.placement es may).pending).closed in
    subst (λ (k : ℕ). is_open_in k es ≡ false) (eqb-true t.number n (find_passes (λ (x : PlanTest). x.number == n) plan.tests t is)) closed

due_opens_none : (plan : PlanParts) (es : List Entry) → open_starts (with_due_stop plan es) ≡ open_starts es
due_opens_none plan es = by (is_stop_due plan es)
  where
    by : (b : Bool) → open_starts (if b then es ++ Stop ∷ [] else es) ≡ open_starts es
    by true = opens_stop es
    by false = refl

-- at first, nothing is open and no ticket is held
pub held_none : AreTicketsOf [] []
held_none = record { starts = refl; apart = tt }

-- the ticket of a start is held behind the others
pub held_start : (old : CoreValue) (worker : ℕ) (ticket : Ticket) (new : CoreValue) (tickets : List Ticket) → AreTicketsOf old.entries tickets → StartsFirst old worker ticket new → AreTicketsOf new.entries (tickets ++ ticket ∷ [])
held_start old worker ticket new tickets held starts =
    let can : CanStart old.plan old.entries ticket.test = record { placement = ticket.placement; may = starts.first.may } in
    let closed = closed_before old.plan old.entries ticket.test can (test_at old.plan.tests ticket.test) refl in
    let none = subst (λ (rs : List Running). list_any (λ (q : Running). q.test == ticket.test) rs ≡ false) held.starts closed in
    let more = sym (map-append start_of_ticket tickets (ticket ∷ [])) in
    subst (λ (c : CoreValue). AreTicketsOf c.entries (tickets ++ ticket ∷ [])) (sym starts.appended)
    (record {
      starts = open_starts-snoc old.entries (start_of ticket) refl ∙ ap (λ (rs : List Running). rs ++ start_of_ticket ticket ∷ []) held.starts ∙ more;
      apart = subst HaveDistinctTests more (apart-snoc (map start_of_ticket tickets) (start_of_ticket ticket) held.apart none);
    })

-- a test that is settled changes no ticket
pub held_settle : (old : CoreValue) (test : ℕ) (new : CoreValue) (tickets : List Ticket) → AreTicketsOf old.entries tickets → SettlesLeast old test new → AreTicketsOf new.entries tickets
held_settle old test new tickets held settles =
    subst (λ (c : CoreValue). AreTicketsOf c.entries tickets) (sym settles.appended)
    (record {
      starts = due_opens_none old.plan (old.entries ++ Settle test settles.cause ∷ [])
          ∙ open_starts-snoc old.entries (Settle test settles.cause) refl
          ∙ append-nil (open_starts old.entries)
          ∙ held.starts;
      apart = held.apart;
    })

-- the end of the oldest ticket leaves the others held
held_end : (core : CoreValue) (ticket : Ticket) (rest : List Ticket) (seen : Seen) (new : CoreValue) → AreTicketsOf core.entries (ticket ∷ rest) → new ≡ with_final core (end_of ticket seen) → AreTicketsOf new.entries rest
held_end core ticket rest seen new held ends =
    subst (λ (c : CoreValue). AreTicketsOf c.entries rest) (sym ends)
    (record {
      starts = due_opens_none core.plan (core.entries ++ end_of ticket seen ∷ [])
          ∙ open_starts-end core.entries ticket.test ticket.attempt ticket.worker seen
          ∙ ap (λ (rs : List Running). filter (λ q. not (is_of ticket.test ticket.attempt q)) rs) held.starts
          ∙ first_ends (start_of_ticket ticket) (map start_of_ticket rest) held.apart.0;
      apart = held.apart.1;
    })

any_worker : (worker : ℕ) (tickets : List Ticket) → list_any (λ (r : Running). r.worker == worker) (map start_of_ticket tickets) ≡ is_held_by worker tickets
any_worker worker [] = refl
any_worker worker (t ∷ ts) = ap (λ (b : Bool). worker_of t == worker || b) (any_worker worker ts)

-- a worker that holds no ticket has no open start
pub free_worker : (es : List Entry) (tickets : List Ticket) (worker : ℕ) → AreTicketsOf es tickets → is_held_by worker tickets ≡ false → is_busy_in worker es ≡ false
free_worker es tickets worker held free = ap (λ (rs : List Running). list_any (λ (r : Running). r.worker == worker) rs) held.starts ∙ any_worker worker tickets ∙ free

-- the end of the ticket that was taken from the front leaves the others held
pub oldest_ends : (core : CoreValue) (tickets : List Ticket) (ticket : Ticket) (rest : List Ticket) (seen : Seen) (new : CoreValue) → AreTicketsOf core.entries tickets → 0 < length tickets → ticket ≡ get_or tickets 0 ticket → rest ≡ remove tickets 0 → new ≡ with_final core (end_of ticket seen) → AreTicketsOf new.entries rest
oldest_ends core [] ticket rest seen new held some front behind ends = absurd (omega (arith, some))
oldest_ends core (t ∷ ts) ticket rest seen new held some front behind ends =
    let same : ticket ≡ t = front in
    let ended = subst (λ (x : Ticket). new ≡ with_final core (end_of x seen)) same ends in
    subst (λ (xs : List Ticket). AreTicketsOf new.entries xs) (sym behind) (held_end core t ts seen new held ended)
