-- What an event of a worker, between its take and its give, makes of the run.
use Rattle.std.proofs.Common.{◌≡◌, ◌∙◌, sym, ap, subst, true, false, Bool, ℕ, List, [], ◌∷◌, ◌++◌, refl, append_assoc}
use Rattle.std.specs.Prelude.{Option, Some, None, IsSome, IsSomeAnd, is_some, ◌&&◌}
use Rattle.std.specs.Option.{option_or}
use Rattle.std.specs.List.{list_all, list_any}
use Rattle.std.proofs.lemmas.List.{append-nil}
use Rattle.std.proofs.lemmas.List.Folds.{list_all-append, list_any-append}
use Rattle.std.proofs.lemmas.Bool.{or_from, eq-eqb}
use Rattle.ct_verdict.specs.declared.attempt.Seen.{Seen}
use Rattle.ct_alloc.specs.declared.placement.Placement.{Placement}
use Rattle.ct_history.specs.declared.plan.PlanTest.{PlanTest}
use Rattle.ct_history.specs.declared.plan.PlanParts.{PlanParts}
use Rattle.ct_history.specs.declared.history.Entry.{Entry}
use Rattle.ct_history.specs.declared.history.Entry.TheVariants as Is
use Rattle.ct_history.specs.History.{is_busy_in, open_start_of_worker}
use Rattle.ct_history.specs.Legal.{is_legal}
use Rattle.ct_history.specs.Plan.{test_at}
use Rattle.ct_history.specs.Rules.{may_start_at}
use Rattle.ct_history.specs.Verdicts.{are_all_final}
use Rattle.ct_history.proofs.OpenLemmas.{open_starts-end, open_starts-snoc}
use Rattle.ct_core.specs.declared.scheduler.Next.{Next}
use Rattle.ct_core.specs.declared.scheduler.Next.TheVariants as Nexts
use Rattle.ct_core.specs.declared.ticket.Ticket.{Ticket}
use Rattle.ct_core.specs.Core.{SettlesLeast, StartsFirst, with_due_stop}
use Rattle.ct_core.specs.CoreValue.{CoreValue}
use Rattle.ct_core.specs.Gate.{is_no_memory}
use Rattle.ct_core.specs.Ticket.{end_of, holds_ticket, run_of, start_of, test_of}
use Rattle.ct_turn.specs.declared.view.Known.{Known}
use Rattle.ct_turn.specs.declared.view.Moment.{Moment}
use Rattle.ct_turn.specs.Pass.{PassValue, idle_pass}
use Rattle.ct_turn.specs.Seen.{AddsOwn, Continues, HistoryGoesOn, Sight, Suits, has_seen, held_start, is_by, is_own, moment}
use Rattle.ct_turn.proofs.CallerLemmas.{adds_none, adds_one, end_holds_none, holds_own, not_busy, settle_stays, start_holds, adds_due}
use Rattle.ct_turn.proofs.StartLemmas.{start_stays}
use Rattle.ct_worker.specs.declared.state.Halt.{Halt}
use Rattle.ct_worker.specs.declared.state.Halt.TheVariants.{Memory}
use Rattle.ct_worker.specs.State.{EndsSo, IsFinished, IsStateNext, StateValue, base_of, core_of}
use Rattle.ct_worker.specs.Work.{AsksNext, EndsOwn, SeesNext, Stays}
use Rattle.ct_worker.proofs.StopLemmas.{due_keeps}

-- what the worker that has the turn sees of a state
abbrev pub sight_of : StateValue → Sight
sight_of s = record { plan = s.plan; base = base_of s; now = moment s.entries (is_some s.halt) }

-- one step of a state: the plan and the base stay, the history stays
-- legal and grows by the worker's own entries, and a halt stays
pub record IsStep (worker : ℕ) (old new : StateValue) : Type 0 where
  pub plan : new.plan ≡ old.plan
  pub base : base_of new ≡ base_of old
  pub legal : is_legal old.plan new.entries ≡ true
  pub own : AddsOwn worker old.entries new.entries
  pub halted : is_some old.halt ≡ true → is_some new.halt ≡ true

-- two steps, one after the other, are a step
pub step_then : (w : ℕ) (a b c : StateValue) → IsStep w a b → IsStep w b c → IsStep w a c
step_then w a b c one other = record {
  plan = other.plan ∙ one.plan;
  base = other.base ∙ one.base;
  legal = subst (λ (p : PlanParts). is_legal p c.entries ≡ true) one.plan other.legal;
  own = record {
    more = one.own.more ++ other.own.more;
    is = other.own.is ∙ ap (λ (es : List Entry). es ++ other.own.more) one.own.is ∙ append_assoc a.entries one.own.more other.own.more;
    own = list_all-append (is_own w) one.own.more other.own.more ∙ ap (λ (b : Bool). b && list_all (is_own w) other.own.more) one.own.own ∙ other.own.own;
  };
  halted = λ halt. other.halted (one.halted halt);
}

-- entries that are not the worker's, behind a history, leave what the worker has seen of it
goes_more : (w : ℕ) (seen now more : List Entry) → HistoryGoesOn w seen now → list_any (is_by w) more ≡ false → HistoryGoesOn w seen (now ++ more)
goes_more w seen now more goes none = record {
  more = goes.more ++ more;
  is = ap (λ (es : List Entry). es ++ more) goes.is ∙ append_assoc seen goes.more more;
  others = list_any-append (is_by w) goes.more more ∙ or_from _ _ goes.others none;
}

goes_due : (w : ℕ) (plan : PlanParts) (seen es : List Entry) (e : Entry) → is_by w e ≡ false → HistoryGoesOn w seen es → HistoryGoesOn w seen (with_due_stop plan (es ++ e ∷ []))
goes_due w plan seen es e none goes =
    let one = goes_more w seen es (e ∷ []) goes (or_from (is_by w e) false none refl) in
    due_keeps plan (es ++ e ∷ []) (λ xs. HistoryGoesOn w seen xs) one (goes_more w seen (es ++ e ∷ []) (Is.Stop ∷ []) one refl)

planned_at : (plan : PlanParts) (es : List Entry) (p : Option Placement) (o : Option PlanTest) → may_start_at plan es p o ≡ true → IsSome o
planned_at plan es p None may = cc
planned_at plan es p (Some t) may = refl

-- a step leaves the plan
pub plan_stays : (w : ℕ) (next : Next) (old new : StateValue) → IsStateNext old w next new → new.plan ≡ old.plan
plan_stays w (Nexts.Start ticket) old new of = ap (λ (s : StateValue). s.plan) of.follows
plan_stays w (Nexts.Settled test) old new of = ap (λ (s : StateValue). s.plan) of.follows.is
plan_stays w Nexts.Wait old new of = ap (λ (s : StateValue). s.plan) of.follows
plan_stays w Nexts.Done old new of = ap (λ (s : StateValue). s.plan) of.follows
plan_stays w Nexts.Aborted old new of = ap (λ (s : StateValue). s.plan) of.follows
plan_stays w Nexts.NoMemory old new of = ap (λ (s : StateValue). s.plan) of.follows

-- the case that the turn was taken by a worker that holds no start
module _ (w : ℕ) (known : Known) (old : StateValue) (is_worker : known.worker ≡ w) (suits : Suits known (sight_of old)) (idle : held_start known ≡ None) where
  none_open : open_start_of_worker w old.entries ≡ None
  none_open = subst (λ (v : ℕ). open_start_of_worker v old.entries ≡ None) is_worker (suits.start ∙ idle)

  pub free : is_busy_in w old.entries ≡ false
  free = not_busy w old.entries none_open

  goes : HistoryGoesOn w known.seen.entries old.entries
  goes = subst (λ (v : ℕ). HistoryGoesOn v known.seen.entries old.entries) is_worker suits.history

  module _ (new : StateValue) (legal : is_legal new.plan new.entries ≡ true) where
    module _ (ticket : Ticket) (core : CoreValue) (step : StartsFirst (core_of old) w ticket core) where
      started : core.entries ≡ old.entries ++ start_of ticket ∷ []
      started = ap (λ (c : CoreValue). c.entries) step.appended

      start_own : AddsOwn w old.entries core.entries
      start_own = subst (λ (es : List Entry). AddsOwn w old.entries es) (sym started) (adds_one w old.entries (start_of ticket) (eq-eqb ticket.worker w step.by))

      start_held : open_start_of_worker w core.entries ≡ Some (run_of ticket)
      start_held =
          subst (λ (v : ℕ). open_start_of_worker v core.entries ≡ Some (run_of ticket)) step.by
          (ap (λ (es : List Entry). open_start_of_worker ticket.worker es) started ∙ start_holds old.entries (run_of ticket) (subst (λ (v : ℕ). open_start_of_worker v old.entries ≡ None) (sym step.by) none_open))

    module _ (test : ℕ) (core : CoreValue) (step : SettlesLeast (core_of old) test core) where
      settled : core.entries ≡ with_due_stop old.plan (old.entries ++ Is.Settle test step.cause ∷ [])
      settled = ap (λ (c : CoreValue). c.entries) step.appended

      settle_own : AddsOwn w old.entries core.entries
      settle_own = subst (λ (es : List Entry). AddsOwn w old.entries es) (sym settled) (adds_due w old.plan old.entries (Is.Settle test step.cause) refl)

      settle_goes : HistoryGoesOn w known.seen.entries core.entries
      settle_goes = subst (λ (es : List Entry). HistoryGoesOn w known.seen.entries es) (sym settled) (goes_due w old.plan known.seen.entries old.entries (Is.Settle test step.cause) refl goes)

    legal_still : (next : Next) → IsStateNext old w next new → is_legal old.plan new.entries ≡ true
    legal_still next of = subst (λ (p : PlanParts). is_legal p new.entries ≡ true) (plan_stays w next old new of) legal

    -- the case that the state stays the same
    still : new ≡ old → is_legal old.plan new.entries ≡ true → IsStep w old new
    still same legal_now = record {
      plan = ap (λ (s : StateValue). s.plan) same;
      base = ap base_of same;
      legal = legal_now;
      own = subst (λ (s : StateValue). AddsOwn w old.entries s.entries) (sym same) (adds_none w old.entries);
      halted = λ halt. ap (λ (s : StateValue). is_some s.halt) same ∙ halt;
    }

    pub next_step : (next : Next) → IsStateNext old w next new → IsStep w old new
    next_step (Nexts.Start ticket) of = record {
      plan = ap (λ (s : StateValue). s.plan) of.follows;
      base = ap base_of of.follows;
      legal = legal_still (Nexts.Start ticket) of;
      own = subst (λ (s : StateValue). AddsOwn w old.entries s.entries) (sym of.follows) (start_own ticket of.core of.step);
      halted = λ halt. ap (λ (s : StateValue). is_some s.halt) of.follows ∙ halt;
    }
    next_step (Nexts.Settled test) of = record {
      plan = ap (λ (s : StateValue). s.plan) of.follows.is;
      base = ap base_of of.follows.is;
      legal = legal_still (Nexts.Settled test) of;
      own = subst (λ (s : StateValue). AddsOwn w old.entries s.entries) (sym of.follows.is) (settle_own test of.core of.step);
      halted = λ halt. absurd (let no : true ≡ false = sym halt ∙ of.step.goes_on in cc);
    }
    next_step Nexts.Wait of = still of.follows (legal_still Nexts.Wait of)
    next_step Nexts.Done of = still of.follows (legal_still Nexts.Done of)
    next_step Nexts.Aborted of = still of.follows (legal_still Nexts.Aborted of)
    next_step Nexts.NoMemory of = record {
      plan = ap (λ (s : StateValue). s.plan) of.follows;
      base = ap base_of of.follows;
      legal = legal_still Nexts.NoMemory of;
      own = subst (λ (s : StateValue). AddsOwn w old.entries s.entries) (sym of.follows) (adds_none w old.entries);
      halted = λ halt. ap (λ (s : StateValue). is_some s.halt) of.follows ∙ first_is old.halt;
    }
      where
        first_is : (o : Option Halt) → is_some (option_or o (Some Memory)) ≡ true
        first_is None = refl
        first_is (Some h) = refl

    -- what the worker has seen after the step
    module _ (pass : PassValue) (of_pass : pass.known ≡ known) (idle_before : pass.taken ≡ None) (after : PassValue) (gave : after ≡ idle_pass pass.turn (has_seen known (moment new.entries (is_some new.halt)))) where
      known_after : after.known ≡ has_seen known (moment new.entries (is_some new.halt))
      known_after = ap (λ (p : PassValue). p.known) gave

      seen_after : after.known.seen.entries ≡ new.entries
      seen_after = ap (λ (k : Known). k.seen.entries) known_after

      pass_after : after ≡ record pass { known = has_seen pass.known after.known.seen }
      pass_after =
          gave
          ∙ ap (λ (k : Known). idle_pass pass.turn (has_seen k (moment new.entries (is_some new.halt)))) (sym of_pass)
          ∙ ap (λ (m : Moment). idle_pass pass.turn (has_seen pass.known m)) (sym (ap (λ (k : Known). k.seen) known_after))
          ∙ ap (λ (o : Option Moment). record { turn = pass.turn; known = has_seen pass.known after.known.seen; taken = o }) (sym idle_before)

      stays : HistoryGoesOn w known.seen.entries new.entries → is_legal old.plan new.entries ≡ true → Stays pass after
      stays goes_on is_so = (
        subst (λ (k : Known). HistoryGoesOn k.worker k.seen.entries after.known.seen.entries) (sym of_pass)
            (subst (λ (es : List Entry). HistoryGoesOn known.worker known.seen.entries es) (sym seen_after) (subst (λ (v : ℕ). HistoryGoesOn v known.seen.entries new.entries) (sym is_worker) goes_on)),
        ap held_start known_after ∙ ap (λ (v : ℕ). open_start_of_worker v new.entries) is_worker ∙ start_stays old.plan w known.seen.entries new.entries is_so goes_on ∙ ap (λ (v : ℕ). open_start_of_worker v known.seen.entries) (sym is_worker) ∙ idle,
      )

      stays_same : new.entries ≡ old.entries → is_legal old.plan new.entries ≡ true → Stays pass after
      stays_same same is_so = stays (subst (λ (es : List Entry). HistoryGoesOn w known.seen.entries es) (sym same) goes) is_so

      begins_with : (next : Next) → IsStateNext old w next new → SeesNext next pass after
      begins_with (Nexts.Start ticket) of =
          let entries : new.entries ≡ of.core.entries = ap (λ (s : StateValue). s.entries) of.follows in
          record {
            others = old.entries;
            went_on = subst (λ (k : Known). HistoryGoesOn k.worker k.seen.entries old.entries) (sym of_pass) suits.history;
            started = seen_after ∙ entries ∙ started ticket of.core of.step;
            by = of.step.by ∙ sym is_worker ∙ ap (λ (k : Known). k.worker) (sym of_pass);
            holds = ap held_start known_after ∙ ap (λ (v : ℕ). open_start_of_worker v new.entries) is_worker ∙ ap (λ (es : List Entry). open_start_of_worker w es) entries ∙ start_held ticket of.core of.step;
            planned = subst (λ (p : PlanParts). IsSome (test_at p.tests (test_of ticket))) (suits.plan ∙ ap (λ (k : Known). k.plan) (sym of_pass)) (planned_at old.plan old.entries ticket.placement (test_at old.plan.tests ticket.test) of.step.first.may);
          }
      begins_with (Nexts.Settled test) of =
          let entries : new.entries ≡ of.core.entries = ap (λ (s : StateValue). s.entries) of.follows.is in
          stays (subst (λ (es : List Entry). HistoryGoesOn w known.seen.entries es) (sym entries) (settle_goes test of.core of.step)) (legal_still (Nexts.Settled test) of)
      begins_with Nexts.Wait of = stays_same (ap (λ (s : StateValue). s.entries) of.follows) (legal_still Nexts.Wait of)
      begins_with Nexts.Done of =
          let entries : new.entries ≡ old.entries = ap (λ (s : StateValue). s.entries) of.follows in (
            stays_same entries (legal_still Nexts.Done of),
            ap (λ (k : Known). are_all_final k.plan after.known.seen.entries) of_pass ∙ ap (λ (p : PlanParts). are_all_final p after.known.seen.entries) (sym suits.plan)
                ∙ ap (λ (es : List Entry). are_all_final old.plan es) (seen_after ∙ entries) ∙ of.step.final,
          )
      begins_with Nexts.Aborted of = (
        stays_same (ap (λ (s : StateValue). s.entries) of.follows) (legal_still Nexts.Aborted of),
        ap (λ (k : Known). k.seen.halted) known_after ∙ ap (λ (s : StateValue). is_some s.halt) of.follows ∙ of.step.0,
      )
      begins_with Nexts.NoMemory of = stays_same (ap (λ (s : StateValue). s.entries) of.follows) (legal_still Nexts.NoMemory of)

      pub begins : (next : Next) → IsStateNext old w next new → AsksNext pass next after
      begins next of = record { pass = pass_after; follows = begins_with next of }

-- after a step the turn may be given back
pub continues : (known : Known) (old new : StateValue) → Suits known (sight_of old) → IsStep known.worker old new → Continues known (moment old.entries (is_some old.halt)) (sight_of new)
continues known old new suits step = record {
  plan = step.plan ∙ suits.plan;
  base = step.base ∙ suits.base;
  legal = subst (λ (p : PlanParts). is_legal p new.entries ≡ true) suits.plan step.legal;
  history = step.own;
  halted = step.halted;
}

pub may_give : (pass took : PassValue) (old new : StateValue) → took ≡ record pass { taken = Some (moment old.entries (is_some old.halt)) } → Suits pass.known (sight_of old) → IsStep pass.known.worker old new → IsSomeAnd took.taken (λ taken. Continues took.known taken (sight_of new))
may_give pass took old new is suits step = subst (λ (p : PassValue). IsSomeAnd p.taken (λ taken. Continues p.known taken (sight_of new))) (sym is) (continues pass.known old new suits step)

pub gave_back : (pass took after : PassValue) (taken now : Moment) → took ≡ record pass { taken = Some taken } → after ≡ idle_pass took.turn (has_seen took.known now) → after ≡ idle_pass pass.turn (has_seen pass.known now)
gave_back pass took after taken now is gave = gave ∙ ap (λ (p : PassValue). idle_pass p.turn (has_seen p.known now)) is

-- the case that the turn was taken by a worker that holds the start of a ticket
module _ (known : Known) (old : StateValue) (suits : Suits known (sight_of old)) (ticket : Ticket) (holds : held_start known ≡ Some (run_of ticket)) (seen : Seen) where
  end_legal : is_legal old.plan old.entries ≡ true
  end_legal = subst (λ (p : PlanParts). is_legal p old.entries ≡ true) (sym suits.plan) suits.legal

  held : open_start_of_worker known.worker old.entries ≡ Some (run_of ticket)
  held = suits.start ∙ holds

  pub may_finish : holds_ticket ticket old.entries ≡ true
  may_finish = (holds_own known.worker (run_of ticket) old.entries held).1

  own_ticket : ticket.worker ≡ known.worker
  own_ticket = (holds_own known.worker (run_of ticket) old.entries held).0

  module _ (new : StateValue) (finished : IsFinished old ticket seen new) (legal_now : is_legal new.plan new.entries ≡ true) where
    record Finished : Type 0 where
      plan : new.plan ≡ old.plan
      base : base_of new ≡ base_of old
      entries : new.entries ≡ with_due_stop old.plan (old.entries ++ end_of ticket seen ∷ [])
      halted : is_some old.halt ≡ true → is_some new.halt ≡ true

    finishes : (o : Option Halt) (b : Bool) → o ≡ old.halt → EndsSo o b (test_of ticket) (with_due_stop old.plan (old.entries ++ end_of ticket seen ∷ [])) old new → Finished
    finishes (Some h) b is ends = record {
      plan = ap (λ (s : StateValue). s.plan) ends;
      base = ap base_of ends;
      entries = ap (λ (s : StateValue). s.entries) ends;
      halted = λ halt. ap (λ (s : StateValue). is_some s.halt) ends ∙ halt;
    }
    finishes None true is ends = record {
      plan = ap (λ (s : StateValue). s.plan) ends;
      base = ap base_of ends;
      entries = ap (λ (s : StateValue). s.entries) ends;
      halted = λ halt. ap (λ (s : StateValue). is_some s.halt) ends;
    }
    finishes None false is ends = record {
      plan = ap (λ (s : StateValue). s.plan) ends.is;
      base = ap base_of ends.is;
      entries = ap (λ (s : StateValue). s.entries) ends.is;
      halted = λ halt. absurd (let no : true ≡ false = sym halt ∙ ap is_some (sym is) in cc);
    }

    done : Finished
    done = finishes old.halt (is_no_memory seen.how) refl finished

    pub end_step : IsStep known.worker old new
    end_step = record {
      plan = done.plan;
      base = done.base;
      legal = subst (λ (p : PlanParts). is_legal p new.entries ≡ true) done.plan legal_now;
      own = subst (λ (es : List Entry). AddsOwn known.worker old.entries es) (sym done.entries) (adds_due known.worker old.plan old.entries (end_of ticket seen) (eq-eqb ticket.worker known.worker own_ticket));
      halted = done.halted;
    }

    ends_open : open_start_of_worker known.worker (with_due_stop old.plan (old.entries ++ end_of ticket seen ∷ [])) ≡ None
    ends_open =
        let es = old.entries ++ end_of ticket seen ∷ [] in
        let none = end_holds_none old.plan known.worker (run_of ticket) old.entries end_legal held (end_of ticket seen) (open_starts-end old.entries ticket.test ticket.attempt ticket.worker seen) in
        due_keeps old.plan es (λ xs. open_start_of_worker known.worker xs ≡ None) none (settle_stays known.worker es Is.Stop (open_starts-snoc es Is.Stop refl) ∙ none)

    pub ends : (pass : PassValue) → pass.known ≡ known → pass.taken ≡ None → (after : PassValue) → after ≡ idle_pass pass.turn (has_seen known (moment new.entries (is_some new.halt))) → EndsOwn pass ticket seen after
    ends pass of_pass idle after gave =
        let known_now : after.known ≡ has_seen known (moment new.entries (is_some new.halt)) = ap (λ (p : PassValue). p.known) gave in
        record {
          pass = gave
              ∙ ap (λ (k : Known). idle_pass pass.turn (has_seen k (moment new.entries (is_some new.halt)))) (sym of_pass)
              ∙ ap (λ (m : Moment). idle_pass pass.turn (has_seen pass.known m)) (sym (ap (λ (k : Known). k.seen) known_now))
              ∙ ap (λ (o : Option Moment). record { turn = pass.turn; known = has_seen pass.known after.known.seen; taken = o }) (sym idle);
          others = old.entries;
          went_on = subst (λ (k : Known). HistoryGoesOn k.worker k.seen.entries old.entries) (sym of_pass) suits.history;
          ended = ap (λ (k : Known). k.seen.entries) known_now ∙ done.entries ∙ ap (λ (p : PlanParts). with_due_stop p (old.entries ++ end_of ticket seen ∷ [])) (suits.plan ∙ ap (λ (k : Known). k.plan) (sym of_pass));
          idle = ap held_start known_now ∙ ap (λ (es : List Entry). open_start_of_worker known.worker es) done.entries ∙ ends_open;
        }

    -- the worker has seen its End, and the state fits what the worker then knows
    abbrev pub known_after_end : Known
    known_after_end = has_seen known (moment new.entries (is_some new.halt))

    pub suits_after : Suits known_after_end (sight_of new)
    suits_after = record {
      plan = done.plan ∙ suits.plan;
      base = done.base ∙ suits.base;
      legal = subst (λ (p : PlanParts). is_legal p new.entries ≡ true) suits.plan end_step.legal;
      history = record { more = []; is = sym (append-nil new.entries); others = refl };
      halted = λ halt. halt;
      start = refl;
    }

    pub idle_after : held_start known_after_end ≡ None
    idle_after = ap (λ (es : List Entry). open_start_of_worker known.worker es) done.entries ∙ ends_open
