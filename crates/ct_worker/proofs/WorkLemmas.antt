-- What the gate of a worker was asked, event by event.
use Rattle.std.proofs.Common.{◌≡◌, ◌∙◌, sym, ap, subst, false, ℕ, List, [], ◌∷◌, ◌++◌, refl, inl, inr, append_assoc}
use Rattle.std.specs.Prelude.{◌⊎◌, Bool, None, is_some}
use Rattle.std.specs.List.{list_any}
use Rattle.std.proofs.lemmas.List.{append-nil}
use Rattle.ct_verdict.specs.declared.attempt.Seen.{Seen}
use Rattle.ct_history.specs.declared.plan.PlanParts.{PlanParts}
use Rattle.ct_history.specs.declared.history.Entry.{Entry}
use Rattle.ct_history.specs.declared.history.Entry.TheVariants as Is
use Rattle.ct_core.specs.declared.scheduler.Next.{Next}
use Rattle.ct_core.specs.declared.scheduler.Next.TheVariants as Nexts
use Rattle.ct_core.specs.declared.ticket.Ticket.{Ticket}
use Rattle.ct_core.specs.Gate.{GateTell}
use Rattle.ct_core.specs.Ticket.{end_of, run_of, start_of}
use Rattle.ct_turn.specs.Pass.{PassValue}
use Rattle.ct_turn.specs.Seen.{HistoryGoesOn, has_seen, held_start, is_by}
use Rattle.ct_worker.specs.Attempt.{RunsAttempt}
use Rattle.ct_worker.specs.Gates.{IsAsked, Terms}
use Rattle.ct_worker.specs.Lent.{IsLent, IsLentEach}
use Rattle.ct_worker.specs.Work.{AsksSince, EndsAndAsks, EndsOwn, GoesAlong, IsUnderWay, SeesNext, Starts, Stays}
use Rattle.ct_worker.proofs.GateLemmas.{asked_attempt, asked_none, asked_others, asked_then}
use Rattle.ct_worker.proofs.LentLemmas.{lent_attempt, lent_more, lent_none, lent_then}
use Rattle.ct_worker.proofs.StopLemmas.{due_keeps}

-- while only other workers went on, the gate was not asked
asks_none : (terms : Terms) (w : ℕ) (tell : GateTell) (before now : List Entry) → HistoryGoesOn w before now → AsksSince terms w tell tell before now
asks_none terms w tell before now goes = record {
  more = goes.more;
  is = goes.is;
  asked = asked_others terms w tell tell [] goes.more goes.others (asked_none terms w tell);
}

-- entries that are not the worker's may follow
asks_more : (terms : Terms) (w : ℕ) (old new : GateTell) (before now : List Entry) (more : List Entry) → list_any (is_by w) more ≡ false → AsksSince terms w old new before now → AsksSince terms w old new before (now ++ more)
asks_more terms w old new before now more none asks = record {
  more = asks.more ++ more;
  is = ap (λ (es : List Entry). es ++ more) asks.is ∙ append_assoc before asks.more more;
  asked = asked_others terms w old new asks.more more none asks.asked;
}

asks_then : (terms : Terms) (w : ℕ) (first second third : GateTell) (a b c : List Entry) → AsksSince terms w first second a b → AsksSince terms w second third b c → AsksSince terms w first third a c
asks_then terms w first second third a b c one other = record {
  more = one.more ++ other.more;
  is = other.is ∙ ap (λ (es : List Entry). es ++ other.more) one.is ∙ append_assoc a one.more other.more;
  asked = asked_then terms w first second third one.more other.more one.asked other.asked;
}

-- at an answer without a ticket only other workers went on
pub settled_stays : (next : Next) (old new : PassValue) → SeesNext next old new → (((test : ℕ) × (next ≡ Nexts.Settled test)) ⊎ (next ≡ Nexts.NoMemory)) → Stays old new
settled_stays next old new follows (inl (test, is)) = subst (λ (n : Next). SeesNext n old new) is follows
settled_stays next old new follows (inr is) = subst (λ (n : Next). SeesNext n old new) is follows

pub done_stays : (next : Next) (old new : PassValue) → SeesNext next old new → ((next ≡ Nexts.Done) ⊎ (next ≡ Nexts.Aborted)) → Stays old new
done_stays next old new follows (inl is) = (subst (λ (n : Next). SeesNext n old new) is follows).0
done_stays next old new follows (inr is) = (subst (λ (n : Next). SeesNext n old new) is follows).0

-- the worker did nothing on its gate, and only other workers went on
pub along_stays : (terms : Terms) (old new : PassValue) (tell : GateTell) → new ≡ record old { known = has_seen old.known new.known.seen } → Stays old new → GoesAlong terms old new tell tell
along_stays terms old new tell pass stays = record {
  pass = pass;
  idle = stays.1;
  asked = asks_none terms old.known.worker tell old.known.seen.entries new.known.seen.entries stays.0;
  lent = lent_none old.turn old.known.plan old.known.worker tell new.known.seen.entries;
}

-- at first the worker's gate was asked nothing
pub along_none : (terms : Terms) (pass : PassValue) (tell : GateTell) → held_start pass.known ≡ None → GoesAlong terms pass pass tell tell
along_none terms pass tell idle = record {
  pass = refl;
  idle = idle;
  asked = record { more = []; is = sym (append-nil pass.known.seen.entries); asked = asked_none terms pass.known.worker tell };
  lent = lent_none pass.turn pass.known.plan pass.known.worker tell pass.known.seen.entries;
}

pub along_then : (terms : Terms) (a b c : PassValue) (first second third : GateTell) → GoesAlong terms a b first second → GoesAlong terms b c second third → GoesAlong terms a c first third
along_then terms a b c first second third one other =
    let worker : b.known.worker ≡ a.known.worker = ap (λ (p : PassValue). p.known.worker) one.pass in
    let far : IsLentEach a.turn a.known.plan a.known.worker first second c.known.seen.entries = subst (λ (es : List Entry). IsLentEach a.turn a.known.plan a.known.worker first second es) (sym other.asked.is)
    (lent_more a.turn a.known.plan a.known.worker first second b.known.seen.entries other.asked.more one.lent) in
    let near : IsLentEach a.turn a.known.plan a.known.worker second third c.known.seen.entries = subst (λ (p : PassValue). IsLentEach p.turn p.known.plan p.known.worker second third c.known.seen.entries) one.pass other.lent in
    record {
      pass = other.pass ∙ ap (λ (p : PassValue). record p { known = has_seen p.known c.known.seen }) one.pass;
      idle = other.idle;
      asked = asks_then terms a.known.worker first second third a.known.seen.entries b.known.seen.entries c.known.seen.entries one.asked (subst (λ (w : ℕ). AsksSince terms w second third b.known.seen.entries c.known.seen.entries) worker other.asked);
      lent = lent_then a.turn a.known.plan a.known.worker first second third c.known.seen.entries far near;
    }

-- an attempt was started, run on the gate, and ended
module _ (terms : Terms) (a b c : PassValue) (ticket : Ticket) (seen : Seen) (old new : GateTell) (pass : b ≡ record a { known = has_seen a.known b.known.seen }) (starts : Starts ticket a b) (runs : RunsAttempt terms b (run_of ticket) seen old new) (ends : EndsOwn b ticket seen c) where
  abbrev w : ℕ
  w = a.known.worker

  same_worker : b.known.worker ≡ w
  same_worker = ap (λ (p : PassValue). p.known.worker) pass

  behind : HistoryGoesOn w b.known.seen.entries ends.others
  behind = subst (λ (v : ℕ). HistoryGoesOn v b.known.seen.entries ends.others) same_worker ends.went_on

  attempt_asked : IsAsked terms w old new (starts.went_on.more ++ (start_of ticket ∷ (behind.more ++ end_of ticket seen ∷ [])))
  attempt_asked =
      subst (λ (v : ℕ). IsAsked terms w old new (starts.went_on.more ++ (Is.Start ticket.test ticket.attempt v ticket.placement ∷ (behind.more ++ Is.End ticket.test ticket.attempt v seen ∷ [])))) (sym starts.by)
      (asked_attempt terms b w old old new starts.went_on.more behind.more ticket.test ticket.attempt ticket.placement seen behind.others
      (asked_others terms w old old [] starts.went_on.more starts.went_on.others (asked_none terms w old))
      (subst (λ (v : ℕ). RunsAttempt terms b (record { test = ticket.test; attempt = ticket.attempt; worker = v; placement = ticket.placement }) seen old new) starts.by runs))

  entries_are : ends.others ++ end_of ticket seen ∷ [] ≡ a.known.seen.entries ++ (starts.went_on.more ++ (start_of ticket ∷ (behind.more ++ end_of ticket seen ∷ [])))
  entries_are =
      ap (λ (es : List Entry). es ++ end_of ticket seen ∷ []) (behind.is ∙ ap (λ (es : List Entry). es ++ behind.more) (starts.started ∙ ap (λ (es : List Entry). es ++ start_of ticket ∷ []) starts.went_on.is))
      ∙ append_assoc ((a.known.seen.entries ++ starts.went_on.more) ++ start_of ticket ∷ []) behind.more (end_of ticket seen ∷ [])
      ∙ append_assoc (a.known.seen.entries ++ starts.went_on.more) (start_of ticket ∷ []) (behind.more ++ end_of ticket seen ∷ [])
      ∙ append_assoc a.known.seen.entries starts.went_on.more (start_of ticket ∷ (behind.more ++ end_of ticket seen ∷ []))

  asks_attempt : AsksSince terms w old new a.known.seen.entries (ends.others ++ end_of ticket seen ∷ [])
  asks_attempt = record { more = starts.went_on.more ++ (start_of ticket ∷ (behind.more ++ end_of ticket seen ∷ [])); is = entries_are; asked = attempt_asked }

  -- the pass that was lent for the attempt had seen its start, and has seen its end since
  is_lent : IsLent a.turn a.known.plan w (ends.others ++ end_of ticket seen ∷ []) (run_of ticket) b
  is_lent = record {
    belongs = ap (λ (p : PassValue). p.turn) pass;
    planned = ap (λ (p : PassValue). p.known.plan) pass;
    by = same_worker;
    holds = starts.holds;
    behind = behind.more ++ end_of ticket seen ∷ [];
    goes_on = ap (λ (es : List Entry). es ++ end_of ticket seen ∷ []) behind.is ∙ append_assoc b.known.seen.entries behind.more (end_of ticket seen ∷ []);
  }

  lends_attempt : IsLentEach a.turn a.known.plan w old new (ends.others ++ end_of ticket seen ∷ [])
  lends_attempt = lent_attempt a.turn a.known.plan w terms b (run_of ticket) seen old new (ends.others ++ end_of ticket seen ∷ []) is_lent runs

  pub along_attempt : GoesAlong terms a c old new
  along_attempt = record {
    pass = ends.pass ∙ ap (λ (p : PassValue). record p { known = has_seen p.known c.known.seen }) pass;
    idle = ends.idle;
    asked = subst (λ (es : List Entry). AsksSince terms w old new a.known.seen.entries es) (sym ends.ended)
        (due_keeps b.known.plan (ends.others ++ end_of ticket seen ∷ []) (λ xs. AsksSince terms w old new a.known.seen.entries xs) asks_attempt
        (asks_more terms w old new a.known.seen.entries (ends.others ++ end_of ticket seen ∷ []) (Is.Stop ∷ []) refl asks_attempt));
    lent = subst (λ (es : List Entry). IsLentEach a.turn a.known.plan w old new es) (sym ends.ended)
        (due_keeps b.known.plan (ends.others ++ end_of ticket seen ∷ []) (λ xs. IsLentEach a.turn a.known.plan w old new xs) lends_attempt
        (lent_more a.turn a.known.plan w old new (ends.others ++ end_of ticket seen ∷ []) (Is.Stop ∷ []) lends_attempt));
  }

-- after an answer without a ticket, the worker's gate was asked for all that the worker started
pub along_then_stays : (terms : Terms) (old now : PassValue) (first second : GateTell) (next : Next) (way : IsUnderWay terms old now first second next) → Stays way.before now → GoesAlong terms old now first second
along_then_stays terms old now first second next way stays =
    along_then terms old way.before now first second second way.along (along_stays terms way.before now second way.asked.pass stays)

-- the plan of a pass stays
pub way_plan : (terms : Terms) (old now : PassValue) (first second : GateTell) (next : Next) → IsUnderWay terms old now first second next → now.known.plan ≡ old.known.plan
way_plan terms old now first second next way = ap (λ (p : PassValue). p.known.plan) way.asked.pass ∙ ap (λ (p : PassValue). p.known.plan) way.along.pass

-- whether a run lends resources is told by its plan, which stays
pub way_lends : (terms : Terms) (old now : PassValue) (first second : GateTell) (next : Next) (lends : Bool) → IsUnderWay terms old now first second next → lends ≡ is_some now.known.plan.resources → lends ≡ is_some old.known.plan.resources
way_lends terms old now first second next lends way is = is ∙ ap (λ (p : PlanParts). is_some p.resources) (way_plan terms old now first second next way)

-- an attempt was run and ended, and the worker asked what is next
pub way_attempt : (terms : Terms) (old now new : PassValue) (first second third : GateTell) (next then : Next) (ticket : Ticket) (seen : Seen) → (way : IsUnderWay terms old now first second next) → Starts ticket way.before now → RunsAttempt terms now (run_of ticket) seen second third → EndsAndAsks now ticket seen then new → IsUnderWay terms old new first third then
way_attempt terms old now new first second third next then ticket seen way starts runs ends = record {
  before = ends.middle;
  along = along_then terms old way.before ends.middle first second third way.along (along_attempt terms way.before now ends.middle ticket seen second third way.asked.pass starts runs ends.ended);
  asked = ends.asked;
}
