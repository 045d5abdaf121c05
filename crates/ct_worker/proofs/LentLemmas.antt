-- The passes that a gate was lent, attempt by attempt.
use Rattle.std.proofs.Common.{◌∙◌, sym, ap, subst, ℕ, ◌+◌, List, [], ◌∷◌, ◌++◌, append_assoc, inl, inr}
use Rattle.std.specs.Prelude.{◌⊎◌, Option, Some, None, map}
use Rattle.std.proofs.lemmas.List.{map-append}
use Rattle.atomic_table.specs.Seated.{TableId}
use Rattle.ct_base.specs.Outside.{Adds, Becomes}
use Rattle.ct_verdict.specs.declared.attempt.Seen.{Seen}
use Rattle.ct_history.specs.declared.plan.PlanParts.{PlanParts}
use Rattle.ct_history.specs.declared.history.Entry.{Entry}
use Rattle.ct_history.specs.History.{Running}
use Rattle.ct_core.specs.declared.gate.Asked.{Asked}
use Rattle.ct_core.specs.Gate.{GateTell}
use Rattle.ct_turn.specs.Pass.{PassValue}
use Rattle.ct_report.proofs.PutLemmas.{adds_none, adds_then_adds}
use Rattle.ct_worker.specs.Attempt.{AsksNone, AsksOnce, RunsAttempt}
use Rattle.ct_worker.specs.Gates.{Terms, asked_run}
use Rattle.ct_worker.specs.Lent.{AreLent, AreLentEach, IsLent, IsLentEach, Lends}
use Rattle.ct_worker.specs.Listener.{AreEach}

-- what each pair has, each pair has by what follows from it
pub each-then : {A B : Type 0} (P Q : A → B → Type 0) → ((x : A) (y : B) → P x y → Q x y) → (xs : List A) (ys : List B) → AreEach P xs ys → AreEach Q xs ys
each-then P Q then [] [] each = tt
each-then P Q then [] (y ∷ ys) each = absurd each
each-then P Q then (x ∷ xs) [] each = absurd each
each-then P Q then (x ∷ xs) (y ∷ ys) each = (then x y each.0, each-then P Q then xs ys each.1)

each-append : {A B : Type 0} (P : A → B → Type 0) (xs more : List A) (ys others : List B) → AreEach P xs ys → AreEach P more others → AreEach P (xs ++ more) (ys ++ others)
each-append P [] more [] others each rest = rest
each-append P [] more (y ∷ ys) others each rest = absurd each
each-append P (x ∷ xs) more [] others each rest = absurd each
each-append P (x ∷ xs) more (y ∷ ys) others each rest = (each.0, each-append P xs more ys others each.1 rest)

module _ (turn : TableId) (plan : PlanParts) (w : ℕ) where
  -- a history may go on
  lent_pass_more : (history more : List Entry) (run : Running) (pass : PassValue) → IsLent turn plan w history run pass → IsLent turn plan w (history ++ more) run pass
  lent_pass_more history more run pass lent = record {
    belongs = lent.belongs;
    planned = lent.planned;
    by = lent.by;
    holds = lent.holds;
    behind = lent.behind ++ more;
    goes_on = ap (λ (es : List Entry). es ++ more) lent.goes_on ∙ append_assoc pass.known.seen.entries lent.behind more;
  }

  lends_more : (history more : List Entry) (runs : List Running) (old new : Option (List PassValue)) → Becomes old new (Lends turn plan w history runs) → Becomes old new (Lends turn plan w (history ++ more) runs)
  lends_more history more runs None new lends = tt
  lends_more history more runs (Some before) None lends = absurd lends
  lends_more history more runs (Some before) (Some now) lends = record {
    passes = lends.passes;
    are = each-then (IsLent turn plan w history) (IsLent turn plan w (history ++ more)) (lent_pass_more history more) runs lends.passes lends.are;
    added = lends.added;
  }

  lends_then : (history : List Entry) (runs more : List Running) (start old new : Option (List PassValue)) → Becomes start old (Lends turn plan w history runs) → Becomes old new (Lends turn plan w history more) → Becomes start new (Lends turn plan w history (runs ++ more))
  lends_then history runs more None old new first second = tt
  lends_then history runs more (Some before) None new first second = absurd first
  lends_then history runs more (Some before) (Some between) None first second = absurd second
  lends_then history runs more (Some before) (Some between) (Some now) first second = record {
    passes = first.passes ++ second.passes;
    are = each-append (IsLent turn plan w history) runs more first.passes second.passes first.are second.are;
    added = second.added ∙ ap (λ (ps : List PassValue). ps ++ second.passes) first.added ∙ append_assoc before first.passes second.passes;
  }

  lends_these : (history : List Entry) (runs : List Running) (passes : List PassValue) (old new : Option (List PassValue)) → AreEach (IsLent turn plan w history) runs passes → Becomes old new (Adds passes) → Becomes old new (Lends turn plan w history runs)
  lends_these history runs passes None new are adds = tt
  lends_these history runs passes (Some before) None are adds = absurd adds
  lends_these history runs passes (Some before) (Some now) are adds = record { passes = passes; are = are; added = adds }

  -- a gate that was not asked was lent nothing
  pub lent_none : (tell : GateTell) (history : List Entry) → IsLentEach turn plan w tell tell history
  lent_none tell history = record {
    runs = [];
    asked = adds_none tell.asked;
    lent = lends_these history [] [] tell.lent tell.lent tt (adds_none tell.lent);
  }

  pub lent_more : (old new : GateTell) (history more : List Entry) → IsLentEach turn plan w old new history → IsLentEach turn plan w old new (history ++ more)
  lent_more old new history more was = record {
    runs = was.runs;
    asked = was.asked;
    lent = lends_more history more was.runs old.lent new.lent was.lent;
  }

  pub lent_then : (first second third : GateTell) (history : List Entry) → IsLentEach turn plan w first second history → IsLentEach turn plan w second third history → IsLentEach turn plan w first third history
  lent_then first second third history one other = record {
    runs = one.runs ++ other.runs;
    asked = asked_both;
    lent = lends_then history one.runs other.runs first.lent second.lent third.lent one.lent other.lent;
  }
    where
      asked_both : Becomes first.asked third.asked (Adds (map asked_run (one.runs ++ other.runs)))
      asked_both = subst (λ (xs : List Asked). Becomes first.asked third.asked (Adds xs)) (sym (map-append asked_run one.runs other.runs))
          (adds_then_adds first.asked second.asked third.asked (map asked_run one.runs) (map asked_run other.runs) one.asked other.asked)

  -- a gate was asked for one attempt, unless memory was wanting for it
  pub lent_attempt : (terms : Terms) (pass : PassValue) (run : Running) (seen : Seen) (old new : GateTell) (history : List Entry) → IsLent turn plan w history run pass → RunsAttempt terms pass run seen old new → IsLentEach turn plan w old new history
  lent_attempt terms pass run seen old new history lent ran = by_calls ran.calls
    where
      by_calls : (AsksOnce terms pass run seen.how old new ⊎ AsksNone seen.how old new) → IsLentEach turn plan w old new history
      by_calls (inl once) = record {
        runs = run ∷ [];
        asked = once.asked;
        lent = lends_these history (run ∷ []) (pass ∷ []) old.lent new.lent (lent, tt) once.lent;
      }
      by_calls (inr none) = record {
        runs = [];
        asked = none.asked;
        lent = lends_these history [] [] old.lent new.lent tt none.lent;
      }

-- gates that were not asked were lent nothing
pub none_lent : (turn : TableId) (plan : PlanParts) (w : ℕ) (tells : List GateTell) (history : List Entry) → AreLentEach turn plan w tells tells history
none_lent turn plan w [] history = tt
none_lent turn plan w (tell ∷ tells) history = (lent_none turn plan w tell history, none_lent turn plan (w + 1) tells history)

-- the turn of a run in which nothing was lent may be any
any_turn : TableId
any_turn = record { words = 0; slots = 0; views_name = 0; atom = 0; block = 0; offset = 0; slot_names = [] }

-- where no gate was asked, nothing was lent
pub nothing_lent : (plan : PlanParts) (tells : List GateTell) (history : List Entry) → AreLent plan tells tells history
nothing_lent plan tells history = record { turn = any_turn; each = none_lent any_turn plan 0 tells history }
