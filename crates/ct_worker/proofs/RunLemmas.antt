-- At each start of a program what its worker had seen of the history allows it.
use Rattle.std.proofs.Common.{◌≡◌, sym, subst, ℕ, ◌+◌, true, List, [], ◌∷◌, ◌++◌, length, take, refl}
use Rattle.std.specs.Prelude.{Option, Some, None, IsSomeAnd, is_none, ◌&&◌, ◌==◌}
use Rattle.std.proofs.lemmas.Bool.{and_from, and_parts}
use Rattle.atomic_table.specs.Seated.{TableId}
use Rattle.ct_base.specs.Outside.{Becomes}
use Rattle.ct_history.specs.declared.plan.PlanParts.{PlanParts}
use Rattle.ct_history.specs.declared.plan.PlanTest.{PlanTest}
use Rattle.ct_history.specs.declared.history.Entry.{Entry}
use Rattle.ct_history.specs.History.{Running, open_start_of_worker, open_starts}
use Rattle.ct_history.specs.Legal.{IsWithin, are_allowed_behind, is_allowed, is_allowed_so_far, is_legal}
use Rattle.ct_history.specs.Rules.{first_unpassed, follows_finals, is_ready}
use Rattle.ct_history.proofs.LegalLemmas.{legal_allowed}
use Rattle.ct_history.proofs.ProgressLemmas.{found_contains}
use Rattle.ct_history.proofs.WithinLemmas.{stays_within}
use Rattle.ct_core.proofs.BegunLemmas.{open_is_ready}
use Rattle.ct_core.proofs.OpenStartLemmas.{held_open}
use Rattle.ct_core.specs.Gate.{GateTell}
use Rattle.ct_turn.specs.Pass.{PassValue}
use Rattle.ct_turn.proofs.CallerLemmas.{holds_own}
use Rattle.ct_worker.specs.Lent.{AllRunWithin, AreLent, AreLentEach, IsLent, IsLentEach, Lends, LendsWithin, RunsEachWithin, RunsWithin}
use Rattle.ct_worker.proofs.LentLemmas.{each-then}
use Rattle.ct_worker.proofs.PartLemmas.{front_of}

-- the beginning of an allowed history is allowed
allowed_front : (plan : PlanParts) (front xs ys : List Entry) → are_allowed_behind plan front (xs ++ ys) ≡ true → are_allowed_behind plan front xs ≡ true
allowed_front plan front [] ys allowed = refl
allowed_front plan front (x ∷ xs) ys allowed =
    let both = and_parts (is_allowed plan front x) (are_allowed_behind plan (front ++ x ∷ []) (xs ++ ys)) allowed in
    and_from (is_allowed plan front x) (are_allowed_behind plan (front ++ x ∷ []) xs) both.0 (allowed_front plan (front ++ x ∷ []) xs ys both.1)

no_value : (o : Option ℕ) → is_none o ≡ true → o ≡ None
no_value None is = refl
no_value (Some n) is = cc

module _ (plan : PlanParts) (history : List Entry) (legal : is_legal plan history ≡ true) where
  module _ (seen behind : List Entry) (goes_on : history ≡ seen ++ behind) where
    allowed : is_allowed_so_far plan seen ≡ true
    allowed = allowed_front plan [] seen behind (subst (λ (es : List Entry). is_allowed_so_far plan es ≡ true) goes_on (legal_allowed plan history legal))

    -- a start that is open in what was seen
    module _ (w : ℕ) (run : Running) (holds : open_start_of_worker w seen ≡ Some run) where
      ready_test : (t : PlanTest) → is_ready plan t seen ≡ true → (follows_finals plan t seen ≡ true) × (first_unpassed plan t seen ≡ None)
      ready_test t ready =
          let most = and_parts (follows_finals plan t seen && is_none (first_unpassed plan t seen)) (is_none t.fixed) ready in
          let both = and_parts (follows_finals plan t seen) (is_none (first_unpassed plan t seen)) most.0 in
          (both.0, no_value (first_unpassed plan t seen) both.1)

      runs_within : RunsWithin plan run seen
      runs_within =
          let own = holds_own w run seen holds in
          let held = held_open plan seen run.test run.attempt run.worker allowed own.1 in
          record {
            started = found_contains (λ (r : Running). r.worker == w) (open_starts seen) run holds;
            within = subst (λ (es : List Entry). IsWithin plan es) (front_of (length seen) seen behind refl)
                (subst (λ (es : List Entry). IsWithin plan (take (length seen) es)) goes_on (stays_within plan history (legal_allowed plan history legal) (length seen)));
            ready = subst (λ (o : Option PlanTest). IsSomeAnd o (λ t. (follows_finals plan t seen ≡ true) × (first_unpassed plan t seen ≡ None))) (sym held.found)
                (ready_test held.test (open_is_ready plan seen allowed run.test held.test held.found held.start held.opens));
          }

  lent_within : (turn : TableId) (w : ℕ) (run : Running) (pass : PassValue) → IsLent turn plan w history run pass → RunsWithin plan run pass.known.seen.entries
  lent_within turn w run pass lent = runs_within pass.known.seen.entries lent.behind lent.goes_on pass.known.worker run lent.holds

  lends_within : (turn : TableId) (w : ℕ) (runs : List Running) (old new : Option (List PassValue)) → Becomes old new (Lends turn plan w history runs) → Becomes old new (LendsWithin plan runs)
  lends_within turn w runs None new lends = tt
  lends_within turn w runs (Some before) None lends = absurd lends
  lends_within turn w runs (Some before) (Some now) lends = record {
    passes = lends.passes;
    are = each-then (IsLent turn plan w history) (λ run (pass : PassValue). RunsWithin plan run pass.known.seen.entries) (lent_within turn w) runs lends.passes lends.are;
    added = lends.added;
  }

  each_within : (turn : TableId) (w : ℕ) (before now : GateTell) → IsLentEach turn plan w before now history → RunsEachWithin plan before now
  each_within turn w before now lent = record {
    runs = lent.runs;
    asked = lent.asked;
    within = lends_within turn w lent.runs before.lent now.lent lent.lent;
  }

  all_within : (turn : TableId) (w : ℕ) (befores nows : List GateTell) → AreLentEach turn plan w befores nows history → AllRunWithin plan befores nows
  all_within turn w [] [] lent = tt
  all_within turn w [] (now ∷ nows) lent = absurd lent
  all_within turn w (before ∷ befores) [] lent = absurd lent
  all_within turn w (before ∷ befores) (now ∷ nows) lent = (each_within turn w before now lent.0, all_within turn (w + 1) befores nows lent.1)

-- where the passes of a run were lent, each program ran within the plan
pub lent_runs_within : (plan : PlanParts) (befores nows : List GateTell) (history : List Entry) → is_legal plan history ≡ true → AreLent plan befores nows history → AllRunWithin plan befores nows
lent_runs_within plan befores nows history legal lent = all_within plan history legal lent.turn 0 befores nows lent.each
