-- The numbers that the code makes are the queue of the tests.
use Rattle.std.proofs.Common.{ℕ, ◌≡◌, true, false, ◌==◌, List, map, All, Option, Some, subst}
use Rattle.std.specs.Prelude.{IsPermutation}
use Rattle.std.specs.List.Sorted.{IsSortedBy}
use Rattle.std.proofs.lemmas.List.Sorted.{IsPermutation-map, IsPermutation-sym, IsPermutation-refl}
use Rattle.ct_history.specs.declared.plan.PlanTest.{PlanTest}
use Rattle.ct_history.specs.Plan.{IsAscendingFrom, enabled}
use Rattle.ct_plan.specs.declared.standing.Standing.{Standing}
use Rattle.ct_plan.specs.Queue.{IsQueue, is_more_urgent}
use Rattle.ct_plan.proofs.UrgencyLemmas.{IsKnown, IsOwn, numbered_pairs, stand_numbers, urgent_pairs}

module _ (level : ℕ) (standing : ℕ → Option Standing) (own : IsOwn standing) (tests : List PlanTest) where
  -- the numbers of the tests that are not disabled
  abbrev pub queued : List ℕ
  queued = map (λ (t : PlanTest). t.number) (enabled tests)

  -- where one test runs at a time, the numbers stay in order
  pub queue_single : (level == 1) ≡ true → IsAscendingFrom 1 queued → All (IsKnown standing) queued → IsQueue level standing tests queued
  queue_single single up known = record {
    all = IsPermutation-refl queued;
    order = numbered_pairs standing own level single queued up known;
  }

  -- where several tests run at once, the numbers are sorted by urgency
  pub queue_several : (level == 1) ≡ false → IsAscendingFrom 1 queued → (xs ys : List Standing) → map Some xs ≡ map standing queued → IsPermutation xs ys → IsSortedBy is_more_urgent ys → IsQueue level standing tests (map (λ (y : Standing). y.number) ys)
  queue_several several up xs ys made same sorted = record {
    all = subst (IsPermutation (map (λ (y : Standing). y.number) ys)) (stand_numbers standing own xs queued made)
        (IsPermutation-map (λ (y : Standing). y.number) ys xs (IsPermutation-sym xs ys same));
    order = urgent_pairs standing own level several queued xs ys up made same sorted;
  }
