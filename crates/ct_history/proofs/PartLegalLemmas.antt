-- The part of a legal history is legal for its tree's plan, where the whole plan does not stop on failure.
use Rattle.std.proofs.Common.{◌≡◌, ◌∙◌, sym, ap, subst, Bool, true, false, ℕ, ◌+◌, ◌-◌, ◌≤◌, List, [], ◌∷◌, ◌++◌, refl, arith}
use Rattle.std.specs.Prelude.{Option, Some, None, option_map, not, is_some, is_none, ◌&&◌, ◌||◌, ◌==◌, filter_map, length, nat_le, sum_by, if◌then◌else◌}
use Rattle.std.specs.List.{list_all, list_any, cons_option}
use Rattle.std.proofs.lemmas.Bool.{and_from, and_parts, le-leb, leb-true, not-true}
use Rattle.std.proofs.lemmas.Bool.Decides.{nat_tests}
use Rattle.std.proofs.lemmas.List.{append-nil}
use Rattle.std.proofs.lemmas.List.Elements.{filter_map-append}
use Rattle.std.proofs.lemmas.List.Folds.{list_all-map}
use Rattle.ct_base.specs.declared.defs.Need.{Need}
use Rattle.ct_base.specs.declared.defs.Resource.{Resource}
use Rattle.ct_alloc.specs.declared.placement.Pick.{Pick}
use Rattle.ct_alloc.specs.declared.placement.Placement.{Placement}
use Rattle.ct_alloc.specs.Placement.{fits_beside, fits_from, is_placement, slots_at}
use Rattle.ct_verdict.specs.declared.repeat.Repeat.{Repeat}
use Rattle.ct_verdict.specs.declared.verdict.Cause.{Cause}
use Rattle.ct_verdict.specs.declared.verdict.Cause.TheVariants.{Unstarted, Lacks, Fixture, NotAvailable, BadOperation, Insufficient, Stopped, Memory}
use Rattle.ct_verdict.specs.declared.verdict.Verdict.{Verdict}
use Rattle.ct_history.specs.declared.plan.PlanTest.{PlanTest}
use Rattle.ct_history.specs.declared.plan.PlanParts.{PlanParts}
use Rattle.ct_history.specs.declared.history.Entry.{Entry}
use Rattle.ct_history.specs.declared.history.Entry.TheVariants.{Start, End, Settle, Stop}
use Rattle.ct_history.specs.Plan.{IsSound, has_sound_links, is_before_rank, is_fixed_cause, test_at}
use Rattle.ct_history.specs.History.{Running, has_stop, holds_start, is_busy_in, is_open_in, is_stop, open_starts, placed_slots, processors_of, used_processors, used_slots}
use Rattle.ct_history.specs.Verdicts.{is_final_in, is_passed_verdict, verdict_of_test}
use Rattle.ct_history.specs.Rules.{cause_behind, exclude, first_unpassed, follows_finals, has_processors, has_room, is_excluded, is_pending, is_placed, is_ready, may_start, settle_cause}
use Rattle.ct_history.specs.Legal.{IsComplete, are_allowed_behind, ends_in_first_failure, is_allowed, is_legal, is_next_attempt, is_stop_due, same_cause, settles, starts}
use Rattle.ct_history.specs.Parts.{IsPartOfPlan, cause_back, entry_of_part, is_in_tree, part_of, renumbered, without_stop}
use Rattle.ct_history.proofs.LegalLemmas.{legal_allowed, legal_from, same_cause_refl, stop-snoc}
use Rattle.ct_history.proofs.MayLemmas.{may_start-parts, no_cause}
use Rattle.ct_history.proofs.PlanLemmas.{find_passes}
use Rattle.ct_history.proofs.PartLemmas.{attempts-part, back_there, busy_less, final-part, found_in, holds-part, some_back, open-part, open_starts-part, part_goes_on, passed_back, running_of_part, test_at-part, tests_in, there_back, verdict_of_test-part}
use Rattle.ct_history.proofs.PartListLemmas.{all_kept, all_where, among_all, any_less, count_some, find-map, find_where, is_some_and, sum_less}
use Rattle.ct_history.proofs.ProgressLemmas.{all_found}

-- what fits beside used slots fits where fewer are used
fits_less : (k : ℕ) (rs : List Resource) (used less : ℕ → ℕ) (picks : List Pick) → ((place : ℕ) → less place ≤ used place) → fits_from k rs used picks ≡ true → fits_from k rs less picks ≡ true
fits_less k [] used less picks le fits = refl
fits_less k (r ∷ rs) used less picks le fits =
    let both = and_parts (nat_le (used k + slots_at k picks) r.slots) (fits_from (k + 1) rs used picks) fits in
    let most = leb-true (used k + slots_at k picks) r.slots both.0 in
    let here : less k + slots_at k picks ≤ r.slots = omega (arith, le k, most) in
    and_from (nat_le (less k + slots_at k picks) r.slots) (fits_from (k + 1) rs less picks) (le-leb _ _ here) (fits_less (k + 1) rs used less picks le both.1)

placed_less : (resources : Option (List Resource)) (needs : List Need) (used less : ℕ → ℕ) (p : Option Placement) → ((place : ℕ) → less place ≤ used place) → is_placed resources needs used p ≡ true → is_placed resources needs less p ≡ true
placed_less None needs used less p le placed = placed
placed_less (Some rs) [] used less p le placed = placed
placed_less (Some rs) (need ∷ needs) used less None le placed = placed
placed_less (Some rs) (need ∷ needs) used less (Some p) le placed =
    let both = and_parts (is_placement rs (need ∷ needs) p.picks) (fits_beside rs used p.picks) placed in
    and_from (is_placement rs (need ∷ needs) p.picks) (fits_beside rs less p.picks) both.0 (fits_less 0 rs used less p.picks le both.1)

-- a new number changes nothing of whom a test excludes
exclude_alike : (o : ℕ) (t : PlanTest) (other : Option PlanTest) → exclude (Some (renumbered o t)) (option_map (renumbered o) other) ≡ exclude (Some t) other
unfolding exclude
exclude_alike o t None = refl
exclude_alike o t (Some other) = refl

-- a cause that is known before the run names no setup
fixed_back : (o : ℕ) (resources : Option (List Resource)) (fixed : Option Cause) → is_fixed_cause resources fixed ≡ true → option_map (cause_back o) fixed ≡ fixed
fixed_back o resources None is = refl
fixed_back o resources (Some Unstarted) is = refl
fixed_back o resources (Some (Lacks k)) is = refl
fixed_back o resources (Some (Fixture k)) is = cc
fixed_back o resources (Some NotAvailable) is = refl
fixed_back o resources (Some (BadOperation k)) is = refl
fixed_back o resources (Some Insufficient) is = refl
fixed_back o resources (Some Stopped) is = refl
fixed_back o resources (Some Memory) is = refl

-- what a test of a part needs, so that all that it names lies in the part
record StaysInside (o c : ℕ) (t : PlanTest) : Type 0 where
  before : list_all (λ j. is_in_tree o c (j + o)) t.before ≡ true
  setups : list_all (λ s. is_in_tree o c (s + o)) t.setups ≡ true
  fixed : option_map (cause_back o) t.fixed ≡ t.fixed

-- the same cause, lowered on both sides
same_back : (o : ℕ) (cause : Cause) (k : Option Cause) → same_cause cause k ≡ true → same_cause (cause_back o cause) (option_map (cause_back o) k) ≡ true
same_back o cause None is = let none = no_cause cause in (cc)
same_back o cause (Some k) is =
    let same = equal cause k is in
    subst (λ (x : Cause). same_cause (cause_back o cause) (Some (cause_back o x)) ≡ true) same (same_cause_refl (cause_back o cause))
  where
    equal : (one other : Cause) → same_cause one (Some other) ≡ true → one ≡ other
    equal Unstarted Unstarted is = refl
    equal (Lacks j) (Lacks k) is = let same : j ≡ k = grind (arith, nat_tests) in ap (λ (n : ℕ). Lacks n) same
    equal (Fixture j) (Fixture k) is = let same : j ≡ k = grind (arith, nat_tests) in ap (λ (n : ℕ). Fixture n) same
    equal NotAvailable NotAvailable is = refl
    equal (BadOperation j) (BadOperation k) is = let same : j ≡ k = grind (arith, nat_tests) in ap (λ (n : ℕ). BadOperation n) same
    equal Insufficient Insufficient is = refl
    equal Stopped Stopped is = refl
    equal Memory Memory is = refl
    equal one other is = cc

part-snoc : (o c : ℕ) (es : List Entry) (e : Entry) → part_of o c (es ++ e ∷ []) ≡ part_of o c es ++ cons_option (entry_of_part o c e) []
part-snoc o c es e = filter_map-append (entry_of_part o c) es (e ∷ [])

module _ (whole : PlanParts) (o c : ℕ) (part : PlanParts) (is : IsPartOfPlan whole o c part) (sound : IsSound part) where
  -- all that a test of the part names lies in the part
  stays_inside : (m : ℕ) (t : PlanTest) → test_at part.tests m ≡ Some t → StaysInside o c t
  stays_inside m t found =
      let p : PlanTest → Bool = λ u. u.number == m in
      let links = all_found (has_sound_links part.tests) p part.tests t sound.links found in
      let both = and_parts (list_all (λ j. is_before_rank t.rank (test_at part.tests j)) t.before) (list_all (λ s. list_any (λ j. j == s) t.before) t.setups) links in
      let before = inside t.rank t.before both.0 in
      record {
        before = before;
        setups = among t.before before t.setups both.1;
        fixed = fixed_back o part.resources t.fixed (all_found (λ (u : PlanTest). is_fixed_cause part.resources u.fixed) p part.tests t sound.fixed found);
      }
    where
      found_rank : (j rank : ℕ) (u : Option PlanTest) → u ≡ test_at part.tests j → is_before_rank rank u ≡ true → is_in_tree o c (j + o) ≡ true
      found_rank j rank None at below = cc
      found_rank j rank (Some u) at below = found_in whole o c part is j u (sym at)

      inside : (rank : ℕ) (js : List ℕ) → list_all (λ j. is_before_rank rank (test_at part.tests j)) js ≡ true → list_all (λ j. is_in_tree o c (j + o)) js ≡ true
      inside rank [] all = refl
      inside rank (j ∷ js) all =
          let both = and_parts (is_before_rank rank (test_at part.tests j)) (list_all (λ j. is_before_rank rank (test_at part.tests j)) js) all in
          and_from (is_in_tree o c (j + o)) (list_all (λ j. is_in_tree o c (j + o)) js) (found_rank j rank (test_at part.tests j) refl both.0) (inside rank js both.1)

      among : (js : List ℕ) → list_all (λ j. is_in_tree o c (j + o)) js ≡ true → (ss : List ℕ) → list_all (λ s. list_any (λ j. j == s) js) ss ≡ true → list_all (λ s. is_in_tree o c (s + o)) ss ≡ true
      among js inside [] all = refl
      among js inside (s ∷ ss) all =
          let both = and_parts (list_any (λ j. j == s) js) (list_all (λ s. list_any (λ j. j == s) js) ss) all in
          and_from (is_in_tree o c (s + o)) (list_all (λ s. is_in_tree o c (s + o)) ss) (among_all s (λ j. is_in_tree o c (j + o)) js both.0 inside) (among js inside ss both.1)

  module _ (es : List Entry) where
    -- the test of an open start of the part, and what it takes
    looked_up : (r : Running) → is_in_tree o c r.test ≡ true → option_map (renumbered o) (test_at part.tests (r.test - o)) ≡ test_at whole.tests r.test
    looked_up r here =
        let same = back_there o c r.test here in
        sym (test_at-part whole o c part is (r.test - o) (ap (λ (n : ℕ). is_in_tree o c n) same ∙ here)) ∙ ap (λ (n : ℕ). test_at whole.tests n) same

    processors_alike : (u : Option PlanTest) → processors_of (option_map (renumbered o) u) ≡ processors_of u
    processors_alike None = refl
    processors_alike (Some u) = refl

    -- the part uses no more processors
    processors_less : used_processors part.tests (part_of o c es) ≤ used_processors whole.tests es
    processors_less =
        subst (λ (rs : List Running). sum_by (λ (r : Running). processors_of (test_at part.tests r.test)) rs ≤ used_processors whole.tests es) (sym (open_starts-part o c es))
        (sum_less (running_of_part o c) (λ (r : Running). processors_of (test_at part.tests r.test)) (λ (r : Running). processors_of (test_at whole.tests r.test)) each (open_starts es))
      where
        each : (r : Running) → count_some (λ (q : Running). processors_of (test_at part.tests q.test)) (running_of_part o c r) ≤ processors_of (test_at whole.tests r.test)
        each r = by_here (is_in_tree o c r.test) refl
          where
            by_here : (b : Bool) → b ≡ is_in_tree o c r.test → count_some (λ (q : Running). processors_of (test_at part.tests q.test)) (if b then Some (record { test = r.test - o; attempt = r.attempt; worker = r.worker; placement = r.placement }) else None) ≤ processors_of (test_at whole.tests r.test)
            by_here true here =
                let same = sym (processors_alike (test_at part.tests (r.test - o))) ∙ ap processors_of (looked_up r (sym here)) in
                omega (arith, same)
            by_here false here = omega arith

    -- the part uses no more slots
    slots_less : (place : ℕ) → used_slots (part_of o c es) place ≤ used_slots es place
    slots_less place =
        subst (λ (rs : List Running). sum_by (λ (r : Running). placed_slots place r.placement) rs ≤ used_slots es place) (sym (open_starts-part o c es))
        (sum_less (running_of_part o c) (λ (r : Running). placed_slots place r.placement) (λ (r : Running). placed_slots place r.placement) each (open_starts es))
      where
        each : (r : Running) → count_some (λ (q : Running). placed_slots place q.placement) (running_of_part o c r) ≤ placed_slots place r.placement
        each r = by_here (is_in_tree o c r.test)
          where
            by_here : (b : Bool) → count_some (λ (q : Running). placed_slots place q.placement) (if b then Some (record { test = r.test - o; attempt = r.attempt; worker = r.worker; placement = r.placement }) else None) ≤ placed_slots place r.placement
            by_here true = omega arith
            by_here false = omega arith

    -- whom no open test of the whole excludes, no open test of the part excludes
    excluded_less : (t : PlanTest) → is_excluded whole.tests (renumbered o t) es ≡ false → is_excluded part.tests t (part_of o c es) ≡ false
    excluded_less t apart =
        ap (λ (rs : List Running). list_any (λ (r : Running). exclude (Some t) (test_at part.tests r.test)) rs) (open_starts-part o c es)
        ∙ any_less (running_of_part o c) (λ (r : Running). exclude (Some t) (test_at part.tests r.test)) (λ (r : Running). exclude (Some (renumbered o t)) (test_at whole.tests r.test)) each (open_starts es) apart
      where
        each : (r : Running) → is_some_and (λ (q : Running). exclude (Some t) (test_at part.tests q.test)) (running_of_part o c r) ≡ true → exclude (Some (renumbered o t)) (test_at whole.tests r.test) ≡ true
        each r = by_here (is_in_tree o c r.test) refl
          where
            by_here : (b : Bool) → b ≡ is_in_tree o c r.test → is_some_and (λ (q : Running). exclude (Some t) (test_at part.tests q.test)) (if b then Some (record { test = r.test - o; attempt = r.attempt; worker = r.worker; placement = r.placement }) else None) ≡ true → exclude (Some (renumbered o t)) (test_at whole.tests r.test) ≡ true
            by_here true here both =
                ap (λ (u : Option PlanTest). exclude (Some (renumbered o t)) u) (sym (looked_up r (sym here)))
                ∙ exclude_alike o t (test_at part.tests (r.test - o))
                ∙ both
            by_here false here both = cc

    module _ (t : PlanTest) (own : is_in_tree o c (t.number + o) ≡ true) (inside : StaysInside o c t) where
      pending-part : is_pending part t (part_of o c es) ≡ is_pending whole (renumbered o t) es
      pending-part =
          ap (λ (b : Bool). not b && not (is_open_in t.number (part_of o c es))) (final-part o c part.repeat t own es)
          ∙ ap (λ (b : Bool). not (is_final_in part.repeat (renumbered o t) es) && not b) (open-part o c t.number own es)
          ∙ ap (λ (r : Repeat). not (is_final_in r (renumbered o t) es) && not (is_open_in (t.number + o) es)) (sym is.repeat)

      follows-part : follows_finals part t (part_of o c es) ≡ follows_finals whole (renumbered o t) es
      follows-part =
          all_where (λ j. is_in_tree o c (j + o)) (λ j. is_some (verdict_of_test part (part_of o c es) j)) (λ j. is_some (verdict_of_test whole es (j + o))) each t.before inside.before
          ∙ sym (list_all-map (λ j. is_some (verdict_of_test whole es j)) (λ j. j + o) t.before)
        where
          each : (j : ℕ) → is_in_tree o c (j + o) ≡ true → is_some (verdict_of_test part (part_of o c es) j) ≡ is_some (verdict_of_test whole es (j + o))
          each j here = ap is_some (verdict_of_test-part whole o c part is es j here) ∙ some_back o (verdict_of_test whole es (j + o))

      unpassed-part : first_unpassed whole (renumbered o t) es ≡ option_map (λ s. s + o) (first_unpassed part t (part_of o c es))
      unpassed-part =
          find-map (λ s. s + o) (λ s. not (is_passed_verdict (verdict_of_test whole es s))) (λ s. not (is_passed_verdict (verdict_of_test whole es (s + o)))) (λ s. refl) t.setups
          ∙ ap (λ (s : Option ℕ). option_map (λ n. n + o) s)
          (find_where (λ s. is_in_tree o c (s + o)) (λ s. not (is_passed_verdict (verdict_of_test whole es (s + o)))) (λ s. not (is_passed_verdict (verdict_of_test part (part_of o c es) s))) each t.setups inside.setups)
        where
          each : (s : ℕ) → is_in_tree o c (s + o) ≡ true → not (is_passed_verdict (verdict_of_test whole es (s + o))) ≡ not (is_passed_verdict (verdict_of_test part (part_of o c es) s))
          each s here = ap not (sym (ap is_passed_verdict (verdict_of_test-part whole o c part is es s here) ∙ passed_back o (verdict_of_test whole es (s + o))))

      none_raised : (s : Option ℕ) → is_none (option_map (λ n. n + o) s) ≡ is_none s
      none_raised None = refl
      none_raised (Some s) = refl

      ready-part : is_ready part t (part_of o c es) ≡ is_ready whole (renumbered o t) es
      ready-part =
          ap (λ (b : Bool). b && is_none (first_unpassed part t (part_of o c es)) && is_none t.fixed) follows-part
          ∙ ap (λ (b : Bool). follows_finals whole (renumbered o t) es && b && is_none t.fixed) (sym (ap is_none unpassed-part ∙ none_raised (first_unpassed part t (part_of o c es))))

      -- what may start in the whole may start in the part
      may_start-part : (p : Option Placement) → may_start whole (renumbered o t) p es ≡ true → may_start part t p (part_of o c es) ≡ true
      may_start-part p may =
          let parts = may_start-parts whole (renumbered o t) p es may in
          let mine = part_of o c es in
          let most = leb-true _ _ parts.processors in
          let fits : t.processors + used_processors part.tests mine ≤ part.level = omega (arith, most, processors_less, is.level) in
          let goes_on = ap not (part_goes_on o c es) in
          let pending = pending-part ∙ parts.pending in
          let ready = ready-part ∙ parts.ready in
          let room = and_from (has_processors part t mine) (not (is_excluded part.tests t mine)) (le-leb _ _ fits) (ap not (excluded_less t parts.apart)) in
          let placed =
          placed_less part.resources t.needs (used_slots es) (used_slots mine) p slots_less
          (subst (λ (rs : Option (List Resource)). is_placed rs t.needs (used_slots es) p ≡ true) is.resources parts.placed) in
          let two = and_from (not (has_stop mine)) (is_pending part t mine) goes_on pending in
          let three = and_from (not (has_stop mine) && is_pending part t mine) (is_ready part t mine) two ready in
          let four = and_from (not (has_stop mine) && is_pending part t mine && is_ready part t mine) (has_room part t mine) three room in
          and_from (not (has_stop mine) && is_pending part t mine && is_ready part t mine && has_room part t mine) (is_placed part.resources t.needs (used_slots mine) p) four placed

      next-part : (a : ℕ) → is_next_attempt t a (part_of o c es) ≡ is_next_attempt (renumbered o t) a es
      next-part a = ap (λ (vs : List Verdict). a == length vs + 1) (attempts-part o c t.number t.rules own es)

      -- what a test may be settled with is the same in the part, lowered
      cause-part : has_stop es ≡ false → settle_cause part t (part_of o c es) ≡ option_map (cause_back o) (settle_cause whole (renumbered o t) es)
      cause-part goes_on =
          ap (λ (b : Bool). if not b then None else (if has_stop (part_of o c es) then Some Stopped else (if follows_finals part t (part_of o c es) then cause_behind (first_unpassed part t (part_of o c es)) t.fixed else None))) pending-part
          ∙ ap (λ (b : Bool). if not (is_pending whole (renumbered o t) es) then None else (if b then Some Stopped else (if follows_finals part t (part_of o c es) then cause_behind (first_unpassed part t (part_of o c es)) t.fixed else None))) (part_goes_on o c es)
          ∙ ap (λ (b : Bool). if not (is_pending whole (renumbered o t) es) then None else (if b then cause_behind (first_unpassed part t (part_of o c es)) t.fixed else None)) follows-part
          ∙ by_pending (is_pending whole (renumbered o t) es) (follows_finals whole (renumbered o t) es)
          ∙ sym (ap (λ (b : Bool). option_map (cause_back o) (if not (is_pending whole (renumbered o t) es) then None else (if b then Some Stopped else (if follows_finals whole (renumbered o t) es then cause_behind (first_unpassed whole (renumbered o t) es) t.fixed else None)))) goes_on)
        where
          by_unpassed : (s : Option ℕ) → cause_behind s t.fixed ≡ option_map (cause_back o) (cause_behind (option_map (λ n. n + o) s) t.fixed)
          by_unpassed None = sym inside.fixed
          by_unpassed (Some s) = ap (λ (n : ℕ). Some (Fixture n)) (sym (there_back o s))

          lowered : cause_behind (first_unpassed part t (part_of o c es)) t.fixed ≡ option_map (cause_back o) (cause_behind (first_unpassed whole (renumbered o t) es) t.fixed)
          lowered = by_unpassed (first_unpassed part t (part_of o c es)) ∙ sym (ap (λ (s : Option ℕ). option_map (cause_back o) (cause_behind s t.fixed)) unpassed-part)

          by_pending : (pending follows : Bool) → (if not pending then None else (if follows then cause_behind (first_unpassed part t (part_of o c es)) t.fixed else None)) ≡ option_map (cause_back o) (if not pending then None else (if follows then cause_behind (first_unpassed whole (renumbered o t) es) t.fixed else None))
          by_pending false follows = refl
          by_pending true true = lowered
          by_pending true false = refl

    -- an entry of the tree that is allowed in the whole is allowed in the part
    starts-part : (n a : ℕ) (p : Option Placement) → is_in_tree o c n ≡ true → starts whole es a p (test_at whole.tests n) ≡ true → starts part (part_of o c es) a p (test_at part.tests (n - o)) ≡ true
    starts-part n a p here begins =
        let same = back_there o c n here in
        let own = ap (λ (k : ℕ). is_in_tree o c k) same ∙ here in
        let found = sym (ap (λ (k : ℕ). test_at whole.tests k) same) ∙ test_at-part whole o c part is (n - o) own in
        by_found (test_at part.tests (n - o)) refl (subst (λ (u : Option PlanTest). starts whole es a p u ≡ true) found begins)
      where
        by_found : (u : Option PlanTest) → u ≡ test_at part.tests (n - o) → starts whole es a p (option_map (renumbered o) u) ≡ true → starts part (part_of o c es) a p u ≡ true
        by_found None at begins = cc
        by_found (Some t) at begins =
            let both = and_parts (may_start whole (renumbered o t) p es) (is_next_attempt (renumbered o t) a es) begins in
            let passes = find_passes (λ (u : PlanTest). u.number == n - o) part.tests t (sym at) in
            let number : t.number ≡ n - o = grind (arith, nat_tests) in
            let own = ap (λ (k : ℕ). is_in_tree o c (k + o)) number ∙ ap (λ (k : ℕ). is_in_tree o c k) (back_there o c n here) ∙ here in
            let inside = stays_inside (n - o) t (sym at) in
            and_from (may_start part t p (part_of o c es)) (is_next_attempt t a (part_of o c es)) (may_start-part t own inside p both.0) (next-part t own inside a ∙ both.1)

    settles-part : has_stop es ≡ false → (n : ℕ) (cause : Cause) → is_in_tree o c n ≡ true → settles whole es cause (test_at whole.tests n) ≡ true → settles part (part_of o c es) (cause_back o cause) (test_at part.tests (n - o)) ≡ true
    settles-part goes_on n cause here settled =
        let same = back_there o c n here in
        let own = ap (λ (k : ℕ). is_in_tree o c k) same ∙ here in
        let found = sym (ap (λ (k : ℕ). test_at whole.tests k) same) ∙ test_at-part whole o c part is (n - o) own in
        by_found (test_at part.tests (n - o)) refl (subst (λ (u : Option PlanTest). settles whole es cause u ≡ true) found settled)
      where
        by_found : (u : Option PlanTest) → u ≡ test_at part.tests (n - o) → settles whole es cause (option_map (renumbered o) u) ≡ true → settles part (part_of o c es) (cause_back o cause) u ≡ true
        by_found None at settled = cc
        by_found (Some t) at settled =
            let passes = find_passes (λ (u : PlanTest). u.number == n - o) part.tests t (sym at) in
            let number : t.number ≡ n - o = grind (arith, nat_tests) in
            let own = ap (λ (k : ℕ). is_in_tree o c (k + o)) number ∙ ap (λ (k : ℕ). is_in_tree o c k) (back_there o c n here) ∙ here in
            let inside = stays_inside (n - o) t (sym at) in
            ap (λ (k : Option Cause). same_cause (cause_back o cause) k) (cause-part t own inside goes_on) ∙ same_back o cause (settle_cause whole (renumbered o t) es) settled

  not_due : (plan : PlanParts) (es : List Entry) → plan.stop_on_failure ≡ false → is_stop_due plan es ≡ false
  not_due plan es off = ap (λ (b : Bool). b && ends_in_first_failure plan es) off

  module _ (off : part.stop_on_failure ≡ false) (whole_off : whole.stop_on_failure ≡ false) where
    one_allowed : (front : List Entry) (e : Entry) → is_allowed part front e ≡ true → are_allowed_behind part front (e ∷ []) ≡ true
    one_allowed front e allowed = and_from (is_allowed part front e) true allowed refl

    -- what the part has of an allowed entry is allowed in the part
    allowed-part : (front : List Entry) → has_stop front ≡ false → (e : Entry) → is_allowed whole front e ≡ true → are_allowed_behind part (part_of o c front) (cons_option (entry_of_part o c e) []) ≡ true
    allowed-part front goes_on (Start n a w p) allowed = by_here (is_in_tree o c n) refl
      where
        by_here : (b : Bool) → b ≡ is_in_tree o c n → are_allowed_behind part (part_of o c front) (cons_option (if b then Some (Start (n - o) a w p) else None) []) ≡ true
        by_here false here = refl
        by_here true here =
            let most = and_parts (not (is_stop_due whole front) && starts whole front a p (test_at whole.tests n)) (not (is_busy_in w front)) allowed in
            let both = and_parts (not (is_stop_due whole front)) (starts whole front a p (test_at whole.tests n)) most.0 in
            let mine = part_of o c front in
            let begins = starts-part front n a p (sym here) both.1 in
            let free = busy_less o c w front (not-true (is_busy_in w front) most.1) in
            let first = and_from (not (is_stop_due part mine)) (starts part mine a p (test_at part.tests (n - o))) (ap not (not_due part mine off)) begins in
            one_allowed mine (Start (n - o) a w p) (and_from (not (is_stop_due part mine) && starts part mine a p (test_at part.tests (n - o))) (not (is_busy_in w mine)) first (ap not free))
    allowed-part front goes_on (End n a w s) allowed = by_here (is_in_tree o c n) refl
      where
        by_here : (b : Bool) → b ≡ is_in_tree o c n → are_allowed_behind part (part_of o c front) (cons_option (if b then Some (End (n - o) a w s) else None) []) ≡ true
        by_here false here = refl
        by_here true here =
            let both = and_parts (not (is_stop_due whole front)) (holds_start n a w front) allowed in
            let mine = part_of o c front in
            let same = back_there o c n (sym here) in
            let own = ap (λ (k : ℕ). is_in_tree o c k) same ∙ sym here in
            let holds = holds-part o c (n - o) a w own front ∙ ap (λ (k : ℕ). holds_start k a w front) same ∙ both.1 in
            one_allowed mine (End (n - o) a w s) (and_from (not (is_stop_due part mine)) (holds_start (n - o) a w mine) (ap not (not_due part mine off)) holds)
    allowed-part front goes_on (Settle n cause) allowed = by_here (is_in_tree o c n) refl
      where
        by_here : (b : Bool) → b ≡ is_in_tree o c n → are_allowed_behind part (part_of o c front) (cons_option (if b then Some (Settle (n - o) (cause_back o cause)) else None) []) ≡ true
        by_here false here = refl
        by_here true here =
            let both = and_parts (not (is_stop_due whole front)) (settles whole front cause (test_at whole.tests n)) allowed in
            let mine = part_of o c front in
            let settled = settles-part front goes_on n cause (sym here) both.1 in
            one_allowed mine (Settle (n - o) (cause_back o cause)) (and_from (not (is_stop_due part mine)) (settles part mine (cause_back o cause) (test_at part.tests (n - o))) (ap not (not_due part mine off)) settled)
    allowed-part front goes_on Stop allowed = refl

    still_goes_on : (front : List Entry) → has_stop front ≡ false → (e : Entry) → is_allowed whole front e ≡ true → has_stop (front ++ e ∷ []) ≡ false
    still_goes_on front goes_on e allowed = stop-snoc front e ∙ ap (λ (b : Bool). b || (is_stop e || false)) goes_on ∙ no_stop e allowed
      where
        no_stop : (e : Entry) → is_allowed whole front e ≡ true → (is_stop e || false) ≡ false
        no_stop (Start n a w p) allowed = refl
        no_stop (End n a w s) allowed = refl
        no_stop (Settle n cause) allowed = refl
        no_stop Stop due = let none = sym due ∙ not_due whole front whole_off in (cc)

    behind-part : (front es : List Entry) → has_stop front ≡ false → are_allowed_behind whole front es ≡ true → are_allowed_behind part (part_of o c front) (part_of o c es) ≡ true
    behind-part front [] goes_on allowed = refl
    behind-part front (e ∷ es) goes_on allowed =
        let both = and_parts (is_allowed whole front e) (are_allowed_behind whole (front ++ e ∷ []) es) allowed in
        let later = behind-part (front ++ e ∷ []) es (still_goes_on front goes_on e both.0) both.1 in
        by_kept (entry_of_part o c e) (subst (λ (xs : List Entry). are_allowed_behind part xs (part_of o c es) ≡ true) (part-snoc o c front e) later) (allowed-part front goes_on e both.0)
      where
        by_kept : (x : Option Entry) → are_allowed_behind part (part_of o c front ++ cons_option x []) (part_of o c es) ≡ true → are_allowed_behind part (part_of o c front) (cons_option x []) ≡ true → are_allowed_behind part (part_of o c front) (cons_option x (part_of o c es)) ≡ true
        by_kept None later now = subst (λ (xs : List Entry). are_allowed_behind part xs (part_of o c es) ≡ true) (append-nil (part_of o c front)) later
        by_kept (Some x) later now =
            and_from (is_allowed part (part_of o c front) x) (are_allowed_behind part (part_of o c front ++ x ∷ []) (part_of o c es)) (and_parts (is_allowed part (part_of o c front) x) true now).0 later

    legal-part : (es : List Entry) → is_legal whole es ≡ true → is_legal part (part_of o c es) ≡ true
    legal-part es legal = legal_from part (part_of o c es) (behind-part [] es refl (legal_allowed whole es legal)) (not_due part (part_of o c es) off)

sound_without_stop : (part : PlanParts) → IsSound part → IsSound (without_stop part)
sound_without_stop part sound = record {
  numbers = sound.numbers;
  before = sound.before;
  setups = sound.setups;
  links = sound.links;
  processors = sound.processors;
  fixed = sound.fixed;
  queue = sound.queue;
  times = sound.times;
  distinct = sound.distinct;
  placeable = sound.placeable;
}

part_without_stop : (whole : PlanParts) (o c : ℕ) (part : PlanParts) → IsPartOfPlan whole o c part → IsPartOfPlan whole o c (without_stop part)
part_without_stop whole o c part is = record { tests = is.tests; resources = is.resources; level = is.level; repeat = is.repeat }

-- the part of a legal history is legal for the part's plan, where the whole plan does not stop on failure
pub legal_in_part : (whole : PlanParts) (o c : ℕ) (part : PlanParts) → IsPartOfPlan whole o c part → IsSound part → whole.stop_on_failure ≡ false → (es : List Entry) → is_legal whole es ≡ true → is_legal (without_stop part) (part_of o c es) ≡ true
legal_in_part whole o c part is sound whole_off es legal =
    legal-part whole o c (without_stop part) (part_without_stop whole o c part is) (sound_without_stop part sound) refl whole_off es legal

-- the part of a complete history is complete for the part's plan, with a Stop or without
pub complete_in_part : (whole : PlanParts) (o c : ℕ) (part : PlanParts) → IsPartOfPlan whole o c part → (es : List Entry) → IsComplete whole es → IsComplete (without_stop part) (part_of o c es)
complete_in_part whole o c part is es complete = record {
  final = all_where (λ (t : PlanTest). is_in_tree o c (t.number + o)) (λ (t : PlanTest). is_final_in part.repeat t (part_of o c es)) (λ (t : PlanTest). is_final_in whole.repeat (renumbered o t) es) each part.tests (tests_in whole o c part is) ∙ all;
  closed = open_starts-part o c es ∙ ap (λ (rs : List Running). filter_map (running_of_part o c) rs) complete.closed;
}
  where
    each : (t : PlanTest) → is_in_tree o c (t.number + o) ≡ true → is_final_in part.repeat t (part_of o c es) ≡ is_final_in whole.repeat (renumbered o t) es
    each t own = final-part o c part.repeat t own es ∙ ap (λ (r : Repeat). is_final_in r (renumbered o t) es) (sym is.repeat)

    all : list_all (λ (t : PlanTest). is_final_in whole.repeat (renumbered o t) es) part.tests ≡ true
    all =
        sym (list_all-map (λ (t : PlanTest). is_final_in whole.repeat t es) (renumbered o) part.tests)
        ∙ ap (λ (ts : List PlanTest). list_all (λ (t : PlanTest). is_final_in whole.repeat t es) ts) (sym is.tests)
        ∙ all_kept (λ (t : PlanTest). is_in_tree o c t.number) (λ (t : PlanTest). is_final_in whole.repeat t es) whole.tests complete.final
