-- Slots of a kind, in blocks, are a capacity.
use Rattle.std.proofs.Common.{◌≡◌, ◌∙◌, sym, ap, subst, Bool, true, false, ℕ, zero, suc, ◌+◌, ◌*◌, ◌/◌, ◌≤◌, List, [], ◌∷◌, ◌++◌, refl, arith, inl, inr}
use Rattle.std.specs.Prelude.{Option, Some, None, IfSome, ◌==◌, ◌&&◌, not, cond, filter, slice_get, sum_by, bytes_eq}
use Rattle.std.specs.List.{list_all}
use Rattle.std.proofs.Math.Nat.{add-mul, div-mul-le_self, le-div_iff_mul-le}
use Rattle.std.proofs.lemmas.Bool.{and_parts, and_from, cases_Bool, true≢false}
use Rattle.std.proofs.lemmas.Bool.Decides.{nat_tests}
use Rattle.std.proofs.lemmas.List.Folds.{list_all-append}
use Rattle.std.proofs.lemmas.List.Sums.{sum_by-cons}
use Rattle.std.proofs.lemmas.Slice.Eq.{bytes_eq-Decides}
use Rattle.ct_base.specs.declared.defs.Need.{Need}
use Rattle.ct_base.specs.declared.defs.Resource.{Resource}
use Rattle.ct_alloc.specs.declared.placement.Pick.{Pick}
use Rattle.ct_alloc.specs.declared.placement.Placement.{Placement}
use Rattle.ct_alloc.specs.Placement.{fits_beside, is_placement, meets, names_resource, slots_at}
use Rattle.ct_alloc.specs.Spread.{is_of_kind}
use Rattle.ct_history.specs.declared.plan.PlanTest.{PlanTest}
use Rattle.ct_history.specs.declared.plan.PlanParts.{PlanParts}
use Rattle.ct_history.specs.declared.history.Entry.{Entry}
use Rattle.ct_history.specs.declared.history.Entry.TheVariants.{Start, End, Settle, Stop}
use Rattle.ct_history.specs.Plan.{IsSound, test_at}
use Rattle.ct_history.specs.History.{Running, is_busy_in, open_starts, placed_slots, used_slots}
use Rattle.ct_history.specs.Rules.{is_placed}
use Rattle.ct_history.specs.Legal.{is_allowed, is_allowed_so_far, is_stop_due, starts}
use Rattle.ct_history.proofs.ApartLemmas.{allowed_induction}
use Rattle.ct_history.proofs.MayLemmas.{starts-parts}
use Rattle.ct_history.proofs.OpenLemmas.{is_of, open_starts-end, open_starts-snoc, opens_settle, opens_stop}
use Rattle.ct_history.proofs.PartListLemmas.{all_kept}
use Rattle.ct_times.specs.Capacity.{IsCapacity}
use Rattle.ct_times.specs.Amounts.{amount_of, blocks, slot_amount}
use Rattle.ct_times.proofs.AloneLemmas.{capacity_from, other_at, others}

-- the blocks of two numbers are at most those of their sum
blocks_sum : (b x y : ℕ) → 1 ≤ b → x / b + y / b ≤ (x + y) / b
blocks_sum b x y some =
    let parts : (x / b + y / b) * b ≤ x + y = omega (arith, add-mul (x / b) (y / b) b, div-mul-le_self x b, div-mul-le_self y b) in
    (le-div_iff_mul-le {k = b} {x = x / b + y / b} {y = x + y} some).1 parts

blocks_more : (b x y : ℕ) → 1 ≤ b → x ≤ y → x / b ≤ y / b
blocks_more b x y some le =
    let part : x / b * b ≤ y = omega (arith, div-mul-le_self x b, le) in
    (le-div_iff_mul-le {k = b} {x = x / b} {y = y} some).1 part

module _ (kind : List ℕ) (block : ℕ) (some : 1 ≤ block) where
  -- the blocks of the used slots of the resources of the kind, from a place on
  abbrev blocks_from : ℕ → List Resource → (ℕ → ℕ) → ℕ
  blocks_from k [] used = 0
  blocks_from k (r ∷ rs) used = cond (bytes_eq r.kind kind) (used k / block) 0 + blocks_from (k + 1) rs used

  cond_more : (b : Bool) (x y : ℕ) → x ≤ y → cond b (x / block) 0 ≤ cond b (y / block) 0
  cond_more true x y le = blocks_more block x y some le
  cond_more false x y le = omega arith

  from_more : (k : ℕ) (rs : List Resource) (used more : ℕ → ℕ) → ((i : ℕ) → used i ≤ more i) → blocks_from k rs used ≤ blocks_from k rs more
  from_more k [] used more le = omega arith
  from_more k (r ∷ rs) used more le = omega (arith, cond_more (bytes_eq r.kind kind) (used k) (more k) (le k), from_more (k + 1) rs used more le)

  -- one pick more
  pick_more : (k : ℕ) (rs : List Resource) (used more : ℕ → ℕ) (at size : ℕ) → ((i : ℕ) → more i ≡ used i + cond (at == i) size 0) → (j : ℕ) → at ≡ k + j → blocks_from k rs used + cond (is_of_kind kind (slice_get rs j)) (size / block) 0 ≤ blocks_from k rs more
  pick_more k [] used more at size adds j is = omega arith
  pick_more k (r ∷ rs) used more at size adds zero is =
      let here : (at == k) ≡ true = same at k (omega (arith, is)) in
      let grown : more k ≡ used k + size = adds k ∙ ap (λ (c : Bool). used k + cond c size 0) here in
      omega (arith, own (bytes_eq r.kind kind) grown, from_more (k + 1) rs used more (λ i. omega (arith, adds i)))
    where
      same : (m n : ℕ) → m ≡ n → (m == n) ≡ true
      same m n eq = grind (arith, nat_tests, eq)

      own : (c : Bool) → more k ≡ used k + size → cond c (used k / block) 0 + cond c (size / block) 0 ≤ cond c (more k / block) 0
      own true grown = omega (arith, blocks_sum block (used k) size some, ap (λ (n : ℕ). n / block) grown)
      own false grown = omega arith
  pick_more k (r ∷ rs) used more at size adds (suc j) is =
      omega (arith, cond_more (bytes_eq r.kind kind) (used k) (more k) (omega (arith, adds k)), pick_more (k + 1) rs used more at size adds j (omega (arith, is)))

  module _ (resources : List Resource) where
    -- the blocks that a pick takes, if it takes a resource of the kind
    abbrev amount_taken : Pick → ℕ
    amount_taken p = cond (is_of_kind kind (slice_get resources p.resource)) (p.slots / block) 0

    abbrev taken_by : Option Placement → ℕ
    taken_by None = 0
    taken_by (Some p) = sum_by amount_taken p.picks

    slots-cons : (i : ℕ) (p : Pick) (ps : List Pick) → slots_at i (p ∷ ps) ≡ cond (p.resource == i) p.slots 0 + slots_at i ps
    slots-cons i p ps = by_place (p.resource == i)
      where
        by_place : (c : Bool) → sum_by (λ (q : Pick). q.slots) (cond c (p ∷ filter (λ (q : Pick). q.resource == i) ps) (filter (λ (q : Pick). q.resource == i) ps)) ≡ cond c p.slots 0 + slots_at i ps
        by_place true = sum_by-cons (λ (q : Pick). q.slots) p (filter (λ (q : Pick). q.resource == i) ps)
        by_place false = omega arith

    picks_more : (ps : List Pick) (used more : ℕ → ℕ) → ((i : ℕ) → more i ≡ used i + slots_at i ps) → blocks_from 0 resources used + sum_by amount_taken ps ≤ blocks_from 0 resources more
    picks_more [] used more adds = omega (arith, from_more 0 resources used more (λ i. omega (arith, adds i)))
    picks_more (p ∷ ps) used more adds =
        let mid : ℕ → ℕ = λ i. used i + cond (p.resource == i) p.slots 0 in
        omega (
          arith,
          pick_more 0 resources used mid p.resource p.slots (λ i. refl) p.resource (omega arith),
          picks_more ps mid more (λ i. omega (arith, adds i, slots-cons i p ps)),
          sum_by-cons amount_taken p ps,
        )

    placed_more : (o : Option Placement) (used more : ℕ → ℕ) → ((i : ℕ) → more i ≡ used i + placed_slots i o) → blocks_from 0 resources used + taken_by o ≤ blocks_from 0 resources more
    placed_more None used more adds = omega (arith, from_more 0 resources used more (λ i. omega (arith, adds i)))
    placed_more (Some p) used more adds = picks_more p.picks used more adds

    runs_more : (rs : List Running) (used more : ℕ → ℕ) → ((i : ℕ) → more i ≡ used i + sum_by (λ (r : Running). placed_slots i r.placement) rs) → blocks_from 0 resources used + sum_by (λ (r : Running). taken_by r.placement) rs ≤ blocks_from 0 resources more
    runs_more [] used more adds = omega (arith, from_more 0 resources used more (λ i. omega (arith, adds i)))
    runs_more (r ∷ rs) used more adds =
        let mid : ℕ → ℕ = λ i. used i + placed_slots i r.placement in
        omega (
          arith,
          placed_more r.placement used mid (λ i. refl),
          runs_more rs mid more (λ i. omega (arith, adds i, sum_by-cons (λ (q : Running). placed_slots i q.placement) r rs)),
          sum_by-cons (λ (q : Running). taken_by q.placement) r rs,
        )

    -- what a test's needs of the kind take, its picks take
    named_kind : (n : Need) (p : Pick) (o : Option Resource) → n.kind ≡ p.kind → names_resource p o ≡ true → is_of_kind n.kind o ≡ true
    named_kind n p None same named = absurd (true≢false (sym named))
    named_kind n p (Some r) same named =
        subst (λ (k : List ℕ). bytes_eq r.kind k ≡ true) (sym same) (and_parts (bytes_eq r.kind p.kind) (bytes_eq r.id p.id) named).0

    need_taken : (n : Need) (p : Pick) → meets resources n p ≡ true → cond (bytes_eq n.kind kind) (n.slots / block) 0 ≤ amount_taken p
    need_taken n p is =
        let three = and_parts (n.group == p.group && bytes_eq n.kind p.kind && n.slots == p.slots) (names_resource p (slice_get resources p.resource)) is in
        let two = and_parts (n.group == p.group && bytes_eq n.kind p.kind) (n.slots == p.slots) three.0 in
        let same : n.kind ≡ p.kind = (bytes_eq-Decides n.kind p.kind).0 (and_parts (n.group == p.group) (bytes_eq n.kind p.kind) two.0).1 in
        let slots : n.slots ≡ p.slots = equal n.slots p.slots two.1 in
        elim (cases_Bool (bytes_eq n.kind kind)) [
          | inl of_kind ↦
              let here : n.kind ≡ kind = (bytes_eq-Decides n.kind kind).0 of_kind in
              let there : is_of_kind kind (slice_get resources p.resource) ≡ true = subst (λ (k : List ℕ). is_of_kind k (slice_get resources p.resource) ≡ true) here (named_kind n p (slice_get resources p.resource) same three.1) in
              let one : cond (bytes_eq n.kind kind) (n.slots / block) 0 ≡ n.slots / block = ap (λ (c : Bool). cond c (n.slots / block) 0) of_kind in
              let other : amount_taken p ≡ p.slots / block = ap (λ (c : Bool). cond c (p.slots / block) 0) there in
              omega (arith, one, other, ap (λ (m : ℕ). m / block) slots)
          | inr unlike ↦
              let none : cond (bytes_eq n.kind kind) (n.slots / block) 0 ≡ 0 = ap (λ (c : Bool). cond c (n.slots / block) 0) unlike in
              omega (arith, none)
        ]
      where
        equal : (i j : ℕ) → (i == j) ≡ true → i ≡ j
        equal i j eq = grind (arith, nat_tests, eq)

    abbrev asked : List Need → ℕ
    asked ns = sum_by (λ (n : Need). n.slots / block) (filter (λ (n : Need). bytes_eq n.kind kind) ns)

    asked-cons : (n : Need) (ns : List Need) → asked (n ∷ ns) ≡ cond (bytes_eq n.kind kind) (n.slots / block) 0 + asked ns
    asked-cons n ns = by_kind (bytes_eq n.kind kind)
      where
        by_kind : (c : Bool) → sum_by (λ (m : Need). m.slots / block) (cond c (n ∷ filter (λ (m : Need). bytes_eq m.kind kind) ns) (filter (λ (m : Need). bytes_eq m.kind kind) ns)) ≡ cond c (n.slots / block) 0 + asked ns
        by_kind true = sum_by-cons (λ (m : Need). m.slots / block) n (filter (λ (m : Need). bytes_eq m.kind kind) ns)
        by_kind false = omega arith

    needs_taken : (ns : List Need) (ps : List Pick) → is_placement resources ns ps ≡ true → asked ns ≤ sum_by amount_taken ps
    needs_taken [] ps is = omega arith
    needs_taken (n ∷ ns) [] is = absurd (true≢false (sym is))
    needs_taken (n ∷ ns) (p ∷ ps) is =
        let both = and_parts (meets resources n p) (is_placement resources ns ps) is in
        omega (arith, need_taken n p both.0, needs_taken ns ps both.1, asked-cons n ns, sum_by-cons amount_taken p ps)

    -- the blocks of used slots are at most those that fit
    from_within : (k : ℕ) (rs : List Resource) (used : ℕ → ℕ) → ((j : ℕ) → IfSome (slice_get rs j) (λ (r : Resource). used (k + j) ≤ r.slots)) → blocks_from k rs used ≤ blocks kind block rs
    from_within k [] used within = omega arith
    from_within k (r ∷ rs) used within =
        let first : used k ≤ r.slots = subst (λ (i : ℕ). used i ≤ r.slots) (plus_zero k) (within 0) in
        let rest = from_within (k + 1) rs used (λ j. shifted (slice_get rs j) j (within (suc j))) in
        let whole : blocks kind block (r ∷ rs) ≡ cond (bytes_eq r.kind kind) (r.slots / block) 0 + blocks kind block rs = blocks-cons (bytes_eq r.kind kind) in
        omega (arith, cond_more (bytes_eq r.kind kind) (used k) r.slots first, rest, whole)
      where
        plus_zero : (i : ℕ) → i + 0 ≡ i
        plus_zero i = omega arith

        shifted : (o : Option Resource) (j : ℕ) → IfSome o (λ (q : Resource). used (k + suc j) ≤ q.slots) → IfSome o (λ (q : Resource). used (k + 1 + j) ≤ q.slots)
        shifted None j is = tt
        shifted (Some q) j is = let same : k + suc j ≡ k + 1 + j = omega arith in subst (λ (i : ℕ). used i ≤ q.slots) same is

        blocks-cons : (c : Bool) → sum_by (λ (q : Resource). q.slots / block) (cond c (r ∷ filter (λ (q : Resource). bytes_eq q.kind kind) rs) (filter (λ (q : Resource). bytes_eq q.kind kind) rs)) ≡ cond c (r.slots / block) 0 + blocks kind block rs
        blocks-cons true = sum_by-cons (λ (q : Resource). q.slots / block) r (filter (λ (q : Resource). bytes_eq q.kind kind) rs)
        blocks-cons false = omega arith

    -- the placement meets the needs, if there are any
    abbrev is_met : List Need → Option Placement → Bool
    is_met [] o = true
    is_met (n ∷ ns) None = false
    is_met (n ∷ ns) (Some p) = is_placement resources (n ∷ ns) p.picks

    abbrev is_met_at : Option PlanTest → Option Placement → Bool
    is_met_at None o = true
    is_met_at (Some t) o = is_met t.needs o

    met_from : (ns : List Need) (used : ℕ → ℕ) (o : Option Placement) → is_placed (Some resources) ns used o ≡ true → is_met ns o ≡ true
    met_from [] used o is = refl
    met_from (n ∷ ns) used None is = is
    met_from (n ∷ ns) used (Some p) is = (and_parts (is_placement resources (n ∷ ns) p.picks) (fits_beside resources used p.picks) is).0

    met_taken : (ns : List Need) (o : Option Placement) → is_met ns o ≡ true → asked ns ≤ taken_by o
    met_taken [] o is = omega arith
    met_taken (n ∷ ns) None is = absurd (true≢false (sym is))
    met_taken (n ∷ ns) (Some p) is = needs_taken (n ∷ ns) p.picks is

    module _ (plan : PlanParts) (given : plan.resources ≡ Some resources) where
      abbrev are_met : List Running → Bool
      are_met rs = list_all (λ (r : Running). is_met_at (test_at plan.tests r.test) r.placement) rs

      met-snoc : (es : List Entry) (e : Entry) → is_allowed plan es e ≡ true → are_met (open_starts es) ≡ true → are_met (open_starts (es ++ e ∷ [])) ≡ true
      met-snoc es (Start n a w p) allowed met =
          let most = and_parts (not (is_stop_due plan es) && starts plan es a p (test_at plan.tests n)) (not (is_busy_in w es)) allowed in
          let both = and_parts (not (is_stop_due plan es)) (starts plan es a p (test_at plan.tests n)) most.0 in
          let begins = starts-parts plan es a p (test_at plan.tests n) both.1 in
          let run : Running = record { test = n; attempt = a; worker = w; placement = p } in
          let placed = subst (λ (o : Option (List Resource)). is_placed o begins.test.needs (used_slots es) p ≡ true) given begins.may.placed in
          let own : is_met_at (test_at plan.tests n) p ≡ true = ap (λ (o : Option PlanTest). is_met_at o p) begins.found ∙ met_from begins.test.needs (used_slots es) p placed in
          subst (λ (rs : List Running). are_met rs ≡ true) (sym (open_starts-snoc es (Start n a w p) refl))
          (list_all-append (λ (r : Running). is_met_at (test_at plan.tests r.test) r.placement) (open_starts es) (run ∷ [])
          ∙ and_from (are_met (open_starts es)) (is_met_at (test_at plan.tests n) p && true) met (ap (λ (b : Bool). b && true) own))
      met-snoc es (End t a w s) allowed met =
          subst (λ (rs : List Running). are_met rs ≡ true) (sym (open_starts-end es t a w s))
          (all_kept (λ r. not (is_of t a r)) (λ (r : Running). is_met_at (test_at plan.tests r.test) r.placement) (open_starts es) met)
      met-snoc es (Settle t c) allowed met = subst (λ (rs : List Running). are_met rs ≡ true) (sym (opens_settle es t c)) met
      met-snoc es Stop allowed met = subst (λ (rs : List Running). are_met rs ≡ true) (sym (opens_stop es)) met

      met_all : (es : List Entry) → is_allowed_so_far plan es ≡ true → are_met (open_starts es) ≡ true
      met_all es so_far = allowed_induction plan (λ (xs : List Entry). are_met (open_starts xs) ≡ true) met-snoc refl es so_far

-- slots of a kind in blocks are a capacity
pub slots_hold : (plan : PlanParts) (recorded : List Entry) (resources : List Resource) (kind : List ℕ) (block : ℕ) → IsSound plan → plan.resources ≡ Some resources → 1 ≤ block → 1 ≤ blocks kind block resources → IsCapacity plan (blocks kind block resources) (amount_of plan recorded (blocks kind block resources) (slot_amount kind block))
slots_hold plan recorded resources kind block sound given some fit =
    capacity_from plan sound recorded (blocks kind block resources) (slot_amount kind block) fit (λ es so_far are.
    let within = subst (λ (o : Option (List Resource)). IfSome o (λ rs. (place : ℕ) → IfSome (slice_get rs place) (λ (r : Resource). used_slots es place ≤ r.slots))) given are.within.slots in
    omega (
      arith,
      asked_most (open_starts es) (met_all kind block some resources plan given es so_far),
      runs_more kind block some resources (open_starts es) (λ i. 0) (λ i. used_slots es i) (λ i. omega arith),
      from_within kind block some resources 0 resources (λ i. used_slots es i) (λ j. unshifted (slice_get resources j) (λ i. used_slots es i) j (within j)),
    ))
  where
    unshifted : (o : Option Resource) (used : ℕ → ℕ) (j : ℕ) → IfSome o (λ (r : Resource). used j ≤ r.slots) → IfSome o (λ (r : Resource). used (0 + j) ≤ r.slots)
    unshifted None used j is = tt
    unshifted (Some r) used j is = let same : j ≡ 0 + j = omega arith in subst (λ (i : ℕ). used i ≤ r.slots) same is

    one : (o : Option PlanTest) (p : Option Placement) → is_met_at kind block some resources o p ≡ true → other_at plan sound recorded (blocks kind block resources) (slot_amount kind block) o ≤ taken_by kind block some resources p
    one None p is = omega arith
    one (Some t) p is = met_taken kind block some resources t.needs p is

    asked_most : (rs : List Running) → are_met kind block some resources plan given rs ≡ true → others plan sound recorded (blocks kind block resources) (slot_amount kind block) rs ≤ sum_by (λ (r : Running). taken_by kind block some resources r.placement) rs
    asked_most [] met = omega arith
    asked_most (r ∷ rs) met =
        let both = and_parts (is_met_at kind block some resources (test_at plan.tests r.test) r.placement) (are_met kind block some resources plan given rs) met in
        omega (
          arith,
          one (test_at plan.tests r.test) r.placement both.0,
          asked_most rs both.1,
          sum_by-cons (λ (q : Running). other_at plan sound recorded (blocks kind block resources) (slot_amount kind block) (test_at plan.tests q.test)) r rs,
          sum_by-cons (λ (q : Running). taken_by kind block some resources q.placement) r rs,
        )
