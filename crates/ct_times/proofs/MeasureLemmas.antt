-- What a bound measures: sums over tests, and that no order is shorter.
use Rattle.std.proofs.Common.{◌≡◌, ◌∙◌, sym, ap, subst, Bool, true, false, ℕ, suc, ◌+◌, ◌*◌, ◌/◌, ◌<◌, ◌≤◌, List, [], ◌∷◌, ◌++◌, length, take, take-suc, get_or, refl, arith}
use Rattle.std.specs.Prelude.{Option, Some, None, IsSome, bytes_eq, cond, filter, min, sum_by, unwrap_or, ◌-◌}
use Rattle.std.proofs.Math.Nat.{le-div_iff_mul-le, div-mul-le_self, mul-le-mul_left}
use Rattle.std.proofs.lemmas.Bool.{true≢false}
use Rattle.std.proofs.lemmas.List.Sums.{sum_by-cons, sum_by-append}
use Rattle.std.proofs.lemmas.List.Elements.{Contains-get_or}
use Rattle.indexmap.specs.IndexMap.{IndexMap}
use Rattle.ct_base.specs.declared.defs.Need.{Need}
use Rattle.ct_base.specs.declared.defs.Resource.{Resource}
use Rattle.ct_history.specs.declared.plan.PlanTest.{PlanTest}
use Rattle.ct_history.specs.declared.plan.PlanParts.{PlanParts}
use Rattle.ct_history.specs.declared.history.Entry.{Entry}
use Rattle.ct_history.specs.Plan.{IsSound, test_at}
use Rattle.ct_history.specs.Legal.{is_legal}
use Rattle.ct_history.proofs.PlanLemmas.{contained_at}
use Rattle.ct_times.specs.declared.bounds.Bound.{Bound}
use Rattle.ct_times.specs.declared.bounds.Capacity.{Capacity}
use Rattle.ct_times.specs.declared.bounds.Capacity.TheVariants.{Path, Processors, Wide, Lock, Slots}
use Rattle.ct_times.specs.Times.{length_of}
use Rattle.ct_times.specs.Capacity.{HaveSameWork, IsCapacity, bound, over_up, ran, work}
use Rattle.ct_times.specs.Amounts.{amount_at, amount_of, blocks, is_lone, slot_amount}
use Rattle.ct_times.specs.Works.{AreWorks, kept_at}
use Rattle.ct_times.specs.Bounds.{Done, HasThoseThatRan, IsExact, IsMeasured, IsOf, NoneIsShorter, amount_by, blocks_held, blocks_needed, blocks_taken, bound_in, done_by, done_in, size_by, amount_taken, work_by}
use Rattle.ct_times.proofs.BoundLemmas.{bound_least}
use Rattle.ct_times.proofs.CapacityLemmas.{lock_holds, processors_hold, wide_hold}
use Rattle.ct_times.proofs.PathLemmas.{path_holds}
use Rattle.ct_times.proofs.SlotLemmas.{slots_hold}

-- the first items of a list, with the next one
pub next_in : {A : Type 0} (xs : List A) (at : ℕ) (x : A) → at < length xs → x ≡ get_or xs at x → take (at + 1) xs ≡ take at xs ++ x ∷ []
next_in {A} xs at x lt is =
    let next : suc at ≡ at + 1 = omega arith in
    ap (λ (k : ℕ). take k xs) (sym next) ∙ take-suc xs at x lt ∙ ap (λ (y : A). take at xs ++ y ∷ []) (sym is)

-- a sum over the first items of a list, with the next one
pub sum_next : {A : Type 0} (f : A → ℕ) (xs : List A) (at : ℕ) (x : A) → at < length xs → x ≡ get_or xs at x → sum_by f (take (at + 1) xs) ≡ sum_by f (take at xs) + f x
sum_next f xs at x lt is =
    let none : sum_by f [] ≡ 0 = refl in
    omega (arith, ap (sum_by f) (next_in xs at x lt is), sum_by-append f (take at xs) (x ∷ []), sum_by-cons f x [], none)

taken-cons : (kind : List ℕ) (block : ℕ) (n : Need) (ns : List Need) → blocks_taken kind block (n ∷ ns) ≡ blocks_needed kind block n + blocks_taken kind block ns
taken-cons kind block n ns = by_kind (bytes_eq n.kind kind)
  where
    by_kind : (c : Bool) → sum_by (λ (m : Need). m.slots / block) (cond c (n ∷ filter (λ (m : Need). bytes_eq m.kind kind) ns) (filter (λ (m : Need). bytes_eq m.kind kind) ns)) ≡ cond c (n.slots / block) 0 + blocks_taken kind block ns
    by_kind true = sum_by-cons (λ (m : Need). m.slots / block) n (filter (λ (m : Need). bytes_eq m.kind kind) ns)
    by_kind false = omega arith

taken-snoc : (kind : List ℕ) (block : ℕ) (ns : List Need) (n : Need) → blocks_taken kind block (ns ++ n ∷ []) ≡ blocks_taken kind block ns + blocks_needed kind block n
taken-snoc kind block [] n =
    let none : blocks_taken kind block [] ≡ 0 = refl in
    omega (arith, taken-cons kind block n [], none)
taken-snoc kind block (m ∷ ms) n =
    omega (arith, taken-cons kind block m (ms ++ n ∷ []), taken-cons kind block m ms, taken-snoc kind block ms n)

-- the blocks of the first needs of a list, with the next one
pub needs_next : (kind : List ℕ) (block : ℕ) (ns : List Need) (at : ℕ) (n : Need) → at < length ns → n ≡ get_or ns at n → blocks_taken kind block (take (at + 1) ns) ≡ blocks_taken kind block (take at ns) + blocks_needed kind block n
needs_next kind block ns at n lt is = ap (blocks_taken kind block) (next_in ns at n lt is) ∙ taken-snoc kind block (take at ns) n

blocks-cons : (kind : List ℕ) (block : ℕ) (r : Resource) (rs : List Resource) → blocks kind block (r ∷ rs) ≡ blocks_held kind block r + blocks kind block rs
blocks-cons kind block r rs = by_kind (bytes_eq r.kind kind)
  where
    by_kind : (c : Bool) → sum_by (λ (q : Resource). q.slots / block) (cond c (r ∷ filter (λ (q : Resource). bytes_eq q.kind kind) rs) (filter (λ (q : Resource). bytes_eq q.kind kind) rs)) ≡ cond c (r.slots / block) 0 + blocks kind block rs
    by_kind true = sum_by-cons (λ (q : Resource). q.slots / block) r (filter (λ (q : Resource). bytes_eq q.kind kind) rs)
    by_kind false = omega arith

blocks-snoc : (kind : List ℕ) (block : ℕ) (rs : List Resource) (r : Resource) → blocks kind block (rs ++ r ∷ []) ≡ blocks kind block rs + blocks_held kind block r
blocks-snoc kind block [] r =
    let none : blocks kind block [] ≡ 0 = refl in
    omega (arith, blocks-cons kind block r [], none)
blocks-snoc kind block (q ∷ qs) r =
    omega (arith, blocks-cons kind block q (qs ++ r ∷ []), blocks-cons kind block q qs, blocks-snoc kind block qs r)

-- the blocks of the first resources of a list, with the next one
pub resources_next : (kind : List ℕ) (block : ℕ) (rs : List Resource) (at : ℕ) (r : Resource) → at < length rs → r ≡ get_or rs at r → blocks kind block (take (at + 1) rs) ≡ blocks kind block (take at rs) + blocks_held kind block r
resources_next kind block rs at r lt is = ap (blocks kind block) (next_in rs at r lt is) ∙ blocks-snoc kind block (take at rs) r

-- a sum is at most another one, where each item is
pub sum_on : {A : Type 0} (f g : A → ℕ) (xs : List A) → ((k : ℕ) (d : A) → k < length xs → f (get_or xs k d) ≤ g (get_or xs k d)) → sum_by f xs ≤ sum_by g xs
sum_on f g [] each = omega arith
sum_on f g (x ∷ xs) each =
    omega (arith, each 0 x (omega arith), sum_on f g xs (λ k d lt. each (suc k) d (omega (arith, lt))), sum_by-cons f x xs, sum_by-cons g x xs)

pub over_up_more : (m n d : ℕ) → 1 ≤ d → m ≤ n → over_up m d ≤ over_up n d
over_up_more m n d some le =
    let part : over_up m d * d ≤ n + (d - 1) = omega (arith, div-mul-le_self (m + (d - 1)) d, le) in
    (le-div_iff_mul-le {k = d} {x = over_up m d} {y = n + (d - 1)} some).1 part

module _ (plan : PlanParts) (sound : IsSound plan) where
  slots_by : (recorded : List Entry) (kind : List ℕ) (block : ℕ) (o : Option (List Resource)) → plan.resources ≡ o → IsSome o → 1 ≤ block → 1 ≤ blocks kind block (unwrap_or o []) → IsCapacity plan (blocks kind block (unwrap_or o [])) (amount_of plan recorded (blocks kind block (unwrap_or o [])) (slot_amount kind block))
  slots_by recorded kind block None given there some size = absurd (true≢false (sym there))
  slots_by recorded kind block (Some resources) given there some size = slots_hold plan recorded resources kind block sound given some size

  -- each capacity that is told is one
  pub capacity_holds : (recorded : List Entry) (done : Done) (c : Capacity) → IsOf plan done c → IsCapacity plan (size_by plan c) (amount_of plan recorded (size_by plan c) (λ (t : PlanTest). amount_taken plan.level c t))
  capacity_holds recorded done (Path path) is = path_holds plan recorded path.keys sound is
  capacity_holds recorded done Processors is = processors_hold plan recorded sound is
  capacity_holds recorded done Wide is = wide_hold plan recorded sound
  capacity_holds recorded done (Lock name sharer) is = lock_holds plan recorded name (unwrap_or sharer 0) sound
  capacity_holds recorded done (Slots kind block) is = slots_by recorded kind block plan.resources refl is.0 is.1 is.2

  module _ (recorded : List Entry) (done : Done) (c : Capacity) (is : IsOf plan done c) where
    abbrev own_size : ℕ
    own_size = size_by plan c

    abbrev law_amount : ℕ → ℕ
    law_amount test = amount_of plan recorded own_size (λ (t : PlanTest). amount_taken plan.level c t) test

    at_most : (b lone : Bool) (whole most : ℕ) → cond b (cond lone whole (min most whole)) 0 ≤ cond b (cond lone whole most) 0
    at_most true true whole most = omega arith
    at_most true false whole most = omega arith
    at_most false lone whole most = omega arith

    -- an amount that is told is at most that of the law
    amount_most : (t : PlanTest) → test_at plan.tests t.number ≡ Some t → amount_by plan.level (done_in recorded) c own_size t ≤ law_amount t.number
    amount_most t found =
        subst (λ (o : Option PlanTest). amount_by plan.level (done_in recorded) c own_size t ≤ cond (ran recorded t.number) (amount_at plan.level own_size (λ (x : PlanTest). amount_taken plan.level c x) o) 0) (sym found)
        (at_most (ran recorded t.number) (is_lone plan.level t) own_size (amount_taken plan.level c t))

    bound_most : bound_in plan (done_in recorded) c ≤ bound plan own_size law_amount recorded
    bound_most =
        over_up_more (work_by plan.level (done_in recorded) c own_size plan.tests) (sum_by (λ (t : PlanTest). work t.number recorded * law_amount t.number) plan.tests) own_size
        (capacity_holds recorded done c is).size_is_some
        (sum_on (λ (t : PlanTest). work t.number recorded * amount_by plan.level (done_in recorded) c own_size t) (λ (t : PlanTest). work t.number recorded * law_amount t.number) plan.tests
        (λ k d lt. item (get_or plan.tests k d) (contained_at 1 plan.tests (get_or plan.tests k d) sound.numbers (Contains-get_or plan.tests k d lt))))
      where
        item : (t : PlanTest) → test_at plan.tests t.number ≡ Some t → work t.number recorded * amount_by plan.level (done_in recorded) c own_size t ≤ work t.number recorded * law_amount t.number
        item t found = mul-le-mul_left (work t.number recorded) (amount_most t found)

    -- no legal history with the same work is shorter
    pub least_in : (other : List Entry) → is_legal plan other ≡ true → HaveSameWork plan recorded other → bound_in plan (done_in recorded) c ≤ length_of other
    least_in other legal same =
        omega (arith, bound_most, bound_least plan own_size law_amount recorded other sound (capacity_holds recorded done c is) legal same)

-- what a map of works says that the tests did, they did
module _ {S : Type 0} (plan : PlanParts) (works : IndexMap ℕ ℕ S) (recorded : List Entry) (are : AreWorks works recorded) (have : HasThoseThatRan works recorded) where
  summand : (c : Capacity) (size : ℕ) (t : PlanTest) → kept_at works t.number * amount_by plan.level (done_by works) c size t ≡ work t.number recorded * amount_by plan.level (done_in recorded) c size t
  summand c size t =
      ap (λ (w : ℕ). w * amount_by plan.level (done_by works) c size t) (are t.number)
      ∙ ap (λ (b : Bool). work t.number recorded * cond b (cond (is_lone plan.level t) size (min (amount_taken plan.level c t) size)) 0) (have t.number)

  sums : (c : Capacity) (size : ℕ) (tests : List PlanTest) → work_by plan.level (done_by works) c size tests ≡ work_by plan.level (done_in recorded) c size tests
  sums c size [] = refl
  sums c size (t ∷ ts) =
      omega (
        arith,
        summand c size t,
        sums c size ts,
        sum_by-cons (λ (x : PlanTest). kept_at works x.number * amount_by plan.level (done_by works) c size x) t ts,
        sum_by-cons (λ (x : PlanTest). work x.number recorded * amount_by plan.level (done_in recorded) c size x) t ts,
      )

  pub bounds_same : (c : Capacity) → bound_in plan (done_by works) c ≡ bound_in plan (done_in recorded) c
  bounds_same c = ap (λ (n : ℕ). over_up n (size_by plan c)) (sums c (size_by plan c) plan.tests)

  pub none_shorter : IsSound plan → (b : Bound) → IsMeasured plan (done_by works) b → NoneIsShorter plan recorded b
  none_shorter sound b measured other legal same =
      omega (arith, measured.micros, bounds_same b.capacity, least_in plan sound recorded (done_by works) b.capacity measured.capacity other legal same)

  pub exact : IsSound plan → (b : Bound) → IsMeasured plan (done_by works) b → IsExact plan recorded b
  exact sound b measured legal fits =
      omega (arith, fits, measured.micros, bounds_same b.capacity, least_in plan sound recorded (done_by works) b.capacity measured.capacity recorded legal (λ k d lt. refl))
