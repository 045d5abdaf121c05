-- A Start that waits for nothing meets each condition of a Start.
use Rattle.std.proofs.Common.{◌≡◌, ◌∙◌, sym, ap, subst, ℕ, ◌+◌, ◌-◌, Bool, true, false, List, [], ◌∷◌, ◌++◌, filter, map, fold, refl, cond, inl, inr, Option, Some, None}
use Rattle.std.specs.Prelude.{not, ◌&&◌, ◌||◌, find, is_some, is_none, option_map, option_and_then, nat_le, bytes_eq}
use Rattle.std.specs.Prelude.{IfSome, min}
use Rattle.std.specs.List.{AllByRecursion, list_all, list_any}
use Rattle.std.specs.Ordering.{is_lt, nat_cmp}
use Rattle.std.specs.Cmp.Lexicographic.{slice_cmp}
use Rattle.std.proofs.lemmas.List.Folds.{list_any-append}
use Rattle.std.proofs.lemmas.Slice.Eq.{bytes_eq-Decides}
use Rattle.std.proofs.lemmas.Bool.{and_from, and_parts, or_cases, or_left, or_parts, or_right, true≢false}
use Rattle.ct_base.specs.declared.defs.Need.{Need}
use Rattle.ct_base.specs.declared.defs.Resource.{Resource}
use Rattle.ct_base.specs.Names.{is_among, shares_name}
use Rattle.ct_alloc.specs.declared.placement.Pick.{Pick}
use Rattle.ct_alloc.specs.declared.placement.Placement.{Placement}
use Rattle.ct_alloc.specs.Placement.{fits_beside, fits_from, is_placement, slots_at}
use Rattle.ct_history.specs.declared.plan.PlanTest.{PlanTest}
use Rattle.ct_history.specs.declared.plan.PlanParts.{PlanParts}
use Rattle.ct_history.specs.declared.history.Entry.{Entry}
use Rattle.ct_history.specs.declared.history.Entry.TheVariants as Happened
use Rattle.ct_history.specs.Plan.{test_at}
use Rattle.ct_history.specs.History.{Running, has_stop, is_busy_in, open_starts, used_slots}
use Rattle.ct_history.specs.Verdicts.{verdict_of_test}
use Rattle.ct_history.specs.Rules.{exclude, first_unpassed, follows_finals, has_processors, has_room, is_excluded, is_pending, is_placed, is_ready, is_serial, locks_of, may_start, shared_of}
use Rattle.ct_history.specs.Legal.{is_allowed, is_next_attempt, is_stop_due, starts}
use Rattle.ct_history.specs.Seen.{processors_used, slots_used}
use Rattle.ct_explain.specs.declared.wait.Wait.{Wait}
use Rattle.ct_explain.specs.declared.wait.Wait.TheVariants.{Attempt, Predecessor, Serial, Processors, Lock, Resource as Slots, Worker, Nothing}
use Rattle.ct_explain.specs.Waits.{IsElseReady, MeetsEach, busy_worker, exclude_on, first_wait, full_from, full_place, holds_lock, is_excluded_on, least_lock, least_open, lesser, lesser_name, lock_wait, lock_wait_on, names, open_serial, scarce_processors, unfinished, unless, wait_of, waits_beside}

-- where the first of some waits is nothing, the first of them is none
peel : (wait : ℕ → Wait) → ((n : ℕ) → wait n ≡ Nothing → ⊥) → (o : Option ℕ) (rest : List (Option Wait)) → first_wait (option_map wait o ∷ rest) ≡ Nothing → (o ≡ None) × (first_wait rest ≡ Nothing)
peel wait some None rest is = (refl, is)
peel wait some (Some n) rest is = absurd (some n is)

holds_by : (b : Bool) (n : ℕ) → unless b n ≡ None → b ≡ true
holds_by true n is = refl
holds_by false n is = cc

module _ {W : Type 0} (verdict : ℕ → Option W) where
  all_by : (ns : List ℕ) → find (λ (j : ℕ). is_none (verdict j)) ns ≡ None → list_all (λ (j : ℕ). is_some (verdict j)) ns ≡ true
  all_by [] none = refl
  all_by (n ∷ ns) none = by (verdict n) none (all_by ns)
    where
      by : (o : Option W) → cond (is_none o) (Some n) (find (λ (j : ℕ). is_none (verdict j)) ns) ≡ None → (find (λ (j : ℕ). is_none (verdict j)) ns ≡ None → list_all (λ (j : ℕ). is_some (verdict j)) ns ≡ true) → (is_some o && list_all (λ (j : ℕ). is_some (verdict j)) ns) ≡ true
      by None none rest = cc
      by (Some v) none rest = rest none

-- a fold that keeps something has kept something of no empty list
least_some : (m : ℕ) (ns : List ℕ) → fold lesser (Some m) ns ≡ None → ⊥
least_some m [] is = cc
least_some m (n ∷ ns) is = least_some (min m n) ns is

least_none : (ns : List ℕ) → fold lesser None ns ≡ None → ns ≡ []
least_none [] is = refl
least_none (n ∷ ns) is = absurd (least_some n ns is)

name_some : (m : List ℕ) (ns : List (List ℕ)) → fold lesser_name (Some m) ns ≡ None → ⊥
name_some m [] is = cc
name_some m (n ∷ ns) is = name_some (cond (is_lt (slice_cmp nat_cmp n m)) n m) ns is

name_none : (ns : List (List ℕ)) → fold lesser_name None ns ≡ None → ns ≡ []
name_none [] is = refl
name_none (n ∷ ns) is = absurd (name_some n ns is)

nobody : (P : ℕ → Bool) (rs : List Running) → filter P (map (λ (r : Running). r.test) rs) ≡ [] → list_any (λ (r : Running). P r.test) rs ≡ false
nobody P [] none = refl
nobody P (r ∷ rs) none = by (P r.test) none (nobody P rs)
  where
    by : (b : Bool) → cond b (r.test ∷ filter P (map (λ (x : Running). x.test) rs)) (filter P (map (λ (x : Running). x.test) rs)) ≡ [] → (filter P (map (λ (x : Running). x.test) rs) ≡ [] → list_any (λ (x : Running). P x.test) rs ≡ false) → (b || list_any (λ (x : Running). P x.test) rs) ≡ false
    by true none rest = cc
    by false none rest = rest none

-- no open test meets a condition
open_none : (P : ℕ → Bool) (rs : List Running) → least_open P rs ≡ None → list_any (λ (r : Running). P r.test) rs ≡ false
open_none P rs none = nobody P rs (least_none (filter P (map (λ (r : Running). r.test) rs)) none)

none_passes : {A : Type 0} (p : A → Bool) (xs : List A) → filter p xs ≡ [] → list_any p xs ≡ false
none_passes p [] none = refl
none_passes p (x ∷ xs) none = by (p x) none (none_passes p xs)
  where
    by : (b : Bool) → cond b (x ∷ filter p xs) (filter p xs) ≡ [] → (filter p xs ≡ [] → list_any p xs ≡ false) → (b || list_any p xs) ≡ false
    by true none rest = cc
    by false none rest = rest none

module _ (p : List ℕ → Bool) (lock : List ℕ) where
  passing : (xs : List (List ℕ)) (o : Option (List ℕ)) → AllByRecursion (λ (n : List ℕ). p n ≡ true) xs → IfSome o (λ (n : List ℕ). p n ≡ true) → fold lesser_name o xs ≡ Some lock → p lock ≡ true
  passing [] None all ok is = cc
  passing [] (Some m) all ok is =
      let same : m ≡ lock = cc in
      subst (λ (n : List ℕ). p n ≡ true) same ok
  passing (x ∷ xs) None all ok is = passing xs (Some x) all.1 all.0 is
  passing (x ∷ xs) (Some m) all ok is = passing xs (Some (cond (is_lt (slice_cmp nat_cmp x m)) x m)) all.1 (either (is_lt (slice_cmp nat_cmp x m)) all.0 ok) is
    where
      either : (b : Bool) → p x ≡ true → p m ≡ true → p (cond b x m) ≡ true
      either true one other = one
      either false one other = other

  filtered : (ns : List (List ℕ)) → AllByRecursion (λ (n : List ℕ). p n ≡ true) (filter p ns)
  filtered [] = tt
  filtered (n ∷ ns) = by (p n) refl (filtered ns)
    where
      by : (b : Bool) → p n ≡ b → AllByRecursion (λ (m : List ℕ). p m ≡ true) (filter p ns) → AllByRecursion (λ (m : List ℕ). p m ≡ true) (cond b (n ∷ filter p ns) (filter p ns))
      by true is rest = (is, rest)
      by false is rest = rest

  -- the least of the names that pass a test passes it
  least_passes : (ns : List (List ℕ)) → fold lesser_name None (filter p ns) ≡ Some lock → p lock ≡ true
  least_passes ns is = passing (filter p ns) None (filtered ns) tt is

no_number : (wait : ℕ → Wait) (o : Option ℕ) → option_map wait o ≡ None → o ≡ None
no_number wait None none = refl
no_number wait (Some n) none = cc

module _ (tests : List PlanTest) (t : PlanTest) (rs : List Running) where
  -- where there is no wait for a lock, there is no lock to wait for
  no_lock : lock_wait tests t rs ≡ None → least_lock tests t rs ≡ None
  no_lock none = by (least_lock tests t rs) refl none
    where
      by : (o : Option (List ℕ)) → least_lock tests t rs ≡ o → option_and_then (lock_wait_on tests t rs) o ≡ None → o ≡ None
      by None is none = refl
      by (Some lock) is none =
          let on : ℕ → Bool = λ (x : ℕ). exclude_on lock (Some t) (test_at tests x) in
          let off : is_excluded_on tests t rs lock ≡ false = open_none on rs (no_number (λ (x : ℕ). Lock lock x) (least_open on rs) none) in
          let there : is_excluded_on tests t rs lock ≡ true = least_passes (is_excluded_on tests t rs) lock (t.locks ++ t.shared) is in
          absurd (true≢false (sym there ∙ off))

  -- then no open test excludes the test on any lock that it names
  none_on : lock_wait tests t rs ≡ None → list_any (is_excluded_on tests t rs) (t.locks ++ t.shared) ≡ false
  none_on none = none_passes (is_excluded_on tests t rs) (t.locks ++ t.shared) (name_none (filter (is_excluded_on tests t rs) (t.locks ++ t.shared)) (no_lock none))

-- a name that stands in both lists
shared_name : (xs ys : List (List ℕ)) → shares_name xs ys ≡ true → (lock : List ℕ) × (is_among lock xs ≡ true) × (is_among lock ys ≡ true)
shared_name [] ys is = cc
shared_name (x ∷ xs) ys is = elim (or_cases (is_among x ys) (shares_name xs ys) is) [
  | inl here ↦ (x, or_left (bytes_eq x x) (is_among x xs) ((bytes_eq-Decides x x).1 refl), here)
  | inr later ↦
      let rest = shared_name xs ys later in
      (rest.0, or_right (bytes_eq rest.0 x) (is_among rest.0 xs) rest.1, rest.2)
]

at_name : (q : List ℕ → Bool) (lock : List ℕ) (ns : List (List ℕ)) → is_among lock ns ≡ true → q lock ≡ true → list_any q ns ≡ true
at_name q lock [] among passes = cc
at_name q lock (n ∷ ns) among passes = elim (or_cases (bytes_eq lock n) (is_among lock ns) among) [
  | inl here ↦ or_left (q n) (list_any q ns) (subst (λ (m : List ℕ). q m ≡ true) ((bytes_eq-Decides lock n).0 here) passes)
  | inr later ↦ or_right (q n) (list_any q ns) (at_name q lock ns later passes)
]

module _ {A : Type 0} (f g : A → Bool) where
  split_any : (xs : List A) → list_any (λ (x : A). f x || g x) xs ≡ false → (list_any f xs ≡ false) × (list_any g xs ≡ false)
  split_any [] none = (refl, refl)
  split_any (x ∷ xs) none =
      let both = or_parts (f x || g x) (list_any (λ (y : A). f y || g y) xs) none in
      let here = or_parts (f x) (g x) both.0 in
      let rest = split_any xs both.1 in
      (λ i. here.0 i || rest.0 i, λ i. here.1 i || rest.1 i)

swap_any : {A B : Type 0} (f : A → B → Bool) (xs : List A) (ys : List B) → list_any (λ (x : A). list_any (f x) ys) xs ≡ false → list_any (λ (y : B). list_any (λ (x : A). f x y) xs) ys ≡ false
swap_any f xs [] none = refl
swap_any f xs (y ∷ ys) none =
    let both = split_any (λ x. f x y) (λ x. list_any (f x) ys) xs none in
    let rest = swap_any f xs ys both.1 in
    λ i. both.0 i || rest i

-- where a test and another one are not serial, and exclude each other on no lock of the test, they get along
module _ (t : PlanTest) (o : Option PlanTest) where
  first_way : (others : List (List ℕ)) → ((lock : List ℕ) → is_among lock others ≡ true → names lock o ≡ true) → shares_name t.locks others ≡ true → list_any (λ (lock : List ℕ). exclude_on lock (Some t) o) (t.locks ++ t.shared) ≡ true
  first_way others named is =
      let found = shared_name t.locks others is in
      let lock = found.0 in
      at_name (λ (l : List ℕ). exclude_on l (Some t) o) lock (t.locks ++ t.shared)
      (list_any-append (λ (n : List ℕ). bytes_eq lock n) t.locks t.shared ∙ or_left (is_among lock t.locks) (is_among lock t.shared) found.1)
      (or_left (holds_lock lock (Some t) && names lock o) (names lock (Some t) && holds_lock lock o) (and_from (holds_lock lock (Some t)) (names lock o) found.1 (named lock found.2)))

  second_way : (own : List (List ℕ)) → ((lock : List ℕ) → is_among lock own ≡ true → (names lock (Some t) ≡ true) × (is_among lock (t.locks ++ t.shared) ≡ true)) → shares_name (locks_of o) own ≡ true → list_any (λ (lock : List ℕ). exclude_on lock (Some t) o) (t.locks ++ t.shared) ≡ true
  second_way own named is =
      let found = shared_name (locks_of o) own is in
      let lock = found.0 in
      let mine = named lock found.2 in
      at_name (λ (l : List ℕ). exclude_on l (Some t) o) lock (t.locks ++ t.shared) mine.1
      (or_right (holds_lock lock (Some t) && names lock o) (names lock (Some t) && holds_lock lock o) (and_from (names lock (Some t)) (holds_lock lock o) mine.0 found.1))

  clear : (b : Bool) → (b ≡ true → list_any (λ (lock : List ℕ). exclude_on lock (Some t) o) (t.locks ++ t.shared) ≡ true) → list_any (λ (lock : List ℕ). exclude_on lock (Some t) o) (t.locks ++ t.shared) ≡ false → b ≡ false
  clear false leads none = refl
  clear true leads none = absurd (true≢false (sym (leads refl) ∙ none))

  along : (t.serial || is_serial o) ≡ false → list_any (λ (lock : List ℕ). exclude_on lock (Some t) o) (t.locks ++ t.shared) ≡ false → exclude (Some t) o ≡ false
  unfolding exclude
  along serial none =
      let both = or_parts t.serial (is_serial o) serial in
      let a = clear (shares_name t.locks (locks_of o)) (first_way (locks_of o) (λ lock there. or_left (holds_lock lock o) (is_among lock (shared_of o)) there)) none in
      let b = clear (shares_name t.locks (shared_of o)) (first_way (shared_of o) (λ lock there. or_right (holds_lock lock o) (is_among lock (shared_of o)) there)) none in
      let c = clear (shares_name (locks_of o) t.locks) (second_way t.locks (λ lock there.
      (or_left (is_among lock t.locks) (is_among lock t.shared) there, list_any-append (λ (n : List ℕ). bytes_eq lock n) t.locks t.shared ∙ or_left (is_among lock t.locks) (is_among lock t.shared) there))) none in
      let d = clear (shares_name (locks_of o) t.shared) (second_way t.shared (λ lock there.
      (or_right (is_among lock t.locks) (is_among lock t.shared) there, list_any-append (λ (n : List ℕ). bytes_eq lock n) t.locks t.shared ∙ or_right (is_among lock t.locks) (is_among lock t.shared) there))) none in
      λ i. (((a i || b i) || (c i || d i)) || both.0 i) || both.1 i

any_falls : {A : Type 0} (p q : A → Bool) → ((x : A) → q x ≡ false → p x ≡ false) → (xs : List A) → list_any q xs ≡ false → list_any p xs ≡ false
any_falls p q leads [] none = refl
any_falls p q leads (x ∷ xs) none =
    let both = or_parts (q x) (list_any q xs) none in
    let here = leads x both.0 in
    let rest = any_falls p q leads xs both.1 in
    λ i. here i || rest i

any_both : {A : Type 0} (f g : A → Bool) (xs : List A) → list_any f xs ≡ false → list_any g xs ≡ false → list_any (λ (x : A). f x || g x) xs ≡ false
any_both f g [] one other = refl
any_both f g (x ∷ xs) one other =
    let here = or_parts (f x) (list_any f xs) one in
    let there = or_parts (g x) (list_any g xs) other in
    let rest = any_both f g xs here.1 there.1 in
    λ i. (here.0 i || there.0 i) || rest i

-- no open test excludes a test that waits for no serial test and for no lock
none_excludes : (tests : List PlanTest) (t : PlanTest) (rs : List Running) → open_serial tests t rs ≡ None → lock_wait tests t rs ≡ None → list_any (λ (r : Running). exclude (Some t) (test_at tests r.test)) rs ≡ false
none_excludes tests t rs serial lock =
    let alone : Running → Bool = λ (r : Running). t.serial || is_serial (test_at tests r.test) in
    let on : Running → Bool = λ (r : Running). list_any (λ (l : List ℕ). exclude_on l (Some t) (test_at tests r.test)) (t.locks ++ t.shared) in
    let first = open_none (λ (x : ℕ). t.serial || is_serial (test_at tests x)) rs serial in
    let second = swap_any (λ (l : List ℕ) (r : Running). exclude_on l (Some t) (test_at tests r.test)) (t.locks ++ t.shared) rs (none_on tests t rs lock) in
    any_falls (λ (r : Running). exclude (Some t) (test_at tests r.test)) (λ (r : Running). alone r || on r)
    (λ r none. (let both = or_parts (alone r) (on r) none in along t (test_at tests r.test) both.0 both.1)) rs (any_both alone on rs first second)

fits_by : (place : ℕ) (rs : List Resource) (used : ℕ → ℕ) (picks : List Pick) → full_from place rs used picks ≡ None → fits_from place rs used picks ≡ true
fits_by place [] used picks none = refl
fits_by place (r ∷ rs) used picks none = by (nat_le (used place + slots_at place picks) r.slots) none (fits_by (place + 1) rs used picks)
  where
    by : (b : Bool) → cond b (full_from (place + 1) rs used picks) (Some place) ≡ None → (full_from (place + 1) rs used picks ≡ None → fits_from (place + 1) rs used picks ≡ true) → (b && fits_from (place + 1) rs used picks) ≡ true
    by true none rest = rest none
    by false none rest = cc

-- a placement that is right where no slot is used is right where it fits
placed_beside : (resources : Option (List Resource)) (needs : List Need) (used : ℕ → ℕ) (placement : Option Placement) → is_placed resources needs (λ (place : ℕ). 0) placement ≡ true → full_place resources used placement ≡ None → is_placed resources needs used placement ≡ true
placed_beside None needs used placement right none = right
placed_beside (Some rs) [] used placement right none = right
placed_beside (Some rs) (need ∷ needs) used None right none = cc
placed_beside (Some rs) (need ∷ needs) used (Some p) right none =
    and_from (is_placement rs (need ∷ needs) p.picks) (fits_beside rs used p.picks)
    (and_parts (is_placement rs (need ∷ needs) p.picks) (fits_beside rs (λ (place : ℕ). 0) p.picks) right).0 (fits_by 0 rs used p.picks none)

not_by : (b : Bool) → not b ≡ true → b ≡ false
not_by false is = refl
not_by true is = cc

pub meets_each : (plan : PlanParts) (front : List Entry) (t : PlanTest) (attempt worker : ℕ) (placement : Option Placement) → wait_of plan front t attempt worker placement ≡ Nothing → MeetsEach plan front t attempt worker placement
meets_each plan front t attempt worker placement nothing =
    let rs = open_starts front in
    let one = peel Attempt (λ n is. cc) (unless (is_next_attempt t attempt front) (attempt - 1)) (option_map Predecessor (unfinished plan t front) ∷ waits_beside plan rs t worker placement) nothing in
    let two = peel Predecessor (λ n is. cc) (unfinished plan t front) (waits_beside plan rs t worker placement) one.1 in
    let three = peel Serial (λ n is. cc) (open_serial plan.tests t rs) (option_map Processors (scarce_processors plan t rs) ∷ lock_wait plan.tests t rs ∷ option_map Slots (full_place plan.resources (slots_used rs) placement) ∷ option_map Worker (busy_worker worker rs) ∷ []) two.1 in
    let four = peel Processors (λ n is. cc) (scarce_processors plan t rs) (lock_wait plan.tests t rs ∷ option_map Slots (full_place plan.resources (slots_used rs) placement) ∷ option_map Worker (busy_worker worker rs) ∷ []) three.1 in
    let five = no_lock_wait plan.tests t rs (option_map Slots (full_place plan.resources (slots_used rs) placement) ∷ option_map Worker (busy_worker worker rs) ∷ []) four.1 in
    let six = peel Slots (λ n is. cc) (full_place plan.resources (slots_used rs) placement) (option_map Worker (busy_worker worker rs) ∷ []) five.1 in
    let seven = peel Worker (λ n is. cc) (busy_worker worker rs) [] six.1 in
    record {
      next = holds_by (is_next_attempt t attempt front) (attempt - 1) one.0;
      final = all_by (verdict_of_test plan front) t.before two.0;
      apart = none_excludes plan.tests t rs three.0 five.0;
      processors = holds_by (nat_le (t.processors + processors_used plan.tests rs) plan.level) (processors_used plan.tests rs) four.0;
      fits = six.0;
      idle = not_by (is_busy_in worker front) (holds_by (not (is_busy_in worker front)) worker seven.0);
    }
  where
    no_lock_wait : (tests : List PlanTest) (x : PlanTest) (rs : List Running) (rest : List (Option Wait)) → first_wait (lock_wait tests x rs ∷ rest) ≡ Nothing → (lock_wait tests x rs ≡ None) × (first_wait rest ≡ Nothing)
    no_lock_wait tests x rs rest is = by (least_lock tests x rs) is
      where
        on_lock : (lock : List ℕ) (o : Option ℕ) → first_wait (option_map (λ n. Lock lock n) o ∷ rest) ≡ Nothing → (option_map (λ n. Lock lock n) o ≡ None) × (first_wait rest ≡ Nothing)
        on_lock lock None is = (refl, is)
        on_lock lock (Some n) is = cc

        by : (o : Option (List ℕ)) → first_wait (option_and_then (lock_wait_on tests x rs) o ∷ rest) ≡ Nothing → (option_and_then (lock_wait_on tests x rs) o ≡ None) × (first_wait rest ≡ Nothing)
        by None is = (refl, is)
        by (Some lock) is = on_lock lock (least_open (λ y. exclude_on lock (Some x) (test_at tests y)) rs) is

-- a Start that waits for nothing, and that nothing else forbids, is allowed
pub allowed_by_nothing : (plan : PlanParts) (front : List Entry) (t : PlanTest) (attempt worker : ℕ) (placement : Option Placement) → test_at plan.tests t.number ≡ Some t → IsElseReady plan front t placement → wait_of plan front t attempt worker placement ≡ Nothing
    → is_allowed plan front (Happened.Start t.number attempt worker placement) ≡ true
allowed_by_nothing plan front t attempt worker placement found ready nothing =
    let meets = meets_each plan front t attempt worker placement nothing in
    let setups : is_none (first_unpassed plan t front) ≡ true = ap is_none ready.setups in
    let fixed : is_none t.fixed ≡ true = ap is_none ready.fixed in
    let placed = placed_beside plan.resources t.needs (used_slots front) placement ready.placed meets.fits in
    let is_ready' = and_from (follows_finals plan t front && is_none (first_unpassed plan t front)) (is_none t.fixed) (and_from (follows_finals plan t front) (is_none (first_unpassed plan t front)) meets.final setups) fixed in
    let room = and_from (has_processors plan t front) (not (is_excluded plan.tests t front)) meets.processors (ap not meets.apart) in
    let goes_on = and_from (not (has_stop front)) (is_pending plan t front) (ap not ready.goes_on) ready.pending in
    let may = and_from (not (has_stop front) && is_pending plan t front && is_ready plan t front && has_room plan t front) (is_placed plan.resources t.needs (used_slots front) placement)
    (and_from (not (has_stop front) && is_pending plan t front && is_ready plan t front) (has_room plan t front) (and_from (not (has_stop front) && is_pending plan t front) (is_ready plan t front) goes_on is_ready') room) placed in
    let started : starts plan front attempt placement (Some t) ≡ true = and_from (may_start plan t placement front) (is_next_attempt t attempt front) may meets.next in
    and_from (not (is_stop_due plan front) && starts plan front attempt placement (test_at plan.tests t.number)) (not (is_busy_in worker front))
    (and_from (not (is_stop_due plan front)) (starts plan front attempt placement (test_at plan.tests t.number)) (ap not ready.no_stop_due) (subst (λ (o : Option PlanTest). starts plan front attempt placement o ≡ true) (sym found) started)) (ap not meets.idle)
