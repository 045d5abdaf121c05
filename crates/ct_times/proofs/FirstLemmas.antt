-- The first of some items with the greatest value, with more items behind.
use Rattle.std.proofs.Common.{◌≡◌, ◌∙◌, sym, ap, subst, Bool, true, false, cond, ℕ, ◌<◌, ◌≤◌, List, [], ◌∷◌, ◌++◌, map, refl, arith, ltb-true, ltb-false}
use Rattle.std.specs.Prelude.{nat_lt}
use Rattle.std.specs.List.{AllByRecursion}
use Rattle.std.proofs.lemmas.List.{append-nil, append_assoc, map-append}
use Rattle.indexmap.specs.IndexMap.{IndexMap}
use Rattle.ct_history.specs.declared.plan.PlanParts.{PlanParts}
use Rattle.ct_history.specs.declared.history.Entry.{Entry}
use Rattle.ct_times.specs.declared.bounds.Bound.{Bound}
use Rattle.ct_times.specs.declared.bounds.Capacity.{Capacity}
use Rattle.ct_times.specs.Bounds.{Done, HasThoseThatRan, IsMeasured, done_by, done_in, greater_of}
use Rattle.ct_times.specs.Works.{AreWorks}
use Rattle.ct_times.specs.First.{Covers, IsFirstOf, held_bound}

module _ {A : Type 0} (P Q : A → Type 0) (weaker : (x : A) → P x → Q x) where
  pub each_weaker : (xs : List A) → AllByRecursion P xs → AllByRecursion Q xs
  each_weaker [] all = tt
  each_weaker (x ∷ xs) all = (weaker x all.0, each_weaker xs all.1)

module _ {A : Type 0} (P : A → Type 0) where
  pub each_of_both : (xs ys : List A) → AllByRecursion P xs → AllByRecursion P ys → AllByRecursion P (xs ++ ys)
  each_of_both [] ys all others = others
  each_of_both (x ∷ xs) ys all others = (all.0, each_of_both xs ys all.1 others)

module _ {A : Type 0} (value : A → ℕ) where
  -- a lone item is the first one
  pub first_alone : (x : A) → IsFirstOf value (x ∷ []) x
  first_alone x = record { front = []; behind = []; items_are = refl; less = tt; most = tt }

  each_most : (xs : List A) (told : A) → IsFirstOf value xs told → AllByRecursion (λ (x : A). value x ≤ value told) xs
  each_most xs told first =
      subst (λ (ys : List A). AllByRecursion (λ (x : A). value x ≤ value told) ys) (sym first.items_are)
      (each_of_both (λ (x : A). value x ≤ value told) first.front (told ∷ first.behind)
      (each_weaker (λ (x : A). value x < value told) (λ (x : A). value x ≤ value told) (λ x less. omega (arith, less)) first.front first.less)
      (omega arith, first.most))

  pub first_kept : (xs ys : List A) (one other : A) → IsFirstOf value xs one → IsFirstOf value ys other → value other ≤ value one → IsFirstOf value (xs ++ ys) one
  first_kept xs ys one other first second most = record {
    front = first.front;
    behind = first.behind ++ ys;
    items_are = ap (λ (zs : List A). zs ++ ys) first.items_are ∙ append_assoc first.front (one ∷ first.behind) ys;
    less = first.less;
    most = each_of_both (λ (x : A). value x ≤ value one) first.behind ys first.most
        (each_weaker (λ (x : A). value x ≤ value other) (λ (x : A). value x ≤ value one) (λ x le. omega (arith, le, most)) ys (each_most ys other second));
  }

  pub first_changed : (xs ys : List A) (one other : A) → IsFirstOf value xs one → IsFirstOf value ys other → value one < value other → IsFirstOf value (xs ++ ys) other
  first_changed xs ys one other first second more = record {
    front = xs ++ second.front;
    behind = second.behind;
    items_are = ap (λ (zs : List A). xs ++ zs) second.items_are ∙ sym (append_assoc xs second.front (other ∷ second.behind));
    less = each_of_both (λ (x : A). value x < value other) xs second.front
        (each_weaker (λ (x : A). value x ≤ value one) (λ (x : A). value x < value other) (λ x le. omega (arith, le, more)) xs (each_most xs one first)) second.less;
    most = second.most;
  }

  -- the first of two lists, where the first of each is known
  pub first_of_both : (xs ys : List A) (one other : A) → IsFirstOf value xs one → IsFirstOf value ys other → IsFirstOf value (xs ++ ys) (cond (nat_lt (value one) (value other)) other one)
  first_of_both xs ys one other first second = by (nat_lt (value one) (value other)) refl
    where
      by : (b : Bool) → nat_lt (value one) (value other) ≡ b → IsFirstOf value (xs ++ ys) (cond b other one)
      by true is = first_changed xs ys one other first second (ltb-true (value one) (value other) is)
      by false is = first_kept xs ys one other first second (ltb-false (value one) (value other) is)

  -- nothing behind changes nothing
  pub first_with_none : (xs : List A) (told : A) → IsFirstOf value xs told → IsFirstOf value (xs ++ []) told
  first_with_none xs told first = subst (λ (ys : List A). IsFirstOf value ys told) (sym (append-nil xs)) first

module _ {A B : Type 0} (value : B → ℕ) (f : A → B) where
  each_mapped : (P : B → Type 0) (xs : List A) → AllByRecursion (λ (x : A). P (f x)) xs → AllByRecursion P (map f xs)
  each_mapped P [] all = tt
  each_mapped P (x ∷ xs) all = (all.0, each_mapped P xs all.1)

  -- the first one of mapped items
  pub first_mapped : (xs : List A) (told : A) → IsFirstOf (λ (x : A). value (f x)) xs told → IsFirstOf value (map f xs) (f told)
  first_mapped xs told first = record {
    front = map f first.front;
    behind = map f first.behind;
    items_are = ap (map f) first.items_are ∙ map-append f first.front (told ∷ first.behind);
    less = each_mapped (λ (y : B). value y < value (f told)) first.front first.less;
    most = each_mapped (λ (y : B). value y ≤ value (f told)) first.behind first.most;
  }

-- the greater of two bounds is the first of both lists
pub first_greater : (plan : PlanParts) (done : Done) (xs ys : List Capacity) (one other : Bound) → IsMeasured plan done one → IsMeasured plan done other
    → IsFirstOf (held_bound plan done) xs one.capacity → IsFirstOf (held_bound plan done) ys other.capacity
    → IsFirstOf (held_bound plan done) (xs ++ ys) (greater_of one other).capacity
first_greater plan done xs ys one other is is' first second =
    subst (λ (c : Capacity). IsFirstOf (held_bound plan done) (xs ++ ys) c) (same (nat_lt one.micros other.micros) refl)
    (first_of_both (held_bound plan done) xs ys one.capacity other.capacity first second)
  where
    values : nat_lt (held_bound plan done one.capacity) (held_bound plan done other.capacity) ≡ nat_lt one.micros other.micros
    values = sym (ap (λ (n : ℕ). nat_lt n other.micros) is.micros ∙ ap (λ (n : ℕ). nat_lt (held_bound plan done one.capacity) n) is'.micros)

    split : (b : Bool) → cond b other.capacity one.capacity ≡ (cond b other one).capacity
    split true = refl
    split false = refl

    same : (b : Bool) → nat_lt one.micros other.micros ≡ b → cond (nat_lt (held_bound plan done one.capacity) (held_bound plan done other.capacity)) other.capacity one.capacity ≡ (greater_of one other).capacity
    same b is = ap (λ (c : Bool). cond c other.capacity one.capacity) values ∙ split (nat_lt one.micros other.micros)

-- one capacity more is covered by the greater of two bounds
pub covers_one : (plan : PlanParts) (done : Done) (old other new : Bound) (more : List Capacity) → IsMeasured plan done old → IsMeasured plan done other
    → new ≡ greater_of old other → more ≡ other.capacity ∷ [] → Covers plan done old more new
covers_one plan done old other new more is is' greater alone front first =
    subst (λ (b : Bound). IsFirstOf (held_bound plan done) (front ++ more) b.capacity) (sym greater)
    (subst (λ (cs : List Capacity). IsFirstOf (held_bound plan done) (front ++ cs) (greater_of old other).capacity) (sym alone)
    (first_greater plan done front (other.capacity ∷ []) old other is is' first (first_alone (held_bound plan done) other.capacity)))

-- no capacities more are covered by the bound itself
pub covers_none : (plan : PlanParts) (done : Done) (bound : Bound) → Covers plan done bound [] bound
covers_none plan done bound front first = first_with_none (held_bound plan done) front bound.capacity first

-- first some capacities are covered, and then more
pub covers_then : (plan : PlanParts) (done : Done) (old mid new : Bound) (xs ys : List Capacity) → Covers plan done old xs mid → Covers plan done mid ys new → Covers plan done old (xs ++ ys) new
covers_then plan done old mid new xs ys one other front first =
    subst (λ (cs : List Capacity). IsFirstOf (held_bound plan done) cs new.capacity) (append_assoc front xs ys) (other (front ++ xs) (one front first))

-- what a map of works says that the tests did is what they did
pub same_done : {S : Type 0} (works : IndexMap ℕ ℕ S) (recorded : List Entry) → AreWorks works recorded → HasThoseThatRan works recorded → done_by works ≡ done_in recorded
same_done works recorded are have = λ i. record { took = λ (test : ℕ). are test i; has_run = λ (test : ℕ). have test i }

-- the greater of two bounds is measured
pub greater_measured : (plan : PlanParts) (done : Done) (one other : Bound) → IsMeasured plan done one → IsMeasured plan done other → IsMeasured plan done (greater_of one other)
greater_measured plan done one other is is' = by (nat_lt one.micros other.micros)
  where
    by : (b : Bool) → IsMeasured plan done (cond b other one)
    by true = is'
    by false = is

-- some capacities more are covered by the greater of two bounds, where the second is the first of them
pub covers_first : (plan : PlanParts) (done : Done) (old other new : Bound) (more : List Capacity) → IsMeasured plan done old → IsMeasured plan done other
    → new ≡ greater_of old other → IsFirstOf (held_bound plan done) more other.capacity → Covers plan done old more new
covers_first plan done old other new more is is' greater first_more front first =
    subst (λ (b : Bound). IsFirstOf (held_bound plan done) (front ++ more) b.capacity) (sym greater)
    (first_greater plan done front more old other is is' first first_more)
