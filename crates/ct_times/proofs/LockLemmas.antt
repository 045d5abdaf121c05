-- What the code keeps of each lock in a map, with one name more.
use Rattle.std.proofs.Common.{◌≡◌, ◌∙◌, sym, ap, Bool, true, false, cond, ℕ, ◌+◌, ◌<◌, List, get_or, length, take, refl}
use Rattle.std.specs.Prelude.{Option, Some, bytes_eq, nat_le, not, unwrap_or, ◌==◌, ◌&&◌, ◌||◌}
use Rattle.std.specs.Borrow.{Bor}
use Rattle.std.proofs.lemmas.Slice.Eq.{bytes_eq-Decides}
use Rattle.indexmap.specs.IndexMap.{IndexMap, UpdatesBy, get_by}
use Rattle.ct_base.specs.Names.{is_among}
use Rattle.ct_base.proofs.NameLemmas.{bytes_eq_comm}
use Rattle.ct_times.specs.declared.locks.LockWork.{LockWork}
use Rattle.ct_times.specs.Locks.{held_new, held_with, lock_at, no_work, shared_new, shared_with}
use Rattle.ct_times.proofs.RanLemmas.{any_next}
use Rattle.ct_times.proofs.WalkLemmas.{self}

cond_same : (b : Bool) (w : LockWork) → cond b w w ≡ w
cond_same true w = refl
cond_same false w = refl

-- a test that is added twice counts once
held_again : (test work : ℕ) (w : LockWork) → held_with (held_with w test work) test work ≡ held_with w test work
held_again test work w = by (w.holder == test) refl
  where
    by : (b : Bool) → (w.holder == test) ≡ b → held_with (held_with w test work) test work ≡ held_with w test work
    by true is = ap (λ (x : LockWork). held_with x test work) (ap (λ (b : Bool). cond b w (held_new w test work)) is)
    by false is =
        let new = held_new w test work in
        let kept : held_with w test work ≡ new = ap (λ (b : Bool). cond b w new) is in
        ap (λ (x : LockWork). held_with x test work) kept ∙ ap (λ (b : Bool). cond b new (held_new new test work)) (self test) ∙ sym kept

-- a test that is offered twice counts once
shared_again : (test work : ℕ) (w : LockWork) → shared_with (shared_with w test work) test work ≡ shared_with w test work
shared_again test work w = by (not (w.sharer == 0) && nat_le work w.shared) refl
  where
    by : (b : Bool) → (not (w.sharer == 0) && nat_le work w.shared) ≡ b → shared_with (shared_with w test work) test work ≡ shared_with w test work
    by true is = ap (λ (x : LockWork). shared_with x test work) (ap (λ (b : Bool). cond b w (shared_new w test work)) is)
    by false is =
        let new = shared_new w test work in
        let kept : shared_with w test work ≡ new = ap (λ (b : Bool). cond b w new) is in
        ap (λ (x : LockWork). shared_with x test work) kept ∙ cond_same (not (test == 0) && nat_le work work) new ∙ sym kept

unwrap_cond : (b : Bool) (work : LockWork) (o : Option LockWork) → unwrap_or (cond b (Some work) o) no_work ≡ cond b work (unwrap_or o no_work)
unwrap_cond true work o = refl
unwrap_cond false work o = refl

-- a reference to a name
abbrev key : List ℕ → Bor (List ℕ)
key name = record { ref_ptr = (0, 0); now = name }

-- what a map has once the work of a lock was put
pub lock_at-updated : {S : Type 0} (name : Bor (List ℕ)) (before now : IndexMap (Bor (List ℕ)) LockWork S) (work : LockWork)
    → UpdatesBy (λ (x y : Bor (List ℕ)). bytes_eq x.now y.now) (λ (k : Bor (List ℕ)). bytes_eq name.now k.now) before now (Some work)
    → (other : List ℕ) → lock_at now other ≡ cond (bytes_eq other name.now) work (lock_at before other)
lock_at-updated name before now work updates other =
    ap (λ (o : Option LockWork). unwrap_or o no_work) (updates.0 (key other))
    ∙ unwrap_cond (bytes_eq name.now other) work (get_by (λ (k : Bor (List ℕ)). bytes_eq other k.now) before)
    ∙ ap (λ (b : Bool). cond b work (lock_at before other)) (bytes_eq_comm name.now other)

-- what a map has of a lock, where the locks among some names are changed, with one name more
module _ (change : LockWork → LockWork) (again : (w : LockWork) → change (change w) ≡ change w) where
  twice : (b : Bool) (w : LockWork) → change (cond b (change w) w) ≡ change w
  twice true w = again w
  twice false w = refl

  or_true : (b : Bool) → (b || true) ≡ true
  or_true true = refl
  or_true false = refl

  or_false : (b : Bool) → (b || false) ≡ b
  or_false true = refl
  or_false false = refl

  pub changed_next : (was now before : List ℕ → LockWork) (names : List (List ℕ)) (at : ℕ) (name : List ℕ) (value : LockWork) → at < length names → name ≡ get_or names at name
      → value ≡ change (was name) → ((lock : List ℕ) → was lock ≡ cond (is_among lock (take at names)) (change (before lock)) (before lock))
      → ((lock : List ℕ) → now lock ≡ cond (bytes_eq lock name) value (was lock))
      → (lock : List ℕ) → now lock ≡ cond (is_among lock (take (at + 1) names)) (change (before lock)) (before lock)
  changed_next was now before names at name value within is value_is kept put lock = by (bytes_eq lock name) refl
    where
      among : is_among lock (take (at + 1) names) ≡ (is_among lock (take at names) || bytes_eq lock name)
      among = any_next (λ (other : List ℕ). bytes_eq lock other) names at name within is

      by : (b : Bool) → bytes_eq lock name ≡ b → now lock ≡ cond (is_among lock (take (at + 1) names)) (change (before lock)) (before lock)
      by true same =
          let one : lock ≡ name = (bytes_eq-Decides lock name).0 same in
          put lock
          ∙ ap (λ (b : Bool). cond b value (was lock)) same
          ∙ value_is
          ∙ ap (λ (n : List ℕ). change (was n)) (sym one)
          ∙ ap change (kept lock)
          ∙ twice (is_among lock (take at names)) (before lock)
          ∙ sym (ap (λ (b : Bool). cond b (change (before lock)) (before lock)) (among ∙ ap (λ (b : Bool). is_among lock (take at names) || b) same ∙ or_true (is_among lock (take at names))))
      by false other =
          put lock
          ∙ ap (λ (b : Bool). cond b value (was lock)) other
          ∙ kept lock
          ∙ sym (ap (λ (b : Bool). cond b (change (before lock)) (before lock)) (among ∙ ap (λ (b : Bool). is_among lock (take at names) || b) other ∙ or_false (is_among lock (take at names))))

-- a test holds one lock more
pub held_next : {S : Type 0} (was now before : IndexMap (Bor (List ℕ)) LockWork S) (names : List (List ℕ)) (at : ℕ) (name : List ℕ) (test work : ℕ) (value : LockWork) → at < length names → name ≡ get_or names at name
    → value ≡ held_with (lock_at was name) test work → ((lock : List ℕ) → lock_at was lock ≡ cond (is_among lock (take at names)) (held_with (lock_at before lock) test work) (lock_at before lock))
    → ((lock : List ℕ) → lock_at now lock ≡ cond (bytes_eq lock name) value (lock_at was lock))
    → (lock : List ℕ) → lock_at now lock ≡ cond (is_among lock (take (at + 1) names)) (held_with (lock_at before lock) test work) (lock_at before lock)
held_next was now before names at name test work value within is value_is kept put lock =
    changed_next (λ (w : LockWork). held_with w test work) (held_again test work) (lock_at was) (lock_at now) (lock_at before) names at name value within is value_is kept put lock

-- a test shares one lock more
pub shared_next : {S : Type 0} (was now before : IndexMap (Bor (List ℕ)) LockWork S) (names : List (List ℕ)) (at : ℕ) (name : List ℕ) (test work : ℕ) (value : LockWork) → at < length names → name ≡ get_or names at name
    → value ≡ shared_with (lock_at was name) test work → ((lock : List ℕ) → lock_at was lock ≡ cond (is_among lock (take at names)) (shared_with (lock_at before lock) test work) (lock_at before lock))
    → ((lock : List ℕ) → lock_at now lock ≡ cond (bytes_eq lock name) value (lock_at was lock))
    → (lock : List ℕ) → lock_at now lock ≡ cond (is_among lock (take (at + 1) names)) (shared_with (lock_at before lock) test work) (lock_at before lock)
shared_next was now before names at name test work value within is value_is kept put lock =
    changed_next (λ (w : LockWork). shared_with w test work) (shared_again test work) (lock_at was) (lock_at now) (lock_at before) names at name value within is value_is kept put lock
