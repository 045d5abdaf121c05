-- Which locks are known and which are held, once the entry of one lock has changed.
use Rattle.std.proofs.Common.{◌≡◌, ◌∙◌, sym, ap, Bool, true, false, ℕ, List, get_or, cond, refl}
use Rattle.std.specs.Prelude.{Option, Some, All, not, ◌&&◌, ◌||◌, bytes_eq, is_some, unwrap_or}
use Rattle.std.specs.List.{list_any, list_all}
use Rattle.std.specs.declared.vec.Vec.{Vec}
use Rattle.std.proofs.Math.Bool.{or-false, or-true}
use Rattle.std.proofs.lemmas.List.Folds.{list_any_at}
use Rattle.std.proofs.lemmas.List.Sums.{list_all-from_AllPass}
use Rattle.std.proofs.lemmas.Slice.Eq.{bytes_eq-Decides}
use Rattle.indexmap.specs.IndexMap.{IndexMap, UpdatesBy}
use Rattle.ct_history.specs.declared.plan.PlanTest.{PlanTest}
use Rattle.ct_core.specs.Locks.{noted_for}
use Rattle.ct_base.specs.Names.{is_among}
use Rattle.ct_base.proofs.KeyLemmas.{kept_apart}

module _ {Y V : Type 0} where
  module _ {S : Type 0} where
    updated_by : (before now : IndexMap (Vec ℕ Y) V S) (name asked : List ℕ) (held : V) → UpdatesBy (λ (one other : Vec ℕ Y). bytes_eq one.items other.items) (λ (lock : Vec ℕ Y). bytes_eq name lock.items) before now (Some held) → (is : Bool) → bytes_eq asked name ≡ is → noted_for now asked ≡ cond is (Some held) (noted_for before asked)
    updated_by before now name asked held updates true is = ap (noted_for now) ((bytes_eq-Decides asked name).0 is) ∙ updates.1
    updated_by before now name asked held updates false is = kept_apart name asked before.entries now.entries is updates.3

    -- the entry of one lock was changed, and the entries of the others stay
    pub updated : (before now : IndexMap (Vec ℕ Y) V S) (name : List ℕ) (held : V) → UpdatesBy (λ (one other : Vec ℕ Y). bytes_eq one.items other.items) (λ (lock : Vec ℕ Y). bytes_eq name lock.items) before now (Some held) → (asked : List ℕ) → noted_for now asked ≡ cond (bytes_eq asked name) (Some held) (noted_for before asked)
    updated before now name held updates asked = updated_by before now name asked held updates (bytes_eq asked name) refl

-- one more lock is known, or the same locks are
pub known_more : {V : Type 0} (now before : Option V) (held : V) (is : Bool) → now ≡ cond is (Some held) before → is_some now ≡ (is_some before || is)
known_more now before held true same = ap is_some same ∙ sym (or-true (is_some before))
known_more now before held false same = ap is_some same ∙ sym (or-false (is_some before))

pub known_still : {V : Type 0} (now before : Option V) (held : V) (is : Bool) → now ≡ cond is (Some held) before → (is ≡ true → is_some before ≡ true) → is_some now ≡ is_some before
known_still now before held true same there = ap is_some same ∙ sym (there refl)
known_still now before held false same there = ap is_some same

pub held_now : {V W : Type 0} (part : V → W) (d : V) (now before : Option V) (held : V) (is : Bool) → now ≡ cond is (Some held) before → part (unwrap_or now d) ≡ cond is (part held) (part (unwrap_or before d))
held_now {V} part d now before held true same = ap (λ (o : Option V). part (unwrap_or o d)) same
held_now {V} part d now before held false same = ap (λ (o : Option V). part (unwrap_or o d)) same

pub none_still : {V W : Type 0} (part : V → W) (d : V) (now before : Option V) (is : Bool) → now ≡ cond is (Some d) before → part (unwrap_or before d) ≡ part d → part (unwrap_or now d) ≡ part d
none_still {V} part d now before true same none = ap (λ (o : Option V). part (unwrap_or o d)) same
none_still {V} part d now before false same none = ap (λ (o : Option V). part (unwrap_or o d)) same ∙ none

-- one more lock is held, or one is held no longer
pub held_more : (now before among is : Bool) → now ≡ cond is true (before || among) → now ≡ (before || (among || is))
held_more now true among true same = same
held_more now true among false same = same
held_more now false true true same = same
held_more now false true false same = same
held_more now false false true same = same
held_more now false false false same = same

pub held_less : (now before among is : Bool) → now ≡ cond is false (before && not among) → now ≡ (before && not (among || is))
held_less now true true true same = same
held_less now true true false same = same
held_less now true false true same = same
held_less now true false false same = same
held_less now false among true same = same
held_less now false among false same = same

-- each name of a list is among the names of the list
pub among_all : (names : List (List ℕ)) → All (λ name. is_among name names ≡ true) names
among_all names = λ k d lt. list_any_at (λ other. bytes_eq (get_or names k d) other) names k d lt ((bytes_eq-Decides (get_or names k d) (get_or names k d)).1 refl)

-- if exactly the names of these tests pass, each name of each test passes
pub named_pass : (pass : List ℕ → Bool) (names : PlanTest → List (List ℕ)) (tests : List PlanTest) → ((name : List ℕ) → pass name ≡ list_any (λ (t : PlanTest). is_among name (names t)) tests) → All (λ (t : PlanTest). list_all pass (names t) ≡ true) tests
named_pass pass names tests known = λ k d lt.
    let t = get_or tests k d in
    list_all-from_AllPass pass (names t) (λ i e within.
    let name = get_or (names t) i e in
    known name ∙ list_any_at (λ (x : PlanTest). is_among name (names x)) tests k d lt (among_all (names t) i e within))
