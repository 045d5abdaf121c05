-- Tests that are kept in a map by names: what the map has for each name once a test was
-- added, and what it finds by names.
use Rattle.std.proofs.Common.{ℕ, ◌≡◌, Bool, true, false, cond, ◌&&◌, ◌||◌, bytes_eq, List, [], ◌∷◌, map, Option, Some, refl, sym, ap, ◌∙◌, eqb}
use Rattle.std.specs.List.{list_any, dedup, dedup_from}
use Rattle.std.specs.Borrow.{Bor}
use Rattle.std.specs.declared.vec.Vec.{Vec}
use Rattle.std.proofs.Math.Bool.{or-false}
use Rattle.indexmap.specs.IndexMap.{IndexMap, UpdatesBy, get_by}
use Rattle.std.proofs.lemmas.Slice.Eq.{bytes_eq-Decides}
use Rattle.ct_base.specs.Numbers.{is_in}
use Rattle.ct_base.proofs.NameLemmas.{bytes_eq_comm}
use Rattle.ct_base.specs.Found.{or_none}
use Rattle.ct_graph.specs.ByName.{tests_at}

or_none-cond : {Y : Type 0} (b : Bool) (tests : Vec ℕ Y) (found : Option (Vec ℕ Y)) → or_none (cond b (Some tests) found) ≡ cond b tests.items (or_none found)
or_none-cond true tests found = refl
or_none-cond false tests found = refl

-- a reference to a name
abbrev key : List ℕ → Bor (List ℕ)
key name = record { ref_ptr = (0, 0); now = name }

-- what a map has once a name was given these tests
pub tests_at-updated : {Y S : Type 0} (name : Bor (List ℕ)) (before now : IndexMap (Bor (List ℕ)) (Vec ℕ Y) S) (tests : Vec ℕ Y) → UpdatesBy (λ (x y : Bor (List ℕ)). bytes_eq x.now y.now) (λ (k : Bor (List ℕ)). bytes_eq name.now k.now) before now (Some tests) → (other : List ℕ) → tests_at now other ≡ cond (bytes_eq other name.now) tests.items (tests_at before other)
tests_at-updated name before now tests updates other =
    ap or_none (updates.0 (key other))
    ∙ or_none-cond (bytes_eq name.now other) tests (get_by (λ (k : Bor (List ℕ)). bytes_eq other k.now) before)
    ∙ ap (λ b. cond b tests.items (tests_at before other)) (bytes_eq_comm name.now other)

-- the tests of each name, where one name has one test more
pub is_in-updated : (name other : List ℕ) (tests here there : List ℕ) (test n : ℕ) → (name ≡ other → here ≡ there) → is_in tests n ≡ (is_in here n || eqb test n) → is_in (cond (bytes_eq other name) tests there) n ≡ (is_in there n || (bytes_eq other name && eqb test n))
is_in-updated name other tests here there test n same more = by (bytes_eq other name) refl
  where
    by : (b : Bool) → bytes_eq other name ≡ b → is_in (cond b tests there) n ≡ (is_in there n || (b && eqb test n))
    by true is = more ∙ ap (λ ts. is_in ts n || eqb test n) (same (sym ((bytes_eq-Decides other name).0 is)))
    by false is = sym (or-false (is_in there n))

once_more : (b c : Bool) → (b || c) ≡ (b || (b || c))
once_more true c = refl
once_more false c = refl

dedup_by : {X : Type 0} (same : X → X → Bool) (p : X → Bool) (k x : X) (xs : List X) → (same x k ≡ true → p x ≡ p k) → list_any p (dedup_from same k xs) ≡ (p k || list_any p xs) → list_any p (dedup_from same x xs) ≡ (p x || list_any p xs) → (b : Bool) → same x k ≡ b → list_any p (cond b (dedup_from same k xs) (k ∷ dedup_from same x xs)) ≡ (p k || (p x || list_any p xs))
dedup_by same p k x xs alike first second true is =
    first ∙ once_more (p k) (list_any p xs) ∙ ap (λ b. p k || (b || list_any p xs)) (sym (alike is))
dedup_by same p k x xs alike first second false is = ap (λ b. p k || b) second

dedup_any : {X : Type 0} (same : X → X → Bool) (p : X → Bool) → ((x y : X) → same x y ≡ true → p x ≡ p y) → (k : X) (xs : List X) → list_any p (dedup_from same k xs) ≡ (p k || list_any p xs)
dedup_any same p alike k [] = refl
dedup_any same p alike k (x ∷ xs) =
    dedup_by same p k x xs (alike x k) (dedup_any same p alike k xs) (dedup_any same p alike x xs) (same x k) refl

-- without repeats, some element passes a test exactly where one did, if the test treats equal elements alike
pub list_any-dedup : {X : Type 0} (same : X → X → Bool) (p : X → Bool) → ((x y : X) → same x y ≡ true → p x ≡ p y) → (xs : List X) → list_any p (dedup same xs) ≡ list_any p xs
list_any-dedup same p alike [] = refl
list_any-dedup same p alike (x ∷ xs) = dedup_any same p alike x xs

pub list_any-map : {X Y : Type 0} (h : X → Y) (p : Y → Bool) (xs : List X) → list_any p (map h xs) ≡ list_any (λ x. p (h x)) xs
list_any-map h p [] = refl
list_any-map h p (x ∷ xs) = ap (λ b. p (h x) || b) (list_any-map h p xs)
