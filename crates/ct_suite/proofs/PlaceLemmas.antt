-- The places kept by a key are those of the tests with that key,
-- so a change at these places changes these tests.
use Rattle.std.proofs.Common.{◌≡◌, ℕ, zero, suc, ◌+◌, ◌<◌, Bool, true, false, cond, bytes_eq, List, [], ◌∷◌, ◌++◌, map, length, get_or, set, drop, count_by, All, Option, Some, None, refl, sym, ap, ◌∙◌, subst, arith, append_assoc, length-append}
use Rattle.std.specs.Map.{lookup, set_value}
use Rattle.std.specs.declared.vec.Vec.{Vec}
use Rattle.std.proofs.lemmas.Bool.{false≢true}
use Rattle.std.proofs.lemmas.List.{at_drop_more, length-map}
use Rattle.std.proofs.lemmas.List.Elements.{All-cons}
use Rattle.std.proofs.lemmas.List.Sums.{sum_by-cons}
use Rattle.std.proofs.lemmas.Slice.Eq.{bytes_eq-Decides}
use Rattle.indexmap.specs.IndexMap.{insert_entry}
use Rattle.ct_base.specs.declared.defs.TestDef.{TestDef}
use Rattle.ct_suite.specs.Tests.{each_where}
use Rattle.ct_suite.specs.declared.places.KeyPlaces.{KeyPlaces}
use Rattle.ct_suite.specs.Entries.{places_by_key, places_of, positions, AreIndexed, changed, changed_at}

-- the places that are kept by a key; none where the key is absent
abbrev pub items_or_none : Option KeyPlaces → List ℕ
items_or_none None = []
items_or_none (Some places) = places_of places

choose_twice : (a b : Bool) (x y z : List ℕ) → a ≡ b → cond a x z ≡ cond b x (cond a y z)
choose_twice true true x y z same = refl
choose_twice false false x y z same = refl
choose_twice true false x y z same = cc
choose_twice false true x y z same = cc

choose_other : (a b : Bool) (x y z : List ℕ) → (a ≡ true → b ≡ true → ⊥) → cond a x (cond b y z) ≡ cond b y (cond a x z)
choose_other true true x y z apart = absurd (apart refl refl)
choose_other true false x y z apart = refl
choose_other false true x y z apart = refl
choose_other false false x y z apart = refl

not_both : (asked one other : List ℕ) → bytes_eq one other ≡ false → bytes_eq asked other ≡ true → bytes_eq asked one ≡ true → ⊥
not_both asked one other differ at_other at_one =
    let same : one ≡ other = sym ((bytes_eq-Decides asked one).0 at_one) ∙ (bytes_eq-Decides asked other).0 at_other in
    false≢true (sym differ ∙ (bytes_eq-Decides one other).1 same)

module _ {Y : Type 0} where
  lookup_by : (entry : Vec ℕ Y × KeyPlaces) (more : Option (KeyPlaces)) (rest : List ℕ) → items_or_none more ≡ rest → (is : Bool) → items_or_none (cond is (Some entry.1) more) ≡ cond is (places_of entry.1) rest
  lookup_by entry more rest same true = refl
  lookup_by entry more rest same false = same

  pub places_in-lookup : (key : List ℕ) (entries : List (Vec ℕ Y × KeyPlaces)) → items_or_none (lookup (λ (k : Vec ℕ Y). bytes_eq key k.items) entries) ≡ places_by_key entries key
  places_in-lookup key [] = refl
  places_in-lookup key (entry ∷ entries) =
      lookup_by entry (lookup (λ (k : Vec ℕ Y). bytes_eq key k.items) entries) (places_by_key entries key) (places_in-lookup key entries) (bytes_eq key entry.0.items)

  insert_by : (asked : List ℕ) (key : Vec ℕ Y) (value : KeyPlaces) (entry : Vec ℕ Y × KeyPlaces) (entries more : List (Vec ℕ Y × KeyPlaces)) → places_by_key more asked ≡ cond (bytes_eq asked key.items) (places_of value) (places_by_key entries asked) → (is : Bool) → bytes_eq key.items entry.0.items ≡ is
      → places_by_key (cond is ((entry.0, value) ∷ entries) (entry ∷ more)) asked ≡ cond (bytes_eq asked key.items) (places_of value) (cond (bytes_eq asked entry.0.items) (places_of entry.1) (places_by_key entries asked))
  insert_by asked key value entry entries more rest true is =
      choose_twice (bytes_eq asked entry.0.items) (bytes_eq asked key.items) (places_of value) (places_of entry.1) (places_by_key entries asked) (ap (bytes_eq asked) (sym ((bytes_eq-Decides key.items entry.0.items).0 is)))
  insert_by asked key value entry entries more rest false is =
      ap (cond (bytes_eq asked entry.0.items) (places_of entry.1)) rest
      ∙ choose_other (bytes_eq asked entry.0.items) (bytes_eq asked key.items) (places_of entry.1) (places_of value) (places_by_key entries asked) (not_both asked key.items entry.0.items is)

  -- inserting an entry sets the places of its key
  pub places_in-insert_entry : (asked : List ℕ) (entries : List (Vec ℕ Y × KeyPlaces)) (key : Vec ℕ Y) (value : KeyPlaces) → places_by_key (insert_entry (λ (one other : Vec ℕ Y). bytes_eq one.items other.items) entries key value) asked ≡ cond (bytes_eq asked key.items) (places_of value) (places_by_key entries asked)
  places_in-insert_entry asked [] key value = refl
  places_in-insert_entry asked (entry ∷ entries) key value =
      insert_by asked key value entry entries (insert_entry (λ (one other : Vec ℕ Y). bytes_eq one.items other.items) entries key value) (places_in-insert_entry asked entries key value) (bytes_eq key.items entry.0.items) refl

  noted_by : (old : List (Vec ℕ Y × KeyPlaces)) (asked key items : List ℕ) (place : ℕ) → items ≡ places_by_key old key ++ place ∷ [] → (is : Bool) → bytes_eq asked key ≡ is → cond is items (places_by_key old asked) ≡ cond is (places_by_key old asked ++ place ∷ []) (places_by_key old asked)
  noted_by old asked key items place put true is =
      put ∙ ap (λ k. places_by_key old k ++ place ∷ []) (sym ((bytes_eq-Decides asked key).0 is))
  noted_by old asked key items place put false is = refl

  set_by : (asked key : List ℕ) (value old : KeyPlaces) (entry : Vec ℕ Y × KeyPlaces) (entries more : List (Vec ℕ Y × KeyPlaces)) (found : Option (KeyPlaces)) → (found ≡ Some old → places_by_key more asked ≡ cond (bytes_eq asked key) (places_of value) (places_by_key entries asked)) → (is : Bool) → bytes_eq key entry.0.items ≡ is → cond is (Some entry.1) found ≡ Some old
      → places_by_key (cond is ((entry.0, value) ∷ entries) (entry ∷ more)) asked ≡ cond (bytes_eq asked key) (places_of value) (cond (bytes_eq asked entry.0.items) (places_of entry.1) (places_by_key entries asked))
  set_by asked key value old entry entries more found rest true is there =
      choose_twice (bytes_eq asked entry.0.items) (bytes_eq asked key) (places_of value) (places_of entry.1) (places_by_key entries asked) (ap (bytes_eq asked) (sym ((bytes_eq-Decides key entry.0.items).0 is)))
  set_by asked key value old entry entries more found rest false is there =
      ap (cond (bytes_eq asked entry.0.items) (places_of entry.1)) (rest there)
      ∙ choose_other (bytes_eq asked entry.0.items) (bytes_eq asked key) (places_of entry.1) (places_of value) (places_by_key entries asked) (not_both asked key entry.0.items is)

  -- the places of a key that is present are replaced
  places_in-set_value : (asked key : List ℕ) (entries : List (Vec ℕ Y × KeyPlaces)) (value old : KeyPlaces) → lookup (λ (k : Vec ℕ Y). bytes_eq key k.items) entries ≡ Some old → places_by_key (set_value (λ (k : Vec ℕ Y). bytes_eq key k.items) entries value) asked ≡ cond (bytes_eq asked key) (places_of value) (places_by_key entries asked)
  places_in-set_value asked key [] value old there = cc
  places_in-set_value asked key (entry ∷ entries) value old there =
      set_by asked key value old entry entries (set_value (λ (k : Vec ℕ Y). bytes_eq key k.items) entries value) (lookup (λ (k : Vec ℕ Y). bytes_eq key k.items) entries) (λ found. places_in-set_value asked key entries value old found) (bytes_eq key entry.0.items) refl there

  -- one more place is noted behind those of a key that is present
  pub places_in-more : (old now : List (Vec ℕ Y × KeyPlaces)) (asked key : List ℕ) (here pushed : KeyPlaces) (place : ℕ) → now ≡ set_value (λ (k : Vec ℕ Y). bytes_eq key k.items) old pushed → lookup (λ (k : Vec ℕ Y). bytes_eq key k.items) old ≡ Some here → (places_of pushed) ≡ places_of here ++ place ∷ []
      → places_by_key now asked ≡ cond (bytes_eq asked key) (places_by_key old asked ++ place ∷ []) (places_by_key old asked)
  places_in-more old now asked key here pushed place is there put =
      let kept : places_of here ≡ places_by_key old key = ap items_or_none (sym there) ∙ places_in-lookup key old in
      ap (λ entries. places_by_key entries asked) is
      ∙ places_in-set_value asked key old pushed here there
      ∙ noted_by old asked key (places_of pushed) place (put ∙ ap (λ places. places ++ place ∷ []) kept) (bytes_eq asked key) refl

  -- a place is noted for a key that was absent
  pub places_in-first : (old now : List (Vec ℕ Y × KeyPlaces)) (asked key : List ℕ) (own : Vec ℕ Y) (pushed : KeyPlaces) (place : ℕ) → own.items ≡ key → lookup (λ (k : Vec ℕ Y). bytes_eq key k.items) old ≡ None → now ≡ insert_entry (λ (k l : Vec ℕ Y). bytes_eq k.items l.items) old own pushed → (places_of pushed) ≡ place ∷ []
      → places_by_key now asked ≡ cond (bytes_eq asked key) (places_by_key old asked ++ place ∷ []) (places_by_key old asked)
  places_in-first old now asked key own pushed place is_own none is put =
      let nothing : [] ≡ places_by_key old key = ap items_or_none (sym none) ∙ places_in-lookup key old in
      ap (λ entries. places_by_key entries asked) is
      ∙ places_in-insert_entry asked old own pushed
      ∙ ap (λ k. cond (bytes_eq asked k) (places_of pushed) (places_by_key old asked)) is_own
      ∙ noted_by old asked key (places_of pushed) place (put ∙ ap (λ places. places ++ place ∷ []) nothing) (bytes_eq asked key) refl

positions-by : (first : ℕ) (key other : List ℕ) (keys : List (List ℕ)) (rest rest' : List ℕ) (is : Bool) (added : Bool) (last : ℕ) → rest' ≡ cond added (rest ++ last ∷ []) rest → cond is (first ∷ rest') rest' ≡ cond added (cond is (first ∷ rest) rest ++ last ∷ []) (cond is (first ∷ rest) rest)
positions-by first key other keys rest rest' true true last e = ap (λ xs. first ∷ xs) e
positions-by first key other keys rest rest' true false last e = ap (λ xs. first ∷ xs) e
positions-by first key other keys rest rest' false true last e = e
positions-by first key other keys rest rest' false false last e = e

-- one more key at the end
pub positions-snoc : (first : ℕ) (key : List ℕ) (keys : List (List ℕ)) (last : List ℕ) (place : ℕ) → place ≡ first + length keys → positions first key (keys ++ last ∷ []) ≡ cond (bytes_eq key last) (positions first key keys ++ place ∷ []) (positions first key keys)
positions-snoc first key [] last place at =
    let here : place ≡ first = omega arith in ap (λ n. cond (bytes_eq key last) (n ∷ []) []) (sym here)
positions-snoc first key (other ∷ keys) last place at =
    positions-by first key other keys (positions (first + 1) key keys) (positions (first + 1) key (keys ++ last ∷ [])) (bytes_eq key other) (bytes_eq key last) place (positions-snoc (first + 1) key keys last place (omega arith))

-- a place that is noted goes behind the other places of its key
pub AreIndexed-noted : {Y : Type 0} (old now : List (Vec ℕ Y × KeyPlaces)) (keys : List (List ℕ)) (last : List ℕ) (place : ℕ) → place ≡ length keys → ((asked : List ℕ) → places_by_key now asked ≡ cond (bytes_eq asked last) (places_by_key old asked ++ place ∷ []) (places_by_key old asked)) → AreIndexed old keys → AreIndexed now (keys ++ last ∷ [])
AreIndexed-noted old now keys last place at noted indexed key =
    noted key
    ∙ ap (λ places. cond (bytes_eq key last) (places ++ place ∷ []) places) (indexed key)
    ∙ sym (positions-snoc 0 key keys last place (omega arith))

changed-front : {A : Type 0} (change : A → A) (front : List A) (x : A) (xs : List A) → changed change (length front) (front ++ x ∷ xs) ≡ (front ++ change x ∷ []) ++ xs
changed-front change [] x xs = refl
changed-front change (y ∷ front) x xs = ap (λ rest. y ∷ rest) (changed-front change front x xs)

-- a change at the places of a key changes each item that has the key
module _ {A : Type 0} (change : A → A) (key_of : A → List ℕ) (key : List ℕ) where
  abbrev chosen : A → A
  chosen x = cond (bytes_eq key (key_of x)) (change x) x

  at_by : (front : List A) (x : A) (xs : List A) (rest : List ℕ) → ((y : A) → changed_at change rest ((front ++ y ∷ []) ++ xs) ≡ (front ++ y ∷ []) ++ map chosen xs) → (is : Bool) → changed_at change (cond is (length front ∷ rest) rest) (front ++ x ∷ xs) ≡ front ++ cond is (change x) x ∷ map chosen xs
  at_by front x xs rest later true =
      ap (changed_at change rest) (changed-front change front x xs) ∙ later (change x) ∙ append_assoc front (change x ∷ []) (map chosen xs)
  at_by front x xs rest later false =
      ap (changed_at change rest) (sym (append_assoc front (x ∷ []) xs)) ∙ later x ∙ append_assoc front (x ∷ []) (map chosen xs)

  pub changed_at-front : (first : ℕ) (front xs : List A) → first ≡ length front → changed_at change (positions first key (map key_of xs)) (front ++ xs) ≡ front ++ map chosen xs
  changed_at-front first front [] at = refl
  changed_at-front first front (x ∷ xs) at =
      ap (λ n. changed_at change (cond (bytes_eq key (key_of x)) (n ∷ positions (first + 1) key (map key_of xs)) (positions (first + 1) key (map key_of xs))) (front ++ x ∷ xs)) at
      ∙ at_by front x xs (positions (first + 1) key (map key_of xs)) (λ y. changed_at-front (first + 1) (front ++ y ∷ []) xs (omega (arith, length-append front (y ∷ [])))) (bytes_eq key (key_of x))

  pub changed_at-positions : (xs : List A) → changed_at change (positions 0 key (map key_of xs)) xs ≡ map chosen xs
  changed_at-positions xs = changed_at-front 0 [] xs refl

changed-by : {A B : Type 0} (view : A → B) (change : B → B) (place : ℕ) (xs : List A) (here now : A) → place < length xs → here ≡ get_or xs place here → view now ≡ change (view here) → map view (set xs place now) ≡ changed change place (map view xs)
changed-by view change place [] here now within is made = absurd (omega arith)
changed-by view change zero (x ∷ xs) here now within is made =
    ap (λ y. y ∷ map view xs) (made ∙ ap (λ y. change (view y)) is)
changed-by view change (suc place) (x ∷ xs) here now within is made =
    ap (λ rest. view x ∷ rest) (changed-by view change place xs here now (omega arith) is made)

-- the item at a place is replaced by its changed item
pub changed-set : {A B : Type 0} (view : A → B) (change : B → B) (place : ℕ) (xs : List A) (here now : A) → place < length xs → here ≡ get_or xs place here → view now ≡ change (view here) → map view (set xs place now) ≡ changed change place (map view xs)
changed-set = changed-by

All-none : (n : ℕ) → All (λ (place : ℕ). place < n) []
All-none n k d within = absurd (omega arith)

positions_within_by : (first : ℕ) (rest : List ℕ) (n : ℕ) (is : Bool) → first < n → All (λ place. place < n) rest → All (λ place. place < n) (cond is (first ∷ rest) rest)
positions_within_by first rest n true here all = All-cons (λ place. place < n) first rest here all
positions_within_by first rest n false here all = all

pub positions-within : (first : ℕ) (key : List ℕ) (keys : List (List ℕ)) (n : ℕ) → first + length keys ≡ n → All (λ place. place < n) (positions first key keys)
positions-within first key [] n whole = All-none n
positions-within first key (other ∷ keys) n whole =
    positions_within_by first (positions (first + 1) key keys) n (bytes_eq key other) (omega arith) (positions-within (first + 1) key keys n (omega arith))

length-by : (first : ℕ) (rest : List ℕ) (is : Bool) → length (cond is (first ∷ rest) rest) ≡ cond is 1 0 + length rest
length-by first rest true = omega arith
length-by first rest false = omega arith

pub length-positions : {A : Type 0} (first : ℕ) (key : List ℕ) (key_of : A → List ℕ) (xs : List A) → length (positions first key (map key_of xs)) ≡ count_by (λ x. bytes_eq key (key_of x)) xs
length-positions first key key_of [] = refl
length-positions first key key_of (x ∷ xs) =
    length-by first (positions (first + 1) key (map key_of xs)) (bytes_eq key (key_of x))
    ∙ ap (λ n. cond (bytes_eq key (key_of x)) 1 0 + n) (length-positions (first + 1) key key_of xs)
    ∙ sym (sum_by-cons (λ y. cond (bytes_eq key (key_of y)) 1 0) x xs)

chosen-same : {A : Type 0} (key_of : TestDef → A) (change : TestDef → TestDef) (test : TestDef) (is : Bool) → key_of (change test) ≡ key_of test → key_of (cond is (change test) test) ≡ key_of test
chosen-same key_of change test true same = same
chosen-same key_of change test false same = refl

-- a change of tests that keeps their keys
pub keys-each_where : {A : Type 0} (key_of : TestDef → A) (passes : TestDef → Bool) (change : TestDef → TestDef) → ((test : TestDef) → key_of (change test) ≡ key_of test) → (tests : List TestDef) → map key_of (each_where passes change tests) ≡ map key_of tests
keys-each_where key_of passes change same [] = refl
keys-each_where key_of passes change same (test ∷ tests) = λ i. chosen-same key_of change test (passes test) (same test) i ∷ keys-each_where key_of passes change same tests i

-- a change of tests keeps their number
pub length-each_where : (passes : TestDef → Bool) (change : TestDef → TestDef) (tests : List TestDef) → length (each_where passes change tests) ≡ length tests
length-each_where passes change tests = length-map tests (λ (test : TestDef). cond (passes test) (change test) test)

-- the next place is changed too
pub changed_at-next : (change : TestDef → TestDef) (places : List ℕ) (i : ℕ) (tests next : List TestDef) → i < length places → next ≡ changed change (get_or places i 0) tests → changed_at change (drop (i + 1) places) next ≡ changed_at change (drop i places) tests
changed_at-next change places i tests next within is =
    ap (changed_at change (drop (i + 1) places)) is
    ∙ sym (at_drop_more (λ ps. changed_at change ps tests) places i 0 within)

changed_at-push : {A : Type 0} (change : A → A) (front : List ℕ) (last : ℕ) (xs : List A) → changed_at change (front ++ last ∷ []) xs ≡ changed change last (changed_at change front xs)
changed_at-push change [] last xs = refl
changed_at-push change (place ∷ front) last xs =
    changed_at-push change front last (changed change place xs)

-- the last place is changed after the others
pub changed_at-last : {A : Type 0} (change : A → A) (places front : List ℕ) (last : ℕ) (xs : List A) → places ≡ front ++ last ∷ [] → changed change last (changed_at change front xs) ≡ changed_at change places xs
changed_at-last change places front last xs whole =
    sym (changed_at-push change front last xs) ∙ ap (λ ps. changed_at change ps xs) (sym whole)

-- a change at the places that are kept by a key changes each test with that key
pub changed-all : {Y : Type 0} (change : TestDef → TestDef) (key_of : TestDef → List ℕ) (key asked : List ℕ) (entries : List (Vec ℕ Y × KeyPlaces)) (tests : List TestDef) (places : List ℕ) → asked ≡ key → places ≡ places_by_key entries asked → AreIndexed entries (map key_of tests) → changed_at change places tests ≡ each_where (λ test. bytes_eq key (key_of test)) change tests
changed-all change key_of key asked entries tests places is found indexed =
    ap (λ ps. changed_at change ps tests) (found ∙ indexed asked ∙ ap (λ k. positions 0 k (map key_of tests)) is)
    ∙ changed_at-positions change key_of key tests

-- each place that is kept by a key is a place of a test
pub places-within : {Y : Type 0} (key_of : TestDef → List ℕ) (asked : List ℕ) (entries : List (Vec ℕ Y × KeyPlaces)) (tests : List TestDef) (places : List ℕ) (n : ℕ) → places ≡ places_by_key entries asked → AreIndexed entries (map key_of tests) → length tests ≡ n → All (λ place. place < n) places
places-within key_of asked entries tests places n found indexed len =
    let P : List ℕ → Type 0 = λ ps. All (λ place. place < n) ps in
    subst P (sym (found ∙ indexed asked)) (positions-within 0 asked (map key_of tests) n (omega (arith, length-map tests key_of)))

-- a key has as many places as there are tests with it
pub length-places : {Y : Type 0} (key_of : TestDef → List ℕ) (key asked : List ℕ) (entries : List (Vec ℕ Y × KeyPlaces)) (tests : List TestDef) (places : List ℕ) → asked ≡ key → places ≡ places_by_key entries asked → AreIndexed entries (map key_of tests) → length places ≡ count_by (λ test. bytes_eq key (key_of test)) tests
length-places key_of key asked entries tests places is found indexed =
    ap length (found ∙ indexed asked ∙ ap (λ k. positions 0 k (map key_of tests)) is) ∙ length-positions 0 key key_of tests

-- the index stays right if the keys stay the same
pub AreIndexed-same : {Y : Type 0} (entries : List (Vec ℕ Y × KeyPlaces)) (keys now : List (List ℕ)) → now ≡ keys → AreIndexed entries keys → AreIndexed entries now
AreIndexed-same entries keys now same indexed key = indexed key ∙ ap (positions 0 key) (sym same)
