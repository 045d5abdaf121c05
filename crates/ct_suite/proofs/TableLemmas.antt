-- The variables and properties that are kept by their keys, and what contracts see of them.
use Rattle.std.proofs.Common.{◌≡◌, ℕ, suc, ◌+◌, ◌<◌, ◌≤◌, length, set, Bool, true, false, not, cond, bytes_eq, List, [], ◌∷◌, ◌++◌, map, take, get_or, Option, Some, refl, sym, ap, ◌∙◌, arith}
use Rattle.std.specs.Option.{option_flatten}
use Rattle.std.specs.Map.{lookup}
use Rattle.std.specs.declared.vec.Vec.{Vec}
use Rattle.std.specs.List.{prefix_len}
use Rattle.std.proofs.lemmas.List.{length-take-le, take_more}
use Rattle.std.proofs.lemmas.List.Sums.{fold_more}
use Rattle.std.proofs.lemmas.Slice.Eq.{bytes_eq-Decides}
use Rattle.indexmap.specs.IndexMap.{insert_entry}
use Rattle.ct_base.specs.declared.defs.Pair.{Pair}
use Rattle.ct_suite.specs.Values.{Variable, variable_value, with_variable}
use Rattle.ct_suite.specs.Tests.{with_prop, with_props}
use Rattle.ct_suite.specs.Props.{is_other, prop_of}
use Rattle.ct_suite.specs.Entries.{variable_of}

value_by : {Z : Type 0} (name : List ℕ) (entry : Vec ℕ Z × Option (List ℕ)) (entries : List (Vec ℕ Z × Option (List ℕ))) → option_flatten (lookup (λ (key : Vec ℕ Z). bytes_eq name key.items) entries) ≡ variable_value (map variable_of entries) name → (is : Bool) → option_flatten (cond is (Some entry.1) (lookup (λ (key : Vec ℕ Z). bytes_eq name key.items) entries)) ≡ cond is entry.1 (variable_value (map variable_of entries) name)
value_by name entry entries rest true = refl
value_by name entry entries rest false = rest

-- the value of a variable is the one that is kept by its name
pub value_of-lookup : {Z : Type 0} (name : List ℕ) (entries : List (Vec ℕ Z × Option (List ℕ))) → option_flatten (lookup (λ (key : Vec ℕ Z). bytes_eq name key.items) entries) ≡ variable_value (map variable_of entries) name
value_of-lookup name [] = refl
value_of-lookup name (entry ∷ entries) =
    value_by name entry entries (value_of-lookup name entries) (bytes_eq name entry.0.items)

-- rows by their names, each made of a key and of the value that is kept by it
module _ {Z V R : Type 0} (make : List ℕ → V → R) (name : R → List ℕ) (with_row : List R → R → List R)
    (named : (key : List ℕ) (value : V) → name (make key value) ≡ key)
    (none : (row : R) → with_row [] row ≡ row ∷ [])
    (step : (first : R) (rows : List R) (row : R) → with_row (first ∷ rows) row ≡ cond (bytes_eq (name row) (name first)) (row ∷ rows) (first ∷ with_row rows row)) where
  abbrev row_of : Vec ℕ Z × V → R
  row_of entry = make entry.0.items entry.1

  abbrev same_key : Vec ℕ Z → Vec ℕ Z → Bool
  same_key one other = bytes_eq one.items other.items

  by_key : (entry : Vec ℕ Z × V) (entries more : List (Vec ℕ Z × V)) (key : Vec ℕ Z) (value : V) (rows : List R) → map row_of more ≡ rows → (is : Bool) → same_key key entry.0 ≡ is → map row_of (cond is ((entry.0, value) ∷ entries) (entry ∷ more)) ≡ cond is (make key.items value ∷ map row_of entries) (row_of entry ∷ rows)
  by_key entry entries more key value rows rest true is =
      ap (λ k. make k value ∷ map row_of entries) (sym ((bytes_eq-Decides key.items entry.0.items).0 is))
  by_key entry entries more key value rows rest false is = ap (λ r. row_of entry ∷ r) rest

  -- inserting an entry sets the row of its name
  pub rows-insert_entry : (entries : List (Vec ℕ Z × V)) (key : Vec ℕ Z) (value : V) → map row_of (insert_entry same_key entries key value) ≡ with_row (map row_of entries) (make key.items value)
  rows-insert_entry [] key value = sym (none (make key.items value))
  rows-insert_entry (entry ∷ entries) key value =
      by_key entry entries (insert_entry same_key entries key value) key value (with_row (map row_of entries) (make key.items value)) (rows-insert_entry entries key value) (same_key key entry.0) refl
      ∙ ap (λ test. cond test (make key.items value ∷ map row_of entries) (row_of entry ∷ with_row (map row_of entries) (make key.items value))) (ap (λ k. bytes_eq k entry.0.items) (sym (named key.items value)) ∙ ap (bytes_eq (name (make key.items value))) (sym (named entry.0.items entry.1)))
      ∙ sym (step (row_of entry) (map row_of entries) (make key.items value))

-- inserting a variable sets it
pub with_variable-insert_entry : {Z : Type 0} (entries : List (Vec ℕ Z × Option (List ℕ))) (key : Vec ℕ Z) (value : Option (List ℕ)) → map variable_of (insert_entry (λ (one other : Vec ℕ Z). bytes_eq one.items other.items) entries key value) ≡ with_variable (map variable_of entries) (record { name = key.items; value = value })
with_variable-insert_entry {Z} =
    rows-insert_entry {Z = Z} (λ name value. record { name = name; value = value }) (λ (variable : Variable). variable.name) with_variable (λ key value. refl) (λ row. refl) (λ first rows row. refl)

-- inserting a property sets it
pub with_prop-insert_entry : {Z : Type 0} (entries : List (Vec ℕ Z × List ℕ)) (key : Vec ℕ Z) (value : List ℕ) → map prop_of (insert_entry (λ (one other : Vec ℕ Z). bytes_eq one.items other.items) entries key value) ≡ with_prop (map prop_of entries) (record { name = key.items; value = value })
with_prop-insert_entry {Z} =
    rows-insert_entry {Z = Z} (λ name value. record { name = name; value = value }) (λ (prop : Pair). prop.name) with_prop (λ key value. refl) (λ row. refl) (λ first rows row. refl)

place_by : (first prop : Pair) (props more : List Pair) (n : ℕ) → (n < length props → set props n prop ≡ more) → (is : Bool) → cond (not is) (1 + n) 0 < length (first ∷ props) → set (first ∷ props) (cond (not is) (1 + n) 0) prop ≡ cond is (prop ∷ props) (first ∷ more)
place_by first prop props more n rest true within = refl
place_by first prop props more n rest false within =
    let next : 1 + n ≡ suc n = omega arith in
    ap (λ k. set (first ∷ props) k prop) next ∙ ap (λ ps. first ∷ ps) (rest (omega arith))

-- a property takes the place of the one with its key
pub with_prop-place : (props : List Pair) (prop : Pair) → prefix_len (is_other prop.name) props < length props → set props (prefix_len (is_other prop.name) props) prop ≡ with_prop props prop
with_prop-place [] prop within = absurd (omega arith)
with_prop-place (first ∷ props) prop within =
    place_by first prop props (with_prop props prop) (prefix_len (is_other prop.name) props) (with_prop-place props prop) (bytes_eq prop.name first.name) within

behind_by : (first prop : Pair) (props more : List Pair) (n : ℕ) → (length props ≤ n → props ++ prop ∷ [] ≡ more) → (is : Bool) → length (first ∷ props) ≤ cond (not is) (1 + n) 0 → (first ∷ props) ++ prop ∷ [] ≡ cond is (prop ∷ props) (first ∷ more)
behind_by first prop props more n rest true within = absurd (omega arith)
behind_by first prop props more n rest false within = ap (λ ps. first ∷ ps) (rest (omega arith))

-- a property goes to the end if no other one has its key
pub with_prop-behind : (props : List Pair) (prop : Pair) → length props ≤ prefix_len (is_other prop.name) props → props ++ prop ∷ [] ≡ with_prop props prop
with_prop-behind [] prop within = refl
with_prop-behind (first ∷ props) prop within =
    behind_by first prop props (with_prop props prop) (prefix_len (is_other prop.name) props) (with_prop-behind props prop) (bytes_eq prop.name first.name) within

-- one more property at the end, with a key of its own
pub with_props-own : (props : List Pair) (at : ℕ) (prop : Pair) → at < length props → prop ≡ get_or props at prop → at ≤ prefix_len (is_other prop.name) (take at props) → with_props [] (take at props) ≡ take at props → with_props [] (take (at + 1) props) ≡ take (at + 1) props
with_props-own props at prop within is own so_far =
    let front = take at props in
    let len : length front ≡ at = length-take-le at props (omega arith) in
    fold_more with_prop [] props at prop within
    ∙ (λ i. with_prop (so_far i) (sym is i))
    ∙ sym (with_prop-behind front prop (omega (arith, len)))
    ∙ ap (λ p. front ++ p ∷ []) is
    ∙ sym (take_more props at prop within)
