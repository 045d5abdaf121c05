-- What the readers of words keep, case by case.
use Rattle.std.proofs.Common.{◌≡◌, ℕ, Bool, true, false, cond, List, [], ◌∷◌, ◌++◌, Option, Some, None, option_map, refl, sym, ap, ◌∙◌, append_assoc, append-nil, slice_get, get_or, take, drop, length, fold, ◌+◌, ◌-◌, ◌<◌, arith}
use Rattle.std.proofs.lemmas.List.{flat_map_more, take_all, take_more}
use Rattle.std.specs.List.{flat_map, join_with_byte}
use Rattle.ct_base.specs.declared.defs.Pair.{Pair}
use Rattle.ct_base.specs.Names.{with_new_name}
use Rattle.ct_suite.specs.Words.{names_and_pairs, pairs_of, is_properties, list_value}

-- joined values are the first value, and then each other one behind the byte
pub join_with_byte-flat_map : (byte : ℕ) (first : List ℕ) (rest : List (List ℕ)) → join_with_byte byte (first ∷ rest) ≡ first ++ flat_map (λ value. byte ∷ value) rest
join_with_byte-flat_map byte first [] = sym (append-nil first)
join_with_byte-flat_map byte first (next ∷ rest) =
    ap (λ joined. first ++ (byte ∷ joined)) (join_with_byte-flat_map byte next rest)

-- what one more item adds goes behind what those before it add
pub flat_map-next : {X A : Type 0} (f : X → List A) (front : List A) (xs : List X) (i : ℕ) (x : X) (now next : List A) → i < length xs → x ≡ get_or xs i x → now ≡ front ++ flat_map f (take i xs) → next ≡ now ++ f x → next ≡ front ++ flat_map f (take (i + 1) xs)
flat_map-next f front xs i x now next within is so_far made =
    made
    ∙ ap (λ items. items ++ f x) so_far
    ∙ flat_map_more f front (take i xs) x
    ∙ ap (λ items. front ++ flat_map f items) (ap (λ item. take i xs ++ item ∷ []) is ∙ sym (take_more xs i x within))

-- fewer than two names are all different
pub few_distinct : (names : List (List ℕ)) → length names < 2 → names ≡ fold with_new_name [] names
few_distinct [] few = refl
few_distinct (name ∷ []) few = refl
few_distinct (name ∷ next ∷ names) few = absurd (omega (arith, few))

pairs_by : (pairs : List Pair) (pair : Pair) (read : Option (List Pair)) → option_map (λ (more : List Pair). pairs ++ more) (option_map (λ (more : List Pair). pair ∷ more) read) ≡ option_map (λ (more : List Pair). (pairs ++ pair ∷ []) ++ more) read
pairs_by pairs pair None = refl
pairs_by pairs pair (Some more) = ap Some (sym (append_assoc pairs (pair ∷ []) more))

-- one more pair is read behind the others
pub pairs_of-more : (pairs : List Pair) (name value : List ℕ) (rest : List (List ℕ)) → option_map (λ more. pairs ++ more) (pairs_of (name ∷ value ∷ rest)) ≡ option_map (λ more. (pairs ++ record { name = name; value = value } ∷ []) ++ more) (pairs_of rest)
pairs_of-more pairs name value rest = pairs_by pairs (record { name = name; value = value }) (pairs_of rest)

-- names, and the properties behind them
abbrev pub Read : Type 0
Read = List (List ℕ) × List Pair

abbrev pub behind_names : List (List ℕ) → Read → Read
behind_names names read = (names ++ read.0, read.1)

abbrev pub with_pairs : List (List ℕ) → List Pair → Read
with_pairs names pairs = (names, pairs)

names_by : (names : List (List ℕ)) (value : List ℕ) (is : Bool) (found read : Option Read) → is ≡ false → option_map (behind_names names) (cond is found (option_map (behind_names (value ∷ [])) read)) ≡ option_map (behind_names (names ++ value ∷ [])) read
names_by names value true found read not_it = cc
names_by names value false found None not_it = refl
names_by names value false found (Some read) not_it =
    ap (λ ns. Some (with_pairs ns read.1)) (sym (append_assoc names (value ∷ []) read.0))

-- one more name is read in front of PROPERTIES
pub names_and_pairs-more : (names rest : List (List ℕ)) (value : List ℕ) → is_properties value ≡ false → option_map (behind_names names) (names_and_pairs (value ∷ rest)) ≡ option_map (behind_names (names ++ value ∷ [])) (names_and_pairs rest)
names_and_pairs-more names rest value not_it =
    names_by names value (is_properties value) (option_map (with_pairs []) (pairs_of rest)) (names_and_pairs rest) not_it

found_by : (names : List (List ℕ)) (is : Bool) (more : Option Read) (read : Option (List Pair)) → is ≡ true → option_map (behind_names names) (cond is (option_map (with_pairs []) read) more) ≡ option_map (with_pairs names) read
found_by names false more read is_it = cc
found_by names true more None is_it = refl
found_by names true more (Some pairs) is_it = ap (λ ns. Some (with_pairs ns pairs)) (append-nil names)

-- PROPERTIES is read, and then what stands behind it
pub names_and_pairs-found : (names rest : List (List ℕ)) (value : List ℕ) → is_properties value ≡ true → option_map (behind_names names) (names_and_pairs (value ∷ rest)) ≡ option_map (with_pairs names) (pairs_of rest)
names_and_pairs-found names rest value is_it =
    found_by names (is_properties value) (option_map (behind_names (value ∷ [])) (names_and_pairs rest)) (pairs_of rest) is_it

-- the values joined, if there is a first one
pub list_value-first : (values : List (List ℕ)) (first : List ℕ) → Some first ≡ slice_get values 0 → list_value values ≡ Some (first ++ flat_map (λ value. 59 ∷ value) (take (length values - 1) (drop 1 values)))
list_value-first [] first is = cc
list_value-first (value ∷ values) first is =
    let same : first ≡ value = cc in
    let all : take (length (value ∷ values) - 1) values ≡ values = take_all (length (value ∷ values) - 1) values (omega arith) in
    ap Some (join_with_byte-flat_map 59 value values)
    ∙ (λ i. Some (sym same i ++ flat_map (λ w. 59 ∷ w) (sym all i)))
