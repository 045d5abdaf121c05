-- Variables that are kept in a map by their names, and what contracts see of them.
use Rattle.std.proofs.Common.{ℕ, ◌≡◌, Bool, true, false, cond, bytes_eq, List, [], ◌∷◌, map, Option, Some, None, option_map, refl, sym, ap, ◌∙◌}
use Rattle.std.specs.List.{find, AllByRecursion, AllZip}
use Rattle.std.specs.List.Sorted.{IsStrictlySortedBy}
use Rattle.std.specs.Map.{keys_of, lookup, remove_entry}
use Rattle.std.specs.BTreeMap.{insert_entry}
use Rattle.std.specs.Cmp.{tied_itself}
use Rattle.std.specs.Cmp.Lexicographic.{slice_cmp, nat_list_cmp_total}
use Rattle.std.specs.Ordering.{nat_cmp, is_eq, match_ordering}
use Rattle.std.specs.declared.cmp.Ordering.{Ordering}
use Rattle.std.specs.declared.cmp.Ordering.TheVariants.{Less, Equal, Greater}
use Rattle.std.specs.declared.vec.Vec.{Vec}
use Rattle.std.proofs.lemmas.Bool.{true≢false}
use Rattle.std.proofs.lemmas.Map.Lookups.{exact_bytes}
use Rattle.std.proofs.lemmas.Slice.Eq.{bytes_eq-Decides}
use Rattle.ct_base.specs.declared.defs.Pair.{Pair}
use Rattle.ct_base.proofs.TruthLemmas.{same_truth}
use Rattle.ct_base.proofs.NameLemmas.{by_bytes, same_name}
use Rattle.ct_base.proofs.OptionLemmas.{apart, twice}
use Rattle.ct_props.specs.Values.{value_of_key}
use Rattle.ct_env.specs.Environment.{IsAscending}
use Rattle.ct_env.specs.Variables.{pair_of}

abbrev by_name : {Y : Type 0} → Vec ℕ Y → Vec ℕ Y → Ordering
by_name one other = by_bytes one.items other.items

-- the value of a name is that of the first pair, if that has the name, else that of the others
value_of_key-cons : (pair : Pair) (pairs : List Pair) (name : List ℕ) → value_of_key (pair ∷ pairs) name ≡ cond (bytes_eq pair.name name) (Some pair.value) (value_of_key pairs name)
value_of_key-cons pair pairs name = by (bytes_eq pair.name name)
  where
    by : (is : Bool) → option_map (λ (p : Pair). p.value) (cond is (Some pair) (find (λ (p : Pair). bytes_eq p.name name) pairs)) ≡ cond is (Some pair.value) (value_of_key pairs name)
    by true = refl
    by false = refl

value_by : {Z : Type 0} (value : Vec ℕ Z) (found : Option (Vec ℕ Z)) (is : Bool) → option_map (λ (v : Vec ℕ Z). v.items) (cond is (Some value) found) ≡ cond is (Some value.items) (option_map (λ (v : Vec ℕ Z). v.items) found)
value_by value found true = refl
value_by value found false = refl

nothing : (is : Bool) (found : Option (List ℕ)) → found ≡ None → found ≡ cond is None found
nothing true found none = none
nothing false found none = refl

module _ {Y Z : Type 0} where
  -- the value that the variables have at a name
  abbrev seen : List (Vec ℕ Y × Vec ℕ Z) → List ℕ → Option (List ℕ)
  seen entries name = value_of_key (map pair_of entries) name

  seen-cons : (entry : Vec ℕ Y × Vec ℕ Z) (entries : List (Vec ℕ Y × Vec ℕ Z)) (name : List ℕ) → seen (entry ∷ entries) name ≡ cond (bytes_eq entry.0.items name) (Some entry.1.items) (seen entries name)
  seen-cons entry entries name = value_of_key-cons (pair_of entry) (map pair_of entries) name

  -- a variable's value is what its name is kept with
  pub value_of_key-lookup : (name : List ℕ) (entries : List (Vec ℕ Y × Vec ℕ Z)) → option_map (λ (v : Vec ℕ Z). v.items) (lookup (λ (key : Vec ℕ Y). is_eq (slice_cmp nat_cmp name key.items)) entries) ≡ value_of_key (map pair_of entries) name
  value_of_key-lookup name [] = refl
  value_of_key-lookup name (entry ∷ entries) =
      value_by entry.1 (lookup (λ (key : Vec ℕ Y). is_eq (by_bytes name key.items)) entries) (is_eq (by_bytes name entry.0.items))
      ∙ ap (λ found. cond (is_eq (by_bytes name entry.0.items)) (Some entry.1.items) found) (value_of_key-lookup name entries)
      ∙ ap (λ is. cond is (Some entry.1.items) (seen entries name)) (same_name name entry.0.items)
      ∙ sym (seen-cons entry entries name)

  insert-by : (entry : Vec ℕ Y × Vec ℕ Z) (entries more : List (Vec ℕ Y × Vec ℕ Z)) (key : Vec ℕ Y) (value : Vec ℕ Z) (other : List ℕ) → seen more other ≡ cond (bytes_eq key.items other) (Some value.items) (seen entries other) → (order : Ordering) → by_name key entry.0 ≡ order → seen (match_ordering order ((key, value) ∷ entry ∷ entries) ((entry.0, value) ∷ entries) (entry ∷ more)) other ≡ cond (bytes_eq key.items other) (Some value.items) (seen (entry ∷ entries) other)
  insert-by entry entries more key value other rest Less is = seen-cons (key, value) (entry ∷ entries) other
  insert-by entry entries more key value other rest Equal is =
      let same : key.items ≡ entry.0.items = exact_bytes key.items entry.0.items is in
      seen-cons (entry.0, value) entries other
      ∙ twice value.items entry.1.items (seen entries other) (bytes_eq entry.0.items other)
      ∙ ap (λ name. cond (bytes_eq name other) (Some value.items) (cond (bytes_eq entry.0.items other) (Some entry.1.items) (seen entries other))) (sym same)
      ∙ ap (λ found. cond (bytes_eq key.items other) (Some value.items) found) (sym (seen-cons entry entries other))
  insert-by entry entries more key value other rest Greater is =
      let differ : bytes_eq entry.0.items other ≡ true → bytes_eq key.items other ≡ true → ⊥ = λ here there.
      let same : key.items ≡ entry.0.items = (bytes_eq-Decides key.items other).0 there ∙ sym ((bytes_eq-Decides entry.0.items other).0 here) in
      true≢false (sym (ap is_eq (tied_itself nat_list_cmp_total key.items)) ∙ ap (λ name. is_eq (by_bytes key.items name)) same ∙ ap is_eq is) in
      seen-cons entry more other
      ∙ ap (λ found. cond (bytes_eq entry.0.items other) (Some entry.1.items) found) rest
      ∙ apart value.items entry.1.items (seen entries other) (bytes_eq entry.0.items other) (bytes_eq key.items other) differ
      ∙ ap (λ found. cond (bytes_eq key.items other) (Some value.items) found) (sym (seen-cons entry entries other))

  -- the value of each variable once one was put in
  pub puts-insert_entry : (entries : List (Vec ℕ Y × Vec ℕ Z)) (key : Vec ℕ Y) (value : Vec ℕ Z) (other : List ℕ) → value_of_key (map pair_of (insert_entry (λ (x y : Vec ℕ Y). slice_cmp nat_cmp x.items y.items) entries key value)) other ≡ cond (bytes_eq key.items other) (Some value.items) (value_of_key (map pair_of entries) other)
  puts-insert_entry [] key value other = seen-cons (key, value) [] other
  puts-insert_entry (entry ∷ entries) key value other =
      insert-by entry entries (insert_entry by_name entries key value) key value other (puts-insert_entry entries key value other) (by_name key entry.0) refl

  none_above : (entries : List (Vec ℕ Y × Vec ℕ Z)) (name : List ℕ) → AllByRecursion (λ (key : Vec ℕ Y). by_bytes name key.items ≡ Less) (keys_of entries) → seen entries name ≡ None
  none_above [] name above = refl
  none_above (entry ∷ entries) name above =
      seen-cons entry entries name
      ∙ ap (λ is. cond is (Some entry.1.items) (seen entries name)) (sym (same_name name entry.0.items) ∙ ap is_eq above.0)
      ∙ none_above entries name above.1

  remove-by : (entry : Vec ℕ Y × Vec ℕ Z) (entries less : List (Vec ℕ Y × Vec ℕ Z)) (name other : List ℕ) → AllByRecursion (λ (key : Vec ℕ Y). by_bytes entry.0.items key.items ≡ Less) (keys_of entries) → seen less other ≡ cond (bytes_eq name other) None (seen entries other) → (is here : Bool) → bytes_eq entry.0.items name ≡ is → bytes_eq entry.0.items other ≡ here → seen (cond is entries (entry ∷ less)) other ≡ cond (bytes_eq name other) None (seen (entry ∷ entries) other)
  remove-by entry entries less name other above rest true true is here =
      let first : entry.0.items ≡ other = (bytes_eq-Decides entry.0.items other).0 here in
      let same : bytes_eq name other ≡ true = ap (λ n. bytes_eq n other) (sym ((bytes_eq-Decides entry.0.items name).0 is)) ∙ here in
      ap (seen entries) (sym first) ∙ none_above entries entry.0.items above ∙ ap (λ b. cond b None (seen (entry ∷ entries) other)) (sym same)
  remove-by entry entries less name other above rest true false is here =
      let same : bytes_eq name other ≡ false = ap (λ n. bytes_eq n other) (sym ((bytes_eq-Decides entry.0.items name).0 is)) ∙ here in
      ap (λ b. cond b (Some entry.1.items) (seen entries other)) (sym here) ∙ sym (seen-cons entry entries other) ∙ ap (λ b. cond b None (seen (entry ∷ entries) other)) (sym same)
  remove-by entry entries less name other above rest false true is here =
      let first : entry.0.items ≡ other = (bytes_eq-Decides entry.0.items other).0 here in
      let differ : bytes_eq name other ≡ false = ap (bytes_eq name) (sym first) ∙ same_truth (bytes_eq name entry.0.items) (bytes_eq entry.0.items name) (λ b. (bytes_eq-Decides entry.0.items name).1 (sym ((bytes_eq-Decides name entry.0.items).0 b))) (λ b. (bytes_eq-Decides name entry.0.items).1 (sym ((bytes_eq-Decides entry.0.items name).0 b))) ∙ is in
      seen-cons entry less other
      ∙ ap (λ b. cond b (Some entry.1.items) (seen less other)) here
      ∙ ap (λ b. cond b (Some entry.1.items) (seen entries other)) (sym here)
      ∙ sym (seen-cons entry entries other)
      ∙ ap (λ b. cond b None (seen (entry ∷ entries) other)) (sym differ)
  remove-by entry entries less name other above rest false false is here =
      seen-cons entry less other
      ∙ ap (λ b. cond b (Some entry.1.items) (seen less other)) here
      ∙ rest
      ∙ ap (λ found. cond (bytes_eq name other) None found) (ap (λ b. cond b (Some entry.1.items) (seen entries other)) (sym here) ∙ sym (seen-cons entry entries other))

  -- the value of each variable once one was removed
  pub puts-remove_entry : (entries : List (Vec ℕ Y × Vec ℕ Z)) (name other : List ℕ) → IsStrictlySortedBy (λ (x y : Vec ℕ Y). slice_cmp nat_cmp x.items y.items) (keys_of entries) → value_of_key (map pair_of (remove_entry (λ (key : Vec ℕ Y). is_eq (slice_cmp nat_cmp name key.items)) entries)) other ≡ cond (bytes_eq name other) None (value_of_key (map pair_of entries) other)
  unfolding IsStrictlySortedBy
  puts-remove_entry [] name other ordered = nothing (bytes_eq name other) None refl
  puts-remove_entry (entry ∷ entries) name other ordered =
      let less = remove_entry (λ (key : Vec ℕ Y). is_eq (by_bytes name key.items)) entries in
      ap (λ is. seen (cond is entries (entry ∷ less)) other) (same_name name entry.0.items)
      ∙ remove-by entry entries less name other ordered.0 (puts-remove_entry entries name other ordered.1) (bytes_eq entry.0.items name) (bytes_eq entry.0.items other) refl refl

  all_names : (first : List ℕ) (entries : List (Vec ℕ Y × Vec ℕ Z)) → AllByRecursion (λ (key : Vec ℕ Y). by_bytes first key.items ≡ Less) (keys_of entries) → AllByRecursion (λ (name : List ℕ). by_bytes first name ≡ Less) (map (λ (pair : Pair). pair.name) (map pair_of entries))
  all_names first [] above = tt
  all_names first (entry ∷ entries) above = (above.0, all_names first entries above.1)

  -- the names ascend as the keys do
  pub names_ascend : (entries : List (Vec ℕ Y × Vec ℕ Z)) → IsStrictlySortedBy (λ (x y : Vec ℕ Y). slice_cmp nat_cmp x.items y.items) (keys_of entries) → IsAscending (map pair_of entries)
  unfolding IsStrictlySortedBy
  names_ascend [] ordered = tt
  names_ascend (entry ∷ entries) ordered = (all_names entry.0.items entries ordered.0, names_ascend entries ordered.1)

  -- clones of variables are the same variables
  pub pairs-clone : (C : Vec ℕ Y → Vec ℕ Y → Type 0) (D : Vec ℕ Z → Vec ℕ Z → Type 0) → ((x y : Vec ℕ Y) → C x y → y.items ≡ x.items) → ((x y : Vec ℕ Z) → D x y → y.items ≡ x.items) → (entries clones : List (Vec ℕ Y × Vec ℕ Z)) → AllZip (λ p q. C p.0 q.0 × D p.1 q.1) entries clones → map pair_of clones ≡ map pair_of entries
  pairs-clone C D keys values [] [] are = refl
  pairs-clone C D keys values [] (clone ∷ clones) are = absurd are
  pairs-clone C D keys values (entry ∷ entries) [] are = absurd are
  pairs-clone C D keys values (entry ∷ entries) (clone ∷ clones) are =
      (λ i. (record { name = keys entry.0 clone.0 are.0.0 i; value = values entry.1 clone.1 are.0.1 i }) ∷ pairs-clone C D keys values entries clones are.1 i)
