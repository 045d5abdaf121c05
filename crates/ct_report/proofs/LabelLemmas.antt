-- Labels that are kept in order, and counts that are kept by their labels.
use Rattle.std.proofs.Common.{ℕ, ◌≡◌, ◌+◌, ◌<◌, Bool, true, false, cond, ◌||◌, bytes_eq, List, [], ◌∷◌, ◌++◌, length, get_or, take, fold, Option, Some, unwrap_or, refl, sym, ap, ◌∙◌, arith, add-zero}
use Rattle.std.specs.List.{list_any}
use Rattle.std.specs.Map.{lookup, set_value}
use Rattle.std.specs.BTreeMap.{BTreeMap, insert_entry}
use Rattle.std.specs.BTreeSet.{insert_key}
use Rattle.std.specs.Borrow.{Bor}
use Rattle.std.specs.Cmp.{tied_itself}
use Rattle.std.specs.Cmp.Lexicographic.{slice_cmp, nat_list_cmp_total, nat_list_eq_equiv}
use Rattle.std.specs.Ordering.{nat_cmp, is_eq, match_ordering}
use Rattle.std.specs.declared.cmp.Ordering.{Ordering}
use Rattle.std.specs.declared.cmp.Ordering.TheVariants.{Less, Equal, Greater}
use Rattle.std.specs.declared.vec.Vec.{Vec}
use Rattle.std.proofs.lemmas.Bool.{true≢false}
use Rattle.std.proofs.lemmas.List.Folds.{list_any_more}
use Rattle.std.proofs.lemmas.List.Sums.{fold-append}
use Rattle.std.proofs.lemmas.Map.Lookups.{exact_bytes}
use Rattle.std.proofs.lemmas.Slice.Eq.{bytes_eq-Decides}
use Rattle.ct_base.proofs.NameLemmas.{by_bytes, is_eq-true, same_name}
use Rattle.ct_base.proofs.OptionLemmas.{apart, twice}
use Rattle.ct_report.specs.Labels.{kept_labels, label_count, CountsLabel, CountsLabels}

-- what is folded over one list and then over another is folded over both in a row
pub fold_behind : {A B : Type 0} (f : B → A → B) (a : B) (xs ys : List A) → fold f (fold f a xs) ys ≡ fold f a (xs ++ ys)
fold_behind f a xs ys = sym (fold-append f a xs ys)

abbrev by_label : {Y : Type 0} → Vec ℕ Y → Vec ℕ Y → Ordering
by_label one other = by_bytes one.items other.items

labels-insert_by : (first label : Bor (List ℕ)) (kept more : List (Bor (List ℕ))) (labels : List (List ℕ)) → kept_labels more ≡ labels → (order : Ordering) → kept_labels (match_ordering order (label ∷ first ∷ kept) (first ∷ kept) (first ∷ more)) ≡ match_ordering order (label.now ∷ first.now ∷ kept_labels kept) (first.now ∷ kept_labels kept) (first.now ∷ labels)
labels-insert_by first label kept more labels is Less = refl
labels-insert_by first label kept more labels is Equal = refl
labels-insert_by first label kept more labels is Greater = ap (λ ls. first.now ∷ ls) is

-- a label that is put in a set, as contracts see it
pub labels-insert_key : (kept : List (Bor (List ℕ))) (label : Bor (List ℕ)) → kept_labels (insert_key (λ (x y : Bor (List ℕ)). slice_cmp nat_cmp x.now y.now) kept label) ≡ insert_key (slice_cmp nat_cmp) (kept_labels kept) label.now
labels-insert_key [] label = refl
labels-insert_key (first ∷ kept) label =
    labels-insert_by first label kept (insert_key (λ (x y : Bor (List ℕ)). slice_cmp nat_cmp x.now y.now) kept label) (insert_key (slice_cmp nat_cmp) (kept_labels kept) label.now) (labels-insert_key kept label) (slice_cmp nat_cmp label.now first.now)

module _ {Y X : Type 0} where
  -- what is kept at a label
  abbrev seen : List (Vec ℕ Y × X) → List ℕ → Option X
  seen entries label = lookup (λ (key : Vec ℕ Y). is_eq (slice_cmp nat_cmp label key.items)) entries

  seen-cons : (entry : Vec ℕ Y × X) (entries : List (Vec ℕ Y × X)) (label : List ℕ) → seen (entry ∷ entries) label ≡ cond (bytes_eq entry.0.items label) (Some entry.1) (seen entries label)
  seen-cons entry entries label = ap (λ is. cond is (Some entry.1) (seen entries label)) (same_name label entry.0.items)

  insert-by : (entry : Vec ℕ Y × X) (entries more : List (Vec ℕ Y × X)) (key : Vec ℕ Y) (value : X) (other : List ℕ) → seen more other ≡ cond (bytes_eq key.items other) (Some value) (seen entries other) → (order : Ordering) → by_label key entry.0 ≡ order → seen (match_ordering order ((key, value) ∷ entry ∷ entries) ((entry.0, value) ∷ entries) (entry ∷ more)) other ≡ cond (bytes_eq key.items other) (Some value) (seen (entry ∷ entries) other)
  insert-by entry entries more key value other rest Less is = seen-cons (key, value) (entry ∷ entries) other
  insert-by entry entries more key value other rest Equal is =
      let same : key.items ≡ entry.0.items = exact_bytes key.items entry.0.items is in
      seen-cons (entry.0, value) entries other
      ∙ twice value entry.1 (seen entries other) (bytes_eq entry.0.items other)
      ∙ ap (λ label. cond (bytes_eq label other) (Some value) (cond (bytes_eq entry.0.items other) (Some entry.1) (seen entries other))) (sym same)
      ∙ ap (λ found. cond (bytes_eq key.items other) (Some value) found) (sym (seen-cons entry entries other))
  insert-by entry entries more key value other rest Greater is =
      let differ : bytes_eq entry.0.items other ≡ true → bytes_eq key.items other ≡ true → ⊥ = λ here there.
      let same : key.items ≡ entry.0.items = (bytes_eq-Decides key.items other).0 there ∙ sym ((bytes_eq-Decides entry.0.items other).0 here) in
      true≢false (sym (ap is_eq (tied_itself nat_list_cmp_total key.items)) ∙ ap (λ label. is_eq (by_bytes key.items label)) same ∙ ap is_eq is) in
      seen-cons entry more other
      ∙ ap (λ found. cond (bytes_eq entry.0.items other) (Some entry.1) found) rest
      ∙ apart value entry.1 (seen entries other) (bytes_eq entry.0.items other) (bytes_eq key.items other) differ
      ∙ ap (λ found. cond (bytes_eq key.items other) (Some value) found) (sym (seen-cons entry entries other))

  -- what is kept at a label once an entry was put in
  seen-insert_entry : (entries : List (Vec ℕ Y × X)) (key : Vec ℕ Y) (value : X) (other : List ℕ) → seen (insert_entry (λ (x y : Vec ℕ Y). slice_cmp nat_cmp x.items y.items) entries key value) other ≡ cond (bytes_eq key.items other) (Some value) (seen entries other)
  seen-insert_entry [] key value other = seen-cons (key, value) [] other
  seen-insert_entry (entry ∷ entries) key value other =
      insert-by entry entries (insert_entry by_label entries key value) key value other (seen-insert_entry entries key value other) (by_label key entry.0) refl

  set-by : (entry : Vec ℕ Y × X) (entries more : List (Vec ℕ Y × X)) (label other : List ℕ) (value old : X) → (seen entries label ≡ Some old → seen more other ≡ cond (bytes_eq label other) (Some value) (seen entries other)) → (is : Bool) → is_eq (slice_cmp nat_cmp label entry.0.items) ≡ is → cond is (Some entry.1) (seen entries label) ≡ Some old
      → seen (cond is ((entry.0, value) ∷ entries) (entry ∷ more)) other ≡ cond (bytes_eq label other) (Some value) (seen (entry ∷ entries) other)
  set-by entry entries more label other value old rest true is there =
      let same : label ≡ entry.0.items = exact_bytes label entry.0.items (is_eq-true (by_bytes label entry.0.items) is) in
      seen-cons (entry.0, value) entries other
      ∙ twice value entry.1 (seen entries other) (bytes_eq entry.0.items other)
      ∙ ap (λ l. cond (bytes_eq l other) (Some value) (cond (bytes_eq entry.0.items other) (Some entry.1) (seen entries other))) (sym same)
      ∙ ap (λ found. cond (bytes_eq label other) (Some value) found) (sym (seen-cons entry entries other))
  set-by entry entries more label other value old rest false is there =
      let differ : bytes_eq entry.0.items other ≡ true → bytes_eq label other ≡ true → ⊥ = λ here at_label.
      let same : label ≡ entry.0.items = (bytes_eq-Decides label other).0 at_label ∙ sym ((bytes_eq-Decides entry.0.items other).0 here) in
      true≢false (sym (ap is_eq (tied_itself nat_list_cmp_total label)) ∙ ap (λ l. is_eq (by_bytes label l)) same ∙ is) in
      seen-cons entry more other
      ∙ ap (λ found. cond (bytes_eq entry.0.items other) (Some entry.1) found) (rest there)
      ∙ apart value entry.1 (seen entries other) (bytes_eq entry.0.items other) (bytes_eq label other) differ
      ∙ ap (λ found. cond (bytes_eq label other) (Some value) found) (sym (seen-cons entry entries other))

  -- what is kept at a label once the value at a label that is present was replaced
  seen-set_value : (entries : List (Vec ℕ Y × X)) (label other : List ℕ) (value old : X) → seen entries label ≡ Some old → seen (set_value (λ (key : Vec ℕ Y). is_eq (slice_cmp nat_cmp label key.items)) entries value) other ≡ cond (bytes_eq label other) (Some value) (seen entries other)
  seen-set_value [] label other value old there = cc
  seen-set_value (entry ∷ entries) label other value old there =
      set-by entry entries (set_value (λ (key : Vec ℕ Y). is_eq (slice_cmp nat_cmp label key.items)) entries value) label other value old (seen-set_value entries label other value old) (is_eq (slice_cmp nat_cmp label entry.0.items)) refl there

first_here : (n : ℕ) (here there : Bool) → (there ≡ true → here ≡ false) → (n + cond here 1 0) + cond there 1 0 ≡ n + cond (here || there) 1 0
first_here n true true first = absurd (true≢false (first refl))
first_here n true false first = omega arith
first_here n false there first = omega arith

not_first : (here there : Bool) → (there ≡ true → here ≡ true) → here ≡ (here || there)
not_first true there again = refl
not_first false true again = again refl
not_first false false again = refl

-- a reference to a label
abbrev pub key_of : List ℕ → Bor (List ℕ)
key_of label = record { ref_ptr = (0, 0); now = label }

seen_by : (was is : Bool) → cond is true was ≡ (was || is)
seen_by true true = refl
seen_by true false = refl
seen_by false true = refl
seen_by false false = refl

-- the labels that were seen, once one more was
pub seen_more : (asked label : List ℕ) (was now before : Bool) → now ≡ cond (is_eq (slice_cmp nat_cmp label asked)) true was → was ≡ before → now ≡ (before || bytes_eq asked label)
seen_more asked label was now before put kept =
    put ∙ seen_by was (is_eq (slice_cmp nat_cmp label asked)) ∙ ap (λ b. b || is_eq (slice_cmp nat_cmp label asked)) kept
    ∙ ap (λ b. before || b) (same_name label asked)

-- whether a label is listed is the same for an equal label
at_same : (labels : List (List ℕ)) (label other : List ℕ) (b : Bool) → list_any (bytes_eq label) labels ≡ b → bytes_eq other label ≡ true → list_any (bytes_eq other) labels ≡ b
at_same labels label other b is same = ap (λ l. list_any (bytes_eq l) labels) ((bytes_eq-Decides other label).0 same) ∙ is

module _ {Y : Type 0} where
  counted_by : (before : BTreeMap (Vec ℕ Y) ℕ) (label other : List ℕ) (is : Bool) → bytes_eq label other ≡ is → unwrap_or (cond is (Some (label_count before label + 1)) (seen before.entries other)) 0 ≡ label_count before other + cond is 1 0
  counted_by before label other true is = ap (λ l. label_count before l + 1) ((bytes_eq-Decides label other).0 is)
  counted_by before label other false is = sym (add-zero (label_count before other))

  -- where one more than before is kept at a label, one more test is counted there
  pub counts_label : (before after : BTreeMap (Vec ℕ Y) ℕ) (key : Vec ℕ Y) → after.entries ≡ insert_entry (λ (x y : Vec ℕ Y). slice_cmp nat_cmp x.items y.items) before.entries key (label_count before key.items + 1) → CountsLabel key.items before after
  counts_label before after key is = λ other.
      ap (λ es. unwrap_or (seen es other) 0) is
      ∙ ap (λ found. unwrap_or found 0) (seen-insert_entry before.entries key (label_count before key.items + 1) other)
      ∙ counted_by before key.items other (bytes_eq key.items other) refl

  -- where the count that is kept at a label was replaced by one more, one more test is counted there
  pub counts_more : (before after : BTreeMap (Vec ℕ Y) ℕ) (label : List ℕ) (count : ℕ) → after.entries ≡ set_value (λ (key : Vec ℕ Y). is_eq (slice_cmp nat_cmp label key.items)) before.entries (count + 1) → seen before.entries label ≡ Some count → CountsLabel label before after
  counts_more before after label count is there = λ other.
      ap (λ es. unwrap_or (seen es other) 0) is
      ∙ ap (λ found. unwrap_or found 0) (seen-set_value before.entries label other (count + 1) count there)
      ∙ ap (λ found. unwrap_or (cond (bytes_eq label other) (Some (unwrap_or found 0 + 1)) (seen before.entries other)) 0) (sym there)
      ∙ counted_by before label other (bytes_eq label other) refl

  module _ (before now : BTreeMap (Vec ℕ Y) ℕ) (labels : List (List ℕ)) (at : ℕ) (label : List ℕ) (within : at < length labels) (counted : CountsLabels (take at labels) before now) where
    more : (other : List ℕ) → list_any (bytes_eq other) (take (at + 1) labels) ≡ (list_any (bytes_eq other) (take at labels) || bytes_eq other (get_or labels at label))
    more other = list_any_more (bytes_eq other) labels at label within

    -- a label that is listed for the first time is counted
    pub counts_first : (after : BTreeMap (Vec ℕ Y) ℕ) → label ≡ get_or labels at label → list_any (bytes_eq label) (take at labels) ≡ false → CountsLabel label now after → CountsLabels (take (at + 1) labels) before after
    counts_first after is first counts = λ other.
        counts other
        ∙ ap (λ n. n + cond (bytes_eq label other) 1 0) (counted other)
        ∙ ap (λ b. (label_count before other + cond (list_any (bytes_eq other) (take at labels)) 1 0) + cond b 1 0) (nat_list_eq_equiv.symm label other)
        ∙ first_here (label_count before other) (list_any (bytes_eq other) (take at labels)) (bytes_eq other label) (at_same (take at labels) label other false first)
        ∙ ap (λ l. label_count before other + cond (list_any (bytes_eq other) (take at labels) || bytes_eq other l) 1 0) is
        ∙ ap (λ b. label_count before other + cond b 1 0) (sym (more other))

    -- a label that was listed before is not counted again
    pub counts_again : label ≡ get_or labels at label → list_any (bytes_eq label) (take at labels) ≡ true → CountsLabels (take (at + 1) labels) before now
    counts_again is again = λ other.
        counted other
        ∙ ap (λ b. label_count before other + cond b 1 0) (not_first (list_any (bytes_eq other) (take at labels)) (bytes_eq other label) (at_same (take at labels) label other true again) ∙ ap (λ l. list_any (bytes_eq other) (take at labels) || bytes_eq other l) is ∙ sym (more other))
