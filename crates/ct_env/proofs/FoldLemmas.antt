-- What loops do item by item is what the definitions say of the whole list.
use Rattle.std.proofs.Common.{ℕ, ◌≡◌, ◌+◌, ◌<◌, cond, bytes_eq, List, [], ◌∷◌, ◌++◌, map, take, get_or, length, Option, Some, None, refl, sym, ap, ◌∙◌, arith}
use Rattle.std.specs.List.{flat_map, range_with_len}
use Rattle.std.specs.Option.{option_or}
use Rattle.std.proofs.lemmas.List.{take_more, append_assoc, append-nil, map-append}
use Rattle.std.proofs.lemmas.List.Folds.{flat_map-map}
use Rattle.std.proofs.lemmas.List.FromFn.{map-range_with_len_more}
use Rattle.std.specs.BTreeSet.{insert_key}
use Rattle.std.specs.Ordering.{nat_cmp, match_ordering}
use Rattle.std.specs.Cmp.Lexicographic.{slice_cmp}
use Rattle.std.specs.declared.cmp.Ordering.{Ordering}
use Rattle.std.specs.declared.cmp.Ordering.TheVariants.{Less, Equal, Greater}
use Rattle.std.specs.declared.vec.Vec.{Vec}
use Rattle.std.proofs.lemmas.List.Concat.{flat_map-append}
use Rattle.ct_base.specs.declared.defs.Pair.{Pair}
use Rattle.ct_base.specs.Memory.{held_by}
use Rattle.ct_env.specs.Assignment.{assignments_in}
use Rattle.ct_env.specs.PlacementVariables.{group_count}
use Rattle.ct_env.specs.Variables.{PutsVariable, SetsAll, AreBase, names_in}

-- the pairs of all groups, with one group more
groups-more : (f : ℕ → List Pair) (n : ℕ) → flat_map f (range_with_len 0 (n + 1)) ≡ flat_map f (range_with_len 0 n) ++ f n
groups-more f n =
    sym (flat_map-map f (λ x. x) (range_with_len 0 (n + 1)))
    ∙ ap (flat_map f) (map-range_with_len_more (λ x. x) 0 n n (omega arith))
    ∙ flat_map-append f (map (λ x. x) (range_with_len 0 n)) (n ∷ [])
    ∙ (λ i. flat_map-map f (λ x. x) (range_with_len 0 n) i ++ append-nil (f n) i)

-- one group more is put behind the others
pub group_one_more : (f : ℕ → List Pair) (n : ℕ) (first now after : List Pair) → now ≡ first ++ flat_map f (range_with_len 0 n) → after ≡ now ++ f n → after ≡ first ++ flat_map f (range_with_len 0 (n + 1))
group_one_more f n first now after so_far is =
    is ∙ ap (λ ps. ps ++ f n) so_far ∙ append_assoc first (flat_map f (range_with_len 0 n)) (f n) ∙ ap (λ ps. first ++ ps) (sym (groups-more f n))

-- one item more is put behind the others
pub item_one_more : {X : Type 0} (f : X → Pair) (xs : List X) (i : ℕ) (x : X) (pair : Pair) (first now after : List Pair) → i < length xs → x ≡ get_or xs i x → pair ≡ f x → now ≡ first ++ map f (take i xs) → after ≡ now ++ pair ∷ [] → after ≡ first ++ map f (take (i + 1) xs)
item_one_more f xs i x pair first now after within is gives so_far pushed =
    pushed
    ∙ (λ j. so_far j ++ gives j ∷ [])
    ∙ append_assoc first (map f (take i xs)) (f x ∷ [])
    ∙ ap (λ y. first ++ (map f (take i xs) ++ f y ∷ [])) is
    ∙ ap (λ ps. first ++ ps) (sym (map-append f (take i xs) (get_or xs i x ∷ [])))
    ∙ ap (λ ys. first ++ map f ys) (sym (take_more xs i x within))

-- one item is added, and then the items of the others
pub item_and_others : {X : Type 0} (f : X → Pair) (g : List X → Pair) (old pushed new : List Pair) (pair : Pair) (xs ys : List X) → xs ≡ ys → pair ≡ g xs → pushed ≡ old ++ pair ∷ [] → new ≡ pushed ++ map f xs → new ≡ old ++ (g ys ∷ map f ys)
item_and_others f g old pushed new pair xs ys are is first others =
    others
    ∙ (λ i. first i ++ map f xs)
    ∙ append_assoc old (pair ∷ []) (map f xs)
    ∙ (λ i. old ++ (is i ∷ map f xs))
    ∙ (λ i. old ++ (g (are i) ∷ map f (are i)))

or_nothing : (value : Option (List ℕ)) → option_or value None ≡ value
or_nothing None = refl
or_nothing (Some value) = refl

-- the base is the own variables without the count of groups, and then those that entries set
pub base_is : (own assigned set kept all : List Pair) (entries : List (List ℕ)) → assigned ≡ assignments_in entries → SetsAll own [] set → PutsVariable group_count None set kept → SetsAll assigned kept all → AreBase own entries all
base_is own assigned set kept all entries is sets takes adds = λ name.
    adds name
    ∙ (λ i. option_or (held_by (is i) name) (takes name i))
    ∙ ap (λ value. option_or (held_by (assignments_in entries) name) (cond (bytes_eq group_count name) None value)) (sets name ∙ or_nothing (held_by own name))

names-insert_by : {Y : Type 0} (first name : Vec ℕ Y) (kept more : List (Vec ℕ Y)) (names : List (List ℕ)) → names_in more ≡ names → (order : Ordering) → names_in (match_ordering order (name ∷ first ∷ kept) (first ∷ kept) (first ∷ more)) ≡ match_ordering order (name.items ∷ first.items ∷ names_in kept) (first.items ∷ names_in kept) (first.items ∷ names)
names-insert_by first name kept more names is Less = refl
names-insert_by first name kept more names is Equal = refl
names-insert_by first name kept more names is Greater = ap (λ ns. first.items ∷ ns) is

-- a name that is put among others
pub names-insert_key : {Y : Type 0} (kept : List (Vec ℕ Y)) (name : Vec ℕ Y) → names_in (insert_key (λ (x y : Vec ℕ Y). slice_cmp nat_cmp x.items y.items) kept name) ≡ insert_key (slice_cmp nat_cmp) (names_in kept) name.items
names-insert_key [] name = refl
names-insert_key {Y} (first ∷ kept) name =
    names-insert_by first name kept (insert_key (λ (x y : Vec ℕ Y). slice_cmp nat_cmp x.items y.items) kept name) (insert_key (slice_cmp nat_cmp) (names_in kept) name.items) (names-insert_key kept name) (slice_cmp nat_cmp name.items first.items)
