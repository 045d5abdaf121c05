-- The spread of needs over resources: kind by kind, with the needs of one kind as a packing on its cards.
use Rattle.std.proofs.Common.{◌≡◌, ◌∙◌, sym, ap, subst, refl, ℕ, zero, suc, ◌+◌, ◌<◌, ◌≤◌, Bool, true, false, cond, ◌==◌, List, [], ◌∷◌, length, map, get_or, arith, nat_lt}
use Rattle.std.proofs.lemmas.List.{get_or-map, get_or_past, length-map}
use Rattle.std.specs.Prelude.{not, ◌&&◌, slice_get, Option, Some, None, filter, bytes_eq}
use Rattle.std.specs.List.{list_all}
use Rattle.std.proofs.lemmas.Bool.{and_parts, and_from, true≢false, not-true}
use Rattle.std.proofs.lemmas.Bool.Decides.{nat_tests}
use Rattle.std.proofs.lemmas.List.Sums.{count_by-le-length, length-filter}
use Rattle.std.proofs.lemmas.Slice.Eq.{bytes_eq-Decides}
use Rattle.ct_base.specs.declared.defs.Need.{Need}
use Rattle.ct_base.specs.declared.defs.Resource.{Resource}
use Rattle.ct_base.proofs.NameLemmas.{bytes_eq-refl}
use Rattle.ct_alloc.specs.Free.{FreeValue, free_at}
use Rattle.ct_alloc.specs.Packing.{load, IsPacking, CanPack}
use Rattle.ct_alloc.specs.Spread.{is_of_kind, are_of_kind, sizes_of, IsSpread, NoneSpread, asks_kind, asks_other, cards_from, interleaved}
use Rattle.ct_alloc.proofs.PackLemmas.{share}

same-kind : (one other : List ℕ) → bytes_eq one other ≡ true → one ≡ other
same-kind one other e = (bytes_eq-Decides one other).0 e

-- the places of the needs that pass a test
abbrev pub kept : (Need → Bool) → List Need → List ℕ → List ℕ
kept p [] places = []
kept p (need ∷ needs) [] = []
kept p (need ∷ needs) (place ∷ places) = cond (p need) (place ∷ kept p needs places) (kept p needs places)

kept-kinds : (p : Need → Bool) (resources : List Resource) (needs : List Need) (places : List ℕ) → are_of_kind resources needs places ≡ true → are_of_kind resources (filter p needs) (kept p needs places) ≡ true
kept-kinds p resources [] places all = refl
kept-kinds p resources (need ∷ needs) [] all = cc
kept-kinds p resources (need ∷ needs) (place ∷ places) all =
    let both = and_parts (is_of_kind need.kind (slice_get resources place)) (are_of_kind resources needs places) all in
    by_test both.0 (kept-kinds p resources needs places both.1) (p need) refl
  where
    by_test : is_of_kind need.kind (slice_get resources place) ≡ true → are_of_kind resources (filter p needs) (kept p needs places) ≡ true → (test : Bool) → p need ≡ test → are_of_kind resources (filter p (need ∷ needs)) (kept p (need ∷ needs) (place ∷ places)) ≡ true
    by_test here again true t = rw t (and_from (is_of_kind need.kind (slice_get resources place)) (are_of_kind resources (filter p needs) (kept p needs places)) here again)
    by_test here again false t = rw t again

kept-load : (p : Need → Bool) (place : ℕ) (needs : List Need) (places : List ℕ) → load place (sizes_of (filter p needs)) (kept p needs places) ≤ load place (sizes_of needs) places
kept-load p place [] places = omega arith
kept-load p place (need ∷ needs) [] = by_test (p need) refl
  where
    by_test : (test : Bool) → p need ≡ test → load place (sizes_of (filter p (need ∷ needs))) [] ≤ 0
    by_test true t = rw t (omega arith)
    by_test false t = rw t (none (sizes_of (filter p needs)))
      where
        none : (sizes : List ℕ) → load place sizes [] ≤ 0
        none [] = omega arith
        none (size ∷ sizes) = omega arith
kept-load p place (need ∷ needs) (at ∷ places) = by_test (kept-load p place needs places) (p need) refl
  where
    by_test : load place (sizes_of (filter p needs)) (kept p needs places) ≤ load place (sizes_of needs) places → (test : Bool) → p need ≡ test → load place (sizes_of (filter p (need ∷ needs))) (kept p (need ∷ needs) (at ∷ places)) ≤ share place at need.slots + load place (sizes_of needs) places
    by_test again true t = rw t (omega arith)
    by_test again false t = rw t (omega arith)

-- if all needs are met, the needs that pass a test are met
pub spread-kept : (p : Need → Bool) (free : FreeValue) (needs : List Need) (places : List ℕ) → IsSpread free needs places → IsSpread free (filter p needs) (kept p needs places)
spread-kept p free needs places spread = record {
  kinds = kept-kinds p free.resources needs places spread.kinds;
  room = λ place. omega (arith, kept-load p place needs places, spread.room place);
}

pub none-spread : (p : Need → Bool) (free : FreeValue) (needs : List Need) → NoneSpread free (filter p needs) → NoneSpread free needs
none-spread p free needs none = λ places spread. none (kept p needs places) (spread-kept p free needs places spread)

interleaved-kinds : (kind : List ℕ) (resources : List Resource) (needs : List Need) (here rest : List ℕ) → are_of_kind resources (filter (asks_kind kind) needs) here ≡ true → are_of_kind resources (filter (asks_other kind) needs) rest ≡ true → are_of_kind resources needs (interleaved kind needs here rest) ≡ true
interleaved-kinds kind resources [] here rest a b = refl
interleaved-kinds kind resources (need ∷ needs) here rest a b = by_test (interleaved-kinds kind resources needs) (asks_kind kind need) refl here rest a b
  where
    by_test : ((here rest : List ℕ) → are_of_kind resources (filter (asks_kind kind) needs) here ≡ true → are_of_kind resources (filter (asks_other kind) needs) rest ≡ true → are_of_kind resources needs (interleaved kind needs here rest) ≡ true) → (test : Bool) → asks_kind kind need ≡ test → (here rest : List ℕ) → are_of_kind resources (filter (asks_kind kind) (need ∷ needs)) here ≡ true → are_of_kind resources (filter (asks_other kind) (need ∷ needs)) rest ≡ true → are_of_kind resources (need ∷ needs) (interleaved kind (need ∷ needs) here rest) ≡ true
    by_test again true t [] rest a b = let none : false ≡ true = rw t at a in cc
    by_test again true t (place ∷ here) rest a b =
        let whole : (is_of_kind need.kind (slice_get resources place) && are_of_kind resources (filter (asks_kind kind) needs) here) ≡ true = rw t at a in
        let others : are_of_kind resources (filter (asks_other kind) needs) rest ≡ true = rw t at b in
        let both = and_parts (is_of_kind need.kind (slice_get resources place)) (are_of_kind resources (filter (asks_kind kind) needs) here) whole in
        rw t (and_from (is_of_kind need.kind (slice_get resources place)) (are_of_kind resources needs (interleaved kind needs here rest)) both.0 (again here rest both.1 others))
    by_test again false t here [] a b = let none : false ≡ true = rw t at b in cc
    by_test again false t here (place ∷ rest) a b =
        let whole : (is_of_kind need.kind (slice_get resources place) && are_of_kind resources (filter (asks_other kind) needs) rest) ≡ true = rw t at b in
        let mine : are_of_kind resources (filter (asks_kind kind) needs) here ≡ true = rw t at a in
        let both = and_parts (is_of_kind need.kind (slice_get resources place)) (are_of_kind resources (filter (asks_other kind) needs) rest) whole in
        rw t (and_from (is_of_kind need.kind (slice_get resources place)) (are_of_kind resources needs (interleaved kind needs here rest)) both.0 (again here rest mine both.1))

interleaved-load : (kind : List ℕ) (place : ℕ) (resources : List Resource) (needs : List Need) (here rest : List ℕ) → are_of_kind resources (filter (asks_kind kind) needs) here ≡ true → are_of_kind resources (filter (asks_other kind) needs) rest ≡ true → load place (sizes_of needs) (interleaved kind needs here rest) ≡ load place (sizes_of (filter (asks_kind kind) needs)) here + load place (sizes_of (filter (asks_other kind) needs)) rest
interleaved-load kind place resources [] here rest a b = omega arith
interleaved-load kind place resources (need ∷ needs) here rest a b = by_test (interleaved-load kind place resources needs) (asks_kind kind need) refl here rest a b
  where
    by_test : ((here rest : List ℕ) → are_of_kind resources (filter (asks_kind kind) needs) here ≡ true → are_of_kind resources (filter (asks_other kind) needs) rest ≡ true → load place (sizes_of needs) (interleaved kind needs here rest) ≡ load place (sizes_of (filter (asks_kind kind) needs)) here + load place (sizes_of (filter (asks_other kind) needs)) rest) → (test : Bool) → asks_kind kind need ≡ test → (here rest : List ℕ) → are_of_kind resources (filter (asks_kind kind) (need ∷ needs)) here ≡ true → are_of_kind resources (filter (asks_other kind) (need ∷ needs)) rest ≡ true → load place (sizes_of (need ∷ needs)) (interleaved kind (need ∷ needs) here rest) ≡ load place (sizes_of (filter (asks_kind kind) (need ∷ needs))) here + load place (sizes_of (filter (asks_other kind) (need ∷ needs))) rest
    by_test f true t [] rest a b = let none : false ≡ true = rw t at a in cc
    by_test f true t (at ∷ here) rest a b =
        let whole : (is_of_kind need.kind (slice_get resources at) && are_of_kind resources (filter (asks_kind kind) needs) here) ≡ true = rw t at a in
        let others : are_of_kind resources (filter (asks_other kind) needs) rest ≡ true = rw t at b in
        let both = and_parts (is_of_kind need.kind (slice_get resources at)) (are_of_kind resources (filter (asks_kind kind) needs) here) whole in
        let again = f here rest both.1 others in
        rw t (omega (arith, again))
    by_test f false t here [] a b = let none : false ≡ true = rw t at b in cc
    by_test f false t here (at ∷ rest) a b =
        let whole : (is_of_kind need.kind (slice_get resources at) && are_of_kind resources (filter (asks_other kind) needs) rest) ≡ true = rw t at b in
        let mine : are_of_kind resources (filter (asks_kind kind) needs) here ≡ true = rw t at a in
        let both = and_parts (is_of_kind need.kind (slice_get resources at)) (are_of_kind resources (filter (asks_other kind) needs) rest) whole in
        let again = f here rest mine both.1 in
        rw t (omega (arith, again))

-- needs whose kinds all differ from the kind of a resource take nothing of it
none-here : (p : Need → Bool) (place : ℕ) (resources : List Resource) (needs : List Need) (places : List ℕ) → ((need : Need) → p need ≡ true → is_of_kind need.kind (slice_get resources place) ≡ false) → are_of_kind resources (filter p needs) places ≡ true → load place (sizes_of (filter p needs)) places ≡ 0
none-here p place resources [] [] differ all = refl
none-here p place resources [] (at ∷ places) differ all = refl
none-here p place resources (need ∷ needs) places differ all = by_test (λ ps. none-here p place resources needs ps differ) (p need) refl places all
  where
    by_test : ((ps : List ℕ) → are_of_kind resources (filter p needs) ps ≡ true → load place (sizes_of (filter p needs)) ps ≡ 0) → (test : Bool) → p need ≡ test → (places : List ℕ) → are_of_kind resources (filter p (need ∷ needs)) places ≡ true → load place (sizes_of (filter p (need ∷ needs))) places ≡ 0
    by_test f false t places all = rw t (f places (rw t at all))
    by_test f true t [] all = rw t refl
    by_test f true t (at ∷ places) all =
        let whole : (is_of_kind need.kind (slice_get resources at) && are_of_kind resources (filter p needs) places) ≡ true = rw t at all in
        let both = and_parts (is_of_kind need.kind (slice_get resources at)) (are_of_kind resources (filter p needs) places) whole in
        let again = f places both.1 in
        let other : (at == place) ≡ false = by_place (at == place) refl both.0 in
        rw t (ap (λ b. cond b need.slots 0 + load place (sizes_of (filter p needs)) places) other ∙ (let zeros : 0 + load place (sizes_of (filter p needs)) places ≡ 0 = omega arith in zeros))
      where
        by_place : (same : Bool) → (at == place) ≡ same → is_of_kind need.kind (slice_get resources at) ≡ true → (at == place) ≡ false
        by_place false s kind = s
        by_place true s kind =
            let equal : at ≡ place = grind (arith, nat_tests) in
            absurd (true≢false (sym kind ∙ ap (λ i. is_of_kind need.kind (slice_get resources i)) equal ∙ differ need t))

kind-differs : (one other : List ℕ) (r : Option Resource) → is_of_kind one r ≡ true → bytes_eq other one ≡ false → is_of_kind other r ≡ false
kind-differs one other None is differ = refl
kind-differs one other (Some r) is differ = by_test (bytes_eq r.kind other) refl
  where
    by_test : (test : Bool) → bytes_eq r.kind other ≡ test → bytes_eq r.kind other ≡ false
    by_test false t = t
    by_test true t =
        let equal : other ≡ one = sym (same-kind r.kind other t) ∙ same-kind r.kind one is in
        absurd (true≢false (sym (bytes_eq-refl one) ∙ ap (λ k. bytes_eq k one) (sym equal) ∙ differ))

kind-same : (one other : List ℕ) (r : Option Resource) → is_of_kind one r ≡ false → bytes_eq other one ≡ true → is_of_kind other r ≡ false
kind-same one other r is same = ap (λ k. is_of_kind k r) (same-kind other one same) ∙ is

-- the needs of a kind and the other needs share no resource, so both are met together
pub spread-interleaved : (kind : List ℕ) (free : FreeValue) (needs : List Need) (here rest : List ℕ) → IsSpread free (filter (asks_kind kind) needs) here → IsSpread free (filter (asks_other kind) needs) rest → IsSpread free needs (interleaved kind needs here rest)
spread-interleaved kind free needs here rest mine others = record {
  kinds = interleaved-kinds kind free.resources needs here rest mine.kinds others.kinds;
  room = λ place. by_test place (is_of_kind kind (slice_get free.resources place)) refl;
}
  where
    by_test : (place : ℕ) (test : Bool) → is_of_kind kind (slice_get free.resources place) ≡ test → load place (sizes_of needs) (interleaved kind needs here rest) ≤ free_at free place
    by_test place true t =
        let none : load place (sizes_of (filter (asks_other kind) needs)) rest ≡ 0 =
        none-here (asks_other kind) place free.resources needs rest (λ need other. kind-differs kind need.kind (slice_get free.resources place) t (not-true (asks_kind kind need) other)) others.kinds in
        omega (arith, interleaved-load kind place free.resources needs here rest mine.kinds others.kinds, none, mine.room place)
    by_test place false t =
        let none : load place (sizes_of (filter (asks_kind kind) needs)) here ≡ 0 =
        none-here (asks_kind kind) place free.resources needs here (λ need same. kind-same kind need.kind (slice_get free.resources place) t same) mine.kinds in
        omega (arith, interleaved-load kind place free.resources needs here rest mine.kinds others.kinds, none, others.room place)

-- the position of a number in a list; the list's length if it is not there
abbrev pub index_of : ℕ → List ℕ → ℕ
index_of n [] = 0
index_of n (first ∷ rest) = cond (first == n) 0 (suc (index_of n rest))

pub index-at : (n : ℕ) (cards : List ℕ) → index_of n cards < length cards → get_or cards (index_of n cards) 0 ≡ n
index-at n [] inside = absurd (omega arith)
index-at n (first ∷ rest) inside = by_test (index-at n rest) (first == n) refl inside
  where
    by_test : (index_of n rest < length rest → get_or rest (index_of n rest) 0 ≡ n) → (test : Bool) → (first == n) ≡ test → cond test 0 (suc (index_of n rest)) < suc (length rest) → get_or (first ∷ rest) (cond test 0 (suc (index_of n rest))) 0 ≡ n
    by_test again true t below = grind (arith, nat_tests)
    by_test again false t below = again (omega arith)

-- the cards of a kind ascend from the first place on
above : (kind : List ℕ) (place : ℕ) (resources : List Resource) (i : ℕ) → i < length (cards_from place kind resources) → place ≤ get_or (cards_from place kind resources) i 0
above kind place [] i inside = absurd (omega arith)
above kind place (r ∷ rs) i inside = by_test (above kind (place + 1) rs) (bytes_eq r.kind kind) refl i inside
  where
    by_test : ((i : ℕ) → i < length (cards_from (place + 1) kind rs) → place + 1 ≤ get_or (cards_from (place + 1) kind rs) i 0) → (test : Bool) → bytes_eq r.kind kind ≡ test → (i : ℕ) → i < length (cards_from place kind (r ∷ rs)) → place ≤ get_or (cards_from place kind (r ∷ rs)) i 0
    by_test again true t zero inside = rw t (omega arith)
    by_test again true t (suc i) inside =
        let below : suc i < suc (length (cards_from (place + 1) kind rs)) = rw t at inside in
        rw t (omega (arith, again i (omega arith)))
    by_test again false t i inside =
        let below : i < length (cards_from (place + 1) kind rs) = rw t at inside in
        rw t (omega (arith, again i below))

-- each card is in the list once
card-own : (kind : List ℕ) (place : ℕ) (resources : List Resource) (i : ℕ) → i < length (cards_from place kind resources) → index_of (get_or (cards_from place kind resources) i 0) (cards_from place kind resources) ≡ i
card-own kind place [] i inside = absurd (omega arith)
card-own kind place (r ∷ rs) i inside = by_test (card-own kind (place + 1) rs) (bytes_eq r.kind kind) refl i inside
  where
    by_test : ((i : ℕ) → i < length (cards_from (place + 1) kind rs) → index_of (get_or (cards_from (place + 1) kind rs) i 0) (cards_from (place + 1) kind rs) ≡ i) → (test : Bool) → bytes_eq r.kind kind ≡ test → (i : ℕ) → i < length (cards_from place kind (r ∷ rs)) → index_of (get_or (cards_from place kind (r ∷ rs)) i 0) (cards_from place kind (r ∷ rs)) ≡ i
    by_test again true t zero inside = rw t (let own : (place == place) ≡ true = grind (arith, nat_tests) in ap (λ b. cond b 0 (suc (index_of place (cards_from (place + 1) kind rs)))) own)
    by_test again true t (suc i) inside =
        let below : suc i < suc (length (cards_from (place + 1) kind rs)) = rw t at inside in
        let over = above kind (place + 1) rs i (omega arith) in
        let other : (place == get_or (cards_from (place + 1) kind rs) i 0) ≡ false = grind (arith, nat_tests) in
        rw t (ap (λ b. cond b 0 (suc (index_of (get_or (cards_from (place + 1) kind rs) i 0) (cards_from (place + 1) kind rs)))) other ∙ ap (λ n. suc n) (again i (omega arith)))
    by_test again false t i inside =
        let below : i < length (cards_from (place + 1) kind rs) = rw t at inside in
        rw t (again i below)

-- a resource of the kind is a card, and a card is a resource of the kind
pub card-there : (kind : List ℕ) (first : ℕ) (resources : List Resource) (at place : ℕ) → place ≡ first + at → is_of_kind kind (slice_get resources at) ≡ true → index_of place (cards_from first kind resources) < length (cards_from first kind resources)
card-there kind first [] at place is of = cc
card-there kind first (r ∷ rs) zero place is of =
    let same : place ≡ first = omega arith in
    let own : (first == place) ≡ true = grind (arith, nat_tests) in
    rw (of, own) (omega arith)
card-there kind first (r ∷ rs) (suc at) place is of = by_test (card-there kind (first + 1) rs at place (omega arith) of) (bytes_eq r.kind kind) refl
  where
    by_test : index_of place (cards_from (first + 1) kind rs) < length (cards_from (first + 1) kind rs) → (test : Bool) → bytes_eq r.kind kind ≡ test → index_of place (cards_from first kind (r ∷ rs)) < length (cards_from first kind (r ∷ rs))
    by_test again true t =
        let other : (first == place) ≡ false = grind (arith, nat_tests) in
        rw (t, other) (omega (arith, again))
    by_test again false t = rw t again

later : (kind : List ℕ) (first : ℕ) (r : Resource) (rs : List Resource) → ((i at : ℕ) → i < length (cards_from (first + 1) kind rs) → get_or (cards_from (first + 1) kind rs) i 0 ≡ (first + 1) + at → is_of_kind kind (slice_get rs at) ≡ true) → (i at : ℕ) → i < length (cards_from (first + 1) kind rs) → get_or (cards_from (first + 1) kind rs) i 0 ≡ first + at → is_of_kind kind (slice_get (r ∷ rs) at) ≡ true
later kind first r rs f i zero inside is = absurd (omega (arith, above kind (first + 1) rs i inside))
later kind first r rs f i (suc at) inside is = f i at inside (omega (arith, is))

pub card-kind : (kind : List ℕ) (first : ℕ) (resources : List Resource) (i at : ℕ) → i < length (cards_from first kind resources) → get_or (cards_from first kind resources) i 0 ≡ first + at → is_of_kind kind (slice_get resources at) ≡ true
card-kind kind first [] i at inside is = absurd (omega arith)
card-kind kind first (r ∷ rs) i at inside is = by_test (later kind first r rs (card-kind kind (first + 1) rs)) (bytes_eq r.kind kind) refl i at inside is
  where
    by_test : ((i at : ℕ) → i < length (cards_from (first + 1) kind rs) → get_or (cards_from (first + 1) kind rs) i 0 ≡ first + at → is_of_kind kind (slice_get (r ∷ rs) at) ≡ true) → (test : Bool) → bytes_eq r.kind kind ≡ test → (i at : ℕ) → i < length (cards_from first kind (r ∷ rs)) → get_or (cards_from first kind (r ∷ rs)) i 0 ≡ first + at → is_of_kind kind (slice_get (r ∷ rs) at) ≡ true
    by_test f true t zero zero inside is = t
    by_test f true t zero (suc at) inside is = let here : first ≡ first + suc at = rw t at is in absurd (omega arith)
    by_test f true t (suc i) at inside is = f i at (let below : suc i < suc (length (cards_from (first + 1) kind rs)) = rw t at inside in omega arith) (rw t at is)
    by_test f false t i at inside is = f i at (rw t at inside) (rw t at is)

-- the cards of a kind, and what is free of each
abbrev pub cards_of : FreeValue → List ℕ → List ℕ
cards_of free kind = cards_from 0 kind free.resources

abbrev pub free_of : FreeValue → List ℕ → List ℕ
free_of free kind = map (λ (place : ℕ). free_at free place) (cards_of free kind)

mapped-length : (f : ℕ → ℕ) (xs : List ℕ) → length (map f xs) ≡ length xs
mapped-length f [] = refl
mapped-length f (x ∷ xs) = ap (λ n. suc n) (mapped-length f xs)

at-card : (n j : ℕ) (cards : List ℕ) → j < length cards → index_of (get_or cards j 0) cards ≡ j → (get_or cards j 0 == n) ≡ (j == index_of n cards)
at-card n j cards inside own = by_test (get_or cards j 0 == n) refl
  where
    by_test : (test : Bool) → (get_or cards j 0 == n) ≡ test → (get_or cards j 0 == n) ≡ (j == index_of n cards)
    by_test true t =
        let equal : get_or cards j 0 ≡ n = grind (arith, nat_tests) in
        let there : j ≡ index_of n cards = sym own ∙ ap (λ (m : ℕ). index_of m cards) equal in
        let other : (j == index_of n cards) ≡ true = grind (arith, nat_tests) in
        t ∙ sym other
    by_test false t = by_index (j == index_of n cards) refl
      where
        by_index : (test : Bool) → (j == index_of n cards) ≡ test → (get_or cards j 0 == n) ≡ (j == index_of n cards)
        by_index false i = t ∙ sym i
        by_index true i =
            let equal : j ≡ index_of n cards = grind (arith, nat_tests) in
            let here : index_of n cards < length cards = omega arith in
            let found : get_or cards j 0 ≡ n = ap (λ (m : ℕ). get_or cards m 0) equal ∙ index-at n cards here in
            let yes : (get_or cards j 0 == n) ≡ true = grind (arith, nat_tests) in
            absurd (true≢false (sym yes ∙ t))

-- the slots taken of a resource are the slots taken of its card
load-cards : (kind : List ℕ) (resources : List Resource) (place : ℕ) (sizes found : List ℕ) → list_all (λ card. nat_lt card (length (cards_from 0 kind resources))) found ≡ true → load place sizes (map (λ card. get_or (cards_from 0 kind resources) card 0) found) ≡ load (index_of place (cards_from 0 kind resources)) sizes found
load-cards kind resources place [] found all = refl
load-cards kind resources place (size ∷ sizes) [] all = refl
load-cards kind resources place (size ∷ sizes) (card ∷ found) all =
    let cards : List ℕ = cards_from 0 kind resources in
    let both = and_parts (nat_lt card (length cards)) (list_all (λ c. nat_lt c (length cards)) found) all in
    let inside : card < length (cards_from 0 kind resources) = grind (arith, nat_tests) in
    let same = at-card place card (cards_from 0 kind resources) inside (card-own kind 0 resources card inside) in
    let again = load-cards kind resources place sizes found both.1 in
    let here : share place (get_or (cards_from 0 kind resources) card 0) size ≡ share (index_of place (cards_from 0 kind resources)) card size = ap (λ b. cond b size 0) same in
    omega (arith, here, again)

kinds-cards : (kind : List ℕ) (resources : List Resource) (needs : List Need) (found : List ℕ) → list_all (asks_kind kind) needs ≡ true → length found ≡ length (sizes_of needs) → list_all (λ card. nat_lt card (length (cards_from 0 kind resources))) found ≡ true → are_of_kind resources needs (map (λ card. get_or (cards_from 0 kind resources) card 0) found) ≡ true
kinds-cards kind resources [] [] alike count all = refl
kinds-cards kind resources [] (card ∷ found) alike count all = absurd (omega arith)
kinds-cards kind resources (need ∷ needs) [] alike count all = absurd (omega arith)
kinds-cards kind resources (need ∷ needs) (card ∷ found) alike count all =
    let both = and_parts (nat_lt card (length (cards_from 0 kind resources))) (list_all (λ c. nat_lt c (length (cards_from 0 kind resources))) found) all in
    let mine = and_parts (asks_kind kind need) (list_all (asks_kind kind) needs) alike in
    let inside : card < length (cards_from 0 kind resources) = grind (arith, nat_tests) in
    let at : ℕ = get_or (cards_from 0 kind resources) card 0 in
    let of : is_of_kind kind (slice_get resources at) ≡ true = card-kind kind 0 resources card at inside (omega arith) in
    and_from (is_of_kind need.kind (slice_get resources at)) (are_of_kind resources needs (map (λ c. get_or (cards_from 0 kind resources) c 0) found))
    (ap (λ k. is_of_kind k (slice_get resources at)) (same-kind need.kind kind mine.0) ∙ of)
    (kinds-cards kind resources needs found mine.1 (omega arith) both.1)

-- if there is a packing on the cards of the kind, the needs are met at the places of the cards
pub spread-packed : (free : FreeValue) (kind : List ℕ) (needs : List Need) (found : List ℕ) → list_all (asks_kind kind) needs ≡ true → IsPacking (free_of free kind) (sizes_of needs) found → IsSpread free needs (map (λ card. get_or (cards_of free kind) card 0) found)
spread-packed free kind needs found alike packs =
    let cards : List ℕ = cards_of free kind in
    let many : length (free_of free kind) ≡ length (cards_of free kind) = mapped-length (λ (place : ℕ). free_at free place) (cards_of free kind) in
    let all : list_all (λ card. nat_lt card (length (cards_of free kind))) found ≡ true = subst (λ (n : ℕ). list_all (λ card. nat_lt card n) found ≡ true) many packs.within in
    record {
      kinds = kinds-cards kind free.resources needs found alike packs.count all;
      room = λ place. (
          let same = load-cards kind free.resources place (sizes_of needs) found all in
          let le = packs.room (index_of place (cards_of free kind)) in
          let bound : get_or (free_of free kind) (index_of place (cards_of free kind)) 0 ≤ free_at free place = by_there place (nat_lt (index_of place (cards_of free kind)) (length (cards_of free kind))) refl in
          omega (arith, same, le, bound));
    }
  where
    by_there : (place : ℕ) (test : Bool) → nat_lt (index_of place (cards_of free kind)) (length (cards_of free kind)) ≡ test → get_or (free_of free kind) (index_of place (cards_of free kind)) 0 ≤ free_at free place
    by_there place true t =
        let inside : index_of place (cards_of free kind) < length (cards_of free kind) = grind (arith, nat_tests) in
        let mapped = get_or-map (λ (p : ℕ). free_at free p) (cards_of free kind) (index_of place (cards_of free kind)) 0 0 inside in
        let found_at = ap (λ (p : ℕ). free_at free p) (index-at place (cards_of free kind) inside) in
        omega (arith, mapped, found_at)
    by_there place false t =
        let beyond : length (cards_of free kind) ≤ index_of place (cards_of free kind) = grind (arith, nat_tests) in
        let many : length (free_of free kind) ≡ length (cards_of free kind) = mapped-length (λ (p : ℕ). free_at free p) (cards_of free kind) in
        let past = get_or_past (free_of free kind) (index_of place (cards_of free kind)) 0 (omega arith) in
        omega (arith, past)

within-cards : (kind : List ℕ) (resources : List Resource) (needs : List Need) (places : List ℕ) → list_all (asks_kind kind) needs ≡ true → are_of_kind resources needs places ≡ true → (length places ≡ length (sizes_of needs)) × (list_all (λ card. nat_lt card (length (cards_from 0 kind resources))) (map (λ place. index_of place (cards_from 0 kind resources)) places) ≡ true)
within-cards kind resources [] [] alike all = (refl, refl)
within-cards kind resources [] (place ∷ places) alike all = cc
within-cards kind resources (need ∷ needs) [] alike all = cc
within-cards kind resources (need ∷ needs) (place ∷ places) alike all =
    let both = and_parts (is_of_kind need.kind (slice_get resources place)) (are_of_kind resources needs places) all in
    let mine = and_parts (asks_kind kind need) (list_all (asks_kind kind) needs) alike in
    let of : is_of_kind kind (slice_get resources place) ≡ true = ap (λ k. is_of_kind k (slice_get resources place)) (sym (same-kind need.kind kind mine.0)) ∙ both.0 in
    let inside = card-there kind 0 resources place place (omega arith) of in
    let again = within-cards kind resources needs places mine.1 both.1 in
    (omega (arith, again.0), and_from (nat_lt (index_of place (cards_from 0 kind resources)) (length (cards_from 0 kind resources))) (list_all (λ card. nat_lt card (length (cards_from 0 kind resources))) (map (λ p. index_of p (cards_from 0 kind resources)) places)) (grind (arith, nat_tests)) again.1)

-- a card takes no more than its resource
load-indexed : (card : ℕ) (cards sizes places : List ℕ) → card < length cards → load card sizes (map (λ place. index_of place cards) places) ≤ load (get_or cards card 0) sizes places
load-indexed card cards [] places inside = omega arith
load-indexed card cards (size ∷ sizes) [] inside = omega arith
load-indexed card cards (size ∷ sizes) (place ∷ places) inside =
    let again = load-indexed card cards sizes places inside in
    let here : share card (index_of place cards) size ≤ share (get_or cards card 0) place size = by_test (index_of place cards == card) refl in
    omega (arith, here, again)
  where
    by_test : (test : Bool) → (index_of place cards == card) ≡ test → cond test size 0 ≤ share (get_or cards card 0) place size
    by_test false t = omega arith
    by_test true t =
        let equal : index_of place cards ≡ card = grind (arith, nat_tests) in
        let below : index_of place cards < length cards = omega arith in
        let found : get_or cards card 0 ≡ place = ap (λ (i : ℕ). get_or cards i 0) (sym equal) ∙ index-at place cards below in
        let same : (place == get_or cards card 0) ≡ true = grind (arith, nat_tests) in
        let all : share (get_or cards card 0) place size ≡ size = ap (λ b. cond b size 0) same in
        omega (arith, all)

load-beyond : (n card : ℕ) (sizes found : List ℕ) → list_all (λ c. nat_lt c n) found ≡ true → n ≤ card → load card sizes found ≡ 0
load-beyond n card [] found all beyond = refl
load-beyond n card (size ∷ sizes) [] all beyond = refl
load-beyond n card (size ∷ sizes) (first ∷ found) all beyond =
    let both = and_parts (nat_lt first n) (list_all (λ c. nat_lt c n) found) all in
    let other : (first == card) ≡ false = grind (arith, nat_tests) in
    let again = load-beyond n card sizes found both.1 beyond in
    let none : share card first size ≡ 0 = ap (λ b. cond b size 0) other in
    omega (arith, none, again)

-- if the needs are met, their cards are a packing on the cards of the kind
pub packed-spread : (free : FreeValue) (kind : List ℕ) (needs : List Need) (places : List ℕ) → list_all (asks_kind kind) needs ≡ true → IsSpread free needs places → IsPacking (free_of free kind) (sizes_of needs) (map (λ place. index_of place (cards_of free kind)) places)
packed-spread free kind needs places alike spread =
    let both = within-cards kind free.resources needs places alike spread.kinds in
    let many : length (free_of free kind) ≡ length (cards_of free kind) = mapped-length (λ (p : ℕ). free_at free p) (cards_of free kind) in
    record {
      count = mapped-length (λ place. index_of place (cards_of free kind)) places ∙ both.0;
      within = subst (λ (n : ℕ). list_all (λ card. nat_lt card n) (map (λ place. index_of place (cards_of free kind)) places) ≡ true) (sym many) both.1;
      room = λ card. by_test both.1 card (nat_lt card (length (cards_of free kind))) refl;
    }
  where
    by_test : list_all (λ card. nat_lt card (length (cards_of free kind))) (map (λ place. index_of place (cards_of free kind)) places) ≡ true → (card : ℕ) (test : Bool) → nat_lt card (length (cards_of free kind)) ≡ test → load card (sizes_of needs) (map (λ place. index_of place (cards_of free kind)) places) ≤ get_or (free_of free kind) card 0
    by_test all card true t =
        let inside : card < length (cards_of free kind) = grind (arith, nat_tests) in
        let mapped = get_or-map (λ (p : ℕ). free_at free p) (cards_of free kind) card 0 0 inside in
        omega (arith, mapped, load-indexed card (cards_of free kind) (sizes_of needs) places inside, spread.room (get_or (cards_of free kind) card 0))
    by_test all card false t =
        let beyond : length (cards_of free kind) ≤ card = grind (arith, nat_tests) in
        omega (arith, load-beyond (length (cards_of free kind)) card (sizes_of needs) (map (λ place. index_of place (cards_of free kind)) places) all beyond)

pub none-packed : (free : FreeValue) (kind : List ℕ) (needs : List Need) → list_all (asks_kind kind) needs ≡ true → (CanPack (free_of free kind) (sizes_of needs) → ⊥) → NoneSpread free needs
none-packed free kind needs alike none = λ places spread. none (map (λ place. index_of place (cards_of free kind)) places, packed-spread free kind needs places alike spread)

-- each element that a filter keeps passes its test
pub all-filter : {A : Type 0} (p : A → Bool) (xs : List A) → list_all p (filter p xs) ≡ true
all-filter p [] = refl
all-filter p (x ∷ xs) = by_test (all-filter p xs) (p x) refl
  where
    by_test : list_all p (filter p xs) ≡ true → (test : Bool) → p x ≡ test → list_all p (filter p (x ∷ xs)) ≡ true
    by_test again true t = rw t (and_from (p x) (list_all p (filter p xs)) t again)
    by_test again false t = rw t again

-- without the needs of the first need's kind there are fewer needs
pub others-less : (need : Need) (needs : List Need) → length (filter (asks_other need.kind) (need ∷ needs)) < suc (length needs)
others-less need needs =
    let own : asks_other need.kind need ≡ false = ap (λ b. not b) (bytes_eq-refl need.kind) in
    rw own (omega (arith, length-filter (asks_other need.kind) needs, count_by-le-length (asks_other need.kind) needs))

pub others-fewer : {X : Type 0} (f : X → Need) (needs : List X) (first : X) → slice_get needs 0 ≡ Some first → length (filter (asks_other (f first).kind) (map f needs)) < length needs
others-fewer f [] first is = cc
others-fewer f (need ∷ needs) first is =
    let same : need ≡ first = cc in
    let less = others-less (f need) (map f needs) in
    let many : length (map f needs) ≡ length needs = length-map needs f in
    subst (λ (x : _). length (filter (asks_other (f x).kind) (map f (need ∷ needs))) < length (need ∷ needs)) same (omega (arith, less, many))
