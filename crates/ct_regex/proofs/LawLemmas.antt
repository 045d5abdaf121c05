-- Laws of matching over trees and over patterns of plain bytes.
use Rattle.std.proofs.Common.{◌≡◌, ◌≤◌, ◌<◌, ◌⊎◌, ◌||◌, ◌==◌, ℕ, zero, suc, ◌+◌, Bool, true, false, List, [], ◌∷◌, ◌++◌, length, map, drop, take, get_or, inl, inr, ⊎_elim, refl, sym, ◌∙◌, ap, subst, append-nil, append_assoc, Ok, nat_lt, arith}
use Rattle.std.proofs.lemmas.Bool.{and_parts, eqb-true, not-true, or_parts, cases_lt}
use Rattle.std.proofs.Math.Bool.{or-false}
use Rattle.std.specs.List.{flat_map, list_all}
use Rattle.std.proofs.lemmas.List.{drop_more, take-append-drop, length-append, length-drop}
use Rattle.std.proofs.lemmas.Option.{slice_get-get_or, slice_get_past}
use Rattle.std.proofs.lemmas.Bool.Decides.{nat_tests}
use Rattle.std.proofs.Math.Seq.{drop-append_seam}
use Rattle.ct_regex.specs.Limits.{most_pattern_bytes}
use Rattle.ct_regex.specs.Tree.{Tree, never, one, same, choice, sequence_of, branch_of}
use Rattle.ct_regex.specs.Ends.{ends, behind, place_if, has_place, hits, hits_up_to}
use Rattle.ct_regex.specs.Signs.{atom, signs}
use Rattle.ct_regex.specs.Reading.{Group, read, reading, all_parts, opened_at, with_atom}
use Rattle.ct_regex.specs.Laws.{stands_for_itself, are_plain, HasPart}
use Rattle.ct_regex.proofs.AmongLemmas.{Among, among_flat, among_from}
use Rattle.ct_regex.proofs.HitLemmas.{hits_from, hits_to, has_place-append}

single : (xs : List ℕ) → flat_map (λ place. place ∷ []) xs ≡ xs
single [] = refl
single (x ∷ xs) = ap (λ ys. x ∷ ys) (single xs)

bracketed : (text : List ℕ) (tree : Tree) (place : ℕ) → ends text (branch_of (sequence_of (tree ∷ []) ∷ [])) place ≡ ends text tree place
bracketed text tree place = append-nil (flat_map (λ place. place ∷ []) (ends text tree place)) ∙ single (ends text tree place)

pub bracketed_hits_to : (last : ℕ) (text : List ℕ) (tree : Tree) → hits_up_to last text (branch_of (sequence_of (tree ∷ []) ∷ [])) ≡ hits_up_to last text tree
bracketed_hits_to zero text tree = ap has_place (bracketed text tree 0)
bracketed_hits_to (suc last) text tree =
    ap (λ b. b || hits_up_to last text (branch_of (sequence_of (tree ∷ []) ∷ []))) (ap has_place (bracketed text tree (suc last)))
    ∙ ap (λ b. has_place (ends text tree (suc last)) || b) (bracketed_hits_to last text tree)

pub bracketed_hits : (tree : Tree) (text : List ℕ) → hits (branch_of (sequence_of (tree ∷ []) ∷ [])) text ≡ hits tree text
bracketed_hits tree text = bracketed_hits_to (length text) text tree

or_swap : (a b c d : Bool) → ((a || b) || (c || d)) ≡ ((a || c) || (b || d))
or_swap true b c d = refl
or_swap false true true d = refl
or_swap false true false d = refl
or_swap false false c d = refl

choice_hits_to : (last : ℕ) (text : List ℕ) (left right : Tree) →
    hits_up_to last text (choice left right) ≡ (hits_up_to last text left || hits_up_to last text right)
choice_hits_to zero text left right = has_place-append (ends text left 0) (ends text right 0)
choice_hits_to (suc last) text left right =
    ap (λ b. b || hits_up_to last text (choice left right)) (has_place-append (ends text left (suc last)) (ends text right (suc last)))
    ∙ ap (λ b. (has_place (ends text left (suc last)) || has_place (ends text right (suc last))) || b) (choice_hits_to last text left right)
    ∙ or_swap (has_place (ends text left (suc last))) (has_place (ends text right (suc last))) (hits_up_to last text left) (hits_up_to last text right)

pub choice_hits : (left right : Tree) (text : List ℕ) → hits (choice left right) text ≡ (hits left text || hits right text)
choice_hits left right text = choice_hits_to (length text) text left right

-- the parts of a pattern of plain bytes
abbrev pub parts_of : List ℕ → List Tree
parts_of bytes = map (λ byte. one (same byte)) bytes

pub plain_is : (place byte : ℕ) (rest : List ℕ) → stands_for_itself byte ≡ true → signs place (byte ∷ rest) ≡ atom (one (same byte)) ∷ signs (place + 1) rest
plain_is place byte rest h =
    let a = or_parts (byte == 91) _ (not-true _ h) in
    let b = or_parts (byte == 92) _ a.1 in
    let c = or_parts (byte == 94) _ b.1 in
    let d = or_parts (byte == 36) _ c.1 in
    let e = or_parts (byte == 46) _ d.1 in
    let f = or_parts (byte == 40) _ e.1 in
    let g = or_parts (byte == 41) _ f.1 in
    let i = or_parts (byte == 124) _ g.1 in
    let j = or_parts (byte == 42) _ i.1 in
    let k = or_parts (byte == 43) _ j.1 in
    let l = or_parts (byte == 63) _ k.1 in
    rw (a.0, b.0, c.0, d.0, e.0, f.0, g.0, i.0, j.0, k.0, l.0) refl

plain_read : (bytes : List ℕ) (place : ℕ) (group : Group) → group.branches ≡ [] → are_plain bytes ≡ true →
    read (record { inner = group; outer = [] }) (signs place bytes) ≡ Ok (choice (sequence_of (all_parts group ++ parts_of bytes)) never)
plain_read [] place group e h =
    ap (λ bs. Ok (branch_of (bs ++ sequence_of (all_parts group) ∷ []))) e
    ∙ ap (λ ps. Ok (choice (sequence_of ps) never)) (sym (append-nil (all_parts group)))
plain_read (byte ∷ bytes) place group e h =
    let both = and_parts (stands_for_itself byte) (list_all stands_for_itself bytes) h in
    ap (read (record { inner = group; outer = [] })) (plain_is place byte bytes both.0)
    ∙ plain_read bytes (place + 1) (with_atom (one (same byte)) group) e both.1
    ∙ ap (λ ps. Ok (choice (sequence_of ps) never)) (append_assoc (all_parts group) (one (same byte) ∷ []) (parts_of bytes))

pub plain_reading : (bytes : List ℕ) → are_plain bytes ≡ true → length bytes ≤ most_pattern_bytes → reading bytes ≡ Ok (choice (sequence_of (parts_of bytes)) never)
plain_reading bytes h few = rw few_is (plain_read bytes 0 (opened_at 0) refl h)
  where
    few_is : nat_lt most_pattern_bytes (length bytes) ≡ false
    few_is = grind (arith, nat_tests)

-- if the parts match from a place on, the text there begins with the bytes
plain_ends : (bytes text : List ℕ) (place to : ℕ) → place ≤ length text → Among to (ends text (sequence_of (parts_of bytes)) place) →
    (back : List ℕ) × (drop place text ≡ bytes ++ back)
plain_ends [] text place to within a = (drop place text, refl)
plain_ends (byte ∷ bytes) text place to within a =
    let found = among_from (ends text (sequence_of (parts_of bytes))) (ends text (one (same byte)) place) to a in
    step (λ mid w m. plain_ends bytes text mid to w m) found.0 found.1 found.2 (cases_lt place (length text))
  where
    through : (b : Bool) (at mid : ℕ) → Among mid (place_if b (at + 1)) → (b ≡ true) × (at + 1 ≡ mid)
    through true at mid m = ⊎_elim (λ e. (refl, e)) (λ no. absurd no) m
    through false at mid m = absurd m

    step : ((mid : ℕ) → mid ≤ length text → Among to (ends text (sequence_of (parts_of bytes)) mid) → (back : List ℕ) × (drop mid text ≡ bytes ++ back)) →
        (mid : ℕ) → Among mid (ends text (one (same byte)) place) → Among to (ends text (sequence_of (parts_of bytes)) mid) →
        (place < length text) ⊎ (length text ≤ place) → (back : List ℕ) × (drop place text ≡ byte ∷ bytes ++ back)
    step again mid m rest (inl inside) =
        let here = subst (λ v. Among mid (behind (same byte) place v)) (slice_get-get_or text place 0 inside) m in
        let got = through (get_or text place 0 == byte) place mid here in
        let next = again mid (omega (arith, got.1)) rest in (
          next.0,
          drop_more text place 0 inside
              ∙ ap (λ b. b ∷ drop (place + 1) text) (eqb-true (get_or text place 0) byte got.0)
              ∙ ap (λ n. byte ∷ drop n text) got.1
              ∙ ap (λ bs. byte ∷ bs) next.1,
        )
    step again mid m rest (inr past) = absurd (subst (λ v. Among mid (behind (same byte) place v)) (slice_get_past text place past) m)

-- if the text at a place begins with the bytes, the parts match there
plain_ends_at : (bytes back text : List ℕ) (place : ℕ) → drop place text ≡ bytes ++ back → (to : ℕ) × Among to (ends text (sequence_of (parts_of bytes)) place)
plain_ends_at [] back text place e = (place, inl refl)
plain_ends_at (byte ∷ bytes) back text place e =
    let rest = plain_ends_at bytes back text (place + 1) after in
    (rest.0, among_flat (ends text (sequence_of (parts_of bytes))) (ends text (one (same byte)) place) (place + 1) rest.0 here rest.1)
  where
    inside : place < length text
    inside = omega (arith, length-drop place text, ap length e)

    both : get_or text place 0 ∷ drop (place + 1) text ≡ byte ∷ bytes ++ back
    both = sym (drop_more text place 0 inside) ∙ e

    first : get_or text place 0 ≡ byte
    first = cc both

    after : drop (place + 1) text ≡ bytes ++ back
    after = cc both

    is_same : (a b : ℕ) → a ≡ b → (a == b) ≡ true
    is_same a b h = grind (arith, nat_tests)

    here : Among (place + 1) (ends text (one (same byte)) place)
    here = subst (λ v. Among (place + 1) (behind (same byte) place v)) (sym (slice_get-get_or text place 0 inside))
        (subst (λ b. Among (place + 1) (place_if b (place + 1))) (sym (is_same (get_or text place 0) byte first)) (inl refl))

choice_left : (left : Tree) (text : List ℕ) → hits (choice left never) text ≡ hits left text
choice_left left text = choice_hits left never text ∙ ap (λ b. hits left text || b) (never_hits (length text)) ∙ or-false (hits left text)
  where
    never_hits : (last : ℕ) → hits_up_to last text never ≡ false
    never_hits zero = refl
    never_hits (suc last) = never_hits last

pub plain_hits : (bytes text : List ℕ) → hits (choice (sequence_of (parts_of bytes)) never) text ≡ true → HasPart bytes text
plain_hits bytes text h =
    let found = hits_to (length text) text (sequence_of (parts_of bytes)) (sym (choice_left (sequence_of (parts_of bytes)) text) ∙ h) in
    let goes_on = plain_ends bytes text found.0 found.2 found.1 found.3 in
    record { front = take found.0 text; back = goes_on.0; there = sym (take-append-drop found.0 text) ∙ ap (λ xs. take found.0 text ++ xs) goes_on.1 }

pub plain_hits_at : (bytes text : List ℕ) → HasPart bytes text → hits (choice (sequence_of (parts_of bytes)) never) text ≡ true
plain_hits_at bytes text p =
    let at : drop (length p.front) text ≡ bytes ++ p.back = ap (drop (length p.front)) p.there ∙ drop-append_seam p.front (bytes ++ p.back) in
    let found = plain_ends_at bytes p.back text (length p.front) at in
    choice_left (sequence_of (parts_of bytes)) text
    ∙ hits_from (length text) text (sequence_of (parts_of bytes)) (length p.front) found.0
    (omega (arith, ap length p.there, length-append p.front (bytes ++ p.back))) found.1
