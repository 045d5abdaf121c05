-- How the signs of a set go on behind an item.
use Rattle.std.proofs.Common.{◌≡◌, ◌≤◌, ◌<◌, ◌&&◌, ◌==◌, ℕ, ◌+◌, Bool, true, false, not, List, [], ◌∷◌, ◌++◌, length, drop, get_or, cond, refl, sym, ◌∙◌, ap, nat_lt, arith}
use Rattle.std.proofs.lemmas.List.{drop_more, drop-drop, length-drop}
use Rattle.ct_regex.specs.declared.tree.Span.{Span}
use Rattle.ct_regex.specs.Signs.{signs, set_signs, begins_negated, is_range, item_high, is_none}

pub is_none-push : (items : List Span) (item : Span) → is_none (items ++ item ∷ []) ≡ false
is_none-push [] item = refl
is_none-push (x ∷ items) item = refl

pub range_len : (rest : List ℕ) → is_range rest ≡ true → 2 ≤ length rest
range_len [] h = absurd (let no : false ≡ true = h in cc)
range_len (dash ∷ []) h = absurd (let no : false ≡ true = h in cc)
range_len (dash ∷ high ∷ rest) h = omega arith

pub negated_len : (rest : List ℕ) → begins_negated rest ≡ true → 1 ≤ length rest
negated_len [] h = absurd (let no : false ≡ true = h in cc)
negated_len (byte ∷ rest) h = omega arith

-- a set begins
pub set_begins : (place : ℕ) (rest : List ℕ) →
    signs place (91 ∷ rest) ≡ set_signs place (begins_negated rest) (cond (begins_negated rest) 1 0) (place + 1) [] rest
set_begins place rest = refl

pub skip_one : (opened : ℕ) (negated : Bool) (place : ℕ) (items : List Span) (rest : List ℕ) → 1 ≤ length rest →
    set_signs opened negated 1 place items rest ≡ set_signs opened negated 0 (place + 1) items (drop 1 rest)
skip_one opened negated place items [] h = absurd (omega arith)
skip_one opened negated place items (a ∷ rest) h = refl

pub skip_two : (opened : ℕ) (negated : Bool) (place : ℕ) (items : List Span) (rest : List ℕ) → 2 ≤ length rest →
    set_signs opened negated 2 place items rest ≡ set_signs opened negated 0 (place + 1 + 1) items (drop 2 rest)
skip_two opened negated place items [] h = absurd (omega arith)
skip_two opened negated place items (a ∷ []) h = absurd (omega arith)
skip_two opened negated place items (a ∷ b ∷ rest) h = refl

pub set_item : (opened : ℕ) (negated : Bool) (place : ℕ) (items : List Span) (byte : ℕ) (rest : List ℕ) →
    ((byte == 93) && not (is_none items)) ≡ false → nat_lt (item_high byte rest) byte ≡ false →
    set_signs opened negated 0 place items (byte ∷ rest) ≡
    set_signs opened negated (cond (is_range rest) 2 0) (place + 1) (items ++ record { low = byte; high = item_high byte rest } ∷ []) rest
set_item opened negated place items byte rest h k = rw (h, k) refl

negated_within : (text : List ℕ) (opened : ℕ) → opened < length text → begins_negated (drop (opened + 1) text) ≡ true → opened + 2 ≤ length text
negated_within text opened within h = omega (arith, negated_len (drop (opened + 1) text) h, length-drop (opened + 1) text)

pub set_first : (text : List ℕ) (opened : ℕ) (negated : Bool) → opened < length text → get_or text opened 0 ≡ 91 →
    negated ≡ begins_negated (drop (opened + 1) text) →
    (signs opened (drop opened text) ≡ set_signs opened negated 0 (opened + cond negated 2 1) [] (drop (opened + cond negated 2 1) text))
    × (opened + cond negated 2 1 ≤ length text)
set_first text opened negated within opens e = by_case negated e
  where
    begins : signs opened (drop opened text) ≡
        set_signs opened (begins_negated (drop (opened + 1) text)) (cond (begins_negated (drop (opened + 1) text)) 1 0) (opened + 1) [] (drop (opened + 1) text)
    begins = ap (signs opened) (drop_more text opened 0 within ∙ ap (λ b. b ∷ drop (opened + 1) text) opens) ∙ set_begins opened (drop (opened + 1) text)

    by_case : (b : Bool) → b ≡ begins_negated (drop (opened + 1) text) →
        (signs opened (drop opened text) ≡ set_signs opened b 0 (opened + cond b 2 1) [] (drop (opened + cond b 2 1) text)) × (opened + cond b 2 1 ≤ length text)
    by_case true h =
        let room = negated_within text opened within (sym h) in
        let few : 1 ≤ length (drop (opened + 1) text) = omega (arith, room, length-drop (opened + 1) text) in
        let two : opened + 1 + 1 ≡ opened + 2 = omega arith in (
          begins
              ∙ ap (λ n. set_signs opened n (cond n 1 0) (opened + 1) [] (drop (opened + 1) text)) (sym h)
              ∙ skip_one opened true (opened + 1) [] (drop (opened + 1) text) few
              ∙ ap (λ rest. set_signs opened true 0 (opened + 1 + 1) [] rest) (drop-drop 1 (opened + 1) text)
              ∙ ap (λ n. set_signs opened true 0 n [] (drop n text)) two,
          room,
        )
    by_case false h = (
      begins ∙ ap (λ n. set_signs opened n (cond n 1 0) (opened + 1) [] (drop (opened + 1) text)) (sym h),
      omega arith,
    )

pub set_next : (text : List ℕ) (opened : ℕ) (negated : Bool) (at : ℕ) (items : List Span) (byte : ℕ) → at < length text → byte ≡ get_or text at 0 →
    ((byte == 93) && not (is_none items)) ≡ false → nat_lt (item_high byte (drop (at + 1) text)) byte ≡ false →
    (set_signs opened negated 0 at items (drop at text) ≡
    set_signs opened negated 0 (at + cond (is_range (drop (at + 1) text)) 3 1)
    (items ++ record { low = byte; high = item_high byte (drop (at + 1) text) } ∷ [])
    (drop (at + cond (is_range (drop (at + 1) text)) 3 1) text))
    × (at + cond (is_range (drop (at + 1) text)) 3 1 ≤ length text)
set_next text opened negated at items byte within e unclosed good = by_case (is_range (drop (at + 1) text)) refl
  where
    begins : set_signs opened negated 0 at items (drop at text) ≡
        set_signs opened negated (cond (is_range (drop (at + 1) text)) 2 0) (at + 1) (items ++ record { low = byte; high = item_high byte (drop (at + 1) text) } ∷ []) (drop (at + 1) text)
    begins = ap (set_signs opened negated 0 at items) (drop_more text at 0 within ∙ ap (λ b. b ∷ drop (at + 1) text) (sym e))
        ∙ set_item opened negated at items byte (drop (at + 1) text) unclosed good

    more : List Span
    more = items ++ record { low = byte; high = item_high byte (drop (at + 1) text) } ∷ []

    by_case : (b : Bool) → is_range (drop (at + 1) text) ≡ b →
        (set_signs opened negated 0 at items (drop at text) ≡
        set_signs opened negated 0 (at + cond (is_range (drop (at + 1) text)) 3 1) (items ++ record { low = byte; high = item_high byte (drop (at + 1) text) } ∷ [])
        (drop (at + cond (is_range (drop (at + 1) text)) 3 1) text))
        × (at + cond (is_range (drop (at + 1) text)) 3 1 ≤ length text)
    by_case true h =
        let room = range_len (drop (at + 1) text) h in
        let three : at + 1 + 1 + 1 ≡ at + 3 = omega arith in
        let three' : at + 1 + 2 ≡ at + 3 = omega arith in (
          begins
              ∙ ap (λ (n : Bool). set_signs opened negated (cond n 2 0) (at + 1) (items ++ record { low = byte; high = item_high byte (drop (at + 1) text) } ∷ []) (drop (at + 1) text)) h
              ∙ skip_two opened negated (at + 1) (items ++ record { low = byte; high = item_high byte (drop (at + 1) text) } ∷ []) (drop (at + 1) text) room
              ∙ ap (λ rest. set_signs opened negated 0 (at + 1 + 1 + 1) (items ++ record { low = byte; high = item_high byte (drop (at + 1) text) } ∷ []) rest) (drop-drop 2 (at + 1) text ∙ ap (λ n. drop n text) three')
              ∙ ap (λ n. set_signs opened negated 0 n (items ++ record { low = byte; high = item_high byte (drop (at + 1) text) } ∷ []) (drop (at + 3) text)) three
              ∙ ap (λ (n : Bool). set_signs opened negated 0 (at + cond n 3 1) (items ++ record { low = byte; high = item_high byte (drop (at + 1) text) } ∷ []) (drop (at + cond n 3 1) text)) (sym h),
          rw h (omega (arith, room, length-drop (at + 1) text)),
        )
    by_case false h = (
      begins
          ∙ ap (λ (n : Bool). set_signs opened negated (cond n 2 0) (at + 1) (items ++ record { low = byte; high = item_high byte (drop (at + 1) text) } ∷ []) (drop (at + 1) text)) h
          ∙ ap (λ (n : Bool). set_signs opened negated 0 (at + cond n 3 1) (items ++ record { low = byte; high = item_high byte (drop (at + 1) text) } ∷ []) (drop (at + cond n 3 1) text)) (sym h),
      rw h (omega arith),
    )
