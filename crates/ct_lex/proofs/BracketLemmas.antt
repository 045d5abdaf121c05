-- Brackets, comments and blanks:
-- the reader finds at the front of a text exactly what the grammar writes there.
use Rattle.std.proofs.Common.{◌≡◌, ◌⊎◌, ℕ, zero, suc, ◌+◌, ◌<◌, ◌≤◌, Bool, true, false, cond, not, ◌||◌, ◌&&◌, ◌==◌, nat_lt, List, [], ◌∷◌, ◌++◌, length, take, drop, get_or, replicate, Option, Some, None, option_map, Result, Ok, inl, inr, ⊎_elim, refl, sym, ap, ◌∙◌, subst, arith, append_assoc, append-nil, length-append, drop-cons}
use Rattle.std.proofs.lemmas.Bool.Decides.{nat_tests}
use Rattle.std.proofs.lemmas.Bool.{true≢false, and_parts, and_from, false_from_ne_true}
use Rattle.std.proofs.lemmas.List.{take-append-drop, length-replicate}
use Rattle.std.proofs.lemmas.List.Folds.{prefix_len-replicate, list_all-append}
use Rattle.std.proofs.Math.Seq.{get_or-append_seam, drop-append_seam}
use Rattle.std.specs.List.{prefix_len, list_all}
use Rattle.ct_lex.specs.Bytes.{stands, is_gap, is_blank, feeds}
use Rattle.ct_lex.specs.Bracket.{equals_count, opening, closes, closing, bracket_len, line_len, bracket_comment, comment_by, comment, gap_at}
use Rattle.ct_lex.specs.Grammar as grammar
use Rattle.ct_lex.specs.Grammar.{opens_with, closes_with, BeginsBracket, IsInside, IsBracket, IsSpace, IsLineComment, IsLineEnd}
use Rattle.ct_lex.specs.declared.stop.Stop.{Stop}
use Rattle.ct_lex.proofs.FrontLemmas.{feeds-append, run-read, stands-front, stands-at}

-- n times `=` between two edge bytes
abbrev pub mark : ℕ → ℕ → List ℕ
mark edge n = edge ∷ (replicate n 61 ++ edge ∷ [])

pub stands-is : (byte at : ℕ) (text : List ℕ) → stands byte at text ≡ true → (at < length text) × (get_or text at 0 ≡ byte)
stands-is byte at text e =
    let both = and_parts (nat_lt at (length text)) (get_or text at 0 == byte) e in
    let inside : nat_lt at (length text) ≡ true = both.0 in
    let same : (get_or text at 0 == byte) ≡ true = both.1 in
    (grind (arith, nat_tests), grind (arith, nat_tests))

pub run-is : (byte : ℕ) (text : List ℕ) → take (prefix_len (λ b. b == byte) text) text ≡ replicate (prefix_len (λ b. b == byte) text) byte
run-is byte [] = refl
run-is byte (first ∷ rest) = by_test (first == byte) refl (run-is byte rest)
  where
    by_test : (test : Bool) → (first == byte) ≡ test → take (prefix_len (λ b. b == byte) rest) rest ≡ replicate (prefix_len (λ b. b == byte) rest) byte → take (prefix_len (λ b. b == byte) (first ∷ rest)) (first ∷ rest) ≡ replicate (prefix_len (λ b. b == byte) (first ∷ rest)) byte
    by_test false e again = rw e refl
    by_test true e again =
        let same : first ≡ byte = grind (arith, nat_tests) in
        let more : 1 + prefix_len (λ b. b == byte) rest ≡ suc (prefix_len (λ b. b == byte) rest) = omega arith in
        rw (e, more, same, again) refl

pub mark-run : (edge n : ℕ) (more : List ℕ) → (edge == 61) ≡ false → equals_count (replicate n 61 ++ edge ∷ more) ≡ n
mark-run edge n more other =
    let all : prefix_len (λ b. b == 61) (replicate n 61) ≡ length (replicate n 61) = prefix_len-replicate (λ b. b == 61) n 61 refl ∙ sym (length-replicate {A = ℕ} n 61) in
    run-read (λ b. b == 61) (replicate n 61) edge more all other ∙ length-replicate {A = ℕ} n 61

pub mark-split : (edge n : ℕ) (more : List ℕ) → mark edge n ++ more ≡ edge ∷ (replicate n 61 ++ edge ∷ more)
mark-split edge n more = ap (λ t. edge ∷ t) (append_assoc (replicate n 61) (edge ∷ []) more)

pub mark-length : (edge n : ℕ) → length (mark edge n) ≡ n + 2
mark-length edge n = omega (arith, length-append (replicate n 61) (edge ∷ []), length-replicate {A = ℕ} n 61)

pub mark-stands : (edge n : ℕ) (more : List ℕ) → stands edge (n + 1) (edge ∷ (replicate n 61 ++ edge ∷ more)) ≡ true
mark-stands edge n more =
    let inner : List ℕ = replicate n 61 ++ edge ∷ more in
    let next : n + 1 ≡ suc n = omega arith in
    let there : get_or (edge ∷ inner) (n + 1) 0 ≡ edge =
    ap (λ i. get_or (edge ∷ inner) i 0) next ∙ ap (λ i. get_or inner i 0) (sym (length-replicate {A = ℕ} n 61)) ∙ get_or-append_seam (replicate n 61) edge more 0 in
    stands-at edge (n + 1) (edge ∷ inner) (omega (arith, length-append (replicate n 61) (edge ∷ more), length-replicate {A = ℕ} n 61)) there

-- if the tests of the reader find a mark, the text begins with that mark
pub mark-is : (edge n byte : ℕ) (rest : List ℕ) → byte ≡ edge → equals_count rest ≡ n → stands edge (n + 1) (byte ∷ rest) ≡ true → (more : List ℕ) × (byte ∷ rest ≡ mark edge n ++ more)
mark-is edge n byte rest first count last =
    let there = stands-is edge (n + 1) (byte ∷ rest) last in
    let inside : n + 1 < length (byte ∷ rest) = there.0 in
    let next : n + 1 ≡ suc n = omega arith in
    let edge_at : get_or rest n 0 ≡ edge = sym (ap (λ i. get_or (byte ∷ rest) i 0) next) ∙ there.1 in
    let run : take n rest ≡ replicate n 61 = ap (λ k. take k rest) (sym count) ∙ run-is 61 rest ∙ ap (λ k. replicate k 61) count in
    let back : drop n rest ≡ edge ∷ drop (suc n) rest = drop-cons rest n 0 (omega arith) ∙ ap (λ b. b ∷ drop (suc n) rest) edge_at in
    let split : rest ≡ replicate n 61 ++ edge ∷ drop (suc n) rest = sym (take-append-drop n rest) ∙ ap (λ t. t ++ drop n rest) run ∙ ap (λ t. replicate n 61 ++ t) back in
    (drop (suc n) rest, ap (λ b. b ∷ rest) first ∙ ap (λ t. edge ∷ t) split ∙ sym (mark-split edge n (drop (suc n) rest)))

-- an opening with n times `=` is found
pub opening-read : (n : ℕ) (more : List ℕ) → opening (opens_with n ++ more) ≡ Some n
opening-read n more =
    let inner : List ℕ = replicate n 61 ++ 91 ∷ more in
    let count : equals_count inner ≡ n = mark-run 91 n more refl in
    let first : stands 91 0 (91 ∷ inner) ≡ true = stands-front 91 91 inner in
    let last : stands 91 (n + 1) (91 ∷ inner) ≡ true = mark-stands 91 n more in
    ap (λ t. opening t) (mark-split 91 n more) ∙ rw (first, count, last) refl

pub opening-is : (text : List ℕ) (n : ℕ) → opening text ≡ Some n → (more : List ℕ) × (text ≡ opens_with n ++ more)
opening-is [] n e = cc
opening-is (byte ∷ rest) n e = by_test (stands 91 0 (byte ∷ rest) && stands 91 (equals_count rest + 1) (byte ∷ rest)) refl e
  where
    by_test : (test : Bool) → (stands 91 0 (byte ∷ rest) && stands 91 (equals_count rest + 1) (byte ∷ rest)) ≡ test → cond test (Some (equals_count rest)) None ≡ Some n → (more : List ℕ) × (byte ∷ rest ≡ opens_with n ++ more)
    by_test false t f = cc
    by_test true t f =
        let count : equals_count rest ≡ n = cc in
        let both = and_parts (stands 91 0 (byte ∷ rest)) (stands 91 (equals_count rest + 1) (byte ∷ rest)) t in
        mark-is 91 n byte rest (stands-is 91 0 (byte ∷ rest) both.0).1 count (ap (λ k. stands 91 (k + 1) (byte ∷ rest)) (sym count) ∙ both.1)

pub opening-none : (text : List ℕ) → opening text ≡ None → BeginsBracket text → ⊥
opening-none text e begins = let found : opening text ≡ Some begins.0 = ap (λ t. opening t) begins.2 ∙ opening-read begins.0 begins.1 in cc

-- a closing with n times `=` is found
pub closes-read : (n : ℕ) (more : List ℕ) → closes n (closes_with n ++ more) ≡ true
closes-read n more =
    let inner : List ℕ = replicate n 61 ++ 93 ∷ more in
    let count : (equals_count inner == n) ≡ true = let same : equals_count inner ≡ n = mark-run 93 n more refl in grind (arith, nat_tests) in
    let first : stands 93 0 (93 ∷ inner) ≡ true = stands-front 93 93 inner in
    let last : stands 93 (n + 1) (93 ∷ inner) ≡ true = mark-stands 93 n more in
    ap (λ t. closes n t) (mark-split 93 n more) ∙ rw (first, count, last) refl

pub closes-is : (n : ℕ) (text : List ℕ) → closes n text ≡ true → (more : List ℕ) × (text ≡ closes_with n ++ more)
closes-is n [] e = absurd (true≢false (sym e))
closes-is n (byte ∷ rest) e =
    let all = and_parts (stands 93 0 (byte ∷ rest) && equals_count rest == n) (stands 93 (n + 1) (byte ∷ rest)) e in
    let both = and_parts (stands 93 0 (byte ∷ rest)) (equals_count rest == n) all.0 in
    let same : (equals_count rest == n) ≡ true = both.1 in
    mark-is 93 n byte rest (stands-is 93 0 (byte ∷ rest) both.0).1 (grind (arith, nat_tests)) all.1

-- the first closing stands behind k bytes
pub record ClosedAt (n : ℕ) (text : List ℕ) (k : ℕ) : Type 0 where
  pub inside : List ℕ
  pub back : List ℕ
  pub split : text ≡ inside ++ (closes_with n ++ back)
  pub size : length inside ≡ k
  pub only : IsInside n inside

-- two equal lists have equal first bytes and equal rests
pub tails : (a b : ℕ) (xs ys : List ℕ) → a ∷ xs ≡ b ∷ ys → (a ≡ b) × (xs ≡ ys)
tails a b xs ys e = (cc, cc)

inside-none : (n : ℕ) → IsInside n []
inside-none n [] back e = refl
inside-none n (byte ∷ front) back e =
    let sizes : length (closes_with n) ≡ length ((byte ∷ front) ++ (closes_with n ++ back)) = ap (λ t. length t) e in
    absurd (omega (arith, length-append (byte ∷ front) (closes_with n ++ back), length-append (closes_with n) back))

inside-more : (n byte : ℕ) (inside back : List ℕ) → closes n (byte ∷ (inside ++ (closes_with n ++ back))) ≡ false → IsInside n inside → IsInside n (byte ∷ inside)
inside-more n byte inside back unclosed only [] behind e =
    let whole : byte ∷ (inside ++ (closes_with n ++ back)) ≡ closes_with n ++ (behind ++ back) =
    sym (append_assoc (byte ∷ inside) (closes_with n) back) ∙ ap (λ t. t ++ back) e ∙ append_assoc (closes_with n) behind back in
    let closed : closes n (byte ∷ (inside ++ (closes_with n ++ back))) ≡ true = ap (λ t. closes n t) whole ∙ closes-read n (behind ++ back) in
    absurd (true≢false (sym closed ∙ unclosed))
inside-more n byte inside back unclosed only (first ∷ front) behind e =
    let parts = tails byte first (inside ++ closes_with n) (front ++ (closes_with n ++ behind)) e in
    let same : front ≡ inside = only front behind parts.1 in
    let head : byte ≡ first = parts.0 in
    cc

pub closing-is : (n : ℕ) (text : List ℕ) (k : ℕ) → closing n text ≡ Some k → ClosedAt n text k
closing-is n [] k e = cc
closing-is n (byte ∷ rest) k e = by_test (closes n (byte ∷ rest)) refl (closing n rest) refl e (closing-is n rest)
  where
    by_test : (test : Bool) → closes n (byte ∷ rest) ≡ test → (later : Option ℕ) → closing n rest ≡ later → cond test (Some 0) (option_map (λ k. k + 1) later) ≡ Some k →
        ((j : ℕ) → closing n rest ≡ Some j → ClosedAt n rest j) → ClosedAt n (byte ∷ rest) k
    by_test true t later f g again =
        let front = closes-is n (byte ∷ rest) t in
        record { inside = []; back = front.0; split = front.1; size = cc; only = inside-none n }
    by_test false t None f g again = cc
    by_test false t (Some j) f g again =
        let found = again j f in
        let count : j + 1 ≡ k = cc in
        let unclosed : closes n (byte ∷ (found.inside ++ (closes_with n ++ found.back))) ≡ false = ap (λ r. closes n (byte ∷ r)) (sym found.split) ∙ t in
        record {
          inside = byte ∷ found.inside;
          back = found.back;
          split = ap (λ r. byte ∷ r) found.split;
          size = omega (arith, found.size);
          only = inside-more n byte found.inside found.back unclosed found.only;
        }

inside-less : (n byte : ℕ) (inside : List ℕ) → IsInside n (byte ∷ inside) → IsInside n inside
inside-less n byte inside only front back e =
    (tails byte byte front inside (only (byte ∷ front) back (ap (λ t. byte ∷ t) e))).1

-- if a text begins with `front`, so does a first part of the text that is at least as long
prefix-of : (xs ys front bs : List ℕ) → length front ≤ length xs → xs ++ ys ≡ front ++ bs → (more : List ℕ) × (xs ≡ front ++ more)
prefix-of xs ys [] bs fits e = (xs, refl)
prefix-of [] ys (a ∷ front) bs fits e = absurd (omega arith)
prefix-of (x ∷ xs) ys (a ∷ front) bs fits e =
    let parts = tails x a (xs ++ ys) (front ++ bs) e in
    let found = prefix-of xs ys front bs (omega arith) parts.1 in
    (found.0, let head : x ≡ a = parts.0 in let tail : xs ≡ front ++ found.0 = found.1 in cc)

pub closing-read : (n : ℕ) (inside back : List ℕ) → IsInside n inside → closing n (inside ++ (closes_with n ++ back)) ≡ Some (length inside)
closing-read n [] back only =
    let split : closes_with n ++ back ≡ 93 ∷ (replicate n 61 ++ 93 ∷ back) = mark-split 93 n back in
    let closed : closes n (93 ∷ (replicate n 61 ++ 93 ∷ back)) ≡ true = ap (λ t. closes n t) (sym split) ∙ closes-read n back in
    ap (λ t. closing n t) split ∙ ap (λ b. cond b (Some 0) (option_map (λ k. k + 1) (closing n (replicate n 61 ++ 93 ∷ back)))) closed
closing-read n (byte ∷ inside) back only =
    let rest : List ℕ = inside ++ (closes_with n ++ back) in
    let unclosed : closes n (byte ∷ rest) ≡ false = false_from_ne_true (closes n (byte ∷ rest)) (λ (t : closes n (byte ∷ rest) ≡ true).
    let front = closes-is n (byte ∷ rest) t in
    let whole : ((byte ∷ inside) ++ closes_with n) ++ back ≡ closes_with n ++ front.0 = append_assoc (byte ∷ inside) (closes_with n) back ∙ front.1 in
    let short = prefix-of ((byte ∷ inside) ++ closes_with n) back (closes_with n) front.0 (omega (arith, length-append (byte ∷ inside) (closes_with n))) whole in
    let none : [] ≡ byte ∷ inside = only [] short.0 short.1 in
    cc) in
    let later : closing n rest ≡ Some (length inside) = closing-read n inside back (inside-less n byte inside only) in
    let P : ℕ → Option ℕ = λ k. Some k in
    let sums : length inside + 1 ≡ length (byte ∷ inside) = omega arith in
    ap (λ b. cond b (Some 0) (option_map (λ k. k + 1) (closing n rest))) unclosed ∙ ap (λ f. option_map (λ k. k + 1) f) later ∙ ap P sums

-- a comment up to the end of its line
pub record LineRead (text : List ℕ) : Type 0 where
  pub line : List ℕ
  pub back : List ℕ
  pub split : text ≡ line ++ back
  pub size : length line ≡ line_len text
  pub within : feeds line ≡ 0
  pub ends : (back ≡ []) ⊎ ((more : List ℕ) × (back ≡ 10 ∷ more))

pub line-is : (text : List ℕ) → LineRead text
line-is [] = record { line = []; back = []; split = refl; size = refl; within = refl; ends = inl refl }
line-is (byte ∷ rest) = by_test (byte == 10) refl (line-is rest)
  where
    by_test : (test : Bool) → (byte == 10) ≡ test → LineRead rest → LineRead (byte ∷ rest)
    by_test true t again =
        let feed : byte ≡ 10 = grind (arith, nat_tests) in
        record { line = []; back = byte ∷ rest; split = refl; size = rw t refl; within = refl; ends = inr (rest, ap (λ b. b ∷ rest) feed) }
    by_test false t again = record {
      line = byte ∷ again.line;
      back = again.back;
      split = ap (λ r. byte ∷ r) again.split;
      size = rw t (let sums : suc (length again.line) ≡ 1 + line_len rest = omega (arith, again.size) in sums);
      within = rw t (again.within);
      ends = again.ends;
    }

pub line-run : (line : List ℕ) → feeds line ≡ 0 → line_len line ≡ length line
line-run [] e = refl
line-run (byte ∷ line) e = by_test (byte == 10) refl (line-run line) e
  where
    by_test : (test : Bool) → (byte == 10) ≡ test → (feeds line ≡ 0 → line_len line ≡ length line) → feeds (byte ∷ line) ≡ 0 → line_len (byte ∷ line) ≡ length (byte ∷ line)
    by_test true t again f =
        let one : feeds (byte ∷ []) ≡ 1 = rw t refl in
        absurd (omega (arith, feeds-append (byte ∷ []) line))
    by_test false t again f =
        let none : feeds line ≡ 0 = omega (arith, feeds-append (byte ∷ []) line) in
        let more : line_len line ≡ length line = again none in
        rw t (let sums : 1 + line_len line ≡ suc (length line) = omega arith in sums)

-- the byte may stand in an opening: `[` or `=`; so no other byte behind a text completes an opening
abbrev pub is_opening_byte : ℕ → Bool
is_opening_byte byte = byte == 91 || byte == 61

run-all : (p : ℕ → Bool) (n byte : ℕ) → p byte ≡ true → list_all p (replicate n byte) ≡ true
run-all p zero byte e = refl
run-all p (suc n) byte e = and_from (p byte) (list_all p (replicate n byte)) e (run-all p n byte e)

opens-all : (n : ℕ) → list_all is_opening_byte (opens_with n) ≡ true
opens-all n = list_all-append is_opening_byte (replicate n 61) (91 ∷ []) ∙ and_from (list_all is_opening_byte (replicate n 61)) true (run-all is_opening_byte n 61 refl) refl

front-has : (p : ℕ → Bool) (text front : List ℕ) (byte : ℕ) (back more : List ℕ) → list_all p front ≡ true → p byte ≡ false → text ++ byte ∷ back ≡ front ++ more → (rest : List ℕ) × (text ≡ front ++ rest)
front-has p text [] byte back more all other e = (text, refl)
front-has p [] (a ∷ front) byte back more all other e =
    let both = and_parts (p a) (list_all p front) all in
    let parts = tails byte a back (front ++ more) e in
    absurd (true≢false (sym both.0 ∙ ap (λ b. p b) (sym parts.0) ∙ other))
front-has p (x ∷ text) (a ∷ front) byte back more all other e =
    let both = and_parts (p a) (list_all p front) all in
    let parts = tails x a (text ++ byte ∷ back) (front ++ more) e in
    let found = front-has p text front byte back more both.1 other parts.1 in
    (found.0, let head : x ≡ a = parts.0 in let tail : text ≡ front ++ found.0 = found.1 in cc)

pub opening-behind : (text : List ℕ) (byte : ℕ) (back : List ℕ) → is_opening_byte byte ≡ false → (BeginsBracket text → ⊥) → opening (text ++ byte ∷ back) ≡ None
opening-behind text byte back other unopened = by_found (opening (text ++ byte ∷ back)) refl
  where
    by_found : (found : Option ℕ) → opening (text ++ byte ∷ back) ≡ found → opening (text ++ byte ∷ back) ≡ None
    by_found None e = e
    by_found (Some n) e =
        let begins = opening-is (text ++ byte ∷ back) n e in
        let front = front-has is_opening_byte text (opens_with n) byte back begins.0 (opens-all n) other begins.1 in
        absurd (unopened (n, front.0, front.1))

pub opening-alone : (text : List ℕ) → (BeginsBracket text → ⊥) → opening text ≡ None
opening-alone text unopened = by_found (opening text) refl
  where
    by_found : (found : Option ℕ) → opening text ≡ found → opening text ≡ None
    by_found None e = e
    by_found (Some n) e = let begins = opening-is text n e in absurd (unopened (n, begins.0, begins.1))

pub opening-front : (text back : List ℕ) → opening (text ++ back) ≡ None → BeginsBracket text → ⊥
opening-front text back e begins =
    opening-none (text ++ back) e (begins.0, begins.1 ++ back, ap (λ t. t ++ back) begins.2 ∙ append_assoc (opens_with begins.0) begins.1 back)

-- a gap at the front of a text, by the grammar, and how many bytes it has
pub data IsGapAt : List ℕ → ℕ → Type 0 where
  no_gap : {byte : ℕ} {rest : List ℕ} → is_gap byte ≡ false → (byte == 35) ≡ false → IsGapAt (byte ∷ rest) 0
  space : {front : List ℕ} (back : List ℕ) → IsSpace front → IsGapAt (front ++ back) (length front)
  feed : (back : List ℕ) → IsGapAt (10 ∷ back) 1
  line_comment : {front : List ℕ} (back : List ℕ) → IsLineComment front → IsGapAt (front ++ 10 ∷ back) (length front)
  last_comment : {front : List ℕ} → IsLineComment front → IsGapAt front (length front)

gap_as : {text other : List ℕ} {n m : ℕ} → other ≡ text → m ≡ n → IsGapAt other m → IsGapAt text n
gap_as {text} {other} {n} {m} e f gap = subst (λ (t : List ℕ). IsGapAt t n) e (subst (λ (k : ℕ). IsGapAt other k) f gap)

pub bracket-length : (n : ℕ) (inside : List ℕ) → length (opens_with n ++ (inside ++ closes_with n)) ≡ bracket_len n (length inside)
bracket-length n inside =
    omega (arith, length-append (opens_with n) (inside ++ closes_with n), length-append inside (closes_with n), mark-length 91 n, mark-length 93 n)

bracket-size : (n : ℕ) (inside : List ℕ) → length (35 ∷ (opens_with n ++ (inside ++ closes_with n))) ≡ bracket_len n (length inside) + 1
bracket-size n inside = omega (arith, bracket-length n inside)

comment-is : (rest : List ℕ) (n : ℕ) → comment (35 ∷ rest) ≡ Ok n → IsGapAt (35 ∷ rest) n
comment-is rest n e = by_opening (opening rest) refl e
  where
    by_closing : (k : ℕ) → opening rest ≡ Some k → (found : Option ℕ) → closing k (drop (k + 3) (35 ∷ rest)) ≡ found → bracket_comment (35 ∷ rest) k found ≡ Ok n → IsGapAt (35 ∷ rest) n
    by_closing k o None f g = cc
    by_closing k o (Some inside) f g =
        let begins = opening-is rest k o in
        let shift : k + 3 ≡ suc (length (opens_with k)) = omega (arith, mark-length 91 k) in
        let behind : drop (k + 3) (35 ∷ rest) ≡ begins.0 = ap (λ i. drop i (35 ∷ rest)) shift ∙ ap (λ t. drop (length (opens_with k)) t) begins.1 ∙ drop-append_seam (opens_with k) begins.0 in
        let closed = closing-is k begins.0 inside (ap (λ t. closing k t) (sym behind) ∙ f) in
        let text : List ℕ = opens_with k ++ (closed.inside ++ closes_with k) in
        let whole : 35 ∷ (text ++ closed.back) ≡ 35 ∷ rest =
        ap (λ t. 35 ∷ t) (append_assoc (opens_with k) (closed.inside ++ closes_with k) closed.back ∙ ap (λ t. opens_with k ++ t) (append_assoc closed.inside (closes_with k) closed.back ∙ sym closed.split) ∙ sym begins.1) in
        let taken : bracket_len k inside + 1 ≡ n = cc in
        gap_as whole (bracket-size k closed.inside ∙ ap (λ i. bracket_len k i + 1) closed.size ∙ taken) (space closed.back (grammar.bracket_comment (grammar.bracket k closed.only)))

    by_opening : (found : Option ℕ) → opening rest ≡ found → comment_by (35 ∷ rest) found ≡ Ok n → IsGapAt (35 ∷ rest) n
    by_opening (Some k) o f = by_closing k o (closing k (drop (k + 3) (35 ∷ rest))) refl f
    by_opening None o f =
        let line = line-is rest in
        let unopened : BeginsBracket line.line → ⊥ = opening-front line.line line.back (ap (λ t. opening t) (sym line.split) ∙ o) in
        let written : IsLineComment (35 ∷ line.line) = grammar.line_comment line.line line.within unopened in
        let taken : suc (length line.line) ≡ n = (let ok : line_len rest + 1 ≡ n = cc in omega (arith, line.size, ok)) in
        ⊎_elim
        (λ (last : line.back ≡ []). gap_as (ap (λ t. 35 ∷ t) (sym (line.split ∙ ap (λ b. line.line ++ b) last ∙ append-nil line.line))) taken (last_comment written))
        (λ (more : (m : List ℕ) × (line.back ≡ 10 ∷ m)). gap_as (ap (λ t. 35 ∷ t) (sym (line.split ∙ ap (λ b. line.line ++ b) more.1))) taken (line_comment more.0 written))
        line.ends

pub gap-is : (byte : ℕ) (rest : List ℕ) (n : ℕ) → gap_at (byte ∷ rest) ≡ Ok n → IsGapAt (byte ∷ rest) n
gap-is byte rest n e = by_gap (is_gap byte) refl e
  where
    by_hash : is_gap byte ≡ false → (test : Bool) → (byte == 35) ≡ test → cond test (comment (byte ∷ rest)) (Ok 0) ≡ Ok n → IsGapAt (byte ∷ rest) n
    by_hash g false t f = gap_as refl (let z : 0 ≡ n = cc in z) (no_gap g t)
    by_hash g true t f =
        let hash : byte ≡ 35 = grind (arith, nat_tests) in
        subst (λ (b : ℕ). IsGapAt (b ∷ rest) n) (sym hash) (comment-is rest n (ap (λ b. comment (b ∷ rest)) (sym hash) ∙ f))

    by_blank : (test : Bool) → is_blank byte ≡ test → (test || (byte == 10)) ≡ true → 1 ≡ n → IsGapAt (byte ∷ rest) n
    by_blank true t g f = gap_as refl f (space rest (grammar.blank byte t))
    by_blank false t g f =
        let feeds_so : (byte == 10) ≡ true = g in
        let is_feed : byte ≡ 10 = grind (arith, nat_tests) in
        subst (λ (b : ℕ). IsGapAt (b ∷ rest) n) (sym is_feed) (gap_as refl f (feed rest))

    by_gap : (test : Bool) → is_gap byte ≡ test → cond test (Ok 1) (cond (byte == 35) (comment (byte ∷ rest)) (Ok 0)) ≡ Ok n → IsGapAt (byte ∷ rest) n
    by_gap true t f = by_blank (is_blank byte) refl t (let one : 1 ≡ n = cc in one)
    by_gap false t f = by_hash t (byte == 35) refl f

-- a gap that is written is found; first: a bracket comment
bracket-comment-read : (n : ℕ) (inside back : List ℕ) → IsInside n inside → comment (35 ∷ ((opens_with n ++ (inside ++ closes_with n)) ++ back)) ≡ Ok (length (35 ∷ (opens_with n ++ (inside ++ closes_with n))))
bracket-comment-read n inside back only =
    let behind : List ℕ = inside ++ (closes_with n ++ back) in
    let split : (opens_with n ++ (inside ++ closes_with n)) ++ back ≡ opens_with n ++ behind = append_assoc (opens_with n) (inside ++ closes_with n) back ∙ ap (λ t. opens_with n ++ t) (append_assoc inside (closes_with n) back) in
    let text : List ℕ = 35 ∷ (opens_with n ++ behind) in
    let shift : n + 3 ≡ suc (length (opens_with n)) = omega (arith, mark-length 91 n) in
    let left : drop (n + 3) text ≡ behind = ap (λ i. drop i text) shift ∙ drop-append_seam (opens_with n) behind in
    let P : ℕ → Result ℕ Stop = λ k. Ok k in
    ap (λ t. comment (35 ∷ t)) split
    ∙ ap (λ o. comment_by text o) (opening-read n behind)
    ∙ ap (λ t. bracket_comment text n (closing n t)) left
    ∙ ap (λ f. bracket_comment text n f) (closing-read n inside back only)
    ∙ ap P (sym (bracket-size n inside))

pub space-read : {front : List ℕ} → IsSpace front → (back : List ℕ) → gap_at (front ++ back) ≡ Ok (length front)
space-read (grammar.blank byte b) back = rw b refl
space-read (grammar.bracket_comment (grammar.bracket {inside = inside} n only)) back = bracket-comment-read n inside back only

pub line-comment-read : {front : List ℕ} → IsLineComment front → (back : List ℕ) → gap_at (front ++ 10 ∷ back) ≡ Ok (length front)
line-comment-read (grammar.line_comment text within unopened) back =
    let P : ℕ → Result ℕ Stop = λ k. Ok k in
    let size : line_len (text ++ 10 ∷ back) ≡ length text = run-read (λ byte. not (byte == 10)) text 10 back (line-run text within) refl in
    let sums : length text + 1 ≡ length (35 ∷ text) = omega arith in
    ap (λ o. comment_by (35 ∷ (text ++ 10 ∷ back)) o) (opening-behind text 10 back refl unopened) ∙ ap (λ k. P (k + 1)) size ∙ ap P sums

pub last-comment-read : {front : List ℕ} → IsLineComment front → gap_at front ≡ Ok (length front)
last-comment-read (grammar.line_comment text within unopened) =
    let P : ℕ → Result ℕ Stop = λ k. Ok k in
    let sums : length text + 1 ≡ length (35 ∷ text) = omega arith in
    ap (λ o. comment_by (35 ∷ text) o) (opening-alone text unopened) ∙ ap (λ k. P (k + 1)) (line-run text within) ∙ ap P sums
