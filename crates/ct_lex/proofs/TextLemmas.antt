-- The text of an argument: the reader finds exactly the text that the grammar writes.
use Rattle.std.proofs.Common.{◌≡◌, ℕ, zero, suc, ◌+◌, ◌<◌, Bool, true, false, cond, ◌||◌, ◌&&◌, ◌==◌, nat_lt, List, [], ◌∷◌, ◌++◌, length, take, drop, get_or, Option, Some, None, Result, Ok, Err, codes, refl, sym, ap, ◌∙◌, subst, arith, append_assoc, append-nil, length-append, length-drop}
use Rattle.std.proofs.lemmas.Bool.Decides.{nat_tests}
use Rattle.std.proofs.lemmas.Bool.{true≢false, and_parts, or_parts, or_from, and_from}
use Rattle.std.proofs.lemmas.List.{take_at}
use Rattle.std.proofs.Math.Seq.{get_or-append_seam, drop-append_seam}
use Rattle.std.specs.List.{prefix_len, list_all, list_any, starts_with}
use Rattle.ct_lex.specs.Argument.{escaped, begins_reference, with_piece, ends_text, is_plain}
use Rattle.ct_lex.specs.Bytes.{stands, is_name}
use Rattle.ct_lex.specs.Stop.{refused}
use Rattle.ct_lex.specs.Unit.{escape_by, escape_at, name_len, reference_by, reference_at, dollar_at, unit_at}
use Rattle.ct_lex.specs.Text.{moved, piece_before, text_from}
use Rattle.ct_lex.specs.Grammar as grammar
use Rattle.ct_lex.specs.Grammar.{IsText, IsVariable}
use Rattle.ct_lex.specs.declared.call.ArgKind.{ArgKind}
use Rattle.ct_lex.specs.declared.call.ArgKind.TheVariants.{Bracket, Quoted, Unquoted}
use Rattle.ct_lex.specs.declared.call.Part.{Part}
use Rattle.ct_lex.specs.declared.call.Part.TheVariants.{Bytes, Ref}
use Rattle.ct_lex.specs.declared.stop.Stop.{Stop}
use Rattle.ct_lex.specs.declared.stop.Stop.TheVariants.{Ended}
use Rattle.ct_lex.specs.declared.stop.Cause.TheVariants.{BadReference}
use Rattle.ct_lex.proofs.StepLemmas.{text_from-step}
use Rattle.ct_lex.proofs.FrontLemmas.{run-read, stands-at, not_true}
use Rattle.ct_lex.proofs.BracketLemmas.{stands-is}

-- what was read with its end moved by m was read with an end m bytes earlier
pub moved-ok : {A : Type 0} (m n : ℕ) (x : A) (read : Result (A × ℕ) Stop) → moved m read ≡ Ok (x, n) → (k : ℕ) × (read ≡ Ok (x, k)) × (k + m ≡ n)
moved-ok m n x (Err stop) e = cc
moved-ok {A} m n x (Ok y) e =
    let P : A → Result (A × ℕ) Stop = λ a. Ok (a, y.1) in
    let left : A × ℕ = (y.0, y.1 + m) in
    let right : A × ℕ = (x, n) in
    let both : left ≡ right = cc in
    (y.1, ap P (ap (λ (z : A × ℕ). z.0) both), ap (λ (z : A × ℕ). z.1) both)

pub piece_before-ok : (piece : Part) (parts : List Part) (n : ℕ) (read : Result (List Part × ℕ) Stop) → piece_before piece read ≡ Ok (parts, n) → (more : List Part) × (read ≡ Ok (more, n)) × (with_piece piece more ≡ parts)
piece_before-ok piece parts n (Err stop) e = cc
piece_before-ok piece parts n (Ok y) e =
    let P : ℕ → Result (List Part × ℕ) Stop = λ k. Ok (y.0, k) in
    let left : List Part × ℕ = (with_piece piece y.0, y.1) in
    let right : List Part × ℕ = (parts, n) in
    let both : left ≡ right = cc in
    (y.0, ap P (ap (λ (z : List Part × ℕ). z.1) both), ap (λ (z : List Part × ℕ). z.0) both)

abbrev pub read_of : {A : Type 0} → A → ℕ → Result (A × ℕ) Stop
read_of x n = Ok (x, n)

pub same-ok : {A : Type 0} (x y : A) (m n : ℕ) → read_of x m ≡ read_of y n → (x ≡ y) × (m ≡ n)
same-ok {A} x y m n e =
    let left : A × ℕ = (x, m) in
    let right : A × ℕ = (y, n) in
    let both : left ≡ right = cc in
    (ap (λ (z : A × ℕ). z.0) both, ap (λ (z : A × ℕ). z.1) both)

-- a run of bytes of one kind at the front of a text
pub record RunRead (p : ℕ → Bool) (text : List ℕ) : Type 0 where
  pub run : List ℕ
  pub back : List ℕ
  pub split : text ≡ run ++ back
  pub size : prefix_len p text ≡ length run
  pub all : list_all p run ≡ true

pub run-of : (p : ℕ → Bool) (text : List ℕ) → RunRead p text
run-of p [] = record { run = []; back = []; split = refl; size = refl; all = refl }
run-of p (byte ∷ rest) = by_test (p byte) refl (run-of p rest)
  where
    by_test : (test : Bool) → p byte ≡ test → RunRead p rest → RunRead p (byte ∷ rest)
    by_test false t again = record { run = []; back = byte ∷ rest; split = refl; size = rw t refl; all = refl }
    by_test true t again = record {
      run = byte ∷ again.run;
      back = again.back;
      split = ap (λ r. byte ∷ r) again.split;
      size = rw t (let sums : 1 + prefix_len p rest ≡ suc (length again.run) = omega (arith, again.size) in sums);
      all = and_from (p byte) (list_all p again.run) t again.all;
    }

pub run-whole : (p : ℕ → Bool) (run : List ℕ) → list_all p run ≡ true → prefix_len p run ≡ length run
run-whole p [] e = refl
run-whole p (byte ∷ run) e =
    let both = and_parts (p byte) (list_all p run) e in
    let again : prefix_len p run ≡ length run = run-whole p run both.1 in
    rw (both.0) (let sums : 1 + prefix_len p run ≡ suc (length run) = omega arith in sums)

-- whether a text begins with a word does not depend on what follows a byte that the word lacks
pub starts-same : (word text : List ℕ) (byte : ℕ) (back : List ℕ) → list_any (λ c. c == byte) word ≡ false → starts_with ◌==◌ (text ++ byte ∷ back) word ≡ starts_with ◌==◌ text word
starts-same [] text byte back other = refl
starts-same (c ∷ word) [] byte back other =
    let parts = or_parts (c == byte) (list_any (λ c. c == byte) word) other in
    rw (parts.0) refl
starts-same (c ∷ word) (x ∷ text) byte back other =
    let parts = or_parts (c == byte) (list_any (λ c. c == byte) word) other in
    ap (λ b. (c == x) && b) (starts-same word text byte back parts.1)

-- if a test holds for a byte and for no byte of a word, the word lacks that byte
none-of : (p : ℕ → Bool) (byte : ℕ) (word : List ℕ) → p byte ≡ true → list_any p word ≡ false → list_any (λ c. c == byte) word ≡ false
none-of p byte [] holds none = refl
none-of p byte (c ∷ word) holds none =
    let parts = or_parts (p c) (list_any p word) none in
    or_from (c == byte) (list_any (λ c. c == byte) word) (by_test (c == byte) refl parts.0) (none-of p byte word holds parts.1)
  where
    by_test : (test : Bool) → (c == byte) ≡ test → p c ≡ false → (c == byte) ≡ false
    by_test false e never = e
    by_test true e never = let same : c ≡ byte = grind (arith, nat_tests) in absurd (true≢false (sym holds ∙ ap (λ b. p b) (sym same) ∙ never))

word-same : (kind : ArgKind) (word text : List ℕ) (byte : ℕ) (back : List ℕ) → ends_text kind byte ≡ true → list_any (ends_text kind) word ≡ false → starts_with ◌==◌ (text ++ byte ∷ back) word ≡ starts_with ◌==◌ text word
word-same kind word text byte back ends never = starts-same word text byte back (none-of (ends_text kind) byte word ends never)

pub three-same : (a b c d e f : Bool) → a ≡ d → b ≡ e → c ≡ f → (a || (b || c)) ≡ (d || (e || f))
three-same a b c d e f p q r = cc

pub reference-same : (kind : ArgKind) (text : List ℕ) (byte : ℕ) (back : List ℕ) → ends_text kind byte ≡ true → begins_reference (text ++ byte ∷ back) ≡ begins_reference text
reference-same Bracket text byte back ends = absurd (true≢false (sym ends))
reference-same Quoted text byte back ends =
    three-same _ _ _ _ _ _ (word-same Quoted (codes "{") text byte back ends refl) (word-same Quoted (codes "ENV{") text byte back ends refl) (word-same Quoted (codes "CACHE{") text byte back ends refl)
reference-same Unquoted text byte back ends =
    three-same _ _ _ _ _ _ (word-same Unquoted (codes "{") text byte back ends refl) (word-same Unquoted (codes "ENV{") text byte back ends refl) (word-same Unquoted (codes "CACHE{") text byte back ends refl)

-- what stands at the front of the text of an argument
pub data IsUnitAt (kind : ArgKind) : List ℕ → Part → ℕ → Type 0 where
  plain : (byte : ℕ) (rest : List ℕ) → (byte == 92) ≡ false → (byte == 36) ≡ false → IsUnitAt kind (byte ∷ rest) (Bytes (byte ∷ [])) 1
  escape : (byte : ℕ) (rest : List ℕ) (piece : Part) → escaped kind byte ≡ Some piece → IsUnitAt kind (92 ∷ byte ∷ rest) piece 2
  reference : (name rest : List ℕ) → IsVariable name → IsUnitAt kind (36 ∷ 123 ∷ (name ++ 125 ∷ rest)) (Ref name) (length name + 3)
  dollar : (rest : List ℕ) → begins_reference rest ≡ false → IsUnitAt kind (36 ∷ rest) (Bytes (36 ∷ [])) 1

unit_as : {kind : ArgKind} {text other : List ℕ} {a b : Part} {m n : ℕ} → other ≡ text → a ≡ b → m ≡ n → IsUnitAt kind other a m → IsUnitAt kind text b n
unit_as {kind} {text} {other} {a} {b} {m} {n} e f g unit =
    subst (λ (t : List ℕ). IsUnitAt kind t b n) e (subst (λ (p : Part). IsUnitAt kind other p n) f (subst (λ (k : ℕ). IsUnitAt kind other a k) g unit))

variable-of : (name : List ℕ) → 0 < length name → list_all is_name name ≡ true → IsVariable name
variable-of [] some all = absurd (omega arith)
variable-of (byte ∷ bytes) some all = all

pub variable-is : (name : List ℕ) → IsVariable name → (0 < length name) × (prefix_len is_name name ≡ length name)
variable-is [] v = absurd v
variable-is (byte ∷ bytes) v = (omega arith, run-whole is_name (byte ∷ bytes) v)

reference-is : (kind : ArgKind) (rest : List ℕ) (piece : Part) (n : ℕ) → reference_at (36 ∷ 123 ∷ rest) ≡ Ok (piece, n) → IsUnitAt kind (36 ∷ 123 ∷ rest) piece n
reference-is kind rest piece n e = by_back run.back run.split (ap (λ k. reference_by (36 ∷ 123 ∷ rest) k) (sym run.size) ∙ e)
  where
    run : RunRead is_name rest
    run = run-of is_name rest

    by_brace : (byte : ℕ) (back : List ℕ) → rest ≡ run.run ++ byte ∷ back → (test : Bool) → (nat_lt 0 (length run.run) && stands 125 (length run.run + 2) (36 ∷ 123 ∷ rest)) ≡ test →
        cond test (read_of (Ref (take (length run.run) rest)) (length run.run + 3)) (refused BadReference (36 ∷ 123 ∷ rest)) ≡ Ok (piece, n) → IsUnitAt kind (36 ∷ 123 ∷ rest) piece n
    by_brace byte back split false t f = cc
    by_brace byte back split true t f =
        let both = and_parts (nat_lt 0 (length run.run)) (stands 125 (length run.run + 2) (36 ∷ 123 ∷ rest)) t in
        let some : nat_lt 0 (length run.run) ≡ true = both.0 in
        let at = stands-is 125 (length run.run + 2) (36 ∷ 123 ∷ rest) both.1 in
        let shift : length run.run + 2 ≡ suc (suc (length run.run)) = omega arith in
        let last : byte ≡ 125 = sym (get_or-append_seam run.run byte back 0) ∙ ap (λ t. get_or t (length run.run) 0) (sym split) ∙ ap (λ i. get_or (36 ∷ 123 ∷ rest) i 0) (sym shift) ∙ at.1 in
        let whole : rest ≡ run.run ++ 125 ∷ back = split ∙ ap (λ b. run.run ++ b ∷ back) last in
        let taken : take (length run.run) rest ≡ run.run = ap (λ t. take (length run.run) t) split ∙ take_at run.run (byte ∷ back) (length run.run) refl in
        let same = same-ok (Ref (take (length run.run) rest)) piece (length run.run + 3) n f in
        unit_as (ap (λ t. 36 ∷ 123 ∷ t) (sym whole)) (ap (λ t. Ref t) (sym taken) ∙ same.0) same.1 (reference run.run back (variable-of run.run (grind (arith, nat_tests)) run.all))

    by_end : (byte : ℕ) (back : List ℕ) → rest ≡ run.run ++ byte ∷ back → (test : Bool) → (length run.run + 2 == length (36 ∷ 123 ∷ rest)) ≡ test →
        cond test (Err Ended) (cond (nat_lt 0 (length run.run) && stands 125 (length run.run + 2) (36 ∷ 123 ∷ rest)) (read_of (Ref (take (length run.run) rest)) (length run.run + 3)) (refused BadReference (36 ∷ 123 ∷ rest))) ≡ Ok (piece, n) → IsUnitAt kind (36 ∷ 123 ∷ rest) piece n
    by_end byte back split true t f = cc
    by_end byte back split false t f = by_brace byte back split (nat_lt 0 (length run.run) && stands 125 (length run.run + 2) (36 ∷ 123 ∷ rest)) refl f

    by_back : (back : List ℕ) → rest ≡ run.run ++ back → reference_by (36 ∷ 123 ∷ rest) (length run.run) ≡ Ok (piece, n) → IsUnitAt kind (36 ∷ 123 ∷ rest) piece n
    by_back [] split f =
        let whole : length rest ≡ length run.run = ap (λ t. length t) (split ∙ append-nil run.run) in
        let at_end : (length run.run + 2 == length (36 ∷ 123 ∷ rest)) ≡ true = grind (arith, nat_tests) in
        let ended : reference_by (36 ∷ 123 ∷ rest) (length run.run) ≡ Err Ended = rw at_end refl in
        cc
    by_back (byte ∷ back) split f = by_end byte back split (length run.run + 2 == length (36 ∷ 123 ∷ rest)) refl f

dollar-is : (kind : ArgKind) (rest : List ℕ) (piece : Part) (n : ℕ) → dollar_at (36 ∷ rest) ≡ Ok (piece, n) → IsUnitAt kind (36 ∷ rest) piece n
dollar-is kind [] piece n e =
    let same = same-ok (Bytes (36 ∷ [])) piece 1 n e in unit_as refl same.0 same.1 (dollar [] refl)
dollar-is kind (byte ∷ rest) piece n e = by_brace (123 == byte) refl e
  where
    by_other : (test : Bool) → begins_reference (byte ∷ rest) ≡ test → cond test (refused BadReference (36 ∷ byte ∷ rest)) (read_of (Bytes (36 ∷ [])) 1) ≡ Ok (piece, n) → IsUnitAt kind (36 ∷ byte ∷ rest) piece n
    by_other true t f = cc
    by_other false t f =
        let same = same-ok (Bytes (36 ∷ [])) piece 1 n f in unit_as refl same.0 same.1 (dollar (byte ∷ rest) t)

    by_brace : (test : Bool) → (123 == byte) ≡ test → cond (test && true) (reference_at (36 ∷ byte ∷ rest)) (cond (begins_reference (byte ∷ rest)) (refused BadReference (36 ∷ byte ∷ rest)) (read_of (Bytes (36 ∷ [])) 1)) ≡ Ok (piece, n) →
        IsUnitAt kind (36 ∷ byte ∷ rest) piece n
    by_brace true t f =
        let brace : 123 ≡ byte = grind (arith, nat_tests) in
        subst (λ (b : ℕ). IsUnitAt kind (36 ∷ b ∷ rest) piece n) brace (reference-is kind rest piece n (ap (λ b. reference_at (36 ∷ b ∷ rest)) brace ∙ f))
    by_brace false t f = by_other (begins_reference (byte ∷ rest)) refl f

pub unit-is : (kind : ArgKind) (byte : ℕ) (rest : List ℕ) (piece : Part) (n : ℕ) → unit_at kind (byte ∷ rest) ≡ Ok (piece, n) → IsUnitAt kind (byte ∷ rest) piece n
unit-is kind byte rest piece n e = by_backslash (byte == 92) refl e
  where
    by_escaped : (next : ℕ) (more : List ℕ) → (found : Option Part) → escaped kind next ≡ found → escape_by (92 ∷ next ∷ more) found ≡ Ok (piece, n) → IsUnitAt kind (92 ∷ next ∷ more) piece n
    by_escaped next more None t f = cc
    by_escaped next more (Some found) t f =
        let same = same-ok found piece 2 n f in unit_as refl same.0 same.1 (escape next more found t)

    by_next : (text : List ℕ) → escape_at kind (92 ∷ text) ≡ Ok (piece, n) → IsUnitAt kind (92 ∷ text) piece n
    by_next [] f = cc
    by_next (next ∷ more) f = by_escaped next more (escaped kind next) refl f

    by_dollar : (byte == 92) ≡ false → (test : Bool) → (byte == 36) ≡ test → cond test (dollar_at (byte ∷ rest)) (read_of (Bytes (byte ∷ [])) 1) ≡ Ok (piece, n) → IsUnitAt kind (byte ∷ rest) piece n
    by_dollar s false t f = let same = same-ok (Bytes (byte ∷ [])) piece 1 n f in unit_as refl same.0 same.1 (plain byte rest s t)
    by_dollar s true t f =
        let mark : byte ≡ 36 = grind (arith, nat_tests) in
        subst (λ (b : ℕ). IsUnitAt kind (b ∷ rest) piece n) (sym mark) (dollar-is kind rest piece n (ap (λ b. dollar_at (b ∷ rest)) (sym mark) ∙ f))

    by_backslash : (test : Bool) → (byte == 92) ≡ test → cond test (escape_at kind (byte ∷ rest)) (cond (byte == 36) (dollar_at (byte ∷ rest)) (read_of (Bytes (byte ∷ [])) 1)) ≡ Ok (piece, n) → IsUnitAt kind (byte ∷ rest) piece n
    by_backslash true t f =
        let mark : byte ≡ 92 = grind (arith, nat_tests) in
        subst (λ (b : ℕ). IsUnitAt kind (b ∷ rest) piece n) (sym mark) (by_next rest (ap (λ b. escape_at kind (b ∷ rest)) (sym mark) ∙ f))
    by_backslash false t f = by_dollar t (byte == 36) refl f

-- the text of an argument at the front of a text, by the grammar
pub record TextRead (kind : ArgKind) (text : List ℕ) (parts : List Part) (n : ℕ) : Type 0 where
  pub front : List ℕ
  pub byte : ℕ
  pub back : List ℕ
  pub split : text ≡ front ++ byte ∷ back
  pub size : length front ≡ n
  pub ends : ends_text kind byte ≡ true
  pub written : IsText kind front parts

-- a reference that is written is found
pub reference-read : (kind : ArgKind) (name more : List ℕ) → 0 < length name → prefix_len is_name name ≡ length name → unit_at kind (36 ∷ 123 ∷ (name ++ 125 ∷ more)) ≡ Ok (Ref name, length name + 3)
reference-read kind name more some all =
    let text : List ℕ = 36 ∷ 123 ∷ (name ++ 125 ∷ more) in
    let size : length text ≡ length name + length more + 3 = omega (arith, length-append name (125 ∷ more)) in
    let run : name_len (name ++ 125 ∷ more) ≡ length name = run-read is_name name 125 more all refl in
    let long : (length name + 2 == length text) ≡ false = grind (arith, nat_tests, size) in
    let named : nat_lt 0 (length name) ≡ true = grind (arith, nat_tests, some) in
    let shift : length name + 2 ≡ suc (suc (length name)) = omega arith in
    let last : get_or text (length name + 2) 0 ≡ 125 = ap (λ i. get_or text i 0) shift ∙ get_or-append_seam name 125 more 0 in
    let closed : stands 125 (length name + 2) text ≡ true = stands-at 125 (length name + 2) text (omega (arith, size)) last in
    let taken : take (length name) (name ++ 125 ∷ more) ≡ name = take_at name (125 ∷ more) (length name) refl in
    rw (run, long, named, closed, taken) refl

pub behind-reference : (name rest : List ℕ) → drop (length name + 3) (36 ∷ 123 ∷ (name ++ 125 ∷ rest)) ≡ rest
behind-reference name rest =
    let shift : length name + 3 ≡ suc (suc (length name + 1)) = omega arith in
    let seam : length name + 1 ≡ length (name ++ 125 ∷ []) = omega (arith, length-append name (125 ∷ [])) in
    ap (λ n. drop n (36 ∷ 123 ∷ (name ++ 125 ∷ rest))) shift ∙ ap (λ n. drop n (name ++ 125 ∷ rest)) seam ∙ ap (λ t. drop (length (name ++ 125 ∷ [])) t) (sym (append_assoc name (125 ∷ []) rest)) ∙ drop-append_seam (name ++ 125 ∷ []) rest

text-step : {kind : ArgKind} {text : List ℕ} {piece : Part} {n : ℕ} → IsUnitAt kind text piece n → ends_text kind (get_or text 0 0) ≡ false → (more : List Part) (k : ℕ) → TextRead kind (drop n text) more k → TextRead kind text (with_piece piece more) (k + n)
text-step {kind} (plain byte rest a b) ends more k read =
    let fits : is_plain kind byte ≡ true = rw (ends, a, b) refl in
    record { front = byte ∷ read.front; byte = read.byte; back = read.back; split = ap (λ t. byte ∷ t) read.split; size = omega (arith, read.size); ends = read.ends; written = grammar.plain byte fits read.written }
text-step (escape byte rest piece e) ends more k read =
    record { front = 92 ∷ byte ∷ read.front; byte = read.byte; back = read.back; split = ap (λ t. 92 ∷ byte ∷ t) read.split; size = omega (arith, read.size); ends = read.ends; written = grammar.escape byte piece e read.written }
text-step {kind} (dollar rest e) ends more k read =
    let alone : begins_reference read.front ≡ false = sym (reference-same kind read.front read.byte read.back read.ends) ∙ ap (λ t. begins_reference t) (sym read.split) ∙ e in
    record { front = 36 ∷ read.front; byte = read.byte; back = read.back; split = ap (λ t. 36 ∷ t) read.split; size = omega (arith, read.size); ends = read.ends; written = grammar.dollar alone read.written }
text-step (reference name rest v) ends more k read =
    let left : rest ≡ read.front ++ read.byte ∷ read.back = sym (behind-reference name rest) ∙ read.split in
    record {
      front = 36 ∷ 123 ∷ (name ++ 125 ∷ read.front);
      byte = read.byte;
      back = read.back;
      split = ap (λ t. 36 ∷ 123 ∷ (name ++ 125 ∷ t)) left ∙ ap (λ t. 36 ∷ 123 ∷ t) (sym (append_assoc name (125 ∷ read.front) (read.byte ∷ read.back)));
      size = omega (arith, read.size, length-append name (125 ∷ read.front));
      ends = read.ends;
      written = grammar.reference name v read.written;
    }

pub unit-some : {kind : ArgKind} {text : List ℕ} {piece : Part} {n : ℕ} → IsUnitAt kind text piece n → 0 < n
unit-some (plain byte rest a b) = omega arith
unit-some (escape byte rest piece e) = omega arith
unit-some (dollar rest e) = omega arith
unit-some (reference name rest v) = omega arith

pub text-is : (fuel : ℕ) (kind : ArgKind) (text : List ℕ) (parts : List Part) (n : ℕ) → length text < fuel → text_from kind 0 text ≡ Ok (parts, n) → TextRead kind text parts n
text-is zero kind text parts n fits e = absurd (omega arith)
text-is (suc fuel) kind [] parts n fits e = cc
text-is (suc fuel) kind (byte ∷ rest) parts n fits e = by_end (ends_text kind byte) refl (unit_at kind (byte ∷ rest)) refl (λ k more j some less. text-is fuel kind (drop k (byte ∷ rest)) more j (less_more k some less)) e
  where
    less_more : (k : ℕ) → 0 < k → length (drop k (byte ∷ rest)) < suc (length rest) → length (drop k (byte ∷ rest)) < fuel
    less_more k some less = omega arith

    by_end : (test : Bool) → ends_text kind byte ≡ test → (found : Result (Part × ℕ) Stop) → unit_at kind (byte ∷ rest) ≡ found →
        ((k : ℕ) (more : List Part) (j : ℕ) → 0 < k → length (drop k (byte ∷ rest)) < suc (length rest) → text_from kind 0 (drop k (byte ∷ rest)) ≡ Ok (more, j) → TextRead kind (drop k (byte ∷ rest)) more j) →
        text_from kind 0 (byte ∷ rest) ≡ Ok (parts, n) → TextRead kind (byte ∷ rest) parts n
    by_end true t found u again f =
        let none : text_from kind 0 (byte ∷ rest) ≡ Ok ([], 0) = rw t refl in
        let same = same-ok [] parts 0 n (sym none ∙ f) in
        let written : IsText kind [] parts = subst (λ (p : List Part). IsText kind [] p) same.0 grammar.nothing in
        record { front = []; byte = byte; back = rest; split = refl; size = same.1; ends = t; written = written }
    by_end false t (Err stop) u again f =
        let none : text_from kind 0 (byte ∷ rest) ≡ Err stop = rw (t, u) refl in cc
    by_end false t (Ok unit) u again f =
        let is = unit-is kind byte rest unit.0 unit.1 u in
        let some : 0 < unit.1 = unit-some is in
        let step = text_from-step kind (byte ∷ rest) unit.0 unit.1 some t u in
        let pieces = piece_before-ok unit.0 parts n (moved unit.1 (text_from kind 0 (drop unit.1 (byte ∷ rest)))) (sym step ∙ f) in
        let shift = moved-ok unit.1 n pieces.0 (text_from kind 0 (drop unit.1 (byte ∷ rest))) pieces.1 in
        let read = again unit.1 pieces.0 shift.0 some (omega (arith, length-drop unit.1 (byte ∷ rest))) shift.1 in
        subst (λ (p : List Part). TextRead kind (byte ∷ rest) p n) pieces.2 (subst (λ (k : ℕ). TextRead kind (byte ∷ rest) (with_piece unit.0 pieces.0) k) shift.2 (text-step is t pieces.0 shift.0 read))

-- the text of an argument that is written is found; first: a backslash does not end it
pub ends-backslash : (kind : ArgKind) → ends_text kind 92 ≡ false
ends-backslash Bracket = refl
ends-backslash Quoted = refl
ends-backslash Unquoted = refl

pub ends-dollar : (kind : ArgKind) → ends_text kind 36 ≡ false
ends-dollar Bracket = refl
ends-dollar Quoted = refl
ends-dollar Unquoted = refl

unit-read : (kind : ArgKind) (text : List ℕ) (piece : Part) (n : ℕ) (parts : List Part) (k whole : ℕ) → 0 < n → ends_text kind (get_or text 0 0) ≡ false → unit_at kind text ≡ Ok (piece, n) → text_from kind 0 (drop n text) ≡ Ok (parts, k) → k + n ≡ whole →
    text_from kind 0 text ≡ Ok (with_piece piece parts, whole)
unit-read kind text piece n parts k whole some ends unit read sums =
    let P : ℕ → Result (List Part × ℕ) Stop = λ j. Ok (with_piece piece parts, j) in
    text_from-step kind text piece n some ends unit ∙ ap (λ r. piece_before piece (moved n r)) read ∙ ap P sums

pub text-read : {kind : ArgKind} {text : List ℕ} {parts : List Part} → IsText kind text parts → (byte : ℕ) (back : List ℕ) → ends_text kind byte ≡ true → text_from kind 0 (text ++ byte ∷ back) ≡ Ok (parts, length text)
text-read grammar.nothing byte back ends = rw ends refl
text-read {kind} (grammar.plain {text = text} {parts = parts} first fits t) byte back ends =
    let plain_so = or_parts (ends_text kind first) (first == 92 || first == 36) (not_true (ends_text kind first || (first == 92 || first == 36)) fits) in
    let others = or_parts (first == 92) (first == 36) plain_so.1 in
    let unit : unit_at kind (first ∷ (text ++ byte ∷ back)) ≡ Ok (Bytes (first ∷ []), 1) = rw (others.0, others.1) refl in
    unit-read kind (first ∷ (text ++ byte ∷ back)) (Bytes (first ∷ [])) 1 parts (length text) (length (first ∷ text)) (omega arith) plain_so.0 unit (text-read t byte back ends) (omega arith)
text-read {kind} (grammar.escape {text = text} {parts = parts} next piece e t) byte back ends =
    let unit : unit_at kind (92 ∷ next ∷ (text ++ byte ∷ back)) ≡ Ok (piece, 2) = rw e refl in
    unit-read kind (92 ∷ next ∷ (text ++ byte ∷ back)) piece 2 parts (length text) (length (92 ∷ next ∷ text)) (omega arith) (ends-backslash kind) unit (text-read t byte back ends) (omega arith)
text-read {kind} (grammar.dollar {text = text} {parts = parts} e t) byte back ends =
    let rest : List ℕ = text ++ byte ∷ back in
    let no_reference : begins_reference rest ≡ false = reference-same kind text byte back ends ∙ e in
    let no_brace = or_parts (starts_with ◌==◌ rest (codes "{")) (starts_with ◌==◌ rest (codes "ENV{") || starts_with ◌==◌ rest (codes "CACHE{")) no_reference in
    let unit : unit_at kind (36 ∷ rest) ≡ Ok (Bytes (36 ∷ []), 1) = ap (λ b. cond b (reference_at (36 ∷ rest)) (cond (begins_reference rest) (refused BadReference (36 ∷ rest)) (read_of (Bytes (36 ∷ [])) 1))) no_brace.0 ∙ ap (λ b. cond b (refused BadReference (36 ∷ rest)) (read_of (Bytes (36 ∷ [])) 1)) no_reference in
    unit-read kind (36 ∷ rest) (Bytes (36 ∷ [])) 1 parts (length text) (length (36 ∷ text)) (omega arith) (ends-dollar kind) unit (text-read t byte back ends) (omega arith)
text-read {kind} (grammar.reference {text = text} {parts = parts} name v t) byte back ends =
    let rest : List ℕ = text ++ byte ∷ back in
    let variable = variable-is name v in
    let whole : List ℕ = 36 ∷ 123 ∷ (name ++ 125 ∷ rest) in
    ap (λ t. text_from kind 0 (36 ∷ 123 ∷ t)) (append_assoc name (125 ∷ text) (byte ∷ back))
    ∙ unit-read kind whole (Ref name) (length name + 3) parts (length text) (length (36 ∷ 123 ∷ (name ++ 125 ∷ text))) (omega arith) (ends-dollar kind) (reference-read kind name rest variable.0 variable.1)
    (ap (λ t. text_from kind 0 t) (behind-reference name rest) ∙ text-read t byte back ends) (omega (arith, length-append name (125 ∷ text)))
