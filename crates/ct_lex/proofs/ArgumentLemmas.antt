-- One argument: the reader finds exactly the argument that the grammar writes.
use Rattle.std.proofs.Common.{◌≡◌, ℕ, suc, ◌+◌, ◌<◌, Bool, true, false, cond, ◌||◌, ◌==◌, List, [], ◌∷◌, ◌++◌, length, take, drop, get_or, Option, Some, None, Result, Ok, Err, refl, sym, ap, ◌∙◌, subst, arith, append_assoc, length-append}
use Rattle.std.proofs.lemmas.Bool.Decides.{nat_tests}
use Rattle.std.proofs.lemmas.Bool.{true≢false, or_parts, or_from}
use Rattle.std.proofs.lemmas.List.{take_at}
use Rattle.std.proofs.Math.Seq.{drop-append_seam}
use Rattle.ct_lex.specs.Argument.{with_bytes, ends_text, without_feed}
use Rattle.ct_lex.specs.Bytes.{stands, is_gap}
use Rattle.ct_lex.specs.Stop.{refused}
use Rattle.ct_lex.specs.Bracket.{opening, closing, bracket_len, gap_at}
use Rattle.ct_lex.specs.Text.{text_from, bracket_by, quoted_by, unquoted_by, plain_argument, argument_by, may_follow, apart, argument}
use Rattle.ct_lex.specs.Grammar as grammar
use Rattle.ct_lex.specs.Grammar.{opens_with, closes_with, BeginsBracket, IsInside, IsBracket, IsSpace, IsLineComment, IsLineEnd, IsText, IsArgument, IsArguments}
use Rattle.ct_lex.specs.declared.call.Arg.{Arg}
use Rattle.ct_lex.specs.declared.call.ArgKind.{ArgKind}
use Rattle.ct_lex.specs.declared.call.ArgKind.TheVariants.{Bracket, Quoted, Unquoted}
use Rattle.ct_lex.specs.declared.call.Part.{Part}
use Rattle.ct_lex.specs.declared.stop.Stop.{Stop}
use Rattle.ct_lex.specs.declared.stop.Stop.TheVariants.{Ended, At}
use Rattle.ct_lex.specs.declared.stop.Cause.TheVariants.{BadChar}
use Rattle.ct_lex.proofs.FrontLemmas.{stands-front, not_true, is-other}
use Rattle.ct_lex.proofs.BracketLemmas.{bracket-length, mark-length, opening-is, opening-read, opening-front, opening-behind, is_opening_byte, closing-is, closing-read}
use Rattle.ct_lex.proofs.TextLemmas.{ends-backslash, ends-dollar, read_of, same-ok, text-is, text-read}

-- an argument at the front of a text, by the grammar
pub record ArgumentFront (text : List ℕ) (arg : Arg) (n : ℕ) : Type 0 where
  pub front : List ℕ
  pub back : List ℕ
  pub split : text ≡ front ++ back
  pub size : length front ≡ n
  pub written : IsArgument front arg
  pub ends : (byte : ℕ) (left : List ℕ) → back ≡ byte ∷ left → arg.kind ≡ Unquoted → ends_text Unquoted byte ≡ true

front_as : {text : List ℕ} {arg other : Arg} {n : ℕ} → other ≡ arg → ArgumentFront text other n → ArgumentFront text arg n
front_as {text} {arg} {other} {n} e read = subst (λ (a : Arg). ArgumentFront text a n) e read

pub bracket-behind : (n : ℕ) (more : List ℕ) → drop (n + 2) (opens_with n ++ more) ≡ more
bracket-behind n more = ap (λ k. drop k (opens_with n ++ more)) (sym (mark-length 91 n)) ∙ drop-append_seam (opens_with n) more

bracket-is : (text : List ℕ) (n : ℕ) (arg : Arg) (size : ℕ) → opening text ≡ Some n → (found : Option ℕ) → closing n (drop (n + 2) text) ≡ found → bracket_by text n found ≡ Ok (arg, size) → ArgumentFront text arg size
bracket-is text n arg size o None f e = cc
bracket-is text n arg size o (Some inside) f e =
    let begins = opening-is text n o in
    let behind : drop (n + 2) text ≡ begins.0 = ap (λ t. drop (n + 2) t) begins.1 ∙ bracket-behind n begins.0 in
    let closed = closing-is n begins.0 inside (ap (λ t. closing n t) (sym behind) ∙ f) in
    let taken : take inside (drop (n + 2) text) ≡ closed.inside = ap (λ t. take inside t) (behind ∙ closed.split) ∙ take_at closed.inside (closes_with n ++ closed.back) inside closed.size in
    let parts : List ℕ → Arg = λ t. record { kind = Bracket; parts = with_bytes (without_feed t) [] } in
    let same = same-ok (parts (take inside (drop (n + 2) text))) arg (bracket_len n inside) size e in
    let whole : text ≡ (opens_with n ++ (closed.inside ++ closes_with n)) ++ closed.back =
    begins.1 ∙ ap (λ t. opens_with n ++ t) (closed.split ∙ sym (append_assoc closed.inside (closes_with n) closed.back)) ∙ sym (append_assoc (opens_with n) (closed.inside ++ closes_with n) closed.back) in
    front_as (ap parts (sym taken) ∙ same.0) (record {
      front = opens_with n ++ (closed.inside ++ closes_with n);
      back = closed.back;
      split = whole;
      size = bracket-length n closed.inside ∙ ap (λ k. bracket_len n k) closed.size ∙ same.1;
      written = grammar.bracketed (grammar.bracket n closed.only);
      ends = λ byte left b (k : Bracket ≡ Unquoted). cc;
    })

quoted-is : (rest : List ℕ) (arg : Arg) (n : ℕ) → (read : Result (List Part × ℕ) Stop) → text_from Quoted 0 rest ≡ read → quoted_by (34 ∷ rest) read ≡ Ok (arg, n) → ArgumentFront (34 ∷ rest) arg n
quoted-is rest arg n (Err Ended) r e = cc
quoted-is rest arg n (Err (At cause left)) r e = cc
quoted-is rest arg n (Ok x) r e =
    let text = text-is (suc (length rest)) Quoted rest x.0 x.1 (omega arith) r in
    let ends : (text.byte == 34) ≡ true = text.ends in
    let quote : text.byte ≡ 34 = grind (arith, nat_tests) in
    let same = same-ok (record { kind = Quoted; parts = x.0 }) arg (x.1 + 2) n e in
    front_as same.0 (record {
      front = 34 ∷ (text.front ++ 34 ∷ []);
      back = text.back;
      split = ap (λ t. 34 ∷ t) (text.split ∙ ap (λ b. text.front ++ b ∷ text.back) quote ∙ sym (append_assoc text.front (34 ∷ []) text.back));
      size = omega (arith, length-append text.front (34 ∷ []), text.size, same.1);
      written = grammar.quoted text.written;
      ends = λ byte left b (k : Quoted ≡ Unquoted). cc;
    })

not_ending : (gap left close hash quote : Bool) → (gap || close || hash) ≡ false → left ≡ false → quote ≡ false → (gap || left || close || hash || quote) ≡ false
not_ending true left close hash quote a b c = a
not_ending false true close hash quote a b c = b
not_ending false false true hash quote a b c = a
not_ending false false false true quote a b c = a
not_ending false false false false quote a b c = c

unquoted-is : (byte : ℕ) (rest : List ℕ) (arg : Arg) (n : ℕ) → may_follow (byte ∷ rest) ≡ false → (byte == 40) ≡ false → (byte == 34) ≡ false → opening (byte ∷ rest) ≡ None →
    (read : Result (List Part × ℕ) Stop) → text_from Unquoted 0 (byte ∷ rest) ≡ read → unquoted_by read ≡ Ok (arg, n) → ArgumentFront (byte ∷ rest) arg n
unquoted-is byte rest arg n goes paren quote o (Err stop) r e = cc
unquoted-is byte rest arg n goes paren quote o (Ok x) r e =
    let text = text-is (suc (length (byte ∷ rest))) Unquoted (byte ∷ rest) x.0 x.1 (omega arith) r in
    let plain : ends_text Unquoted byte ≡ false = not_ending (is_gap byte) (byte == 40) (byte == 41) (byte == 35) (byte == 34) goes paren quote in
    let some : text.front ≡ [] → ⊥ = λ (none : text.front ≡ []).
    let first : byte ≡ text.byte = ap (λ t. get_or t 0 0) (text.split ∙ ap (λ t. t ++ text.byte ∷ text.back) none) in
    true≢false (sym text.ends ∙ ap (λ b. ends_text Unquoted b) (sym first) ∙ plain) in
    let unopened : BeginsBracket text.front → ⊥ = opening-front text.front (text.byte ∷ text.back) (ap (λ t. opening t) (sym text.split) ∙ o) in
    let same = same-ok (record { kind = Unquoted; parts = x.0 }) arg x.1 n e in
    front_as same.0 (record {
      front = text.front;
      back = text.byte ∷ text.back;
      split = text.split;
      size = text.size ∙ same.1;
      written = grammar.unquoted text.written some unopened;
      ends = λ other left b k. ap (λ t. ends_text Unquoted (get_or t 0 0)) (sym b) ∙ text.ends;
    })

plain-is : (byte : ℕ) (rest : List ℕ) (arg : Arg) (n : ℕ) → may_follow (byte ∷ rest) ≡ false → opening (byte ∷ rest) ≡ None → plain_argument (byte ∷ rest) ≡ Ok (arg, n) → ArgumentFront (byte ∷ rest) arg n
plain-is byte rest arg n goes o e =
    by_paren (byte == 40) refl (ap (λ b. cond b (refused BadChar (byte ∷ rest)) (cond (stands 34 0 (byte ∷ rest)) (quoted_by (byte ∷ rest) (text_from Quoted 0 rest)) (unquoted_by (text_from Unquoted 0 (byte ∷ rest))))) (sym (stands-front 40 byte rest)) ∙ e)
  where
    by_quote : (byte == 40) ≡ false → (test : Bool) → (byte == 34) ≡ test → cond test (quoted_by (byte ∷ rest) (text_from Quoted 0 rest)) (unquoted_by (text_from Unquoted 0 (byte ∷ rest))) ≡ Ok (arg, n) → ArgumentFront (byte ∷ rest) arg n
    by_quote p true t f =
        let quote : byte ≡ 34 = grind (arith, nat_tests) in
        subst (λ (b : ℕ). ArgumentFront (b ∷ rest) arg n) (sym quote) (quoted-is rest arg n (text_from Quoted 0 rest) refl (ap (λ b. quoted_by (b ∷ rest) (text_from Quoted 0 rest)) (sym quote) ∙ f))
    by_quote p false t f = unquoted-is byte rest arg n goes p t o (text_from Unquoted 0 (byte ∷ rest)) refl f

    by_paren : (test : Bool) → (byte == 40) ≡ test → cond test (refused BadChar (byte ∷ rest)) (cond (stands 34 0 (byte ∷ rest)) (quoted_by (byte ∷ rest) (text_from Quoted 0 rest)) (unquoted_by (text_from Unquoted 0 (byte ∷ rest)))) ≡ Ok (arg, n) →
        ArgumentFront (byte ∷ rest) arg n
    by_paren true t f = cc
    by_paren false t f =
        by_quote t (byte == 34) refl (ap (λ b. cond b (quoted_by (byte ∷ rest) (text_from Quoted 0 rest)) (unquoted_by (text_from Unquoted 0 (byte ∷ rest)))) (sym (stands-front 34 byte rest)) ∙ f)

-- an argument at the front of a text, by the grammar, which no other argument touches
pub record ArgumentRead (text : List ℕ) (arg : Arg) (n : ℕ) : Type 0 where
  pub front : List ℕ
  pub back : List ℕ
  pub split : text ≡ front ++ back
  pub size : length front ≡ n
  pub written : IsArgument front arg
  pub follows : may_follow back ≡ true

pub argument_by-is : (byte : ℕ) (rest : List ℕ) (arg : Arg) (n : ℕ) → may_follow (byte ∷ rest) ≡ false → (found : Option ℕ) → opening (byte ∷ rest) ≡ found → argument_by (byte ∷ rest) found ≡ Ok (arg, n) → ArgumentFront (byte ∷ rest) arg n
argument_by-is byte rest arg n goes None o e = plain-is byte rest arg n goes o e
argument_by-is byte rest arg n goes (Some k) o e = bracket-is (byte ∷ rest) k arg n o (closing k (drop (k + 2) (byte ∷ rest))) refl e

pub argument-is : (byte : ℕ) (rest : List ℕ) (arg : Arg) (n : ℕ) → may_follow (byte ∷ rest) ≡ false → argument (byte ∷ rest) ≡ Ok (arg, n) → ArgumentRead (byte ∷ rest) arg n
argument-is byte rest arg n goes e = by_read (argument_by (byte ∷ rest) (opening (byte ∷ rest))) refl (ap {B = Result (Arg × ℕ) Stop} (λ (r : Result (Arg × ℕ) Stop). r) e)
  where
    by_follow : (x : Arg × ℕ) → argument_by (byte ∷ rest) (opening (byte ∷ rest)) ≡ Ok x → (test : Bool) → may_follow (drop x.1 (byte ∷ rest)) ≡ test → cond test (Ok x) (refused BadChar (drop x.1 (byte ∷ rest))) ≡ Ok (arg, n) → ArgumentRead (byte ∷ rest) arg n
    by_follow x r false t f = cc
    by_follow x r true t f =
        let same = same-ok x.0 arg x.1 n f in
        let read = argument_by-is byte rest x.0 x.1 goes (opening (byte ∷ rest)) refl r in
        let left : drop x.1 (byte ∷ rest) ≡ read.back = ap (λ k. drop k (byte ∷ rest)) (sym read.size) ∙ ap (λ t. drop (length read.front) t) read.split ∙ drop-append_seam read.front read.back in
        let written : IsArgument read.front arg = subst (λ (a : Arg). IsArgument read.front a) same.0 read.written in
        record { front = read.front; back = read.back; split = read.split; size = read.size ∙ same.1; written = written; follows = ap (λ t. may_follow t) (sym left) ∙ t }

    by_read : (read : Result (Arg × ℕ) Stop) → argument_by (byte ∷ rest) (opening (byte ∷ rest)) ≡ read → argument (byte ∷ rest) ≡ Ok (arg, n) → ArgumentRead (byte ∷ rest) arg n
    by_read (Err stop) r f = let none : argument (byte ∷ rest) ≡ Err stop = rw r refl in cc
    by_read (Ok x) r f =
        let whole : argument (byte ∷ rest) ≡ apart (byte ∷ rest) x = rw r refl in
        by_follow x r (may_follow (drop x.1 (byte ∷ rest))) refl (sym whole ∙ f)

pub bracket-some : {text inside : List ℕ} → IsBracket text inside → 0 < length text
bracket-some (grammar.bracket n only) = omega arith

some-of : (text : List ℕ) → (text ≡ [] → ⊥) → 0 < length text
some-of [] some = absurd (some refl)
some-of (byte ∷ text) some = omega arith

pub argument-some : {front : List ℕ} {arg : Arg} → IsArgument front arg → 0 < length front
argument-some (grammar.bracketed b) = bracket-some b
argument-some (grammar.quoted t) = omega arith
argument-some (grammar.unquoted {text = text} t some unopened) = some-of text some

-- an argument that is written is found;
-- first: a text that is not empty does not begin with a byte that ends it
pub quoted-front : {kind : ArgKind} {text : List ℕ} {parts : List Part} → IsText kind text parts → (text ≡ [] → ⊥) → ends_text kind (get_or text 0 0) ≡ false
quoted-front grammar.nothing some = absurd (some refl)
quoted-front {kind} (grammar.plain byte fits t) some =
    (or_parts (ends_text kind byte) (byte == 92 || byte == 36) (not_true (ends_text kind byte || (byte == 92 || byte == 36)) fits)).0
quoted-front {kind} (grammar.escape byte piece e t) some = ends-backslash kind
quoted-front {kind} (grammar.dollar e t) some = ends-dollar kind
quoted-front {kind} (grammar.reference name v t) some = ends-dollar kind

pub ending : (gap left close hash quote : Bool) → (gap || close || hash) ≡ true → (gap || left || close || hash || quote) ≡ true
ending true left close hash quote a = refl
ending false true close hash quote a = refl
ending false false true hash quote a = refl
ending false false false true quote a = refl
ending false false false false quote a = absurd (true≢false (sym a))

abbrev pub follows_byte : ℕ → Bool
follows_byte byte = is_gap byte || byte == 41 || byte == 35

-- the byte may begin an unquoted argument: it is no blank, line feed, `(`, `)`, `#` or `"`
pub record IsWordFront (byte : ℕ) : Type 0 where
  pub gap : is_gap byte ≡ false
  pub paren : (byte == 40) ≡ false
  pub close : (byte == 41) ≡ false
  pub hash : (byte == 35) ≡ false
  pub quote : (byte == 34) ≡ false

pub word-front-of : (byte : ℕ) → ends_text Unquoted byte ≡ false → IsWordFront byte
word-front-of byte e =
    let quote = or_parts (is_gap byte || byte == 40 || byte == 41 || byte == 35) (byte == 34) e in
    let hash = or_parts (is_gap byte || byte == 40 || byte == 41) (byte == 35) quote.0 in
    let close = or_parts (is_gap byte || byte == 40) (byte == 41) hash.0 in
    let paren = or_parts (is_gap byte) (byte == 40) close.0 in
    record { gap = paren.0; paren = paren.1; close = close.1; hash = hash.1; quote = quote.1 }

apart-read : (front rest : List ℕ) (arg : Arg) → may_follow rest ≡ true → apart (front ++ rest) (arg, length front) ≡ Ok (arg, length front)
apart-read front rest arg follows =
    let left : drop (length front) (front ++ rest) ≡ rest = drop-append_seam front rest in
    rw (left, follows) refl

unquoted-read : (text : List ℕ) (byte : ℕ) (back : List ℕ) (parts : List Part) → IsText Unquoted text parts → (text ≡ [] → ⊥) → (BeginsBracket text → ⊥) → ends_text Unquoted byte ≡ true → argument_by (text ++ byte ∷ back) (opening (text ++ byte ∷ back)) ≡ read_of (record { kind = Unquoted; parts = parts }) (length text)
unquoted-read [] byte back parts t some unopened ends = absurd (some refl)
unquoted-read (first ∷ text) byte back parts t some unopened ends =
    let whole : List ℕ = first ∷ (text ++ byte ∷ back) in
    let front = word-front-of first (quoted-front t some) in
    let other : is_opening_byte byte ≡ false = or_from (byte == 91) (byte == 61) (is-other (ends_text Unquoted) byte 91 ends refl) (is-other (ends_text Unquoted) byte 61 ends refl) in
    let no_paren : stands 40 0 whole ≡ false = stands-front 40 first (text ++ byte ∷ back) ∙ front.paren in
    let no_quote : stands 34 0 whole ≡ false = stands-front 34 first (text ++ byte ∷ back) ∙ front.quote in
    let inner : text_from Unquoted 0 whole ≡ Ok (parts, length (first ∷ text)) = text-read t byte back ends in
    ap (λ o. argument_by whole o) (opening-behind (first ∷ text) byte back other unopened) ∙ rw (no_paren, no_quote, inner) refl

quoted-read-as : (text rest : List ℕ) (parts : List Part) → IsText Quoted text parts → argument_by (34 ∷ (text ++ 34 ∷ rest)) (opening (34 ∷ (text ++ 34 ∷ rest))) ≡ read_of (record { kind = Quoted; parts = parts }) (length text + 2)
quoted-read-as text rest parts t =
    let whole : List ℕ = 34 ∷ (text ++ 34 ∷ rest) in
    let no_bracket : stands 91 0 whole ≡ false = stands-front 91 34 (text ++ 34 ∷ rest) in
    let no_paren : stands 40 0 whole ≡ false = stands-front 40 34 (text ++ 34 ∷ rest) in
    let quote : stands 34 0 whole ≡ true = stands-front 34 34 (text ++ 34 ∷ rest) in
    let inner : text_from Quoted 0 (text ++ 34 ∷ rest) ≡ Ok (parts, length text) = text-read t 34 rest refl in
    rw (no_bracket, no_paren, quote, inner) refl

bracket-read-as : (n : ℕ) (inside rest : List ℕ) → IsInside n inside → argument_by (opens_with n ++ (inside ++ (closes_with n ++ rest))) (opening (opens_with n ++ (inside ++ (closes_with n ++ rest)))) ≡ read_of (record { kind = Bracket; parts = with_bytes (without_feed inside) [] }) (bracket_len n (length inside))
bracket-read-as n inside rest only =
    let more : List ℕ = inside ++ (closes_with n ++ rest) in
    let whole : List ℕ = opens_with n ++ more in
    let behind : drop (n + 2) whole ≡ more = bracket-behind n more in
    let P : List ℕ → Result (Arg × ℕ) Stop = λ t. Ok (record { kind = Bracket; parts = with_bytes (without_feed (take (length inside) t)) [] }, bracket_len n (length inside)) in
    let Q : List ℕ → Result (Arg × ℕ) Stop = λ t. Ok (record { kind = Bracket; parts = with_bytes (without_feed t) [] }, bracket_len n (length inside)) in
    ap (λ o. argument_by whole o) (opening-read n more)
    ∙ ap (λ t. bracket_by whole n (closing n t)) behind
    ∙ ap (λ f. bracket_by whole n f) (closing-read n inside rest only)
    ∙ ap P behind
    ∙ ap Q (take_at inside (closes_with n ++ rest) (length inside) refl)

-- the text begins with a byte that ends an unquoted argument
abbrev pub EndsUnquoted : List ℕ → Type 0
EndsUnquoted text = (byte : ℕ) × (back : List ℕ) × (text ≡ byte ∷ back) × (ends_text Unquoted byte ≡ true)

pub argument_by-read : {front : List ℕ} {arg : Arg} → IsArgument front arg → (rest : List ℕ) → (arg.kind ≡ Unquoted → EndsUnquoted rest) → argument_by (front ++ rest) (opening (front ++ rest)) ≡ Ok (arg, length front)
argument_by-read (grammar.bracketed (grammar.bracket {inside = inside} n only)) rest ends =
    let split : (opens_with n ++ (inside ++ closes_with n)) ++ rest ≡ opens_with n ++ (inside ++ (closes_with n ++ rest)) =
    append_assoc (opens_with n) (inside ++ closes_with n) rest ∙ ap (λ t. opens_with n ++ t) (append_assoc inside (closes_with n) rest) in
    let Q : ℕ → Result (Arg × ℕ) Stop = λ k. Ok (record { kind = Bracket; parts = with_bytes (without_feed inside) [] }, k) in
    ap (λ t. argument_by t (opening t)) split ∙ bracket-read-as n inside rest only ∙ ap Q (sym (bracket-length n inside))
argument_by-read (grammar.quoted {text = text} {parts = parts} t) rest ends =
    let Q : ℕ → Result (Arg × ℕ) Stop = λ k. Ok (record { kind = Quoted; parts = parts }, k) in
    let sums : length text + 2 ≡ length (34 ∷ (text ++ 34 ∷ [])) = omega (arith, length-append text (34 ∷ [])) in
    ap (λ t. argument_by (34 ∷ t) (opening (34 ∷ t))) (append_assoc text (34 ∷ []) rest) ∙ quoted-read-as text rest parts t ∙ ap Q sums
argument_by-read (grammar.unquoted {text = text} {parts = parts} t some unopened) rest ends =
    let end = ends refl in
    ap (λ r. argument_by (text ++ r) (opening (text ++ r))) end.2 ∙ unquoted-read text end.0 end.1 parts t some unopened end.3

pub argument-read : {front : List ℕ} {arg : Arg} → IsArgument front arg → (byte : ℕ) (back : List ℕ) → follows_byte byte ≡ true → argument (front ++ byte ∷ back) ≡ Ok (arg, length front)
argument-read {front} {arg} a byte back follows =
    let read : argument_by (front ++ byte ∷ back) (opening (front ++ byte ∷ back)) ≡ Ok (arg, length front) = argument_by-read a (byte ∷ back) (λ _. (byte, back, refl, ending (is_gap byte) (byte == 40) (byte == 41) (byte == 35) (byte == 34) follows)) in
    let whole : argument (front ++ byte ∷ back) ≡ apart (front ++ byte ∷ back) (arg, length front) = rw read refl in
    whole ∙ apart-read front (byte ∷ back) arg follows

-- the first byte of an argument begins no gap and is no `)`
pub record IsFront (text : List ℕ) : Type 0 where
  pub closes : (get_or text 0 0 == 41) ≡ false
  pub gap : gap_at text ≡ Ok 0

pub front-read : {front : List ℕ} {arg : Arg} → IsArgument front arg → (back : List ℕ) → IsFront (front ++ back)
front-read (grammar.bracketed (grammar.bracket n only)) back = record { closes = refl; gap = refl }
front-read (grammar.quoted t) back = record { closes = refl; gap = refl }
front-read (grammar.unquoted {text = text} t some unopened) back = by_text text (quoted-front t some) some
  where
    by_text : (text : List ℕ) → ends_text Unquoted (get_or text 0 0) ≡ false → (text ≡ [] → ⊥) → IsFront (text ++ back)
    by_text [] plain some = absurd (some refl)
    by_text (byte ∷ rest) plain some =
        let front = word-front-of byte plain in record { closes = front.close; gap = rw (front.gap, front.hash) refl }
