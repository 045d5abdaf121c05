-- The arguments of a command: the reader finds exactly the arguments that the grammar writes.
use Rattle.std.proofs.Common.{◌≡◌, ℕ, zero, suc, ◌+◌, ◌<◌, ◌≤◌, Bool, true, false, ◌==◌, List, [], ◌∷◌, ◌++◌, length, drop, get_or, Result, Ok, Err, refl, sym, ap, ◌∙◌, subst, arith, append_assoc, append-nil, length-append}
use Rattle.std.proofs.lemmas.Bool.Decides.{nat_tests}
use Rattle.std.proofs.lemmas.Bool.{true≢false}
use Rattle.std.proofs.Math.Seq.{drop-append_seam}
use Rattle.ct_lex.specs.Bytes.{is_gap}
use Rattle.ct_lex.specs.Bracket.{gap_at}
use Rattle.ct_lex.specs.Text.{moved, may_follow, argument, argument_before, arguments_from}
use Rattle.ct_lex.specs.Grammar as grammar
use Rattle.ct_lex.specs.Grammar.{opens_with, closes_with, BeginsBracket, IsInside, IsBracket, IsSpace, IsLineComment, IsLineEnd, IsText, IsArgument, IsArguments}
use Rattle.ct_lex.specs.declared.call.Arg.{Arg}
use Rattle.ct_lex.specs.declared.stop.Stop.{Stop}
use Rattle.ct_lex.proofs.StepLemmas.{arguments_from-gap, arguments_from-argument}
use Rattle.ct_lex.proofs.FrontLemmas.{behind-front, behind-feed, is-other}
use Rattle.ct_lex.proofs.BracketLemmas.{IsGapAt, no_gap, space, feed, line_comment, last_comment, gap-is, space-read, line-comment-read}
use Rattle.ct_lex.proofs.ArgumentLemmas.{argument-is, argument-some, argument-read, follows_byte, front-read}
use Rattle.ct_lex.proofs.TextLemmas.{same-ok, moved-ok}

-- arguments at the front of a text, by the grammar
pub record ArgumentsRead (behind : Bool) (text : List ℕ) (args : List Arg) (n : ℕ) : Type 0 where
  pub front : List ℕ
  pub back : List ℕ
  pub split : text ≡ front ++ 41 ∷ back
  pub size : length front + 1 ≡ n
  pub written : IsArguments behind front args

pub space-some : {front : List ℕ} → IsSpace front → 0 < length front
space-some (grammar.blank byte b) = omega arith
space-some (grammar.bracket_comment b) = omega arith

pub comment-some : {front : List ℕ} → IsLineComment front → 0 < length front
comment-some (grammar.line_comment text a b) = omega arith

pub gap-none : {text : List ℕ} {n : ℕ} → IsGapAt text n → n ≡ 0 → (is_gap (get_or text 0 0) ≡ false) × ((get_or text 0 0 == 35) ≡ false)
gap-none (no_gap a b) e = (a, b)
gap-none (space back s) e = let some = space-some s in absurd (omega arith)
gap-none (feed back) e = absurd (omega arith)
gap-none (line_comment back c) e = let some = comment-some c in absurd (omega arith)
gap-none (last_comment c) e = let some = comment-some c in absurd (omega arith)

-- what is read behind a gap
gap-passed : (text : List ℕ) (n : ℕ) (args : List Arg) (k : ℕ) → 0 < n → n ≤ length text → (get_or text 0 0 == 41) ≡ false → gap_at text ≡ Ok n → arguments_from 0 text ≡ Ok (args, k) → (j : ℕ) × (arguments_from 0 (drop n text) ≡ Ok (args, j)) × (j + n ≡ k)
gap-passed text n args k some fits goes gap e =
    moved-ok n k args (arguments_from 0 (drop n text)) (sym (arguments_from-gap text n some fits goes gap) ∙ e)

abbrev pub ReadsShorter : List ℕ → Type 0
ReadsShorter text = (rest : List ℕ) (args : List Arg) (n : ℕ) → length rest < length text → arguments_from 0 rest ≡ Ok (args, n) → ArgumentsRead false rest args n

arguments_as : {behind : Bool} {text : List ℕ} {args : List Arg} {m n : ℕ} → m ≡ n → ArgumentsRead behind text args m → ArgumentsRead behind text args n
arguments_as {behind} {text} {args} e read = subst (λ (k : ℕ). ArgumentsRead behind text args k) e read

gap-step : {text : List ℕ} {n : ℕ} → IsGapAt text n → (behind : Bool) (args : List Arg) (k : ℕ) → 0 < n → (get_or text 0 0 == 41) ≡ false → gap_at text ≡ Ok n → arguments_from 0 text ≡ Ok (args, k) → ReadsShorter text → ArgumentsRead behind text args k
gap-step (no_gap a b) behind args k some goes gap e again = absurd (omega arith)
gap-step (space {front = front} back s) behind args k some goes gap e again =
    let n : ℕ = length front in
    let text : List ℕ = front ++ back in
    let size : length text ≡ n + length back = length-append front back in
    let passed = gap-passed text n args k some (omega arith) goes gap e in
    let left : arguments_from 0 back ≡ Ok (args, passed.0) = ap (λ t. arguments_from 0 t) (sym (drop-append_seam front back)) ∙ passed.1 in
    let read = again back args passed.0 (omega arith) left in
    record {
      front = front ++ read.front;
      back = read.back;
      split = behind-front front back read.front (41 ∷ read.back) read.split;
      size = omega (arith, length-append front read.front, read.size, passed.2);
      written = grammar.space s read.written;
    }
gap-step (feed back) behind args k some goes gap e again =
    let passed = gap-passed (10 ∷ back) 1 args k some (omega arith) goes gap e in
    let read = again back args passed.0 (omega arith) passed.1 in
    record {
      front = 10 ∷ read.front;
      back = read.back;
      split = ap (λ t. 10 ∷ t) read.split;
      size = omega (arith, read.size, passed.2);
      written = grammar.line_end grammar.feed read.written;
    }
gap-step (line_comment {front = front} back c) behind args k some goes gap e again =
    let n : ℕ = length front in
    let text : List ℕ = front ++ 10 ∷ back in
    let size : length text ≡ n + length (10 ∷ back) = length-append front (10 ∷ back) in
    let passed = gap-passed text n args k some (omega arith) goes gap e in
    let left : arguments_from 0 (10 ∷ back) ≡ Ok (args, passed.0) = ap (λ t. arguments_from 0 t) (sym (drop-append_seam front (10 ∷ back))) ∙ passed.1 in
    let later = gap-passed (10 ∷ back) 1 args passed.0 (omega arith) (omega arith) refl refl left in
    let read = again back args later.0 (omega arith) later.1 in
    record {
      front = (front ++ 10 ∷ []) ++ read.front;
      back = read.back;
      split = behind-feed front back read.front (41 ∷ read.back) read.split;
      size = omega (arith, length-append (front ++ 10 ∷ []) read.front, length-append front (10 ∷ []), read.size, passed.2, later.2);
      written = grammar.line_end (grammar.commented c) read.written;
    }
gap-step (last_comment {front = front} c) behind args k some goes gap e again =
    let passed = gap-passed front (length front) args k some (omega arith) goes gap e in
    let none : drop (length front) front ≡ [] = ap (λ t. drop (length front) t) (sym (append-nil front)) ∙ drop-append_seam front [] in
    let ended : arguments_from 0 [] ≡ Ok (args, passed.0) = ap (λ t. arguments_from 0 t) (sym none) ∙ passed.1 in
    cc

argument_before-ok : (arg : Arg) (args : List Arg) (n : ℕ) (read : Result (List Arg × ℕ) Stop) → argument_before arg read ≡ Ok (args, n) → (more : List Arg) × (read ≡ Ok (more, n)) × (arg ∷ more ≡ args)
argument_before-ok arg args n (Err stop) e = cc
argument_before-ok arg args n (Ok x) e =
    let same = same-ok (arg ∷ x.0) args x.1 n e in
    let P : ℕ → Result (List Arg × ℕ) Stop = λ k. Ok (x.0, k) in
    (x.0, ap P same.1, same.0)

gap-inside : {text : List ℕ} {n : ℕ} → IsGapAt text n → n ≤ length text
gap-inside (no_gap a b) = omega arith
gap-inside (space {front = front} back s) = omega (arith, length-append front back)
gap-inside (feed back) = omega arith
gap-inside (line_comment {front = front} back c) = omega (arith, length-append front (10 ∷ back))
gap-inside (last_comment c) = omega arith

pub arguments-is : (fuel : ℕ) (behind : Bool) (text : List ℕ) (args : List Arg) (n : ℕ) → length text < fuel → (behind ≡ true → may_follow text ≡ true) → arguments_from 0 text ≡ Ok (args, n) → ArgumentsRead behind text args n
arguments-is zero behind text args n fits follows e = absurd (omega arith)
arguments-is (suc fuel) behind [] args n fits follows e = cc
arguments-is (suc fuel) behind (byte ∷ rest) args n fits follows e =
    by_end (byte == 41) refl
    (λ back more k less read. arguments-is fuel false back more k (omega arith) (λ (no_way : false ≡ true). cc) read)
    (λ back more k less after read. arguments-is fuel true back more k (omega arith) (λ _. after) read)
  where
    by_argument : (byte == 41) ≡ false → is_gap byte ≡ false → (byte == 35) ≡ false → gap_at (byte ∷ rest) ≡ Ok 0 → (behind_so : Bool) → behind ≡ behind_so →
        ((back : List ℕ) (more : List Arg) (k : ℕ) → length back < suc (length rest) → may_follow back ≡ true → arguments_from 0 back ≡ Ok (more, k) → ArgumentsRead true back more k) →
        (read : Result (Arg × ℕ) Stop) → argument (byte ∷ rest) ≡ read → ArgumentsRead behind_so (byte ∷ rest) args n
    by_argument a b c g behind_so same again (Err stop) r =
        let none : arguments_from 0 (byte ∷ rest) ≡ Err stop = rw (a, g, r) refl in cc
    by_argument a b c g true same again (Ok x) r =
        let stays : may_follow (byte ∷ rest) ≡ false = rw (b, a, c) refl in
        absurd (true≢false (sym (follows same) ∙ stays))
    by_argument a b c g false same again (Ok x) r =
        let stays : may_follow (byte ∷ rest) ≡ false = rw (b, a, c) refl in
        let read = argument-is byte rest x.0 x.1 stays r in
        let some : 0 < x.1 = subst (λ (k : ℕ). 0 < k) read.size (argument-some read.written) in
        let sizes : length (byte ∷ rest) ≡ length read.front + length read.back = ap (λ t. length t) read.split ∙ length-append read.front read.back in
        let step = arguments_from-argument (byte ∷ rest) x.0 x.1 some (omega (arith, read.size)) a g r in
        let peeled = argument_before-ok x.0 args n (moved x.1 (arguments_from 0 (drop x.1 (byte ∷ rest)))) (sym step ∙ e) in
        let shift = moved-ok x.1 n peeled.0 (arguments_from 0 (drop x.1 (byte ∷ rest))) peeled.1 in
        let left : drop x.1 (byte ∷ rest) ≡ read.back = ap (λ k. drop k (byte ∷ rest)) (sym read.size) ∙ ap (λ t. drop (length read.front) t) read.split ∙ drop-append_seam read.front read.back in
        let later = again read.back peeled.0 shift.0 (omega (arith, read.size)) read.follows (ap (λ t. arguments_from 0 t) (sym left) ∙ shift.1) in
        subst (λ (all : List Arg). ArgumentsRead false (byte ∷ rest) all n) peeled.2 (record {
          front = read.front ++ later.front;
          back = later.back;
          split = read.split ∙ behind-front read.front read.back later.front (41 ∷ later.back) later.split;
          size = omega (arith, length-append read.front later.front, read.size, later.size, shift.2);
          written = grammar.argument read.written later.written;
        })

    by_gap : (byte == 41) ≡ false → ReadsShorter (byte ∷ rest) →
        ((back : List ℕ) (more : List Arg) (k : ℕ) → length back < suc (length rest) → may_follow back ≡ true → arguments_from 0 back ≡ Ok (more, k) → ArgumentsRead true back more k) →
        (found : Result ℕ Stop) → gap_at (byte ∷ rest) ≡ found → ArgumentsRead behind (byte ∷ rest) args n
    by_gap a shorter again (Err stop) g =
        let none : arguments_from 0 (byte ∷ rest) ≡ Err stop = rw (a, g) refl in cc
    by_gap a shorter again (Ok zero) g =
        let none = gap-none (gap-is byte rest 0 g) refl in
        by_argument a none.0 none.1 g behind refl again (argument (byte ∷ rest)) refl
    by_gap a shorter again (Ok (suc k)) g =
        gap-step (gap-is byte rest (suc k) g) behind args n (omega arith) a g e shorter

    by_end : (test : Bool) → (byte == 41) ≡ test → ReadsShorter (byte ∷ rest) →
        ((back : List ℕ) (more : List Arg) (k : ℕ) → length back < suc (length rest) → may_follow back ≡ true → arguments_from 0 back ≡ Ok (more, k) → ArgumentsRead true back more k) → ArgumentsRead behind (byte ∷ rest) args n
    by_end true t shorter again =
        let close : byte ≡ 41 = grind (arith, nat_tests) in
        let none : arguments_from 0 (byte ∷ rest) ≡ Ok ([], 1) = rw t refl in
        let same = same-ok [] args 1 n (sym none ∙ e) in
        let written : IsArguments behind [] args = subst (λ (all : List Arg). IsArguments behind [] all) same.0 grammar.none in
        record { front = []; back = rest; split = ap (λ b. b ∷ rest) close; size = same.1; written = written }
    by_end false t shorter again = by_gap t shorter again (gap_at (byte ∷ rest)) refl

-- written arguments in front of a `)` are read; behind an argument they begin with a byte that may follow it
pub record ArgumentsGo (behind : Bool) (text back : List ℕ) (args : List Arg) : Type 0 where
  pub reads : arguments_from 0 (text ++ 41 ∷ back) ≡ Ok (args, length text + 1)
  pub follows : behind ≡ true → (byte : ℕ) × (rest : List ℕ) × (text ++ 41 ∷ back ≡ byte ∷ rest) × (follows_byte byte ≡ true)

pub gap-first : {front : List ℕ} → IsSpace front → (back : List ℕ) → (byte : ℕ) × (rest : List ℕ) × (front ++ back ≡ byte ∷ rest) × (follows_byte byte ≡ true) × ((byte == 41) ≡ false)
gap-first (grammar.blank byte b) back = (byte, back, refl, rw b refl, is-other is_gap byte 41 (rw b refl) refl)
gap-first (grammar.bracket_comment b) back = (35, _, refl, refl, refl)

gap-read : (front back : List ℕ) (args : List Arg) (k : ℕ) → 0 < length front → (get_or (front ++ back) 0 0 == 41) ≡ false → gap_at (front ++ back) ≡ Ok (length front) → arguments_from 0 back ≡ Ok (args, k) → arguments_from 0 (front ++ back) ≡ Ok (args, k + length front)
gap-read front back args k some goes gap read =
    let fits : length front ≤ length (front ++ back) = omega (arith, length-append front back) in
    arguments_from-gap (front ++ back) (length front) some fits goes gap ∙ ap (λ t. moved (length front) (arguments_from 0 t)) (drop-append_seam front back) ∙ ap (λ r. moved (length front) r) read

pub arguments-read : {behind : Bool} {text : List ℕ} {args : List Arg} → IsArguments behind text args → (back : List ℕ) → ArgumentsGo behind text back args
arguments-read grammar.none back = record { reads = refl; follows = λ _. (41, back, refl, refl) }
arguments-read (grammar.space {front = front} {text = text} {args = args} s later) back =
    let again = arguments-read later back in
    let first = gap-first s (text ++ 41 ∷ back) in
    let split : (front ++ text) ++ 41 ∷ back ≡ front ++ (text ++ 41 ∷ back) = append_assoc front text (41 ∷ back) in
    let P : ℕ → Result (List Arg × ℕ) Stop = λ k. Ok (args, k) in
    let sums : (length text + 1) + length front ≡ length (front ++ text) + 1 = omega (arith, length-append front text) in
    let goes : (get_or (front ++ (text ++ 41 ∷ back)) 0 0 == 41) ≡ false = ap (λ t. get_or t 0 0 == 41) first.2 ∙ first.4 in
    record {
      reads = ap (λ t. arguments_from 0 t) split ∙ gap-read front (text ++ 41 ∷ back) args (length text + 1) (space-some s) goes (space-read s (text ++ 41 ∷ back)) again.reads ∙ ap P sums;
      follows = λ _. (first.0, first.1, split ∙ first.2, first.3);
    }
arguments-read (grammar.line_end {text = text} {args = args} grammar.feed later) back =
    let again = arguments-read later back in
    let P : ℕ → Result (List Arg × ℕ) Stop = λ k. Ok (args, k) in
    let sums : (length text + 1) + 1 ≡ length (10 ∷ text) + 1 = omega arith in
    record {
      reads = gap-read (10 ∷ []) (text ++ 41 ∷ back) args (length text + 1) (omega arith) refl refl again.reads ∙ ap P sums;
      follows = λ _. (10, text ++ 41 ∷ back, refl, refl);
    }
arguments-read (grammar.line_end {text = text} {args = args} (grammar.commented (grammar.line_comment line within unopened)) later) back =
    let again = arguments-read later back in
    let rest : List ℕ = text ++ 41 ∷ back in
    let comment : List ℕ = 35 ∷ line in
    let split : ((comment ++ 10 ∷ []) ++ text) ++ 41 ∷ back ≡ comment ++ 10 ∷ rest = append_assoc (comment ++ 10 ∷ []) text (41 ∷ back) ∙ append_assoc comment (10 ∷ []) rest in
    let P : ℕ → Result (List Arg × ℕ) Stop = λ k. Ok (args, k) in
    let sums : ((length text + 1) + 1) + length comment ≡ length ((comment ++ 10 ∷ []) ++ text) + 1 = omega (arith, length-append (comment ++ 10 ∷ []) text, length-append comment (10 ∷ [])) in
    let behind_it : arguments_from 0 (10 ∷ rest) ≡ Ok (args, (length text + 1) + 1) = gap-read (10 ∷ []) rest args (length text + 1) (omega arith) refl refl again.reads in
    record {
      reads = ap (λ t. arguments_from 0 t) split ∙ gap-read comment (10 ∷ rest) args ((length text + 1) + 1) (omega arith) refl (line-comment-read (grammar.line_comment line within unopened) rest) behind_it ∙ ap P sums;
      follows = λ _. (35, line ++ 10 ∷ rest, split, refl);
    }
arguments-read (grammar.argument {front = front} {text = text} {arg = arg} {args = args} a later) back =
    let again = arguments-read later back in
    let rest : List ℕ = text ++ 41 ∷ back in
    let split : (front ++ text) ++ 41 ∷ back ≡ front ++ rest = append_assoc front text (41 ∷ back) in
    let next = again.follows refl in
    let read : argument (front ++ rest) ≡ Ok (arg, length front) = ap (λ t. argument (front ++ t)) next.2 ∙ argument-read a next.0 next.1 next.3 in
    let front_so = front-read a rest in
    let fits : length front ≤ length (front ++ rest) = omega (arith, length-append front rest) in
    let P : ℕ → Result (List Arg × ℕ) Stop = λ k. Ok (arg ∷ args, k) in
    let sums : (length text + 1) + length front ≡ length (front ++ text) + 1 = omega (arith, length-append front text) in
    record {
      reads = ap (λ t. arguments_from 0 t) split
          ∙ arguments_from-argument (front ++ rest) arg (length front) (argument-some a) fits front_so.closes front_so.gap read
          ∙ ap (λ t. argument_before arg (moved (length front) (arguments_from 0 t))) (drop-append_seam front rest)
          ∙ ap (λ r. argument_before arg (moved (length front) r)) again.reads
          ∙ ap P sums;
      follows = λ (no_way : false ≡ true). absurd (true≢false (sym no_way));
    }
