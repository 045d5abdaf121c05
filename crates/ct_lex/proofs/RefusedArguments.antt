-- The arguments of a command: where the grammar says that they are broken, or that the text ends in them,
-- the reader stops there for that reason.
use Rattle.std.proofs.Common.{◌≡◌, ℕ, suc, ◌+◌, ◌<◌, ◌≤◌, Bool, true, false, ◌||◌, ◌==◌, List, [], ◌∷◌, ◌++◌, length, drop, get_or, Option, Some, None, Ok, Err, refl, sym, ap, ◌∙◌, subst, arith, append_assoc, append-nil, length-append}
use Rattle.std.proofs.lemmas.Bool.Decides.{nat_tests}
use Rattle.std.proofs.lemmas.Bool.{true≢false}
use Rattle.std.proofs.Math.Seq.{drop-append_seam}
use Rattle.ct_lex.specs.Argument.{ends_text}
use Rattle.ct_lex.specs.Bracket.{opening, closing, bracket_comment, comment_by, gap_at}
use Rattle.ct_lex.specs.Broken as broken
use Rattle.ct_lex.specs.Broken.{FaultKind, HasNoClosing, touches, IsBrokenArgument, IsCutArgument, IsOpenComment, AreBroken, AreCut}
use Rattle.ct_lex.specs.Bytes.{stands, is_gap}
use Rattle.ct_lex.specs.Grammar as grammar
use Rattle.ct_lex.specs.Grammar.{opens_with, IsSpace, IsLineComment, IsLineEnd, IsArgument}
use Rattle.ct_lex.specs.Place.{fault_of}
use Rattle.ct_lex.specs.Text.{moved, text_from, bracket_by, quoted_by, argument_by, may_follow, apart, argument, argument_before, arguments_from}
use Rattle.ct_lex.specs.declared.call.Arg.{Arg}
use Rattle.ct_lex.specs.declared.call.ArgKind.{ArgKind}
use Rattle.ct_lex.specs.declared.call.ArgKind.TheVariants.{Bracket, Quoted, Unquoted}
use Rattle.ct_lex.specs.declared.stop.Cause.{Cause}
use Rattle.ct_lex.specs.declared.stop.Cause.TheVariants.{OpenString, OpenBracket, BadChar}
use Rattle.ct_lex.specs.declared.stop.Stop.{Stop}
use Rattle.ct_lex.specs.declared.stop.Stop.TheVariants.{Ended, At}
use Rattle.ct_lex.proofs.FrontLemmas.{stands-front, not_true}
use Rattle.ct_lex.proofs.StepLemmas.{arguments_from-gap, arguments_from-argument}
use Rattle.ct_lex.proofs.BracketLemmas.{mark-length, opening-read, closing-is, space-read, line-comment-read, last-comment-read}
use Rattle.ct_lex.proofs.ArgumentLemmas.{bracket-behind, word-front-of, argument_by-read, argument-some, argument-read, IsFront, front-read}
use Rattle.ct_lex.proofs.ArgumentsLemmas.{space-some, gap-first}
use Rattle.ct_lex.proofs.BrokenText.{same_stop}
use Rattle.ct_lex.proofs.RefusedText.{marked-opening, marked-first, text-refused, cut-refused, unit-breaks}

-- where the grammar has no closing, none is found
closing-none : (n : ℕ) (text : List ℕ) → HasNoClosing n text → closing n text ≡ None
closing-none n text unclosed = by_found (closing n text) refl
  where
    by_found : (found : Option ℕ) → closing n text ≡ found → closing n text ≡ None
    by_found None e = e
    by_found (Some k) e = let closed = closing-is n text k e in absurd (unclosed closed.inside closed.back closed.split)

pub open-comment-read : {text : List ℕ} → IsOpenComment text → gap_at text ≡ Err (At OpenBracket (length text))
open-comment-read (broken.open_comment n text unclosed) =
    let rest : List ℕ = opens_with n ++ text in
    let whole : List ℕ = 35 ∷ rest in
    let shift : n + 3 ≡ suc (length (opens_with n)) = omega (arith, mark-length 91 n) in
    let left : drop (n + 3) whole ≡ text = ap (λ i. drop i whole) shift ∙ drop-append_seam (opens_with n) text in
    ap (λ o. comment_by whole o) (opening-read n text) ∙ ap (λ t. bracket_comment whole n (closing n t)) left ∙ ap (λ f. bracket_comment whole n f) (closing-none n text unclosed)

argument-err : (text : List ℕ) (stop : Stop) → argument_by text (opening text) ≡ Err stop → argument text ≡ Err stop
argument-err text stop e = rw e refl

-- an argument that is refused where one may begin stops the arguments
first-refused : (text : List ℕ) (stop : Stop) → 0 < length text → IsFront text → argument text ≡ Err stop → arguments_from 0 text ≡ Err stop
first-refused [] stop some front read = absurd (omega arith)
first-refused (byte ∷ rest) stop some front read = rw (front.closes, front.gap, read) refl

unquoted-refused : (text : List ℕ) (stop : Stop) → 0 < length text → ends_text Unquoted (get_or text 0 0) ≡ false → opening text ≡ None → text_from Unquoted 0 text ≡ Err stop → arguments_from 0 text ≡ Err stop
unquoted-refused [] stop some plain o read = absurd (omega arith)
unquoted-refused (byte ∷ rest) stop some plain o read =
    let whole : List ℕ = byte ∷ rest in
    let front = word-front-of byte plain in
    let no_paren : stands 40 0 whole ≡ false = stands-front 40 byte rest ∙ front.paren in
    let no_quote : stands 34 0 whole ≡ false = stands-front 34 byte rest ∙ front.quote in
    let none : argument_by whole (opening whole) ≡ Err stop = ap (λ f. argument_by whole f) o ∙ rw (no_paren, no_quote, read) refl in
    first-refused whole stop some (record { closes = front.close; gap = rw (front.gap, front.hash) refl }) (argument-err whole stop none)

quoted-refused : (inner : List ℕ) (inside stop : Stop) → text_from Quoted 0 inner ≡ Err inside → quoted_by (34 ∷ inner) (Err inside) ≡ Err stop → arguments_from 0 (34 ∷ inner) ≡ Err stop
quoted-refused inner inside stop read e =
    let whole : List ℕ = 34 ∷ inner in
    let no_bracket : stands 91 0 whole ≡ false = stands-front 91 34 inner in
    let no_paren : stands 40 0 whole ≡ false = stands-front 40 34 inner in
    let quote : stands 34 0 whole ≡ true = stands-front 34 34 inner in
    let none : argument_by whole (opening whole) ≡ Err stop = rw (no_bracket, no_paren, quote, read) e in
    first-refused whole stop (omega arith) (record { closes = refl; gap = refl }) (argument-err whole stop none)

bracket-refused : (n : ℕ) (text : List ℕ) → HasNoClosing n text → arguments_from 0 (opens_with n ++ text) ≡ Err (At OpenBracket (length (opens_with n ++ text)))
bracket-refused n text unclosed =
    let whole : List ℕ = opens_with n ++ text in
    let stop : Stop = At OpenBracket (length whole) in
    let none : argument_by whole (opening whole) ≡ Err stop =
    ap (λ o. argument_by whole o) (opening-read n text) ∙ ap (λ t. bracket_by whole n (closing n t)) (bracket-behind n text) ∙ ap (λ f. bracket_by whole n f) (closing-none n text unclosed) in
    first-refused whole stop (omega arith) (record { closes = refl; gap = refl }) (argument-err whole stop none)

paren-refused : (text : List ℕ) → arguments_from 0 (40 ∷ text) ≡ Err (At BadChar (length (40 ∷ text)))
paren-refused text =
    let whole : List ℕ = 40 ∷ text in
    let stop : Stop = At BadChar (length whole) in
    let no_bracket : stands 91 0 whole ≡ false = stands-front 91 40 text in
    let paren : stands 40 0 whole ≡ true = stands-front 40 40 text in
    let none : argument_by whole (opening whole) ≡ Err stop = rw (no_bracket, paren) refl in
    first-refused whole stop (omega arith) (record { closes = refl; gap = refl }) (argument-err whole stop none)

-- a byte that touches an argument may not follow it, and ends it if it is unquoted
touch-bits : (kind : ArgKind) (byte : ℕ) → touches kind byte ≡ true → ((is_gap byte || byte == 41 || byte == 35) ≡ false) × (kind ≡ Unquoted → ends_text Unquoted byte ≡ true)
touch-bits Bracket byte e = (not_true (is_gap byte || byte == 41 || byte == 35) e, λ (no_way : Bracket ≡ Unquoted). cc)
touch-bits Quoted byte e = (not_true (is_gap byte || byte == 41 || byte == 35) e, λ (no_way : Quoted ≡ Unquoted). cc)
touch-bits Unquoted byte e = by_paren (byte == 40) refl e
  where
    by_quote : (test : Bool) → (byte == 34) ≡ test → test ≡ true → ((is_gap byte || byte == 41 || byte == 35) ≡ false) × (Unquoted ≡ Unquoted → ends_text Unquoted byte ≡ true)
    by_quote false t f = absurd (true≢false (sym f))
    by_quote true t f =
        let quote : byte ≡ 34 = grind (arith, nat_tests) in
        (ap (λ b. is_gap b || b == 41 || b == 35) quote, λ _. ap (λ b. ends_text Unquoted b) quote)

    by_paren : (test : Bool) → (byte == 40) ≡ test → (test || byte == 34) ≡ true → ((is_gap byte || byte == 41 || byte == 35) ≡ false) × (Unquoted ≡ Unquoted → ends_text Unquoted byte ≡ true)
    by_paren false t f = by_quote (byte == 34) refl f
    by_paren true t f =
        let paren : byte ≡ 40 = grind (arith, nat_tests) in
        (ap (λ b. is_gap b || b == 41 || b == 35) paren, λ _. ap (λ b. ends_text Unquoted b) paren)

apart-refused : (front back : List ℕ) (arg : Arg) → may_follow back ≡ false → apart (front ++ back) (arg, length front) ≡ Err (At BadChar (length back))
apart-refused front back arg stays =
    let left : drop (length front) (front ++ back) ≡ back = drop-append_seam front back in
    rw (left, stays) refl

touching-refused : {front : List ℕ} {arg : Arg} (byte : ℕ) (back : List ℕ) → IsArgument front arg → touches arg.kind byte ≡ true → arguments_from 0 (front ++ byte ∷ back) ≡ Err (At BadChar (length (byte ∷ back)))
touching-refused {front} {arg} byte back a touched =
    let text : List ℕ = front ++ byte ∷ back in
    let stop : Stop = At BadChar (length (byte ∷ back)) in
    let bits = touch-bits arg.kind byte touched in
    let read : argument_by text (opening text) ≡ Ok (arg, length front) = argument_by-read a (byte ∷ back) (λ k. (byte, back, refl, bits.1 k)) in
    let whole : argument text ≡ apart text (arg, length front) = rw read refl in
    let some : 0 < length text = omega (arith, length-append front (byte ∷ back)) in
    first-refused text stop some (front-read a (byte ∷ back)) (whole ∙ apart-refused front (byte ∷ back) arg bits.0)

-- a broken argument stops the arguments, for the cause of its kind of fault
pub record ArgumentBreaks (text : List ℕ) (fault : FaultKind) (left : ℕ) : Type 0 where
  pub why : Cause
  pub fault_is : fault_of why ≡ fault
  pub reads : arguments_from 0 text ≡ Err (At why left)

argument-breaks : {front back : List ℕ} {fault : FaultKind} → IsBrokenArgument front back fault → ArgumentBreaks (front ++ back) fault (length back)
argument-breaks (broken.paren text) = record { why = BadChar; fault_is = refl; reads = paren-refused text }
argument-breaks (broken.bracket n text unclosed) = record { why = OpenBracket; fault_is = refl; reads = bracket-refused n text unclosed }
argument-breaks (broken.quoted {text = text} {back = back} t c) =
    let cut = cut-refused Quoted c in
    let inner = text-refused t back Ended cut.marked cut.reads in
    record { why = OpenString; fault_is = refl; reads = quoted-refused (text ++ back) Ended (At OpenString (length (34 ∷ (text ++ back)))) inner refl }
argument-breaks (broken.in_quoted {text = text} {back = back} t u) =
    let unit = unit-breaks u in
    let stop : Stop = At unit.why (length back) in
    let inner = text-refused t back stop unit.marked unit.reads in
    record { why = unit.why; fault_is = unit.fault_is; reads = quoted-refused (text ++ back) stop stop inner refl }
argument-breaks (broken.in_unquoted {text = text} {back = back} t unopened u) =
    let unit = unit-breaks u in
    let stop : Stop = At unit.why (length back) in
    let some : 0 < length (text ++ back) = omega (arith, length-append text back, unit.some) in
    let inner = text-refused t back stop unit.marked unit.reads in
    record { why = unit.why; fault_is = unit.fault_is; reads = unquoted-refused (text ++ back) stop some (marked-first t unit.marked some) (marked-opening unit.marked text unopened) inner }
argument-breaks (broken.touching byte back a touched) = record { why = BadChar; fault_is = refl; reads = touching-refused byte back a touched }

-- an unquoted argument in which the text ends
text-cut : (text : List ℕ) → (0 < length text → ends_text Unquoted (get_or text 0 0) ≡ false) → opening text ≡ None → text_from Unquoted 0 text ≡ Err Ended → arguments_from 0 text ≡ Err Ended
text-cut [] plain o read = refl
text-cut (byte ∷ rest) plain o read = unquoted-refused (byte ∷ rest) Ended (omega arith) (plain (omega arith)) o read

argument-cut : {text : List ℕ} → IsCutArgument text → arguments_from 0 text ≡ Err Ended
argument-cut (broken.unquoted {text = text} {back = back} t unopened c) =
    let cut = cut-refused Unquoted c in
    text-cut (text ++ back) (λ some. marked-first t cut.marked some) (marked-opening cut.marked text unopened) (text-refused t back Ended cut.marked cut.reads)

-- what the reader finds of arguments that it stops in; behind an argument they begin with a byte that may follow it
pub record ArgumentsHalt (behind : Bool) (text : List ℕ) (stop : Stop) : Type 0 where
  pub reads : arguments_from 0 text ≡ Err stop
  pub follows : behind ≡ true → may_follow text ≡ true

-- nothing stands in front
first-halts : (text : List ℕ) (stop : Stop) → arguments_from 0 text ≡ Err stop → ArgumentsHalt false text stop
first-halts text stop read = record { reads = read; follows = λ (no_way : false ≡ true). absurd (true≢false (sym no_way)) }

gap-passed : (front back : List ℕ) (stop : Stop) → 0 < length front → (get_or (front ++ back) 0 0 == 41) ≡ false → gap_at (front ++ back) ≡ Ok (length front) → arguments_from 0 back ≡ Err stop → arguments_from 0 (front ++ back) ≡ Err stop
gap-passed front back stop some goes gap read =
    let fits : length front ≤ length (front ++ back) = omega (arith, length-append front back) in
    arguments_from-gap (front ++ back) (length front) some fits goes gap ∙ ap (λ t. moved (length front) (arguments_from 0 t)) (drop-append_seam front back) ∙ ap (λ r. moved (length front) r) read

space-halts : {behind : Bool} {front text : List ℕ} {stop : Stop} → IsSpace front → ArgumentsHalt false text stop → ArgumentsHalt behind (front ++ text) stop
space-halts {front = front} {text = text} {stop = stop} s later =
    let first = gap-first s text in
    let goes : (get_or (front ++ text) 0 0 == 41) ≡ false = ap (λ t. get_or t 0 0 == 41) first.2 ∙ first.4 in
    record { reads = gap-passed front text stop (space-some s) goes (space-read s text) later.reads; follows = λ _. ap (λ t. may_follow t) first.2 ∙ first.3 }

feed-halts : {behind : Bool} {text : List ℕ} {stop : Stop} → ArgumentsHalt false text stop → ArgumentsHalt behind (10 ∷ text) stop
feed-halts {text = text} {stop = stop} later = record { reads = gap-passed (10 ∷ []) text stop (omega arith) refl refl later.reads; follows = λ _. refl }

line_end-halts : {behind : Bool} {front text : List ℕ} {stop : Stop} → IsLineEnd front → ArgumentsHalt false text stop → ArgumentsHalt behind (front ++ text) stop
line_end-halts grammar.feed later = feed-halts later
line_end-halts {behind} {text = text} {stop = stop} (grammar.commented (grammar.line_comment line within unopened)) later =
    let comment : List ℕ = 35 ∷ line in
    let read : arguments_from 0 (10 ∷ text) ≡ Err stop = gap-passed (10 ∷ []) text stop (omega arith) refl refl later.reads in
    subst (λ (t : List ℕ). ArgumentsHalt behind t stop) (sym (append_assoc comment (10 ∷ []) text))
    (record { reads = gap-passed comment (10 ∷ text) stop (omega arith) refl (line-comment-read (grammar.line_comment line within unopened) text) read; follows = λ _. refl })

-- the text ends behind a whole argument
ends-none : (front : List ℕ) (arg : Arg) → IsArgument front arg → (arg.kind ≡ Unquoted → ⊥) → arguments_from 0 (front ++ []) ≡ Err Ended
ends-none front arg a quoted =
    let text : List ℕ = front ++ [] in
    let read : argument_by text (opening text) ≡ Ok (arg, length front) = argument_by-read a [] (λ k. absurd (quoted k)) in
    let left : drop (length front) text ≡ [] = drop-append_seam front [] in
    let whole : argument text ≡ apart text (arg, length front) = rw read refl in
    let alone : apart text (arg, length front) ≡ Ok (arg, length front) = rw left refl in
    let front_so = front-read a [] in
    let fits : length front ≤ length text = omega (arith, length-append front []) in
    arguments_from-argument text arg (length front) (argument-some a) fits front_so.closes front_so.gap (whole ∙ alone) ∙ ap (λ t. argument_before arg (moved (length front) (arguments_from 0 t))) left

argument-ends : {front : List ℕ} {arg : Arg} → IsArgument front arg → arguments_from 0 (front ++ []) ≡ Err Ended
argument-ends {front} {arg} (grammar.bracketed b) = ends-none front arg (grammar.bracketed b) (λ (no_way : Bracket ≡ Unquoted). cc)
argument-ends {front} {arg} (grammar.quoted t) = ends-none front arg (grammar.quoted t) (λ (no_way : Quoted ≡ Unquoted). cc)
argument-ends (grammar.unquoted t some unopened) = argument-cut (broken.unquoted t unopened broken.nothing)

argument-halts : {front rest : List ℕ} {arg : Arg} {stop : Stop} → IsArgument front arg → ArgumentsHalt true rest stop → ArgumentsHalt false (front ++ rest) stop
argument-halts {front = front} {rest = []} {stop = stop} a later =
    let same : Ended ≡ stop = same_stop Ended stop (arguments_from 0 []) refl later.reads in
    let P : Stop → Type 0 = λ s. arguments_from 0 (front ++ []) ≡ Err s in
    first-halts (front ++ []) stop (subst P same (argument-ends a))
argument-halts {front = front} {rest = byte ∷ back} {arg = arg} {stop = stop} a later =
    let rest : List ℕ = byte ∷ back in
    let read : argument (front ++ rest) ≡ Ok (arg, length front) = argument-read a byte back (later.follows refl) in
    let front_so = front-read a rest in
    let fits : length front ≤ length (front ++ rest) = omega (arith, length-append front rest) in
    let halts : arguments_from 0 (front ++ rest) ≡ Err stop =
    arguments_from-argument (front ++ rest) arg (length front) (argument-some a) fits front_so.closes front_so.gap read
    ∙ ap (λ t. argument_before arg (moved (length front) (arguments_from 0 t))) (drop-append_seam front rest)
    ∙ ap (λ r. argument_before arg (moved (length front) r)) later.reads in
    first-halts (front ++ rest) stop halts

-- a gap that is refused stops the arguments
gap-refused : (byte : ℕ) (rest : List ℕ) (stop : Stop) → (byte == 41) ≡ false → gap_at (byte ∷ rest) ≡ Err stop → arguments_from 0 (byte ∷ rest) ≡ Err stop
gap-refused byte rest stop goes gap = rw (goes, gap) refl

open-halts : {behind : Bool} {text : List ℕ} → IsOpenComment text → ArgumentsHalt behind text (At OpenBracket (length text))
open-halts (broken.open_comment n text unclosed) =
    let rest : List ℕ = opens_with n ++ text in
    record { reads = gap-refused 35 rest (At OpenBracket (length (35 ∷ rest))) refl (open-comment-read (broken.open_comment n text unclosed)); follows = λ _. refl }

comment-halts : {behind : Bool} {text : List ℕ} → IsLineComment text → ArgumentsHalt behind text Ended
comment-halts {behind} (grammar.line_comment text within unopened) =
    let comment : List ℕ = 35 ∷ text in
    let gap : gap_at (comment ++ []) ≡ Ok (length comment) = ap (λ t. gap_at t) (append-nil comment) ∙ last-comment-read (grammar.line_comment text within unopened) in
    subst (λ (t : List ℕ). ArgumentsHalt behind t Ended) (append-nil comment) (record { reads = gap-passed comment [] Ended (omega arith) refl gap refl; follows = λ _. refl })

-- arguments in which the text ends
pub cut-halts : {behind : Bool} {text : List ℕ} → AreCut behind text → ArgumentsHalt behind text Ended
cut-halts broken.at_end = record { reads = refl; follows = λ _. refl }
cut-halts (broken.in_comment c) = comment-halts c
cut-halts (broken.space s later) = space-halts s (cut-halts later)
cut-halts (broken.line_end l later) = line_end-halts l (cut-halts later)
cut-halts (broken.argument a later) = argument-halts a (cut-halts later)
cut-halts (broken.in_argument {text = text} c) = first-halts text Ended (argument-cut c)

-- broken arguments stop the reader where they are broken, for the cause of the kind of fault
pub record ArgumentsBreak (behind : Bool) (front back : List ℕ) (fault : FaultKind) : Type 0 where
  pub why : Cause
  pub fault_is : fault_of why ≡ fault
  pub halts : ArgumentsHalt behind (front ++ back) (At why (length back))

break-behind : (before after : Bool) (front text back : List ℕ) (fault : FaultKind) → ((stop : Stop) → ArgumentsHalt after (text ++ back) stop → ArgumentsHalt before (front ++ (text ++ back)) stop) → ArgumentsBreak after text back fault → ArgumentsBreak before (front ++ text) back fault
break-behind before after front text back fault goes b =
    let stop : Stop = At b.why (length back) in
    record { why = b.why; fault_is = b.fault_is; halts = subst (λ (t : List ℕ). ArgumentsHalt before t stop) (sym (append_assoc front text back)) (goes stop b.halts) }

pub broken-halts : {behind : Bool} {front back : List ℕ} {fault : FaultKind} → AreBroken behind front back fault → ArgumentsBreak behind front back fault
broken-halts {behind} {fault = fault} (broken.space {front = front} {text = text} {back = back} s later) = break-behind behind false front text back fault (λ stop h. space-halts s h) (broken-halts later)
broken-halts {behind} {fault = fault} (broken.line_end {front = front} {text = text} {back = back} l later) = break-behind behind false front text back fault (λ stop h. line_end-halts l h) (broken-halts later)
broken-halts {fault = fault} (broken.argument {front = front} {text = text} {back = back} a later) = break-behind false true front text back fault (λ stop h. argument-halts a h) (broken-halts later)
broken-halts (broken.in_argument {text = text} {back = back} b) =
    let found = argument-breaks b in
    record { why = found.why; fault_is = found.fault_is; halts = first-halts (text ++ back) (At found.why (length back)) found.reads }
broken-halts (broken.in_comment c) = record { why = OpenBracket; fault_is = refl; halts = open-halts c }
