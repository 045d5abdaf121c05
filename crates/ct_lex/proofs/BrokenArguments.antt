-- The arguments of a command: where the reader stops, they are broken by the grammar, or the text ends in them.
use Rattle.std.proofs.Common.{◌≡◌, ℕ, zero, suc, ◌+◌, ◌<◌, ◌≤◌, Bool, true, false, cond, not, ◌||◌, ◌==◌, List, [], ◌∷◌, ◌++◌, length, drop, get_or, Option, Some, None, Result, Ok, Err, refl, sym, ap, ◌∙◌, subst, arith, append_assoc, append-nil, length-append}
use Rattle.std.proofs.lemmas.Bool.Decides.{nat_tests}
use Rattle.std.proofs.lemmas.Bool.{true≢false}
use Rattle.std.proofs.Math.Seq.{drop-append_seam}
use Rattle.ct_lex.specs.Argument.{ends_text}
use Rattle.ct_lex.specs.Bracket.{opening, closes, closing, bracket_comment, comment_by, comment, gap_at}
use Rattle.ct_lex.specs.Broken as broken
use Rattle.ct_lex.specs.Broken.{FaultKind, HasNoClosing, touches, IsBrokenArgument, IsCutArgument, IsOpenComment, AreBroken, AreCut}
use Rattle.ct_lex.specs.Bytes.{stands, is_gap}
use Rattle.ct_lex.specs.Grammar as grammar
use Rattle.ct_lex.specs.Grammar.{opens_with, closes_with, BeginsBracket, IsArgument}
use Rattle.ct_lex.specs.Place.{fault_of}
use Rattle.ct_lex.specs.Stop.{refused}
use Rattle.ct_lex.specs.Text.{moved, text_from, bracket_by, quoted_by, unquoted_by, plain_argument, argument_by, may_follow, apart, argument, argument_before, arguments_from}
use Rattle.ct_lex.specs.declared.call.Arg.{Arg}
use Rattle.ct_lex.specs.declared.call.ArgKind.{ArgKind}
use Rattle.ct_lex.specs.declared.call.ArgKind.TheVariants.{Bracket, Quoted, Unquoted}
use Rattle.ct_lex.specs.declared.call.Part.{Part}
use Rattle.ct_lex.specs.declared.stop.Cause.{Cause}
use Rattle.ct_lex.specs.declared.stop.Cause.TheVariants.{OpenString, OpenBracket, BadChar}
use Rattle.ct_lex.specs.declared.stop.Stop.{Stop}
use Rattle.ct_lex.specs.declared.stop.Stop.TheVariants.{Ended, At}
use Rattle.ct_lex.proofs.FrontLemmas.{behind-front, stands-front}
use Rattle.ct_lex.proofs.StepLemmas.{arguments_from-gap, arguments_from-argument}
use Rattle.ct_lex.proofs.BracketLemmas.{mark-length, opening-is, opening-front, closes-read, tails, IsGapAt, no_gap, space, feed, line_comment, last_comment, gap-is}
use Rattle.ct_lex.proofs.ArgumentLemmas.{bracket-behind, argument_by-is, argument-is, argument-some}
use Rattle.ct_lex.proofs.ArgumentsLemmas.{gap-none}
use Rattle.ct_lex.proofs.BrokenText.{same_stop, TextStops, text-stops}

-- a text is broken behind a front, for a cause and with so many bytes left
pub record BrokenAt (breaks : List ℕ → List ℕ → FaultKind → Type 0) (text : List ℕ) (cause : Cause) (left : ℕ) : Type 0 where
  pub front : List ℕ
  pub rest : List ℕ
  pub split : text ≡ front ++ rest
  pub size : length rest ≡ left
  pub is : breaks front rest (fault_of cause)

-- the argument at the front of a text is broken, or the text ends in it
abbrev pub ArgumentStops : List ℕ → Stop → Type 0
ArgumentStops text Ended = IsCutArgument text
ArgumentStops text (At cause left) = BrokenAt IsBrokenArgument text cause left

argument_stops_as : (text : List ℕ) (a b : Stop) → a ≡ b → ArgumentStops text a → ArgumentStops text b
argument_stops_as text a b e stops = subst (λ (s : Stop). ArgumentStops text s) e stops

-- where no closing is found there is none
unclosed-is : (n : ℕ) (text : List ℕ) → closing n text ≡ None → HasNoClosing n text
unclosed-is n [] e front back s =
    let sizes : 0 ≡ length front + length (closes_with n ++ back) = ap (λ t. length t) s ∙ length-append front (closes_with n ++ back) in
    absurd (omega (arith, sizes, length-append (closes_with n) back, mark-length 93 n))
unclosed-is n (byte ∷ rest) e front back s = by_test (closes n (byte ∷ rest)) refl (closing n rest) refl (λ c. unclosed-is n rest c)
  where
    by_front : closes n (byte ∷ rest) ≡ false → HasNoClosing n rest → (first : List ℕ) → byte ∷ rest ≡ first ++ (closes_with n ++ back) → ⊥
    by_front t again [] f = true≢false (sym (ap (λ r. closes n r) f ∙ closes-read n back) ∙ t)
    by_front t again (first ∷ more) f = again more back (tails byte first rest (more ++ (closes_with n ++ back)) f).1

    by_test : (test : Bool) → closes n (byte ∷ rest) ≡ test → (found : Option ℕ) → closing n rest ≡ found → (closing n rest ≡ None → HasNoClosing n rest) → ⊥
    by_test true t found c again = let there : closing n (byte ∷ rest) ≡ Some 0 = rw t refl in cc
    by_test false t (Some k) c again = let there : closing n (byte ∷ rest) ≡ Some (k + 1) = rw (t, c) refl in cc
    by_test false t None c again = by_front t (again c) front s

bracket-stops : (text : List ℕ) (n : ℕ) (stop : Stop) → opening text ≡ Some n → (found : Option ℕ) → closing n (drop (n + 2) text) ≡ found → bracket_by text n found ≡ Err stop → ArgumentStops text stop
bracket-stops text n stop o (Some inside) f e = cc
bracket-stops text n stop o None f e =
    let begins = opening-is text n o in
    let behind : drop (n + 2) text ≡ begins.0 = ap (λ t. drop (n + 2) t) begins.1 ∙ bracket-behind n begins.0 in
    let unclosed : HasNoClosing n begins.0 = unclosed-is n begins.0 (ap (λ t. closing n t) (sym behind) ∙ f) in
    let is : IsBrokenArgument [] text (fault_of OpenBracket) = subst (λ (t : List ℕ). IsBrokenArgument [] t (fault_of OpenBracket)) (sym begins.1) (broken.bracket n begins.0 unclosed) in
    argument_stops_as text (At OpenBracket (length text)) stop (same_stop (At OpenBracket (length text)) stop (bracket_by text n None) refl e) (record { front = []; rest = text; split = refl; size = refl; is = is })

quoted-stops : (rest : List ℕ) (stop : Stop) (read : Result (List Part × ℕ) Stop) → text_from Quoted 0 rest ≡ read → quoted_by (34 ∷ rest) read ≡ Err stop → ArgumentStops (34 ∷ rest) stop
quoted-stops rest stop (Ok x) r e = cc
quoted-stops rest stop (Err Ended) r e =
    let text = text-stops (suc (length rest)) Quoted rest Ended (omega arith) r in
    let is : IsBrokenArgument [] (34 ∷ rest) (fault_of OpenString) = subst (λ (t : List ℕ). IsBrokenArgument [] (34 ∷ t) (fault_of OpenString)) (sym text.split) (broken.quoted text.written text.stops) in
    argument_stops_as (34 ∷ rest) (At OpenString (length (34 ∷ rest))) stop (same_stop (At OpenString (length (34 ∷ rest))) stop (quoted_by (34 ∷ rest) (Err Ended)) refl e) (record { front = []; rest = 34 ∷ rest; split = refl; size = refl; is = is })
quoted-stops rest stop (Err (At cause left)) r e =
    let text = text-stops (suc (length rest)) Quoted rest (At cause left) (omega arith) r in
    argument_stops_as (34 ∷ rest) (At cause left) stop (same_stop (At cause left) stop (quoted_by (34 ∷ rest) (Err (At cause left))) refl e)
    (record { front = 34 ∷ text.front; rest = text.rest; split = ap (λ t. 34 ∷ t) text.split; size = text.stops.0; is = broken.in_quoted text.written text.stops.1 })

unquoted-text : (text : List ℕ) (stop : Stop) → opening text ≡ None → TextStops Unquoted text stop → ArgumentStops text stop
unquoted-text text Ended o t =
    let unopened : BeginsBracket t.front → ⊥ = opening-front t.front t.rest (ap (λ r. opening r) (sym t.split) ∙ o) in
    subst (λ (r : List ℕ). IsCutArgument r) (sym t.split) (broken.unquoted t.written unopened t.stops)
unquoted-text text (At cause left) o t =
    let unopened : BeginsBracket t.front → ⊥ = opening-front t.front t.rest (ap (λ r. opening r) (sym t.split) ∙ o) in
    record { front = t.front; rest = t.rest; split = t.split; size = t.stops.0; is = broken.in_unquoted t.written unopened t.stops.1 }

unquoted-stops : (text : List ℕ) (stop : Stop) → opening text ≡ None → (read : Result (List Part × ℕ) Stop) → text_from Unquoted 0 text ≡ read → unquoted_by read ≡ Err stop → ArgumentStops text stop
unquoted-stops text stop o (Ok x) r e = cc
unquoted-stops text stop o (Err other) r e =
    argument_stops_as text other stop (same_stop other stop (unquoted_by (Err other)) refl e) (unquoted-text text other o (text-stops (suc (length text)) Unquoted text other (omega arith) r))

plain-stops : (byte : ℕ) (rest : List ℕ) (stop : Stop) → opening (byte ∷ rest) ≡ None → plain_argument (byte ∷ rest) ≡ Err stop → ArgumentStops (byte ∷ rest) stop
plain-stops byte rest stop o e =
    by_paren (byte == 40) refl (ap (λ b. cond b (refused BadChar (byte ∷ rest)) (cond (stands 34 0 (byte ∷ rest)) (quoted_by (byte ∷ rest) (text_from Quoted 0 rest)) (unquoted_by (text_from Unquoted 0 (byte ∷ rest))))) (sym (stands-front 40 byte rest)) ∙ e)
  where
    by_quote : (test : Bool) → (byte == 34) ≡ test → cond test (quoted_by (byte ∷ rest) (text_from Quoted 0 rest)) (unquoted_by (text_from Unquoted 0 (byte ∷ rest))) ≡ Err stop → ArgumentStops (byte ∷ rest) stop
    by_quote true t f =
        let quote : byte ≡ 34 = grind (arith, nat_tests) in
        subst (λ (b : ℕ). ArgumentStops (b ∷ rest) stop) (sym quote) (quoted-stops rest stop (text_from Quoted 0 rest) refl (ap (λ b. quoted_by (b ∷ rest) (text_from Quoted 0 rest)) (sym quote) ∙ f))
    by_quote false t f = unquoted-stops (byte ∷ rest) stop o (text_from Unquoted 0 (byte ∷ rest)) refl f

    by_paren : (test : Bool) → (byte == 40) ≡ test → cond test (refused BadChar (byte ∷ rest)) (cond (stands 34 0 (byte ∷ rest)) (quoted_by (byte ∷ rest) (text_from Quoted 0 rest)) (unquoted_by (text_from Unquoted 0 (byte ∷ rest)))) ≡ Err stop →
        ArgumentStops (byte ∷ rest) stop
    by_paren true t f =
        let open_paren : 40 ≡ byte = grind (arith, nat_tests) in
        let is : IsBrokenArgument [] (byte ∷ rest) (fault_of BadChar) = subst (λ (b : ℕ). IsBrokenArgument [] (b ∷ rest) (fault_of BadChar)) open_paren (broken.paren rest) in
        let size : ℕ = length (byte ∷ rest) in
        argument_stops_as (byte ∷ rest) (At BadChar size) stop (same_stop (At BadChar size) stop (refused {A = Arg × ℕ} BadChar (byte ∷ rest)) refl f) (record { front = []; rest = byte ∷ rest; split = refl; size = refl; is = is })
    by_paren false t f =
        by_quote (byte == 34) refl (ap (λ b. cond b (quoted_by (byte ∷ rest) (text_from Quoted 0 rest)) (unquoted_by (text_from Unquoted 0 (byte ∷ rest)))) (sym (stands-front 34 byte rest)) ∙ f)

argument_by-stops : (byte : ℕ) (rest : List ℕ) (stop : Stop) (found : Option ℕ) → opening (byte ∷ rest) ≡ found → argument_by (byte ∷ rest) found ≡ Err stop → ArgumentStops (byte ∷ rest) stop
argument_by-stops byte rest stop None o e = plain-stops byte rest stop o e
argument_by-stops byte rest stop (Some n) o e = bracket-stops (byte ∷ rest) n stop o (closing n (drop (n + 2) (byte ∷ rest))) refl e

touch_bits : (gap left close hash quote : Bool) → (gap || close || hash) ≡ false → (gap || left || close || hash || quote) ≡ true → (left || quote) ≡ true
touch_bits true left close hash quote a b = absurd (true≢false a)
touch_bits false true close hash quote a b = refl
touch_bits false false true hash quote a b = absurd (true≢false a)
touch_bits false false false true quote a b = absurd (true≢false a)
touch_bits false false false false quote a b = b

-- a byte that may not follow an argument touches it
touch-of : (kind : ArgKind) (byte : ℕ) → (is_gap byte || byte == 41 || byte == 35) ≡ false → (kind ≡ Unquoted → ends_text Unquoted byte ≡ true) → touches kind byte ≡ true
touch-of Bracket byte e ends = ap not e
touch-of Quoted byte e ends = ap not e
touch-of Unquoted byte e ends = touch_bits (is_gap byte) (byte == 40) (byte == 41) (byte == 35) (byte == 34) e (ends refl)

argument-stops : (byte : ℕ) (rest : List ℕ) (stop : Stop) → may_follow (byte ∷ rest) ≡ false → argument (byte ∷ rest) ≡ Err stop → ArgumentStops (byte ∷ rest) stop
argument-stops byte rest stop goes e = by_read (argument_by (byte ∷ rest) (opening (byte ∷ rest))) refl
  where
    text : List ℕ
    text = byte ∷ rest

    by_back : (x : Arg × ℕ) (front back : List ℕ) → text ≡ front ++ back → drop x.1 text ≡ back → IsArgument front x.0 → ((other : ℕ) (left : List ℕ) → back ≡ other ∷ left → x.0.kind ≡ Unquoted → ends_text Unquoted other ≡ true) → may_follow back ≡ false → refused {A = Arg × ℕ} BadChar (drop x.1 text) ≡ Err stop →
        ArgumentStops text stop
    by_back x front [] split left written ends t f = absurd (true≢false t)
    by_back x front (other ∷ back) split left written ends t f =
        let size : ℕ = length (drop x.1 text) in
        let touched : touches x.0.kind other ≡ true = touch-of x.0.kind other t (ends other back refl) in
        argument_stops_as text (At BadChar size) stop (same_stop (At BadChar size) stop (refused {A = Arg × ℕ} BadChar (drop x.1 text)) refl f)
        (record { front = front; rest = other ∷ back; split = split; size = ap (λ r. length r) (sym left); is = broken.touching other back written touched })

    by_follow : (x : Arg × ℕ) → argument_by text (opening text) ≡ Ok x → (test : Bool) → may_follow (drop x.1 text) ≡ test → cond test (Ok x) (refused BadChar (drop x.1 text)) ≡ Err stop → ArgumentStops text stop
    by_follow x r true t f = cc
    by_follow x r false t f =
        let read = argument_by-is byte rest x.0 x.1 goes (opening text) refl r in
        let left : drop x.1 text ≡ read.back = ap (λ k. drop k text) (sym read.size) ∙ ap (λ t. drop (length read.front) t) read.split ∙ drop-append_seam read.front read.back in
        by_back x read.front read.back read.split left read.written read.ends (ap (λ r. may_follow r) (sym left) ∙ t) f

    by_read : (read : Result (Arg × ℕ) Stop) → argument_by text (opening text) ≡ read → ArgumentStops text stop
    by_read (Err other) r =
        let none : argument text ≡ Err other = rw r refl in
        argument_stops_as text other stop (same_stop other stop (argument text) none e) (argument_by-stops byte rest other (opening text) refl r)
    by_read (Ok x) r =
        let whole : argument text ≡ apart text x = rw r refl in
        by_follow x r (may_follow (drop x.1 text)) refl (sym whole ∙ e)

-- a comment that is not closed
comment-stops : (rest : List ℕ) (stop : Stop) → comment (35 ∷ rest) ≡ Err stop → (At OpenBracket (length (35 ∷ rest)) ≡ stop) × IsOpenComment (35 ∷ rest)
comment-stops rest stop e = by_opening (opening rest) refl e
  where
    by_closing : (k : ℕ) → opening rest ≡ Some k → (found : Option ℕ) → closing k (drop (k + 3) (35 ∷ rest)) ≡ found → bracket_comment (35 ∷ rest) k found ≡ Err stop → (At OpenBracket (length (35 ∷ rest)) ≡ stop) × IsOpenComment (35 ∷ rest)
    by_closing k o (Some inside) f g = cc
    by_closing k o None f g =
        let begins = opening-is rest k o in
        let shift : k + 3 ≡ suc (length (opens_with k)) = omega (arith, mark-length 91 k) in
        let behind : drop (k + 3) (35 ∷ rest) ≡ begins.0 = ap (λ i. drop i (35 ∷ rest)) shift ∙ ap (λ t. drop (length (opens_with k)) t) begins.1 ∙ drop-append_seam (opens_with k) begins.0 in
        let unclosed : HasNoClosing k begins.0 = unclosed-is k begins.0 (ap (λ t. closing k t) (sym behind) ∙ f) in
        (same_stop (At OpenBracket (length (35 ∷ rest))) stop (bracket_comment (35 ∷ rest) k None) refl g, subst (λ (t : List ℕ). IsOpenComment (35 ∷ t)) (sym begins.1) (broken.open_comment k begins.0 unclosed))

    by_opening : (found : Option ℕ) → opening rest ≡ found → comment_by (35 ∷ rest) found ≡ Err stop → (At OpenBracket (length (35 ∷ rest)) ≡ stop) × IsOpenComment (35 ∷ rest)
    by_opening None o f = cc
    by_opening (Some k) o f = by_closing k o (closing k (drop (k + 3) (35 ∷ rest))) refl f

pub gap-stops : (byte : ℕ) (rest : List ℕ) (stop : Stop) → gap_at (byte ∷ rest) ≡ Err stop → (At OpenBracket (length (byte ∷ rest)) ≡ stop) × IsOpenComment (byte ∷ rest)
gap-stops byte rest stop e = by_gap (is_gap byte) refl e
  where
    by_hash : (test : Bool) → (byte == 35) ≡ test → cond test (comment (byte ∷ rest)) (Ok 0) ≡ Err stop → (At OpenBracket (length (byte ∷ rest)) ≡ stop) × IsOpenComment (byte ∷ rest)
    by_hash false t f = cc
    by_hash true t f =
        let hash : byte ≡ 35 = grind (arith, nat_tests) in
        let found = comment-stops rest stop (ap (λ b. comment (b ∷ rest)) (sym hash) ∙ f) in
        (found.0, subst (λ (b : ℕ). IsOpenComment (b ∷ rest)) (sym hash) found.1)

    by_gap : (test : Bool) → is_gap byte ≡ test → cond test (Ok 1) (cond (byte == 35) (comment (byte ∷ rest)) (Ok 0)) ≡ Err stop → (At OpenBracket (length (byte ∷ rest)) ≡ stop) × IsOpenComment (byte ∷ rest)
    by_gap true t f = cc
    by_gap false t f = by_hash (byte == 35) refl f

-- the arguments at the front of a text are broken, or the text ends in them
abbrev pub ArgumentsStop : Bool → List ℕ → Stop → Type 0
ArgumentsStop behind text Ended = AreCut behind text
ArgumentsStop behind text (At cause left) = BrokenAt (AreBroken behind) text cause left

arguments_stop_as : (behind : Bool) (text : List ℕ) (a b : Stop) → a ≡ b → ArgumentsStop behind text a → ArgumentsStop behind text b
arguments_stop_as behind text a b e stops = subst (λ (s : Stop). ArgumentsStop behind text s) e stops

arguments-behind : (before after : Bool) (front text : List ℕ) (stop : Stop) → (AreCut after text → AreCut before (front ++ text)) → ((first rest : List ℕ) (kind : FaultKind) → AreBroken after first rest kind → AreBroken before (front ++ first) rest kind) → ArgumentsStop after text stop →
    ArgumentsStop before (front ++ text) stop
arguments-behind before after front text Ended cut breaks s = cut s
arguments-behind before after front text (At cause left) cut breaks s =
    record { front = front ++ s.front; rest = s.rest; split = behind-front front text s.front s.rest s.split; size = s.size; is = breaks s.front s.rest (fault_of cause) s.is }

moved-err : {A : Type 0} (n : ℕ) (stop : Stop) (read : Result (A × ℕ) Stop) → moved n read ≡ Err stop → read ≡ Err stop
moved-err n stop (Ok x) e = cc
moved-err n stop (Err other) e = e

before-err : (arg : Arg) (stop : Stop) (read : Result (List Arg × ℕ) Stop) → argument_before arg read ≡ Err stop → read ≡ Err stop
before-err arg stop (Ok x) e = cc
before-err arg stop (Err other) e = e

-- what stops behind a gap
stop-passed : (text : List ℕ) (n : ℕ) (stop : Stop) → 0 < n → n ≤ length text → (get_or text 0 0 == 41) ≡ false → gap_at text ≡ Ok n → arguments_from 0 text ≡ Err stop → arguments_from 0 (drop n text) ≡ Err stop
stop-passed text n stop some fits goes gap e = moved-err n stop (arguments_from 0 (drop n text)) (sym (arguments_from-gap text n some fits goes gap) ∙ e)

abbrev StopsShorter : List ℕ → Stop → Type 0
StopsShorter text stop = (rest : List ℕ) → length rest < length text → arguments_from 0 rest ≡ Err stop → ArgumentsStop false rest stop

gap-step : {text : List ℕ} {n : ℕ} → IsGapAt text n → (behind : Bool) (stop : Stop) → 0 < n → (get_or text 0 0 == 41) ≡ false → gap_at text ≡ Ok n → arguments_from 0 text ≡ Err stop → StopsShorter text stop → ArgumentsStop behind text stop
gap-step (no_gap a b) behind stop some goes gap e again = absurd (omega arith)
gap-step (space {front = front} back s) behind stop some goes gap e again =
    let size : length (front ++ back) ≡ length front + length back = length-append front back in
    let passed = stop-passed (front ++ back) (length front) stop some (omega arith) goes gap e in
    let left : arguments_from 0 back ≡ Err stop = ap (λ t. arguments_from 0 t) (sym (drop-append_seam front back)) ∙ passed in
    arguments-behind behind false front back stop (λ (c : AreCut false back). broken.space s c) (λ first rest kind b. broken.space s b) (again back (omega arith) left)
gap-step (feed back) behind stop some goes gap e again =
    let passed = stop-passed (10 ∷ back) 1 stop some (omega arith) goes gap e in
    arguments-behind behind false (10 ∷ []) back stop (λ (c : AreCut false back). broken.line_end grammar.feed c) (λ first rest kind b. broken.line_end grammar.feed b) (again back (omega arith) passed)
gap-step (line_comment {front = front} back c) behind stop some goes gap e again =
    let size : length (front ++ 10 ∷ back) ≡ length front + length (10 ∷ back) = length-append front (10 ∷ back) in
    let passed = stop-passed (front ++ 10 ∷ back) (length front) stop some (omega arith) goes gap e in
    let left : arguments_from 0 (10 ∷ back) ≡ Err stop = ap (λ t. arguments_from 0 t) (sym (drop-append_seam front (10 ∷ back))) ∙ passed in
    let later = stop-passed (10 ∷ back) 1 stop (omega arith) (omega arith) refl refl left in
    subst (λ (t : List ℕ). ArgumentsStop behind t stop) (append_assoc front (10 ∷ []) back)
    (arguments-behind behind false (front ++ 10 ∷ []) back stop (λ (r : AreCut false back). broken.line_end (grammar.commented c) r) (λ first rest kind b. broken.line_end (grammar.commented c) b) (again back (omega arith) later))
gap-step (last_comment {front = front} c) behind stop some goes gap e again =
    let passed = stop-passed front (length front) stop some (omega arith) goes gap e in
    let none : drop (length front) front ≡ [] = ap (λ t. drop (length front) t) (sym (append-nil front)) ∙ drop-append_seam front [] in
    let ended : arguments_from 0 [] ≡ Err stop = ap (λ t. arguments_from 0 t) (sym none) ∙ passed in
    arguments_stop_as behind front Ended stop (same_stop Ended stop (arguments_from 0 []) refl ended) (broken.in_comment c)

-- a broken argument where one may begin
argument-here : (text : List ℕ) (stop : Stop) → ArgumentStops text stop → ArgumentsStop false text stop
argument-here text Ended s = broken.in_argument s
argument-here text (At cause left) s = record { front = s.front; rest = s.rest; split = s.split; size = s.size; is = broken.in_argument s.is }

pub arguments-stop : (fuel : ℕ) (behind : Bool) (text : List ℕ) (stop : Stop) → length text < fuel → (behind ≡ true → may_follow text ≡ true) → arguments_from 0 text ≡ Err stop → ArgumentsStop behind text stop
arguments-stop zero behind text stop fits follows e = absurd (omega arith)
arguments-stop (suc fuel) behind [] stop fits follows e = arguments_stop_as behind [] Ended stop (same_stop Ended stop (arguments_from 0 []) refl e) broken.at_end
arguments-stop (suc fuel) behind (byte ∷ rest) stop fits follows e =
    by_end (byte == 41) refl
    (λ back less read. arguments-stop fuel false back stop (omega arith) (λ (no_way : false ≡ true). cc) read)
    (λ back less after read. arguments-stop fuel true back stop (omega arith) (λ _. after) read)
  where
    by_argument : (byte == 41) ≡ false → is_gap byte ≡ false → (byte == 35) ≡ false → gap_at (byte ∷ rest) ≡ Ok 0 → (behind_so : Bool) → behind ≡ behind_so →
        ((back : List ℕ) → length back < suc (length rest) → may_follow back ≡ true → arguments_from 0 back ≡ Err stop → ArgumentsStop true back stop) →
        (read : Result (Arg × ℕ) Stop) → argument (byte ∷ rest) ≡ read → ArgumentsStop behind_so (byte ∷ rest) stop
    by_argument a b c g true same again read r =
        let stays : may_follow (byte ∷ rest) ≡ false = rw (b, a, c) refl in
        absurd (true≢false (sym (follows same) ∙ stays))
    by_argument a b c g false same again (Err other) r =
        let none : arguments_from 0 (byte ∷ rest) ≡ Err other = rw (a, g, r) refl in
        let stays : may_follow (byte ∷ rest) ≡ false = rw (b, a, c) refl in
        arguments_stop_as false (byte ∷ rest) other stop (same_stop other stop (arguments_from 0 (byte ∷ rest)) none e) (argument-here (byte ∷ rest) other (argument-stops byte rest other stays r))
    by_argument a b c g false same again (Ok x) r =
        let stays : may_follow (byte ∷ rest) ≡ false = rw (b, a, c) refl in
        let read = argument-is byte rest x.0 x.1 stays r in
        let some : 0 < x.1 = subst (λ (k : ℕ). 0 < k) read.size (argument-some read.written) in
        let sizes : length (byte ∷ rest) ≡ length read.front + length read.back = ap (λ t. length t) read.split ∙ length-append read.front read.back in
        let step = arguments_from-argument (byte ∷ rest) x.0 x.1 some (omega (arith, read.size)) a g r in
        let peeled = before-err x.0 stop (moved x.1 (arguments_from 0 (drop x.1 (byte ∷ rest)))) (sym step ∙ e) in
        let shift = moved-err x.1 stop (arguments_from 0 (drop x.1 (byte ∷ rest))) peeled in
        let left : drop x.1 (byte ∷ rest) ≡ read.back = ap (λ k. drop k (byte ∷ rest)) (sym read.size) ∙ ap (λ t. drop (length read.front) t) read.split ∙ drop-append_seam read.front read.back in
        let later = again read.back (omega (arith, read.size)) read.follows (ap (λ t. arguments_from 0 t) (sym left) ∙ shift) in
        subst (λ (t : List ℕ). ArgumentsStop false t stop) (sym read.split)
        (arguments-behind false true read.front read.back stop (λ (r : AreCut true read.back). broken.argument read.written r) (λ first rest kind b. broken.argument read.written b) later)

    by_gap : (byte == 41) ≡ false → StopsShorter (byte ∷ rest) stop →
        ((back : List ℕ) → length back < suc (length rest) → may_follow back ≡ true → arguments_from 0 back ≡ Err stop → ArgumentsStop true back stop) →
        (found : Result ℕ Stop) → gap_at (byte ∷ rest) ≡ found → ArgumentsStop behind (byte ∷ rest) stop
    by_gap a shorter again (Err other) g =
        let none : arguments_from 0 (byte ∷ rest) ≡ Err other = rw (a, g) refl in
        let found = gap-stops byte rest other g in
        let there : BrokenAt (AreBroken behind) (byte ∷ rest) OpenBracket (length (byte ∷ rest)) = record { front = []; rest = byte ∷ rest; split = refl; size = refl; is = broken.in_comment found.1 } in
        arguments_stop_as behind (byte ∷ rest) (At OpenBracket (length (byte ∷ rest))) stop (found.0 ∙ same_stop other stop (arguments_from 0 (byte ∷ rest)) none e) there
    by_gap a shorter again (Ok zero) g =
        let none = gap-none (gap-is byte rest 0 g) refl in
        by_argument a none.0 none.1 g behind refl again (argument (byte ∷ rest)) refl
    by_gap a shorter again (Ok (suc k)) g =
        gap-step (gap-is byte rest (suc k) g) behind stop (omega arith) a g e shorter

    by_end : (test : Bool) → (byte == 41) ≡ test → StopsShorter (byte ∷ rest) stop →
        ((back : List ℕ) → length back < suc (length rest) → may_follow back ≡ true → arguments_from 0 back ≡ Err stop → ArgumentsStop true back stop) → ArgumentsStop behind (byte ∷ rest) stop
    by_end true t shorter again =
        let none : arguments_from 0 (byte ∷ rest) ≡ Ok ([], 1) = rw t refl in cc
    by_end false t shorter again = by_gap t shorter again (gap_at (byte ∷ rest)) refl
