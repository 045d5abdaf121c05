-- Commands and files: where the reader refuses a text, the text is broken by the grammar, with the same fault.
use Rattle.std.proofs.Common.{◌≡◌, ℕ, zero, suc, ◌+◌, ◌-◌, ◌<◌, ◌≤◌, Bool, true, false, cond, not, ◌&&◌, ◌==◌, nat_lt, List, [], ◌∷◌, ◌++◌, length, take, drop, get_or, Option, Some, None, Result, Ok, Err, refl, sym, ap, ◌∙◌, subst, arith, append_assoc, append-nil, length-append, add-zero}
use Rattle.std.proofs.lemmas.Bool.Decides.{nat_tests}
use Rattle.std.proofs.lemmas.Bool.{true≢false}
use Rattle.std.proofs.lemmas.List.{take_at}
use Rattle.std.proofs.Math.Seq.{get_or-append_seam, drop-append_seam}
use Rattle.std.specs.List.{prefix_len, list_all}
use Rattle.ct_lex.specs.Bracket.{gap_at}
use Rattle.ct_lex.specs.Broken as broken
use Rattle.ct_lex.specs.Broken.{IsBrokenCommand, IsCutCommand, IsBroken}
use Rattle.ct_lex.specs.Bytes.{stands, is_space, is_word, begins_word, lower, feeds}
use Rattle.ct_lex.specs.Command.{CommandRead, word_len, named, command_by, command, shifted, start_from}
use Rattle.ct_lex.specs.Files.{IsBrokenFrom}
use Rattle.ct_lex.specs.Grammar as grammar
use Rattle.ct_lex.specs.Grammar.{IsIdentifier}
use Rattle.ct_lex.specs.Place.{Place, fault_of, fault_at, call_at, next_by, next_of}
use Rattle.ct_lex.specs.Reads.{ReadsFrom}
use Rattle.ct_lex.specs.Stop.{refused}
use Rattle.ct_lex.specs.Text.{arguments_from}
use Rattle.ct_lex.specs.declared.call.Arg.{Arg}
use Rattle.ct_lex.specs.declared.call.Call.{Call}
use Rattle.ct_lex.specs.declared.fault.LexFault.{LexFault}
use Rattle.ct_lex.specs.declared.fault.LexFault.TheVariants.{OpenCall}
use Rattle.ct_lex.specs.declared.stop.Cause.{Cause}
use Rattle.ct_lex.specs.declared.stop.Cause.TheVariants as cause
use Rattle.ct_lex.specs.declared.stop.Stop.{Stop}
use Rattle.ct_lex.specs.declared.stop.Stop.TheVariants.{Ended, At}
use Rattle.ct_lex.proofs.FrontLemmas.{behind-front, stands-at, feeds-append}
use Rattle.ct_lex.proofs.StepLemmas.{start_from-step}
use Rattle.ct_lex.proofs.BracketLemmas.{IsGapAt, no_gap, space, feed, line_comment, last_comment, gap-is}
use Rattle.ct_lex.proofs.TextLemmas.{run-of}
use Rattle.ct_lex.proofs.ArgumentsLemmas.{gap-none}
use Rattle.ct_lex.proofs.CommandLemmas.{word-of-begins, command-as, behind-both}
use Rattle.ct_lex.proofs.RestLemmas.{start-is, stays, leaves, space-first, next-some, call-read}
use Rattle.ct_lex.proofs.BrokenText.{same_stop, run-ends}
use Rattle.ct_lex.proofs.BrokenArguments.{BrokenAt, gap-stops, arguments-stop, ArgumentsStop}

-- the command at the front of a text is broken, or the text ends in it
abbrev pub CommandStops : List ℕ → Stop → Type 0
CommandStops text Ended = IsCutCommand text
CommandStops text (At cause left) = BrokenAt IsBrokenCommand text cause left

command_stops_as : (text : List ℕ) (a b : Stop) → a ≡ b → CommandStops text a → CommandStops text b
command_stops_as text a b e stops = subst (λ (s : Stop). CommandStops text s) e stops

named-err : (name : List ℕ) (n : ℕ) (stop : Stop) (read : Result (List Arg × ℕ) Stop) → named name n read ≡ Err stop → read ≡ Err stop
named-err name n stop (Ok x) e = cc
named-err name n stop (Err other) e = let P : Stop → Result (List Arg × ℕ) Stop = λ s. Err s in ap P (same_stop other stop (named name n (Err other)) refl e)

inside-stops : (word spaces inner : List ℕ) (stop : Stop) → IsIdentifier word → list_all is_space spaces ≡ true → ArgumentsStop false inner stop → CommandStops (word ++ (spaces ++ 40 ∷ inner)) stop
inside-stops word spaces inner Ended fit blank s = broken.in_arguments word spaces fit blank s
inside-stops word spaces inner (At cause left) fit blank s = record {
  front = word ++ (spaces ++ 40 ∷ s.front);
  rest = s.rest;
  split = ap (λ t. word ++ (spaces ++ 40 ∷ t)) s.split ∙ ap (λ t. word ++ t) (sym (append_assoc spaces (40 ∷ s.front) s.rest)) ∙ sym (append_assoc word (spaces ++ 40 ∷ s.front) s.rest);
  size = s.size;
  is = broken.in_arguments word spaces fit blank s.is;
}

opens-stops : (word spaces back : List ℕ) (stop : Stop) → IsIdentifier word → list_all is_space spaces ≡ true → ((byte : ℕ) (inner : List ℕ) → back ≡ byte ∷ inner → (is_space byte ≡ false) × (spaces ≡ [] → is_word byte ≡ false)) →
    command_by (word ++ (spaces ++ back)) (lower word) (length word + length spaces) ≡ Err stop → CommandStops (word ++ (spaces ++ back)) stop
opens-stops word spaces [] stop fit blank ends e =
    let text : List ℕ = word ++ (spaces ++ []) in
    let size : length text ≡ length word + length spaces = omega (arith, length-append word (spaces ++ []), length-append spaces []) in
    let at_end : (length word + length spaces == length text) ≡ true = grind (arith, nat_tests, size) in
    let ended : command_by text (lower word) (length word + length spaces) ≡ Err Ended = rw at_end refl in
    let cut : IsCutCommand text = subst (λ (t : List ℕ). IsCutCommand (word ++ t)) (sym (append-nil spaces)) (broken.in_name word spaces fit blank) in
    command_stops_as text Ended stop (same_stop Ended stop (command_by text (lower word) (length word + length spaces)) ended e) cut
opens-stops word spaces (byte ∷ inner) stop fit blank ends e = by_paren (byte == 40) refl
  where
    text : List ℕ
    text = word ++ (spaces ++ byte ∷ inner)

    paren : ℕ
    paren = length word + length spaces

    size : length text ≡ paren + suc (length inner)
    size = omega (arith, length-append word (spaces ++ byte ∷ inner), length-append spaces (byte ∷ inner))

    not_end : (paren == length text) ≡ false
    not_end = grind (arith, nat_tests, size)

    seam : get_or text paren 0 ≡ byte
    seam = ap (λ k. get_or text k 0) (sym (length-append word spaces)) ∙ ap (λ t. get_or t (length (word ++ spaces)) 0) (sym (append_assoc word spaces (byte ∷ inner))) ∙ get_or-append_seam (word ++ spaces) byte inner 0

    by_paren : (test : Bool) → (byte == 40) ≡ test → CommandStops text stop
    by_paren false t =
        let within : nat_lt paren (length text) ≡ true = grind (arith, nat_tests, size) in
        let other_byte : stands 40 paren text ≡ false = rw (within, seam) t in
        let no_command : command_by text (lower word) paren ≡ refused cause.BadChar (drop paren text) = rw (not_end, other_byte) refl in
        let left : drop paren text ≡ byte ∷ inner = behind-both word spaces (byte ∷ inner) paren refl in
        let far : ℕ = length (drop paren text) in
        let follows = ends byte inner refl in
        command_stops_as text (At cause.BadChar far) stop (same_stop (At cause.BadChar far) stop (command_by text (lower word) paren) no_command e) (record {
          front = word ++ spaces;
          rest = byte ∷ inner;
          split = sym (append_assoc word spaces (byte ∷ inner));
          size = ap (λ r. length r) (sym left);
          is = broken.no_paren word spaces byte inner fit blank t follows.0 follows.1;
        })
    by_paren true t =
        let same : byte ≡ 40 = grind (arith, nat_tests) in
        let opens : stands 40 paren text ≡ true = stands-at 40 paren text (omega (arith, size)) (seam ∙ same) in
        let left : drop (paren + 1) text ≡ inner =
        ap (λ t. drop (paren + 1) t) (ap (λ t. word ++ t) (sym (append_assoc spaces (byte ∷ []) inner))) ∙ behind-both word (spaces ++ byte ∷ []) inner (paren + 1) (omega (arith, length-append spaces (byte ∷ []))) in
        let read : command_by text (lower word) paren ≡ named (lower word) (paren + 1) (arguments_from 0 inner) = rw (not_end, opens, left) refl in
        let none : arguments_from 0 inner ≡ Err stop = named-err (lower word) (paren + 1) stop (arguments_from 0 inner) (sym read ∙ e) in
        let stops = arguments-stop (suc (length inner)) false inner stop (omega arith) (λ (no_way : false ≡ true). absurd (true≢false (sym no_way))) none in
        subst (λ (b : ℕ). CommandStops (word ++ (spaces ++ b ∷ inner)) stop) (sym same) (inside-stops word spaces inner stop fit blank stops)

pub command-stops : (byte : ℕ) (rest : List ℕ) (stop : Stop) → begins_word byte ≡ true → command (byte ∷ rest) ≡ Err stop → CommandStops (byte ∷ rest) stop
command-stops byte rest stop begins e =
    let run = run-of is_word rest in
    let spaces = run-of is_space run.back in
    let word : List ℕ = byte ∷ run.run in
    let split : byte ∷ rest ≡ word ++ (spaces.run ++ spaces.back) = ap (λ t. byte ∷ t) (run.split ∙ ap (λ t. run.run ++ t) spaces.split) in
    let count : word_len (byte ∷ rest) ≡ length word = rw (word-of-begins byte begins) (omega (arith, run.size)) in
    let blank : prefix_len is_space (spaces.run ++ spaces.back) ≡ length spaces.run = ap (λ t. prefix_len is_space t) (sym spaces.split) ∙ spaces.size in
    let read = command-as word spaces.run spaces.back (ap (λ t. word_len t) (sym split) ∙ count) blank in
    let ends : (next : ℕ) (inner : List ℕ) → spaces.back ≡ next ∷ inner → (is_space next ≡ false) × (spaces.run ≡ [] → is_word next ≡ false) = λ next inner b. (
      run-ends is_space spaces.run next inner (ap (λ t. prefix_len is_space (spaces.run ++ t)) (sym b) ∙ blank),
      λ (none : spaces.run ≡ []).
          let tail : run.back ≡ next ∷ inner = spaces.split ∙ ap (λ t. t ++ spaces.back) none ∙ b in
          run-ends is_word run.run next inner (ap (λ t. prefix_len is_word t) (sym (run.split ∙ ap (λ t. run.run ++ t) tail)) ∙ run.size),
    ) in
    subst (λ (t : List ℕ). CommandStops t stop) (sym split) (opens-stops word spaces.run spaces.back stop (begins, run.all) spaces.all ends (sym read ∙ ap (λ t. command t) (sym split) ∙ e))

-- the text from a place on is broken in front of the next command
pub record StartStops (behind : Bool) (line : ℕ) (text : List ℕ) (stop : Stop) : Type 0 where
  pub why : Cause
  pub front : List ℕ
  pub rest : List ℕ
  pub split : text ≡ front ++ rest
  pub stop_is : At why (length rest) ≡ stop
  pub is : IsBroken behind line text [] (fault_of why (line + feeds front))

start-behind : (before after : Bool) (line : ℕ) (gap text : List ℕ) (stop : Stop) → ((fault : LexFault) → IsBroken after (line + feeds gap) text [] fault → IsBroken before line (gap ++ text) [] fault) → StartStops after (line + feeds gap) text stop → StartStops before line (gap ++ text) stop
start-behind before after line gap text stop goes s =
    let lines : (line + feeds gap) + feeds s.front ≡ line + feeds (gap ++ s.front) = omega (arith, feeds-append gap s.front) in
    record {
      why = s.why;
      front = gap ++ s.front;
      rest = s.rest;
      split = behind-front gap text s.front s.rest s.split;
      stop_is = s.stop_is;
      is = subst (λ (k : ℕ). IsBroken before line (gap ++ text) [] (fault_of s.why k)) lines (goes (fault_of s.why ((line + feeds gap) + feeds s.front)) s.is);
    }

shifted-err : (n : ℕ) (stop : Stop) (read : Result (Option ℕ) Stop) → shifted n read ≡ Err stop → read ≡ Err stop
shifted-err n stop (Ok found) e = cc
shifted-err n stop (Err other) e = e

start-passed : (behind after : Bool) (text : List ℕ) (n : ℕ) (stop : Stop) → 0 < n → n ≤ length text → gap_at text ≡ Ok n → (behind && not (get_or text 0 0 == 10)) ≡ after → start_from behind 0 text ≡ Err stop → start_from after 0 (drop n text) ≡ Err stop
start-passed behind after text n stop some fits gap e read =
    shifted-err n stop (start_from after 0 (drop n text)) (ap (λ b. shifted n (start_from b 0 (drop n text))) (sym e) ∙ sym (start_from-step behind text n some fits gap) ∙ read)

abbrev StartsShorter : List ℕ → Stop → Type 0
StartsShorter text stop = (behind : Bool) (line : ℕ) (rest : List ℕ) → length rest < length text → start_from behind 0 rest ≡ Err stop → StartStops behind line rest stop

start-gap : {text : List ℕ} {n : ℕ} → IsGapAt text n → (behind : Bool) (line : ℕ) (stop : Stop) → 0 < n → gap_at text ≡ Ok n → start_from behind 0 text ≡ Err stop → StartsShorter text stop → StartStops behind line text stop
start-gap (no_gap a b) behind line stop some gap e again = absurd (omega arith)
start-gap (space {front = front} back s) behind line stop some gap e again =
    let size : length (front ++ back) ≡ length front + length back = length-append front back in
    let passed = start-passed behind behind (front ++ back) (length front) stop some (omega arith) gap (stays behind (get_or (front ++ back) 0 0 == 10) (space-first s back)) e in
    let left : start_from behind 0 back ≡ Err stop = ap (λ t. start_from behind 0 t) (sym (drop-append_seam front back)) ∙ passed in
    start-behind behind behind line front back stop (λ fault b. broken.space s b) (again behind (line + feeds front) back (omega arith) left)
start-gap (feed back) behind line stop some gap e again =
    let passed = start-passed behind false (10 ∷ back) 1 stop some (omega arith) gap (leaves behind (10 == 10) refl) e in
    start-behind behind false line (10 ∷ []) back stop (λ fault b. broken.line_end grammar.feed b) (again false (line + feeds (10 ∷ [])) back (omega arith) passed)
start-gap (line_comment back (grammar.line_comment text within unopened)) behind line stop some gap e again =
    let front : List ℕ = 35 ∷ text in
    let whole : List ℕ = front ++ 10 ∷ [] in
    let size : length (front ++ 10 ∷ back) ≡ length front + length (10 ∷ back) = length-append front (10 ∷ back) in
    let passed = start-passed behind behind (front ++ 10 ∷ back) (length front) stop some (omega arith) gap (stays behind (35 == 10) refl) e in
    let left : start_from behind 0 (10 ∷ back) ≡ Err stop = ap (λ t. start_from behind 0 t) (sym (drop-append_seam front (10 ∷ back))) ∙ passed in
    let later = start-passed behind false (10 ∷ back) 1 stop (omega arith) (omega arith) refl (leaves behind (10 == 10) refl) left in
    subst (λ (t : List ℕ). StartStops behind line t stop) (append_assoc front (10 ∷ []) back)
    (start-behind behind false line whole back stop (λ fault b. broken.line_end (grammar.commented (grammar.line_comment text within unopened)) b) (again false (line + feeds whole) back (omega arith) later))
start-gap (last_comment {front = front} (grammar.line_comment text within unopened)) behind line stop some gap e again =
    let comment : List ℕ = 35 ∷ text in
    let passed = start-passed behind behind comment (length comment) stop some (omega arith) gap (stays behind (35 == 10) refl) e in
    let none : drop (length comment) comment ≡ [] = ap (λ t. drop (length comment) t) (sym (append-nil comment)) ∙ drop-append_seam comment [] in
    let ended : Ok None ≡ Err stop = ap (λ t. start_from behind 0 t) (sym none) ∙ passed in
    cc

start-here : (behind : Bool) (line : ℕ) (why : Cause) (text : List ℕ) (stop : Stop) → At why (length text) ≡ stop → IsBroken behind line text [] (fault_of why line) → StartStops behind line text stop
start-here behind line why text stop e is =
    record { why = why; front = []; rest = text; split = refl; stop_is = e; is = subst (λ (k : ℕ). IsBroken behind line text [] (fault_of why k)) (sym (add-zero line)) is }

pub start-stops : (fuel : ℕ) (behind : Bool) (line : ℕ) (text : List ℕ) (stop : Stop) → length text < fuel → start_from behind 0 text ≡ Err stop → StartStops behind line text stop
start-stops zero behind line text stop fits e = absurd (omega arith)
start-stops (suc fuel) behind line [] stop fits e = cc
start-stops (suc fuel) behind line (byte ∷ rest) stop fits e = by_gap (gap_at (byte ∷ rest)) refl (λ b l t less r. start-stops fuel b l t stop (omega arith) r)
  where
    here : refused {A = Option ℕ} cause.BadChar (byte ∷ rest) ≡ Err stop → (At cause.BadChar (length (byte ∷ rest)) ≡ stop)
    here f = same_stop (At cause.BadChar (length (byte ∷ rest))) stop (refused {A = Option ℕ} cause.BadChar (byte ∷ rest)) refl f

    by_word : gap_at (byte ∷ rest) ≡ Ok 0 → (is_behind begins : Bool) → begins_word byte ≡ begins → cond {A = Result (Option ℕ) Stop} (not is_behind && begins) (Ok (Some 0)) (refused cause.BadChar (byte ∷ rest)) ≡ Err stop → StartStops is_behind line (byte ∷ rest) stop
    by_word g false true b f = cc
    by_word g true true b f = start-here true line cause.BadChar (byte ∷ rest) stop (here f) (broken.second_word byte rest b)
    by_word g is_behind false b f =
        let none = gap-none (gap-is byte rest 0 g) refl in
        start-here is_behind line cause.BadChar (byte ∷ rest) stop (here (by_test is_behind f)) (broken.no_word byte rest none.0 none.1 b)
      where
        by_test : (test : Bool) → cond {A = Result (Option ℕ) Stop} (not test && false) (Ok (Some 0)) (refused cause.BadChar (byte ∷ rest)) ≡ Err stop → refused {A = Option ℕ} cause.BadChar (byte ∷ rest) ≡ Err stop
        by_test true h = h
        by_test false h = h

    by_gap : (gap : Result ℕ Stop) → gap_at (byte ∷ rest) ≡ gap → StartsShorter (byte ∷ rest) stop → StartStops behind line (byte ∷ rest) stop
    by_gap (Err other) g again =
        let none : start_from behind 0 (byte ∷ rest) ≡ Err other = rw g refl in
        let found = gap-stops byte rest other g in
        start-here behind line cause.OpenBracket (byte ∷ rest) stop (found.0 ∙ same_stop other stop (start_from behind 0 (byte ∷ rest)) none e) (broken.in_comment found.1)
    by_gap (Ok zero) g again =
        let whole : start_from behind 0 (byte ∷ rest) ≡ cond {A = Result (Option ℕ) Stop} (not behind && begins_word byte) (Ok (Some 0)) (refused cause.BadChar (byte ∷ rest)) = rw g refl in
        by_word g behind (begins_word byte) refl (sym whole ∙ e)
    by_gap (Ok (suc k)) g again = start-gap (gap-is byte rest (suc k) g) behind line stop (omega arith) g e again

-- the bytes in front of what is left of a text
pub taken-front : (text front rest : List ℕ) (left : ℕ) → text ≡ front ++ rest → length rest ≡ left → take (length text - left) text ≡ front
taken-front text front rest left split size =
    let far : length text - left ≡ length front = omega (arith, size, ap (λ t. length t) split, length-append front rest) in
    ap (λ k. take k text) far ∙ ap (λ t. take (length front) t) split ∙ take_at front rest (length front) refl

same_fault : {A : Type 0} (a b : LexFault) (read : Result A LexFault) → read ≡ Err a → read ≡ Err b → a ≡ b
same_fault a b read e f = cc

-- a fault in a command, with its line
command-breaks : (place : Place) (line : ℕ) (front rest : List ℕ) (stop : Stop) → line ≡ place.line + feeds front → place.rest ≡ front ++ rest → CommandStops rest stop → IsBroken false line rest [] (fault_at place (length front) stop)
command-breaks place line front rest Ended lines split s =
    let first : take (length front) place.rest ≡ front = ap (λ t. take (length front) t) split ∙ take_at front rest (length front) refl in
    let here : line ≡ place.line + feeds (take (length front) place.rest) = lines ∙ ap (λ t. place.line + feeds t) (sym first) in
    let cut : IsBroken false line rest [] (OpenCall line) = broken.cut s in
    subst (λ (k : ℕ). IsBroken false line rest [] (OpenCall k)) here cut
command-breaks place line front rest (At why left) lines split s =
    let whole : place.rest ≡ (front ++ s.front) ++ s.rest = split ∙ behind-front front rest s.front s.rest s.split in
    let taken : take (length place.rest - left) place.rest ≡ front ++ s.front = taken-front place.rest (front ++ s.front) s.rest left whole s.size in
    let here : line + feeds s.front ≡ place.line + feeds (take (length place.rest - left) place.rest) = omega (arith, lines, ap (λ t. feeds t) taken, feeds-append front s.front) in
    let is : IsBroken false line (s.front ++ s.rest) [] (fault_of why (line + feeds s.front)) = broken.in_command s.is in
    subst (λ (k : ℕ). IsBroken false line rest [] (fault_of why k)) here (subst (λ (t : List ℕ). IsBroken false line t [] (fault_of why (line + feeds s.front))) (sym s.split) is)

-- a text that is refused at a place is broken there
pub next-breaks : (place : Place) (fault : LexFault) → next_of place ≡ Err fault → IsBrokenFrom place [] fault
next-breaks place fault e = by_start (start_from place.behind 0 place.rest) refl e
  where
    by_command : (n : ℕ) → start_from place.behind 0 place.rest ≡ Ok (Some n) → (read : Result CommandRead Stop) → command (drop n place.rest) ≡ read → call_at place n read ≡ Err fault → IsBrokenFrom place [] fault
    by_command n s (Ok x) r f = cc
    by_command n s (Err stop) r f =
        let start = start-is (suc (length place.rest)) place.behind place.line place.rest (Some n) (omega arith) s in
        let rest : List ℕ = start.byte ∷ start.back in
        let left : drop n place.rest ≡ rest = ap (λ k. drop k place.rest) (sym start.size) ∙ ap (λ t. drop (length start.front) t) start.split ∙ drop-append_seam start.front rest in
        let stops = command-stops start.byte start.back stop start.begins (ap (λ t. command t) (sym left) ∙ r) in
        let is = command-breaks place (place.line + feeds start.front) start.front rest stop refl start.split stops in
        let same : fault_at place (length start.front) stop ≡ fault = ap (λ k. fault_at place k stop) start.size ∙ same_fault (fault_at place n stop) fault (call_at place n (Err stop)) refl f in
        start.breaks [] fault (subst (λ (x : LexFault). IsBroken false (place.line + feeds start.front) rest [] x) same is)

    by_start : (start : Result (Option ℕ) Stop) → start_from place.behind 0 place.rest ≡ start → next_by place start ≡ Err fault → IsBrokenFrom place [] fault
    by_start (Ok None) s f = cc
    by_start (Ok (Some n)) s f = by_command n s (command (drop n place.rest)) refl f
    by_start (Err stop) s f =
        let start = start-stops (suc (length place.rest)) place.behind place.line place.rest stop (omega arith) s in
        let taken : take (length place.rest - length start.rest) place.rest ≡ start.front = taken-front place.rest start.front start.rest (length start.rest) start.split refl in
        let same : fault_of start.why (place.line + feeds start.front) ≡ fault =
        ap (λ t. fault_of start.why (place.line + feeds t)) (sym taken) ∙ ap (λ w. fault_at place 0 w) start.stop_is ∙ same_fault (fault_at place 0 stop) fault (next_by place (Err stop)) refl f in
        subst (λ (x : LexFault). IsBrokenFrom place [] x) same start.is

pub breaks-is : (calls : List Call) (place : Place) (fault : LexFault) → ReadsFrom place calls (Some fault) → IsBrokenFrom place calls fault
breaks-is [] place fault e = next-breaks place fault e
breaks-is (call ∷ calls) place fault read = (call-read place call read.0 (next-some place call read.0 read.1)).breaks calls fault (breaks-is calls read.0 fault read.2)
