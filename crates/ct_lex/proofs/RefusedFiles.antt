-- Commands and files: where the grammar says that a text is broken, it is refused there, with that fault.
-- So the grammar says one thing of each text: its commands, and then its end or one fault.
use Rattle.std.specs.Bool.{⊤}
use Rattle.std.proofs.Common.{◌≡◌, ◌↔◌, ℕ, suc, ◌+◌, ◌-◌, ◌<◌, ◌≤◌, Bool, true, false, not, ◌&&◌, ◌==◌, nat_lt, List, [], ◌∷◌, ◌++◌, length, take, drop, get_or, Option, Some, None, Result, Ok, Err, refl, sym, ap, ◌∙◌, subst, arith, append_assoc, append-nil, length-append, length-drop, add-zero, add_comm}
use Rattle.std.proofs.lemmas.Bool.Decides.{nat_tests}
use Rattle.std.proofs.Math.Seq.{get_or-append_seam, drop-append-add, drop-append_seam}
use Rattle.std.specs.List.{prefix_len, list_all}
use Rattle.ct_lex.specs.Bracket.{gap_at}
use Rattle.ct_lex.specs.Broken as broken
use Rattle.ct_lex.specs.Broken.{FaultKind, IsOpenComment, IsBrokenCommand, IsCutCommand, IsBroken}
use Rattle.ct_lex.specs.Bytes.{stands, is_gap, is_space, is_word, begins_word, lower, feeds}
use Rattle.ct_lex.specs.Command.{CommandRead, word_len, named, command_by, command, shifted, start_from}
use Rattle.ct_lex.specs.Files.{IsBrokenFrom, IsBrokenFile, RefusesFiles, SaysFrom, HasSoleAnswer, BreaksOn}
use Rattle.ct_lex.specs.Grammar as grammar
use Rattle.ct_lex.specs.Grammar.{IsIdentifier}
use Rattle.ct_lex.specs.Place.{Place, beginning, fault_of, fault_at, call_at, next_by, next_of}
use Rattle.ct_lex.specs.Reads.{Ending, ReadsFrom, commands_read, AnswersNext}
use Rattle.ct_lex.specs.Stop.{refused}
use Rattle.ct_lex.specs.declared.call.Call.{Call}
use Rattle.ct_lex.specs.declared.fault.LexFault.{LexFault}
use Rattle.ct_lex.specs.declared.fault.LexFault.TheVariants.{OpenString, OpenBracket, OpenCall, BadEscape, BadChar, BadReference, NoMemory}
use Rattle.ct_lex.specs.declared.stop.Cause.{Cause}
use Rattle.ct_lex.specs.declared.stop.Cause.TheVariants as cause
use Rattle.ct_lex.specs.declared.stop.Stop.{Stop}
use Rattle.ct_lex.specs.declared.stop.Stop.TheVariants.{Ended, At}
use Rattle.ct_lex.proofs.FrontLemmas.{feeds-append, is-other, run-read}
use Rattle.ct_lex.proofs.OneReading.{same_call, same_place, none-only, fault-only, one_reading}
use Rattle.ct_lex.proofs.BracketLemmas.{space-read, line-comment-read}
use Rattle.ct_lex.proofs.TextLemmas.{run-whole}
use Rattle.ct_lex.proofs.ArgumentsLemmas.{space-some}
use Rattle.ct_lex.proofs.CommandLemmas.{identifier-run, word-ends, command-as, behind-both, opens-read}
use Rattle.ct_lex.proofs.RestLemmas.{start-is, stays, leaves, space-first, next-some, call-read, rest-is, rest-reads, lines-behind, shift-next, gap-start, start-name, call-reads}
use Rattle.ct_lex.proofs.BrokenFiles.{CommandStops, command-stops, start-stops, taken-front, next-breaks, breaks-is}
use Rattle.ct_lex.proofs.RefusedArguments.{open-comment-read, ArgumentsHalt, cut-halts, broken-halts}

-- what the reader finds of a command that it stops in
record CommandHalts (text : List ℕ) (stop : Stop) : Type 0 where
  pub starts : start_from false 0 text ≡ Ok (Some 0)
  pub reads : command text ≡ Err stop

word-start : (word back : List ℕ) → IsIdentifier word → start_from false 0 (word ++ back) ≡ Ok (Some 0)
word-start [] back fit = absurd fit
word-start (byte ∷ bytes) back fit = start-name byte (bytes ++ back) fit.0

inside-halts : (word spaces text : List ℕ) (stop : Stop) → IsIdentifier word → list_all is_space spaces ≡ true → ArgumentsHalt false text stop → CommandHalts (word ++ (spaces ++ 40 ∷ text)) stop
inside-halts word spaces text stop fit blank halts = record {
  starts = word-start word (spaces ++ 40 ∷ text) fit;
  reads = opens-read word spaces text fit blank ∙ ap (λ r. named (lower word) (length word + length spaces + 1) r) halts.reads;
}

name-halts : (word spaces : List ℕ) → IsIdentifier word → list_all is_space spaces ≡ true → CommandHalts (word ++ spaces) Ended
name-halts word spaces fit blank =
    let text : List ℕ = word ++ (spaces ++ []) in
    let paren : ℕ = length word + length spaces in
    let count : word_len text ≡ length word = word-ends word spaces [] fit blank (λ _. ap (λ t. word_len t) (append-nil word) ∙ identifier-run word fit) in
    let spaced : prefix_len is_space (spaces ++ []) ≡ length spaces = ap (λ t. prefix_len is_space t) (append-nil spaces) ∙ run-whole is_space spaces blank in
    let size : length text ≡ paren = omega (arith, length-append word (spaces ++ []), length-append spaces []) in
    let at_end : (paren == length text) ≡ true = grind (arith, nat_tests, size) in
    let ended : command_by text (lower word) paren ≡ Err Ended = rw at_end refl in
    record { starts = word-start word spaces fit; reads = ap (λ t. command (word ++ t)) (sym (append-nil spaces)) ∙ command-as word spaces [] count spaced ∙ ended }

no_paren-halts : (word spaces : List ℕ) (byte : ℕ) (back : List ℕ) → IsIdentifier word → list_all is_space spaces ≡ true → (byte == 40) ≡ false → is_space byte ≡ false → (spaces ≡ [] → is_word byte ≡ false) → CommandHalts (word ++ (spaces ++ byte ∷ back)) (At cause.BadChar (length (byte ∷ back)))
no_paren-halts word spaces byte back fit blank other no_space ends =
    let text : List ℕ = word ++ (spaces ++ byte ∷ back) in
    let paren : ℕ = length word + length spaces in
    let count : word_len text ≡ length word = word-ends word spaces (byte ∷ back) fit blank (λ none. run-read is_word word byte back (identifier-run word fit) (ends none)) in
    let spaced : prefix_len is_space (spaces ++ byte ∷ back) ≡ length spaces = run-read is_space spaces byte back (run-whole is_space spaces blank) no_space in
    let size : length text ≡ paren + suc (length back) = omega (arith, length-append word (spaces ++ byte ∷ back), length-append spaces (byte ∷ back)) in
    let not_end : (paren == length text) ≡ false = grind (arith, nat_tests, size) in
    let seam : get_or text paren 0 ≡ byte =
    ap (λ k. get_or text k 0) (sym (length-append word spaces)) ∙ ap (λ t. get_or t (length (word ++ spaces)) 0) (sym (append_assoc word spaces (byte ∷ back))) ∙ get_or-append_seam (word ++ spaces) byte back 0 in
    let within : nat_lt paren (length text) ≡ true = grind (arith, nat_tests, size) in
    let other_byte : stands 40 paren text ≡ false = rw (within, seam) other in
    let no_command : command_by text (lower word) paren ≡ refused cause.BadChar (drop paren text) = rw (not_end, other_byte) refl in
    let P : List ℕ → Result CommandRead Stop = λ r. refused cause.BadChar r in
    record { starts = word-start word (spaces ++ byte ∷ back) fit; reads = command-as word spaces (byte ∷ back) count spaced ∙ no_command ∙ ap P (behind-both word spaces (byte ∷ back) paren refl) }

cut-command : {text : List ℕ} → IsCutCommand text → CommandHalts text Ended
cut-command (broken.in_name word spaces fit blank) = name-halts word spaces fit blank
cut-command (broken.in_arguments {text = text} word spaces fit blank c) = inside-halts word spaces text Ended fit blank (cut-halts c)

-- a broken command stops the reader where it is broken, for the cause of its kind of fault
record CommandBreaks (front back : List ℕ) (fault : FaultKind) : Type 0 where
  pub why : Cause
  pub fault_is : fault_of why ≡ fault
  pub halts : CommandHalts (front ++ back) (At why (length back))

broken-command : {front back : List ℕ} {fault : FaultKind} → IsBrokenCommand front back fault → CommandBreaks front back fault
broken-command {back = back} (broken.in_arguments {text = text} word spaces fit blank b) =
    let found = broken-halts b in
    let stop : Stop = At found.why (length back) in
    let split : (word ++ (spaces ++ 40 ∷ text)) ++ back ≡ word ++ (spaces ++ 40 ∷ (text ++ back)) = append_assoc word (spaces ++ 40 ∷ text) back ∙ ap (λ t. word ++ t) (append_assoc spaces (40 ∷ text) back) in
    record { why = found.why; fault_is = found.fault_is; halts = subst (λ (t : List ℕ). CommandHalts t stop) (sym split) (inside-halts word spaces (text ++ back) stop fit blank found.halts) }
broken-command (broken.no_paren word spaces byte back fit blank other no_space ends) =
    let stop : Stop = At cause.BadChar (length (byte ∷ back)) in
    record { why = cause.BadChar; fault_is = refl; halts = subst (λ (t : List ℕ). CommandHalts t stop) (sym (append_assoc word spaces (byte ∷ back))) (no_paren-halts word spaces byte back fit blank other no_space ends) }

-- the place at the front of a text
abbrev place_at : Bool → ℕ → List ℕ → Place
place_at behind line text = record { rest = text; line = line; behind = behind }

abbrev fault_next : LexFault → Result (Option (Call × Place)) LexFault
fault_next fault = Err fault

-- what is refused at the first byte is refused on the line of the place
start-refused : (behind : Bool) (line : ℕ) (text : List ℕ) (why : Cause) → start_from behind 0 text ≡ Err (At why (length text)) → next_of (place_at behind line text) ≡ fault_next (fault_of why line)
start-refused behind line text why e =
    let none : length text - length text ≡ 0 = omega arith in
    ap (λ s. next_by (place_at behind line text) s) e ∙ ap (λ k. fault_next (fault_of why (line + feeds (take k text)))) none ∙ ap (λ k. fault_next (fault_of why k)) (add-zero line)

command-refused : (line : ℕ) (text : List ℕ) (stop : Stop) → CommandHalts text stop → next_of (place_at false line text) ≡ fault_next (fault_at (place_at false line text) 0 stop)
command-refused line text stop halts = ap (λ s. next_by (place_at false line text) s) halts.starts ∙ ap (λ r. call_at (place_at false line text) 0 r) halts.reads

broken-refused : (line : ℕ) {front back : List ℕ} {fault : FaultKind} → IsBrokenCommand front back fault → next_of (place_at false line (front ++ back)) ≡ fault_next (fault (line + feeds front))
broken-refused line {front} {back} {fault} b =
    let found = broken-command b in
    let taken = taken-front (front ++ back) front back (length back) refl refl in
    command-refused line (front ++ back) (At found.why (length back)) found.halts
    ∙ ap (λ t. fault_next (fault_of found.why (line + feeds t))) taken
    ∙ ap (λ (kind : FaultKind). fault_next (kind (line + feeds front))) found.fault_is

cut-refused : (line : ℕ) {text : List ℕ} → IsCutCommand text → next_of (place_at false line text) ≡ fault_next (OpenCall line)
cut-refused line {text} c = command-refused line text Ended (cut-command c) ∙ ap (λ k. fault_next (OpenCall k)) (add-zero line)

comment-refused : (behind : Bool) (line : ℕ) {text : List ℕ} → IsOpenComment text → next_of (place_at behind line text) ≡ fault_next (OpenBracket line)
comment-refused behind line {text} c = start-refused behind line text cause.OpenBracket (by_gap text (open-comment-read c))
  where
    by_gap : (text : List ℕ) → gap_at text ≡ Err (At cause.OpenBracket (length text)) → start_from behind 0 text ≡ Err (At cause.OpenBracket (length text))
    by_gap [] gap = cc
    by_gap (byte ∷ rest) gap = rw gap refl

no_word-refused : (behind : Bool) (line byte : ℕ) (text : List ℕ) → is_gap byte ≡ false → (byte == 35) ≡ false → begins_word byte ≡ false → next_of (place_at behind line (byte ∷ text)) ≡ fault_next (BadChar line)
no_word-refused behind line byte text gap hash begins = start-refused behind line (byte ∷ text) cause.BadChar (by_behind behind)
  where
    none : gap_at (byte ∷ text) ≡ Ok 0
    none = rw (gap, hash) refl

    by_behind : (test : Bool) → start_from test 0 (byte ∷ text) ≡ Err (At cause.BadChar (length (byte ∷ text)))
    by_behind true = rw none refl
    by_behind false = rw (none, begins) refl

second-refused : (line byte : ℕ) (text : List ℕ) → begins_word byte ≡ true → next_of (place_at true line (byte ∷ text)) ≡ fault_next (BadChar line)
second-refused line byte text begins =
    let start : start_from true 0 (byte ∷ text) ≡ Err (At cause.BadChar (length (byte ∷ text))) =
    rw (is-other begins_word byte 32 begins refl, is-other begins_word byte 9 begins refl, is-other begins_word byte 13 begins refl, is-other begins_word byte 10 begins refl, is-other begins_word byte 35 begins refl) refl in
    start-refused true line (byte ∷ text) cause.BadChar start

-- the reader stops inside a text
abbrev IsWithin : List ℕ → Stop → Type 0
IsWithin text Ended = ⊤
IsWithin text (At why left) = left ≤ length text

within-more : (text : List ℕ) (k : ℕ) (stop : Stop) → IsWithin (drop k text) stop → IsWithin text stop
within-more text k Ended within = tt
within-more text k (At why left) within = omega (arith, length-drop k text)

command-within : (text : List ℕ) (stop : Stop) → CommandStops text stop → IsWithin text stop
command-within text Ended stops = tt
command-within text (At why left) stops = omega (arith, ap (λ t. length t) stops.split, length-append stops.front stops.rest, stops.size)

-- a fault that is moved behind a front
fault-shift : (front back : List ℕ) (line : ℕ) (behind after : Bool) (k : ℕ) (stop : Stop) → IsWithin back stop → fault_at (place_at behind line (front ++ back)) (k + length front) stop ≡ fault_at (place_at after (line + feeds front) back) k stop
fault-shift front back line behind after k Ended within = ap (λ l. OpenCall l) (lines-behind front back line k)
fault-shift front back line behind after k (At why left) within =
    let far : length (front ++ back) - left ≡ (length back - left) + length front = omega (arith, length-append front back) in
    ap (λ j. fault_of why (line + feeds (take j (front ++ back)))) far ∙ ap (λ l. fault_of why l) (lines-behind front back line (length back - left))

-- what is refused behind a gap is refused in front of it
shift-refused : (front back : List ℕ) (line : ℕ) (behind after : Bool) (fault : LexFault) (start : Result (Option ℕ) Stop) → start_from after 0 back ≡ start → next_by (place_at after (line + feeds front) back) start ≡ fault_next fault → next_by (place_at behind line (front ++ back)) (shifted (length front) start) ≡ fault_next fault
shift-refused front back line behind after fault (Ok None) s e = cc
shift-refused front back line behind after fault (Err stop) s e =
    let found = start-stops (suc (length back)) after (line + feeds front) back stop (omega arith) s in
    let left : ℕ = length found.rest in
    let within : left ≤ length back = omega (arith, ap (λ t. length t) found.split, length-append found.front found.rest) in
    let P : Stop → Type 0 = λ w. fault_at (place_at behind line (front ++ back)) 0 w ≡ fault_at (place_at after (line + feeds front) back) 0 w in
    let same : P stop = subst P found.stop_is (fault-shift front back line behind after 0 (At found.why left) within) in
    ap (λ f. fault_next f) same ∙ e
shift-refused front back line behind after fault (Ok (Some k)) s e = by_read (command (drop k back)) refl e
  where
    after_place : Place
    after_place = place_at after (line + feeds front) back

    by_read : (read : Result CommandRead Stop) → command (drop k back) ≡ read → call_at after_place k read ≡ fault_next fault → next_by (place_at behind line (front ++ back)) (Ok (Some (k + length front))) ≡ fault_next fault
    by_read (Ok x) r f = cc
    by_read (Err stop) r f =
        let start = start-is (suc (length back)) after (line + feeds front) back (Some k) (omega arith) s in
        let first : List ℕ = start.byte ∷ start.back in
        let here : drop k back ≡ first = ap (λ j. drop j back) (sym start.size) ∙ ap (λ t. drop (length start.front) t) start.split ∙ drop-append_seam start.front first in
        let stops = command-stops start.byte start.back stop start.begins (ap (λ t. command t) (sym here) ∙ r) in
        let within : IsWithin (drop k back) stop = subst (λ (t : List ℕ). IsWithin t stop) (sym here) (command-within first stop stops) in
        let left : drop (k + length front) (front ++ back) ≡ drop k back = ap (λ j. drop j (front ++ back)) (add_comm k (length front)) ∙ drop-append-add front back k in
        ap (λ t. call_at (place_at behind line (front ++ back)) (k + length front) (command t)) left
        ∙ ap (λ x. call_at (place_at behind line (front ++ back)) (k + length front) x) r
        ∙ ap (λ x. fault_next x) (fault-shift front back line behind after k stop (within-more back k stop within))
        ∙ f

reads-shift : (p q : Place) (calls : List Call) (fault : LexFault) → ((x : Option (Call × Place)) → next_of p ≡ Ok x → next_of q ≡ Ok x) → (next_of p ≡ fault_next fault → next_of q ≡ fault_next fault) → ReadsFrom p calls (Some fault) → ReadsFrom q calls (Some fault)
reads-shift p q [] fault found refuses e = refuses e
reads-shift p q (call ∷ calls) fault found refuses read = (read.0, found (Some (call, read.0)) read.1, read.2)

gap-shift : (front back : List ℕ) (line : ℕ) (behind after : Bool) (calls : List Call) (fault : LexFault) → 0 < length front → gap_at (front ++ back) ≡ Ok (length front) → (behind && not (get_or (front ++ back) 0 0 == 10)) ≡ after →
    ReadsFrom (place_at after (line + feeds front) back) calls (Some fault) → ReadsFrom (place_at behind line (front ++ back)) calls (Some fault)
gap-shift front back line behind after calls fault some gap goes read =
    let start = start_from after 0 back in
    let step = gap-start front back behind after some gap goes in
    let place : Place = place_at behind line (front ++ back) in
    reads-shift (place_at after (line + feeds front) back) place calls fault
    (λ x e. ap (λ r. next_by place r) step ∙ shift-next front back line behind after start x e)
    (λ e. ap (λ r. next_by place r) step ∙ shift-refused front back line behind after fault start refl e) read

-- a text that is broken by the grammar is read as its commands, and then refused with its fault
pub broken-reads : {behind : Bool} {line : ℕ} {text : List ℕ} {calls : List Call} {fault : LexFault} → IsBroken behind line text calls fault → ReadsFrom (record { rest = text; line = line; behind = behind }) calls (Some fault)
broken-reads {behind} {line} (broken.space {front = front} {text = text} {calls = calls} {fault = fault} s b) =
    gap-shift front text line behind behind calls fault (space-some s) (space-read s text) (stays behind (get_or (front ++ text) 0 0 == 10) (space-first s text)) (broken-reads b)
broken-reads {behind} {line} (broken.line_end {text = text} {calls = calls} {fault = fault} grammar.feed b) =
    gap-shift (10 ∷ []) text line behind false calls fault (omega arith) refl (leaves behind (10 == 10) refl) (broken-reads b)
broken-reads {behind} {line} (broken.line_end {text = text} {calls = calls} {fault = fault} (grammar.commented (grammar.line_comment inner within unopened)) b) =
    let comment : List ℕ = 35 ∷ inner in
    let lines : (line + feeds comment) + feeds (10 ∷ []) ≡ line + feeds (comment ++ 10 ∷ []) = omega (arith, feeds-append comment (10 ∷ [])) in
    let later : ReadsFrom (place_at false ((line + feeds comment) + feeds (10 ∷ [])) text) calls (Some fault) = subst (λ (k : ℕ). ReadsFrom (place_at false k text) calls (Some fault)) (sym lines) (broken-reads b) in
    let feed_read : ReadsFrom (place_at behind (line + feeds comment) (10 ∷ text)) calls (Some fault) =
    gap-shift (10 ∷ []) text (line + feeds comment) behind false calls fault (omega arith) refl (leaves behind (10 == 10) refl) later in
    subst (λ (t : List ℕ). ReadsFrom (place_at behind line t) calls (Some fault)) (sym (append_assoc comment (10 ∷ []) text))
    (gap-shift comment (10 ∷ text) line behind behind calls fault (omega arith) (line-comment-read (grammar.line_comment inner within unopened) text) (stays behind (35 == 10) refl) feed_read)
broken-reads {line = line} (broken.command {front = front} {text = text} {name = name} {args = args} c b) =
    (record { rest = text; line = line + feeds front; behind = true }, call-reads front text name args line c, broken-reads b)
broken-reads {behind} {line} (broken.in_comment c) = comment-refused behind line c
broken-reads {behind} {line} (broken.no_word byte text gap hash begins) = no_word-refused behind line byte text gap hash begins
broken-reads {line = line} (broken.second_word byte text begins) = second-refused line byte text begins
broken-reads {line = line} (broken.in_command b) = broken-refused line b
broken-reads {line = line} (broken.cut c) = cut-refused line c

-- a file is refused with a fault exactly where the grammar has that fault
pub refuses_files : (text : List ℕ) → RefusesFiles text
refuses_files text calls fault = (breaks-is calls (beginning text) fault, λ (b : IsBrokenFile text calls fault). broken-reads b)

says-is : (place : Place) (calls : List Call) (ending : Ending) → ReadsFrom place calls ending → SaysFrom place calls ending
says-is place calls None read = rest-is calls place read
says-is place calls (Some fault) read = breaks-is calls place fault read

says-reads : (place : Place) (calls : List Call) (ending : Ending) → SaysFrom place calls ending → ReadsFrom place calls ending
says-reads place calls None said = rest-reads said
says-reads place calls (Some fault) said = broken-reads said

-- the grammar says one thing of the text from a place on: what is read there
pub sole_answer : (place : Place) → HasSoleAnswer place
sole_answer place =
    let one = one_reading place in
    record { said = says-is place (commands_read place).0 (commands_read place).1 one.read; sole = λ calls ending said. one.only calls ending (says-reads place calls ending said) }

-- what `next` answers, in terms of the grammar of what is broken; first: a refusal
same_fault : (a b : LexFault) → Some a ≡ Some b → a ≡ b
same_fault a b e = cc

refused-only : (old : Place) (fault : LexFault) → next_of old ≡ Err fault → (calls : List Call) (other : LexFault) → IsBrokenFrom old calls other ↔ ((calls ≡ []) × (other ≡ fault))
refused-only old fault e calls other = (
  λ (b : IsBrokenFrom old calls other).
      let read : ReadsFrom old calls (Some other) = broken-reads b in
      let only = fault-only old fault e calls (Some other) read in
      (only.0, same_fault other fault only.1),
  λ (only : (calls ≡ []) × (other ≡ fault)).
      let none : IsBrokenFrom old [] fault = next-breaks old fault e in
      subst (λ (cs : List Call). IsBrokenFrom old cs other) (sym only.0) (subst (λ (f : LexFault). IsBrokenFrom old [] f) (sym only.1) none),
)

behind-call : (old new : Place) (call : Call) → next_of old ≡ Ok (Some (call, new)) → (fault : LexFault) (calls : List Call) → ReadsFrom old calls (Some fault) → (more : List Call) × (calls ≡ call ∷ more) × IsBrokenFrom new more fault
behind-call old new call e fault [] read = cc
behind-call old new call e fault (found ∷ more) read =
    let same : found ≡ call = same_call (next_of old) found call read.0 new read.1 e in
    let there : read.0 ≡ new = same_place (next_of old) found call read.0 new read.1 e in
    let later : ReadsFrom new more (Some fault) = subst (λ (p : Place). ReadsFrom p more (Some fault)) there read.2 in
    (more, ap (λ c. c ∷ more) same, breaks-is more new fault later)

ends-whole : (old : Place) → next_of old ≡ Ok None → (calls : List Call) (fault : LexFault) → IsBrokenFrom old calls fault → ⊥
ends-whole old e calls fault b =
    let read : ReadsFrom old calls (Some fault) = broken-reads b in
    let only = (none-only old e calls (Some fault) read).1 in
    cc

pub breaks_on : (old new : Place) (answer : Result (Option Call) LexFault) → AnswersNext old answer new → BreaksOn old answer new
breaks_on old new (Ok (Some call)) e = λ calls fault. (
  λ (b : IsBrokenFrom old calls fault). behind-call old new call e fault calls (broken-reads b),
  λ (found : (more : List Call) × (calls ≡ call ∷ more) × IsBrokenFrom new more fault).
      subst (λ (cs : List Call). IsBrokenFrom old cs fault) (sym found.1) ((call-read old call new (next-some old call new e)).breaks found.0 fault found.2),
)
breaks_on old new (Ok None) e = ends-whole old e.0
breaks_on old new (Err NoMemory) e = tt
breaks_on old new (Err (OpenString line)) e = refused-only old (OpenString line) e.0
breaks_on old new (Err (OpenBracket line)) e = refused-only old (OpenBracket line) e.0
breaks_on old new (Err (OpenCall line)) e = refused-only old (OpenCall line) e.0
breaks_on old new (Err (BadEscape line)) e = refused-only old (BadEscape line) e.0
breaks_on old new (Err (BadChar line)) e = refused-only old (BadChar line) e.0
breaks_on old new (Err (BadReference line)) e = refused-only old (BadReference line) e.0
