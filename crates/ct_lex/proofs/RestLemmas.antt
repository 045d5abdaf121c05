-- Whole files: the reader finds exactly the commands that the grammar writes.
use Rattle.std.proofs.Common.{◌≡◌, ℕ, zero, suc, ◌+◌, ◌<◌, ◌≤◌, Bool, true, false, cond, not, ◌&&◌, ◌==◌, List, [], ◌∷◌, ◌++◌, length, take, drop, get_or, Option, Some, None, option_map, Result, Ok, Err, refl, sym, ap, ◌∙◌, subst, arith, append_assoc, append-nil, length-append, add-zero, add_comm}
use Rattle.std.proofs.lemmas.Bool.Decides.{nat_tests}
use Rattle.std.proofs.lemmas.Bool.{true≢false}
use Rattle.std.proofs.lemmas.List.{take_at}
use Rattle.std.proofs.Math.Seq.{drop-append-add, take-append-add, drop-append_seam}
use Rattle.ct_lex.specs.Bytes.{is_blank, begins_word, feeds}
use Rattle.ct_lex.specs.Stop.{refused}
use Rattle.ct_lex.specs.Bracket.{gap_at}
use Rattle.ct_lex.specs.Broken as broken
use Rattle.ct_lex.specs.Broken.{IsBroken}
use Rattle.ct_lex.specs.Command.{CommandRead, command, shifted, start_from}
use Rattle.ct_lex.specs.Place.{Place, beginning, line_behind, behind_command, call_at, next_by, next_of}
use Rattle.ct_lex.specs.Reads.{ReadsFrom, AnswersNext}
use Rattle.ct_lex.specs.Grammar as grammar
use Rattle.ct_lex.specs.Grammar.{IsSpace, IsLineComment, IsLineEnd, IsIdentifier, IsArguments, IsCommand, IsRest}
use Rattle.ct_lex.specs.Files.{IsRestFrom, IsFile, IsBrokenFrom, ReadsFiles, WritesOn}
use Rattle.ct_lex.specs.declared.call.Arg.{Arg}
use Rattle.ct_lex.specs.declared.call.Call.{Call}
use Rattle.ct_lex.specs.declared.fault.LexFault.{LexFault}
use Rattle.ct_lex.specs.declared.stop.Stop.{Stop}
use Rattle.ct_lex.specs.declared.fault.LexFault.TheVariants.{OpenString, OpenBracket, OpenCall, BadEscape, BadChar, BadReference, NoMemory}
use Rattle.ct_lex.specs.declared.stop.Cause.TheVariants as cause
use Rattle.ct_lex.proofs.StepLemmas.{start_from-step}
use Rattle.ct_lex.proofs.OneReading.{same_place}
use Rattle.ct_lex.proofs.FrontLemmas.{behind-front, feeds-append, is-other}
use Rattle.ct_lex.proofs.BracketLemmas.{IsGapAt, no_gap, space, feed, line_comment, last_comment, gap-is, space-read, line-comment-read, last-comment-read}
use Rattle.ct_lex.proofs.CommandLemmas.{command-is, command-read}
use Rattle.ct_lex.proofs.ArgumentsLemmas.{space-some}

-- the gaps in front of the next command, by the grammar:
-- they may stand in front of any commands from there on
pub record StartRead (behind : Bool) (line : ℕ) (text : List ℕ) (n : ℕ) : Type 0 where
  pub front : List ℕ
  pub byte : ℕ
  pub back : List ℕ
  pub split : text ≡ front ++ byte ∷ back
  pub size : length front ≡ n
  pub begins : begins_word byte ≡ true
  pub goes : (calls : List Call) → IsRest false (line + feeds front) (byte ∷ back) calls → IsRest behind line text calls
  pub breaks : (calls : List Call) (fault : LexFault) → IsBroken false (line + feeds front) (byte ∷ back) calls fault → IsBroken behind line text calls fault

abbrev pub StartSays : Bool → ℕ → List ℕ → Option ℕ → Type 0
StartSays behind line text None = IsRest behind line text []
StartSays behind line text (Some n) = StartRead behind line text n

rest_at : {behind : Bool} {text : List ℕ} {calls : List Call} (m n : ℕ) → m ≡ n → IsRest behind m text calls → IsRest behind n text calls
rest_at {behind} {text} {calls} m n e r = subst (λ (k : ℕ). IsRest behind k text calls) e r

pub broken_at : {behind : Bool} {text : List ℕ} {calls : List Call} {fault : LexFault} (m n : ℕ) → m ≡ n → IsBroken behind m text calls fault → IsBroken behind n text calls fault
broken_at {behind} {text} {calls} {fault} m n e b = subst (λ (k : ℕ). IsBroken behind k text calls fault) e b

-- more text in front of what was read
before : (behind after : Bool) (line : ℕ) (front back : List ℕ) (found : Option ℕ) → ((calls : List Call) → IsRest after (line + feeds front) back calls → IsRest behind line (front ++ back) calls) →
    ((calls : List Call) (fault : LexFault) → IsBroken after (line + feeds front) back calls fault → IsBroken behind line (front ++ back) calls fault) → StartSays after (line + feeds front) back found →
    StartSays behind line (front ++ back) (option_map (λ k. k + length front) found)
before behind after line front back None goes breaks read = goes [] read
before behind after line front back (Some k) goes breaks read =
    let sums : length (front ++ read.front) ≡ length front + length read.front = length-append front read.front in
    let lines : line + feeds (front ++ read.front) ≡ (line + feeds front) + feeds read.front = omega (arith, feeds-append front read.front) in
    record {
      front = front ++ read.front;
      byte = read.byte;
      back = read.back;
      split = behind-front front back read.front (read.byte ∷ read.back) read.split;
      size = omega (arith, read.size, sums);
      begins = read.begins;
      goes = λ calls r. goes calls (read.goes calls (rest_at (line + feeds (front ++ read.front)) ((line + feeds front) + feeds read.front) lines r));
      breaks = λ calls fault b. breaks calls fault (read.breaks calls fault (broken_at (line + feeds (front ++ read.front)) ((line + feeds front) + feeds read.front) lines b));
    }

shifted-ok : (n : ℕ) (read : Result (Option ℕ) Stop) (found : Option ℕ) → shifted n read ≡ Ok found → (inner : Option ℕ) × (read ≡ Ok inner) × (option_map (λ k. k + n) inner ≡ found)
shifted-ok n (Err stop) found e = cc
shifted-ok n (Ok inner) found e = (inner, refl, cc)

pub space-first : {front : List ℕ} → IsSpace front → (back : List ℕ) → (get_or (front ++ back) 0 0 == 10) ≡ false
space-first (grammar.blank byte b) back = by_test (byte == 10) refl
  where
    by_test : (test : Bool) → (byte == 10) ≡ test → (byte == 10) ≡ false
    by_test false e = e
    by_test true e = let same : byte ≡ 10 = grind (arith, nat_tests) in let never : is_blank byte ≡ false = ap (λ b. is_blank b) same in absurd (true≢false (sym b ∙ never))
space-first (grammar.bracket_comment b) back = refl

pub stays : (behind first : Bool) → first ≡ false → (behind && not first) ≡ behind
stays true first e = ap not e
stays false first e = refl

pub leaves : (behind first : Bool) → first ≡ true → (behind && not first) ≡ false
leaves true first e = ap not e
leaves false first e = refl

-- what is found behind a gap
start-passed : (behind after : Bool) (text : List ℕ) (n : ℕ) (found : Option ℕ) → 0 < n → n ≤ length text → gap_at text ≡ Ok n → (behind && not (get_or text 0 0 == 10)) ≡ after → start_from behind 0 text ≡ Ok found →
    (inner : Option ℕ) × (start_from after 0 (drop n text) ≡ Ok inner) × (option_map (λ k. k + n) inner ≡ found)
start-passed behind after text n found some fits gap e read =
    shifted-ok n (start_from after 0 (drop n text)) found (ap (λ b. shifted n (start_from b 0 (drop n text))) (sym e) ∙ sym (start_from-step behind text n some fits gap) ∙ read)

abbrev pub StartsShorter : List ℕ → Type 0
StartsShorter text = (behind : Bool) (line : ℕ) (rest : List ℕ) (found : Option ℕ) → length rest < length text → start_from behind 0 rest ≡ Ok found → StartSays behind line rest found

start-gap : {text : List ℕ} {n : ℕ} → IsGapAt text n → (behind : Bool) (line : ℕ) (found : Option ℕ) → 0 < n → gap_at text ≡ Ok n → start_from behind 0 text ≡ Ok found → StartsShorter text → StartSays behind line text found
start-gap (no_gap a b) behind line found some gap e again = absurd (omega arith)
start-gap (space {front = front} back s) behind line found some gap e again =
    let size : length (front ++ back) ≡ length front + length back = length-append front back in
    let passed = start-passed behind behind (front ++ back) (length front) found some (omega arith) gap (stays behind (get_or (front ++ back) 0 0 == 10) (space-first s back)) e in
    let left : start_from behind 0 back ≡ Ok passed.0 = ap (λ t. start_from behind 0 t) (sym (drop-append_seam front back)) ∙ passed.1 in
    let read = again behind (line + feeds front) back passed.0 (omega arith) left in
    subst (λ (f : Option ℕ). StartSays behind line (front ++ back) f) passed.2 (before behind behind line front back passed.0 (λ calls r. grammar.space s r) (λ calls fault b. broken.space s b) read)
start-gap (feed back) behind line found some gap e again =
    let passed = start-passed behind false (10 ∷ back) 1 found some (omega arith) gap (leaves behind (10 == 10) refl) e in
    let read = again false (line + feeds (10 ∷ [])) back passed.0 (omega arith) passed.1 in
    subst (λ (f : Option ℕ). StartSays behind line (10 ∷ back) f) passed.2 (before behind false line (10 ∷ []) back passed.0 (λ calls r. grammar.line_end grammar.feed r) (λ calls fault b. broken.line_end grammar.feed b) read)
start-gap (line_comment back (grammar.line_comment text within unopened)) behind line found some gap e again =
    let front : List ℕ = 35 ∷ text in
    let size : length (front ++ 10 ∷ back) ≡ length front + length (10 ∷ back) = length-append front (10 ∷ back) in
    let passed = start-passed behind behind (front ++ 10 ∷ back) (length front) found some (omega arith) gap (stays behind (35 == 10) refl) e in
    let left : start_from behind 0 (10 ∷ back) ≡ Ok passed.0 = ap (λ t. start_from behind 0 t) (sym (drop-append_seam front (10 ∷ back))) ∙ passed.1 in
    let later = start-passed behind false (10 ∷ back) 1 passed.0 (omega arith) (omega arith) refl (leaves behind (10 == 10) refl) left in
    let whole : List ℕ = front ++ 10 ∷ [] in
    let read = again false (line + feeds whole) back later.0 (omega arith) later.1 in
    let both = before behind false line whole back later.0 (λ calls r. grammar.line_end (grammar.commented (grammar.line_comment text within unopened)) r) (λ calls fault b. broken.line_end (grammar.commented (grammar.line_comment text within unopened)) b) read in
    let sums : length whole ≡ length front + 1 = length-append front (10 ∷ []) in
    let found_so : option_map (λ k. k + length whole) later.0 ≡ found = ap (λ n. option_map (λ k. k + n) later.0) sums ∙ twice later.0 (length front) ∙ ap (λ f. option_map (λ k. k + length front) f) later.2 ∙ passed.2 in
    subst (λ (t : List ℕ). StartSays behind line t found) (append_assoc front (10 ∷ []) back) (subst (λ (f : Option ℕ). StartSays behind line (whole ++ back) f) found_so both)
  where
    twice : (found : Option ℕ) (n : ℕ) → option_map (λ k. k + (n + 1)) found ≡ option_map (λ k. k + n) (option_map (λ k. k + 1) found)
    twice None n = refl
    twice (Some k) n = let P : ℕ → Option ℕ = λ j. Some j in let sums : k + (n + 1) ≡ (k + 1) + n = omega arith in ap P sums
start-gap (last_comment {front = front} (grammar.line_comment text within unopened)) behind line found some gap e again =
    let comment : List ℕ = 35 ∷ text in
    let passed = start-passed behind behind comment (length comment) found some (omega arith) gap (stays behind (35 == 10) refl) e in
    let none : drop (length comment) comment ≡ [] = ap (λ t. drop (length comment) t) (sym (append-nil comment)) ∙ drop-append_seam comment [] in
    let ended : Ok None ≡ Ok passed.0 = ap (λ t. start_from behind 0 t) (sym none) ∙ passed.1 in
    let no_more : None ≡ passed.0 = cc in
    let found_so : None ≡ found = ap (λ f. option_map (λ k. k + length comment) f) no_more ∙ passed.2 in
    subst (λ (f : Option ℕ). StartSays behind line comment f) found_so (grammar.in_comment (grammar.line_comment text within unopened))

pub start-is : (fuel : ℕ) (behind : Bool) (line : ℕ) (text : List ℕ) (found : Option ℕ) → length text < fuel → start_from behind 0 text ≡ Ok found → StartSays behind line text found
start-is zero behind line text found fits e = absurd (omega arith)
start-is (suc fuel) behind line [] found fits e = let none : None ≡ found = cc in subst (λ (f : Option ℕ). StartSays behind line [] f) none grammar.at_end
start-is (suc fuel) behind line (byte ∷ rest) found fits e = by_gap (gap_at (byte ∷ rest)) refl (λ b l t f less r. start-is fuel b l t f (omega arith) r)
  where
    by_word : gap_at (byte ∷ rest) ≡ Ok 0 → (is_behind test : Bool) → behind ≡ is_behind → (not is_behind && begins_word byte) ≡ test → cond test (Ok (Some 0)) (refused cause.BadChar (byte ∷ rest)) ≡ Ok found → StartSays is_behind line (byte ∷ rest) found
    by_word g is_behind false b t f = cc
    by_word g true true b t f = absurd (true≢false (sym t))
    by_word g false true b t f =
        let zero_so : Some 0 ≡ found = cc in
        let read : StartRead false line (byte ∷ rest) 0 = record { front = []; byte = byte; back = rest; split = refl; size = refl; begins = t; goes = λ calls r. rest_at (line + feeds []) line (add-zero line) r; breaks = λ calls fault b. broken_at (line + feeds []) line (add-zero line) b } in
        subst (λ (f : Option ℕ). StartSays false line (byte ∷ rest) f) zero_so read

    by_gap : (gap : Result ℕ Stop) → gap_at (byte ∷ rest) ≡ gap → StartsShorter (byte ∷ rest) → StartSays behind line (byte ∷ rest) found
    by_gap (Err stop) g again = let none : start_from behind 0 (byte ∷ rest) ≡ Err stop = rw g refl in cc
    by_gap (Ok zero) g again =
        let here : start_from behind 0 (byte ∷ rest) ≡ cond (not behind && begins_word byte) (Ok (Some 0)) (refused cause.BadChar (byte ∷ rest)) = rw g refl in
        by_word g behind (not behind && begins_word byte) refl refl (sym here ∙ e)
    by_gap (Ok (suc k)) g again = start-gap (gap-is byte rest (suc k) g) behind line found (omega arith) g e again

-- what comes next at a place; first: where nothing comes next, no command begins
next-none : (place : Place) → next_of place ≡ Ok None → start_from place.behind 0 place.rest ≡ Ok None
next-none place e = by_start (start_from place.behind 0 place.rest) refl e
  where
    by_command : (n : ℕ) (read : Result CommandRead Stop) → call_at place n read ≡ Ok None → ⊥
    by_command n (Err stop) f = cc
    by_command n (Ok read) f = cc

    by_start : (start : Result (Option ℕ) Stop) → start_from place.behind 0 place.rest ≡ start → next_by place start ≡ Ok None → start_from place.behind 0 place.rest ≡ Ok None
    by_start (Err stop) s f = cc
    by_start (Ok None) s f = s
    by_start (Ok (Some n)) s f = absurd (by_command n (command (drop n place.rest)) f)

pub record NextRead (place : Place) (call : Call) (after : Place) : Type 0 where
  pub front : ℕ
  pub name : List ℕ
  pub args : List Arg
  pub size : ℕ
  pub start : start_from place.behind 0 place.rest ≡ Ok (Some front)
  pub read : command (drop front place.rest) ≡ Ok (name, args, size)
  pub call_is : record { name = name; args = args; line = line_behind place front } ≡ call
  pub after_is : behind_command place (front + size) ≡ after

pub next-some : (place : Place) (call : Call) (after : Place) → next_of place ≡ Ok (Some (call, after)) → NextRead place call after
next-some place call after e = by_start (start_from place.behind 0 place.rest) refl e
  where
    by_command : (n : ℕ) → start_from place.behind 0 place.rest ≡ Ok (Some n) → (read : Result CommandRead Stop) → command (drop n place.rest) ≡ read → call_at place n read ≡ Ok (Some (call, after)) → NextRead place call after
    by_command n s (Err stop) r f = cc
    by_command n s (Ok x) r f =
        let left : Call × Place = (record { name = x.0; args = x.1; line = line_behind place n }, behind_command place (n + x.2)) in
        let right : Call × Place = (call, after) in
        let both : left ≡ right = cc in
        record { front = n; name = x.0; args = x.1; size = x.2; start = s; read = r; call_is = ap (λ (z : Call × Place). z.0) both; after_is = ap (λ (z : Call × Place). z.1) both }

    by_start : (start : Result (Option ℕ) Stop) → start_from place.behind 0 place.rest ≡ start → next_by place start ≡ Ok (Some (call, after)) → NextRead place call after
    by_start (Err stop) s f = cc
    by_start (Ok None) s f = cc
    by_start (Ok (Some n)) s f = by_command n s (command (drop n place.rest)) refl f

-- a command that is read, by the grammar, and what stands in front of it and behind it
pub record CallRead (place : Place) (call : Call) (after : Place) : Type 0 where
  pub goes : (calls : List Call) → IsRestFrom after calls → IsRestFrom place (call ∷ calls)
  pub breaks : (calls : List Call) (fault : LexFault) → IsBrokenFrom after calls fault → IsBrokenFrom place (call ∷ calls) fault

pub call-read : (place : Place) (call : Call) (after : Place) → NextRead place call after → CallRead place call after
call-read place call after next =
    let start = start-is (suc (length place.rest)) place.behind place.line place.rest (Some next.front) (omega arith) next.start in
    let rest : List ℕ = start.byte ∷ start.back in
    let n : ℕ = next.front in
    let m : ℕ = next.size in
    let left : drop n place.rest ≡ rest = ap (λ k. drop k place.rest) (sym start.size) ∙ ap (λ t. drop (length start.front) t) start.split ∙ drop-append_seam start.front rest in
    let cmd = command-is start.byte start.back next.name next.args m start.begins (ap (λ t. command t) (sym left) ∙ next.read) in
    let both : n + m ≡ length (start.front ++ cmd.front) = omega (arith, length-append start.front cmd.front, start.size, cmd.size) in
    let whole : place.rest ≡ (start.front ++ cmd.front) ++ cmd.back = start.split ∙ ap (λ t. start.front ++ t) cmd.split ∙ sym (append_assoc start.front cmd.front cmd.back) in
    let behind_it : drop (n + m) place.rest ≡ cmd.back = ap (λ k. drop k place.rest) both ∙ ap (λ t. drop (length (start.front ++ cmd.front)) t) whole ∙ drop-append_seam (start.front ++ cmd.front) cmd.back in
    let taken : take (n + m) place.rest ≡ start.front ++ cmd.front = ap (λ k. take k place.rest) both ∙ ap (λ t. take (length (start.front ++ cmd.front)) t) whole ∙ take_at (start.front ++ cmd.front) cmd.back (length (start.front ++ cmd.front)) refl in
    let first : take n place.rest ≡ start.front = ap (λ k. take k place.rest) (sym start.size) ∙ ap (λ t. take (length start.front) t) start.split ∙ take_at start.front rest (length start.front) refl in
    let line : ℕ = place.line + feeds start.front in
    let lines : place.line + feeds (take (n + m) place.rest) ≡ line + feeds cmd.front = omega (arith, ap (λ t. feeds t) taken, feeds-append start.front cmd.front) in
    let here : place.line + feeds (take n place.rest) ≡ line = ap (λ t. place.line + feeds t) first in
    let C : ℕ → Call = λ k. record { name = next.name; args = next.args; line = k } in
    let is_call : C line ≡ call = ap C (sym here) ∙ next.call_is in
    record {
      goes = λ calls later.
          let at_end : IsRestFrom (behind_command place (n + m)) calls = subst (λ (p : Place). IsRestFrom p calls) (sym next.after_is) later in
          let rest_of : IsRest true (line + feeds cmd.front) cmd.back calls =
          subst (λ (t : List ℕ). IsRest true (line + feeds cmd.front) t calls) behind_it (rest_at (place.line + feeds (take (n + m) place.rest)) (line + feeds cmd.front) lines at_end) in
          let written : IsRest false line (cmd.front ++ cmd.back) (C line ∷ calls) = grammar.command cmd.written rest_of in
          start.goes (call ∷ calls) (subst (λ (t : List ℕ). IsRest false line t (call ∷ calls)) (sym cmd.split) (subst (λ (k : Call). IsRest false line (cmd.front ++ cmd.back) (k ∷ calls)) is_call written));
      breaks = λ calls fault later.
          let at_end : IsBrokenFrom (behind_command place (n + m)) calls fault = subst (λ (p : Place). IsBrokenFrom p calls fault) (sym next.after_is) later in
          let rest_of : IsBroken true (line + feeds cmd.front) cmd.back calls fault =
          subst (λ (t : List ℕ). IsBroken true (line + feeds cmd.front) t calls fault) behind_it (broken_at (place.line + feeds (take (n + m) place.rest)) (line + feeds cmd.front) lines at_end) in
          let written : IsBroken false line (cmd.front ++ cmd.back) (C line ∷ calls) fault = broken.command cmd.written rest_of in
          start.breaks (call ∷ calls) fault (subst (λ (t : List ℕ). IsBroken false line t (call ∷ calls) fault) (sym cmd.split) (subst (λ (k : Call). IsBroken false line (cmd.front ++ cmd.back) (k ∷ calls) fault) is_call written));
    }

-- a command that is read stands, by the grammar, in front of the commands behind it
pub call-is : (place : Place) (call : Call) (after : Place) (calls : List Call) → NextRead place call after → IsRestFrom after calls → IsRestFrom place (call ∷ calls)
call-is place call after calls next later = (call-read place call after next).goes calls later

pub rest-is : (calls : List Call) (place : Place) → ReadsFrom place calls None → IsRestFrom place calls
rest-is [] place e = start-is (suc (length place.rest)) place.behind place.line place.rest None (omega arith) (next-none place e)
rest-is (call ∷ calls) place read = call-is place call read.0 calls (next-some place call read.0 read.1) (rest-is calls read.0 read.2)

-- the line of a place that is moved behind a front
pub lines-behind : (front back : List ℕ) (line m : ℕ) → line + feeds (take (m + length front) (front ++ back)) ≡ (line + feeds front) + feeds (take m back)
lines-behind front back line m =
    let taken : take (m + length front) (front ++ back) ≡ front ++ take m back = ap (λ j. take j (front ++ back)) (add_comm m (length front)) ∙ take-append-add front back m in
    ap (λ t. line + feeds t) taken ∙ omega (arith, feeds-append front (take m back))

-- what is written is read; first: a call that is moved behind a front
shift-call : (front back : List ℕ) (line : ℕ) (behind after : Bool) (k : ℕ) (read : Result CommandRead Stop) (x : Option (Call × Place)) → call_at (record { rest = back; line = line + feeds front; behind = after }) k read ≡ Ok x →
    call_at (record { rest = front ++ back; line = line; behind = behind }) (k + length front) read ≡ Ok x
shift-call front back line behind after k (Err stop) x e = cc
shift-call front back line behind after k (Ok read) x e =
    let n : ℕ = length front in
    let left : (m : ℕ) → drop (m + n) (front ++ back) ≡ drop m back = λ m. ap (λ j. drop j (front ++ back)) (add_comm m n) ∙ drop-append-add front back m in
    let lines : (m : ℕ) → line + feeds (take (m + n) (front ++ back)) ≡ (line + feeds front) + feeds (take m back) = λ m. lines-behind front back line m in
    let sums : (k + n) + read.2 ≡ (k + read.2) + n = omega arith in
    let A : ℕ → ℕ → List ℕ → Result (Option (Call × Place)) LexFault = λ here there rest. Ok (Some (record { name = read.0; args = read.1; line = here }, record { rest = rest; line = there; behind = true })) in
    let there : line + feeds (take ((k + n) + read.2) (front ++ back)) ≡ (line + feeds front) + feeds (take (k + read.2) back) = ap (λ j. line + feeds (take j (front ++ back))) sums ∙ lines (k + read.2) in
    let rest : drop ((k + n) + read.2) (front ++ back) ≡ drop (k + read.2) back = ap (λ j. drop j (front ++ back)) sums ∙ left (k + read.2) in
    ap (λ h. A h (line + feeds (take ((k + n) + read.2) (front ++ back))) (drop ((k + n) + read.2) (front ++ back))) (lines k)
    ∙ ap (λ t. A ((line + feeds front) + feeds (take k back)) t (drop ((k + n) + read.2) (front ++ back))) there
    ∙ ap (λ r. A ((line + feeds front) + feeds (take k back)) ((line + feeds front) + feeds (take (k + read.2) back)) r) rest
    ∙ e

pub shift-next : (front back : List ℕ) (line : ℕ) (behind after : Bool) (start : Result (Option ℕ) Stop) (x : Option (Call × Place)) → next_by (record { rest = back; line = line + feeds front; behind = after }) start ≡ Ok x →
    next_by (record { rest = front ++ back; line = line; behind = behind }) (shifted (length front) start) ≡ Ok x
shift-next front back line behind after (Err stop) x e = cc
shift-next front back line behind after (Ok None) x e = e
shift-next front back line behind after (Ok (Some k)) x e =
    let left : drop (k + length front) (front ++ back) ≡ drop k back = ap (λ j. drop j (front ++ back)) (add_comm k (length front)) ∙ drop-append-add front back k in
    ap (λ t. call_at (record { rest = front ++ back; line = line; behind = behind }) (k + length front) (command t)) left ∙ shift-call front back line behind after k (command (drop k back)) x e

reads-shift : (p q : Place) (calls : List Call) → ((x : Option (Call × Place)) → next_of p ≡ Ok x → next_of q ≡ Ok x) → ReadsFrom p calls None → ReadsFrom q calls None
reads-shift p q [] same e = same None e
reads-shift p q (call ∷ calls) same read = (read.0, same (Some (call, read.0)) read.1, read.2)

-- behind a gap, the next command is looked for from there on
pub gap-start : (front back : List ℕ) (behind after : Bool) → 0 < length front → gap_at (front ++ back) ≡ Ok (length front) → (behind && not (get_or (front ++ back) 0 0 == 10)) ≡ after → start_from behind 0 (front ++ back) ≡ shifted (length front) (start_from after 0 back)
gap-start front back behind after some gap goes =
    let fits : length front ≤ length (front ++ back) = omega (arith, length-append front back) in
    start_from-step behind (front ++ back) (length front) some fits gap ∙ ap (λ b. shifted (length front) (start_from b 0 (drop (length front) (front ++ back)))) goes ∙ ap (λ t. shifted (length front) (start_from after 0 t)) (drop-append_seam front back)

gap-shift : (front back : List ℕ) (line : ℕ) (behind after : Bool) (calls : List Call) → 0 < length front → gap_at (front ++ back) ≡ Ok (length front) → (behind && not (get_or (front ++ back) 0 0 == 10)) ≡ after →
    ReadsFrom (record { rest = back; line = line + feeds front; behind = after }) calls None → ReadsFrom (record { rest = front ++ back; line = line; behind = behind }) calls None
gap-shift front back line behind after calls some gap goes read =
    let step = gap-start front back behind after some gap goes in
    reads-shift (record { rest = back; line = line + feeds front; behind = after }) (record { rest = front ++ back; line = line; behind = behind }) calls
    (λ x e. ap (λ r. next_by (record { rest = front ++ back; line = line; behind = behind }) r) step ∙ shift-next front back line behind after (start_from after 0 back) x e) read

-- a byte that begins a command begins no gap, so the command begins there
pub start-name : (byte : ℕ) (rest : List ℕ) → begins_word byte ≡ true → start_from false 0 (byte ∷ rest) ≡ Ok (Some 0)
start-name byte rest begins =
    rw (is-other begins_word byte 32 begins refl, is-other begins_word byte 9 begins refl, is-other begins_word byte 13 begins refl, is-other begins_word byte 10 begins refl, is-other begins_word byte 35 begins refl, begins) refl

command-front : {front name : List ℕ} {args : List Arg} → IsCommand front name args → (back : List ℕ) → start_from false 0 (front ++ back) ≡ Ok (Some 0)
command-front (grammar.command [] spaces fit blank written) back = absurd fit
command-front (grammar.command {text = text} (byte ∷ bytes) spaces fit blank written) back = start-name byte ((bytes ++ (spaces ++ 40 ∷ (text ++ 41 ∷ []))) ++ back) fit.0

pub call-reads : (front back name : List ℕ) (args : List Arg) (line : ℕ) → IsCommand front name args → next_of (record { rest = front ++ back; line = line; behind = false }) ≡ Ok (Some (record { name = name; args = args; line = line }, record { rest = back; line = line + feeds front; behind = true }))
call-reads front back name args line c =
    let place : Place = record { rest = front ++ back; line = line; behind = false } in
    let n : ℕ = length front in
    let A : ℕ → ℕ → List ℕ → Result (Option (Call × Place)) LexFault = λ here there rest. Ok (Some (record { name = name; args = args; line = here }, record { rest = rest; line = there; behind = true })) in
    let sums : 0 + n ≡ n = omega arith in
    let there : line + feeds (take (0 + n) (front ++ back)) ≡ line + feeds front = ap (λ k. line + feeds (take k (front ++ back))) sums ∙ ap (λ t. line + feeds t) (take_at front back n refl) in
    let rest : drop (0 + n) (front ++ back) ≡ back = ap (λ k. drop k (front ++ back)) sums ∙ drop-append_seam front back in
    ap (λ r. next_by place r) (command-front c back)
    ∙ ap (λ r. call_at place 0 r) (command-read c back)
    ∙ ap (λ h. A h (line + feeds (take (0 + n) (front ++ back))) (drop (0 + n) (front ++ back))) (add-zero line)
    ∙ ap (λ t. A line t (drop (0 + n) (front ++ back))) there
    ∙ ap (λ r. A line (line + feeds front) r) rest

pub rest-reads : {behind : Bool} {line : ℕ} {text : List ℕ} {calls : List Call} → IsRest behind line text calls → ReadsFrom (record { rest = text; line = line; behind = behind }) calls None
rest-reads grammar.at_end = refl
rest-reads {behind} {line} (grammar.in_comment (grammar.line_comment text within unopened)) =
    let comment : List ℕ = 35 ∷ text in
    let gap : gap_at (comment ++ []) ≡ Ok (length comment) = ap (λ t. gap_at t) (append-nil comment) ∙ last-comment-read (grammar.line_comment text within unopened) in
    subst (λ (t : List ℕ). ReadsFrom (record { rest = t; line = line; behind = behind }) [] None) (append-nil comment) (gap-shift comment [] line behind behind [] (omega arith) gap (stays behind (35 == 10) refl) refl)
rest-reads {behind} {line} (grammar.space {front = front} {text = text} {calls = calls} s r) =
    gap-shift front text line behind behind calls (space-some s) (space-read s text) (stays behind (get_or (front ++ text) 0 0 == 10) (space-first s text)) (rest-reads r)
rest-reads {behind} {line} (grammar.line_end {text = text} {calls = calls} grammar.feed r) =
    gap-shift (10 ∷ []) text line behind false calls (omega arith) refl (leaves behind (10 == 10) refl) (rest-reads r)
rest-reads {behind} {line} (grammar.line_end {text = text} {calls = calls} (grammar.commented (grammar.line_comment inner within unopened)) r) =
    let comment : List ℕ = 35 ∷ inner in
    let lines : (line + feeds comment) + feeds (10 ∷ []) ≡ line + feeds (comment ++ 10 ∷ []) = omega (arith, feeds-append comment (10 ∷ [])) in
    let later : ReadsFrom (record { rest = text; line = (line + feeds comment) + feeds (10 ∷ []); behind = false }) calls None = subst (λ (k : ℕ). ReadsFrom (record { rest = text; line = k; behind = false }) calls None) (sym lines) (rest-reads r) in
    let feed_read : ReadsFrom (record { rest = 10 ∷ text; line = line + feeds comment; behind = behind }) calls None =
    gap-shift (10 ∷ []) text (line + feeds comment) behind false calls (omega arith) refl (leaves behind (10 == 10) refl) later in
    subst (λ (t : List ℕ). ReadsFrom (record { rest = t; line = line; behind = behind }) calls None) (sym (append_assoc comment (10 ∷ []) text))
    (gap-shift comment (10 ∷ text) line behind behind calls (omega arith) (line-comment-read (grammar.line_comment inner within unopened) text) (stays behind (35 == 10) refl) feed_read)
rest-reads {line = line} (grammar.command {front = front} {text = text} {name = name} {args = args} {calls = calls} c r) =
    (record { rest = text; line = line + feeds front; behind = true }, call-reads front text name args line c, rest-reads r)

-- what is read of a file is what is written in it
pub reads_files : (text : List ℕ) → ReadsFiles text
reads_files text calls = (rest-is calls (beginning text), λ (r : IsFile text calls). rest-reads r)

-- a text that is refused is no list of commands by the grammar
refused-is : (place : Place) (fault : LexFault) → next_of place ≡ Err fault → (calls : List Call) → IsRestFrom place calls → ⊥
refused-is place fault e calls r = by_calls calls (rest-reads r)
  where
    by_calls : (all : List Call) → ReadsFrom place all None → ⊥
    by_calls [] read = cc
    by_calls (call ∷ more) read = let h = read.1 in cc

-- what `next` returns, in terms of the grammar
pub writes_on : (old new : Place) (answer : Result (Option Call) LexFault) → AnswersNext old answer new → WritesOn old answer new
writes_on old new (Ok (Some call)) e = λ calls. (
  λ (r : IsRestFrom old (call ∷ calls)).
      let read : ReadsFrom old (call ∷ calls) None = rest-reads r in
      let same : read.0 ≡ new = same_place (next_of old) call call read.0 new read.1 e in
      rest-is calls new (subst (λ (p : Place). ReadsFrom p calls None) same read.2),
  λ (r : IsRestFrom new calls). call-is old call new calls (next-some old call new e) r,
)
writes_on old new (Ok None) e = rest-is [] old e.0
writes_on old new (Err NoMemory) e = tt
writes_on old new (Err (OpenString line)) e = refused-is old (OpenString line) e.0
writes_on old new (Err (OpenBracket line)) e = refused-is old (OpenBracket line) e.0
writes_on old new (Err (OpenCall line)) e = refused-is old (OpenCall line) e.0
writes_on old new (Err (BadEscape line)) e = refused-is old (BadEscape line) e.0
writes_on old new (Err (BadChar line)) e = refused-is old (BadChar line) e.0
writes_on old new (Err (BadReference line)) e = refused-is old (BadReference line) e.0
