-- A text has one reading: one list of calls, and then its end or one first fault.
use Rattle.std.proofs.Common.{◌≡◌, ℕ, zero, suc, ◌+◌, ◌<◌, Bool, true, false, cond, ◌==◌, List, [], ◌∷◌, length, take, drop, Option, Some, None, Result, Ok, Err, IfOk, refl, sym, ap, ◌∙◌, subst, arith, length-drop}
use Rattle.ct_lex.specs.Bytes.{stands, lower}
use Rattle.ct_lex.specs.Text.{arguments_from}
use Rattle.ct_lex.specs.Command.{CommandRead, named, word_len, command_by, command, paren_at, start_from}
use Rattle.ct_lex.specs.Place.{Place, behind_command, call_at, next_by, next_of, line_behind}
use Rattle.ct_lex.specs.Reads.{Ending, ReadsFrom, reading_by, reading_within, commands_read, HasOneReading, AnswersNext, ReadsOn}
use Rattle.ct_lex.specs.declared.call.Arg.{Arg}
use Rattle.ct_lex.specs.declared.call.Call.{Call}
use Rattle.ct_lex.specs.declared.fault.LexFault.{LexFault}
use Rattle.ct_lex.specs.declared.fault.LexFault.TheVariants.{OpenString, OpenBracket, OpenCall, BadEscape, BadChar, BadReference, NoMemory}
use Rattle.ct_lex.specs.declared.stop.Stop.{Stop}

-- the command in an answer, or the given one where the answer has none
call_in : Call → Result (Option (Call × Place)) LexFault → Call
call_in call (Ok (Some x)) = x.0
call_in call (Ok None) = call
call_in call (Err fault) = call

place_in : Place → Result (Option (Call × Place)) LexFault → Place
place_in place (Ok (Some x)) = x.1
place_in place (Ok None) = place
place_in place (Err fault) = place

pub same_call : (r : Result (Option (Call × Place)) LexFault) (a b : Call) (p q : Place) → r ≡ Ok (Some (a, p)) → r ≡ Ok (Some (b, q)) → a ≡ b
unfolding call_in
same_call r a b p q e f = ap (λ x. call_in a x) (sym e ∙ f)

pub same_place : (r : Result (Option (Call × Place)) LexFault) (a b : Call) (p q : Place) → r ≡ Ok (Some (a, p)) → r ≡ Ok (Some (b, q)) → p ≡ q
unfolding place_in
same_place r a b p q e f = ap (λ x. place_in p x) (sym e ∙ f)

-- a command takes at least one byte
pub named-positive : (name : List ℕ) (front : ℕ) (read : Result (List Arg × ℕ) Stop) → 0 < front → IfOk (named name front read) (λ r. 0 < r.2)
named-positive name front (Ok x) positive = omega arith
named-positive name front (Err stop) positive = tt

pub cond-positive : (test : Bool) (x y : Result CommandRead Stop) → IfOk x (λ r. 0 < r.2) → IfOk y (λ r. 0 < r.2) → IfOk (cond test x y) (λ r. 0 < r.2)
cond-positive true x y first second = first
cond-positive false x y first second = second

pub command-positive : (text name : List ℕ) (paren : ℕ) → IfOk (command_by text name paren) (λ r. 0 < r.2)
command-positive text name paren =
    cond-positive (paren == length text) _ _ tt (cond-positive (stands 40 paren text) _ _ (named-positive name (paren + 1) (arguments_from 0 (drop (paren + 1) text)) (omega arith)) tt)

pub call_at-shorter : (place : Place) (n : ℕ) (read : Result CommandRead Stop) (call : Call) (after : Place) → 0 < length place.rest → IfOk read (λ r. 0 < r.2) → call_at place n read ≡ Ok (Some (call, after)) → length after.rest < length place.rest
call_at-shorter place n (Err stop) call after inside positive e = cc
call_at-shorter place n (Ok r) call after inside positive e =
    let same : behind_command place (n + r.2) ≡ after = same_place (call_at place n (Ok r)) (record { name = r.0; args = r.1; line = line_behind place n }) call (behind_command place (n + r.2)) after refl e in
    let lengths : length (drop (n + r.2) place.rest) ≡ length after.rest = ap (λ (p : Place). length p.rest) same in
    omega (arith, length-drop (n + r.2) place.rest)

pub next_by-shorter : (place : Place) (start : Result (Option ℕ) Stop) (call : Call) (after : Place) → 0 < length place.rest → next_by place start ≡ Ok (Some (call, after)) → length after.rest < length place.rest
next_by-shorter place (Err stop) call after inside e = cc
next_by-shorter place (Ok None) call after inside e = cc
next_by-shorter place (Ok (Some n)) call after inside e =
    let text = drop n place.rest in
    call_at-shorter place n (command text) call after inside (command-positive text (lower (take (word_len text) text)) (paren_at text)) e

pub next-inside : (rest : List ℕ) (line : ℕ) (behind : Bool) (call : Call) (after : Place) → next_of (record { rest = rest; line = line; behind = behind }) ≡ Ok (Some (call, after)) → 0 < length rest
next-inside [] line behind call after e = cc
next-inside (byte ∷ rest) line behind call after e = omega arith

-- behind a command, less of the text is left
pub next-shorter : (place : Place) (call : Call) (after : Place) → next_of place ≡ Ok (Some (call, after)) → length after.rest < length place.rest
next-shorter place call after e =
    next_by-shorter place (start_from place.behind 0 place.rest) call after (next-inside place.rest place.line place.behind call after e) e

-- the reading from a place on, by what comes next there; first: nothing comes next
pub none-only : (place : Place) → next_of place ≡ Ok None → (others : List Call) (other : Ending) → ReadsFrom place others other → (others ≡ []) × (other ≡ None)
none-only place e [] None read = (refl, refl)
none-only place e [] (Some fault) read = cc
none-only place e (call ∷ calls) other read = let h = read.1 in cc

pub fault-only : (place : Place) (fault : LexFault) → next_of place ≡ Err fault → (others : List Call) (other : Ending) → ReadsFrom place others other → (others ≡ []) × (other ≡ Some fault)
fault-only place fault e [] None read = cc
fault-only place fault e [] (Some found) read = (refl, cc)
fault-only place fault e (call ∷ calls) other read = let h = read.1 in cc

list_of_same : (a b : Call) (xs ys : List Call) → a ≡ b → xs ≡ ys → a ∷ xs ≡ b ∷ ys
list_of_same a b xs ys e f = cc

-- the reading does not depend on how many steps are allowed, if they are more than the bytes;
-- first: two readings that agree behind the next command are the same
pub reading_by-same : (next : Result (Option (Call × Place)) LexFault) (f g : Place → List Call × Ending) → ((call : Call) (after : Place) → next ≡ Ok (Some (call, after)) → f after ≡ g after) → reading_by next f ≡ reading_by next g
reading_by-same (Ok None) f g same = refl
reading_by-same (Err fault) f g same = refl
reading_by-same (Ok (Some x)) f g same =
    let P : List Call × Ending → List Call × Ending = λ r. (x.0 ∷ r.0, r.1) in ap P (same x.0 x.1 refl)

pub reading_within-same : (n m : ℕ) (place : Place) → length place.rest < n → length place.rest < m → reading_within n place ≡ reading_within m place
reading_within-same zero m place less other = absurd (omega arith)
reading_within-same (suc n) zero place less other = absurd (omega arith)
reading_within-same (suc n) (suc m) place less other =
    reading_by-same (next_of place) (λ after. reading_within n after) (λ after. reading_within m after) (λ call after e. let shorter : length after.rest < length place.rest = next-shorter place call after e in reading_within-same n m after (omega arith) (omega arith))

-- one step of the reading
pub reading-step : (place : Place) → commands_read place ≡ reading_by (next_of place) commands_read
unfolding commands_read
reading-step place =
    reading_by-same (next_of place) (λ after. reading_within (length place.rest) after) commands_read
    (λ call after e. let shorter : length after.rest < length place.rest = next-shorter place call after e in reading_within-same (length place.rest) (suc (length after.rest)) after (omega arith) (omega arith))

pub call-only : (place : Place) (call : Call) (after : Place) (one : HasOneReading after) → next_of place ≡ Ok (Some (call, after)) → (others : List Call) (other : Ending) → ReadsFrom place others other → (others ≡ call ∷ (commands_read after).0) × (other ≡ (commands_read after).1)
call-only place call after one e [] None read = cc
call-only place call after one e [] (Some found) read = cc
call-only place call after one e (found ∷ calls) other read =
    let P : Place → Type 0 = λ p. ReadsFrom p calls other in
    let rest = one.only calls other (subst P (same_place (next_of place) found call read.0 after read.1 e) read.2) in
    (list_of_same found call calls (commands_read after).0 (same_call (next_of place) found call read.0 after read.1 e) rest.0, rest.1)

-- `all` is the reading from a place on, and the only one
pub record IsOne (place : Place) (all : List Call × Ending) : Type 0 where
  pub read : ReadsFrom place all.0 all.1
  pub only : (calls : List Call) (ending : Ending) → ReadsFrom place calls ending → (calls ≡ all.0) × (ending ≡ all.1)

pub one_by : (place : Place) (next : Result (Option (Call × Place)) LexFault) → next_of place ≡ next → ((call : Call) (after : Place) → next_of place ≡ Ok (Some (call, after)) → HasOneReading after) → IsOne place (reading_by next commands_read)
one_by place (Ok None) e later = record { read = e; only = none-only place e }
one_by place (Err fault) e later = record { read = e; only = fault-only place fault e }
one_by place (Ok (Some x)) e later =
    let one = later x.0 x.1 e in record { read = (x.1, e, one.read); only = call-only place x.0 x.1 one e }

pub one_of : (place : Place) → IsOne place (commands_read place) → HasOneReading place
one_of place one = record { read = one.read; only = one.only }

pub one_within : (n : ℕ) (place : Place) → length place.rest < n → HasOneReading place
one_within zero place fits = absurd (omega arith)
one_within (suc n) place fits =
    let P : List Call × Ending → Type 0 = λ all. IsOne place all in
    one_of place (subst P (sym (reading-step place)) (one_by place (next_of place) refl (λ call after e. let less : length after.rest < length place.rest = next-shorter place call after e in one_within n after (omega arith))))

pub one_reading : (place : Place) → HasOneReading place
one_reading place = one_within (length place.rest + 1) place (omega arith)

pub fault-step : (old : Place) (fault : LexFault) → next_of old ≡ Err fault → ((commands_read old).0 ≡ []) × ((commands_read old).1 ≡ Some fault)
fault-step old fault e =
    let P : Result (Option (Call × Place)) LexFault → List Call × Ending = λ next. reading_by next commands_read in
    let step : commands_read old ≡ ([], Some fault) = reading-step old ∙ ap P e in
    (ap (λ (r : List Call × Ending). r.0) step, ap (λ (r : List Call × Ending). r.1) step)

-- what `next` returns is the next item of the reading
pub reads_on : (old new : Place) (answer : Result (Option Call) LexFault) → AnswersNext old answer new → ReadsOn old answer new
reads_on old new (Ok (Some call)) e =
    let P : Result (Option (Call × Place)) LexFault → List Call × Ending = λ next. reading_by next commands_read in
    let step : commands_read old ≡ (call ∷ (commands_read new).0, (commands_read new).1) = reading-step old ∙ ap P e in
    (ap (λ (r : List Call × Ending). r.0) step, ap (λ (r : List Call × Ending). r.1) step)
reads_on old new (Ok None) e =
    let P : Result (Option (Call × Place)) LexFault → List Call × Ending = λ next. reading_by next commands_read in
    let step : commands_read old ≡ ([], None) = reading-step old ∙ ap P e.0 in
    (ap (λ (r : List Call × Ending). r.0) step, ap (λ (r : List Call × Ending). r.1) step)
reads_on old new (Err NoMemory) e = tt
reads_on old new (Err (OpenString line)) e = fault-step old (OpenString line) e.0
reads_on old new (Err (OpenBracket line)) e = fault-step old (OpenBracket line) e.0
reads_on old new (Err (OpenCall line)) e = fault-step old (OpenCall line) e.0
reads_on old new (Err (BadEscape line)) e = fault-step old (BadEscape line) e.0
reads_on old new (Err (BadChar line)) e = fault-step old (BadChar line) e.0
reads_on old new (Err (BadReference line)) e = fault-step old (BadReference line) e.0
