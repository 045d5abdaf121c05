-- Files inside one another, and the commands of a file one by one.
use Rattle.std.proofs.Common.{◌≡◌, ℕ, zero, suc, ◌+◌, ◌<◌, ◌≤◌, ◌⊎◌, inl, inr, Bool, true, false, cond, subst, IsSome, IsSomeAnd, IfOk, IfErr, IfSome, get_or, List, [], ◌∷◌, length, take, drop, map, Option, Some, None, option_map, Result, Ok, Err, refl, sym, ap, ◌∙◌, nat_lt, arith, length-take}
use Rattle.std.proofs.lemmas.List.{take_all, at_drop_more, at_drop_all}
use Rattle.std.proofs.lemmas.Bool.{cases_lt, false_from_ne_true}
use Rattle.std.proofs.lemmas.Bool.Decides.{Decides-ltb}
use Rattle.ct_base.specs.Outside.{Becomes, FilesTell, Held, SameHeld}
use Rattle.ct_lex.specs.Place.{Place, beginning}
use Rattle.ct_lex.specs.Reads.{Ending, ReadsOn, commands_read}
use Rattle.ct_lex.specs.declared.fault.LexFault.{LexFault}
use Rattle.ct_lex.specs.declared.fault.LexFault.TheVariants as lex
use Rattle.ct_lex.specs.declared.call.Call.{Call}
use Rattle.ct_suite.specs.Count.{raised}
use Rattle.ct_testfile.specs.Outcome.{◌>>=◌, on_line, or_refused}
use Rattle.ct_testfile.specs.Commands.{opening_of, openings, test_file}
use Rattle.ct_testfile.specs.Ifs.{stepped}
use Rattle.ct_testfile.specs.Tree.{FileReading, admitted, beginning_with, carried, ended, fault_in, nested, all_opened, opened_by, read_through, top}
use Rattle.ct_testfile.specs.Says.{EndsWith, IsAt, IsAnswerOf, IsFaultIn, IsNextOf, IsRefusalOf, Over, TellsHeld, Unfailed}
use Rattle.ct_testfile.proofs.OverLemmas.{Over-same, Over-still, Over-stopped, SoFar, SoFar-end, SoFar-then}
use Rattle.ct_testfile.specs.declared.branch.OpenIf.{OpenIf}
use Rattle.ct_testfile.specs.declared.fault.ReadFault.{ReadFault}
use Rattle.ct_testfile.specs.declared.fault.ReadFault.TheVariants.{At, FilesFailed, NoMemory}
use Rattle.ct_testfile.specs.declared.fault.ReadKind.{ReadKind}
use Rattle.ct_testfile.specs.declared.fault.ReadKind.TheVariants.{TooDeep, TooLong}
use Rattle.ct_testfile.specs.declared.limits.Limits.{Limits}
use Rattle.ct_testfile.specs.declared.opening.Opening.{Opening}
use Rattle.ct_testfile.specs.declared.opening.Opens.{Opens}
use Rattle.ct_testfile.specs.declared.opening.TestFile.{TestFile}
use Rattle.ct_testfile.specs.declared.state.State.{State}
use Rattle.ct_testfile.specs.declared.step.Step.{Step}

-- a text that is admitted, by whether it is too long
abbrev pub admitted-when : Limits → List ℕ → State → Bool → Result State ReadKind
admitted-when limits text state long =
    cond long (Err TooLong) (or_refused (raised limits.all_file_bytes state.file_bytes (length text)) TooLong >>= λ n. Ok (record state { file_bytes = n }))

-- a text that is too long is refused; then: one that is not goes on to be counted
pub admitted-long : (limits : Limits) (text : List ℕ) (state : State) → limits.file_bytes < length text → admitted limits text state ≡ Err TooLong
admitted-long limits text state long =
    let test : nat_lt limits.file_bytes (length text) ≡ true = (Decides-ltb limits.file_bytes (length text)).1 long in
    ap (λ b. admitted-when limits text state b) test

pub admitted-short : (limits : Limits) (text : List ℕ) (state : State) → length text ≤ limits.file_bytes → admitted limits text state ≡ admitted-when limits text state false
admitted-short limits text state short =
    ap (λ b. admitted-when limits text state b) (false_from_ne_true (nat_lt limits.file_bytes (length text)) (λ long. absurd (above limits.file_bytes (length text) short ((Decides-ltb limits.file_bytes (length text)).0 long))))
  where
    above : (m n : ℕ) → n ≤ m → m < n → ⊥
    above m n le lt = omega arith

-- the fault of a text is a fault of its file
pub fault-at : (file : List ℕ) (line : ℕ) (kind : ReadKind) (lexed : LexFault) (fault : ReadFault) → fault_in file lexed ≡ At file line kind → IsAt file line kind fault → IsFaultIn file lexed fault
fault-at file line kind lexed (At f l k) same is = is ∙ sym same
fault-at file line kind lexed (FilesFailed path) same is = is
fault-at file line kind lexed NoMemory same is = tt

-- what a lexer returns, in terms of a file
pub next-ok : (file : List ℕ) (old new : Place) (call : Option Call) → ReadsOn old (Ok call) new → (IsSome call → length new.rest < length old.rest) → IsNextOf file old new (Ok call)
next-ok file old new None read shrinks = read
next-ok file old new (Some call) read shrinks = (read.0, read.1, shrinks refl)

ends-at : (file : List ℕ) (place : Place) (lexed : LexFault) (f : List ℕ) (l : ℕ) (k : ReadKind) → ((commands_read place).0 ≡ []) × ((commands_read place).1 ≡ Some lexed) → At f l k ≡ fault_in file lexed → EndsWith file place (At f l k)
ends-at file place lexed f l k read is =
    let P : Ending → Type 0 = λ ending. IsSomeAnd ending (λ fault. At f l k ≡ fault_in file fault) in
    (read.0, subst P (sym read.1) is)

pub next-err : (file : List ℕ) (old new : Place) (lexed : LexFault) (fault : ReadFault) → ReadsOn old (Err lexed) new → IsFaultIn file lexed fault → EndsWith file old fault
next-err file old new lexed (FilesFailed path) read is = is
next-err file old new lexed NoMemory read is = tt
next-err file old new (lex.OpenString line) (At f l k) read is = ends-at file old (lex.OpenString line) f l k read is
next-err file old new (lex.OpenBracket line) (At f l k) read is = ends-at file old (lex.OpenBracket line) f l k read is
next-err file old new (lex.OpenCall line) (At f l k) read is = ends-at file old (lex.OpenCall line) f l k read is
next-err file old new (lex.BadEscape line) (At f l k) read is = ends-at file old (lex.BadEscape line) f l k read is
next-err file old new (lex.BadChar line) (At f l k) read is = ends-at file old (lex.BadChar line) f l k read is
next-err file old new (lex.BadReference line) (At f l k) read is = ends-at file old (lex.BadReference line) f l k read is
next-err file old new lex.NoMemory (At f l k) read is = cc

pub ends-unfailed : (A : Type 0) (file : List ℕ) (place : Place) (fault : ReadFault) → EndsWith file place fault → Unfailed {A = A} (Err fault)
ends-unfailed A file place (At f l k) ends = tt
ends-unfailed A file place (FilesFailed path) ends = absurd ends
ends-unfailed A file place NoMemory ends = tt

module _ (limits : Limits) (held : Held) (site : List ℕ) (line : ℕ) (file : TestFile) (state : State) where
  -- if no file may be open, the command that would open one is refused
  pub nested-none : (left : ℕ) (text : List ℕ) → left ≡ 0 → nested limits held left site line file state text ≡ Err (At site line TooDeep)
  unfolding nested
  nested-none left text none = ap (λ n. nested limits held n site line file state text) none

  -- if one more file may be open, its text is read
  pub nested-some : (left more : ℕ) (text : List ℕ) → left ≡ suc more → nested limits held left site line file state text ≡ (on_line file.path 0 (admitted limits text state) >>= λ next. carried (nested limits held more) limits held file [] next (commands_read (beginning text)).0 (commands_read (beginning text)).1)
  unfolding nested
  nested-some left more text some = ap (λ n. nested limits held n site line file state text) some

  taken-by : (left : ℕ) (text : List ℕ) → limits.file_bytes < length text → nested limits held left site line file state (take (limits.file_bytes + 1) text) ≡ nested limits held left site line file state text
  taken-by zero text long =
      nested-none 0 (take (limits.file_bytes + 1) text) refl ∙ sym (nested-none 0 text refl)
  taken-by (suc more) text long =
      let front = take (limits.file_bytes + 1) text in
      let longer : limits.file_bytes < length front = omega (arith, length-take (limits.file_bytes + 1) text) in
      nested-some (suc more) more front refl
      ∙ ap (λ a. on_line file.path 0 a >>= λ next. carried (nested limits held more) limits held file [] next (commands_read (beginning front)).0 (commands_read (beginning front)).1) (admitted-long limits front state longer)
      ∙ ap (λ a. on_line file.path 0 a >>= λ next. carried (nested limits held more) limits held file [] next (commands_read (beginning text)).0 (commands_read (beginning text)).1) (sym (admitted-long limits text state long))
      ∙ sym (nested-some (suc more) more text refl)

  taken-cases : (left : ℕ) (text : List ℕ) → (limits.file_bytes < length text) ⊎ (length text ≤ limits.file_bytes) → nested limits held left site line file state (take (limits.file_bytes + 1) text) ≡ nested limits held left site line file state text
  taken-cases left text (inl long) = taken-by left text long
  taken-cases left text (inr short) =
      ap (nested limits held left site line file state) (take_all (limits.file_bytes + 1) text (omega arith))

-- of a file that is too long, it is enough to read one byte too many
pub opened_by-taken : (limits : Limits) (held : Held) (left : ℕ) (site : List ℕ) (line : ℕ) (opening : Opening) (state : State) (got : Option (List ℕ)) → opened_by (nested limits held left) site line opening state (option_map (take (limits.file_bytes + 1)) got) ≡ opened_by (nested limits held left) site line opening state got
opened_by-taken limits held left site line opening state None = refl
opened_by-taken limits held left site line opening state (Some text) =
    taken-cases limits held site line opening.file state left text (cases_lt limits.file_bytes (length text))

-- the rest of a file behind a command
module _ (read : FileReading) (limits : Limits) (held : Held) (file : TestFile) where
  abbrev pub known_behind : Step → ℕ → Result State ReadFault
  known_behind step line = all_opened read held file.path line (openings file.dir step.opens) step.state

  opened-by : (ifs : List OpenIf) (known : Result State ReadFault) (goes : List OpenIf × State → Result State ReadFault) → (known >>= λ next. Ok (ifs, next)) >>= goes ≡ (known >>= λ next. goes (ifs, next))
  opened-by ifs (Ok next) goes = refl
  opened-by ifs (Err fault) goes = refl

  call-by : (line : ℕ) (step : Result Step ReadFault) (goes : List OpenIf × State → Result State ReadFault) → (step >>= λ s. known_behind s line >>= λ next. Ok (s.ifs, next)) >>= goes ≡ (step >>= λ s. known_behind s line >>= λ next. goes (s.ifs, next))
  call-by line (Ok step) goes = opened-by step.ifs (known_behind step line) goes
  call-by line (Err fault) goes = refl

  pub carried-call : (ifs : List OpenIf) (state : State) (call : Call) (calls : List Call) (ending : Ending) → carried read limits held file ifs state (call ∷ calls) ending ≡ (on_line file.path call.line (stepped limits held file.dir ifs state call) >>= λ step. known_behind step call.line >>= λ known. carried read limits held file step.ifs known calls ending)
  carried-call ifs state call calls ending =
      call-by call.line (on_line file.path call.line (stepped limits held file.dir ifs state call)) (λ next. carried read limits held file next.0 next.1 calls ending)

-- the commands of a file from a place on
module _ (limits : Limits) (more : ℕ) (file : TestFile) where
  abbrev pub from : List OpenIf → State → Place → Held → Result State ReadFault
  from ifs state place held = carried (nested limits held more) limits held file ifs state (commands_read place).0 (commands_read place).1

  abbrev pub step_of : List OpenIf → State → Call → Held → Result Step ReadFault
  step_of ifs state call held = on_line file.path call.line (stepped limits held file.dir ifs state call)

  abbrev pub known_of : Step → ℕ → Held → Result State ReadFault
  known_of step line held = all_opened (nested limits held more) held file.path line (openings file.dir step.opens) step.state

  abbrev pub behind_of : ℕ → Place → Held → Step → Result State ReadFault
  behind_of line place held step = known_of step line held >>= λ known. from step.ifs known place held

  pub from-start : (ifs : List OpenIf) (state : State) (place : Place) (text : List ℕ) → ifs ≡ [] → place ≡ beginning text → (held : Held) → from ifs state place held ≡ from [] state (beginning text) held
  from-start ifs state place text none begun held i = from (none i) state (begun i) held

  pub from-call : (ifs : List OpenIf) (state : State) (call : Call) (old new : Place) → IsNextOf file.path old new (Ok (Some call)) → (held : Held) → from ifs state old held ≡ (step_of ifs state call held >>= behind_of call.line new held)
  from-call ifs state call old new next held =
      (λ i. carried (nested limits held more) limits held file ifs state (next.0 i) (next.1 i)) ∙ carried-call (nested limits held more) limits held file ifs state call (commands_read new).0 (commands_read new).1

  pub from-end : (ifs : List OpenIf) (state : State) (old new : Place) → IsNextOf file.path old new (Ok None) → (held : Held) → from ifs state old held ≡ ended file.path ifs state None
  from-end ifs state old new next held i = carried (nested limits held more) limits held file ifs state (next.0 i) (next.1 i)

  ends-by : (held : Held) (ifs : List OpenIf) (state : State) (calls : List Call) (ending : Ending) (f : List ℕ) (l : ℕ) (k : ReadKind) → calls ≡ [] → IsSomeAnd ending (λ lexed. At f l k ≡ fault_in file.path lexed) → carried (nested limits held more) limits held file ifs state calls ending ≡ Err (At f l k)
  ends-by held ifs state calls None f l k none is = absurd is
  ends-by held ifs state calls (Some lexed) f l k none is =
      ap (λ cs. carried (nested limits held more) limits held file ifs state cs (Some lexed)) none ∙ ap Err (sym is)

  pub from-refused : (ifs : List OpenIf) (state : State) (old : Place) (fault : ReadFault) → EndsWith file.path old fault → (held : Held) → IsRefusalOf (from ifs state old held) fault
  from-refused ifs state old (At f l k) ends held =
      ends-by held ifs state (commands_read old).0 (commands_read old).1 f l k ends.0 ends.1
  from-refused ifs state old (FilesFailed path) ends held = tt
  from-refused ifs state old NoMemory ends held = tt

  -- what was carried out of a text so far, and one more command
  module _ (before between mid : FilesTell) (ifs : List OpenIf) (state : State) (call : Call) (old new : Place) where
    pub stopped-step : (begin : Held → Result State ReadFault) (fault : ReadFault) → SoFar before between begin (from ifs state old) → IsNextOf file.path old new (Ok (Some call)) → Over between mid (step_of ifs state call) (Err fault) → Over before mid begin (Err fault)
    stopped-step begin fault so_far next step =
        SoFar-end before between mid begin (from ifs state old) (Err fault) so_far (Over-same between mid (λ held. step_of ifs state call held >>= behind_of call.line new held) (from ifs state old) (Err fault) (λ held. sym (from-call ifs state call old new next held)) (Over-stopped between mid (step_of ifs state call) (behind_of call.line new) fault step))

    stepped-so : (begin : Held → Result State ReadFault) (step : Step) → SoFar before between begin (from ifs state old) → IsNextOf file.path old new (Ok (Some call)) → Over between mid (step_of ifs state call) (Ok step) → SoFar before mid begin (λ held. behind_of call.line new held step)
    stepped-so begin step so_far next over =
        SoFar-then before between mid begin (from ifs state old) (step_of ifs state call) (behind_of call.line new) step so_far (from-call ifs state call old new next) over

    pub stopped-known : (now : FilesTell) (begin : Held → Result State ReadFault) (step : Step) (fault : ReadFault) → SoFar before between begin (from ifs state old) → IsNextOf file.path old new (Ok (Some call)) → Over between mid (step_of ifs state call) (Ok step) → Over mid now (known_of step call.line) (Err fault) → Over before now begin (Err fault)
    stopped-known now begin step fault so_far next over known =
        SoFar-end before mid now begin (λ held. behind_of call.line new held step) (Err fault) (stepped-so begin step so_far next over) (Over-stopped mid now (known_of step call.line) (λ held known. from step.ifs known new held) fault known)

    pub once-more : (now : FilesTell) (begin : Held → Result State ReadFault) (step : Step) (known : State) → SoFar before between begin (from ifs state old) → IsNextOf file.path old new (Ok (Some call)) → Over between mid (step_of ifs state call) (Ok step) → Over mid now (known_of step call.line) (Ok known) → SoFar before now begin (from step.ifs known new)
    once-more now begin step known so_far next over all_opened =
        SoFar-then before mid now begin (λ held. behind_of call.line new held step) (known_of step call.line) (λ held known. from step.ifs known new held) known (stepped-so begin step so_far next over) (λ held. refl) all_opened

-- a file is entered, if one more may be open
pub entered : (limits : Limits) (held : Held) (left more : ℕ) (site : List ℕ) (line : ℕ) (opening : Opening) (state : State) (got : Option (List ℕ)) (text : List ℕ) → left ≡ suc more → got ≡ Some text → (on_line opening.file.path 0 (admitted limits text state) >>= λ next. from limits more opening.file [] next (beginning text) held) ≡ opened_by (nested limits held left) site line opening state got
entered limits held left more site line opening state got text some is =
    sym (ap (opened_by (nested limits held left) site line opening state) is ∙ nested-some limits held site line opening.file state left more text some)

-- a file that would be one too many is refused
pub too-deep : (limits : Limits) (held : Held) (left : ℕ) (site : List ℕ) (line : ℕ) (opening : Opening) (state : State) (got : Option (List ℕ)) (text : List ℕ) → left ≡ 0 → got ≡ Some text → Err (At site line TooDeep) ≡ opened_by (nested limits held left) site line opening state got
too-deep limits held left site line opening state got text none is =
    sym (ap (opened_by (nested limits held left) site line opening state) is ∙ nested-none limits held site line opening.file state left text none)

-- a text that is admitted is short
pub admitted-is-short : (limits : Limits) (text : List ℕ) (state next : State) (path : List ℕ) → on_line path 0 (admitted limits text state) ≡ Ok next → length text ≤ limits.file_bytes
admitted-is-short limits text state next path is = by_cases (cases_lt limits.file_bytes (length text))
  where
    by_cases : (limits.file_bytes < length text) ⊎ (length text ≤ limits.file_bytes) → length text ≤ limits.file_bytes
    by_cases (inl long) =
        let refused = sym (ap (on_line path 0) (admitted-long limits text state long)) ∙ is in cc
    by_cases (inr short) = short

-- files that are opened one after the other, from the one at a place on
module _ (limits : Limits) (left : ℕ) (file : TestFile) (line : ℕ) (opens : Opens) where
  abbrev pub opened_from : List (List ℕ) → State → Held → Result State ReadFault
  opened_from names state held = all_opened (nested limits held left) held file.path line (map (opening_of file.dir opens.required) names) state

  abbrev pub opened_one : Opening → State → Held → Result State ReadFault
  opened_one opening state held = opened_by (nested limits held left) file.path line opening state (held opening.file.path)

  module _ (before between now : FilesTell) (names : List (List ℕ)) (i : ℕ) (name : List ℕ) (opening : Opening) (state : State) (within : i < length names) (is : name ≡ get_or names i name) (means : opening ≡ opening_of file.dir opens.required name) where
    opened-front : (held : Held) → opened_from (drop i names) state held ≡ (opened_one opening state held >>= λ known. opened_from (drop (i + 1) names) known held)
    opened-front held =
        at_drop_more (λ ns. opened_from ns state held) names i name within
        ∙ ap (λ n. opened_from (n ∷ drop (i + 1) names) state held) (sym is)
        ∙ ap (λ o. opened_one o state held >>= λ known. opened_from (drop (i + 1) names) known held) (sym means)

    pub opened-stopped : (begin : Held → Result State ReadFault) (fault : ReadFault) → SoFar before between begin (opened_from (drop i names) state) → Over between now (opened_one opening state) (Err fault) → Over before now begin (Err fault)
    opened-stopped begin fault so_far one =
        SoFar-end before between now begin (opened_from (drop i names) state) (Err fault) so_far (Over-same between now (λ held. opened_one opening state held >>= λ known. opened_from (drop (i + 1) names) known held) (opened_from (drop i names) state) (Err fault) (λ held. sym (opened-front held)) (Over-stopped between now (opened_one opening state) (λ held known. opened_from (drop (i + 1) names) known held) fault one))

    pub opened-more : (begin : Held → Result State ReadFault) (known : State) → SoFar before between begin (opened_from (drop i names) state) → Over between now (opened_one opening state) (Ok known) → SoFar before now begin (opened_from (drop (i + 1) names) known)
    opened-more begin known so_far one =
        SoFar-then before between now begin (opened_from (drop i names) state) (opened_one opening state) (λ held known. opened_from (drop (i + 1) names) known held) known so_far opened-front one

  pub opened-all : (before now : FilesTell) (names : List (List ℕ)) (i : ℕ) (state : State) (begin : Held → Result State ReadFault) → length names ≤ i → SoFar before now begin (opened_from (drop i names) state) → Over before now begin (Ok state)
  opened-all before now names i state begin past so_far =
      SoFar-end before now now begin (opened_from (drop i names) state) (Ok state) so_far (Over-still now (opened_from (drop i names) state) (Ok state) tt (λ held. at_drop_all (λ ns. opened_from ns state held) names i past))

-- the reading of a tree, from the state before the first command
pub begun-through : (limits : Limits) (dir config : List ℕ) (state : State) (before now : FilesTell) (result : Result State ReadFault) → state ≡ beginning_with config → Over before now (λ held. opened_by (nested limits held limits.open_files) (test_file dir).path 0 (top dir) state (held (test_file dir).path)) result → Over before now (λ held. read_through limits held dir config) result
begun-through limits dir config state before now result is over =
    Over-same before now (λ held. opened_by (nested limits held limits.open_files) (test_file dir).path 0 (top dir) state (held (test_file dir).path)) (λ held. read_through limits held dir config) result (λ held. ap (λ s. opened_by (nested limits held limits.open_files) (test_file dir).path 0 (top dir) s (held (test_file dir).path)) is) over

-- what a call returns, where the files tell what they hold
pub told-ok : {A : Type 0} (told : Option Held) (says : Held → Result A ReadFault) (result : Result A ReadFault) → ((held : Held) → TellsHeld held told → IsAnswerOf (says held) result) → IfOk result (λ x. IfSome told (λ held. says held ≡ Ok x))
told-ok None says (Ok x) answer = tt
told-ok (Some held) says (Ok x) answer = answer held (λ path. refl)
told-ok told says (Err fault) answer = tt

pub told-refused : {A : Type 0} (told : Option Held) (says : Held → Result A ReadFault) (result : Result A ReadFault) → ((held : Held) → TellsHeld held told → IsAnswerOf (says held) result) → IfErr result (λ fault. IfSome told (λ held. IsRefusalOf (says held) fault))
told-refused told says (Ok x) answer = tt
told-refused None says (Err fault) answer = tt
told-refused (Some held) says (Err fault) answer = answer held (λ path. refl)

kept-held : (held : Held) (now : Option Held) → TellsHeld held now → Becomes (Some held) now SameHeld
kept-held held None told = absurd told
kept-held held (Some now) told = told

pub told-kept : (before now : Option Held) → ((held : Held) → TellsHeld held before → TellsHeld held now) → Becomes before now SameHeld
told-kept None now kept = tt
told-kept (Some held) now kept = kept-held held now (kept held (λ path. refl))
