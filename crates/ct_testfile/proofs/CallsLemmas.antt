-- Which calls on files were made, step by step.
use Rattle.std.proofs.Common.{◌≡◌, ℕ, zero, suc, ◌+◌, ◌<◌, ◌≤◌, ◌⊎◌, inl, inr, Bool, true, false, cond, IfSome, get_or, List, [], ◌∷◌, ◌++◌, length, take, drop, map, Option, Some, None, option_map, Result, Ok, Err, refl, sym, ap, ◌∙◌, subst, arith, length-take, append_assoc}
use Rattle.std.proofs.lemmas.List.{append-nil, take_all, at_drop_more, at_drop_all}
use Rattle.std.proofs.lemmas.Bool.{cases_lt, false≢true}
use Rattle.ct_base.specs.Outside.{Adds, AddsPrefix, Becomes, Held, Makes, path_of}
use Rattle.ct_base.specs.Path.{joined}
use Rattle.ct_base.specs.declared.file_call.FileCall.{FileCall}
use Rattle.ct_base.specs.declared.file_call.FileCall.TheVariants.{Exists}
use Rattle.ct_base.specs.declared.files.FilesFault.{FilesFault}
use Rattle.ct_base.specs.declared.files.FilesFault.TheVariants as Files
use Rattle.ct_lex.specs.Place.{Place, beginning}
use Rattle.ct_lex.specs.Reads.{commands_read}
use Rattle.ct_lex.specs.declared.call.Call.{Call}
use Rattle.ct_suite.specs.declared.value.Value.{Value}
use Rattle.ct_testfile.specs.Outcome.{on_line}
use Rattle.ct_testfile.specs.Condition.{is_exists}
use Rattle.ct_testfile.specs.Commands.{opening_of, openings}
use Rattle.ct_testfile.specs.Ifs.{innermost}
use Rattle.ct_testfile.specs.Says.{EndsWith, IsNextOf, IsRefusalOf, TellsHeld, Unfailed, files_fault}
use Rattle.ct_testfile.specs.Tree.{admitted, nested}
use Rattle.ct_testfile.specs.TreeCalls.{AddsUpTo, MakesCalls, MakesCallsBy, calls_behind, carried_calls, command_calls, exists_calls, held_calls, is_open_to_elseif, nested_calls, opened_calls, opening_calls}
use Rattle.ct_testfile.proofs.TreeLemmas.{admitted-long, known_of, opened_one, step_of}
use Rattle.ct_testfile.specs.declared.branch.OpenIf.{OpenIf}
use Rattle.ct_testfile.specs.declared.fault.ReadFault.{ReadFault}
use Rattle.ct_testfile.specs.declared.fault.ReadFault.TheVariants.{At, FilesFailed, NoMemory}
use Rattle.ct_testfile.specs.declared.fault.ReadKind.{ReadKind}
use Rattle.ct_testfile.specs.declared.limits.Limits.{Limits}
use Rattle.ct_testfile.specs.declared.opening.Opening.{Opening}
use Rattle.ct_testfile.specs.declared.opening.Opens.{Opens}
use Rattle.ct_testfile.specs.declared.opening.TestFile.{TestFile}
use Rattle.ct_testfile.specs.declared.state.State.{State}
use Rattle.ct_testfile.specs.declared.step.Step.{Step}

-- a change of the told calls is also each change that follows from it
pub leads : (P Q : List FileCall → List FileCall → Type 0) → ((was is : List FileCall) → P was is → Q was is) → (before now : Option (List FileCall)) → Becomes before now P → Becomes before now Q
leads P Q goes None now changed = tt
leads P Q goes (Some was) None changed = absurd changed
leads P Q goes (Some was) (Some is) changed = goes was is changed

-- two changes, one after the other, are one change
pub chained : (P Q R : List FileCall → List FileCall → Type 0) → ((was mid is : List FileCall) → P was mid → Q mid is → R was is) → (before between now : Option (List FileCall)) → Becomes before between P → Becomes between now Q → Becomes before now R
chained P Q R both None between now one two = tt
chained P Q R both (Some was) None now one two = absurd one
chained P Q R both (Some was) (Some mid) None one two = absurd two
chained P Q R both (Some was) (Some mid) (Some is) one two = both was mid is one two

-- nothing changed
pub unchanged : (P : List FileCall → List FileCall → Type 0) → ((was : List FileCall) → P was was) → (told : Option (List FileCall)) → Becomes told told P
unchanged P same None = tt
unchanged P same (Some was) = same was

pub none-added : (told : Option (List FileCall)) → Becomes told told (Adds [])
none-added told = unchanged (Adds []) (λ was. sym (append-nil was)) told

pub no-part : (calls : List FileCall) (told : Option (List FileCall)) → Becomes told told (AddsPrefix calls)
no-part calls told = unchanged (AddsPrefix calls) (λ was. record { kept = []; lost = calls; parts = refl; is = sym (append-nil was) }) told

-- no call was made, and none is due
pub still : {A : Type 0} (told : Option (List FileCall)) (result : Result A ReadFault) → Unfailed result → MakesCalls [] told told result
still told (Ok x) unfailed = none-added told
still told (Err (At file line kind)) unfailed = none-added told
still told (Err (FilesFailed path)) unfailed = absurd unfailed
still told (Err NoMemory) unfailed = no-part [] told

-- memory was wanting before the first call
pub wanting : (A : Type 0) (calls : List FileCall) (told : Option (List FileCall)) → MakesCalls {A = A} calls told told (Err NoMemory)
wanting A calls told = no-part calls told

-- the calls of a value are those of another value
pub made-value : {A B : Type 0} (calls : List FileCall) (before now : Option (List FileCall)) (x : A) (y : B) → MakesCalls {A = A} calls before now (Ok x) → MakesCalls {A = B} calls before now (Ok y)
made-value calls before now x y made = made

pub made-fault : (A B : Type 0) (calls : List FileCall) (before now : Option (List FileCall)) (fault : ReadFault) → MakesCalls {A = A} calls before now (Err fault) → MakesCalls {A = B} calls before now (Err fault)
made-fault A B calls before now (At file line kind) made = made
made-fault A B calls before now (FilesFailed path) made = made
made-fault A B calls before now NoMemory made = made

-- each of these calls is a beginning of them
pub added-part : (calls : List FileCall) (before now : Option (List FileCall)) → Becomes before now (Adds calls) → Becomes before now (AddsPrefix calls)
added-part calls before now added =
    leads (Adds calls) (AddsPrefix calls) (λ was is added. record { kept = calls; lost = []; parts = sym (append-nil calls); is = added }) before now added

-- each call was made, and then memory was wanting
pub made-memory : {A : Type 0} (B : Type 0) (calls : List FileCall) (before now : Option (List FileCall)) (x : A) → MakesCalls {A = A} calls before now (Ok x) → MakesCalls {A = B} calls before now (Err NoMemory)
made-memory B calls before now x made = added-part calls before now made

-- the same calls
pub made-same : {A : Type 0} (calls others : List FileCall) (before now : Option (List FileCall)) (result : Result A ReadFault) → calls ≡ others → MakesCalls calls before now result → MakesCalls others before now result
made-same calls others before now result same made = subst (λ cs. MakesCalls cs before now result) same made

-- the same calls, where it is the same whether there are any
pub made-when : {A : Type 0} (one other : Bool) (calls : List FileCall) (before now : Option (List FileCall)) (result : Result A ReadFault) → one ≡ other → MakesCalls (cond one calls []) before now result → MakesCalls (cond other calls []) before now result
made-when one other calls before now result same made =
    made-same (cond one calls []) (cond other calls []) before now result (ap (λ b. cond b calls []) same) made

-- calls behind a call that returned a value
pub added-then : (front rest : List FileCall) (before between now : Option (List FileCall)) → Becomes before between (Adds front) → Becomes between now (Adds rest) → Becomes before now (Adds (front ++ rest))
added-then front rest before between now one two =
    chained (Adds front) (Adds rest) (Adds (front ++ rest)) (λ was mid is first second. second ∙ ap (λ xs. xs ++ rest) first ∙ append_assoc was front rest) before between now one two

pub up-to-then : (path : List ℕ) (front rest : List FileCall) (before between now : Option (List FileCall)) → Becomes before between (Adds front) → Becomes between now (AddsUpTo path rest) → Becomes before now (AddsUpTo path (front ++ rest))
up-to-then path front rest before between now one two =
    chained (Adds front) (AddsUpTo path rest) (AddsUpTo path (front ++ rest)) (λ was mid is first second. record {
      kept = front ++ second.kept;
      last = second.last;
      lost = second.lost;
      about = second.about;
      parts = ap (λ xs. front ++ xs) second.parts ∙ sym (append_assoc front second.kept (second.last ∷ second.lost));
      is = second.is ∙ ap (λ xs. xs ++ second.kept ++ second.last ∷ []) first ∙ ap (λ xs. xs ++ second.last ∷ []) (append_assoc was front second.kept);
    }) before between now one two

pub part-then : (front rest : List FileCall) (before between now : Option (List FileCall)) → Becomes before between (Adds front) → Becomes between now (AddsPrefix rest) → Becomes before now (AddsPrefix (front ++ rest))
part-then front rest before between now one two =
    chained (Adds front) (AddsPrefix rest) (AddsPrefix (front ++ rest)) (λ was mid is first second. record {
      kept = front ++ second.kept;
      lost = second.lost;
      parts = ap (λ xs. front ++ xs) second.parts ∙ sym (append_assoc front second.kept second.lost);
      is = second.is ∙ ap (λ xs. xs ++ second.kept) first ∙ append_assoc was front second.kept;
    }) before between now one two

pub behind : {B : Type 0} (front rest : List FileCall) (before between now : Option (List FileCall)) (result : Result B ReadFault) → Becomes before between (Adds front) → MakesCalls rest between now result → MakesCalls (front ++ rest) before now result
behind front rest before between now (Ok y) one two = added-then front rest before between now one two
behind front rest before between now (Err (At file line kind)) one two = added-then front rest before between now one two
behind front rest before between now (Err (FilesFailed path)) one two = up-to-then path front rest before between now one two
behind front rest before between now (Err NoMemory) one two = part-then front rest before between now one two

pub made-then : {A B : Type 0} (says : Result A ReadFault) (rest : A → List FileCall) (front : List FileCall) (before between now : Option (List FileCall)) (x : A) (result : Result B ReadFault) → says ≡ Ok x → MakesCalls {A = A} front before between (Ok x) → MakesCalls (rest x) between now result → MakesCalls (front ++ calls_behind says rest) before now result
made-then says rest front before between now x result is one two =
    made-same (front ++ rest x) (front ++ calls_behind says rest) before now result (sym (ap (λ (r : Result _ ReadFault). front ++ calls_behind r rest) is)) (behind front (rest x) before between now result one two)

-- a beginning of these calls is one of these and more
pub part-more : (front more : List FileCall) (before now : Option (List FileCall)) → Becomes before now (AddsPrefix front) → Becomes before now (AddsPrefix (front ++ more))
part-more front more before now made =
    leads (AddsPrefix front) (AddsPrefix (front ++ more)) (λ was is added. record {
      kept = added.kept;
      lost = added.lost ++ more;
      parts = ap (λ xs. xs ++ more) added.parts ∙ append_assoc added.kept added.lost more;
      is = added.is;
    }) before now made

-- a call that returned a fault, and nothing after it
pub made-stopped : {A : Type 0} (B : Type 0) (says : Result A ReadFault) (rest : A → List FileCall) (front : List FileCall) (before now : Option (List FileCall)) (fault : ReadFault) → IsRefusalOf says fault → MakesCalls {A = A} front before now (Err fault) → MakesCalls {A = B} (front ++ calls_behind says rest) before now (Err fault)
made-stopped B says rest front before now (At file line kind) is made =
    subst (λ xs. Becomes before now (Adds xs)) (sym (append-nil front) ∙ sym (ap (λ (r : Result _ ReadFault). front ++ calls_behind r rest) is)) made
made-stopped B says rest front before now (FilesFailed path) is made =
    let more = calls_behind says rest in
    leads (AddsUpTo path front) (AddsUpTo path (front ++ more)) (λ was is added. record {
      kept = added.kept;
      last = added.last;
      lost = added.lost ++ more;
      about = added.about;
      parts = ap (λ xs. xs ++ more) added.parts ∙ append_assoc added.kept (added.last ∷ added.lost) more;
      is = added.is;
    }) before now made
made-stopped B says rest front before now NoMemory is made = part-more front (calls_behind says rest) before now made

-- where the reading failed or was refused, the calls made are a beginning of those due
pub made-part : (A : Type 0) (calls : List FileCall) (before now : Option (List FileCall)) (fault : ReadFault) → MakesCalls {A = A} calls before now (Err fault) → Becomes before now (AddsPrefix calls)
made-part A calls before now (At file line kind) made = added-part calls before now made
made-part A calls before now (FilesFailed path) made =
    leads (AddsUpTo path calls) (AddsPrefix calls) (λ was is added. record {
      kept = added.kept ++ added.last ∷ [];
      lost = added.lost;
      parts = added.parts ∙ sym (append_assoc added.kept (added.last ∷ []) added.lost);
      is = added.is ∙ append_assoc was added.kept (added.last ∷ []);
    }) before now made
made-part A calls before now NoMemory made = made

-- one call on files, which answered, failed, or wanted memory
pub one-ok : {T A : Type 0} (call : FileCall) (before now : Option (List FileCall)) (x : T) (y : A) → Makes call before now (Ok x) → MakesCalls {A = A} (call ∷ []) before now (Ok y)
one-ok call before now x y made = made.ok

pub one-err : {T : Type 0} (A : Type 0) (call : FileCall) (path : List ℕ) (before now : Option (List FileCall)) (fault : FilesFault) → path_of call ≡ path → Makes {T = T} call before now (Err fault) → MakesCalls {A = A} (call ∷ []) before now (Err (files_fault path fault))
one-err A call path before now Files.Failed about made =
    leads (Adds (call ∷ [])) (AddsUpTo path (call ∷ [])) (λ was is added. record {
      kept = [];
      last = call;
      lost = [];
      about = about;
      parts = refl;
      is = added ∙ ap (λ xs. xs ++ call ∷ []) (sym (append-nil was));
    }) before now (made.failed refl)
one-err A call path before now Files.NoMemory about made = made.no_memory refl

-- a step whose refusal is placed on a line has the same calls behind it
pub behind-on_line : {A : Type 0} (file : List ℕ) (line : ℕ) (r : Result A ReadKind) (rest : A → List FileCall) → calls_behind (on_line file line r) rest ≡ calls_behind r rest
behind-on_line file line (Ok x) rest = refl
behind-on_line file line (Err kind) rest = refl

-- the calls of a condition
pub exists-one : (dir : List ℕ) (values : List Value) (name : Value) → is_exists values ≡ true → name ≡ get_or values 1 name → exists_calls dir values ≡ Exists (joined dir name.text) ∷ []
exists-one dir [] name is at = absurd (false≢true is)
exists-one dir (word ∷ []) name is at = absurd (false≢true is)
exists-one dir (word ∷ other ∷ []) name is at =
    (λ i. cond (is i) (Exists (joined dir other.text) ∷ []) []) ∙ ap (λ (value : Value). Exists (joined dir value.text) ∷ []) (sym at)
exists-one dir (word ∷ other ∷ next ∷ values) name is at = absurd (false≢true is)

pub exists-none : (dir : List ℕ) (values : List Value) → is_exists values ≡ false → exists_calls dir values ≡ []
exists-none dir [] is = refl
exists-none dir (word ∷ []) is = refl
exists-none dir (word ∷ name ∷ []) is = λ i. cond (is i) (Exists (joined dir name.text) ∷ []) []
exists-none dir (word ∷ name ∷ next ∷ values) is = refl

-- whether the innermost open `if` waits for a branch
pub open-none : (ifs : List OpenIf) → innermost ifs ≡ None → is_open_to_elseif ifs ≡ false
open-none [] is = refl
open-none (inner ∷ outer) is = cc

-- a text that is read, if one more file may be open
module _ (limits : Limits) (held : Held) (file : TestFile) (state : State) where
  pub calls-none : (left : ℕ) (text : List ℕ) → left ≡ 0 → nested_calls limits held left file state text ≡ []
  unfolding nested_calls
  calls-none left text none = ap (λ n. nested_calls limits held n file state text) none

  pub calls-some : (left more : ℕ) (text : List ℕ) → left ≡ suc more → nested_calls limits held left file state text ≡ calls_behind (on_line file.path 0 (admitted limits text state)) (λ next. carried_calls (nested limits held more) (nested_calls limits held more) limits held file [] next (commands_read (beginning text)).0)
  unfolding nested_calls
  calls-some left more text some = ap (λ n. nested_calls limits held n file state text) some

  -- a text that is cut behind the limit is too long, and makes no calls
  calls-long : (left : ℕ) (text : List ℕ) → limits.file_bytes < length text → nested_calls limits held left file state text ≡ []
  calls-long zero text long = calls-none 0 text refl
  calls-long (suc more) text long =
      calls-some (suc more) more text refl
      ∙ ap (λ a. calls_behind (on_line file.path 0 a) (λ next. carried_calls (nested limits held more) (nested_calls limits held more) limits held file [] next (commands_read (beginning text)).0)) (admitted-long limits text state long)

  taken-by-cases : (left : ℕ) (text : List ℕ) → (limits.file_bytes < length text) ⊎ (length text ≤ limits.file_bytes) → nested_calls limits held left file state (take (limits.file_bytes + 1) text) ≡ nested_calls limits held left file state text
  taken-by-cases left text (inl long) =
      let longer : limits.file_bytes < length (take (limits.file_bytes + 1) text) = omega (arith, length-take (limits.file_bytes + 1) text) in
      calls-long left (take (limits.file_bytes + 1) text) longer ∙ sym (calls-long left text long)
  taken-by-cases left text (inr short) =
      ap (nested_calls limits held left file state) (take_all (limits.file_bytes + 1) text (omega arith))

  -- of a file that is too long, it is enough to read one byte too many
  pub calls-taken : (left : ℕ) (got : Option (List ℕ)) → held_calls (nested_calls limits held left) file state (option_map (take (limits.file_bytes + 1)) got) ≡ held_calls (nested_calls limits held left) file state got
  calls-taken left None = refl
  calls-taken left (Some text) = taken-by-cases left text (cases_lt limits.file_bytes (length text))

-- a file is entered, if one more may be open
pub calls-entered : (limits : Limits) (held : Held) (left more : ℕ) (file : TestFile) (state : State) (got : Option (List ℕ)) (text : List ℕ) → left ≡ suc more → got ≡ Some text → calls_behind (on_line file.path 0 (admitted limits text state)) (λ next. carried_calls (nested limits held more) (nested_calls limits held more) limits held file [] next (commands_read (beginning text)).0) ≡ held_calls (nested_calls limits held left) file state got
calls-entered limits held left more file state got text some is =
    sym (ap (held_calls (nested_calls limits held left) file state) is ∙ calls-some limits held file state left more text some)

-- what was made so far of the calls of a walk over files, and what is still due
pub record MadeSoFar (before now : Option (List FileCall)) (whole rest : List FileCall) : Type 0 where
  pub front : List FileCall
  pub parts : whole ≡ front ++ rest
  pub added : Becomes before now (Adds front)

pub so-far-start : (told : Option (List FileCall)) (whole : List FileCall) → MadeSoFar told told whole whole
so-far-start told whole = record { front = []; parts = refl; added = none-added told }

-- some of what is due was made
pub so-far-then : (before between now : Option (List FileCall)) (whole rest more left : List FileCall) → MadeSoFar before between whole rest → rest ≡ more ++ left → Becomes between now (Adds more) → MadeSoFar before now whole left
so-far-then before between now whole rest more left so_far is made = record {
  front = so_far.front ++ more;
  parts = so_far.parts ∙ ap (λ xs. so_far.front ++ xs) is ∙ sym (append_assoc so_far.front more left);
  added = added-then so_far.front more before between now so_far.added made;
}

-- the last calls
pub so-far-end : {A : Type 0} (before between now : Option (List FileCall)) (whole rest : List FileCall) (result : Result A ReadFault) → MadeSoFar before between whole rest → MakesCalls rest between now result → MakesCalls whole before now result
so-far-end before between now whole rest result so_far made =
    made-same (so_far.front ++ rest) whole before now result (sym so_far.parts) (behind so_far.front rest before between now result so_far.added made)

-- what holds so far of the calls of a walk, by what the files tell that they hold
abbrev pub CallsSoFar : Option Held → (Held → List FileCall) → (Held → List FileCall) → Option (List FileCall) → Option (List FileCall) → Type 0
CallsSoFar told whole rest before now = (held : Held) → TellsHeld held told → MadeSoFar before now (whole held) (rest held)

-- the commands of a file from a place on
module _ (limits : Limits) (more : ℕ) (file : TestFile) where
  abbrev pub calls_from : List OpenIf → State → Place → Held → List FileCall
  calls_from ifs state place held = carried_calls (nested limits held more) (nested_calls limits held more) limits held file ifs state (commands_read place).0

  abbrev pub opened_calls_of : Step → ℕ → Held → List FileCall
  opened_calls_of step line held = opened_calls (nested limits held more) (nested_calls limits held more) limits held file.path line (openings file.dir step.opens) step.state

  -- the calls behind a command
  abbrev pub calls_after : ℕ → Place → Held → Step → List FileCall
  calls_after line place held step = opened_calls_of step line held ++ calls_behind (known_of limits more file step line held) (λ known. calls_from step.ifs known place held)

  -- at the start no `if` is open, and the place is the beginning of the text
  pub calls_from-start : (ifs : List OpenIf) (state : State) (place : Place) (text : List ℕ) → ifs ≡ [] → place ≡ beginning text → (held : Held) → calls_from ifs state place held ≡ calls_from [] state (beginning text) held
  calls_from-start ifs state place text none begun held i = calls_from (none i) state (begun i) held

  pub calls_from-call : (ifs : List OpenIf) (state : State) (call : Call) (old new : Place) → IsNextOf file.path old new (Ok (Some call)) → (held : Held) → calls_from ifs state old held ≡ command_calls limits file.dir ifs state call ++ calls_behind (step_of limits more file ifs state call held) (calls_after call.line new held)
  calls_from-call ifs state call old new next held i =
      carried_calls (nested limits held more) (nested_calls limits held more) limits held file ifs state (next.0 i)

  pub calls_from-end : (ifs : List OpenIf) (state : State) (old new : Place) → IsNextOf file.path old new (Ok None) → (held : Held) → calls_from ifs state old held ≡ []
  calls_from-end ifs state old new next held i =
      carried_calls (nested limits held more) (nested_calls limits held more) limits held file ifs state (next.0 i)

  -- where the text has no more commands, or memory was wanting, no call was made
  pub calls_from-refused : (ifs : List OpenIf) (state : State) (old : Place) (fault : ReadFault) (told : Option (List FileCall)) → EndsWith file.path old fault → (held : Held) → MakesCalls {A = State} (calls_from ifs state old held) told told (Err fault)
  calls_from-refused ifs state old (At f l k) told ends held =
      made-same {A = State} [] (calls_from ifs state old held) told told (Err (At f l k)) (λ i. carried_calls (nested limits held more) (nested_calls limits held more) limits held file ifs state (sym ends.0 i)) (none-added told)
  calls_from-refused ifs state old (FilesFailed path) told ends held = absurd ends
  calls_from-refused ifs state old NoMemory told ends held = no-part (calls_from ifs state old held) told

  module _ (ifs : List OpenIf) (state : State) (call : Call) (old new : Place) (next : IsNextOf file.path old new (Ok (Some call))) (held : Held) (whole : List FileCall) (before between mid : Option (List FileCall)) (so_far : MadeSoFar before between whole (calls_from ifs state old held)) where
    abbrev due : List FileCall
    due = command_calls limits file.dir ifs state call ++ calls_behind (step_of limits more file ifs state call held) (calls_after call.line new held)

    so_due : MadeSoFar before between whole due
    so_due = subst (λ (calls : List FileCall). MadeSoFar before between whole calls) (calls_from-call ifs state call old new next held) so_far

    -- the next command was refused or failed
    pub calls-stopped : (fault : ReadFault) → IsRefusalOf (step_of limits more file ifs state call held) fault → MakesCalls {A = Step} (command_calls limits file.dir ifs state call) between mid (Err fault) → MakesCalls {A = State} whole before mid (Err fault)
    calls-stopped fault is made =
        so-far-end {A = State} before between mid whole due (Err fault) so_due (made-stopped State (step_of limits more file ifs state call held) (calls_after call.line new held) (command_calls limits file.dir ifs state call) between mid fault is made)

    -- it was carried out
    calls-stepped : (step : Step) → step_of limits more file ifs state call held ≡ Ok step → MakesCalls {A = Step} (command_calls limits file.dir ifs state call) between mid (Ok step) → MadeSoFar before mid whole (calls_after call.line new held step)
    calls-stepped step is made =
        so-far-then before between mid whole due (command_calls limits file.dir ifs state call) (calls_after call.line new held step) so_due (ap (λ (r : Result Step ReadFault). command_calls limits file.dir ifs state call ++ calls_behind r (calls_after call.line new held)) is) made

    module _ (now : Option (List FileCall)) (step : Step) (is : step_of limits more file ifs state call held ≡ Ok step) (made : MakesCalls {A = Step} (command_calls limits file.dir ifs state call) between mid (Ok step)) where
      -- a file that it opens was refused or failed
      pub calls-stopped-in : (fault : ReadFault) → IsRefusalOf (known_of limits more file step call.line held) fault → MakesCalls {A = State} (opened_calls_of step call.line held) mid now (Err fault) → MakesCalls {A = State} whole before now (Err fault)
      calls-stopped-in fault refused opened =
          so-far-end {A = State} before mid now whole (calls_after call.line new held step) (Err fault) (calls-stepped step is made) (made-stopped State (known_of limits more file step call.line held) (λ known. calls_from step.ifs known new held) (opened_calls_of step call.line held) mid now fault refused opened)

      -- each file that it opens was read
      pub calls-once-more : (known : State) → known_of limits more file step call.line held ≡ Ok known → MakesCalls {A = State} (opened_calls_of step call.line held) mid now (Ok known) → MadeSoFar before now whole (calls_from step.ifs known new held)
      calls-once-more known behind opened =
          so-far-then before mid now whole (calls_after call.line new held step) (opened_calls_of step call.line held) (calls_from step.ifs known new held) (calls-stepped step is made) (ap (λ (r : Result State ReadFault). opened_calls_of step call.line held ++ calls_behind r (λ known. calls_from step.ifs known new held)) behind) opened

-- files that are opened one after the other, from the one at a place on
module _ (limits : Limits) (left : ℕ) (file : TestFile) (line : ℕ) (opens : Opens) where
  abbrev pub opened_calls_from : List (List ℕ) → State → Held → List FileCall
  opened_calls_from names state held = opened_calls (nested limits held left) (nested_calls limits held left) limits held file.path line (map (opening_of file.dir opens.required) names) state

  pub opened-calls-front : (names : List (List ℕ)) (i : ℕ) (name : List ℕ) (opening : Opening) (state : State) → i < length names → name ≡ get_or names i name → opening ≡ opening_of file.dir opens.required name → (held : Held) → opened_calls_from (drop i names) state held ≡ opening_calls (nested_calls limits held left) limits held opening state ++ calls_behind (opened_one limits left file line opens opening state held) (λ known. opened_calls_from (drop (i + 1) names) known held)
  opened-calls-front names i name opening state within is means held =
      at_drop_more (λ ns. opened_calls_from ns state held) names i name within
      ∙ ap (λ n. opened_calls_from (n ∷ drop (i + 1) names) state held) (sym is)
      ∙ ap (λ o. opening_calls (nested_calls limits held left) limits held o state ++ calls_behind (opened_one limits left file line opens o state held) (λ known. opened_calls_from (drop (i + 1) names) known held)) (sym means)

  module _ (names : List (List ℕ)) (i : ℕ) (name : List ℕ) (opening : Opening) (state : State) (within : i < length names) (is : name ≡ get_or names i name) (means : opening ≡ opening_of file.dir opens.required name) (held : Held) (whole : List FileCall) (before between now : Option (List FileCall)) (so_far : MadeSoFar before between whole (opened_calls_from (drop i names) state held)) where
    abbrev here : List FileCall
    here = opening_calls (nested_calls limits held left) limits held opening state

    abbrev later : Result State ReadFault → List FileCall
    later r = calls_behind r (λ known. opened_calls_from (drop (i + 1) names) known held)

    abbrev one : Result State ReadFault
    one = opened_one limits left file line opens opening state held

    so_here : MadeSoFar before between whole (here ++ later one)
    so_here = subst (λ (calls : List FileCall). MadeSoFar before between whole calls) (opened-calls-front names i name opening state within is means held) so_far

    -- this one was refused or failed
    pub calls-one-stopped : (fault : ReadFault) → IsRefusalOf (opened_one limits left file line opens opening state held) fault → MakesCalls {A = State} (opening_calls (nested_calls limits held left) limits held opening state) between now (Err fault) → MakesCalls {A = State} whole before now (Err fault)
    calls-one-stopped fault refused made =
        so-far-end {A = State} before between now whole (here ++ later one) (Err fault) so_here (made-stopped State one (λ known. opened_calls_from (drop (i + 1) names) known held) here between now fault refused made)

    -- this one was read
    pub calls-one-more : (known : State) → opened_one limits left file line opens opening state held ≡ Ok known → MakesCalls {A = State} (opening_calls (nested_calls limits held left) limits held opening state) between now (Ok known) → MadeSoFar before now whole (opened_calls_from (drop (i + 1) names) known held)
    calls-one-more known read made =
        so-far-then before between now whole (here ++ later one) here (opened_calls_from (drop (i + 1) names) known held) so_here (ap (λ (r : Result State ReadFault). here ++ later r) read) made

  pub opened-calls-all : (names : List (List ℕ)) (i : ℕ) (state : State) → length names ≤ i → (held : Held) → opened_calls_from (drop i names) state held ≡ []
  opened-calls-all names i state past held = at_drop_all (λ ns. opened_calls_from ns state held) names i past

-- which calls were made, where the files tell what they hold
pub told-made : {A : Type 0} (told : Option Held) (calls : Held → List FileCall) (before now : Option (List FileCall)) (result : Result A ReadFault) → MakesCallsBy told calls before now result → IfSome told (λ held. MakesCalls (calls held) before now result)
told-made None calls before now result made = tt
told-made (Some held) calls before now result made = made held (λ path. refl)
