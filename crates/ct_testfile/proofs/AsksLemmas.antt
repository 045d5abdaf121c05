-- Which path a fault of the files names, step by step.
use Rattle.std.proofs.Common.{◌≡◌, ℕ, zero, suc, ◌+◌, ◌<◌, ◌≤◌, ◌⊎◌, inl, inr, true, false, IsOkAnd, IsSomeAnd, IfErr, IfSome, get_or, List, [], ◌∷◌, length, take, drop, map, Option, Some, None, option_map, Result, Ok, Err, refl, sym, ap, ◌∙◌, subst, arith, length-take}
use Rattle.std.proofs.lemmas.List.{take_all, at_drop_more}
use Rattle.std.proofs.lemmas.Bool.{cases_lt, false≢true}
use Rattle.ct_base.specs.Outside.{FilesTell, Held}
use Rattle.ct_base.specs.Path.{joined}
use Rattle.ct_base.specs.declared.files.FilesFault.{FilesFault}
use Rattle.ct_base.specs.declared.files.FilesFault.TheVariants as Files
use Rattle.ct_lex.specs.Place.{Place, beginning}
use Rattle.ct_lex.specs.Reads.{commands_read}
use Rattle.ct_lex.specs.declared.call.Call.{Call}
use Rattle.ct_suite.specs.declared.value.Value.{Value}
use Rattle.ct_testfile.specs.Asks.{AsksWithin, Blames, BlamesBy, CallAsks, CarriedAsk, ConditionAsks, IsEvaluated, NamesPath, NestedAsks, OpenedAsk, OpeningAsks}
use Rattle.ct_testfile.specs.Outcome.{◌>>=◌, on_line}
use Rattle.ct_testfile.specs.Condition.{is_exists}
use Rattle.ct_testfile.specs.Commands.{begun, opening_of, openings}
use Rattle.ct_testfile.specs.Ifs.{flow_of, innermost, stepped}
use Rattle.ct_testfile.specs.Says.{IfFilesFailed, IsNextOf, Over, TellsHeld, Unfailed, files_fault}
use Rattle.ct_testfile.specs.Tree.{admitted, all_opened, behind_call, beginning_with, nested, opened_by, top}
use Rattle.ct_testfile.proofs.OverLemmas.{SoFar}
use Rattle.ct_testfile.proofs.TreeLemmas.{admitted-long, known_of, opened_from, opened_one, step_of}
use Rattle.ct_testfile.specs.declared.branch.Branch.TheVariants.{Waiting}
use Rattle.ct_testfile.specs.declared.branch.OpenIf.{OpenIf}
use Rattle.ct_testfile.specs.declared.command.Flow.{Flow}
use Rattle.ct_testfile.specs.declared.command.Flow.TheVariants.{ElseIf}
use Rattle.ct_testfile.specs.declared.fault.ReadFault.{ReadFault}
use Rattle.ct_testfile.specs.declared.fault.ReadFault.TheVariants.{At, FilesFailed, NoMemory}
use Rattle.ct_testfile.specs.declared.fault.ReadKind.{ReadKind}
use Rattle.ct_testfile.specs.declared.limits.Limits.{Limits}
use Rattle.ct_testfile.specs.declared.opening.Opening.{Opening}
use Rattle.ct_testfile.specs.declared.opening.Opens.{Opens}
use Rattle.ct_testfile.specs.declared.opening.TestFile.{TestFile}
use Rattle.ct_testfile.specs.declared.state.State.{State}
use Rattle.ct_testfile.specs.declared.step.Step.{Step}

-- a fault that is none of the files blames no path
pub unblamed : {A : Type 0} (asks : List ℕ → Type 0) (result : Result A ReadFault) → Unfailed result → Blames asks result
unblamed asks (Ok x) unfailed = tt
unblamed asks (Err (At file line kind)) unfailed = tt
unblamed asks (Err (FilesFailed path)) unfailed = absurd unfailed
unblamed asks (Err NoMemory) unfailed = tt

-- who asks for more may be blamed for as much
pub blamed-fault : (asks more : List ℕ → Type 0) (fault : ReadFault) → ((path : List ℕ) → asks path → more path) → IfFilesFailed fault asks → IfFilesFailed fault more
blamed-fault asks more (At file line kind) wider blames = tt
blamed-fault asks more (FilesFailed path) wider blames = wider path blames
blamed-fault asks more NoMemory wider blames = tt

pub blamed : {A : Type 0} (asks more : List ℕ → Type 0) (result : Result A ReadFault) → ((path : List ℕ) → asks path → more path) → Blames asks result → Blames more result
blamed asks more (Ok x) wider blames = tt
blamed asks more (Err fault) wider blames = blamed-fault asks more fault wider blames

-- the fault of a call on files is about its path
pub blamed-path : (asks : List ℕ → Type 0) (path : List ℕ) (fault : FilesFault) → asks path → IfFilesFailed (files_fault path fault) asks
blamed-path asks path Files.Failed is = is
blamed-path asks path Files.NoMemory is = tt

-- a value that is known
pub ok-and : {A E : Type 0} (r : Result A E) (x : A) (P : A → Type 0) → r ≡ Ok x → P x → IsOkAnd r P
ok-and r x P is holds = subst (λ r. IsOkAnd r P) (sym is) holds

pub some-and : {A : Type 0} (o : Option A) (x : A) (P : A → Type 0) → o ≡ Some x → P x → IsSomeAnd o P
some-and o x P is holds = subst (λ o. IsSomeAnd o P) (sym is) holds

-- a step that returned a value on a line
pub on_line-ok : {A : Type 0} (file : List ℕ) (line : ℕ) (r : Result A ReadKind) (x : A) → on_line file line r ≡ Ok x → r ≡ Ok x
on_line-ok file line (Ok y) x is = cc
on_line-ok file line (Err kind) x is = cc

-- the path that values name
pub names-second : (dir : List ℕ) (values : List Value) (name : Value) (path : List ℕ) → is_exists values ≡ true → name ≡ get_or values 1 name → path ≡ joined dir name.text → NamesPath dir values path
names-second dir [] name path is at names = absurd (false≢true is)
names-second dir (word ∷ []) name path is at names = absurd (false≢true is)
names-second dir (word ∷ other ∷ []) name path is at names = (is, names ∙ ap (λ (value : Value). joined dir value.text) at)
names-second dir (word ∷ other ∷ next ∷ values) name path is at names = absurd (false≢true is)

-- a text that is read, if one more file may be open
module _ (limits : Limits) (held : Held) (file : TestFile) (state : State) (path : List ℕ) where
  pub asks-inside : (left more : ℕ) (text : List ℕ) → left ≡ suc more → IsOkAnd (on_line file.path 0 (admitted limits text state)) (λ next. CarriedAsk (nested limits held more) (NestedAsks limits held more) limits held file [] next (commands_read (beginning text)).0 path) → NestedAsks limits held left file state text path
  unfolding NestedAsks
  asks-inside left more text some asks = subst (λ n. NestedAsks limits held n file state text path) (sym some) asks

  -- a text that is cut behind the limit is too long, and asks for nothing
  long-asks : (left : ℕ) (text : List ℕ) → limits.file_bytes < length text → NestedAsks limits held left file state text path → ⊥
  unfolding NestedAsks
  long-asks zero text long asks = asks
  long-asks (suc more) text long asks =
      subst (λ a. IsOkAnd (on_line file.path 0 a) (λ next. CarriedAsk (nested limits held more) (NestedAsks limits held more) limits held file [] next (commands_read (beginning text)).0 path)) (admitted-long limits text state long) asks

  taken-by-cases : (left : ℕ) (text : List ℕ) → (limits.file_bytes < length text) ⊎ (length text ≤ limits.file_bytes) → NestedAsks limits held left file state (take (limits.file_bytes + 1) text) path → NestedAsks limits held left file state text path
  taken-by-cases left text (inl long) asks =
      let longer : limits.file_bytes < length (take (limits.file_bytes + 1) text) = omega (arith, length-take (limits.file_bytes + 1) text) in
      absurd (long-asks left (take (limits.file_bytes + 1) text) longer asks)
  taken-by-cases left text (inr short) asks =
      subst (λ t. NestedAsks limits held left file state t path) (take_all (limits.file_bytes + 1) text (omega arith)) asks

  -- of a file that is too long, it is enough to read one byte too many
  pub asks-taken : (left : ℕ) (got : Option (List ℕ)) → IsSomeAnd (option_map (take (limits.file_bytes + 1)) got) (λ text. NestedAsks limits held left file state text path) → IsSomeAnd got (λ text. NestedAsks limits held left file state text path)
  asks-taken left None asks = asks
  asks-taken left (Some text) asks = taken-by-cases left text (cases_lt limits.file_bytes (length text)) asks

-- what is asked for so far of a walk over files: what the rest asks for, the whole asks for
abbrev pub AskSoFar : Option Held → (Held → List ℕ → Type 0) → (Held → List ℕ → Type 0) → Type 0
AskSoFar told start rest = (held : Held) → TellsHeld held told → (path : List ℕ) → rest held path → start held path

-- the commands of a file from a place on
module _ (limits : Limits) (more : ℕ) (file : TestFile) where
  abbrev pub asks_from : List OpenIf → State → Place → Held → List ℕ → Type 0
  asks_from ifs state place held path = CarriedAsk (nested limits held more) (NestedAsks limits held more) limits held file ifs state (commands_read place).0 path

  abbrev pub opened_asks : Step → ℕ → Held → List ℕ → Type 0
  opened_asks step line held path = OpenedAsk (nested limits held more) (NestedAsks limits held more) held file.path line (openings file.dir step.opens) step.state path

  -- at the start no `if` is open, and the place is the beginning of the text
  pub asks_from-start : (ifs : List OpenIf) (state : State) (place : Place) (text : List ℕ) → ifs ≡ [] → place ≡ beginning text → (held : Held) (path : List ℕ) → asks_from ifs state place held path → CarriedAsk (nested limits held more) (NestedAsks limits held more) limits held file [] state (commands_read (beginning text)).0 path
  asks_from-start ifs state place text none begun held path asks =
      subst (λ (p : Place). asks_from [] state p held path) begun (subst (λ (i : List OpenIf). asks_from i state place held path) none asks)

  module _ (ifs : List OpenIf) (state : State) (call : Call) (old new : Place) (next : IsNextOf file.path old new (Ok (Some call))) (held : Held) (path : List ℕ) where
    -- the next command asks
    pub asks-call : CallAsks limits file.dir ifs state call path → asks_from ifs state old held path
    asks-call asks =
        subst (λ calls. CarriedAsk (nested limits held more) (NestedAsks limits held more) limits held file ifs state calls path) (sym next.0) (inl asks)

    -- a file that it opens asks
    pub asks-opened : (step : Step) → step_of limits more file ifs state call held ≡ Ok step → opened_asks step call.line held path → asks_from ifs state old held path
    asks-opened step is asks =
        subst (λ calls. CarriedAsk (nested limits held more) (NestedAsks limits held more) limits held file ifs state calls path) (sym next.0) (inr (inl (ok-and (step_of limits more file ifs state call held) step (λ step. opened_asks step call.line held path) is asks)))

    -- a command behind it asks
    pub asks-behind : (step : Step) (known : State) → step_of limits more file ifs state call held ≡ Ok step → known_of limits more file step call.line held ≡ Ok known → asks_from step.ifs known new held path → asks_from ifs state old held path
    asks-behind step known is opens asks =
        let goes : Result Step ReadFault → Result (List OpenIf × State) ReadFault = λ r. r >>= λ s. known_of limits more file s call.line held >>= λ next. Ok (s.ifs, next) in
        let behind : behind_call (nested limits held more) limits held file ifs state call ≡ Ok (step.ifs, known) =
        ap goes is ∙ ap (λ (r : Result State ReadFault). r >>= λ next. Ok (step.ifs, next)) opens in
        subst (λ calls. CarriedAsk (nested limits held more) (NestedAsks limits held more) limits held file ifs state calls path) (sym next.0) (inr (inr (ok-and (behind_call (nested limits held more) limits held file ifs state call) (step.ifs, known) (λ next. CarriedAsk (nested limits held more) (NestedAsks limits held more) limits held file next.0 next.1 (commands_read new).0 path) behind asks)))

-- files that are opened one after the other, from the one at a place on
module _ (limits : Limits) (left : ℕ) (file : TestFile) (line : ℕ) (opens : Opens) where
  abbrev pub opened_ask_from : List (List ℕ) → State → Held → List ℕ → Type 0
  opened_ask_from names state held path = OpenedAsk (nested limits held left) (NestedAsks limits held left) held file.path line (map (opening_of file.dir opens.required) names) state path

  module _ (names : List (List ℕ)) (i : ℕ) (name : List ℕ) (opening : Opening) (state : State) (within : i < length names) (is : name ≡ get_or names i name) (means : opening ≡ opening_of file.dir opens.required name) (held : Held) (path : List ℕ) where
    front : map (opening_of file.dir opens.required) (drop i names) ≡ opening ∷ map (opening_of file.dir opens.required) (drop (i + 1) names)
    front =
        at_drop_more (λ ns. map (opening_of file.dir opens.required) ns) names i name within
        ∙ ap (λ n. opening_of file.dir opens.required n ∷ map (opening_of file.dir opens.required) (drop (i + 1) names)) (sym is)
        ∙ ap (λ (o : Opening). o ∷ map (opening_of file.dir opens.required) (drop (i + 1) names)) (sym means)

    abbrev ask_of : List Opening → Type 0
    ask_of opened = OpenedAsk (nested limits held left) (NestedAsks limits held left) held file.path line opened state path

    -- this one asks
    pub asks-one : OpeningAsks (NestedAsks limits held left) held opening state path → opened_ask_from (drop i names) state held path
    asks-one asks = subst ask_of (sym front) (inl asks)

    -- one behind it asks
    pub asks-more : (known : State) → opened_one limits left file line opens opening state held ≡ Ok known → opened_ask_from (drop (i + 1) names) known held path → opened_ask_from (drop i names) state held path
    asks-more known opened asks =
        subst ask_of (sym front) (inr (ok-and (opened_one limits left file line opens opening state held) known (λ next. opened_ask_from (drop (i + 1) names) next held path) opened asks))

-- what a fault names, where the files tell what they hold
pub told-blamed : {A : Type 0} (told : Option Held) (asks : Held → List ℕ → Type 0) (result : Result A ReadFault) → BlamesBy told asks result → IfErr result (λ fault. IfSome told (λ held. IfFilesFailed fault (asks held)))
told-blamed told asks (Ok x) blames = tt
told-blamed None asks (Err fault) blames = tt
told-blamed (Some held) asks (Err fault) blames = blames held (λ path. refl)
