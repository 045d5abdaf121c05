-- An `if` as it is written, and the commands that it carries out.
use Rattle.std.proofs.Common.{◌≡◌, ℕ, zero, suc, Bool, true, false, codes, List, [], ◌∷◌, ◌++◌, length, append-nil, append_assoc, Option, Some, None, IfSome, IfOk, Result, Ok, Err, if◌then◌else◌, refl, sym, ap, subst, ◌∙◌}
use Rattle.std.specs.List.{flat_map, AllByRecursion}
use Rattle.ct_base.specs.Outside.{Held}
use Rattle.ct_lex.specs.Reads.{Ending}
use Rattle.ct_lex.specs.declared.call.Call.{Call}
use Rattle.ct_suite.specs.declared.value.Value.{Value}
use Rattle.ct_testfile.specs.Outcome.{◌>>=◌, on_line}
use Rattle.ct_testfile.specs.Condition.{holds}
use Rattle.ct_testfile.specs.Commands.{begun, with_command, carried_out, command_of, no_files}
use Rattle.ct_testfile.specs.Ifs.{flow_of, is_live, asked, behind_if, behind_elseif, behind_else, in_branch, done, stepped_by, stepped}
use Rattle.ct_testfile.specs.Tree.{FileReading, carried}
use Rattle.ct_testfile.specs.Laws.{WrittenBranch, WrittenIf, calls_of, else_calls, all_calls, open_behind, open_after, AreWhole, Begins, IsIf, tested, chosen, carried_behind}
use Rattle.ct_testfile.specs.declared.branch.Branch.{Branch}
use Rattle.ct_testfile.specs.declared.branch.Branch.TheVariants.{Taken, Waiting, Over, ElseTaken, ElseOver, Idle}
use Rattle.ct_testfile.specs.declared.branch.OpenIf.{OpenIf}
use Rattle.ct_testfile.specs.declared.command.Flow.{Flow}
use Rattle.ct_testfile.specs.declared.command.Flow.TheVariants.{If, ElseIf, Else, EndIf}
use Rattle.ct_testfile.specs.declared.fault.ReadFault.{ReadFault}
use Rattle.ct_testfile.specs.declared.fault.ReadKind.{ReadKind}
use Rattle.ct_testfile.specs.declared.limits.Limits.{Limits}
use Rattle.ct_testfile.specs.declared.opening.TestFile.{TestFile}
use Rattle.ct_testfile.specs.declared.state.State.{State}
use Rattle.ct_testfile.specs.declared.step.Step.{Step}
use Rattle.ct_testfile.proofs.TreeLemmas.{known_behind, carried-call}

-- the commands behind the branches of `elseif`, up to those behind the `if`
abbrev pub tail_of : List WrittenBranch → Option WrittenBranch → Call → List Call → List Call
tail_of [] last end rest = else_calls last ++ end ∷ rest
tail_of (branch ∷ branches) last end rest = calls_of branch ++ tail_of branches last end rest

later_calls : (later : List WrittenBranch) (last : Option WrittenBranch) (end : Call) (rest : List Call) → (flat_map calls_of later ++ (else_calls last ++ end ∷ [])) ++ rest ≡ tail_of later last end rest
later_calls [] last end rest = append_assoc (else_calls last) (end ∷ []) rest
later_calls (branch ∷ later) last end rest =
    let more = flat_map calls_of later in
    let close = else_calls last ++ end ∷ [] in
    ap (λ xs. xs ++ rest) (append_assoc (calls_of branch) more close)
    ∙ append_assoc (calls_of branch) (more ++ close) rest
    ∙ ap (λ xs. calls_of branch ++ xs) (later_calls later last end rest)

all_calls_are : (whole : WrittenIf) (rest : List Call) → all_calls whole ++ rest ≡ calls_of whole.first ++ tail_of whole.later whole.last whole.end rest
all_calls_are whole rest = later_calls (whole.first ∷ whole.later) whole.last whole.end rest

-- behind a command that belongs to no `if`, nothing is whole
lost : (calls : List Call) → open_after calls None ≡ None
lost [] = refl
lost (call ∷ calls) = refl

none_is_some : {A : Type 0} (calls : List Call) (n : ℕ) → open_after calls None ≡ Some n → A
none_is_some calls n h = absurd (let no = sym (lost calls) ∙ h in cc)

after-append : (calls more : List Call) (count : Option ℕ) → open_after (calls ++ more) count ≡ open_after more (open_after calls count)
after-append [] more count = refl
after-append (call ∷ calls) more None = sym (lost more)
after-append (call ∷ calls) more (Some count) = after-append calls more (open_behind (flow_of call.name) count)

-- where one more `if` is open in front, one more is open behind
one_more : (calls : List Call) (m n : ℕ) → open_after calls (Some m) ≡ Some n → open_after calls (Some (suc m)) ≡ Some (suc n)
one_more [] m n h = ap (λ o. open_behind (Some If) (get o)) h
  where
    get : Option ℕ → ℕ
    get None = 0
    get (Some x) = x
one_more (call ∷ calls) m n h = by (λ k w. one_more calls k n w) (flow_of call.name) m h
  where
    by : ((k : ℕ) → open_after calls (Some k) ≡ Some n → open_after calls (Some (suc k)) ≡ Some (suc n)) → (flow : Option Flow) (k : ℕ) → open_after calls (open_behind flow k) ≡ Some n → open_after calls (open_behind flow (suc k)) ≡ Some (suc n)
    by again None k w = again k w
    by again (Some If) k w = again (suc k) w
    by again (Some ElseIf) zero w = none_is_some calls n w
    by again (Some ElseIf) (suc k) w = again (suc k) w
    by again (Some Else) zero w = none_is_some calls n w
    by again (Some Else) (suc k) w = again (suc k) w
    by again (Some EndIf) zero w = none_is_some calls n w
    by again (Some EndIf) (suc k) w = again k w

-- behind a branch as many `if` are open as behind its first command
behind_branch : (name : List ℕ) (branch : WrittenBranch) (more : List Call) (count : ℕ) → Begins name branch → open_behind (flow_of name) count ≡ Some 1 → open_after (calls_of branch ++ more) (Some count) ≡ open_after more (Some 1)
behind_branch name branch more count is opens =
    ap (λ n. open_after (branch.body ++ more) (open_behind (flow_of n) count)) is.head
    ∙ ap (open_after (branch.body ++ more)) opens
    ∙ after-append branch.body more (Some 1)
    ∙ ap (open_after more) (one_more branch.body 0 0 is.body)

behind_later : (later : List WrittenBranch) (last : Option WrittenBranch) (end : Call) → AllByRecursion (Begins (codes "elseif")) later → IfSome last (Begins (codes "else")) → end.name ≡ codes "endif" → open_after (tail_of later last end []) (Some 1) ≡ Some 0
behind_later [] None end all is end_is = ap (λ n. open_behind (flow_of n) 1) end_is
behind_later [] (Some b) end all is end_is =
    behind_branch (codes "else") b (end ∷ []) 1 is refl ∙ ap (λ n. open_behind (flow_of n) 1) end_is
behind_later (b ∷ later) last end all is end_is =
    behind_branch (codes "elseif") b (tail_of later last end []) 1 all.0 refl ∙ behind_later later last end all.1 is end_is

-- the commands of an `if` are whole
pub if-whole : (whole : WrittenIf) → IsIf whole → AreWhole (all_calls whole)
if-whole whole is =
    ap (λ calls. open_after calls (Some 0)) (sym (append-nil (all_calls whole)) ∙ all_calls_are whole [])
    ∙ behind_branch (codes "if") whole.first (tail_of whole.later whole.last whole.end []) 0 is.first refl
    ∙ behind_later whole.later whole.last whole.end is.later is.last is.end

-- a command that belongs to no `if` is whole
pub other-whole : (call : Call) → flow_of call.name ≡ None → AreWhole (call ∷ [])
other-whole call other = ap (λ f. open_behind f 0) other

-- commands that are whole, one list behind the other, are whole
pub both-whole : (calls more : List Call) → AreWhole calls → AreWhole more → AreWhole (calls ++ more)
both-whole calls more a b = after-append calls more (Some 0) ∙ ap (open_after more) a ∙ b

-- the step, with more open `if` around its own
abbrev pub around : List OpenIf → Step → Step
around outer step = record { ifs = step.ifs ++ outer; state = step.state; opens = step.opens }

live_around : (inner outer : List OpenIf) → is_live outer ≡ true → is_live (inner ++ outer) ≡ is_live inner
live_around [] outer h = h
live_around (x ∷ inner) outer h = refl

then_around : {A : Type 0} (r : Result A ReadKind) (f : A → Step) (outer : List OpenIf) → (r >>= λ x. Ok (around outer (f x))) ≡ ((r >>= λ x. Ok (f x)) >>= λ step. Ok (around outer step))
then_around (Ok x) f outer = refl
then_around (Err kind) f outer = refl

then_ok : {A : Type 0} (r : Result A ReadKind) (f : A → Step) (P : Step → Type 0) → ((x : A) → P (f x)) → IfOk (r >>= λ x. Ok (f x)) P
then_ok (Ok x) f P h = h x
then_ok (Err kind) f P h = tt

-- ifs that stand in a branch that is not carried out, by their lines
abbrev pub idles : List ℕ → List OpenIf → List OpenIf
idles [] ifs = ifs
idles (line ∷ lines) ifs = record { line = line; branch = Idle } ∷ idles lines ifs

idles_are_off : (lines : List ℕ) (ifs : List OpenIf) → is_live ifs ≡ false → is_live (idles lines ifs) ≡ false
idles_are_off [] ifs h = h
idles_are_off (line ∷ lines) ifs h = refl

module _ (limits : Limits) (held : Held) (dir : List ℕ) where
  done_around : (call : Call) (state : State) (inner outer : List OpenIf) (live : Bool) → done limits dir call (inner ++ outer) state live ≡ (done limits dir call inner state live >>= λ step. Ok (around outer step))
  done_around call state inner outer true =
      then_around (carried_out limits dir (command_of call.name) call.args state) (λ next. record { ifs = inner; state = next.0; opens = next.1 }) outer
  done_around call state inner outer false = refl

  step_around : (flow : Option Flow) (call : Call) (state : State) (inner outer : List OpenIf) (n : ℕ) → is_live outer ≡ true → open_behind flow (length inner) ≡ Some n → stepped_by limits held dir call (inner ++ outer) state flow ≡ (stepped_by limits held dir call inner state flow >>= λ step. Ok (around outer step))
  step_around None call state inner outer n live h =
      ap (done limits dir call (inner ++ outer) state) (live_around inner outer live) ∙ done_around call state inner outer (is_live inner)
  step_around (Some If) call state inner outer n live h =
      ap (λ b. behind_if limits held dir call state b >>= λ found. Ok (in_branch call.line (inner ++ outer) found)) (live_around inner outer live)
      ∙ then_around (behind_if limits held dir call state (is_live inner)) (in_branch call.line inner) outer
  step_around (Some ElseIf) call state [] outer n live h = absurd (let no : None ≡ Some n = h in cc)
  step_around (Some ElseIf) call state (x ∷ inner) outer n live h =
      then_around (behind_elseif limits held dir call state x.branch) (in_branch x.line inner) outer
  step_around (Some Else) call state [] outer n live h = absurd (let no : None ≡ Some n = h in cc)
  step_around (Some Else) call state (x ∷ inner) outer n live h =
      then_around (behind_else limits state x.branch) (in_branch x.line inner) outer
  step_around (Some EndIf) call state [] outer n live h = absurd (let no : None ≡ Some n = h in cc)
  step_around (Some EndIf) call state (x ∷ inner) outer n live h = refl

  done_opens : (call : Call) (state : State) (ifs : List OpenIf) (live : Bool) → IfOk (done limits dir call ifs state live) (λ step. Some (length step.ifs) ≡ Some (length ifs))
  done_opens call state ifs true =
      then_ok (carried_out limits dir (command_of call.name) call.args state) (λ next. record { ifs = ifs; state = next.0; opens = next.1 }) (λ step. Some (length step.ifs) ≡ Some (length ifs)) (λ next. refl)
  done_opens call state ifs false = refl

  -- behind a step as many `if` are open as the command tells
  step_opens : (flow : Option Flow) (call : Call) (state : State) (ifs : List OpenIf) → IfOk (stepped_by limits held dir call ifs state flow) (λ step. Some (length step.ifs) ≡ open_behind flow (length ifs))
  step_opens None call state ifs = done_opens call state ifs (is_live ifs)
  step_opens (Some If) call state ifs =
      then_ok (behind_if limits held dir call state (is_live ifs)) (in_branch call.line ifs) (λ step. Some (length step.ifs) ≡ Some (suc (length ifs))) (λ found. refl)
  step_opens (Some ElseIf) call state [] = tt
  step_opens (Some ElseIf) call state (x ∷ ifs) =
      then_ok (behind_elseif limits held dir call state x.branch) (in_branch x.line ifs) (λ step. Some (length step.ifs) ≡ Some (suc (length ifs))) (λ found. refl)
  step_opens (Some Else) call state [] = tt
  step_opens (Some Else) call state (x ∷ ifs) =
      then_ok (behind_else limits state x.branch) (in_branch x.line ifs) (λ step. Some (length step.ifs) ≡ Some (suc (length ifs))) (λ found. refl)
  step_opens (Some EndIf) call state [] = tt
  step_opens (Some EndIf) call state (x ∷ ifs) = refl

  -- a condition is evaluated: the branch is taken if it holds
  abbrev pub branch_by : Bool × State → Branch × State
  branch_by found = (if found.0 then Taken else Waiting, found.1)

  asked_is : (call : Call) (state : State) → asked limits held dir call state ≡ (tested limits held dir call state >>= λ found. Ok (branch_by found))
  asked_is call state = by (begun limits call.args state)
    where
      by_holds : (is : Result Bool ReadKind) (next : State) → (is >>= λ b. Ok (if b then Taken else Waiting, next)) ≡ ((is >>= λ b. Ok (b, next)) >>= λ found. Ok (branch_by found))
      by_holds (Ok b) next = refl
      by_holds (Err kind) next = refl

      by : (read : Result (List Value × State) ReadKind) → (read >>= λ r. holds held dir r.1.variables r.0 >>= λ is. Ok (if is then Taken else Waiting, r.1)) ≡ ((read >>= λ r. holds held dir r.1.variables r.0 >>= λ is. Ok (is, r.1)) >>= λ found. Ok (branch_by found))
      by (Ok r) = by_holds (holds held dir r.1.variables r.0) r.1
      by (Err kind) = refl

module _ (read : FileReading) (limits : Limits) (held : Held) (file : TestFile) (ending : Ending) where
  -- the state behind commands of the file
  abbrev pub go : List OpenIf → State → List Call → Result State ReadFault
  go ifs state calls = carried read limits held file ifs state calls ending

  -- the state behind commands that follow a step
  abbrev pub after : ℕ → List Call → Result Step ReadKind → Result State ReadFault
  after line calls step =
      on_line file.path line step >>= λ s. known_behind read limits held file s line >>= λ known. go s.ifs known calls

  go_by : (flow : Option Flow) (ifs : List OpenIf) (state : State) (call : Call) (calls : List Call) → flow_of call.name ≡ flow → go ifs state (call ∷ calls) ≡ after call.line calls (stepped_by limits held file.dir call ifs state flow)
  go_by flow ifs state call calls is =
      carried-call read limits held file ifs state call calls ending ∙ ap (λ f. after call.line calls (stepped_by limits held file.dir call ifs state f)) is

  -- a command of an `if` whose step is known
  go_to : (flow : Flow) (ifs : List OpenIf) (state : State) (call : Call) (calls : List Call) (goes : List OpenIf) (next : State) → flow_of call.name ≡ Some flow → stepped_by limits held file.dir call ifs state (Some flow) ≡ Ok (record { ifs = goes; state = next; opens = no_files }) → go ifs state (call ∷ calls) ≡ go goes next calls
  go_to flow ifs state call calls goes next is step =
      go_by (Some flow) ifs state call calls is ∙ ap (after call.line calls) step

  -- whole commands in a branch that is not carried out change nothing
  skipped : (calls : List Call) (lines : List ℕ) (state : State) (ifs : List OpenIf) (rest : List Call) → is_live ifs ≡ false → open_after calls (Some (length lines)) ≡ Some 0 → go (idles lines ifs) state (calls ++ rest) ≡ go ifs state rest
  skipped [] [] state ifs rest off whole = refl
  skipped [] (line ∷ lines) state ifs rest off whole = absurd (let no : Some (suc (length lines)) ≡ Some 0 = whole in cc)
  skipped (call ∷ calls) lines state ifs rest off whole =
      by (λ ls w. skipped calls ls state ifs rest off w) (flow_of call.name) lines refl whole
    where
      by : ((ls : List ℕ) → open_after calls (Some (length ls)) ≡ Some 0 → go (idles ls ifs) state (calls ++ rest) ≡ go ifs state rest) →
          (flow : Option Flow) (ls : List ℕ) → flow_of call.name ≡ flow → open_after calls (open_behind flow (length ls)) ≡ Some 0 → go (idles ls ifs) state (call ∷ calls ++ rest) ≡ go ifs state rest
      by again None ls is w =
          go_by None (idles ls ifs) state call (calls ++ rest) is
          ∙ ap (λ b. after call.line (calls ++ rest) (done limits file.dir call (idles ls ifs) state b)) (idles_are_off ls ifs off)
          ∙ again ls w
      by again (Some If) ls is w =
          go_to If (idles ls ifs) state call (calls ++ rest) (idles (call.line ∷ ls) ifs) state is
          (ap (λ b. behind_if limits held file.dir call state b >>= λ found. Ok (in_branch call.line (idles ls ifs) found)) (idles_are_off ls ifs off))
          ∙ again (call.line ∷ ls) w
      by again (Some ElseIf) [] is w = none_is_some calls 0 w
      by again (Some ElseIf) (l ∷ ls) is w = go_to ElseIf (idles (l ∷ ls) ifs) state call (calls ++ rest) (idles (l ∷ ls) ifs) state is refl ∙ again (l ∷ ls) w
      by again (Some Else) [] is w = none_is_some calls 0 w
      by again (Some Else) (l ∷ ls) is w = go_to Else (idles (l ∷ ls) ifs) state call (calls ++ rest) (idles (l ∷ ls) ifs) state is refl ∙ again (l ∷ ls) w
      by again (Some EndIf) [] is w = none_is_some calls 0 w
      by again (Some EndIf) (l ∷ ls) is w = go_to EndIf (idles (l ∷ ls) ifs) state call (calls ++ rest) (idles ls ifs) state is refl ∙ again ls w

  -- whole commands in a branch that is carried out do what they do in front of `rest`
  module _ (outer base : List OpenIf) (tail rest : List Call) (outer_live : is_live outer ≡ true) (base_live : is_live base ≡ true) (ends : (state : State) → go outer state tail ≡ go base state rest) where
    framed : (calls : List Call) (inner : List OpenIf) (state : State) → open_after calls (Some (length inner)) ≡ Some 0 → go (inner ++ outer) state (calls ++ tail) ≡ go (inner ++ base) state (calls ++ rest)
    framed [] [] state whole = ends state
    framed [] (x ∷ inner) state whole = absurd (let no : Some (suc (length inner)) ≡ Some 0 = whole in cc)
    framed (call ∷ calls) inner state whole =
        by (λ more next w. framed calls more next w) (flow_of call.name) refl (open_behind (flow_of call.name) (length inner)) refl whole
      where
        Again : Type 0
        Again = (more : List OpenIf) (next : State) → open_after calls (Some (length more)) ≡ Some 0 → go (more ++ outer) next (calls ++ tail) ≡ go (more ++ base) next (calls ++ rest)

        known : Again → (more : List OpenIf) (k : Result State ReadFault) → open_after calls (Some (length more)) ≡ Some 0 → (k >>= λ next. go (more ++ outer) next (calls ++ tail)) ≡ (k >>= λ next. go (more ++ base) next (calls ++ rest))
        known again more (Ok next) w = again more next w
        known again more (Err fault) w = refl

        pair : Again → (r : Result Step ReadKind) (n : ℕ) → IfOk r (λ step. Some (length step.ifs) ≡ Some n) → open_after calls (Some n) ≡ Some 0 → after call.line (calls ++ tail) (r >>= λ step. Ok (around outer step)) ≡ after call.line (calls ++ rest) (r >>= λ step. Ok (around base step))
        pair again (Ok step) n h w = known again step.ifs (known_behind read limits held file step call.line) (ap (open_after calls) h ∙ w)
        pair again (Err kind) n h w = refl

        by : Again → (flow : Option Flow) → flow_of call.name ≡ flow → (o : Option ℕ) → open_behind flow (length inner) ≡ o → open_after calls o ≡ Some 0 → go (inner ++ outer) state (call ∷ calls ++ tail) ≡ go (inner ++ base) state (call ∷ calls ++ rest)
        by again flow is None opens w = none_is_some calls 0 w
        by again flow is (Some n) opens w =
            let own = stepped_by limits held file.dir call inner state flow in
            go_by flow (inner ++ outer) state call (calls ++ tail) is
            ∙ ap (after call.line (calls ++ tail)) (step_around limits held file.dir flow call state inner outer n outer_live opens)
            ∙ pair again own n (subst (λ m. IfOk own (λ step. Some (length step.ifs) ≡ m)) opens (step_opens limits held file.dir flow call state inner)) w
            ∙ sym (ap (after call.line (calls ++ rest)) (step_around limits held file.dir flow call state inner base n base_live opens))
            ∙ sym (go_by flow (inner ++ base) state call (calls ++ rest) is)

  -- an `if` on a line, among those around it, with the commands behind it
  module _ (line : ℕ) (base : List OpenIf) (end : Call) (rest : List Call) (base_live : is_live base ≡ true) (end_is : end.name ≡ codes "endif") where
    abbrev pub here : Branch → List OpenIf
    here branch = record { line = line; branch = branch } ∷ base

    left_behind : (branch : Branch) (state : State) → go (here branch) state (end ∷ rest) ≡ go base state rest
    left_behind branch state = go_to EndIf (here branch) state end rest base state (ap flow_of end_is) refl

    -- behind a branch that was taken, nothing is carried out up to `endif`
    over : (branch : Branch) (later : List WrittenBranch) (last : Option WrittenBranch) (state : State) → ((call : Call) → behind_elseif limits held file.dir call state branch ≡ Ok (Over, state)) → behind_else limits state branch ≡ Ok (ElseOver, state) → AllByRecursion (Begins (codes "elseif")) later → IfSome last (Begins (codes "else")) → go (here branch) state (tail_of later last end rest) ≡ go base state rest
    over branch [] None state at_elseif at_else all is = left_behind branch state
    over branch [] (Some b) state at_elseif at_else all is =
        go_to Else (here branch) state b.head (b.body ++ end ∷ rest) (here ElseOver) state (ap flow_of is.head) (ap (λ r. r >>= λ found. Ok (in_branch line base found)) at_else)
        ∙ skipped b.body [] state (here ElseOver) (end ∷ rest) refl is.body
        ∙ left_behind ElseOver state
    over branch (b ∷ later) last state at_elseif at_else all is =
        go_to ElseIf (here branch) state b.head (b.body ++ tail_of later last end rest) (here Over) state (ap flow_of all.0.head) (ap (λ r. r >>= λ found. Ok (in_branch line base found)) (at_elseif b.head))
        ∙ skipped b.body [] state (here Over) (tail_of later last end rest) refl all.0.body
        ∙ over Over later last state (λ call. refl) refl all.1 is

    else_taken : (b : WrittenBranch) (state : State) → Begins (codes "else") b → (r : Result State ReadKind) → with_command limits state ≡ r → go (here Waiting) state (b.head ∷ b.body ++ end ∷ rest) ≡ (on_line file.path b.head.line r >>= λ next. go base next (b.body ++ rest))
    else_taken b state is (Err kind) counted =
        go_by (Some Else) (here Waiting) state b.head (b.body ++ end ∷ rest) (ap flow_of is.head)
        ∙ ap (λ r. after b.head.line (b.body ++ end ∷ rest) ((r >>= λ next. Ok (ElseTaken, next)) >>= λ found. Ok (in_branch line base found))) counted
    else_taken b state is (Ok next) counted =
        go_to Else (here Waiting) state b.head (b.body ++ end ∷ rest) (here ElseTaken) next (ap flow_of is.head) (ap (λ r. (r >>= λ next. Ok (ElseTaken, next)) >>= λ found. Ok (in_branch line base found)) counted)
        ∙ framed (here ElseTaken) base (end ∷ rest) rest refl base_live (left_behind ElseTaken) b.body [] next is.body

    abbrev pub with_body : List Call → State → Result (List Call × State) ReadFault
    with_body body next = Ok (body, next)

    else_then : (at : ℕ) (body : List Call) (r : Result State ReadKind) → ((on_line file.path at r >>= with_body body) >>= λ found. go base found.1 (found.0 ++ rest)) ≡ (on_line file.path at r >>= λ next. go base next (body ++ rest))
    else_then at body (Ok next) = refl
    else_then at body (Err kind) = refl

    -- a branch whose condition is evaluated
    asks : (flow : Flow) (name : List ℕ) (b : WrittenBranch) (later : List WrittenBranch) (last : Option WrittenBranch) (ifs : List OpenIf) (state : State) → flow_of name ≡ Some flow → Begins name b → AllByRecursion (Begins (codes "elseif")) later → IfSome last (Begins (codes "else")) →
        stepped_by limits held file.dir b.head ifs state (Some flow) ≡ (asked limits held file.dir b.head state >>= λ found. Ok (in_branch line base found)) →
        ((next : State) → go (here Waiting) next (tail_of later last end rest) ≡ (chosen limits held file last next later >>= λ found. go base found.1 (found.0 ++ rest))) →
        go ifs state (calls_of b ++ tail_of later last end rest) ≡ (chosen limits held file last state (b ∷ later) >>= λ found. go base found.1 (found.0 ++ rest))
    asks flow name b later last ifs state means is all last_is step again =
        go_by (Some flow) ifs state b.head (b.body ++ tail_of later last end rest) (ap flow_of is.head ∙ means)
        ∙ ap (after b.head.line (b.body ++ tail_of later last end rest)) (step ∙ ap (λ r. r >>= λ found. Ok (in_branch line base found)) (asked_is limits held file.dir b.head state))
        ∙ by (tested limits held file.dir b.head state)
      where
        by_test : (holds : Bool) (next : State) → go (here (if holds then Taken else Waiting)) next (b.body ++ tail_of later last end rest) ≡ ((if holds then Ok (b.body, next) else chosen limits held file last next later) >>= λ found. go base found.1 (found.0 ++ rest))
        by_test true next =
            framed (here Taken) base (tail_of later last end rest) rest refl base_live (λ s. over Taken later last s (λ call. refl) refl all last_is) b.body [] next is.body
        by_test false next = skipped b.body [] next (here Waiting) (tail_of later last end rest) refl is.body ∙ again next

        by : (r : Result (Bool × State) ReadKind) → after b.head.line (b.body ++ tail_of later last end rest) ((r >>= λ found. Ok (branch_by limits held file.dir found)) >>= λ found. Ok (in_branch line base found)) ≡ ((on_line file.path b.head.line r >>= λ found. if found.0 then Ok (b.body, found.1) else chosen limits held file last found.1 later) >>= λ found. go base found.1 (found.0 ++ rest))
        by (Ok found) = by_test found.0 found.1
        by (Err kind) = refl

    -- no branch was taken so far
    waits : (later : List WrittenBranch) (last : Option WrittenBranch) (state : State) → AllByRecursion (Begins (codes "elseif")) later → IfSome last (Begins (codes "else")) → go (here Waiting) state (tail_of later last end rest) ≡ (chosen limits held file last state later >>= λ found. go base found.1 (found.0 ++ rest))
    waits [] None state all is = left_behind Waiting state
    waits [] (Some b) state all is =
        else_taken b state is (with_command limits state) refl ∙ sym (else_then b.head.line b.body (with_command limits state))
    waits (b ∷ later) last state all is =
        asks ElseIf (codes "elseif") b later last (here Waiting) state refl all.0 all.1 is refl (λ next. waits later last next all.1 is)

-- where commands are carried out, an `if` does what the commands of its chosen branch do
pub carried-if : (read : FileReading) (limits : Limits) (held : Held) (file : TestFile) (ifs : List OpenIf) (state : State) (whole : WrittenIf) (rest : List Call) (ending : Ending) → is_live ifs ≡ true → IsIf whole →
    carried read limits held file ifs state (all_calls whole ++ rest) ending
    ≡ (chosen limits held file whole.last state (whole.first ∷ whole.later) >>= λ found. carried read limits held file ifs found.1 (found.0 ++ rest) ending)
carried-if read limits held file ifs state whole rest ending live is =
    let head = whole.first.head in
    ap (λ calls. carried read limits held file ifs state calls ending) (all_calls_are whole rest)
    ∙ asks read limits held file ending head.line ifs whole.end rest live is.end If (codes "if") whole.first whole.later whole.last ifs state refl is.first is.later is.last
    (ap (λ b. behind_if limits held file.dir head state b >>= λ found. Ok (in_branch head.line ifs found)) live)
    (λ next. waits read limits held file ending head.line ifs whole.end rest live is.end whole.later whole.last next is.later is.last)

-- whole commands are carried out as if they were all, and then those behind them
module _ (read : FileReading) (limits : Limits) (held : Held) (file : TestFile) (rest : List Call) (ending : Ending) where
  -- the state behind the rest, from the state behind the commands in front
  abbrev pub goes_on : Result State ReadFault → Result State ReadFault
  goes_on known = known >>= λ next. carried read limits held file [] next rest ending

  behind_front : (front : List Call) (ifs : List OpenIf) (state : State) → open_after front (Some (length ifs)) ≡ Some 0 → go read limits held file ending ifs state (front ++ rest) ≡ goes_on (go read limits held file None ifs state front)
  behind_front [] [] state whole = refl
  behind_front [] (x ∷ ifs) state whole = absurd (let no : Some (suc (length ifs)) ≡ Some 0 = whole in cc)
  behind_front (call ∷ front) ifs state whole =
      by (λ more next w. behind_front front more next w)
    where
      Again : Type 0
      Again = (more : List OpenIf) (next : State) → open_after front (Some (length more)) ≡ Some 0 → go read limits held file ending more next (front ++ rest) ≡ goes_on (go read limits held file None more next front)

      known : Again → (more : List OpenIf) (k : Result State ReadFault) → open_after front (Some (length more)) ≡ Some 0 → (k >>= λ next. go read limits held file ending more next (front ++ rest)) ≡ goes_on (k >>= λ next. go read limits held file None more next front)
      known again more (Ok next) w = again more next w
      known again more (Err fault) w = refl

      pair : Again → (r : Result Step ReadKind) → IfOk r (λ step. Some (length step.ifs) ≡ open_behind (flow_of call.name) (length ifs)) → after read limits held file ending call.line (front ++ rest) r ≡ goes_on (after read limits held file None call.line front r)
      pair again (Ok step) h = known again step.ifs (known_behind read limits held file step call.line) (ap (open_after front) h ∙ whole)
      pair again (Err kind) h = refl

      by : Again → go read limits held file ending ifs state (call ∷ front ++ rest) ≡ goes_on (go read limits held file None ifs state (call ∷ front))
      by again =
          go_by read limits held file ending (flow_of call.name) ifs state call (front ++ rest) refl
          ∙ pair again (stepped limits held file.dir ifs state call) (step_opens limits held file.dir (flow_of call.name) call state ifs)
          ∙ ap goes_on (sym (go_by read limits held file None (flow_of call.name) ifs state call front refl))

  pub carried-front : (state : State) (front : List Call) → AreWhole front → carried read limits held file [] state (front ++ rest) ending ≡ carried_behind read limits held file state front rest ending
  carried-front state front whole = behind_front front [] state whole
