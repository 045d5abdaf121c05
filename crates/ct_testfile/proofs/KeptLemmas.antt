-- A tree of test files reads alike where each path that its reading asks for holds the same.
use Rattle.std.proofs.Common.{◌≡◌, ◌∙◌, ap, Bool, true, false, ℕ, zero, suc, List, [], ◌∷◌, refl, inl, inr}
use Rattle.std.specs.Prelude.{Option, Some, None, Result, Ok, Err, IsOkAnd, IsSomeAnd, codes, is_some, if◌then◌else◌}
use Rattle.ct_base.specs.Outside.{Held}
use Rattle.ct_base.specs.Path.{joined}
use Rattle.ct_lex.specs.Place.{beginning}
use Rattle.ct_lex.specs.Reads.{Ending, commands_read}
use Rattle.ct_lex.specs.declared.call.Call.{Call}
use Rattle.ct_suite.specs.Values.{Variable}
use Rattle.ct_suite.specs.declared.value.Value.{Value}
use Rattle.ct_testfile.specs.Asks.{CallAsks, CarriedAsk, ConditionAsks, FileAsking, IsEvaluated, NamesPath, NestedAsks, OpenedAsk, OpeningAsks, TreeAsks}
use Rattle.ct_testfile.proofs.AsksLemmas.{ok-and}
use Rattle.ct_testfile.specs.Commands.{begun, openings, test_file}
use Rattle.ct_testfile.specs.Condition.{holds, is_bare_word}
use Rattle.ct_testfile.specs.Ifs.{asked, behind_elseif, behind_if, flow_of, in_branch, is_live, stepped, stepped_by}
use Rattle.ct_testfile.specs.Limits.{tree_limits}
use Rattle.ct_testfile.specs.Outcome.{◌>>=◌, on_line}
use Rattle.ct_testfile.specs.Tree.{FileReading, admitted, all_opened, beginning_with, behind_call, carried, nested, opened_by, top, tree_of}
use Rattle.ct_testfile.specs.declared.branch.Branch.{Branch}
use Rattle.ct_testfile.specs.declared.branch.Branch.TheVariants.{Taken, Waiting, Over, ElseTaken, ElseOver, Idle}
use Rattle.ct_testfile.specs.declared.branch.OpenIf.{OpenIf}
use Rattle.ct_testfile.specs.declared.command.Flow.{Flow}
use Rattle.ct_testfile.specs.declared.command.Flow.TheVariants.{If, ElseIf, Else, EndIf}
use Rattle.ct_testfile.specs.declared.fault.ReadFault.{ReadFault}
use Rattle.ct_testfile.specs.declared.fault.ReadKind.{ReadKind}
use Rattle.ct_testfile.specs.declared.fault.ReadKind.TheVariants.{BadCondition}
use Rattle.ct_testfile.specs.declared.limits.Limits.{Limits}
use Rattle.ct_testfile.specs.declared.opening.Opening.{Opening}
use Rattle.ct_testfile.specs.declared.opening.TestFile.{TestFile}
use Rattle.ct_testfile.specs.declared.state.State.{State}
use Rattle.ct_testfile.specs.declared.step.Step.{Step}

-- what continues alike with the value of a result leads to the same
bind_kept : {A B E : Type 0} (r : Result A E) (f g : A → Result B E) → ((a : A) → r ≡ Ok a → f a ≡ g a) → (r >>= f) ≡ (r >>= g)
bind_kept (Ok a) f g same = same a refl
bind_kept (Err e) f g same = refl

abbrev exists_there : Bool → Option (List ℕ) → Result Bool ReadKind
exists_there named text = if named then Ok (is_some text) else Err BadCondition

exists_kept : (named : Bool) (one other : Option (List ℕ)) → (named ≡ true → one ≡ other) → exists_there named one ≡ exists_there named other
exists_kept true one other same = ap (exists_there true) (same refl)
exists_kept false one other same = refl

-- two holdings
module _ (held later : Held) where
  -- each of these paths holds the same in both
  abbrev Same : (List ℕ → Type 0) → Type 0
  Same asks = (path : List ℕ) → asks path → held path ≡ later path

  holds_kept : (dir : List ℕ) (variables : List Variable) (values : List Value) → Same (NamesPath dir values) → holds held dir variables values ≡ holds later dir variables values
  holds_kept dir variables [] same = refl
  holds_kept dir variables (word ∷ []) same = refl
  holds_kept dir variables (word ∷ name ∷ []) same = exists_kept (is_bare_word (codes "EXISTS") word) (held (joined dir name.text)) (later (joined dir name.text)) (λ is. same (joined dir name.text) (is, refl))
  holds_kept dir variables (one ∷ word ∷ other ∷ []) same = refl
  holds_kept dir variables (one ∷ word ∷ other ∷ more ∷ rest) same = refl

  module _ (limits : Limits) where
    asked_kept : (dir : List ℕ) (call : Call) (state : State) → Same (ConditionAsks limits dir call state) → asked limits held dir call state ≡ asked limits later dir call state
    asked_kept dir call state same =
        bind_kept (begun limits call.args state) (λ (read : List Value × State). holds held dir read.1.variables read.0 >>= λ is. Ok (if is then Taken else Waiting, read.1)) (λ (read : List Value × State). holds later dir read.1.variables read.0 >>= λ is. Ok (if is then Taken else Waiting, read.1))
        (λ read is.
        ap (λ (r : Result Bool ReadKind). r >>= λ is. Ok (if is then Taken else Waiting, read.1))
        (holds_kept dir read.1.variables read.0 (λ path names. same path (ok-and (begun limits call.args state) read (λ (read : List Value × State). NamesPath dir read.0 path) is names))))

    if_kept : (dir : List ℕ) (call : Call) (state : State) (live : Bool) → (live ≡ true → Same (ConditionAsks limits dir call state)) → behind_if limits held dir call state live ≡ behind_if limits later dir call state live
    if_kept dir call state true same = asked_kept dir call state (same refl)
    if_kept dir call state false same = refl

    elseif_kept : (dir : List ℕ) (call : Call) (state : State) (branch : Branch) → (branch ≡ Waiting → Same (ConditionAsks limits dir call state)) → behind_elseif limits held dir call state branch ≡ behind_elseif limits later dir call state branch
    elseif_kept dir call state Waiting same = asked_kept dir call state (same refl)
    elseif_kept dir call state Taken same = refl
    elseif_kept dir call state Over same = refl
    elseif_kept dir call state ElseTaken same = refl
    elseif_kept dir call state ElseOver same = refl
    elseif_kept dir call state Idle same = refl

    flow_kept : (dir : List ℕ) (call : Call) (ifs : List OpenIf) (state : State) (flow : Option Flow) → Same (λ path. IsEvaluated flow ifs × ConditionAsks limits dir call state path) → stepped_by limits held dir call ifs state flow ≡ stepped_by limits later dir call ifs state flow
    flow_kept dir call ifs state None same = refl
    flow_kept dir call ifs state (Some If) same =
        ap (λ (r : Result (Branch × State) ReadKind). r >>= λ found. Ok (in_branch call.line ifs found)) (if_kept dir call state (is_live ifs) (λ live path asks. same path (live, asks)))
    flow_kept dir call [] state (Some ElseIf) same = refl
    flow_kept dir call (inner ∷ outer) state (Some ElseIf) same =
        ap (λ (r : Result (Branch × State) ReadKind). r >>= λ found. Ok (in_branch inner.line outer found)) (elseif_kept dir call state inner.branch (λ waits path asks. same path (waits, asks)))
    flow_kept dir call ifs state (Some Else) same = refl
    flow_kept dir call ifs state (Some EndIf) same = refl

    -- files that are read alike where the paths that they ask for hold the same
    module _ (read reread : FileReading) (asks : FileAsking) (kept : (site : List ℕ) (line : ℕ) (file : TestFile) (state : State) (text : List ℕ) → Same (asks file state text) → read site line file state text ≡ reread site line file state text) where
      there_kept : (site : List ℕ) (line : ℕ) (opening : Opening) (state : State) (text : Option (List ℕ)) → Same (λ path. IsSomeAnd text (λ text. asks opening.file state text path)) → opened_by read site line opening state text ≡ opened_by reread site line opening state text
      there_kept site line opening state None same = refl
      there_kept site line opening state (Some text) same = kept site line opening.file state text same

      opening_kept : (site : List ℕ) (line : ℕ) (opening : Opening) (state : State) → Same (OpeningAsks asks held opening state) → opened_by read site line opening state (held opening.file.path) ≡ opened_by reread site line opening state (later opening.file.path)
      opening_kept site line opening state same =
          there_kept site line opening state (held opening.file.path) (λ path text. same path (inr text))
          ∙ ap (opened_by reread site line opening state) (same opening.file.path (inl refl))

      opened_kept : (site : List ℕ) (line : ℕ) (more : List Opening) (state : State) → Same (OpenedAsk read asks held site line more state) → all_opened read held site line more state ≡ all_opened reread later site line more state
      opened_kept site line [] state same = refl
      opened_kept site line (opening ∷ more) state same =
          bind_kept (opened_by read site line opening state (held opening.file.path)) (all_opened read held site line more) (all_opened reread later site line more)
          (λ next is. opened_kept site line more next (λ path asked_so. same path (inr (ok-and (opened_by read site line opening state (held opening.file.path)) next (λ (next : State). OpenedAsk read asks held site line more next path) is asked_so))))
          ∙ ap (λ (r : Result State ReadFault). r >>= all_opened reread later site line more) (opening_kept site line opening state (λ path asked_so. same path (inl asked_so)))

      module _ (file : TestFile) where
        abbrev all_behind : FileReading → Held → Call → Step → Result (List OpenIf × State) ReadFault
        all_behind reads holding call step = all_opened reads holding file.path call.line (openings file.dir step.opens) step.state >>= λ next. Ok (step.ifs, next)

        call_kept : (ifs : List OpenIf) (state : State) (call : Call) → Same (CallAsks limits file.dir ifs state call) → Same (λ path. IsOkAnd (on_line file.path call.line (stepped limits held file.dir ifs state call)) (λ step. OpenedAsk read asks held file.path call.line (openings file.dir step.opens) step.state path)) → behind_call read limits held file ifs state call ≡ behind_call reread limits later file ifs state call
        call_kept ifs state call same opens =
            bind_kept (on_line file.path call.line (stepped limits held file.dir ifs state call)) (all_behind read held call) (all_behind reread later call)
            (λ step is.
            ap (λ (r : Result State ReadFault). r >>= λ next. Ok (step.ifs, next)) (opened_kept file.path call.line (openings file.dir step.opens) step.state (λ path asked_so. opens path (ok-and (on_line file.path call.line (stepped limits held file.dir ifs state call)) step (λ (step : Step). OpenedAsk read asks held file.path call.line (openings file.dir step.opens) step.state path) is asked_so))))
            ∙ ap (λ (r : Result Step ReadKind). on_line file.path call.line r >>= all_behind reread later call) (flow_kept file.dir call ifs state (flow_of call.name) same)

        carried_kept : (ifs : List OpenIf) (state : State) (calls : List Call) (ending : Ending) → Same (CarriedAsk read asks limits held file ifs state calls) → carried read limits held file ifs state calls ending ≡ carried reread limits later file ifs state calls ending
        carried_kept ifs state [] ending same = refl
        carried_kept ifs state (call ∷ calls) ending same =
            bind_kept (behind_call read limits held file ifs state call) (λ (next : List OpenIf × State). carried read limits held file next.0 next.1 calls ending) (λ (next : List OpenIf × State). carried reread limits later file next.0 next.1 calls ending)
            (λ next is. carried_kept next.0 next.1 calls ending (λ path asked_so. same path (inr (inr (ok-and (behind_call read limits held file ifs state call) next (λ (next : List OpenIf × State). CarriedAsk read asks limits held file next.0 next.1 calls path) is asked_so)))))
            ∙ ap (λ (r : Result (List OpenIf × State) ReadFault). r >>= λ next. carried reread limits later file next.0 next.1 calls ending) (call_kept ifs state call (λ path asked_so. same path (inl asked_so)) (λ path asked_so. same path (inr (inl asked_so))))

    nested_kept : (more : ℕ) (site : List ℕ) (line : ℕ) (file : TestFile) (state : State) (text : List ℕ) → Same (NestedAsks limits held more file state text) → nested limits held more site line file state text ≡ nested limits later more site line file state text
    unfolding NestedAsks nested
    nested_kept zero site line file state text same = refl
    nested_kept (suc more) site line file state text same =
        bind_kept (on_line file.path 0 (admitted limits text state)) (λ next. carried (nested limits held more) limits held file [] next (commands_read (beginning text)).0 (commands_read (beginning text)).1) (λ next. carried (nested limits later more) limits later file [] next (commands_read (beginning text)).0 (commands_read (beginning text)).1)
        (λ next is.
        carried_kept (nested limits held more) (nested limits later more) (NestedAsks limits held more) (nested_kept more) file [] next (commands_read (beginning text)).0 (commands_read (beginning text)).1
        (λ path asked_so. same path (ok-and (on_line file.path 0 (admitted limits text state)) next (λ (next : State). CarriedAsk (nested limits held more) (NestedAsks limits held more) limits held file [] next (commands_read (beginning text)).0 path) is asked_so)))

  -- a tree is the same in both where each path that its reading asks for holds the same
  pub tree_kept : (dir config : List ℕ) → ((path : List ℕ) → TreeAsks held dir config path → held path ≡ later path) → tree_of held dir config ≡ tree_of later dir config
  tree_kept dir config same =
      ap (λ (r : Result State ReadFault). r >>= λ state. Ok state.tests)
      (opening_kept tree_limits (nested tree_limits held tree_limits.open_files) (nested tree_limits later tree_limits.open_files) (NestedAsks tree_limits held tree_limits.open_files) (nested_kept tree_limits tree_limits.open_files) (test_file dir).path 0 (top dir) (beginning_with config) same)
