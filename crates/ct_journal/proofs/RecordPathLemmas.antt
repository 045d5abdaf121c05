-- What is read for the same words is the same where each path that their plan asks for holds the same.
use Rattle.std.proofs.Common.{◌≡◌, ap, ℕ, List, refl, inl, inr}
use Rattle.std.specs.Prelude.{Option, Some, None, IfSome}
use Rattle.ct_base.specs.Outside.{Held}
use Rattle.ct_testfile.proofs.KeptLemmas.{tree_kept}
use Rattle.ct_history.specs.declared.history.Entry.{Entry}
use Rattle.ct_args.specs.declared.invocation.Invocation.{Invocation}
use Rattle.ct_app.specs.Rerun.{names_in_text}
use Rattle.ct_app.specs.RunFiles.{log_path}
use Rattle.ct_app.specs.SpecFile.{declared_in}
use Rattle.ct_journal.specs.declared.record.JournalEnd.{JournalEnd}
use Rattle.ct_journal.specs.RecordPaths.{HoldAlike, PlanAsks, RechecksKept}
use Rattle.ct_journal.specs.RecordReads.{ReadsAlike, ReadsAlikeFor, RechecksWritten}

spec_kept : (held later : Held) (file : Option (List ℕ)) → ((path : List ℕ) → file ≡ Some path → held path ≡ later path) → IfSome file (λ path. declared_in (held path) ≡ declared_in (later path))
spec_kept held later None same = tt
spec_kept held later (Some path) same = ap declared_in (same path refl)

-- where each path that the plan asks for holds the same, the same is read
reads_same : (held later : Held) (invocation : Invocation) → ((path : List ℕ) → PlanAsks held invocation path → held path ≡ later path) → ReadsAlikeFor invocation held later
reads_same held later invocation same = record {
  tree = tree_kept held later invocation.wanted.dir invocation.config (λ path asks. same path (inl (inl asks)));
  spec = spec_kept held later invocation.spec_file (λ path is. same path (inr is));
  log = λ is. ap names_in_text (same (log_path invocation.wanted.dir) (inl (inr (is, refl))));
}

-- holdings that hold alike read alike
pub reads_alike : (words : List (List ℕ)) (told retold : Option Held) → HoldAlike words told retold → ReadsAlike words told retold
reads_alike words None retold same = absurd same
reads_alike words (Some held) None same = absurd same
reads_alike words (Some held) (Some later) same =
    λ invocation asked. reads_same held later invocation (λ path. same invocation path asked)

-- a journal that is accepted again where the files read alike is accepted where they hold alike
pub rechecks_kept : (words : List (List ℕ)) (told : Option Held) (history : Option (List Entry)) (end : JournalEnd) → RechecksWritten words told history end → RechecksKept words told history end
rechecks_kept words told None end rechecks = rechecks
rechecks_kept words told (Some entries) end rechecks =
    λ is before now plan same has. rechecks is before now plan (reads_alike words told before.held same) has
