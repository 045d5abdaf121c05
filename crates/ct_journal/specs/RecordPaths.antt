-- When the files hold the same at each path that the plan of the same words asks for, but for the cost data,
-- which a run changes. This project's own.
use Rattle.std.specs.Prelude.{◌≡◌, ◌⊎◌, ℕ, true, List, Option, Some, IsSomeAnd}
use Rattle.ct_base.specs.Outside.{FilesTell, Held}
use Rattle.ct_testfile.specs.Asks.{TreeAsks}
use Rattle.ct_history.specs.declared.plan.PlanParts.{PlanParts}
use Rattle.ct_history.specs.declared.history.Entry.{Entry}
use Rattle.ct_journal_text.specs.Journal.{journal_of}
use Rattle.ct_journal_text.specs.Found.{IsAccepted}
use Rattle.ct_args.specs.declared.invocation.Invocation.{Invocation}
use Rattle.ct_app.specs.Planning.{HasPlan}
use Rattle.ct_app.specs.Reading.{AskFor}
use Rattle.ct_app.specs.RunFiles.{log_path}
use Rattle.ct_journal.specs.declared.record.JournalEnd.{JournalEnd}
use Rattle.ct_journal.specs.declared.record.JournalEnd.TheVariants.{Written}

-- what is read for the plan of an invocation, but for the order of its starts, is at this path: in the tree
-- of test files, or with --rerun-failed the log, or the specification that is named
abbrev pub PlanAsks : Held → Invocation → List ℕ → Type 0
PlanAsks held invocation path =
    (TreeAsks held invocation.wanted.dir invocation.config path
    ⊎ ((invocation.rerun ≡ true) × (path ≡ log_path invocation.wanted.dir)))
    ⊎ (invocation.spec_file ≡ Some path)

-- both holdings are told, and each path that the plan of these words asks the first for holds the same in
-- both
abbrev pub HoldAlike : List (List ℕ) → Option Held → Option Held → Type 0
HoldAlike words told retold =
    IsSomeAnd told (λ held. IsSomeAnd retold (λ later.
    (invocation : Invocation) (path : List ℕ)
    → AskFor words invocation → PlanAsks held invocation path → held path ≡ later path))

-- a journal that was written is accepted for each plan that the words of its run have, where each path that
-- this plan asks for holds what it held when the run began
abbrev pub RechecksKept : List (List ℕ) → Option Held → Option (List Entry) → JournalEnd → Type 0
RechecksKept words told history end =
    end ≡ Written
    → IsSomeAnd history (λ entries.
    (before now : FilesTell) (plan : PlanParts)
    → HoldAlike words told before.held
    → HasPlan words before now plan
    → IsAccepted plan (journal_of entries))
