-- When two holdings of the files read alike for the plan of the same words. The cost data, which a run
-- changes, plays no part. This project's own.
use Rattle.std.specs.Prelude.{◌≡◌, ℕ, true, List, Option, IfSome, IsSomeAnd}
use Rattle.ct_base.specs.Outside.{FilesTell, Held}
use Rattle.ct_testfile.specs.Tree.{tree_of}
use Rattle.ct_history.specs.declared.plan.PlanParts.{PlanParts}
use Rattle.ct_history.specs.declared.history.Entry.{Entry}
use Rattle.ct_journal_text.specs.Journal.{journal_of}
use Rattle.ct_journal_text.specs.Found.{IsAccepted}
use Rattle.ct_args.specs.declared.invocation.Invocation.{Invocation}
use Rattle.ct_app.specs.Planning.{HasPlan}
use Rattle.ct_app.specs.Reading.{AskFor}
use Rattle.ct_app.specs.Rerun.{last_failed}
use Rattle.ct_app.specs.SpecFile.{declared_in}
use Rattle.ct_journal.specs.declared.record.JournalEnd.{JournalEnd}
use Rattle.ct_journal.specs.declared.record.JournalEnd.TheVariants.{Written}

-- what is read for an invocation from two holdings is the same: the tests; the resources of the specification
-- that is named; and with --rerun-failed the names in the log
pub record ReadsAlikeFor (invocation : Invocation) (held later : Held) : Type 0 where
  pub tree :
      tree_of held invocation.wanted.dir invocation.config
      ≡ tree_of later invocation.wanted.dir invocation.config
  pub spec : IfSome invocation.spec_file (λ path. declared_in (held path) ≡ declared_in (later path))
  pub log :
      invocation.rerun ≡ true
      → last_failed invocation.wanted.dir held ≡ last_failed invocation.wanted.dir later

-- both holdings are told, and what is read for these words from them is the same
abbrev pub ReadsAlike : List (List ℕ) → Option Held → Option Held → Type 0
ReadsAlike words told retold =
    IsSomeAnd told (λ held. IsSomeAnd retold (λ later.
    (invocation : Invocation) → AskFor words invocation → ReadsAlikeFor invocation held later))

-- a journal that was written is accepted for each plan that the words of its run have, where what is read for
-- this plan reads as it did when the run began
abbrev pub RechecksWritten : List (List ℕ) → Option Held → Option (List Entry) → JournalEnd → Type 0
RechecksWritten words told history end =
    end ≡ Written
    → IsSomeAnd history (λ entries.
    (before now : FilesTell) (plan : PlanParts)
    → ReadsAlike words told before.held → HasPlan words before now plan
    → IsAccepted plan (journal_of entries))
