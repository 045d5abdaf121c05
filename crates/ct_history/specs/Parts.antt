-- Several trees that run by one plan: the part of a plan and of its history that belongs to one of them.
-- This project's own.
use Rattle.std.specs.Prelude.{◌≡◌, ℕ, ◌+◌, ◌-◌, Bool, false, ◌&&◌, List, map, filter, filter_map, Option, Some, None, nat_le, nat_lt, if◌then◌else◌}
use Rattle.ct_verdict.specs.declared.verdict.Cause.{Cause}
use Rattle.ct_verdict.specs.declared.verdict.Cause.TheVariants.{Unstarted, Lacks, Fixture, NotAvailable, BadOperation, Insufficient, Stopped, Memory}
use Rattle.ct_verdict.specs.declared.verdict.Verdict.{Verdict}
use Rattle.ct_verdict.specs.declared.verdict.Verdict.TheVariants.{Passed, Failed, Timeout, Exception, Skipped, NotRun, Disabled}
use Rattle.ct_history.specs.declared.plan.PlanTest.{PlanTest}
use Rattle.ct_history.specs.declared.plan.PlanParts.{PlanParts}
use Rattle.ct_history.specs.declared.history.Entry.{Entry}
use Rattle.ct_history.specs.declared.history.Entry.TheVariants.{Start, End, Settle, Stop}

-- the test, with its number and those of its predecessors and setups raised by the offset
abbrev pub renumbered : ℕ → PlanTest → PlanTest
renumbered offset t = record {
  number = t.number + offset;
  name = t.name;
  disabled = t.disabled;
  processors = t.processors;
  locks = t.locks;
  shared = t.shared;
  serial = t.serial;
  rules = t.rules;
  needs = t.needs;
  before = map (λ n. n + offset) t.before;
  setups = map (λ n. n + offset) t.setups;
  rank = t.rank;
  fixed = t.fixed;
  labels = t.labels;
}

-- the number is one of the first `count` numbers above the offset
abbrev pub is_in_tree : ℕ → ℕ → ℕ → Bool
is_in_tree offset count number = nat_lt offset number && nat_le number (offset + count)

-- the cause, with the number of a setup lowered by the offset
abbrev pub cause_back : ℕ → Cause → Cause
cause_back offset Unstarted = Unstarted
cause_back offset (Lacks k) = Lacks k
cause_back offset (Fixture setup) = Fixture (setup - offset)
cause_back offset NotAvailable = NotAvailable
cause_back offset (BadOperation k) = BadOperation k
cause_back offset Insufficient = Insufficient
cause_back offset Stopped = Stopped
cause_back offset Memory = Memory

-- the verdict, with the number of a setup in its cause lowered by the offset
abbrev pub verdict_back : ℕ → Verdict → Verdict
verdict_back offset Passed = Passed
verdict_back offset Failed = Failed
verdict_back offset Timeout = Timeout
verdict_back offset Exception = Exception
verdict_back offset Skipped = Skipped
verdict_back offset (NotRun cause) = NotRun (cause_back offset cause)
verdict_back offset Disabled = Disabled

-- the entry with its numbers lowered by the offset, if it is of a test with one of the first `count` numbers
-- above the offset
abbrev pub entry_of_part : ℕ → ℕ → Entry → Option Entry
entry_of_part offset count (Start t a w p) =
    if is_in_tree offset count t then Some (Start (t - offset) a w p) else None
entry_of_part offset count (End t a w seen) =
    if is_in_tree offset count t then Some (End (t - offset) a w seen) else None
entry_of_part offset count (Settle t cause) =
    if is_in_tree offset count t then Some (Settle (t - offset) (cause_back offset cause)) else None
entry_of_part offset count Stop = None

-- the part of a history: the entries of the tests with the first `count` numbers above the offset, with their
-- numbers lowered by it; no Stop is in it
abbrev pub part_of : ℕ → ℕ → List Entry → List Entry
part_of offset count entries = filter_map (entry_of_part offset count) entries

-- the plan, read without the option that stops a run on a failure
abbrev pub without_stop : PlanParts → PlanParts
without_stop plan = record {
  dir = plan.dir;
  tests = plan.tests;
  queue = plan.queue;
  resources = plan.resources;
  level = plan.level;
  repeat = plan.repeat;
  stop_on_failure = false;
}

-- one plan is the part of a whole one: its tests, renumbered, are those of the whole plan with the first
-- `count` numbers above the offset; resources, level and repeat are the same
pub record IsPartOfPlan (whole : PlanParts) (offset count : ℕ) (part : PlanParts) : Type 0 where
  pub tests : filter (λ (t : PlanTest). is_in_tree offset count t.number) whole.tests
      ≡ map (renumbered offset) part.tests
  pub resources : whole.resources ≡ part.resources
  pub level : whole.level ≡ part.level
  pub repeat : whole.repeat ≡ part.repeat
