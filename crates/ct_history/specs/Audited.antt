-- What an audit keeps of a history, entry by entry. This project's own.
use Rattle.std.specs.Prelude.{⊤, ◌<◌, ◌^◌, ◌≡◌, ℕ, ◌+◌, Bool, not, ◌&&◌, ◌||◌, true, List, is_some}
use Rattle.std.specs.List.{list_all, list_any}
use Rattle.ct_history.specs.declared.plan.PlanParts.{PlanParts}
use Rattle.ct_history.specs.declared.history.Entry.{Entry}
use Rattle.ct_history.specs.declared.history.Entry.TheVariants.{Start, End, Settle, Stop}
use Rattle.ct_history.specs.History.{Running, has_stop, is_stop, open_starts}
use Rattle.ct_history.specs.Rules.{is_idle}
use Rattle.ct_history.specs.Verdicts.{are_all_final}
use Rattle.ct_history.specs.Legal.{has_failing, is_stop_due}
use Rattle.ct_history.specs.declared.audit.Audit.{Audit}
use Rattle.ct_history.specs.Course.{AreCourses, course_after, course_at, open_starts_after, runs}
use Rattle.ct_history.specs.Seen.{verdict_in_course}

-- the audit has seen these entries:
-- - the open starts, how each test has fared, and whether there is a Stop;
-- - whether a test of the plan has a failing verdict, and whether a Stop is due
pub record IsAuditOf (plan : PlanParts) (entries : List Entry) (audit : Audit) : Type 0 where
  pub opens : runs audit.running.items ≡ open_starts entries
  pub courses : AreCourses audit.courses entries
  pub stopped : audit.stopped ≡ has_stop entries
  pub failing : audit.failing ≡ has_failing plan entries
  pub due : audit.due ≡ is_stop_due plan entries

-- the history is at its end: each test is final, nothing is open, and no Stop is due
abbrev pub is_at_end : PlanParts → List Entry → Bool
is_at_end plan entries = are_all_final plan entries && is_idle entries && not (is_stop_due plan entries)

-- the open starts, how each test has fared and the Stop have one entry more; the rest is as before
pub record Marks (entry : Entry) (old new : Audit) : Type 0 where
  pub opens : new.running.items ≡ open_starts_after old.running.items entry
  pub courses : (test : ℕ) → course_at new.courses test ≡ course_after test (course_at old.courses test) entry
  pub stopped : new.stopped ≡ (old.stopped || is_stop entry)
  pub failing : new.failing ≡ old.failing

-- each test of the plan has a verdict, by what the audit keeps
abbrev pub are_all_final_by : PlanParts → Audit → Bool
are_all_final_by plan audit =
    list_all
    (λ t.
    is_some
    (verdict_in_course plan.repeat (runs audit.running.items) (course_at audit.courses) t)) plan.tests

-- the test of the last entry was judged: it failed, or not; the Stop is due where it is the first that failed
abbrev pub with_failure : Bool → Bool → Audit → Audit
with_failure stops failed audit = record {
  running = audit.running;
  courses = audit.courses;
  stopped = audit.stopped;
  failing = audit.failing || failed;
  due = stops && failed && not audit.failing;
}

-- the attempt that the entry starts, where it starts one, is a number of 32 bits
abbrev pub HasShortAttempt : Entry → Type 0
HasShortAttempt (Start t a w p) = a < 2 ^ 32
HasShortAttempt (End t a w seen) = ⊤
HasShortAttempt (Settle t cause) = ⊤
HasShortAttempt Stop = ⊤

-- there are open starts
abbrev pub is_any_open : List Running → Bool
is_any_open starts = list_any (λ (r : Running). true) starts

-- nothing is open, by what the audit keeps
abbrev pub is_idle_by : Audit → Bool
is_idle_by audit = not (is_any_open (runs audit.running.items))
