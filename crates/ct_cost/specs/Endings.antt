-- What a test that ended counts for in cost data and in the log. This project's own.
use Rattle.std.specs.Prelude.{ℕ, Bool, List, [], Option, Some, None, if◌then◌else◌}
use Rattle.ct_history.specs.declared.course.Course.{Course}
use Rattle.ct_history.specs.declared.plan.PlanTest.{PlanTest}
use Rattle.ct_history.specs.Course.{course_at, last_of_course, verdict_by}
use Rattle.ct_history.specs.Verdicts.{is_passed_verdict, is_failing_in}
use Rattle.indexmap.specs.IndexMap.{IndexMap}
use Rattle.ct_base.specs.Names.{with_new_name}
use Rattle.ct_cost.specs.CostLine.{CostLine, after_run}
use Rattle.ct_cost.specs.After.{counted_micros, logged}

-- the microseconds that a test counts for, if it passed, by how it ended
abbrev pub passed_micros : PlanTest → Course → Option ℕ
passed_micros t course =
    if is_passed_verdict (verdict_by t course) then Some (counted_micros (last_of_course course)) else None

-- a test that is final is of the failing class, by how it ended
abbrev pub fails_by : PlanTest → Course → Bool
fails_by t course = is_failing_in (verdict_by t course)

-- the lines after a run of a name that took this long, or as they were where no run passed
abbrev pub after_passed : List CostLine → List ℕ → Option ℕ → List CostLine
after_passed lines name None = lines
after_passed lines name (Some micros) = after_run lines name micros

-- the lines after one more test, by how it ended
abbrev pub after_ending : {S : Type 0} → IndexMap ℕ Course S → List CostLine → PlanTest → List CostLine
after_ending courses lines t = after_passed lines t.name (passed_micros t (course_at courses t.number))

-- the failed names with that of one more test, by how it ended
abbrev pub with_failed : {S : Type 0} → IndexMap ℕ Course S → List (List ℕ) → PlanTest → List (List ℕ)
with_failed courses names t =
    if fails_by t (course_at courses t.number) then with_new_name names t.name else names

-- what the log says of a test, by how it ended
abbrev pub log_by : {S : Type 0} → IndexMap ℕ Course S → PlanTest → List ℕ
log_by courses t = if fails_by t (course_at courses t.number) then logged t else []
