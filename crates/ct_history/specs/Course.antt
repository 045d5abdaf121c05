-- How a test has fared so far: what settled it, and what was seen of its attempts. This project's own.
use Rattle.std.specs.Prelude.{◌≡◌, true, if◌then◌else◌, ℕ, ◌+◌, ◌-◌, ◌^◌, min, List, [], ◌++◌, filter, map, length, filter_map, nat_eq, not, ◌&&◌, ◌==◌, ◌∷◌, Option, Some, None, option_map}
use Rattle.std.specs.Option.{unwrap_or, option_or}
use Rattle.indexmap.specs.IndexMap.{IndexMap, get}
use Rattle.ct_verdict.specs.declared.attempt.Seen.{Seen}
use Rattle.ct_verdict.specs.declared.repeat.Repeat.{Repeat}
use Rattle.ct_verdict.specs.declared.verdict.Verdict.{Verdict}
use Rattle.ct_verdict.specs.declared.verdict.Verdict.TheVariants.{Disabled}
use Rattle.ct_verdict.specs.Verdict.{verdict_of}
use Rattle.ct_history.specs.declared.plan.PlanTest.{PlanTest}
use Rattle.ct_history.specs.declared.history.Entry.{Entry}
use Rattle.ct_history.specs.declared.history.Entry.TheVariants.{Start, End, Settle, Stop}
use Rattle.ct_history.specs.History.{Running, settled_by}
use Rattle.ct_history.specs.Verdicts.{is_final_in, last_of_list, settled_cause, settled_or, verdict_in}
use Rattle.ct_history.specs.Endings.{seen_at_end}
use Rattle.ct_history.specs.declared.course.Course.{Course}
use Rattle.ct_history.specs.declared.course.Ended.{Ended}
use Rattle.ct_history.specs.declared.open_start.OpenStart.{OpenStart}

-- the greatest number of 32 bits, at which counts stop
abbrev pub most_attempts_seen : ℕ
most_attempts_seen = 2 ^ 32 - 1

-- what was seen of the attempts of a test that have ended, in order
abbrev pub seens_of : ℕ → List Entry → List Seen
seens_of test entries = filter_map (seen_at_end test) entries

-- the last of these attempts, and how many ended before it
abbrev pub ended_in : List Seen → Option Ended
ended_in seens =
    option_map (λ seen. record { earlier = min (length seens - 1) most_attempts_seen; last = seen })
    (last_of_list seens)

-- how a test has fared in a history
abbrev pub course_in : List Entry → ℕ → Course
course_in entries test = record {
  settled = settled_cause test entries;
  ended = ended_in (seens_of test entries);
}

-- how a test that no entry is about has fared
abbrev pub untouched : Course
untouched = record { settled = None; ended = None }

-- how a test has fared, by a map
abbrev pub course_at : {S : Type 0} → IndexMap ℕ Course S → ℕ → Course
course_at courses test = unwrap_or (get nat_eq courses test) untouched

-- one attempt more has ended
abbrev pub ended_after : Option Ended → Seen → Ended
ended_after None seen = record { earlier = 0; last = seen }
ended_after (Some ended) seen = record { earlier = min (ended.earlier + 1) most_attempts_seen; last = seen }

-- the attempts that have ended, with one more where there is one
abbrev pub ended_with : Option Ended → Option Seen → Option Ended
ended_with ended None = ended
ended_with ended (Some seen) = Some (ended_after ended seen)

-- how a test has fared, with one entry more
abbrev pub course_after : ℕ → Course → Entry → Course
course_after test course entry = record {
  settled = option_or course.settled (settled_by test entry);
  ended = ended_with course.ended (seen_at_end test entry);
}

-- an open start, as a history has it
abbrev pub running_of : OpenStart → Running
running_of start = record {
  test = start.test;
  attempt = start.attempt;
  worker = start.worker;
  placement = start.placement;
}

-- these open starts, as a history has them
abbrev pub runs : List OpenStart → List Running
runs starts = map running_of starts

-- what was seen of the last attempt that has ended
abbrev pub last_of_course : Course → Option Seen
last_of_course course = option_map (λ (e : Ended). e.last) course.ended

-- the verdict of a test that is final, by how it has fared
abbrev pub verdict_by : PlanTest → Course → Option Verdict
verdict_by t course =
    if t.disabled
    then Some Disabled
    else settled_or course.settled (option_map (verdict_of t.rules) (last_of_course course))

-- the map has for each test how it has fared in the history
abbrev pub AreCourses : {S : Type 0} → IndexMap ℕ Course S → List Entry → Type 0
AreCourses courses entries = (test : ℕ) → course_at courses test ≡ course_in entries test

-- for each final test, `verdict_by` of what the map has of it is its verdict in the history
abbrev pub HaveVerdicts : {S : Type 0} → IndexMap ℕ Course S → List Entry → Type 0
HaveVerdicts courses entries =
    (repeat : Repeat) (t : PlanTest) → is_final_in repeat t entries ≡ true
    → verdict_by t (course_at courses t.number) ≡ verdict_in repeat t entries

-- the open starts, with one entry more
abbrev pub open_starts_after : List OpenStart → Entry → List OpenStart
open_starts_after starts (Start t a w p) =
    starts ++ record { test = t; attempt = a; worker = w; placement = p } ∷ []
open_starts_after starts (End t a w seen) =
    filter (λ (s : OpenStart). not (s.test == t && s.attempt == a)) starts
open_starts_after starts (Settle t cause) = starts
open_starts_after starts Stop = starts
