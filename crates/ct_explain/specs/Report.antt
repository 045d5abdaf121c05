-- The report of a recorded run. Each line has its line feed. This project's own.
use Rattle.std.specs.Prelude.{ℕ, ◌+◌, Bool, true, false, List, [], ◌∷◌, ◌++◌, slice_get, sum_by, codes, decimal, nat_lt, Option, Some, None, ◌==◌, if◌then◌else◌}
use Rattle.ct_history.specs.declared.plan.PlanTest.{PlanTest}
use Rattle.ct_history.specs.declared.plan.PlanParts.{PlanParts}
use Rattle.ct_history.specs.declared.history.Entry.{Entry}
use Rattle.ct_history.specs.declared.history.Entry.TheVariants.{Start, End, Settle, Stop}
use Rattle.ct_report.specs.Report.{header_line}
use Rattle.ct_times.specs.Works.{kept_at}
use Rattle.ct_times.specs.Bounds.{amount_by, done_by}
use Rattle.ct_times.specs.declared.chain.Link.{Link}
use Rattle.ct_times.specs.declared.bounds.Bound.{Bound}
use Rattle.ct_times.specs.declared.bounds.Capacity.{Capacity}
use Rattle.ct_times.specs.declared.bounds.Capacity.TheVariants.{Path, Processors, Wide, Lock, Slots}
use Rattle.ct_explain.specs.declared.wait.Wait.{Wait}
use Rattle.ct_explain.specs.declared.story.Story.{Story}
use Rattle.ct_explain.specs.Texts.{capacity_text, name_at, micros_text, test_text, wait_text}

-- how long the attempt took that the entry ends, in microseconds; 0 where it ends none
abbrev pub micros_ended : Entry → ℕ
micros_ended (Start t a w p) = 0
micros_ended (End t a w seen) = seen.micros
micros_ended (Settle t cause) = 0
micros_ended Stop = 0

-- how long all attempts took together that ended in a history
abbrev pub programs_micros : List Entry → ℕ
programs_micros entries = sum_by micros_ended entries

-- the line of a time
abbrev pub seconds_line : List ℕ → ℕ → List ℕ
seconds_line front micros = front ++ micros_text micros ++ codes " sec\n"

-- the line of the folder, and a blank line
abbrev pub title_lines : PlanParts → List (List ℕ)
title_lines plan = header_line plan ∷ codes "\n" ∷ []

-- how long all programs took together, and the length
abbrev pub time_lines : Story → List (List ℕ)
time_lines story =
    seconds_line (codes "Time of programs: ") (programs_micros story.entries)
    ∷ seconds_line (codes "Length: at least ") story.length
    ∷ []

-- the first lines: the folder, how long all programs took together, and the length
abbrev pub head_lines : PlanParts → Story → List (List ℕ)
head_lines plan story = title_lines plan ++ time_lines story

-- the number of an attempt, from the second on
abbrev pub attempt_mark : ℕ → List ℕ
attempt_mark attempt = if nat_lt 1 attempt then codes " (attempt " ++ decimal attempt ++ codes ")" else []

-- what an attempt waited for, where that is told
abbrev pub waited_text : PlanParts → Option Wait → List ℕ
waited_text plan None = []
waited_text plan (Some wait) = codes ", waited for " ++ wait_text plan wait

-- when an attempt started at the earliest, and how long it took
abbrev pub span_text : Link → List ℕ
span_text link =
    (codes "  " ++ micros_text link.start) ++ (codes " + " ++ micros_text link.micros) ++ codes " sec  "

-- an attempt: when it started at the earliest, how long it took, its test, and what it waited for
abbrev pub link_text : PlanParts → Link → Option Wait → List ℕ
link_text plan link wait =
    span_text link
    ++ test_text link.test (name_at plan link.test)
    ++ attempt_mark link.attempt
    ++ waited_text plan wait

-- the line of an attempt
abbrev pub attempt_line : PlanParts → Link → Option Wait → List ℕ
attempt_line plan link wait = link_text plan link wait ++ codes "\n"

-- the lines of these attempts, what each waited for standing from this place on
abbrev pub waited_lines : PlanParts → List Wait → ℕ → List Link → List (List ℕ)
waited_lines plan waits place [] = []
waited_lines plan waits place (link ∷ links) =
    attempt_line plan link (slice_get waits place) ∷ waited_lines plan waits (place + 1) links

-- the lines of the attempts of a chain; the first of them waited for nothing
abbrev pub attempt_lines : PlanParts → List Link → List Wait → List (List ℕ)
attempt_lines plan [] waits = []
attempt_lines plan (first ∷ links) waits = attempt_line plan first None ∷ waited_lines plan waits 0 links

-- a blank line, and the heading of the attempts
abbrev pub heading_lines : List (List ℕ)
heading_lines = codes "\n" ∷ codes "The length is made of:\n" ∷ []

-- the attempts that the length is made of
abbrev pub chain_lines : PlanParts → Story → List (List ℕ)
chain_lines plan story = heading_lines ++ attempt_lines plan story.chain story.waits

-- that no other order is shorter than these microseconds, for a history of this length
abbrev pub bound_front : ℕ → ℕ → List ℕ
bound_front micros length =
    if micros == length
    then codes "is shorter: "
    else codes "takes less than " ++ micros_text micros ++ codes " sec: "

-- the line of a bound, for a history of this length
abbrev pub bound_line : Bound → ℕ → List ℕ
bound_line bound length =
    codes "No order of these programs "
    ++ bound_front bound.micros length
    ++ capacity_text bound.size bound.capacity
    ++ codes "\n"

-- the tests that take something of the capacity are listed
abbrev pub is_listed : Capacity → Bool
is_listed (Path tests) = true
is_listed Processors = false
is_listed Wide = true
is_listed (Lock name sharer) = true
is_listed (Slots kind block) = false

-- the line of a test with its work
abbrev pub work_line : ℕ → PlanTest → List ℕ
work_line work t = codes "  " ++ micros_text work ++ codes " sec  " ++ test_text t.number t.name ++ codes "\n"

-- the test counts for the bound: it ran, and takes some of the capacity
abbrev pub counts : PlanParts → Story → PlanTest → Bool
counts plan story t =
    nat_lt 0 (amount_by plan.level (done_by story.works) story.bound.capacity story.bound.size t)

-- the line of a test, where it counts for the bound
abbrev pub work_lines : PlanParts → Story → PlanTest → List (List ℕ)
work_lines plan story t =
    if counts plan story t then work_line (kept_at story.works t.number) t ∷ [] else []

-- the lines of those of these tests that count for the bound
abbrev pub works_lines : PlanParts → Story → List PlanTest → List (List ℕ)
works_lines plan story [] = []
works_lines plan story (t ∷ ts) = work_lines plan story t ++ works_lines plan story ts

-- the lines of the tests that count for the bound, where tests are listed for its capacity
abbrev pub amount_lines : PlanParts → Story → List (List ℕ)
amount_lines plan story = if is_listed story.bound.capacity then works_lines plan story plan.tests else []

-- a blank line, and the line of the bound
abbrev pub bound_title_lines : Story → List (List ℕ)
bound_title_lines story = codes "\n" ∷ bound_line story.bound story.length ∷ []

-- the bound of all orders, and the tests that count for it
abbrev pub bound_lines : PlanParts → Story → List (List ℕ)
bound_lines plan story = bound_title_lines story ++ amount_lines plan story

-- the lines behind the first ones: the chain and the bound, or nothing where the length is 0
abbrev pub explained_lines : PlanParts → Story → List (List ℕ)
explained_lines plan story =
    if story.length == 0 then [] else chain_lines plan story ++ bound_lines plan story

-- the report of what a story tells
abbrev pub explanation_lines : PlanParts → Story → List (List ℕ)
explanation_lines plan story = head_lines plan story ++ explained_lines plan story
