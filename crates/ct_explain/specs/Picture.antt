-- The picture of a recorded run: the lines of an SVG document. Source: SVG 1.1; how it looks is this
-- project's own.
use Rattle.std.specs.Prelude.{◌≡◌, ℕ, ◌+◌, ◌-◌, ◌*◌, List, [], ◌∷◌, ◌++◌, map, flat_map, length, count_by, slice_get, nat_eq, nat_lt, codes, decimal, Option, Some, None, option_map, option_and_then, ◌==◌, if◌then◌else◌}
use Rattle.indexmap.specs.IndexMap.{IndexMap, get}
use Rattle.ct_alloc.specs.declared.placement.Pick.{Pick}
use Rattle.ct_alloc.specs.declared.placement.Placement.{Placement}
use Rattle.ct_verdict.specs.declared.verdict.Verdict.{Verdict}
use Rattle.ct_verdict.specs.declared.verdict.Verdict.TheVariants.{Passed, Failed, Timeout, Exception, Skipped, NotRun, Disabled}
use Rattle.ct_verdict.specs.Verdict.{verdict_of}
use Rattle.ct_history.specs.declared.plan.PlanTest.{PlanTest}
use Rattle.ct_history.specs.declared.plan.PlanParts.{PlanParts}
use Rattle.ct_history.specs.declared.history.Entry.{Entry}
use Rattle.ct_history.specs.declared.history.Entry.TheVariants.{Start, End, Settle, Stop}
use Rattle.ct_history.specs.Plan.{test_at}
use Rattle.ct_times.specs.declared.chain.Link.{Link}
use Rattle.ct_explain.specs.declared.bars.Bar.{Bar}
use Rattle.ct_explain.specs.declared.frame.TheConstants.{STYLE, LEGEND}
use Rattle.ct_explain.specs.declared.story.Story.{Story}
use Rattle.ct_explain.specs.declared.wait.Wait.{Wait}
use Rattle.ct_explain.specs.Bars.{bars, last_place, workers}
use Rattle.ct_explain.specs.Escaped.{escaped_text}
use Rattle.ct_explain.specs.Report.{link_text, programs_micros}
use Rattle.ct_explain.specs.Scale.{marks, scaled, thousandths}
use Rattle.ct_explain.specs.Texts.{micros_text}

-- the place in a chain of the attempt whose End stands at this place among the entries, if it is of the chain
abbrev pub chained_at : List Link → ℕ → Option ℕ
chained_at links end = last_place (λ (l : Link). l.end == end) links

-- the map has for each place of an End the place in the chain
abbrev pub AreChained : {S : Type 0} → List Link → IndexMap ℕ ℕ S → Type 0
AreChained links chained = (end : ℕ) → get nat_eq chained end ≡ chained_at links end

-- what the attempt at this place of the chain waited for; the first waited for nothing
abbrev pub wait_at : List Wait → Option ℕ → Option Wait
wait_at waits place = option_and_then (λ n. if n == 0 then None else slice_get waits (n - 1)) place

-- how many of the workers stand above this one
abbrev pub worker_place : List ℕ → ℕ → ℕ
worker_place workers worker = count_by (λ other. nat_lt other worker) workers

-- the verdict of an attempt, where its test is in the plan
abbrev pub verdict_behind : List PlanTest → Bar → Option Verdict
verdict_behind tests bar =
    option_map (λ (t : PlanTest). verdict_of t.rules bar.seen) (test_at tests bar.link.test)

-- the class of what an attempt came to
abbrev pub class_of : Option Verdict → List ℕ
class_of None = codes "unstarted"
class_of (Some Passed) = codes "passed"
class_of (Some Failed) = codes "failing"
class_of (Some Timeout) = codes "failing"
class_of (Some Exception) = codes "failing"
class_of (Some Skipped) = codes "passed"
class_of (Some (NotRun cause)) = codes "unstarted"
class_of (Some Disabled) = codes "passed"

-- the outline of a bar in a row: from its least start on, as long as it took
abbrev pub box : ℕ → Link → ℕ → List ℕ
box row link length =
    codes "M"
    ++ thousandths (scaled length link.start)
    ++ codes " "
    ++ decimal (28 * row + 1)
    ++ codes "h"
    ++ thousandths (scaled length link.micros)
    ++ codes "v20h-"
    ++ thousandths (scaled length link.micros)
    ++ codes "z"

-- the bytes behind the first two, where there are two
abbrev pub behind_two : List ℕ → List ℕ
behind_two (a ∷ b ∷ bs) = bs
behind_two bytes = bytes

-- the line of the report of an attempt, without the two spaces in front of it
abbrev pub title : PlanParts → Link → Option Wait → List ℕ
title plan link wait = escaped_text (behind_two (link_text plan link wait))

-- these names, each behind a text
abbrev pub names_text : List ℕ → List (List ℕ) → List ℕ
names_text front names = flat_map (λ name. front ++ escaped_text name) names

-- the locks of a test
abbrev pub held : Option PlanTest → List ℕ
held None = []
held (Some t) = names_text (codes "&#10;lock ") t.locks ++ names_text (codes "&#10;shared lock ") t.shared

-- the slots of a resource
abbrev pub pick_text : Pick → List ℕ
pick_text pick =
    codes "&#10;"
    ++ decimal pick.slots
    ++ codes " slots of "
    ++ escaped_text pick.kind
    ++ codes " "
    ++ escaped_text pick.id

-- the slots of these resources
abbrev pub each_pick : List Pick → List ℕ
each_pick picks = flat_map pick_text picks

-- the resources of a placement
abbrev pub picks_text : Option Placement → List ℕ
picks_text None = []
picks_text (Some placement) = each_pick placement.picks

-- the placement of the Start that was looked up
abbrev pub bar_placement : Option Entry → Option Placement
bar_placement None = None
bar_placement (Some (Start t a w p)) = p
bar_placement (Some (End t a w seen)) = None
bar_placement (Some (Settle t cause)) = None
bar_placement (Some Stop) = None

-- the placement of the Start at a place
abbrev pub placement_at : List Entry → ℕ → Option Placement
placement_at entries place = bar_placement (slice_get entries place)

-- the end of a class, which says whether the attempt is of the chain
abbrev pub chain_mark : Option ℕ → List ℕ
chain_mark None = codes "' d='"
chain_mark (Some place) = codes " chain' d='"

-- the line of an attempt, which has this place in the chain, if any: a bar in the row of its worker, and as
-- its title the line of the report for it and the locks and resources that it held
abbrev pub line_of_bar : PlanParts → Story → List ℕ → Bar → Option ℕ → List ℕ
line_of_bar plan story workers bar place =
    codes "<path class='"
    ++ class_of (verdict_behind plan.tests bar)
    ++ chain_mark place
    ++ box (worker_place workers bar.worker) bar.link story.length
    ++ codes "'><title>"
    ++ title plan bar.link (wait_at story.waits place)
    ++ held (test_at plan.tests bar.link.test)
    ++ picks_text (placement_at story.entries bar.link.begin)
    ++ codes "</title></path>\n"

-- the line of an attempt
abbrev pub bar_line : PlanParts → Story → List ℕ → Bar → List ℕ
bar_line plan story workers bar = line_of_bar plan story workers bar (chained_at story.chain bar.link.end)

-- the line of each attempt
unfoldable pub bar_lines : PlanParts → Story → List ℕ → List (List ℕ)
bar_lines plan story workers = map (bar_line plan story workers) (bars story.entries story.times)

-- the line of a row: its ground, and the name of its worker
abbrev pub line_of_row : ℕ → ℕ → List ℕ
line_of_row row worker =
    codes "<path class='row' d='M0 "
    ++ decimal (28 * row)
    ++ codes "h1000v22h-1000z'/><text class='name' x='-12' y='"
    ++ decimal (28 * row + 16)
    ++ codes "'>worker "
    ++ decimal worker
    ++ codes "</text>\n"

-- the line of the row of a worker
abbrev pub row_line : List ℕ → ℕ → List ℕ
row_line workers worker = line_of_row (worker_place workers worker) worker

-- the line of a mark of the scale of time, over so many rows
abbrev pub mark_line : ℕ → ℕ → ℕ → List ℕ
mark_line length rows moment =
    codes "<path class='mark' d='M"
    ++ thousandths (scaled length moment)
    ++ codes " -6V"
    ++ decimal (28 * rows)
    ++ codes "'/><text class='time' x='"
    ++ thousandths (scaled length moment)
    ++ codes "' y='-14'>"
    ++ micros_text moment
    ++ codes "</text>\n"

-- the scale of time
abbrev pub mark_lines : ℕ → ℕ → List (List ℕ)
mark_lines length rows = map (mark_line length rows) (marks length)

-- the first line, for so many rows
abbrev pub opening_line : ℕ → List ℕ
opening_line rows =
    codes "<svg xmlns='http://www.w3.org/2000/svg' style='background:#fff' viewBox='-120 -190 1160 "
    ++ decimal (28 * rows + 210)
    ++ codes "'>\n"

-- the line of the folder
abbrev pub folder_line : PlanParts → List ℕ
folder_line plan =
    codes "<text class='head' x='0' y='-158'>Test project " ++ escaped_text plan.dir ++ codes "</text>\n"

-- the line of a time
abbrev pub time_line : List ℕ → ℕ → List ℕ
time_line front micros = front ++ micros_text micros ++ codes " sec</text>\n"

-- how the parts of a picture look
unfoldable pub style : List ℕ
style = STYLE.now

-- what the colours say
unfoldable pub legend : List ℕ
legend = LEGEND.now

-- the lines in front of the rows: how all looks, the first lines of the report, and what the colours say
abbrev pub front_lines : PlanParts → Story → ℕ → List (List ℕ)
front_lines plan story rows =
    opening_line rows
    ∷ style
    ∷ folder_line plan
    ∷ time_line (codes "<text x='0' y='-134'>Time of programs: ") (programs_micros story.entries)
    ∷ time_line (codes "<text x='0' y='-112'>Length: at least ") story.length
    ∷ legend
    ∷ []

-- the lines in front of the bars: the first ones, the row of each of these workers, and the scale of time
unfoldable pub frame_lines : PlanParts → Story → List ℕ → List (List ℕ)
frame_lines plan story workers =
    front_lines plan story (length workers)
    ++ map (row_line workers) workers
    ++ mark_lines story.length (length workers)

-- the picture over the rows of these workers
abbrev pub lines_over : PlanParts → Story → List ℕ → List (List ℕ)
lines_over plan story workers =
    frame_lines plan story workers ++ bar_lines plan story workers ++ codes "</svg>\n" ∷ []

-- the picture of what a story tells: a row for each worker that has a Start, and a bar for each attempt
abbrev pub picture_lines : PlanParts → Story → List (List ℕ)
picture_lines plan story = lines_over plan story (workers story.entries)
