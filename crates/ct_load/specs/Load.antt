-- What a load is asked for, and what it puts and returns. This project's own.
use Rattle.std.specs.Prelude.{◌≡◌, ◌⊎◌, ℕ, ◌≤◌, nat_le, ◌&&◌, List, [], ◌∷◌, codes, Option, Some, None, IsSomeAnd, Result, Ok, Err, if◌then◌else◌}
use Rattle.ct_base.specs.declared.sink.SinkFault.{SinkFault}
use Rattle.ct_base.specs.declared.sink.SinkFault.TheVariants.{Failed, NoMemory}
use Rattle.ct_base.specs.Outside.{Rose, SinkTell}
use Rattle.ct_base.specs.Seconds.{number_in}
use Rattle.ct_report.specs.PutLines.{PutsLines}
use Rattle.ct_report.specs.Report.{summary_lines}
use Rattle.ct_app.specs.Calls.{Tries}
use Rattle.ct_app.specs.Complete.{IsRunnable}
use Rattle.ct_app.specs.Ends.{history_entries}
use Rattle.ct_load.specs.declared.load.TheConstants.{MOST_TESTS}
use Rattle.ct_load.specs.Run.{IsLoadRun, LoadRun, run_sides}

-- the greatest number of tests
abbrev pub most_load_tests : ℕ
most_load_tests = MOST_TESTS

-- the number is from 1 to the greatest number of tests
abbrev pub IsLoadCount : ℕ → Type 0
IsLoadCount count = (1 ≤ count) × (count ≤ most_load_tests)

-- a number of tests, if it is from 1 to the greatest number
abbrev pub count_within : ℕ → Option ℕ
count_within count = if nat_le 1 count && nat_le count most_load_tests then Some count else None

-- the number of tests that a word asks for, if the word is a number from 1 to the greatest number
abbrev pub count_in_word : Option ℕ → Option ℕ
count_in_word None = None
count_in_word (Some count) = count_within count

-- the number of tests that these words ask for, if they are one word, a number from 1 to the greatest number
abbrev pub asked_count : List (List ℕ) → Option ℕ
asked_count [] = None
asked_count (word ∷ []) = count_in_word (number_in word)
asked_count (word ∷ other ∷ words) = None

-- a run of so many tests can be made: its words are accepted, its tests and their properties are read without
-- refusal, there are not too many edges, and no cycle
abbrev pub CanBeRun : ℕ → Type 0
CanBeRun count = (run : LoadRun) → IsRunnable (run_sides count run)

-- the line that says which words a load takes
abbrev pub usage_line : List ℕ
usage_line = codes "usage: ct_load n\n"

-- the summary of a run was put; where the put failed, a beginning of it was written
abbrev pub PutsSummary : LoadRun → SinkTell → SinkTell → Result (Unit {0}) SinkFault → Type 0
PutsSummary run before now put = IsSomeAnd run.plan (λ plan. IsSomeAnd run.history (λ history.
    PutsLines (summary_lines plan (history_entries history)) before now put))

-- a run of `count` tests was completed, and its summary was put, or a beginning of it
pub record IsShown (count : ℕ) (run : LoadRun) (before now : SinkTell)
    (put : Result (Unit {0}) SinkFault) : Type 0 where
  pub ran : IsLoadRun count run
  pub summary : PutsSummary run before now put

-- the whole summary was put, and the status is that of the run
pub record IsWhole (count : ℕ) (run : LoadRun) (before now : SinkTell) (status : ℕ) : Type 0 where
  pub shown : IsShown count run before now (Ok tt)
  pub is : status ≡ run.status

-- the sink failed at the summary, of which a beginning was written
pub record IsCut (count : ℕ) (run : LoadRun) (before now : SinkTell) (status : ℕ) : Type 0 where
  pub shown : IsShown count run before now (Err Failed)
  pub rose : Rose before.faults now.faults
  pub is : status ≡ 4

-- memory was wanting: nothing was put, or a beginning of the summary of a run
abbrev pub EndsEarly : ℕ → SinkTell → SinkTell → Type 0
EndsEarly count before now = (now ≡ before) ⊎ ((run : LoadRun) × IsShown count run before now (Err NoMemory))

-- what a load of `count` tests returns: a run whose summary was put, whole or cut; without a
-- run, an early end and the status 5
abbrev pub LoadsTests : ℕ → SinkTell → SinkTell → Option LoadRun → ℕ → Type 0
LoadsTests count before now (Some run) status =
    IsWhole count run before now status ⊎ IsCut count run before now status
LoadsTests count before now None status = EndsEarly count before now × (status ≡ 5)

-- what a load returns, by the number of tests that it is asked for. Without a number it has no run, the put
-- of the usage line is tried, and the status is 1.
abbrev pub Loads : Option ℕ → SinkTell → SinkTell → Option LoadRun → ℕ → Type 0
Loads (Some count) before now run status = LoadsTests count before now run status
Loads None before now run status = Tries usage_line before now × (run ≡ None) × (status ≡ 1)
