-- How long a history takes at least, by the durations that it records. This project's own.
use Rattle.std.specs.Prelude.{◌≡◌, ℕ, ◌+◌, ◌≤◌, max, List, [], ◌∷◌, ◌++◌, map, filter_map, slice_index, Option, Some, None, unwrap_or, ◌==◌, if◌then◌else◌}
use Rattle.ct_history.specs.declared.history.Entry.{Entry}
use Rattle.ct_history.specs.declared.history.Entry.TheVariants.{Start, End, Settle, Stop}
use Rattle.ct_history.specs.Verdicts.{last_of_list}

-- an entry, and the moment at which it stands, in microseconds from the beginning
pub record Timed : Type 0 where
  pub entry : Entry
  pub moment : ℕ

-- the moment, if the entry starts an attempt of the test
abbrev pub start_at : ℕ → ℕ → Entry → Option ℕ
start_at test moment (Start t a w p) = if t == test then Some moment else None
start_at test moment (End t a w seen) = None
start_at test moment (Settle t cause) = None
start_at test moment Stop = None

-- the moments at which these entries start attempts of the test, in order
abbrev pub start_moments : ℕ → List Timed → List ℕ
start_moments test timed = filter_map (λ (x : Timed). start_at test x.moment x.entry) timed

-- the moment of the last Start of the test, 0 without one. Attempts of a test never overlap, so it is
-- the Start that an End of the test behind these entries ends
abbrev pub started : ℕ → List Timed → ℕ
started test timed = unwrap_or (last_of_list (start_moments test timed)) 0

-- the moment of the last entry, 0 without entries
abbrev pub last_moment : List Timed → ℕ
last_moment timed = unwrap_or (last_of_list (map (λ (x : Timed). x.moment) timed)) 0

-- when the attempt that the entry ends is over, by the moment at which each test started: its micros behind
-- it; 0 where the entry ends none
abbrev pub over_by : (ℕ → ℕ) → Entry → ℕ
over_by start (Start t a w p) = 0
over_by start (End t a w seen) = start t + seen.micros
over_by start (Settle t cause) = 0
over_by start Stop = 0

-- when the attempt that the entry ends is over at the earliest, behind these entries; 0 where it ends none
abbrev pub over_at : List Timed → Entry → ℕ
over_at front e = over_by (λ test. started test front) e

-- these moments never fall, and each End stands at least its micros behind its Start; `front` stands in
-- front of these entries
abbrev pub IsTimingBehind : List Timed → List Entry → List ℕ → Type 0
IsTimingBehind front [] [] = Unit {0}
IsTimingBehind front [] (m ∷ ms) = ⊥
IsTimingBehind front (e ∷ es) [] = ⊥
IsTimingBehind front (e ∷ es) (m ∷ ms) =
    (last_moment front ≤ m)
    × (over_at front e ≤ m)
    × IsTimingBehind (front ++ record { entry = e; moment = m } ∷ []) es ms

-- a timing of a history has one moment for each entry. It starts at 0, never falls, and has each End at
-- least its micros behind its Start
pub record IsTiming (entries : List Entry) (times : List ℕ) : Type 0 where
  pub starts : slice_index times 0 ≡ 0
  pub keeps : IsTimingBehind [] entries times

-- the entry at its least moment: that of the entry in front of it or, at an End that would be too
-- early, its micros behind its Start
abbrev pub next_timed : List Timed → Entry → Timed
next_timed front e = record { entry = e; moment = max (last_moment front) (over_at front e) }

-- these entries at their least moments; `front` stands in front of them
abbrev pub timed_behind : List Timed → List Entry → List Timed
timed_behind front [] = []
timed_behind front (e ∷ es) = next_timed front e ∷ timed_behind (front ++ next_timed front e ∷ []) es

-- the entries of a history at their least moments
abbrev pub timed : List Entry → List Timed
timed entries = timed_behind [] entries

-- the least times of a history
abbrev pub least_times : List Entry → List ℕ
least_times entries = map (λ (x : Timed). x.moment) (timed entries)

-- the length of a history: the last of its least times, 0 without entries
abbrev pub length_of : List Entry → ℕ
length_of entries = last_moment (timed entries)

-- one list of moments is at no place above another one
abbrev pub IsNeverAbove : List ℕ → List ℕ → Type 0
IsNeverAbove times others = (place : ℕ) → slice_index times place ≤ slice_index others place
