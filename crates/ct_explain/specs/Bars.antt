-- The attempts of a history as a picture shows them. This project's own.
use Rattle.std.specs.Prelude.{◌≡◌, ℕ, ◌+◌, ◌<◌, ◌≤◌, AllPairs, Bool, false, List, [], ◌∷◌, ◌++◌, fold, filter_map, length, map, nat_eq, slice_index, Option, Some, None, option_map, ◌==◌, if◌then◌else◌}
use Rattle.std.specs.Option.{option_or}
use Rattle.std.specs.List.{cons_option}
use Rattle.std.specs.Ordering.{nat_cmp}
use Rattle.std.specs.BTreeSet.{insert_key}
use Rattle.indexmap.specs.IndexMap.{IndexMap, get}
use Rattle.ct_history.specs.declared.history.Entry.{Entry}
use Rattle.ct_history.specs.declared.history.Entry.TheVariants.{Start, End, Settle, Stop}
use Rattle.ct_explain.specs.declared.bars.Bar.{Bar}

-- these workers, with the one that the entry has start an attempt at its place in ascending order, once
abbrev pub keep_starter : List ℕ → Entry → List ℕ
keep_starter kept (Start t a w p) = insert_key nat_cmp kept w
keep_starter kept (End t a w seen) = kept
keep_starter kept (Settle t cause) = kept
keep_starter kept Stop = kept

-- the workers that have a Start, each once, in ascending order
abbrev pub workers : List Entry → List ℕ
workers entries = fold keep_starter [] entries

-- the entry starts an attempt of the test
abbrev pub is_start_of : ℕ → Entry → Bool
is_start_of test (Start t a w p) = t == test
is_start_of test (End t a w seen) = false
is_start_of test (Settle t cause) = false
is_start_of test Stop = false

-- the place, from 0, of the last element that passes the test, if one does
abbrev pub last_place : {A : Type 0} → (A → Bool) → List A → Option ℕ
last_place p [] = None
last_place p (x ∷ xs) = option_or (option_map (λ n. n + 1) (last_place p xs)) (if p x then Some 0 else None)

-- the map has for each test the place of its last Start among these entries
abbrev pub AreBegins : {S : Type 0} → List Entry → IndexMap ℕ ℕ S → Type 0
AreBegins front begins = (test : ℕ) → get nat_eq begins test ≡ last_place (is_start_of test) front

-- the place of the last Start of the test, with one entry more at this place
abbrev pub begin_with : ℕ → ℕ → Entry → Option ℕ → Option ℕ
begin_with test place e before = if is_start_of test e then Some place else before

-- the attempt that the entry at this place ends, by the place of the last Start of each test; `times` has the
-- least time of each entry
abbrev pub bar_with : List ℕ → ℕ → (ℕ → Option ℕ) → Entry → Option Bar
bar_with times end begins (Start t a w p) = None
bar_with times end begins (End t a w seen) =
    option_map (λ begin. record {
      link = record {
        test = t;
        attempt = a;
        start = slice_index times begin;
        micros = seen.micros;
        begin = begin;
        end = end;
      };
      worker = w;
      seen = seen;
    })
    (begins t)
bar_with times end begins (Settle t cause) = None
bar_with times end begins Stop = None

-- the attempt that the entry ends, which began at the last Start of its test among the entries in front of it
abbrev pub bar_by : List ℕ → List Entry → Entry → Option Bar
bar_by times front e = bar_with times (length front) (λ test. last_place (is_start_of test) front) e

-- the attempts that these entries end; `front` stands in front of them
abbrev pub bars_behind : List ℕ → List Entry → List Entry → List Bar
bars_behind times front [] = []
bars_behind times front (e ∷ es) =
    cons_option (bar_by times front e) (bars_behind times (front ++ e ∷ []) es)

-- the attempts that have ended in a history, in the order of their Ends
abbrev pub bars : List Entry → List ℕ → List Bar
bars entries times = bars_behind times [] entries

-- an attempt of a test, and the worker that made it
pub record Attempt : Type 0 where
  pub test : ℕ
  pub attempt : ℕ
  pub worker : ℕ

-- the attempt that the entry ends
abbrev pub attempt_ended : Entry → Option Attempt
attempt_ended (Start t a w p) = None
attempt_ended (End t a w seen) = Some (record { test = t; attempt = a; worker = w })
attempt_ended (Settle t cause) = None
attempt_ended Stop = None

-- the attempt that a bar shows
abbrev pub bar_attempt : Bar → Attempt
bar_attempt bar = record { test = bar.link.test; attempt = bar.link.attempt; worker = bar.worker }

-- the bars show exactly the attempts that have ended, one bar for each End, in order
abbrev pub ShowEachEnd : List Entry → List Bar → Type 0
ShowEachEnd entries bars = map bar_attempt bars ≡ filter_map attempt_ended entries

-- the bars of one worker do not overlap: of two of them, the End of the first stands in front of the Start of
-- the second
abbrev pub DoNotOverlap : List Bar → Type 0
DoNotOverlap bars =
    AllPairs (λ (one other : Bar). one.worker ≡ other.worker → one.link.end < other.link.begin) bars

-- the bars of one worker do not overlap in time: of two of them, the first is over, by its start and its
-- micros, when the second starts
abbrev pub DoNotOverlapInTime : List Bar → Type 0
DoNotOverlapInTime bars =
    AllPairs (λ (one other : Bar).
    one.worker ≡ other.worker → one.link.start + one.link.micros ≤ other.link.start) bars
