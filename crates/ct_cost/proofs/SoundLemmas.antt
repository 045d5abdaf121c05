-- Cost data have one line for each name, with one to eight durations, and each failed name once.
use Rattle.std.proofs.Common.{◌≡◌, ◌∙◌, sym, ap, subst, refl, ℕ, ◌+◌, ◌-◌, ◌<◌, ◌≤◌, Bool, true, false, cond, List, [], ◌∷◌, ◌++◌, length, drop, map, filter, filter_map, fold, position, take, ◌&&◌, ◌==◌, Option, Some, None, IfSome, is_some, option_map, All, arith, length-append, length-drop, inl, inr}
use Rattle.std.specs.Prelude.{◌||◌, bytes_eq, option_and_then}
use Rattle.std.specs.Cmp.{IsEquivalence}
use Rattle.std.specs.List.{IsDistinct, after_first, before_first, cons_option, slice_split}
use Rattle.std.specs.Option.{option_map_or}
use Rattle.std.specs.Path.{rsplit_once}
use Rattle.std.proofs.Math.Nat.{min-le_right}
use Rattle.std.proofs.lemmas.Bool.{cases_Bool, cond_both}
use Rattle.std.proofs.lemmas.List.{map_push}
use Rattle.std.proofs.lemmas.List.Elements.{All-cons, All-drop, All-head, All-nil, All-push, All-tail}
use Rattle.std.proofs.lemmas.List.Splits.{length-slice_split}
use Rattle.std.proofs.lemmas.Map.Keys.{IsDistinct-push}
use Rattle.std.proofs.lemmas.Slice.Eq.{bytes_eq-Decides}
use Rattle.ct_base.specs.Names.{each_once, is_among, with_new_name}
use Rattle.ct_base.specs.Bytes.{minus, point, space}
use Rattle.ct_base.specs.Seconds.{is_numeral, micros_in, micros_of_digits, micros_with_point, most_micros, number_in, plain_micros}
use Rattle.ct_verdict.specs.declared.attempt.Seen.{Seen}
use Rattle.ct_history.specs.declared.plan.PlanTest.{PlanTest}
use Rattle.ct_history.specs.declared.plan.PlanParts.{PlanParts}
use Rattle.ct_history.specs.declared.history.Entry.{Entry}
use Rattle.ct_history.specs.Endings.{last_seen}
use Rattle.ct_history.specs.Failed.{failed_tests}
use Rattle.ct_cost.specs.declared.cost_data.CostData.{CostData}
use Rattle.ct_cost.specs.declared.line.Version.{Version}
use Rattle.ct_cost.specs.declared.line.Version.TheVariants.{One, Two}
use Rattle.ct_cost.specs.CostLine.{AreCostLines, AreCosts, AreDurations, CostLine, after_run, last_durations, line_of, unrun, with_line, with_new_line, with_run}
use Rattle.ct_cost.specs.Text.{durations_in, each_of, ends_duration, is_divider, is_mark, is_named, line_before, line_in, lines_in, named_line, only_duration}
use Rattle.ct_cost.specs.After.{after_test, counted_micros, passed_tests}
use Rattle.ct_cost.specs.Costs.{costs_after, costs_by, costs_from, costs_in}
use Rattle.ct_cost.proofs.DurationLemmas.{last_of-most}

same_bytes : (x y : List ℕ) → bytes_eq x y ≡ true → x ≡ y
same_bytes x y is = (bytes_eq-Decides x y).0 is

-- equal bytes are an equivalence
pub bytes_equiv : IsEquivalence bytes_eq
bytes_equiv = record {
  refl = λ x. (bytes_eq-Decides x x).1 refl;
  symm = flips;
  congr = λ x y z is. ap (λ name. bytes_eq name z) (same_bytes x y is);
}
  where
    flips : (x y : List ℕ) → bytes_eq x y ≡ bytes_eq y x
    flips x y = elim (cases_Bool (bytes_eq x y)) [
      | inl is ↦ is ∙ sym ((bytes_eq-Decides y x).1 (sym (same_bytes x y is)))
      | inr other ↦ elim (cases_Bool (bytes_eq y x)) [
        | inl is ↦ (bytes_eq-Decides x y).1 (sym (same_bytes y x is)) ∙ sym is
        | inr none ↦ other ∙ sym none
      ]
    ]

-- a name more that is new, or is there, leaves each name once
pub distinct-with : (names : List (List ℕ)) (name : List ℕ) → IsDistinct bytes_eq names → IsDistinct bytes_eq (with_new_name names name)
distinct-with names name once =
    cond_both (is_among name names) names (names ++ name ∷ []) (IsDistinct bytes_eq) (λ there. once) (λ new. IsDistinct-push bytes_equiv names name once new)

distinct-fold : (names more : List (List ℕ)) → IsDistinct bytes_eq names → IsDistinct bytes_eq (fold with_new_name names more)
distinct-fold names [] once = once
distinct-fold names (name ∷ more) once = distinct-fold (with_new_name names name) more (distinct-with names name once)

distinct-nil : IsDistinct bytes_eq []
unfolding IsDistinct
distinct-nil = tt

-- each of some names once is distinct
pub distinct-once : (names : List (List ℕ)) → IsDistinct bytes_eq (each_once names)
distinct-once names = distinct-fold [] names distinct-nil

abbrev names_of : List CostLine → List (List ℕ)
names_of lines = map (λ (line : CostLine). line.name) lines

found_by : (is : Bool) (first : CostLine) (found : Option CostLine) (there : Bool) → is_some found ≡ there → is_some (cond is (Some first) found) ≡ (is || there)
found_by true first found there same = refl
found_by false first found there same = same

-- a name has a line exactly where it is among the names of the lines
pub line_of-among : (lines : List CostLine) (name : List ℕ) → is_some (line_of lines name) ≡ is_among name (names_of lines)
line_of-among [] name = refl
line_of-among (first ∷ lines) name = found_by (bytes_eq name first.name) first (line_of lines name) (is_among name (names_of lines)) (line_of-among lines name)

new_by : (lines : List CostLine) (line : CostLine) (is : Bool) → names_of (cond is lines (lines ++ line ∷ [])) ≡ cond is (names_of lines) (names_of lines ++ line.name ∷ [])
new_by lines line true = refl
new_by lines line false = map_push (λ (l : CostLine). l.name) lines line

names-new : (lines : List CostLine) (line : CostLine) → names_of (with_new_line lines line) ≡ with_new_name (names_of lines) line.name
names-new lines line =
    new_by lines line (is_some (line_of lines line.name))
    ∙ ap (λ is. cond is (names_of lines) (names_of lines ++ line.name ∷ [])) (line_of-among lines line.name)

with_by : (first line : CostLine) (lines : List CostLine) (there : Bool) → names_of (with_line lines line) ≡ cond there (names_of lines) (names_of lines ++ line.name ∷ []) → (is : Bool) → bytes_eq line.name first.name ≡ is
    → names_of (cond is (line ∷ lines) (first ∷ with_line lines line)) ≡ cond (is || there) (first.name ∷ names_of lines) (first.name ∷ (names_of lines ++ line.name ∷ []))
with_by first line lines there rest true is = ap (λ name. name ∷ names_of lines) (same_bytes line.name first.name is)
with_by first line lines true rest false is = ap (λ names. first.name ∷ names) rest
with_by first line lines false rest false is = ap (λ names. first.name ∷ names) rest

names-with : (lines : List CostLine) (line : CostLine) → names_of (with_line lines line) ≡ with_new_name (names_of lines) line.name
names-with [] line = refl
names-with (first ∷ lines) line = with_by first line lines (is_among line.name (names_of lines)) (names-with lines line) (bytes_eq line.name first.name) refl

abbrev HasDurations : CostLine → Type 0
HasDurations line = AreDurations line.durations

have-with : (lines : List CostLine) (line : CostLine) → All HasDurations lines → HasDurations line → All HasDurations (with_line lines line)
have-with [] line all has = All-cons HasDurations line [] has all
have-with (first ∷ lines) line all has =
    cond_both (bytes_eq line.name first.name) (line ∷ lines) (first ∷ with_line lines line) (All HasDurations)
    (λ is. All-cons HasDurations line lines has (All-tail HasDurations first lines all))
    (λ other. All-cons HasDurations first (with_line lines line) (All-head HasDurations first lines all) (have-with lines line (All-tail HasDurations first lines all) has))

-- with a line in place of the one of its name, or behind the others, they are lines of cost data
pub lines-with : (lines : List CostLine) (line : CostLine) → AreCostLines lines → AreDurations line.durations → AreCostLines (with_line lines line)
lines-with lines line are has = record {
  durations = have-with lines line are.durations has;
  names = subst (IsDistinct bytes_eq) (sym (names-with lines line)) (distinct-with (names_of lines) line.name are.names);
}

-- with a line that is put behind the others, unless its name has one, they are lines of cost data
pub lines-new : (lines : List CostLine) (line : CostLine) → AreCostLines lines → AreDurations line.durations → AreCostLines (with_new_line lines line)
lines-new lines line are has = record {
  durations =
      cond_both (is_some (line_of lines line.name)) lines (lines ++ line ∷ []) (All HasDurations) (λ there. are.durations)
      (λ new. All-push HasDurations lines line are.durations has);
  names = subst (IsDistinct bytes_eq) (sym (names-new lines line)) (distinct-with (names_of lines) line.name are.names);
}

-- no lines are lines of cost data
pub lines-nil : AreCostLines []
lines-nil = record { durations = All-nil HasDurations; names = distinct-nil }

abbrev IsShort : ℕ → Type 0
IsShort micros = micros ≤ most_micros

-- the last of some durations, if there are any
pub last-durations : (durations : List ℕ) → 0 < length durations → All IsShort durations → AreDurations (last_durations durations)
last-durations durations some short =
    let n = length durations - 8 in
    let len : length (last_durations durations) ≡ length durations - n = length-drop n durations in
    record {
      some = omega arith;
      few = last_of-most durations;
      short = All-drop IsShort n durations short;
    }

-- the durations after one more run
pub durations-run : (durations : List ℕ) (micros : ℕ) → All IsShort durations → micros ≤ most_micros → AreDurations (last_durations (durations ++ micros ∷ []))
durations-run durations micros short is =
    let len : length (durations ++ micros ∷ []) ≡ length durations + 1 = length-append durations (micros ∷ []) in
    last-durations (durations ++ micros ∷ []) (omega arith) (All-push IsShort durations micros short is)

found-durations : (lines : List CostLine) (name : List ℕ) → All HasDurations lines → IfSome (line_of lines name) HasDurations
found-durations [] name all = tt
found-durations (first ∷ lines) name all =
    cond_both (bytes_eq name first.name) (Some first) (line_of lines name) (λ found. IfSome found HasDurations)
    (λ is. All-head HasDurations first lines all)
    (λ other. found-durations lines name (All-tail HasDurations first lines all))

run-durations : (micros : ℕ) (name : List ℕ) (found : Option CostLine) → micros ≤ most_micros → IfSome found HasDurations → HasDurations (option_map_or (with_run micros) found (with_run micros (unrun name)))
run-durations micros name None is has = durations-run [] micros (All-nil IsShort) is
run-durations micros name (Some line) is has = durations-run line.durations micros has.short is

-- after a run of a name they are lines of cost data
pub lines-run : (lines : List CostLine) (name : List ℕ) (micros : ℕ) → AreCostLines lines → micros ≤ most_micros → AreCostLines (after_run lines name micros)
lines-run lines name micros are is =
    lines-with lines (option_map_or (with_run micros) (line_of lines name) (with_run micros (unrun name))) are
    (run-durations micros name (line_of lines name) is (found-durations lines name are.durations))

counted-short : (seen : Option Seen) → counted_micros seen ≤ most_micros
counted-short None = omega arith
counted-short (Some seen) = min-le_right seen.micros most_micros

lines-fold : (entries : List Entry) (tests : List PlanTest) (lines : List CostLine) → AreCostLines lines → AreCostLines (fold (after_test entries) lines tests)
lines-fold entries [] lines are = are
lines-fold entries (t ∷ tests) lines are =
    lines-fold entries tests (after_test entries lines t)
    (lines-run lines t.name (counted_micros (last_seen t.number entries)) are (counted-short (last_seen t.number entries)))

-- after a run they are cost data
pub sound-after : (plan : PlanParts) (entries : List Entry) (costs : CostData) → AreCosts costs → AreCosts (costs_after plan entries costs)
sound-after plan entries costs are = record {
  lines = lines-fold entries (passed_tests plan entries) costs.lines are.lines;
  failed = distinct-once (map (λ (t : PlanTest). t.name) (failed_tests plan entries));
}

point-short : (text : List ℕ) (at : Option ℕ) → IfSome (micros_with_point text at) IsShort
point-short text None =
    cond_both (is_numeral text) (Some (micros_of_digits text [])) None (λ found. IfSome found IsShort) (λ is. min-le_right _ most_micros) (λ other. tt)
point-short text (Some at) =
    cond_both (is_numeral (take at text) && is_numeral (drop (at + 1) text)) (Some (micros_of_digits (take at text) (drop (at + 1) text))) None (λ found. IfSome found IsShort)
    (λ is. min-le_right _ most_micros) (λ other. tt)

zero-short : (found : Option ℕ) → IfSome (option_map (λ (micros : ℕ). 0) found) IsShort
zero-short None = tt
zero-short (Some micros) = omega arith

micros-short : (text : List ℕ) → IfSome (micros_in text) IsShort
micros-short [] = tt
micros-short (first ∷ rest) =
    cond_both (first == minus) (option_map (λ (micros : ℕ). 0) (plain_micros rest)) (plain_micros (first ∷ rest)) (λ found. IfSome found IsShort)
    (λ is. zero-short (plain_micros rest))
    (λ other. point-short (first ∷ rest) (position (λ byte. byte == point) (first ∷ rest)))

abbrev AreShort : ℕ → List ℕ → Type 0
AreShort n values = All IsShort values × (length values ≡ n)

more-by : (value n : ℕ) (found : Option (List ℕ)) → IsShort value → IfSome found (AreShort n) → IfSome (option_map (λ values. value ∷ values) found) (AreShort (n + 1))
more-by value n None short are = tt
more-by value n (Some values) short are = (All-cons IsShort value values short are.0, omega (arith, are.1))

each-by : (found : Option ℕ) (rest : List (Option ℕ)) (n : ℕ) → IfSome found IsShort → IfSome (each_of rest) (AreShort n) → IfSome (each_of (found ∷ rest)) (AreShort (n + 1))
each-by None rest n short are = tt
each-by (Some value) rest n short are = more-by value n (each_of rest) short are

each-short : (parts : List (List ℕ)) → IfSome (each_of (map micros_in parts)) (AreShort (length parts))
each-short [] = (All-nil IsShort, refl)
each-short (part ∷ parts) =
    let n : length parts + 1 ≡ length (part ∷ parts) = omega arith in
    subst (λ (k : ℕ). IfSome (each_of (map micros_in (part ∷ parts))) (AreShort k)) n (each-by (micros_in part) (map micros_in parts) (length parts) (micros-short part) (each-short parts))

last-by : (n : ℕ) (found : Option (List ℕ)) → 0 < n → IfSome found (AreShort n) → IfSome (option_map last_durations found) AreDurations
last-by n None some are = tt
last-by n (Some durations) some are = last-durations durations (omega (arith, are.1)) are.0

durations-read : (text : List ℕ) → IfSome (durations_in text) AreDurations
durations-read text =
    let parts = slice_split ends_duration text in
    last-by (length parts) (each_of (map micros_in parts)) (omega (arith, length-slice_split ends_duration text)) (each-short parts)

named-read : (name : List ℕ) (found : Option (List ℕ)) → IfSome found AreDurations → IfSome (named_line name found) HasDurations
named-read [] None has = tt
named-read [] (Some durations) has = tt
named-read (first ∷ rest) None has = tt
named-read (first ∷ rest) (Some durations) has = has

only-read : (runs cost : Option ℕ) → IfSome cost IsShort → IfSome (only_duration runs cost) AreDurations
only-read None None short = tt
only-read None (Some micros) short = tt
only-read (Some runs) None short = tt
only-read (Some runs) (Some micros) short = record {
  some = omega arith;
  few = omega arith;
  short = All-cons IsShort micros [] short (All-nil IsShort);
}

then-read : {A : Type 0} (read : A → Option CostLine) → ((x : A) → IfSome (read x) HasDurations) → (found : Option A) → IfSome (option_and_then read found) HasDurations
then-read read has None = tt
then-read read has (Some x) = has x

before-read : (cut : List ℕ × List ℕ) → IfSome (line_before cut) HasDurations
before-read cut =
    then-read (λ (front : List ℕ × List ℕ). named_line front.0 (only_duration (number_in front.1) (micros_in cut.1)))
    (λ front. named-read front.0 (only_duration (number_in front.1) (micros_in cut.1)) (only-read (number_in front.1) (micros_in cut.1) (micros-short cut.1)))
    (rsplit_once space cut.0)

-- a line that was read has one to eight durations
line-read : (version : Version) (text : List ℕ) → IfSome (line_in version text) HasDurations
line-read One text = then-read line_before before-read (rsplit_once space text)
line-read Two text =
    then-read (λ (cut : List ℕ × List ℕ). named_line cut.0 (durations_in cut.1)) (λ cut. named-read cut.0 (durations_in cut.1) (durations-read cut.1))
    (rsplit_once space text)

read-by : (version : Version) (found : Option CostLine) (texts : List (List ℕ)) (lines : List CostLine) → ((ls : List CostLine) → AreCostLines ls → AreCostLines (fold with_new_line ls (filter_map (line_in version) texts))) → AreCostLines lines → IfSome found HasDurations
    → AreCostLines (fold with_new_line lines (cons_option found (filter_map (line_in version) texts)))
read-by version None texts lines rest are has = rest lines are
read-by version (Some line) texts lines rest are has = rest (with_new_line lines line) (lines-new lines line are has)

lines-read : (version : Version) (texts : List (List ℕ)) (lines : List CostLine) → AreCostLines lines → AreCostLines (fold with_new_line lines (filter_map (line_in version) texts))
lines-read version [] lines are = are
lines-read version (text ∷ texts) lines are = read-by version (line_in version text) texts lines (λ ls. lines-read version texts ls) are (line-read version text)

sound-from : (version : Version) (lines : List (List ℕ)) → AreCosts (costs_from version lines)
sound-from version lines = record {
  lines = lines-read version (before_first is_divider lines) [] lines-nil;
  failed = distinct-once (filter is_named (after_first is_divider lines));
}

sound-by : (lines : List (List ℕ)) → AreCosts (costs_by lines)
sound-by [] = sound-from One []
sound-by (first ∷ rest) = cond_both (is_mark first) (costs_from Two rest) (costs_from One (first ∷ rest)) AreCosts (λ is. sound-from Two rest) (λ other. sound-from One (first ∷ rest))

-- what is read of a text are cost data
pub sound-in : (text : List ℕ) → AreCosts (costs_in text)
sound-in text = sound-by (lines_in text)
