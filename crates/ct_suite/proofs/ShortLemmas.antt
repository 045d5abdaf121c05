-- What commands take from short values is short, so the values of tests stay short.
use Rattle.std.proofs.Common.{◌≡◌, ℕ, ◌+◌, ◌≤◌, Bool, true, false, cond, ◌==◌, bytes_eq, List, [], ◌∷◌, ◌++◌, length, All, Option, Some, None, IfSome, option_map, sym, subst, arith, length-append}
use Rattle.std.proofs.lemmas.List.Elements.{All-nil, All-cons, All-head, All-tail, All-append, All-weaker, All-filter, All-push, All-same}
use Rattle.ct_base.specs.Bytes.{semicolon}
use Rattle.ct_base.specs.Entries.{entries_of, is_entry, is_escape, parts_of, parts_with, with_front}
use Rattle.ct_base.specs.declared.defs.Pair.{Pair}
use Rattle.ct_base.specs.declared.defs.TestDef.{TestDef}
use Rattle.ct_suite.specs.Tests.{AreShort, HasShortValues, HaveShort, each_where, is_labels, labels_in, labels_of, new_test, taking_labels, taking_props, with_prop, with_props}
use Rattle.ct_suite.specs.Words.{is_properties, names_and_pairs, pairs_behind, pairs_of}
use Rattle.ct_suite.proofs.WordLemmas.{Read}

abbrev Short : ℕ → List ℕ → Type 0
Short most value = length value ≤ most

abbrev ShortProp : ℕ → Pair → Type 0
ShortProp most prop = length prop.value ≤ most

longer : (most more : ℕ) → most ≤ more → (values : List (List ℕ)) → AreShort most values → AreShort more values
longer most more up values short = All-weaker (Short most) (Short more) (λ value is. omega arith) values short

front-short : (most : ℕ) (piece : List ℕ) (parts : List (List ℕ)) → AreShort most parts → AreShort (length piece + most) (with_front piece parts)
front-short most piece [] short = All-cons (Short (length piece + most)) piece [] (omega arith) (All-nil (Short (length piece + most)))
front-short most piece (part ∷ parts) short =
    let first = All-head (Short most) part parts short in
    All-cons (Short (length piece + most)) (piece ++ part) parts (omega (arith, first, length-append piece part)) (longer most (length piece + most) (omega arith) parts (All-tail (Short most) part parts short))

with-short_by : (byte most : ℕ) (parts : List (List ℕ)) (is : Bool) → AreShort most parts → AreShort (1 + most) (cond is ([] ∷ parts) (with_front (byte ∷ []) parts))
with-short_by byte most parts true short = All-cons (Short (1 + most)) [] parts (omega arith) (longer most (1 + most) (omega arith) parts short)
with-short_by byte most parts false short = front-short most (byte ∷ []) parts short

parts-short_by : (most : ℕ) (escaped plain : List (List ℕ)) (is : Bool) → AreShort most escaped → AreShort most plain → AreShort most (cond is escaped plain)
parts-short_by most escaped plain true one other = one
parts-short_by most escaped plain false one other = other

nothing-short : (most : ℕ) → AreShort most ([] ∷ [])
nothing-short most = All-cons (Short most) [] [] (omega arith) (All-nil (Short most))

-- no part is longer than its text
parts-short : (text : List ℕ) → AreShort (length text) (parts_of text)
parts-short [] = nothing-short 0
parts-short (byte ∷ []) = with-short_by byte 0 ([] ∷ []) (byte == semicolon) (nothing-short 0)
parts-short (byte ∷ next ∷ rest) =
    let escaped = longer (1 + length rest) (length (byte ∷ next ∷ rest)) (omega arith) (with_front (semicolon ∷ []) (parts_of rest)) (front-short (length rest) (semicolon ∷ []) (parts_of rest) (parts-short rest)) in
    let plain = longer (1 + length (next ∷ rest)) (length (byte ∷ next ∷ rest)) (omega arith) (parts_with byte (parts_of (next ∷ rest))) (with-short_by byte (length (next ∷ rest)) (parts_of (next ∷ rest)) (byte == semicolon) (parts-short (next ∷ rest))) in
    parts-short_by (length (byte ∷ next ∷ rest)) (with_front (semicolon ∷ []) (parts_of rest)) (parts_with byte (parts_of (next ∷ rest))) (is_escape (byte ∷ next ∷ rest)) escaped plain

pub entries-short : (most : ℕ) (text : List ℕ) → length text ≤ most → AreShort most (entries_of text)
entries-short most text short = All-filter is_entry (Short most) (parts_of text) (longer (length text) most short (parts_of text) (parts-short text))

labels_by : (most : ℕ) (prop : Pair) (is : Bool) → ShortProp most prop → AreShort most (cond is (entries_of prop.value) [])
labels_by most prop true short = entries-short most prop.value short
labels_by most prop false short = All-nil (Short most)

-- labels are no longer than the values of the properties that hold them
pub labels_of-short : (most : ℕ) (props : List Pair) → HaveShort most props → AreShort most (labels_of props)
labels_of-short most [] short = All-nil (Short most)
labels_of-short most (prop ∷ props) short =
    All-append (Short most) (labels_in prop) (labels_of props) (labels_by most prop (is_labels prop) (All-head (ShortProp most) prop props short)) (labels_of-short most props (All-tail (ShortProp most) prop props short))

pairs_by : (most : ℕ) (key value : List ℕ) (read : Option (List Pair)) → length value ≤ most → IfSome read (HaveShort most) → IfSome (option_map (λ (pairs : List Pair). record { name = key; value = value } ∷ pairs) read) (HaveShort most)
pairs_by most key value None short more = tt
pairs_by most key value (Some pairs) short more = All-cons (ShortProp most) (record { name = key; value = value }) pairs short more

pub pairs_of-short : (most : ℕ) (values : List (List ℕ)) → AreShort most values → IfSome (pairs_of values) (HaveShort most)
pairs_of-short most [] short = All-nil (ShortProp most)
pairs_of-short most (key ∷ []) short = tt
pairs_of-short most (key ∷ value ∷ more) short =
    let rest = All-tail (Short most) key (value ∷ more) short in
    pairs_by most key value (pairs_of more) (All-head (Short most) value more rest) (pairs_of-short most more (All-tail (Short most) value more rest))

read_first : (most : ℕ) (read : Option (List Pair)) → IfSome read (HaveShort most) → IfSome (option_map (λ (pairs : List Pair). ([], pairs)) read) (λ (r : Read). HaveShort most r.1)
read_first most None short = tt
read_first most (Some pairs) short = short

read_more : (most : ℕ) (first : List ℕ) (read : Option Read) → IfSome read (λ r. HaveShort most r.1) → IfSome (option_map (λ (r : Read). (first ∷ r.0, r.1)) read) (λ (r : Read). HaveShort most r.1)
read_more most first None short = tt
read_more most first (Some r) short = short

read_by : (most : ℕ) (one other : Option Read) (is : Bool) → IfSome one (λ r. HaveShort most r.1) → IfSome other (λ r. HaveShort most r.1) → IfSome (cond is one other) (λ r. HaveShort most r.1)
read_by most one other true here behind = here
read_by most one other false here behind = behind

pub names_and_pairs-short : (most : ℕ) (values : List (List ℕ)) → AreShort most values → IfSome (names_and_pairs values) (λ (r : Read). HaveShort most r.1)
names_and_pairs-short most [] short = tt
names_and_pairs-short most (first ∷ values) short =
    let rest = All-tail (Short most) first values short in
    read_by most (option_map (λ (pairs : List Pair). ([], pairs)) (pairs_of values)) (option_map (λ (r : Read). (first ∷ r.0, r.1)) (names_and_pairs values)) (is_properties first)
    (read_first most (pairs_of values) (pairs_of-short most values rest))
    (read_more most first (names_and_pairs values) (names_and_pairs-short most values rest))

behind_by : (most : ℕ) (read : Option (List Pair)) (is : Bool) → IfSome read (HaveShort most) → IfSome (cond is read None) (HaveShort most)
behind_by most read true short = short
behind_by most read false short = tt

pub pairs_behind-short : (most : ℕ) (values : List (List ℕ)) → AreShort most values → IfSome (pairs_behind values) (HaveShort most)
pairs_behind-short most [] short = tt
pairs_behind-short most (first ∷ values) short =
    behind_by most (pairs_of values) (is_properties first) (pairs_of-short most values (All-tail (Short most) first values short))

-- the first of some short values is short; then: so are the others
pub first-short : (most : ℕ) (values : List (List ℕ)) (first : List ℕ) (rest : List (List ℕ)) → values ≡ first ∷ rest → AreShort most values → length first ≤ most
first-short most values first rest is short = All-head (Short most) first rest (All-same (Short most) (first ∷ rest) values (sym is) short)

pub rest-short : (most : ℕ) (values : List (List ℕ)) (first : List ℕ) (rest : List (List ℕ)) → values ≡ first ∷ rest → AreShort most values → AreShort most rest
rest-short most values first rest is short = All-tail (Short most) first rest (All-same (Short most) (first ∷ rest) values (sym is) short)

-- what was read is short
pub read-short : {A : Type 0} (P : A → Type 0) (read : Option A) (x : A) → read ≡ Some x → IfSome read P → P x
read-short {A = A} P read x is short = let Q : Option A → Type 0 = λ r. IfSome r P in subst Q is short

props_by : (most : ℕ) (one other : List Pair) (is : Bool) → HaveShort most one → HaveShort most other → HaveShort most (cond is one other)
props_by most one other true here behind = here
props_by most one other false here behind = behind

with_prop-short : (most : ℕ) (props : List Pair) (prop : Pair) → HaveShort most props → ShortProp most prop → HaveShort most (with_prop props prop)
with_prop-short most [] prop short here = All-cons (ShortProp most) prop [] here (All-nil (ShortProp most))
with_prop-short most (first ∷ props) prop short here =
    let rest = All-tail (ShortProp most) first props short in
    props_by most (prop ∷ props) (first ∷ with_prop props prop) (bytes_eq prop.name first.name)
    (All-cons (ShortProp most) prop props here rest)
    (All-cons (ShortProp most) first (with_prop props prop) (All-head (ShortProp most) first props short) (with_prop-short most props prop rest here))

with_props-short : (most : ℕ) (props more : List Pair) → HaveShort most props → HaveShort most more → HaveShort most (with_props props more)
with_props-short most props [] short more_short = short
with_props-short most props (prop ∷ more) short more_short =
    with_props-short most (with_prop props prop) more (with_prop-short most props prop short (All-head (ShortProp most) prop more more_short)) (All-tail (ShortProp most) prop more more_short)

-- a new test has short values; so has a test that takes properties or labels
pub new_test-short : (most : ℕ) (dir name : List ℕ) (command : List (List ℕ)) → length name ≤ most → AreShort most command → HasShortValues most (new_test dir name command)
new_test-short most dir name command short all = record { name = short; command = all; props = All-nil (ShortProp most); labels = All-nil (Short most) }

pub taking_props-short : (most : ℕ) (props : List Pair) → HaveShort most props → (test : TestDef) → HasShortValues most test → HasShortValues most (taking_props props test)
taking_props-short most props short test is = record { name = is.name; command = is.command; props = with_props-short most test.props props is.props short; labels = is.labels }

pub taking_labels-short : (most : ℕ) (labels : List (List ℕ)) → AreShort most labels → (test : TestDef) → HasShortValues most test → HasShortValues most (taking_labels labels test)
taking_labels-short most labels short test is = record { name = is.name; command = is.command; props = is.props; labels = All-append (Short most) test.dir_labels labels is.labels short }

chosen-short : (most : ℕ) (one other : TestDef) (is : Bool) → HasShortValues most one → HasShortValues most other → HasShortValues most (cond is one other)
chosen-short most one other true here there = here
chosen-short most one other false here there = there

-- tests keep short values if each change keeps them short
pub each_where-short : (most : ℕ) (passes : TestDef → Bool) (change : TestDef → TestDef) → ((test : TestDef) → HasShortValues most test → HasShortValues most (change test)) → (tests : List TestDef) → All (HasShortValues most) tests → All (HasShortValues most) (each_where passes change tests)
each_where-short most passes change keeps [] all = All-nil (HasShortValues most)
each_where-short most passes change keeps (test ∷ tests) all =
    let here = All-head (HasShortValues most) test tests all in
    All-cons (HasShortValues most) (cond (passes test) (change test) test) (each_where passes change tests) (chosen-short most (change test) test (passes test) (keeps test here) here) (each_where-short most passes change keeps tests (All-tail (HasShortValues most) test tests all))

-- tests keep short values with one more test that has short values; then: so do the same tests
pub tests-pushed : (most : ℕ) (tests now : List TestDef) (test : TestDef) → now ≡ tests ++ test ∷ [] → All (HasShortValues most) tests → HasShortValues most test → All (HasShortValues most) now
tests-pushed most tests now test is all here = All-same (HasShortValues most) now (tests ++ test ∷ []) is (All-push (HasShortValues most) tests test all here)

pub tests-same : (most : ℕ) (tests now : List TestDef) → now ≡ tests → All (HasShortValues most) tests → All (HasShortValues most) now
tests-same most tests now is all = All-same (HasShortValues most) now tests is all
