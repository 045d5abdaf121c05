-- Cost data that were written are read back.
use Rattle.std.proofs.Common.{◌≡◌, ◌∙◌, sym, ap, subst, refl, ℕ, zero, suc, ◌+◌, ◌<◌, ◌≤◌, Bool, true, false, cond, List, [], ◌∷◌, ◌++◌, length, take, drop, map, filter, filter_map, fold, All, Option, Some, arith, append_assoc, length-append, codes}
use Rattle.std.specs.Prelude.{◌==◌, not, bytes_eq, flat_map, is_some, option_and_then, option_map, slice_index}
use Rattle.std.specs.List.{AllByRecursion, IsDistinct, after_first, before_first, cons_option, list_all, list_any, slice_split}
use Rattle.std.specs.Path.{rfind_below, rsplit_once}
use Rattle.std.proofs.Math.Seq.{drop-append-add, get_or-append_seam, take-append_seam}
use Rattle.std.proofs.lemmas.Bool.{and_parts, false_from_ne_true, ne_eqb, not-true, or_from, or_left, or_right, true≢false}
use Rattle.std.proofs.lemmas.Grind.{flat_map-append}
use Rattle.std.proofs.lemmas.List.{append-nil, get_or-append-add, map_push}
use Rattle.std.proofs.lemmas.List.Elements.{All-append, All-cons, All-head, All-nil, All-tail, filter-append}
use Rattle.std.proofs.lemmas.List.Folds.{list_any-append}
use Rattle.std.proofs.lemmas.List.Splits.{slice_split_at, slice_split_none}
use Rattle.std.proofs.lemmas.Map.Keys.{IsDistinct-head, IsDistinct-tail}
use Rattle.std.proofs.lemmas.Slice.Eq.{bytes_eq-Decides}
use Rattle.ct_base.specs.Bytes.{comma, space}
use Rattle.ct_base.specs.Names.{each_once, is_among, with_new_name}
use Rattle.ct_base.specs.Seconds.{micros_in, most_micros}
use Rattle.ct_cost.specs.declared.cost_data.CostData.{CostData}
use Rattle.ct_cost.specs.CostLine.{AreCosts, AreDurations, CostLine, last_durations, line_of, with_new_line}
use Rattle.ct_cost.specs.Text.{cost_line_text, durations_in, durations_text, each_of, ends_duration, exact_seconds, is_divider, is_named, lines_in, named_line, next_text}
use Rattle.ct_cost.specs.Costs.{costs_by, costs_in, costs_text}
use Rattle.ct_cost.proofs.DurationLemmas.{last_of-few}
use Rattle.ct_cost.proofs.SoundLemmas.{bytes_equiv, line_of-among}
use Rattle.ct_laws.specs.Lines.{AreLines, IsLine}
use Rattle.ct_laws.proofs.LineLemmas.{NonePass, after_at, before_at, is_feed, line_text, none_is, not_empty, split_lines}
use Rattle.ct_laws.proofs.SecondsLemmas.{seconds_back, seconds_bytes}

-- the line of costs in a text of version 2
abbrev pub line_two : List ℕ → Option CostLine
line_two text = option_and_then (λ (cut : List ℕ × List ℕ). named_line cut.0 (durations_in cut.1)) (rsplit_once space text)

-- the cost data in the lines of version 2
abbrev costs_two : List (List ℕ) → CostData
costs_two lines = record {
  lines = fold with_new_line [] (filter_map line_two (before_first is_divider lines));
  failed = each_once (filter is_named (after_first is_divider lines));
}

-- a line of costs, without its end
abbrev body : CostLine → List ℕ
body line = line.name ++ codes " " ++ durations_text line.durations

module _ (P : ℕ → Type 0) (holds : (byte : ℕ) → 44 ≤ byte → byte ≤ 57 → P byte) where
  second_bytes : (micros : ℕ) → All P (exact_seconds micros)
  second_bytes micros = seconds_bytes P (λ byte least most. holds byte (omega (arith, least)) most) micros

  next_bytes : (rest : List ℕ) → All P (flat_map next_text rest)
  next_bytes [] = All-nil P
  next_bytes (micros ∷ rest) =
      let first = All-append P (codes ",") (exact_seconds micros) (All-cons P 44 [] (holds 44 (omega arith) (omega arith)) (All-nil P)) (second_bytes micros) in
      All-append P (next_text micros) (flat_map next_text rest) first (next_bytes rest)

  -- what holds of digits, points and commas holds of each byte of durations
  durations_bytes : (durations : List ℕ) → All P (durations_text durations)
  durations_bytes [] = All-nil P
  durations_bytes (first ∷ rest) = All-append P (exact_seconds first) (flat_map next_text rest) (second_bytes first) (next_bytes rest)

no_low : (low : ℕ) → low < 44 → (durations : List ℕ) → NonePass (λ byte. byte == low) (durations_text durations)
no_low low less durations = durations_bytes (λ byte. (byte == low) ≡ false) (λ byte least most. ne_eqb byte low (λ is. absurd (omega arith))) durations

no_comma : (micros : ℕ) → NonePass ends_duration (exact_seconds micros)
no_comma micros = seconds_bytes (λ byte. ends_duration byte ≡ false) (λ byte least most. ne_eqb byte comma (λ is. absurd (omega arith))) micros

-- durations are cut at their commas
split_commas : (first : ℕ) (rest : List ℕ) → slice_split ends_duration (durations_text (first ∷ rest)) ≡ map exact_seconds (first ∷ rest)
split_commas first [] = ap (slice_split ends_duration) (append-nil (exact_seconds first)) ∙ slice_split_none ends_duration (exact_seconds first) (no_comma first)
split_commas first (next ∷ rest) =
    slice_split_at ends_duration (exact_seconds first) comma (durations_text (next ∷ rest)) (no_comma first) refl
    ∙ ap (λ parts. exact_seconds first ∷ parts) (split_commas next rest)

each_back : (durations : List ℕ) → All (λ micros. micros ≤ most_micros) durations → each_of (map micros_in (map exact_seconds durations)) ≡ Some durations
each_back [] short = refl
each_back (micros ∷ rest) short =
    let P = λ (m : ℕ). m ≤ most_micros in
    ap (λ (found : Option ℕ). each_of (found ∷ map micros_in (map exact_seconds rest))) (seconds_back micros (All-head P micros rest short))
    ∙ ap (option_map (λ values. micros ∷ values)) (each_back rest (All-tail P micros rest short))

durations_back : (durations : List ℕ) → AreDurations durations → durations_in (durations_text durations) ≡ Some durations
durations_back [] are = absurd (omega (arith, are.some))
durations_back (first ∷ rest) are =
    ap (λ parts. option_map last_durations (each_of (map micros_in parts))) (split_commas first rest)
    ∙ ap (option_map last_durations) (each_back (first ∷ rest) are.short)
    ∙ ap Some (last_of-few (first ∷ rest) are.few)

module _ (front back : List ℕ) (none : NonePass (λ byte. byte == space) back) where
  abbrev spaced : List ℕ
  spaced = front ++ space ∷ back

  last_at : (k n : ℕ) → k ≤ length back → n ≡ length front + 1 + k → rfind_below space spaced n ≡ Some (length front)
  last_at k zero short is = absurd (omega (arith, is))
  last_at zero (suc n) short is =
      let at : n ≡ length front = omega (arith, is) in
      let here : (slice_index spaced n == space) ≡ true = ap (λ i. slice_index spaced i == space) at ∙ ap (λ byte. byte == space) (get_or-append_seam front space back 0) in
      ap (λ b. cond b (Some n) (rfind_below space spaced n)) here ∙ ap Some at
  last_at (suc k) (suc n) short is =
      let at : n ≡ length front + suc k = omega (arith, is) in
      let other : (slice_index spaced n == space) ≡ false =
      ap (λ i. slice_index spaced i == space) at ∙ ap (λ byte. byte == space) (get_or-append-add front (space ∷ back) (suc k) 0) ∙ none k 0 (omega (arith, short)) in
      ap (λ b. cond b (Some n) (rfind_below space spaced n)) other ∙ last_at k n (omega (arith, short)) (omega (arith, is))

  split_last : rsplit_once space spaced ≡ Some (front, back)
  unfolding rsplit_once
  split_last =
      let len : length spaced ≡ length front + length (space ∷ back) = length-append front (space ∷ back) in
      ap (option_map (λ (i : ℕ). (take i spaced, drop (i + 1) spaced))) (last_at (length back) (length spaced) (omega arith) (omega (arith, len)))
      ∙ (λ i. Some (take-append_seam front (space ∷ back) i, drop-append-add front (space ∷ back) 1 i))

named_back : (name durations : List ℕ) → 0 < length name → named_line name (Some durations) ≡ Some (record { name = name; durations = durations })
named_back [] durations some = absurd (omega (arith, some))
named_back (first ∷ rest) durations some = refl

-- a line of costs is read back
line_back : (line : CostLine) → IsLine line.name → AreDurations line.durations → line_two (body line) ≡ Some line
line_back line is are =
    let durations = durations_text line.durations in
    let read = λ (cut : List ℕ × List ℕ). named_line cut.0 (durations_in cut.1) in
    ap (λ text. option_and_then read (rsplit_once space text)) (append_assoc line.name (codes " ") durations)
    ∙ ap (option_and_then read) (split_last line.name durations (no_low 32 (omega arith) line.durations))
    ∙ ap (named_line line.name) (durations_back line.durations are)
    ∙ named_back line.name line.durations is.some

abbrev pub HasLine : CostLine → Type 0
HasLine line = IsLine line.name

abbrev HasDurations : CostLine → Type 0
HasDurations line = AreDurations line.durations

lines_back : (lines : List CostLine) → All HasLine lines → All HasDurations lines → filter_map line_two (map body lines) ≡ lines
lines_back [] have are = refl
lines_back (line ∷ lines) have are =
    ap (λ (found : Option CostLine). cons_option found (filter_map line_two (map body lines))) (line_back line (All-head HasLine line lines have) (All-head HasDurations line lines are))
    ∙ ap (λ ls. line ∷ ls) (lines_back lines (All-tail HasLine line lines have) (All-tail HasDurations line lines are))

at_seam : (P : List ℕ → Type 0) (front : List (List ℕ)) (name : List ℕ) (back : List (List ℕ)) → AllByRecursion P (front ++ name ∷ back) → P name
at_seam P [] name back all = all.0
at_seam P (x ∷ front) name back all = at_seam P front name back all.1

-- a name that stands once is not among those in front of it
new_name : (front : List (List ℕ)) (name : List ℕ) (back : List (List ℕ)) → IsDistinct bytes_eq (front ++ name ∷ back) → is_among name front ≡ false
new_name [] name back once = refl
new_name (x ∷ front) name back once =
    let other : bytes_eq x name ≡ false = at_seam (λ y. bytes_eq x y ≡ false) front name back (IsDistinct-head bytes_eq x (front ++ name ∷ back) once) in
    or_from (bytes_eq name x) (is_among name front) (bytes_equiv.symm name x ∙ other) (new_name front name back (IsDistinct-tail bytes_eq x (front ++ name ∷ back) once))

-- names that stand once are all kept
kept_names : (done rest : List (List ℕ)) → IsDistinct bytes_eq (done ++ rest) → fold with_new_name done rest ≡ done ++ rest
kept_names done [] once = sym (append-nil done)
kept_names done (name ∷ rest) once =
    let same = append_assoc done (name ∷ []) rest in
    ap (λ b. fold with_new_name (cond b done (done ++ name ∷ [])) rest) (new_name done name rest once)
    ∙ kept_names (done ++ name ∷ []) rest (subst (IsDistinct bytes_eq) (sym same) once)
    ∙ same

abbrev names_of : List CostLine → List (List ℕ)
names_of lines = map (λ (line : CostLine). line.name) lines

-- lines whose names stand once are all kept
kept_lines : (done rest : List CostLine) → IsDistinct bytes_eq (names_of done ++ names_of rest) → fold with_new_line done rest ≡ done ++ rest
kept_lines done [] once = sym (append-nil done)
kept_lines done (line ∷ rest) once =
    let new : is_some (line_of done line.name) ≡ false = line_of-among done line.name ∙ new_name (names_of done) line.name (names_of rest) once in
    let more : names_of (done ++ line ∷ []) ++ names_of rest ≡ names_of done ++ names_of (line ∷ rest) =
    ap (λ names. names ++ names_of rest) (map_push (λ (l : CostLine). l.name) done line) ∙ append_assoc (names_of done) (line.name ∷ []) (names_of rest) in
    ap (λ b. fold with_new_line (cond b done (done ++ line ∷ [])) rest) new
    ∙ kept_lines (done ++ line ∷ []) rest (subst (IsDistinct bytes_eq) (sym more) once)
    ∙ append_assoc done (line ∷ []) rest

named_all : (names : List (List ℕ)) → All IsLine names → filter is_named names ≡ names
named_all [] are = refl
named_all (name ∷ names) are =
    ap (λ b. cond b (name ∷ filter is_named names) (filter is_named names)) (not_empty name (All-head IsLine name names are).some)
    ∙ ap (λ ns. name ∷ ns) (named_all names (All-tail IsLine name names are))

abbrev has_space : List ℕ → Bool
has_space text = list_any (λ byte. byte == space) text

-- a line of costs has a space, which the divider has not
no_divider : (line : CostLine) → is_divider (body line) ≡ false
no_divider line =
    let durations = durations_text line.durations in
    let some : has_space (body line) ≡ true =
    list_any-append (λ byte. byte == space) (line.name ++ codes " ") durations
    ∙ or_left (has_space (line.name ++ codes " ")) (has_space durations)
    (list_any-append (λ byte. byte == space) line.name (codes " ") ∙ or_right (has_space line.name) true refl) in
    false_from_ne_true (is_divider (body line)) (λ is. true≢false (sym some ∙ ap has_space ((bytes_eq-Decides (body line) (codes "---")).0 is)))

no_dividers : (lines : List CostLine) → All (λ text. is_divider text ≡ false) (map body lines)
no_dividers [] = All-nil (λ text. is_divider text ≡ false)
no_dividers (line ∷ lines) = All-cons (λ text. is_divider text ≡ false) (body line) (map body lines) (no_divider line) (no_dividers lines)

none_by : (p : ℕ → Bool) (xs : List ℕ) → list_all (λ x. not (p x)) xs ≡ true → NonePass p xs
none_by p [] all = All-nil (λ x. p x ≡ false)
none_by p (x ∷ xs) all =
    let both = and_parts (not (p x)) (list_all (λ y. not (p y)) xs) all in
    All-cons (λ y. p y ≡ false) x xs (not-true (p x) both.0) (none_by p xs both.1)

-- the lines of the text of cost data
abbrev text_lines : CostData → List (List ℕ)
text_lines costs = codes "version 2" ∷ map body costs.lines ++ codes "---" ∷ costs.failed

whole_bodies : (lines : List CostLine) → All HasLine lines → All (NonePass is_feed) (map body lines)
whole_bodies [] have = All-nil (NonePass is_feed)
whole_bodies (line ∷ lines) have =
    let quiet = λ (byte : ℕ). is_feed byte ≡ false in
    let front = All-append quiet line.name (codes " ") (none_is 10 line.name (All-head HasLine line lines have).whole) (none_by is_feed (codes " ") refl) in
    All-cons (NonePass is_feed) (body line) (map body lines) (All-append quiet (line.name ++ codes " ") (durations_text line.durations) front (no_low 10 (omega arith) line.durations))
    (whole_bodies lines (All-tail HasLine line lines have))

whole_names : (names : List (List ℕ)) → All IsLine names → All (NonePass is_feed) names
whole_names [] are = All-nil (NonePass is_feed)
whole_names (name ∷ names) are = All-cons (NonePass is_feed) name names (none_is 10 name (All-head IsLine name names are).whole) (whole_names names (All-tail IsLine name names are))

whole_text : (costs : CostData) → AreLines costs → All (NonePass is_feed) (text_lines costs)
whole_text costs have =
    All-append (NonePass is_feed) (codes "version 2" ∷ map body costs.lines) (codes "---" ∷ costs.failed)
    (All-cons (NonePass is_feed) (codes "version 2") (map body costs.lines) (none_by is_feed (codes "version 2") refl) (whole_bodies costs.lines have.lines))
    (All-cons (NonePass is_feed) (codes "---") costs.failed (none_by is_feed (codes "---") refl) (whole_names costs.failed have.failed))

bodies : (lines : List CostLine) → flat_map cost_line_text lines ≡ flat_map line_text (map body lines)
bodies [] = refl
bodies (line ∷ lines) = ap (λ more. cost_line_text line ++ more) (bodies lines)

-- the text of cost data is its lines
text_is : (costs : CostData) → costs_text costs ≡ flat_map line_text (text_lines costs)
text_is costs =
    let first = line_text (codes "version 2") in
    let divider = line_text (codes "---") in
    let failed = flat_map line_text costs.failed in
    append_assoc (first ++ flat_map cost_line_text costs.lines) divider failed
    ∙ append_assoc first (flat_map cost_line_text costs.lines) (divider ++ failed)
    ∙ ap (λ lines. first ++ (lines ++ (divider ++ failed))) (bodies costs.lines)
    ∙ ap (λ text. first ++ text) (sym (flat_map-append line_text (map body costs.lines) (codes "---" ∷ costs.failed)))

-- cost data are read back
pub costs_back : (costs : CostData) → AreCosts costs → AreLines costs → costs_in (costs_text costs) ≡ costs
costs_back costs are have =
    let lines = map body costs.lines in
    let behind = costs.failed ++ [] ∷ [] in
    let all = lines ++ codes "---" ∷ behind in
    let split : lines_in (costs_text costs) ≡ text_lines costs ++ [] ∷ [] =
    ap lines_in (text_is costs ∙ sym (append-nil (flat_map line_text (text_lines costs)))) ∙ split_lines (text_lines costs) [] (whole_text costs have) in
    let made : fold with_new_line [] (filter_map line_two (before_first is_divider all)) ≡ costs.lines =
    ap (λ texts. fold with_new_line [] (filter_map line_two texts)) (before_at is_divider lines (codes "---") behind (no_dividers costs.lines) refl)
    ∙ ap (fold with_new_line []) (lines_back costs.lines have.lines are.lines.durations)
    ∙ kept_lines [] costs.lines are.lines.names in
    let told : each_once (filter is_named (after_first is_divider all)) ≡ costs.failed =
    ap (λ texts. each_once (filter is_named texts)) (after_at is_divider lines (codes "---") behind (no_dividers costs.lines) refl)
    ∙ ap each_once (filter-append is_named costs.failed ([] ∷ []) ∙ append-nil (filter is_named costs.failed) ∙ named_all costs.failed have.failed)
    ∙ kept_names [] costs.failed are.failed in
    ap costs_by split
    ∙ ap costs_two (append_assoc lines (codes "---" ∷ costs.failed) ([] ∷ []))
    ∙ (λ i. record { lines = made i; failed = told i })
