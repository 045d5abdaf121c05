-- Durations that are read one by one.
use Rattle.std.proofs.Common.{◌≡◌, ℕ, ◌+◌, ◌-◌, ◌<◌, ◌≤◌, length, List, [], ◌∷◌, ◌++◌, take, drop, map, Option, Some, None, option_map, refl, sym, ap, ◌∙◌, length-drop, arith}
use Rattle.std.specs.List.{position_or_len}
use Rattle.std.proofs.lemmas.List.{append_assoc, append-nil, drop-drop, drop-append-le, length-append}
use Rattle.ct_base.specs.Seconds.{micros_in}
use Rattle.ct_cost.specs.CostLine.{last_durations, most_durations}
use Rattle.ct_cost.specs.Text.{each_of, durations_in, ends_duration}
use Rattle.ct_cost.specs.Reading.{parts_from}
use Rattle.ct_cost.proofs.PlaceLemmas.{next_part, no_more, within}

-- the last of some durations and others behind them are the last of those that were kept and the others
pub last_of-more : (front back : List ℕ) → last_durations (last_durations front ++ back) ≡ last_durations (front ++ back)
last_of-more front back =
    let k = length front - most_durations in
    let m = length (last_durations front ++ back) - most_durations in
    let kept : length (last_durations front) ≡ length front - k = length-drop k front in
    let len : length (last_durations front ++ back) ≡ length (last_durations front) + length back = length-append (last_durations front) back in
    let whole : length (front ++ back) ≡ length front + length back = length-append front back in
    let sum : k + m ≡ length (front ++ back) - most_durations = omega arith in
    ap (drop m) (sym (drop-append-le k front back (omega arith)))
    ∙ drop-drop m k (front ++ back)
    ∙ ap (λ n. drop n (front ++ back)) sum

-- a few durations are all kept
pub last_of-few : (durations : List ℕ) → length durations ≤ most_durations → last_durations durations ≡ durations
last_of-few durations few =
    let none : length durations - most_durations ≡ 0 = omega arith in
    ap (λ n. drop n durations) none

-- no more durations are kept than may be
pub last_of-most : (durations : List ℕ) → length (last_durations durations) ≤ most_durations
last_of-most durations =
    let len : length (last_durations durations) ≡ length durations - (length durations - most_durations) = length-drop (length durations - most_durations) durations in
    omega arith

-- what durations that were read come to, with those that the parts behind them write
abbrev pub with_parts : List ℕ → List (List ℕ) → Option (List ℕ)
with_parts durations parts = option_map (λ more. last_durations (durations ++ more)) (each_of (map micros_in parts))

-- before the first part
pub reads_all : (text : List ℕ) → with_parts [] (parts_from ends_duration text 0) ≡ durations_in text
reads_all text = ap (with_parts []) (within ends_duration text 0 (omega arith))

next_by : (durations next : List ℕ) (micros : ℕ) (found : Option (List ℕ)) → next ≡ last_durations (durations ++ micros ∷ [])
    → option_map (λ more. last_durations (next ++ more)) found ≡ option_map (λ more. last_durations (durations ++ more)) (option_map (λ values. micros ∷ values) found)
next_by durations next micros None is = refl
next_by durations next micros (Some more) is =
    ap Some
    (ap (λ (kept : List ℕ). last_durations (kept ++ more)) is
    ∙ last_of-more (durations ++ micros ∷ []) more
    ∙ ap last_durations (append_assoc durations (micros ∷ []) more))

-- one more part is read
pub reads_next : (text : List ℕ) (at n micros : ℕ) (durations next part : List ℕ) (all : Option (List ℕ)) → at ≤ length text → n ≡ position_or_len ends_duration (drop at text) → part ≡ take n (drop at text) → Some micros ≡ micros_in part
    → next ≡ last_durations (durations ++ micros ∷ []) → with_parts durations (parts_from ends_duration text at) ≡ all → with_parts next (parts_from ends_duration text (at + n + 1)) ≡ all
reads_next text at n micros durations next part all most is cut says pushed so_far =
    let rest = parts_from ends_duration text (at + n + 1) in
    next_by durations next micros (each_of (map micros_in rest)) pushed
    ∙ ap (λ (found : Option ℕ). option_map (λ more. last_durations (durations ++ more)) (each_of (found ∷ map micros_in rest))) (says ∙ ap micros_in cut)
    ∙ ap (with_parts durations) (sym (next_part ends_duration text at n most is))
    ∙ so_far

-- where a part is no time, nothing is read
pub reads_none : (text : List ℕ) (at n : ℕ) (durations part : List ℕ) (all : Option (List ℕ)) → at ≤ length text → n ≡ position_or_len ends_duration (drop at text) → part ≡ take n (drop at text) → None ≡ micros_in part
    → with_parts durations (parts_from ends_duration text at) ≡ all → None ≡ all
reads_none text at n durations part all most is cut says so_far =
    let rest = parts_from ends_duration text (at + n + 1) in
    ap (λ (found : Option ℕ). option_map (λ more. last_durations (durations ++ more)) (each_of (found ∷ map micros_in rest))) (says ∙ ap micros_in cut)
    ∙ ap (with_parts durations) (sym (next_part ends_duration text at n most is))
    ∙ so_far

-- behind the last part
pub reads_end : (text : List ℕ) (at : ℕ) (durations : List ℕ) (all : Option (List ℕ)) → length text < at → length durations ≤ most_durations → with_parts durations (parts_from ends_duration text at) ≡ all → Some durations ≡ all
reads_end text at durations all behind few so_far =
    ap Some (sym (last_of-few durations few) ∙ ap last_durations (sym (append-nil durations)))
    ∙ ap (with_parts durations) (sym (no_more ends_duration text at behind))
    ∙ so_far
