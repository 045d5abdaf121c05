-- The names of cost data that were read can stand in lines.
use Rattle.std.proofs.Common.{◌≡◌, ◌≢◌, ◌∙◌, sym, ℕ, ◌+◌, List, [], ◌∷◌, ◌++◌, length, take, drop, filter, filter_map, fold, All, Option, Some, None, IfSome, arith}
use Rattle.std.specs.Prelude.{◌==◌, is_some, option_and_then, option_map, true}
use Rattle.std.specs.List.{after_first, before_first, cons_option, onto_first, position_or_len, slice_split}
use Rattle.std.specs.Path.{rfind_below, rsplit_once}
use Rattle.std.proofs.lemmas.Bool.{cond_both, eq-eqb, eqb-false, not-true, true≢false}
use Rattle.std.proofs.lemmas.List.Elements.{All-cons, All-drop, All-head, All-nil, All-push, All-tail, All-take}
use Rattle.ct_base.specs.Bytes.{line_feed, space}
use Rattle.ct_base.specs.Names.{each_once, is_among, with_new_name}
use Rattle.ct_base.specs.Seconds.{micros_in, number_in}
use Rattle.ct_cost.specs.declared.cost_data.CostData.{CostData}
use Rattle.ct_cost.specs.CostLine.{CostLine, line_of, with_new_line}
use Rattle.ct_cost.specs.Text.{durations_in, is_divider, is_mark, is_named, line_before, lines_in, named_line, only_duration}
use Rattle.ct_cost.specs.Costs.{costs_by, costs_in, costs_text}
use Rattle.ct_cost.proofs.SoundLemmas.{sound-in}
use Rattle.ct_laws.specs.Lines.{AreLines, IsLine}
use Rattle.ct_laws.proofs.LineLemmas.{is_feed}
use Rattle.ct_laws.proofs.CostLemmas.{HasLine, costs_back, line_two}

abbrev IsOther : ℕ → Type 0
IsOther byte = byte ≢ line_feed

-- no line feed is in the text
abbrev IsWhole : List ℕ → Type 0
IsWhole text = All IsOther text

onto_whole : (byte : ℕ) (parts : List (List ℕ)) → IsOther byte → All IsWhole parts → All IsWhole (onto_first byte parts)
onto_whole byte [] other whole = All-cons IsWhole (byte ∷ []) [] (All-cons IsOther byte [] other (All-nil IsOther)) (All-nil IsWhole)
onto_whole byte (part ∷ parts) other whole =
    All-cons IsWhole (byte ∷ part) parts (All-cons IsOther byte part other (All-head IsWhole part parts whole)) (All-tail IsWhole part parts whole)

-- no line feed is in a line of a text
split_whole : (text : List ℕ) → All IsWhole (slice_split is_feed text)
split_whole [] = All-cons IsWhole [] [] (All-nil IsOther) (All-nil IsWhole)
split_whole (byte ∷ text) =
    let parts = slice_split is_feed text in
    cond_both (is_feed byte) ([] ∷ parts) (onto_first byte parts) (All IsWhole) (λ is. All-cons IsWhole [] parts (All-nil IsOther) (split_whole text))
    (λ no_feed. onto_whole byte parts (λ same. true≢false (sym (eq-eqb byte line_feed same) ∙ no_feed)) (split_whole text))

abbrev BeginsWhole : List ℕ × List ℕ → Type 0
BeginsWhole cut = IsWhole cut.0

cut_whole : (text : List ℕ) (found : Option ℕ) → IsWhole text → IfSome (option_map (λ (i : ℕ). (take i text, drop (i + 1) text)) found) BeginsWhole
cut_whole text None whole = tt
cut_whole text (Some i) whole = All-take IsOther i text whole

rsplit_whole : (text : List ℕ) → IsWhole text → IfSome (rsplit_once space text) BeginsWhole
unfolding rsplit_once
rsplit_whole text whole = cut_whole text (rfind_below space text (length text)) whole

named_whole : (name : List ℕ) (found : Option (List ℕ)) → IsWhole name → IfSome (named_line name found) HasLine
named_whole [] None whole = tt
named_whole [] (Some durations) whole = tt
named_whole (first ∷ rest) None whole = tt
named_whole (first ∷ rest) (Some durations) whole = record { some = omega arith; whole = whole }

then_whole : (read : List ℕ × List ℕ → Option CostLine) → ((cut : List ℕ × List ℕ) → BeginsWhole cut → IfSome (read cut) HasLine) → (found : Option (List ℕ × List ℕ)) → IfSome found BeginsWhole → IfSome (option_and_then read found) HasLine
then_whole read has None whole = tt
then_whole read has (Some cut) whole = has cut whole

two_whole : (text : List ℕ) → IsWhole text → IfSome (line_two text) HasLine
two_whole text whole =
    then_whole (λ (cut : List ℕ × List ℕ). named_line cut.0 (durations_in cut.1)) (λ cut begins. named_whole cut.0 (durations_in cut.1) begins)
    (rsplit_once space text) (rsplit_whole text whole)

before_whole : (cut : List ℕ × List ℕ) → BeginsWhole cut → IfSome (line_before cut) HasLine
before_whole cut whole =
    then_whole (λ (front : List ℕ × List ℕ). named_line front.0 (only_duration (number_in front.1) (micros_in cut.1)))
    (λ front begins. named_whole front.0 (only_duration (number_in front.1) (micros_in cut.1)) begins)
    (rsplit_once space cut.0) (rsplit_whole cut.0 whole)

-- the line of costs in a text of version 1
abbrev line_one : List ℕ → Option CostLine
line_one text = option_and_then line_before (rsplit_once space text)

one_whole : (text : List ℕ) → IsWhole text → IfSome (line_one text) HasLine
one_whole text whole = then_whole line_before before_whole (rsplit_once space text) (rsplit_whole text whole)

with_line_whole : (lines : List CostLine) (line : CostLine) → All HasLine lines → HasLine line → All HasLine (with_new_line lines line)
with_line_whole lines line all has =
    cond_both (is_some (line_of lines line.name)) lines (lines ++ line ∷ []) (All HasLine) (λ there. all) (λ new. All-push HasLine lines line all has)

module _ (read : List ℕ → Option CostLine) (has : (text : List ℕ) → IsWhole text → IfSome (read text) HasLine) where
  read_by : (found : Option CostLine) (texts : List (List ℕ)) (lines : List CostLine) → ((ls : List CostLine) → All HasLine ls → All HasLine (fold with_new_line ls (filter_map read texts))) → All HasLine lines → IfSome found HasLine
      → All HasLine (fold with_new_line lines (cons_option found (filter_map read texts)))
  read_by None texts lines rest all line = rest lines all
  read_by (Some found) texts lines rest all line = rest (with_new_line lines found) (with_line_whole lines found all line)

  lines_whole : (texts : List (List ℕ)) (lines : List CostLine) → All IsWhole texts → All HasLine lines → All HasLine (fold with_new_line lines (filter_map read texts))
  lines_whole [] lines whole all = all
  lines_whole (text ∷ texts) lines whole all =
      read_by (read text) texts lines (λ ls. lines_whole texts ls (All-tail IsWhole text texts whole)) all (has text (All-head IsWhole text texts whole))

line_named : (text : List ℕ) → IsWhole text → is_named text ≡ true → IsLine text
line_named text whole is =
    let some : length text ≢ 0 = eqb-false (length text) 0 (not-true (length text == 0) is) in
    record { some = omega (arith, some); whole = whole }

named_lines : (texts : List (List ℕ)) → All IsWhole texts → All IsLine (filter is_named texts)
named_lines [] whole = All-nil IsLine
named_lines (text ∷ texts) whole =
    let rest = named_lines texts (All-tail IsWhole text texts whole) in
    cond_both (is_named text) (text ∷ filter is_named texts) (filter is_named texts) (All IsLine)
    (λ is. All-cons IsLine text (filter is_named texts) (line_named text (All-head IsWhole text texts whole) is) rest)
    (λ other. rest)

once_lines : (names more : List (List ℕ)) → All IsLine names → All IsLine more → All IsLine (fold with_new_name names more)
once_lines names [] all others = all
once_lines names (name ∷ more) all others =
    let line = All-head IsLine name more others in
    once_lines (with_new_name names name) more
    (cond_both (is_among name names) names (names ++ name ∷ []) (All IsLine) (λ there. all) (λ new. All-push IsLine names name all line))
    (All-tail IsLine name more others)

-- the cost data in lines, by how a line of costs is read
abbrev costs_read_by : (List ℕ → Option CostLine) → List (List ℕ) → CostData
costs_read_by read lines = record {
  lines = fold with_new_line [] (filter_map read (before_first is_divider lines));
  failed = each_once (filter is_named (after_first is_divider lines));
}

read_lines : (read : List ℕ → Option CostLine) → ((text : List ℕ) → IsWhole text → IfSome (read text) HasLine) → (lines : List (List ℕ)) → All IsWhole lines → AreLines (costs_read_by read lines)
read_lines read has lines whole =
    let n = position_or_len is_divider lines in
    record {
      lines = lines_whole read has (before_first is_divider lines) [] (All-take IsWhole n lines whole) (All-nil HasLine);
      failed = once_lines [] (filter is_named (after_first is_divider lines)) (All-nil IsLine) (named_lines (after_first is_divider lines) (All-drop IsWhole (n + 1) lines whole));
    }

by_lines : (lines : List (List ℕ)) → All IsWhole lines → AreLines (costs_by lines)
by_lines [] whole = read_lines line_one one_whole [] whole
by_lines (first ∷ rest) whole =
    cond_both (is_mark first) (costs_read_by line_two rest) (costs_read_by line_one (first ∷ rest)) AreLines (λ is. read_lines line_two two_whole rest (All-tail IsWhole first rest whole))
    (λ other. read_lines line_one one_whole (first ∷ rest) whole)

-- the names that were read of a text can stand in lines
pub read_names : (text : List ℕ) → AreLines (costs_in text)
read_names text = by_lines (lines_in text) (split_whole text)

-- what was read of a text is read again from what is written of it
pub read_back : (text : List ℕ) → costs_in (costs_text (costs_in text)) ≡ costs_in text
read_back text = costs_back (costs_in text) (sound-in text) (read_names text)
