-- The result of reading line by line.
use Rattle.std.proofs.Common.{◌≡◌, ℕ, ◌+◌, ◌≤◌, length, suc, Bool, true, false, cond, not, List, [], ◌∷◌, take, drop, filter, filter_map, fold, Option, Some, None, refl, sym, ap, ◌∙◌, arith}
use Rattle.std.specs.List.{cons_option, before_first, after_first, prefix_len, position_or_len}
use Rattle.std.proofs.lemmas.List.Sums.{take_while-cons}
use Rattle.ct_cost.specs.declared.line.Version.{Version}
use Rattle.ct_cost.specs.declared.line.Version.TheVariants.{One, Two}
use Rattle.ct_cost.specs.declared.reading.Reading.{Reading}
use Rattle.ct_cost.specs.declared.cost_data.CostData.{CostData}
use Rattle.ct_base.specs.Names.{with_new_name}
use Rattle.ct_cost.specs.CostLine.{CostLine, with_new_line}
use Rattle.ct_cost.proofs.PlaceLemmas.{next_part, within}
use Rattle.ct_cost.specs.Text.{ends_line, is_divider, is_mark, is_named, line_in, lines_in}
use Rattle.ct_cost.specs.Costs.{costs_from, costs_by}
use Rattle.ct_cost.specs.Kept.{with_read, with_named}
use Rattle.ct_cost.specs.Reading.{after_line, after_cost, after_lines, parts_from, unread}

-- the reading with these lines and failed names
abbrev state : Version → List CostLine → List (List ℕ) → Bool → Reading
state version lines failed is_behind = record { version = version; lines = lines; failed = failed; is_behind = is_behind }

behind_lines : (version : Version) (lines : List CostLine) (failed rest : List (List ℕ)) → fold after_line (state version lines failed true) rest ≡ state version lines (fold with_named failed rest) true
behind_lines version lines failed [] = refl
behind_lines version lines failed (line ∷ rest) = behind_lines version lines (with_named failed line) rest

before_yes : (line : List ℕ) (rest : List (List ℕ)) → is_divider line ≡ true → before_first is_divider (line ∷ rest) ≡ []
before_yes line rest is = take_while-cons (λ l. not (is_divider l)) line rest ∙ ap (λ b. cond (not b) (line ∷ before_first is_divider rest) []) is

before_no : (line : List ℕ) (rest : List (List ℕ)) → is_divider line ≡ false → before_first is_divider (line ∷ rest) ≡ line ∷ before_first is_divider rest
before_no line rest is = take_while-cons (λ l. not (is_divider l)) line rest ∙ ap (λ b. cond (not b) (line ∷ before_first is_divider rest) []) is

after_yes : (line : List ℕ) (rest : List (List ℕ)) → is_divider line ≡ true → after_first is_divider (line ∷ rest) ≡ rest
after_yes line rest is = ap (λ b. drop (cond (not b) (1 + prefix_len (λ l. not (is_divider l)) rest) 0 + 1) (line ∷ rest)) is

after_no : (line : List ℕ) (rest : List (List ℕ)) → is_divider line ≡ false → after_first is_divider (line ∷ rest) ≡ after_first is_divider rest
after_no line rest is =
    let n = prefix_len (λ l. not (is_divider l)) rest in
    let sum : 1 + n + 1 ≡ suc (n + 1) = omega arith in
    ap (λ b. drop (cond (not b) (1 + n) 0 + 1) (line ∷ rest)) is ∙ ap (λ k. drop k (line ∷ rest)) sum

module _ (version : Version) where
  -- the lines with what a text says behind them
  abbrev with_text : List CostLine → List ℕ → List CostLine
  with_text lines text = with_read lines (line_in version text)

  lines_by : (lines : List CostLine) (failed rest : List (List ℕ)) (line : List ℕ) → ((ls : List CostLine) → (fold after_line (state version ls failed false) rest).lines ≡ fold with_text ls (before_first is_divider rest)) → (b : Bool) → is_divider line ≡ b
      → (fold after_line (after_cost (state version lines failed false) line) rest).lines ≡ fold with_text lines (before_first is_divider (line ∷ rest))
  lines_by lines failed rest line more true is =
      ap (λ (c : Bool). (fold after_line (state version (cond c lines (with_text lines line)) failed c) rest).lines) is
      ∙ ap (λ (r : Reading). r.lines) (behind_lines version lines failed rest)
      ∙ ap (fold with_text lines) (sym (before_yes line rest is))
  lines_by lines failed rest line more false is =
      ap (λ (c : Bool). (fold after_line (state version (cond c lines (with_text lines line)) failed c) rest).lines) is
      ∙ more (with_text lines line)
      ∙ ap (fold with_text lines) (sym (before_no line rest is))

  lines_on : (lines : List CostLine) (failed rest : List (List ℕ)) → (fold after_line (state version lines failed false) rest).lines ≡ fold with_text lines (before_first is_divider rest)
  lines_on lines failed [] = refl
  lines_on lines failed (line ∷ rest) = lines_by lines failed rest line (λ ls. lines_on ls failed rest) (is_divider line) refl

  failed_by : (lines : List CostLine) (failed rest : List (List ℕ)) (line : List ℕ) → ((ls : List CostLine) → (fold after_line (state version ls failed false) rest).failed ≡ fold with_named failed (after_first is_divider rest)) → (b : Bool) → is_divider line ≡ b
      → (fold after_line (after_cost (state version lines failed false) line) rest).failed ≡ fold with_named failed (after_first is_divider (line ∷ rest))
  failed_by lines failed rest line more true is =
      ap (λ (c : Bool). (fold after_line (state version (cond c lines (with_text lines line)) failed c) rest).failed) is
      ∙ ap (λ (r : Reading). r.failed) (behind_lines version lines failed rest)
      ∙ ap (fold with_named failed) (sym (after_yes line rest is))
  failed_by lines failed rest line more false is =
      ap (λ (c : Bool). (fold after_line (state version (cond c lines (with_text lines line)) failed c) rest).failed) is
      ∙ more (with_text lines line)
      ∙ ap (fold with_named failed) (sym (after_no line rest is))

  failed_on : (lines : List CostLine) (failed rest : List (List ℕ)) → (fold after_line (state version lines failed false) rest).failed ≡ fold with_named failed (after_first is_divider rest)
  failed_on lines failed [] = refl
  failed_on lines failed (line ∷ rest) = failed_by lines failed rest line (λ ls. failed_on ls failed rest) (is_divider line) refl

  texts_by : (lines : List CostLine) (found : Option CostLine) (texts : List (List ℕ)) → ((ls : List CostLine) → fold with_text ls texts ≡ fold with_new_line ls (filter_map (line_in version) texts)) → fold with_text (with_read lines found) texts ≡ fold with_new_line lines (cons_option found (filter_map (line_in version) texts))
  texts_by lines None texts rest = rest lines
  texts_by lines (Some line) texts rest = rest (with_new_line lines line)

  -- reading texts one by one adds the lines that they hold
  texts : (lines : List CostLine) (texts : List (List ℕ)) → fold with_text lines texts ≡ fold with_new_line lines (filter_map (line_in version) texts)
  texts lines [] = refl
  texts lines (text ∷ more) = texts_by lines (line_in version text) more (λ ls. texts ls more)

named_by : (failed : List (List ℕ)) (line : List ℕ) (more : List (List ℕ)) → ((names : List (List ℕ)) → fold with_named names more ≡ fold with_new_name names (filter is_named more)) → (b : Bool)
    → fold with_named (cond b (with_new_name failed line) failed) more ≡ fold with_new_name failed (cond b (line ∷ filter is_named more) (filter is_named more))
named_by failed line more rest true = rest (with_new_name failed line)
named_by failed line more rest false = rest failed

-- reading lines one by one adds the names that they hold
named : (failed lines : List (List ℕ)) → fold with_named failed lines ≡ fold with_new_name failed (filter is_named lines)
named failed [] = refl
named failed (line ∷ more) = named_by failed line more (λ names. named names more) (is_named line)

-- cost data of what was read
abbrev pub costs_of : Reading → CostData
costs_of reading = record { lines = reading.lines; failed = reading.failed }

-- what was read of lines of a version is the cost data in them
read_from : (version : Version) (lines : List (List ℕ)) → costs_of (fold after_line (unread version) lines) ≡ costs_from version lines
read_from version lines =
    let read = lines_on version [] [] lines ∙ texts version [] (before_first is_divider lines) in
    let failed = failed_on version [] [] lines ∙ named [] (after_first is_divider lines) in
    λ i. record { lines = read i; failed = failed i }

read_by : (first : List ℕ) (rest : List (List ℕ)) (b : Bool)
    → costs_of (cond b (fold after_line (unread Two) rest) (fold after_line (unread One) (first ∷ rest))) ≡ cond b (costs_from Two rest) (costs_from One (first ∷ rest))
read_by first rest true = read_from Two rest
read_by first rest false = read_from One (first ∷ rest)

-- what was read of all lines is the cost data in them
pub costs_read : (lines : List (List ℕ)) (reading : Reading) → reading ≡ after_lines lines → costs_of reading ≡ costs_by lines
costs_read [] reading is = ap costs_of is ∙ read_from One []
costs_read (first ∷ rest) reading is = ap costs_of is ∙ read_by first rest (is_mark first)

-- the lines of a text begin with its first one
lines_whole : (text : List ℕ) (n : ℕ) → n ≡ position_or_len ends_line text → lines_in text ≡ take n text ∷ parts_from ends_line text (n + 1)
lines_whole text n is =
    let behind : 0 + n + 1 ≡ n + 1 = omega arith in
    sym (within ends_line text 0 (omega arith))
    ∙ next_part ends_line text 0 n (omega arith) is
    ∙ ap (λ k. take n text ∷ parts_from ends_line text k) behind

-- where the first line says that the text is of version 2, the lines behind it are read
pub reads_two : (text : List ℕ) (n : ℕ) → n ≡ position_or_len ends_line text → is_mark (take n text) ≡ true → fold after_line (unread Two) (parts_from ends_line text (n + 1)) ≡ after_lines (lines_in text)
reads_two text n is marked =
    ap (λ b. cond b (fold after_line (unread Two) (parts_from ends_line text (n + 1))) (fold after_line (unread One) (take n text ∷ parts_from ends_line text (n + 1)))) (sym marked)
    ∙ ap after_lines (sym (lines_whole text n is))

-- where it does not, all lines are read
pub reads_one : (text : List ℕ) (n : ℕ) → n ≡ position_or_len ends_line text → is_mark (take n text) ≡ false → fold after_line (unread One) (parts_from ends_line text 0) ≡ after_lines (lines_in text)
reads_one text n is unmarked =
    ap (fold after_line (unread One)) (within ends_line text 0 (omega arith) ∙ lines_whole text n is)
    ∙ ap (λ b. cond b (fold after_line (unread Two) (parts_from ends_line text (n + 1))) (fold after_line (unread One) (take n text ∷ parts_from ends_line text (n + 1)))) (sym unmarked)
    ∙ ap after_lines (sym (lines_whole text n is))

-- one more line is read
pub reads_more : (text : List ℕ) (at n : ℕ) (old new : Reading) (line : List ℕ) (all : Reading) → at ≤ length text → n ≡ position_or_len ends_line (drop at text) → line ≡ take n (drop at text) → new ≡ after_line old line
    → fold after_line old (parts_from ends_line text at) ≡ all → fold after_line new (parts_from ends_line text (at + n + 1)) ≡ all
reads_more text at n old new line all most is cut noted so_far =
    (λ i. fold after_line (noted i) (parts_from ends_line text (at + n + 1)))
    ∙ (λ i. fold after_line (after_line old (cut i)) (parts_from ends_line text (at + n + 1)))
    ∙ ap (fold after_line old) (sym (next_part ends_line text at n most is))
    ∙ so_far
