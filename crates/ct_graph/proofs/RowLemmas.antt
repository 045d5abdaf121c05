-- The rows of a graph: each member that is looked at gets its row, and all are within the graph.
use Rattle.std.proofs.Common.{ℕ, ◌≡◌, ◌+◌, ◌<◌, ◌≤◌, Bool, true, false, cond, ◌||◌, List, [], length, take, get_or, set, replicate, filter, All, sym, ap, ◌∙◌, subst, ⊎_elim, arith, eqb}
use Rattle.std.proofs.Math.Bool.{or-false}
use Rattle.std.proofs.lemmas.Bool.{false≢true, cases_eq, cases_lt, eq-eqb, ne_eqb, or_right}
use Rattle.std.proofs.lemmas.List.{get_or-set_same, get_or-set_other, length-set, length-replicate, get_or-replicate, get_or_past}
use Rattle.std.proofs.lemmas.List.Folds.{list_any_more}
use Rattle.std.proofs.lemmas.List.Elements.{All-filter, All-weaker, All-nil, All-from_get_or}
use Rattle.ct_base.specs.Numbers.{is_in}
use Rattle.ct_graph.specs.Walk.{row_of, AreWithin}
use Rattle.ct_graph.specs.Index.{AreMembers}
use Rattle.ct_graph.specs.Rows.{AreRows}

no_row : (n number : ℕ) → row_of (replicate n []) number ≡ []
no_row n number =
    ⊎_elim (λ within. get_or-replicate n number [] [] within)
    (λ past. get_or_past (replicate n []) number [] (let long : length (replicate {A = List ℕ} n []) ≡ n = length-replicate {A = List ℕ} n [] in omega arith))
    (cases_lt number n)

-- no member is looked at yet
pub starts_rows : (before : ℕ → List ℕ) (tests : ℕ) (rows : List (List ℕ)) → rows ≡ replicate (tests + 1) [] → AreRows before tests [] rows
starts_rows before tests rows are = record {
  count = ap length are ∙ length-replicate (tests + 1) [];
  rows_are = λ number. ap (λ rs. row_of rs number) are ∙ no_row (tests + 1) number;
}

-- one more member gets its row
pub puts_row : (before : ℕ → List ℕ) (tests : ℕ) (members : List ℕ) (at d : ℕ) (rows : List (List ℕ)) → at < length members → get_or members at d < length rows → AreRows before tests (take at members) rows → AreRows before tests (take (at + 1) members) (set rows (get_or members at d) (before (get_or members at d)))
puts_row before tests members at d rows within inside are = record {
  count = length-set rows (get_or members at d) (before (get_or members at d)) ∙ are.count;
  rows_are = λ number.
      ⊎_elim
      (λ same.
      ap (λ n. row_of (set rows (get_or members at d) (before (get_or members at d))) n) same
      ∙ get_or-set_same rows (get_or members at d) (before (get_or members at d)) [] inside
      ∙ ap before (sym same)
      ∙ ap (λ b. cond b (before number) []) (sym (list_any_more (λ m. eqb m number) members at d within ∙ or_right (is_in (take at members) number) (eqb (get_or members at d) number) (eq-eqb (get_or members at d) number (sym same)))))
      (λ other.
      get_or-set_other rows (get_or members at d) number (before (get_or members at d)) [] other
      ∙ are.rows_are number
      ∙ ap (λ b. cond b (before number) [])
      (sym (or-false (is_in (take at members) number))
      ∙ ap (λ b. is_in (take at members) number || b) (sym (ne_eqb (get_or members at d) number (λ same. other (sym same))))
      ∙ sym (list_any_more (λ m. eqb m number) members at d within)))
      (cases_eq number (get_or members at d));
}

-- where each row has members alone, all are within the graph
pub rows_within : (p : ℕ → ℕ → Bool) (tests : ℕ) (members : List ℕ) (rows : List (List ℕ)) → AreMembers tests members → AreRows (λ number. filter (p number) members) tests members rows → AreWithin rows
rows_within p tests members rows inside are =
    All-from_get_or (All (λ j. j < length rows)) rows [] (λ number within. subst (All (λ j. j < length rows)) (sym (are.rows_are number)) (by number (is_in members number)))
  where
    below : All (λ j. j < length rows) members
    below = All-weaker (λ j. (0 < j) × (j ≤ tests)) (λ j. j < length rows) (λ j both. let few : j ≤ tests = both.1 in let long : length rows ≡ tests + 1 = are.count in omega arith) members inside

    by : (number : ℕ) (b : Bool) → All (λ j. j < length rows) (cond b (filter (p number) members) [])
    by number true = All-filter (p number) (λ j. j < length rows) members below
    by number false = All-nil (λ j. j < length rows)

-- the members have rows
pub members_within : (before : ℕ → List ℕ) (tests : ℕ) (members : List ℕ) (rows : List (List ℕ)) → AreMembers tests members → AreRows before tests members rows → All (λ j. j < length rows) members
members_within before tests members rows inside are =
    All-weaker (λ j. (0 < j) × (j ≤ tests)) (λ j. j < length rows) (λ j both. let few : j ≤ tests = both.1 in let long : length rows ≡ tests + 1 = are.count in omega arith) members inside

-- each test in the row of a test comes before that test
pub in_row : (before : ℕ → List ℕ) (tests : ℕ) (members : List ℕ) (rows : List (List ℕ)) → AreRows before tests members rows → (i j : ℕ) → is_in (row_of rows i) j ≡ true → is_in (before i) j ≡ true
in_row before tests members rows are i j is = by (is_in members i) (sym (ap (λ row. is_in row j) (are.rows_are i)) ∙ is)
  where
    by : (b : Bool) → is_in (cond b (before i) []) j ≡ true → is_in (before i) j ≡ true
    by true is = is
    by false is = absurd (false≢true is)

-- the row of a member is what comes before it
pub row_of-member : (before : ℕ → List ℕ) (tests : ℕ) (members : List ℕ) (rows : List (List ℕ)) → AreRows before tests members rows → (i : ℕ) → is_in members i ≡ true → row_of rows i ≡ before i
row_of-member before tests members rows are i is = are.rows_are i ∙ ap (λ b. cond b (before i) []) is
