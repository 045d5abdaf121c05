-- The last space of a text, and the parts that a separator cuts.
use Rattle.std.proofs.Common.{◌≡◌, ℕ, zero, suc, ◌+◌, ◌-◌, ◌<◌, ◌≤◌, Bool, true, false, cond, List, [], ◌∷◌, length, take, drop, slice_index, nat_lt, not, ◌⊎◌, inl, inr, length-drop, position, Option, Some, None, All, refl, sym, ap, ◌∙◌, arith, ◌==◌}
use Rattle.std.specs.Path.{rfind_below}
use Rattle.std.specs.List.{position_or_len, before_first, slice_split}
use Rattle.std.proofs.lemmas.Bool.{ne_eqb}
use Rattle.std.proofs.lemmas.Bool.Decides.{nat_tests}
use Rattle.std.proofs.lemmas.List.{drop-drop, take_all}
use Rattle.std.proofs.lemmas.List.Sums.{fails_before_first, prefix_len-le-length}
use Rattle.std.proofs.lemmas.List.Splits.{slice_split_first, slice_split_none}
use Rattle.ct_base.specs.Bytes.{space}
use Rattle.ct_cost.specs.Reading.{parts_from}

-- a byte that is a space is the last one
pub finds_space : (text : List ℕ) (end : ℕ) (all : Option ℕ) → 0 < end → slice_index text (end - 1) ≡ space → rfind_below space text end ≡ all → Some (end - 1) ≡ all
finds_space text zero all within is so_far = absurd (omega arith)
finds_space text (suc end) all within is so_far =
    let e : suc end - 1 ≡ end = omega arith in
    ap Some e ∙ ap (λ b. cond b (Some end) (rfind_below space text end)) (sym (ap (λ byte. byte == space) (ap (slice_index text) (sym e) ∙ is))) ∙ so_far

-- another byte is passed by
pub passes_byte : (text : List ℕ) (end : ℕ) (all : Option ℕ) → 0 < end → (slice_index text (end - 1) ≡ space → ⊥) → rfind_below space text end ≡ all → rfind_below space text (end - 1) ≡ all
passes_byte text zero all within other so_far = absurd (omega arith)
passes_byte text (suc end) all within other so_far =
    let e : suc end - 1 ≡ end = omega arith in
    ap (rfind_below space text) e ∙ ap (λ b. cond b (Some end) (rfind_below space text end)) (sym (ne_eqb (slice_index text end) space (λ is. other (ap (slice_index text) e ∙ is)))) ∙ so_far

lt_or_eq : (a b : ℕ) → a ≤ b → (a < b) ⊎ (a ≡ b)
lt_or_eq a b most = by (nat_lt a b) refl
  where
    by : (c : Bool) → nat_lt a b ≡ c → (a < b) ⊎ (a ≡ b)
    by true is = inl (grind (arith, nat_tests))
    by false is = inr (grind (arith, nat_tests))

found_by : (b : Bool) (place at : ℕ) → Some at ≡ cond b (Some place) None → at ≡ place
found_by true place at is = cc
found_by false place at is = cc

none_by : (b : Bool) (place len : ℕ) → nat_lt place len ≡ b → place ≤ len → None ≡ cond b (Some place) None → len ≡ place
none_by true place len less most is = cc
none_by false place len less most is = grind (arith, nat_tests)

-- where a separator is found, its place is the length of the first part
pub len_found : (p : ℕ → Bool) (text : List ℕ) (at : ℕ) → Some at ≡ position p text → at ≡ position_or_len p text
len_found p text at is = found_by (nat_lt (position_or_len p text) (length text)) (position_or_len p text) at is

-- where no separator is found, the first part is the whole text
pub len_none : (p : ℕ → Bool) (text : List ℕ) → None ≡ position p text → length text ≡ position_or_len p text
len_none p text is = none_by (nat_lt (position_or_len p text) (length text)) (position_or_len p text) (length text) refl (prefix_len-le-length (λ byte. not (p byte)) text) is

module _ (p : ℕ → Bool) where
  -- the parts from a place within the text
  pub within : (text : List ℕ) (at : ℕ) → at ≤ length text → parts_from p text at ≡ slice_split p (drop at text)
  within text at h =
      let no : nat_lt (length text) at ≡ false = grind (arith, nat_tests) in
      ap (λ b. cond b [] (slice_split p (drop at text))) no

  -- behind the end of the text there is no part
  pub no_more : (text : List ℕ) (at : ℕ) → length text < at → parts_from p text at ≡ []
  no_more text at h =
      let yes : nat_lt (length text) at ≡ true = grind (arith, nat_tests) in
      ap (λ b. cond b [] (slice_split p (drop at text))) yes

  next_by : (text : List ℕ) (at : ℕ) → at ≤ length text → (position_or_len p (drop at text) < length (drop at text)) ⊎ (position_or_len p (drop at text) ≡ length (drop at text))
      → slice_split p (drop at text) ≡ before_first p (drop at text) ∷ parts_from p text (at + position_or_len p (drop at text) + 1)
  next_by text at h (inl more) =
      let len : length (drop at text) ≡ length text - at = length-drop at text in
      let n = position_or_len p (drop at text) in
      let sum : at + (n + 1) ≡ at + n + 1 = omega arith in
      slice_split_first p (drop at text) 0 more
      ∙ ap (λ behind. before_first p (drop at text) ∷ slice_split p behind) (drop-drop (n + 1) at text ∙ ap (λ k. drop k text) sum)
      ∙ ap (λ ls. before_first p (drop at text) ∷ ls) (sym (within text (at + n + 1) (omega arith)))
  next_by text at h (inr end) =
      let len : length (drop at text) ≡ length text - at = length-drop at text in
      let n = position_or_len p (drop at text) in
      let xs = drop at text in
      let fails : All (λ byte. p byte ≡ false) xs = λ k d m. fails_before_first p xs k d (omega arith) in
      slice_split_none p xs fails
      ∙ ap (λ part. part ∷ []) (sym (take_all n xs (omega arith)))
      ∙ ap (λ ls. before_first p xs ∷ ls) (sym (no_more text (at + n + 1) (omega arith)))

  -- the part at a place, and the parts behind it
  pub next_part : (text : List ℕ) (at n : ℕ) → at ≤ length text → n ≡ position_or_len p (drop at text) → parts_from p text at ≡ take n (drop at text) ∷ parts_from p text (at + n + 1)
  next_part text at n h is =
      let most = prefix_len-le-length (λ byte. not (p byte)) (drop at text) in
      let either : (position_or_len p (drop at text) < length (drop at text)) ⊎ (position_or_len p (drop at text) ≡ length (drop at text)) = lt_or_eq (position_or_len p (drop at text)) (length (drop at text)) most in
      within text at h ∙ next_by text at h either ∙ (λ i. take (sym is i) (drop at text) ∷ parts_from p text (at + sym is i + 1))
