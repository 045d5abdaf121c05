-- One number more: of the set of others, and of the chosen tests.
use Rattle.std.proofs.Common.{◌≡◌, ℕ, ◌+◌, ◌<◌, Bool, true, false, cond, eqb, ◌||◌, List, [], ◌∷◌, ◌++◌, length, filter, get_or, Some, sym, ap, ◌∙◌, arith, append-nil}
use Rattle.std.specs.List.{range_with_len}
use Rattle.std.specs.Ordering.{nat_cmp, is_eq}
use Rattle.std.proofs.lemmas.Bool.Decides.{nat_tests}
use Rattle.std.proofs.lemmas.List.{map-id}
use Rattle.std.proofs.lemmas.List.FromFn.{filter_of_map_range_with_len_more}
use Rattle.ct_base.specs.declared.defs.TestDef.{TestDef}
use Rattle.ct_props.specs.Numbered.{at_number}
use Rattle.ct_props.specs.declared.props.Props.{Props}
use Rattle.ct_props.proofs.NumberedLemmas.{at_number_here}
use Rattle.ct_props.specs.declared.wanted.Choice.{Choice}
use Rattle.ct_select.specs.Chosen.{by_number, is_chosen, is_chosen_at, is_chosen_there}

-- a set with one number more has what it had, and the number
pub others_more : (asked number : ℕ) (was now before : Bool) → now ≡ cond (is_eq (nat_cmp number asked)) true was → was ≡ before → now ≡ (before || eqb number asked)
others_more asked number was now before put kept = grind (arith, nat_tests)

-- what is said of the test at a place is said of its number
pub chosen_here : (defs : List TestDef) (props : List Props) (choice : Choice) (at : ℕ) (def : TestDef) (own : Props) → at < length defs → at < length props → def ≡ get_or defs at def → own ≡ get_or props at own → is_chosen choice (by_number choice (length defs) (at + 1)) def own ≡ is_chosen_at defs props choice (at + 1)
chosen_here defs props choice at def own within_defs within_props is_def is_own =
    let def_there = at_number_here defs at def within_defs is_def in
    let own_there = at_number_here props at own within_props is_own in
    sym (ap (λ d. is_chosen_there choice (by_number choice (length defs) (at + 1)) d (at_number props (at + 1))) def_there ∙ ap (is_chosen_there choice (by_number choice (length defs) (at + 1)) (Some def)) own_there)

filter_more : (p : ℕ → Bool) (at : ℕ) → filter p (range_with_len 1 (at + 1)) ≡ filter p (range_with_len 1 at) ++ cond (p (at + 1)) ((at + 1) ∷ []) []
filter_more p at =
    ap (filter p) (sym (map-id (range_with_len 1 (at + 1))))
    ∙ filter_of_map_range_with_len_more p (λ x. x) 1 at (at + 1) (omega arith)
    ∙ ap (λ xs. filter p xs ++ cond (p (at + 1)) ((at + 1) ∷ []) []) (map-id (range_with_len 1 at))

-- a number that passes is put behind the others
pub takes : (p : ℕ → Bool) (at : ℕ) (before : List ℕ) → before ≡ filter p (range_with_len 1 at) → p (at + 1) ≡ true → before ++ (at + 1) ∷ [] ≡ filter p (range_with_len 1 (at + 1))
takes p at before is passes = ap (λ xs. xs ++ (at + 1) ∷ []) is ∙ sym (filter_more p at ∙ ap (λ b. filter p (range_with_len 1 at) ++ cond b ((at + 1) ∷ []) []) passes)

-- one that does not is passed over
pub passes_over : (p : ℕ → Bool) (at : ℕ) (before : List ℕ) → before ≡ filter p (range_with_len 1 at) → p (at + 1) ≡ false → before ≡ filter p (range_with_len 1 (at + 1))
passes_over p at before is fails = is ∙ sym (filter_more p at ∙ ap (λ b. filter p (range_with_len 1 at) ++ cond b ((at + 1) ∷ []) []) fails ∙ append-nil (filter p (range_with_len 1 at)))
