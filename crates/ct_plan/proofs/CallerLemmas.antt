-- Tests and their properties that go together, and the members among them, for the crates above.
use Rattle.std.proofs.Common.{◌≡◌, Bool, ℕ, zero, suc, ◌+◌, ◌≤◌, List, [], ◌∷◌, ◌++◌, length, refl, arith, min, max, Option, Some, None, Ok}
use Rattle.std.specs.Prelude.{All, filter, ◌||◌, codes, option_map}
use Rattle.std.specs.List.{range_with_len}
use Rattle.std.proofs.lemmas.List.Elements.{All-cons, All-nil}
use Rattle.std.proofs.lemmas.List.FromFn.{length-range_with_len}
use Rattle.std.proofs.lemmas.List.Sums.{count_by-le-length, length-filter}
use Rattle.ct_base.specs.Numbers.{is_in}
use Rattle.ct_base.specs.Seconds.{number_in}
use Rattle.ct_base.specs.declared.defs.TestDef.{TestDef}
use Rattle.ct_props.specs.declared.props.Props.{Props}
use Rattle.ct_props.specs.declared.wanted.Choice.{Choice}
use Rattle.ct_props.specs.Numbered.{at_number}
use Rattle.ct_props.specs.PropsOf.{HasProps}
use Rattle.ct_props.specs.Values.{bounded_processors, most_processors, or_bad_number, processors_in, value_of_key}
use Rattle.ct_select.specs.Chosen.{chosen_tests, is_chosen_at}
use Rattle.ct_fixture.specs.Drawing.{after_rounds, fixtures_required, is_drawn, next_round}
use Rattle.ct_plan.specs.Source.{HaveProps, members_in}

-- there are as many properties as tests
pub length-have_props : (defs : List TestDef) (props : List Props) → HaveProps defs props → length props ≡ length defs
length-have_props [] [] have = refl
length-have_props [] (own ∷ owns) have = absurd have
length-have_props (def ∷ defs) [] have = absurd have
length-have_props (def ∷ defs) (own ∷ owns) have = omega (arith, length-have_props defs owns have.1)

-- PROCESSORS is at least 1
of_number : (number : Option ℕ) (processors : ℕ) → or_bad_number (option_map bounded_processors number) ≡ Ok processors → 1 ≤ processors
of_number None processors is = cc
of_number (Some n) processors is =
    let same : min (max n 1) most_processors ≡ processors = cc in
    omega (arith, same)

at_least_one : (value : Option (List ℕ)) (processors : ℕ) → processors_in value ≡ Ok processors → 1 ≤ processors
at_least_one None processors is =
    let same : 1 ≡ processors = cc in
    omega (arith, same)
at_least_one (Some text) processors is = of_number (number_in text) processors is

-- properties of tests have at least one processor
pub have_processors : (defs : List TestDef) (props : List Props) → HaveProps defs props → All (λ (own : Props). 1 ≤ own.processors) props
have_processors [] [] have = All-nil (λ (own : Props). 1 ≤ own.processors)
have_processors [] (own ∷ owns) have = absurd have
have_processors (def ∷ defs) [] have = absurd have
have_processors (def ∷ defs) (own ∷ owns) have =
    All-cons (λ (p : Props). 1 ≤ p.processors) own owns (at_least_one (value_of_key def.props (codes "PROCESSORS")) own.processors have.0.processors) (have_processors defs owns have.1)

-- one more test with its properties, behind the others
pub have_props-snoc : (defs : List TestDef) (props : List Props) (def : TestDef) (own : Props) → HaveProps defs props → HasProps def own → HaveProps (defs ++ def ∷ []) (props ++ own ∷ [])
have_props-snoc [] [] def own have has = (has, tt)
have_props-snoc [] (p ∷ ps) def own have has = absurd have
have_props-snoc (d ∷ ds) [] def own have has = absurd have
have_props-snoc (d ∷ ds) (p ∷ ps) def own have has = (have.0, have_props-snoc ds ps def own have.1 has)

-- of the numbers up to one, no more than there are pass a test
few_pass : (p : ℕ → Bool) (count : ℕ) → length (filter p (range_with_len 1 count)) ≤ count
few_pass p count =
    let numbers = range_with_len 1 count in
    omega (arith, length-filter p numbers, count_by-le-length p numbers, length-range_with_len 1 count)

-- there are no more members than tests
pub few_members : (choice : Choice) (defs : List TestDef) (props : List Props) → length props ≡ length defs → length (members_in choice defs props) ≤ length defs
few_members choice defs props same = by (length props) refl
  where
    round : (rounds : ℕ) → length (next_round choice props (after_rounds choice props (chosen_tests defs props choice) rounds)) ≤ length props
    round rounds =
        let tests = after_rounds choice props (chosen_tests defs props choice) rounds in
        few_pass (λ number. is_in tests number || is_drawn choice (fixtures_required props tests) (at_number props number)) (length props)

    by : (rounds : ℕ) → length props ≡ rounds → length (after_rounds choice props (chosen_tests defs props choice) rounds) ≤ length defs
    by zero is = few_pass (is_chosen_at defs props choice) (length defs)
    by (suc rounds) is = omega (arith, round rounds, same)
