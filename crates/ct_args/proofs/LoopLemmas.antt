-- The reader goes on option by option.
use Rattle.std.proofs.Common.{ℕ, ◌+◌, ◌≤◌, ◌≡◌, List, ◌∷◌, length, drop, sym, ap, ◌∙◌, Ok}
use Rattle.std.specs.Prelude.{Result}
use Rattle.ct_args.specs.declared.usage.UsageFault.{UsageFault}
use Rattle.ct_args.specs.declared.usage.UsageFault.TheVariants.{At, NoMemory}
use Rattle.ct_args.specs.Given.{Given, options_from}
use Rattle.ct_args.specs.Read.{IsFirstFault}
use Rattle.ct_args.specs.Slots.{Slots, after_given, then_slots, slots_behind}
use Rattle.ct_args.proofs.CutLemmas.{none_behind}

-- the option was taken
pub option_taken : (slots next : Slots) (given : Given) (others options : List Given) (all : Result Slots UsageFault) → options ≡ given ∷ others → after_given slots given ≡ Ok next → slots_behind slots options ≡ all → slots_behind next others ≡ all
option_taken slots next given others options all cut went so_far =
    sym (ap (λ step. then_slots step (λ following. slots_behind following others)) went) ∙ sym (ap (slots_behind slots) cut) ∙ so_far

-- the option is refused
pub option_refused : (slots : Slots) (given : Given) (others options : List Given) (all : Result Slots UsageFault) (fault : UsageFault) → options ≡ given ∷ others → IsFirstFault (after_given slots given) fault → slots_behind slots options ≡ all → IsFirstFault all fault
option_refused slots given others options all NoMemory cut stopped so_far = stopped
option_refused slots given others options all (At word kind) cut stopped so_far =
    sym so_far ∙ ap (slots_behind slots) cut ∙ ap (λ step. then_slots step (λ following. slots_behind following others)) stopped

-- no word is left
pub all_taken : (slots : Slots) (words : List (List ℕ)) (count : ℕ) (all : Result Slots UsageFault) → length words ≤ count → slots_behind slots (options_from (count + 1) (drop count words)) ≡ all → all ≡ Ok slots
all_taken slots words count all done so_far = sym so_far ∙ ap (slots_behind slots) (none_behind words count done)
