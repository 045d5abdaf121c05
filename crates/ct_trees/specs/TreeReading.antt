-- The reader's own words: what stands behind the folders that it has read so far.
use Rattle.std.specs.Prelude.{ℕ, ◌+◌, ◌*◌, ◌<◌, ◌^◌, ⊤, List, [], ◌∷◌, ◌++◌, Option, Some, None, Result, Ok, Err, bytes_eq, if◌then◌else◌}
use Rattle.ct_args.specs.declared.usage.UsageFault.{UsageFault}
use Rattle.ct_args.specs.declared.usage.UsageFault.TheVariants.{At, NoMemory}
use Rattle.ct_args.specs.Invocation.{InvocationValue, invocation_in}
use Rattle.ct_trees.specs.TreeWords.{dir_fault, end_fault, tree_word, wanted_behind}

-- the fault, if there is one, else the value
abbrev pub fault_or : {T : Type 0} → Option UsageFault → Result T UsageFault → Result T UsageFault
fault_or None value = value
fault_or (Some fault) value = Err fault

-- these folders and those at the front of the words, or the first fault among the latter
abbrev pub dirs_or_fault : List (List ℕ) → List (List ℕ) → Result (List (List ℕ)) UsageFault
dirs_or_fault before [] = Ok before
dirs_or_fault before (word ∷ []) = Ok before
dirs_or_fault before (word ∷ dir ∷ others) =
    if bytes_eq word tree_word
    then fault_or (dir_fault before dir) (dirs_or_fault (before ++ dir ∷ []) others)
    else Ok before

-- what words of ctest behind so many trees say, or the first fault there
abbrev pub behind_or_fault : ℕ → List (List ℕ) → Result InvocationValue UsageFault
behind_or_fault trees words =
    fault_or (end_fault trees words) (wanted_behind (2 * trees) (invocation_in words))

-- the number of a refused word behind so many others is a 32-bit number
abbrev pub FitsBehind : ℕ → UsageFault → Type 0
FitsBehind count (At word kind) = word + count < 2 ^ 32
FitsBehind count NoMemory = ⊤
