-- The words of a call over several build trees: the folders of the trees, then words of ctest. This project's
-- own; the words of ctest are those of CMake manual, ctest(1), Options.
use Rattle.std.specs.Prelude.{ℕ, ◌+◌, ◌*◌, ◌==◌, ◌||◌, nat_le, Bool, true, false, List, [], ◌∷◌, ◌++◌, length, drop, Option, Some, None, option_to_list, Result, Ok, Err, bytes_eq, codes, if◌then◌else◌}
use Rattle.ct_base.specs.Names.{is_among}
use Rattle.ct_args.specs.declared.usage.UsageFault.{UsageFault}
use Rattle.ct_args.specs.declared.usage.UsageFault.TheVariants.{At, NoMemory}
use Rattle.ct_args.specs.declared.usage.UsageKind.TheVariants.{NoValue, BadNumber, BadMode, Twice}
use Rattle.ct_args.specs.Invocation.{InvocationValue, invocation_in, invocation_seen}
use Rattle.ct_app.specs.Reading.{is_list}
use Rattle.ct_trees.specs.declared.words.Trees.{Trees}
use Rattle.ct_trees.specs.declared.words.TheConstants.{MOST_TREES}

-- the word in front of the folder of a tree
abbrev pub tree_word : List ℕ
tree_word = codes "--tree"

-- the greatest number of trees
abbrev pub most_trees : ℕ
most_trees = MOST_TREES

-- a folder of a tree stands at the front of the words, behind its --tree
abbrev pub front_dir : List (List ℕ) → Option (List ℕ)
front_dir [] = None
front_dir (word ∷ []) = None
front_dir (word ∷ dir ∷ others) = if bytes_eq word tree_word then Some dir else None

-- the folders of the trees at the front of the words, in order
abbrev pub dirs_in : List (List ℕ) → List (List ℕ)
dirs_in [] = []
dirs_in (word ∷ []) = []
dirs_in (word ∷ dir ∷ others) = if bytes_eq word tree_word then dir ∷ dirs_in others else []

-- how many words name the trees: two for each
abbrev pub tree_word_count : List (List ℕ) → ℕ
tree_word_count words = 2 * length (dirs_in words)

-- the words behind the trees: those of ctest
abbrev pub words_behind : List (List ℕ) → List (List ℕ)
words_behind words = drop (tree_word_count words) words

-- the first word is a --tree
abbrev pub begins_tree : List (List ℕ) → Bool
begins_tree [] = false
begins_tree (word ∷ others) = bytes_eq word tree_word

-- the number of the word behind so many trees; words are numbered from 1
abbrev pub place_behind_trees : ℕ → ℕ
place_behind_trees trees = 1 + 2 * trees

-- the fault of a folder behind these: it is one too many, or it stood before
abbrev pub dir_fault : List (List ℕ) → List ℕ → Option UsageFault
dir_fault before dir =
    if nat_le most_trees (length before)
    then Some (At (place_behind_trees (length before)) BadNumber)
    else (if is_among dir before then Some (At (place_behind_trees (length before)) Twice) else None)

-- the faults of folders behind others, from the left
abbrev pub dir_faults_behind : List (List ℕ) → List (List ℕ) → List UsageFault
dir_faults_behind before [] = []
dir_faults_behind before (dir ∷ dirs) =
    option_to_list (dir_fault before dir) ++ dir_faults_behind (before ++ dir ∷ []) dirs

-- the fault behind so many trees, where the words go on so: a --tree without its folder, or no tree at all
abbrev pub end_fault : ℕ → List (List ℕ) → Option UsageFault
end_fault trees others =
    if (trees == 0) || begins_tree others then Some (At (place_behind_trees trees) NoValue) else None

-- the faults of the words that name the trees, from the left
abbrev pub tree_faults : List (List ℕ) → List UsageFault
tree_faults words =
    dir_faults_behind [] (dirs_in words)
    ++ option_to_list (end_fault (length (dirs_in words)) (words_behind words))

-- what the words ask for: the folders of the trees, and what is wanted of each tree
pub record TreesValue : Type 0 where
  pub dirs : List (List ℕ)
  pub invocation : InvocationValue

-- an invocation is for a run of all the tests that are chosen: it asks for no list, and not for the tests
-- that failed last
abbrev pub asks_run : InvocationValue → Bool
asks_run invocation = if is_list invocation.task then false else (if invocation.rerun then false else true)

-- the fault of a word behind so many others, by its fault among its own words
abbrev pub fault_behind : ℕ → UsageFault → UsageFault
fault_behind count (At word kind) = At (word + count) kind
fault_behind count NoMemory = NoMemory

-- what is wanted of each tree of a run, by what words of ctest behind so many others say; a list or the tests
-- that failed last are no mode of such a run, which is refused at word 0
abbrev pub wanted_behind : ℕ → Result InvocationValue UsageFault → Result InvocationValue UsageFault
wanted_behind count (Ok invocation) = if asks_run invocation then Ok invocation else Err (At 0 BadMode)
wanted_behind count (Err fault) = Err (fault_behind count fault)

-- these trees with what is wanted of each
abbrev pub trees_with : List (List ℕ) → Result InvocationValue UsageFault → Result TreesValue UsageFault
trees_with dirs (Ok invocation) = Ok (record { dirs = dirs; invocation = invocation })
trees_with dirs (Err fault) = Err fault

-- the first of these faults, or else the trees with what is wanted of each
abbrev pub unless_faulty : List UsageFault → Result TreesValue UsageFault → Result TreesValue UsageFault
unless_faulty [] trees = trees
unless_faulty (fault ∷ others) trees = Err fault

-- what the words ask for, or the first that is wrong with them
abbrev pub trees_in : List (List ℕ) → Result TreesValue UsageFault
trees_in words =
    unless_faulty (tree_faults words)
    (trees_with (dirs_in words) (wanted_behind (tree_word_count words) (invocation_in (words_behind words))))

-- what was read, as it is seen
abbrev pub trees_seen : Trees → TreesValue
trees_seen read = record { dirs = read.dirs; invocation = invocation_seen read.invocation }
