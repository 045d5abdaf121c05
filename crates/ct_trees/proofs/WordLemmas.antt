-- The folders that the reader finds are those at the front of the words, or the first fault there.
use Rattle.std.proofs.Common.{ℕ, ◌+◌, ◌-◌, ◌*◌, ◌≤◌, ◌≡◌, List, [], ◌∷◌, ◌++◌, length, drop, take, refl, sym, ap, ◌∙◌, Some, None, Ok, Err, arith, append_assoc, append-nil}
use Rattle.std.specs.Prelude.{nat_le, Option, Result, Bool, true, false, bytes_eq, option_to_list, if◌then◌else◌}
use Rattle.std.proofs.lemmas.Bool.Decides.{nat_tests}
use Rattle.ct_base.specs.Names.{is_among}
use Rattle.ct_args.specs.declared.usage.UsageKind.TheVariants.{BadNumber, Twice}
use Rattle.ct_args.specs.declared.usage.UsageFault.{UsageFault}
use Rattle.ct_args.specs.declared.usage.UsageFault.TheVariants.{At, NoMemory}
use Rattle.ct_args.specs.declared.invocation.Invocation.{Invocation}
use Rattle.ct_args.specs.Invocation.{InvocationValue, invocation_in, invocation_seen}
use Rattle.ct_args.specs.Read.{IsFirstFault}
use Rattle.std.proofs.lemmas.List.{drop-drop, length-drop, length_push, take_all}
use Rattle.ct_trees.specs.TreeWords.{TreesValue, dir_fault, dir_faults_behind, dirs_in, end_fault, front_dir, place_behind_trees, tree_word, trees_in, trees_with, unless_faulty, wanted_behind, words_behind}
use Rattle.ct_trees.specs.TreeReading.{behind_or_fault, dirs_or_fault, fault_or}

none_by : (is : Bool) (before others : List (List ℕ)) (dir : List ℕ) → (if is then Some dir else None) ≡ None → (if is then fault_or (dir_fault before dir) (dirs_or_fault (before ++ dir ∷ []) others) else Ok before) ≡ Ok before
none_by true before others dir none = cc
none_by false before others dir none = refl

-- no tree stands at the front of the words
none_at_front : (before words : List (List ℕ)) → front_dir words ≡ None → dirs_or_fault before words ≡ Ok before
none_at_front before [] none = refl
none_at_front before (word ∷ []) none = refl
none_at_front before (word ∷ dir ∷ others) none = none_by (bytes_eq word tree_word) before others dir none

one_by : (is : Bool) (before others : List (List ℕ)) (dir found : List ℕ) → (if is then Some dir else None) ≡ Some found → (if is then fault_or (dir_fault before dir) (dirs_or_fault (before ++ dir ∷ []) others) else Ok before) ≡ fault_or (dir_fault before found) (dirs_or_fault (before ++ found ∷ []) others)
one_by true before others dir found one = cc
one_by false before others dir found one = cc

-- a tree stands at the front of the words
one_at_front : (before words : List (List ℕ)) (found : List ℕ) → front_dir words ≡ Some found → dirs_or_fault before words ≡ fault_or (dir_fault before found) (dirs_or_fault (before ++ found ∷ []) (drop 2 words))
one_at_front before [] found one = cc
one_at_front before (word ∷ []) found one = cc
one_at_front before (word ∷ dir ∷ others) found one = one_by (bytes_eq word tree_word) before others dir found one

-- a tree takes two words
two_at_front : (words : List (List ℕ)) (found : List ℕ) → front_dir words ≡ Some found → 2 ≤ length words
two_at_front [] found one = cc
two_at_front (word ∷ []) found one = cc
two_at_front (word ∷ dir ∷ others) found one = omega arith

-- these folders, or the first of the faults
abbrev pub dirs_unless : List UsageFault → List (List ℕ) → Result (List (List ℕ)) UsageFault
dirs_unless [] dirs = Ok dirs
dirs_unless (fault ∷ others) dirs = Err fault

dirs-step : (fault : Option UsageFault) (others : List UsageFault) (dirs : List (List ℕ)) → fault_or fault (dirs_unless others dirs) ≡ dirs_unless (option_to_list fault ++ others) dirs
dirs-step None others dirs = refl
dirs-step (Some fault) others dirs = refl

dirs-by : (is : Bool) (before others : List (List ℕ)) (dir : List ℕ)
    → dirs_or_fault (before ++ dir ∷ []) others ≡ dirs_unless (dir_faults_behind (before ++ dir ∷ []) (dirs_in others)) ((before ++ dir ∷ []) ++ dirs_in others)
    → (if is then fault_or (dir_fault before dir) (dirs_or_fault (before ++ dir ∷ []) others) else Ok before)
    ≡ dirs_unless (dir_faults_behind before (if is then dir ∷ dirs_in others else [])) (before ++ (if is then dir ∷ dirs_in others else []))
dirs-by true before others dir behind =
    ap (fault_or (dir_fault before dir)) (behind ∙ ap (dirs_unless (dir_faults_behind (before ++ dir ∷ []) (dirs_in others))) (append_assoc before (dir ∷ []) (dirs_in others)))
    ∙ dirs-step (dir_fault before dir) (dir_faults_behind (before ++ dir ∷ []) (dirs_in others)) (before ++ dir ∷ dirs_in others)
dirs-by false before others dir behind = ap Ok (sym (append-nil before))

-- the folders behind others are those at the front of the words, or the first fault among them
dirs-are : (before words : List (List ℕ)) → dirs_or_fault before words ≡ dirs_unless (dir_faults_behind before (dirs_in words)) (before ++ dirs_in words)
dirs-are before [] = ap Ok (sym (append-nil before))
dirs-are before (word ∷ []) = ap Ok (sym (append-nil before))
dirs-are before (word ∷ dir ∷ others) = dirs-by (bytes_eq word tree_word) before others dir (dirs-are (before ++ dir ∷ []) others)

unless-append : (one : List UsageFault) (two : Option UsageFault) (dirs : List (List ℕ)) (wanted : Result InvocationValue UsageFault) (found : List (List ℕ)) → dirs_unless one dirs ≡ Ok found → unless_faulty (one ++ option_to_list two) (trees_with dirs wanted) ≡ trees_with found (fault_or two wanted)
unless-append [] None dirs wanted found e = cc
unless-append [] (Some fault) dirs wanted found e = cc
unless-append (fault ∷ one) two dirs wanted found e = cc

unless-bad : (one two : List UsageFault) (dirs : List (List ℕ)) (trees : Result TreesValue UsageFault) (fault : UsageFault) → dirs_unless one dirs ≡ Err fault → unless_faulty (one ++ two) trees ≡ Err fault
unless-bad [] two dirs trees fault e = cc
unless-bad (first ∷ one) two dirs trees fault e = cc

ok-same : (one : List UsageFault) (dirs found : List (List ℕ)) → dirs_unless one dirs ≡ Ok found → dirs ≡ found
ok-same [] dirs found e = cc
ok-same (fault ∷ one) dirs found e = cc

-- the folders were read, and then what is behind them
trees-behind : (words dirs : List (List ℕ)) → dirs_or_fault [] words ≡ Ok dirs → trees_in words ≡ trees_with dirs (behind_or_fault (length dirs) (drop (2 * length dirs) words))
trees-behind words dirs read =
    let is : dirs_unless (dir_faults_behind [] (dirs_in words)) (dirs_in words) ≡ Ok dirs = sym (dirs-are [] words) ∙ read in
    let same : dirs_in words ≡ dirs = ok-same (dir_faults_behind [] (dirs_in words)) (dirs_in words) dirs is in
    unless-append (dir_faults_behind [] (dirs_in words)) (end_fault (length (dirs_in words)) (words_behind words)) (dirs_in words) (wanted_behind (2 * length (dirs_in words)) (invocation_in (words_behind words))) dirs is
    ∙ ap (λ d. trees_with dirs (behind_or_fault (length d) (drop (2 * length d) words))) same

-- a folder is refused
dirs-refused : (words : List (List ℕ)) (fault : UsageFault) → dirs_or_fault [] words ≡ Err fault → trees_in words ≡ Err fault
dirs-refused words fault read =
    unless-bad (dir_faults_behind [] (dirs_in words)) (option_to_list (end_fault (length (dirs_in words)) (words_behind words))) (dirs_in words) (trees_with (dirs_in words) (wanted_behind (2 * length (dirs_in words)) (invocation_in (words_behind words)))) fault (sym (dirs-are [] words) ∙ read)

-- the first two words of a list are cut off
pairs_within : (words : List (List ℕ)) → 2 * length (dirs_in words) ≤ length words
pairs_within [] = omega arith
pairs_within (word ∷ []) = omega arith
pairs_within (word ∷ dir ∷ others) = by_word (bytes_eq word tree_word) dir others (pairs_within others)
  where
    by_word : (is : Bool) (dir : List ℕ) (others : List (List ℕ)) → 2 * length (dirs_in others) ≤ length others → 2 * length (if is then dir ∷ dirs_in others else []) ≤ length (word ∷ dir ∷ others)
    by_word true dir others few = omega (arith, few)
    by_word false dir others few = omega arith

-- the folders that were read take two words each
pub dirs_within : (words dirs : List (List ℕ)) → dirs_or_fault [] words ≡ Ok dirs → 2 * length dirs ≤ length words
dirs_within words dirs read =
    let is : dirs_unless (dir_faults_behind [] (dirs_in words)) (dirs_in words) ≡ Ok dirs = sym (dirs-are [] words) ∙ read in
    let same : dirs_in words ≡ dirs = ok-same (dir_faults_behind [] (dirs_in words)) (dirs_in words) dirs is in
    rw (sym same) (pairs_within words)

-- no folder is left
pub dirs_end : (words dirs : List (List ℕ)) (all : Result (List (List ℕ)) UsageFault) → dirs_or_fault dirs (drop (2 * length dirs) words) ≡ all → front_dir (drop (2 * length dirs) words) ≡ None → all ≡ Ok dirs
dirs_end words dirs all so_far none = sym so_far ∙ none_at_front dirs (drop (2 * length dirs) words) none

-- the next folder is refused
pub dirs_bad : (words dirs : List (List ℕ)) (dir : List ℕ) (fault : UsageFault) (all : Result (List (List ℕ)) UsageFault) → dirs_or_fault dirs (drop (2 * length dirs) words) ≡ all → front_dir (drop (2 * length dirs) words) ≡ Some dir → dir_fault dirs dir ≡ Some fault → IsFirstFault all fault
dirs_bad words dirs dir NoMemory all so_far one bad = tt
dirs_bad words dirs dir (At word kind) all so_far one bad =
    sym so_far ∙ one_at_front dirs (drop (2 * length dirs) words) dir one ∙ ap (λ fault. fault_or fault (dirs_or_fault (dirs ++ dir ∷ []) (drop 2 (drop (2 * length dirs) words)))) bad

-- the next folder is read
module _ (words dirs : List (List ℕ)) (dir : List ℕ) (new : List (List ℕ)) (one : front_dir (drop (2 * length dirs) words) ≡ Some dir) (is : new ≡ dirs ++ dir ∷ []) where
  grown : length new ≡ length dirs + 1
  grown = ap (λ (ds : List (List ℕ)). length ds) is ∙ length_push dirs dir

  pub dirs_next : (all : Result (List (List ℕ)) UsageFault) → dirs_or_fault dirs (drop (2 * length dirs) words) ≡ all → dir_fault dirs dir ≡ None → dirs_or_fault new (drop (2 * length new) words) ≡ all
  dirs_next all so_far good =
      let places : 2 * length new ≡ 2 * length dirs + 2 = omega (arith, grown) in
      ap (λ n. dirs_or_fault new (drop n words)) places
      ∙ ap (λ ds. dirs_or_fault ds (drop (2 * length dirs + 2) words)) is
      ∙ ap (dirs_or_fault (dirs ++ dir ∷ [])) (sym (drop-drop 2 (2 * length dirs) words))
      ∙ sym (ap (λ fault. fault_or fault (dirs_or_fault (dirs ++ dir ∷ []) (drop 2 (drop (2 * length dirs) words)))) good)
      ∙ sym (one_at_front dirs (drop (2 * length dirs) words) dir one)
      ∙ so_far

  pub within_next : 2 * length dirs ≤ length words → 2 * length new ≤ length words
  within_next few =
      let two : 2 ≤ length (drop (2 * length dirs) words) = two_at_front (drop (2 * length dirs) words) dir one in
      omega (arith, grown, two, length-drop (2 * length dirs) words)

few-by : (is : Bool) (fault : UsageFault) (other : Option UsageFault) → (if is then Some fault else other) ≡ None → is ≡ false
few-by true fault other good = cc
few-by false fault other good = refl

-- a folder without a fault is not the 65th
pub few_next : (dirs : List (List ℕ)) (dir : List ℕ) (new : List (List ℕ)) → new ≡ dirs ++ dir ∷ [] → dir_fault dirs dir ≡ None → length new ≤ 64
few_next dirs dir new is good =
    let grown : length new ≡ length dirs + 1 = ap (λ (ds : List (List ℕ)). length ds) is ∙ length_push dirs dir in
    let few : nat_le 64 (length dirs) ≡ false = few-by (nat_le 64 (length dirs)) (At (place_behind_trees (length dirs)) BadNumber) (if is_among dir dirs then Some (At (place_behind_trees (length dirs)) Twice) else None) good in
    grind (arith, nat_tests)

-- a folder is refused, and so are the words
pub dirs_unread : (words : List (List ℕ)) (fault : UsageFault) → IsFirstFault (dirs_or_fault [] words) fault → IsFirstFault (trees_in words) fault
dirs_unread words NoMemory bad = tt
dirs_unread words (At word kind) bad = dirs-refused words (At word kind) bad

-- what is behind the folders is refused, and so are the words
pub behind_unread : (words dirs : List (List ℕ)) (fault : UsageFault) → dirs_or_fault [] words ≡ Ok dirs → IsFirstFault (behind_or_fault (length dirs) (drop (2 * length dirs) words)) fault → IsFirstFault (trees_in words) fault
behind_unread words dirs NoMemory read bad = tt
behind_unread words dirs (At word kind) read bad = trees-behind words dirs read ∙ ap (trees_with dirs) bad

-- the folders and what is behind them were read
pub all_read : (words dirs : List (List ℕ)) (invocation : Invocation) → dirs_or_fault [] words ≡ Ok dirs → behind_or_fault (length dirs) (drop (2 * length dirs) words) ≡ Ok (invocation_seen invocation) → trees_in words ≡ Ok (record { dirs = dirs; invocation = invocation_seen invocation })
all_read words dirs invocation read behind = trees-behind words dirs read ∙ ap (trees_with dirs) behind

-- what is behind a place, as a slice to the end
pub slice_behind : (words : List (List ℕ)) (place : ℕ) → take (length words - place) (drop place words) ≡ drop place words
slice_behind words place = take_all (length words - place) (drop place words) (omega (arith, length-drop place words))
