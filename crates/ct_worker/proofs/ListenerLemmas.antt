-- What several scans stand for when they are made and when each is fed one more piece,
-- and what they tell together.
use Rattle.std.proofs.Common.{◌≡◌, ◌∙◌, sym, ap, subst, refl, arith, Bool, true, false, ℕ, zero, suc, ◌+◌, ◌≤◌, ◌<◌, List, [], ◌∷◌, ◌++◌, length, set, take, drop, get_or, take-suc}
use Rattle.std.specs.Prelude.{⊤, ◌||◌}
use Rattle.std.specs.List.{list_any}
use Rattle.ct_regex.specs.declared.pattern.Regex.{Regex}
use Rattle.ct_regex.specs.declared.scan.Scan.{Scan}
use Rattle.ct_regex.specs.Ends.{hits}
use Rattle.ct_regex.specs.Scan.{StandsFor}
use Rattle.ct_regex.specs.Tree.{Tree}
use Rattle.ct_regex.specs.TreeOf.{regex_tree}
use Rattle.ct_worker.specs.Gates.{some_hits}
use Rattle.ct_worker.specs.Listener.{AllStandFor, AreEach}

-- two items more, at the ends of both lists
each-snoc : {A B : Type 0} (belong : A → B → Type 0) (xs : List A) (ys : List B) (x : A) (y : B) → AreEach belong xs ys → belong x y → AreEach belong (xs ++ x ∷ []) (ys ++ y ∷ [])
each-snoc belong [] [] x y all is = (is, tt)
each-snoc belong [] (other ∷ ys) x y all is = absurd all
each-snoc belong (other ∷ xs) [] x y all is = absurd all
each-snoc belong (other ∷ xs) (first ∷ ys) x y all is = (all.0, each-snoc belong xs ys x y all.1 is)

-- the items in front have changed so, and those behind not yet
abbrev pub HaveChanged : {B : Type 0} → (B → B → Type 0) → ℕ → List B → List B → Type 0
HaveChanged so count [] [] = ⊤
HaveChanged so count [] (now ∷ nows) = ⊥
HaveChanged so count (before ∷ befores) [] = ⊥
HaveChanged so zero (before ∷ befores) (now ∷ nows) = (now ≡ before) × HaveChanged so zero befores nows
HaveChanged so (suc count) (before ∷ befores) (now ∷ nows) = so before now × HaveChanged so count befores nows

changed-none : {B : Type 0} (so : B → B → Type 0) (xs : List B) → HaveChanged so 0 xs xs
changed-none so [] = tt
changed-none so (x ∷ xs) = (refl, changed-none so xs)

changed-more : {B : Type 0} (so : B → B → Type 0) (count : ℕ) (befores nows : List B) (before now : B) → count < length nows → before ≡ get_or nows count before → so before now → HaveChanged so count befores nows → HaveChanged so (suc count) befores (set nows count now)
changed-more so count [] [] before now inside is changes have = absurd (omega (arith, inside))
changed-more so count [] (second ∷ nows) before now inside is changes have = absurd have
changed-more so count (first ∷ befores) [] before now inside is changes have = absurd have
changed-more {B = B} so zero (first ∷ befores) (second ∷ nows) before now inside is changes have = (subst (λ (x : B). so x now) (is ∙ have.0) changes, have.1)
changed-more so (suc count) (first ∷ befores) (second ∷ nows) before now inside is changes have = (have.0, changed-more so count befores nows before now (omega (arith, inside)) is changes have.1)

-- if all items have changed, they belong as they then do
changed-all : {A B : Type 0} (so : B → B → Type 0) (belonged belong : A → B → Type 0) → ((x : A) (before now : B) → so before now → belonged x before → belong x now) → (count : ℕ) (xs : List A) (befores nows : List B) → length nows ≤ count → HaveChanged so count befores nows → AreEach belonged xs befores → AreEach belong xs nows
changed-all so belonged belong step count [] [] [] all have were = tt
changed-all so belonged belong step count (x ∷ xs) [] [] all have were = absurd were
changed-all so belonged belong step count xs [] (now ∷ nows) all have were = absurd have
changed-all so belonged belong step count xs (before ∷ befores) [] all have were = absurd have
changed-all so belonged belong step zero xs (before ∷ befores) (now ∷ nows) all have were = absurd (omega (arith, all))
changed-all so belonged belong step (suc count) [] (before ∷ befores) (now ∷ nows) all have were = absurd were
changed-all so belonged belong step (suc count) (x ∷ xs) (before ∷ befores) (now ∷ nows) all have were =
    (step x before now have.0 were.0, changed-all so belonged belong step count xs befores nows (omega (arith, all)) have.1 were.1)

-- an item at a place tells whether the one that it belongs to passes
each-at : {A B : Type 0} (belong : A → B → Type 0) (passes : A → Bool) (place : ℕ) (xs : List A) (ys : List B) (y : B) (told : Bool) → place < length ys → y ≡ get_or ys place y → ((x : A) → belong x y → told ≡ passes x) → AreEach belong (drop place xs) (drop place ys) → (list_any passes (drop place xs) ≡ (told || list_any passes (drop (suc place) xs))) × AreEach belong (drop (suc place) xs) (drop (suc place) ys)
each-at belong passes place xs [] y told inside is tells all = absurd (omega (arith, inside))
each-at belong passes zero [] (first ∷ ys) y told inside is tells all = absurd all
each-at {B = B} belong passes zero (x ∷ xs) (first ∷ ys) y told inside is tells all =
    (ap (λ (b : Bool). b || list_any passes xs) (sym (tells x (subst (λ (z : B). belong x z) (sym is) all.0))), all.1)
each-at {A = A} {B = B} belong passes (suc place) [] (first ∷ ys) y told inside is tells all = absurd (none place ys (omega (arith, inside)) all)
  where
    none : (n : ℕ) (zs : List B) → n < length zs → AreEach belong [] (drop n zs) → ⊥
    none n [] less each = omega (arith, less)
    none zero (z ∷ zs) less each = each
    none (suc n) (z ∷ zs) less each = none n zs (omega (arith, less)) each
each-at belong passes (suc place) (x ∷ xs) (first ∷ ys) y told inside is tells all = each-at belong passes place xs ys y told (omega (arith, inside)) is tells all

-- behind the last of them nothing is left that could pass
each-done : {A B : Type 0} (belong : A → B → Type 0) (passes : A → Bool) (place : ℕ) (xs : List A) (ys : List B) → length ys ≤ place → AreEach belong (drop place xs) (drop place ys) → list_any passes (drop place xs) ≡ false
each-done belong passes zero [] ys done all = refl
each-done belong passes (suc place) [] ys done all = refl
each-done belong passes zero (x ∷ xs) [] done all = absurd all
each-done belong passes zero (x ∷ xs) (y ∷ ys) done all = absurd (omega (arith, done))
each-done belong passes (suc place) (x ∷ xs) [] done all = each-done belong passes place xs [] (omega arith) (none place all)
  where
    none : (n : ℕ) → AreEach belong (drop n xs) [] → AreEach belong (drop n xs) (drop n [])
    none zero is = is
    none (suc n) is = is
each-done belong passes (suc place) (x ∷ xs) (y ∷ ys) done all = each-done belong passes place xs ys (omega (arith, done)) all

-- the second scan stands for what the first stands for, with the piece behind it
abbrev pub IsFed : List ℕ → Scan → Scan → Type 0
IsFed piece before now = (tree : Tree) (text : List ℕ) → StandsFor tree text before → StandsFor tree (text ++ piece) now

-- the scans in front were fed the piece, and those behind not yet
abbrev pub AreFed : List ℕ → ℕ → List Scan → List Scan → Type 0
AreFed piece count befores nows = HaveChanged (IsFed piece) count befores nows

pub fed_none : (piece : List ℕ) (scans : List Scan) → AreFed piece 0 scans scans
fed_none piece scans = changed-none (IsFed piece) scans

-- one scan more was fed
pub fed_next : (piece : List ℕ) (place : ℕ) (befores nows : List Scan) (before now : Scan) → place < length nows → before ≡ get_or nows place before → IsFed piece before now → AreFed piece place befores nows → AreFed piece (place + 1) befores (set nows place now)
fed_next piece place befores nows before now inside is fed are =
    let next : suc place ≡ place + 1 = omega arith in
    subst (λ (n : ℕ). AreFed piece n befores (set nows place now)) next (changed-more (IsFed piece) place befores nows before now inside is fed are)

-- all scans were fed
pub fed_all : (piece : List ℕ) (befores nows : List Scan) (count : ℕ) → length nows ≤ count → AreFed piece count befores nows → (patterns : List Regex) (text : List ℕ) → AllStandFor patterns text befores → AllStandFor patterns (text ++ piece) nows
fed_all piece befores nows count all are patterns text stand =
    changed-all (IsFed piece) (λ (p : Regex) (s : Scan). StandsFor (regex_tree p) text s) (λ (p : Regex) (s : Scan). StandsFor (regex_tree p) (text ++ piece) s)
    (λ p before now fed stands. fed (regex_tree p) text stands) count patterns befores nows all are stand

-- the scan at a place tells whether its pattern hits the text
pub scan_here : (place : ℕ) (patterns : List Regex) (scans : List Scan) (text : List ℕ) (scan : Scan) (ended : Bool) → place < length scans → scan ≡ get_or scans place scan → ((tree : Tree) (text : List ℕ) → StandsFor tree text scan → ended ≡ hits tree text) → AllStandFor (drop place patterns) text (drop place scans) → (some_hits (drop place patterns) text ≡ (ended || some_hits (drop (place + 1) patterns) text)) × AllStandFor (drop (place + 1) patterns) text (drop (place + 1) scans)
scan_here place patterns scans text scan ended inside is tells stand =
    let next : suc place ≡ place + 1 = omega arith in
    subst (λ (n : ℕ). (some_hits (drop place patterns) text ≡ (ended || some_hits (drop n patterns) text)) × AllStandFor (drop n patterns) text (drop n scans)) next
    (each-at (λ (p : Regex) (s : Scan). StandsFor (regex_tree p) text s) (λ (p : Regex). hits (regex_tree p) text) place patterns scans scan ended inside is (λ p stands. tells (regex_tree p) text stands) stand)

-- behind the last scan no pattern is left
pub scans_done : (place : ℕ) (patterns : List Regex) (scans : List Scan) (text : List ℕ) → length scans ≤ place → AllStandFor (drop place patterns) text (drop place scans) → some_hits (drop place patterns) text ≡ false
scans_done place patterns scans text done stand = each-done (λ (p : Regex) (s : Scan). StandsFor (regex_tree p) text s) (λ (p : Regex). hits (regex_tree p) text) place patterns scans done stand

-- one pattern more has its scan
pub all_stand-more : (place : ℕ) (patterns : List Regex) (text : List ℕ) (scans more : List Scan) (pattern : Regex) (scan : Scan) → place < length patterns → pattern ≡ get_or patterns place pattern → more ≡ scans ++ scan ∷ [] → AllStandFor (take place patterns) text scans → StandsFor (regex_tree pattern) text scan → AllStandFor (take (place + 1) patterns) text more
all_stand-more place patterns text scans more pattern scan inside is pushed all stands =
    let next : suc place ≡ place + 1 = omega arith in
    let taken : take (suc place) patterns ≡ take place patterns ++ pattern ∷ [] = take-suc patterns place pattern inside ∙ ap (λ (p : Regex). take place patterns ++ p ∷ []) (sym is) in
    subst (λ (n : ℕ). AllStandFor (take n patterns) text more) next
    (subst (λ (ps : List Regex). AllStandFor ps text more) (sym taken)
    (subst (λ (ss : List Scan). AllStandFor (take place patterns ++ pattern ∷ []) text ss) (sym pushed)
    (each-snoc (λ (p : Regex) (s : Scan). StandsFor (regex_tree p) text s) (take place patterns) scans pattern scan all stands)))
