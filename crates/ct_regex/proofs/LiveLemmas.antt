-- The marks say which point of the pattern a match has come to.
use Rattle.std.proofs.Common.{◌≡◌, ◌≤◌, ◌<◌, ◌⊎◌, ◌||◌, ◌&&◌, ◌==◌, ℕ, zero, suc, ◌+◌, Bool, true, false, not, List, [], ◌++◌, length, get_or, inl, inr, ⊎_elim, refl, sym, ◌∙◌, ap, subst, append_assoc, slice_get, arith}
use Rattle.std.proofs.lemmas.Bool.{and_cases, and_from, and_parts, not-true, or_cases, or_left, or_parts, or_right, cases_lt}
use Rattle.std.proofs.lemmas.Option.{slice_get-get_or, slice_get_past}
use Rattle.ct_regex.specs.Tree.{Test, takes, Tree, empty, never, start, end, one, sequence, choice, repeat}
use Rattle.ct_regex.specs.declared.tree.Quantifier.TheVariants.{ZeroOrOne, ZeroOrMore, OneOrMore}
use Rattle.ct_regex.specs.Ends.{ends, behind, place_if, rounds}
use Rattle.ct_regex.specs.Reading.{can_be_empty}
use Rattle.ct_regex.specs.Sound.{is_sound}
use Rattle.ct_regex.proofs.Live.{Spot, spot_at, first_mark, marks_behind, leaves, next_marks}
use Rattle.ct_regex.proofs.AmongLemmas.{Among, among_left, among_right, among_split, among_flat, among_from}
use Rattle.ct_regex.proofs.PathLemmas.{Path, rounds_path, path_rounds}

-- a match of the tree that begins at a place of the set may end here
abbrev pub Out : List ℕ → Tree → (ℕ → Type 0) → ℕ → Type 0
Out text tree from place = (origin : ℕ) × from origin × Among place (ends text tree origin)

-- the places from which a round of a repetition may begin
abbrev pub Within : List ℕ → Tree → (ℕ → Type 0) → ℕ → Type 0
Within text tree from place = from place ⊎ Out text (repeat OneOrMore tree) from place

-- the marks of the tree are right at a place, for matches that begin at the places of the set
abbrev pub Right : List ℕ → Tree → (ℕ → Type 0) → ℕ → List Bool → Type 0
Right text empty from place marks = Unit {0}
Right text never from place marks = Unit {0}
Right text start from place marks = Unit {0}
Right text end from place marks = Unit {0}
Right text (one test) from place marks = (first_mark marks ≡ true → Out text (one test) from place) × (Out text (one test) from place → first_mark marks ≡ true)
Right text (sequence first others) from place marks = Right text first from place marks × Right text others (Out text first from) place (marks_behind first marks)
Right text (choice left right) from place marks = Right text left from place marks × Right text right from place (marks_behind left marks)
Right text (repeat ZeroOrOne tree) from place marks = Right text tree from place marks
Right text (repeat ZeroOrMore tree) from place marks = Right text tree (Within text tree from) place marks
Right text (repeat OneOrMore tree) from place marks = Right text tree (Within text tree from) place marks

among_if : (b : Bool) (place : ℕ) → b ≡ true → Among place (place_if b place)
among_if true place h = inl refl
among_if false place h = absurd (let no : false ≡ true = h in cc)

if_among : (b : Bool) (origin place : ℕ) → Among place (place_if b origin) → (b ≡ true) × (origin ≡ place)
if_among true origin place a = ⊎_elim (λ e. (refl, e)) (λ no. absurd no) a
if_among false origin place a = absurd a

-- a tree that cannot be empty is left through its marks alone
pub leaves_apart : (tree : Tree) (a b : Bool) (spot : Spot) (marks : List Bool) → is_sound tree ≡ true → can_be_empty tree ≡ false →
    leaves tree a spot marks ≡ leaves tree b spot marks
leaves_apart empty a b spot marks s h = absurd (let no : true ≡ false = h in cc)
leaves_apart never a b spot marks s h = refl
leaves_apart start a b spot marks s h = absurd (let no : true ≡ false = h in cc)
leaves_apart end a b spot marks s h = absurd (let no : true ≡ false = h in cc)
leaves_apart (one test) a b spot marks s h = refl
leaves_apart (sequence first others) a b spot marks s h =
    let both = and_parts (is_sound first) (is_sound others) s in
    ⊎_elim
    (λ f. ap (λ e. leaves others e spot (marks_behind first marks)) (leaves_apart first a b spot marks both.0 f))
    (λ o. leaves_apart others (leaves first a spot marks) (leaves first b spot marks) spot (marks_behind first marks) both.1 o)
    (and_cases (can_be_empty first) (can_be_empty others) h)
leaves_apart (choice left right) a b spot marks s h =
    let both = and_parts (is_sound left) (is_sound right) s in
    let none = or_parts (can_be_empty left) (can_be_empty right) h in
    ap (λ e. e || leaves right a spot (marks_behind left marks)) (leaves_apart left a b spot marks both.0 none.0)
    ∙ ap (λ e. leaves left b spot marks || e) (leaves_apart right a b spot (marks_behind left marks) both.1 none.1)
leaves_apart (repeat ZeroOrOne tree) a b spot marks s h = absurd (let no : true ≡ false = h in cc)
leaves_apart (repeat ZeroOrMore tree) a b spot marks s h = absurd (let no : true ≡ false = h in cc)
leaves_apart (repeat OneOrMore tree) a b spot marks s h =
    let both = and_parts (not (can_be_empty tree)) (is_sound tree) s in
    leaves_apart tree a b spot marks both.1 (not-true (can_be_empty tree) both.0)

-- a match ends at or behind its begin
path_ge : (step : ℕ → List ℕ) → ((i j : ℕ) → Among j (step i) → i ≤ j) → (count i j : ℕ) → Path step count i j → i ≤ j
path_ge step f zero i j p = omega arith
path_ge step f (suc count) i j p = omega (arith, path_ge step f count i p.0 p.1, f p.0 j p.2)

path_gt : (step : ℕ → List ℕ) → ((i j : ℕ) → Among j (step i) → i < j) → (count i j : ℕ) → Path step count i j → i + count ≤ j
path_gt step f zero i j p = omega arith
path_gt step f (suc count) i j p = omega (arith, path_gt step f count i p.0 p.1, f p.0 j p.2)

path_le : (step : ℕ → List ℕ) (most : ℕ) → ((i j : ℕ) → i ≤ most → Among j (step i) → j ≤ most) → (count i j : ℕ) → i ≤ most → Path step count i j → j ≤ most
path_le step most f zero i j h p = omega arith
path_le step most f (suc count) i j h p = f p.0 j (path_le step most f count i p.0 h p.1) p.2

behind_at : (text : List ℕ) (test : Test) (i j : ℕ) → Among j (behind test i (slice_get text i)) → (i < length text) × (takes test (get_or text i 0) ≡ true) × (j ≡ i + 1)
behind_at text test i j a = by_place (cases_lt i (length text))
  where
    by_place : (i < length text) ⊎ (length text ≤ i) → (i < length text) × (takes test (get_or text i 0) ≡ true) × (j ≡ i + 1)
    by_place (inl inside) =
        let here = subst (λ v. Among j (behind test i v)) (slice_get-get_or text i 0 inside) a in
        let got = if_among (takes test (get_or text i 0)) (i + 1) j here in
        (inside, got.0, sym got.1)
    by_place (inr past) = absurd (subst (λ v. Among j (behind test i v)) (slice_get_past text i past) a)

at_behind : (text : List ℕ) (test : Test) (i : ℕ) → i < length text → takes test (get_or text i 0) ≡ true → Among (i + 1) (behind test i (slice_get text i))
at_behind text test i inside h =
    subst (λ v. Among (i + 1) (behind test i v)) (sym (slice_get-get_or text i 0 inside)) (among_if (takes test (get_or text i 0)) (i + 1) h)

ends_ge : (text : List ℕ) (tree : Tree) (i j : ℕ) → Among j (ends text tree i) → i ≤ j
ends_ge text empty i j a = ⊎_elim (λ e. omega arith) (λ no. absurd no) a
ends_ge text never i j a = absurd a
ends_ge text start i j a = omega (arith, (if_among (i == 0) i j a).1)
ends_ge text end i j a = omega (arith, (if_among (i == length text) i j a).1)
ends_ge text (one test) i j a = omega (arith, (behind_at text test i j a).2)
ends_ge text (sequence first others) i j a =
    let f = among_from (ends text others) (ends text first i) j a in
    omega (arith, ends_ge text first i f.0 f.1, ends_ge text others f.0 j f.2)
ends_ge text (choice left right) i j a =
    ⊎_elim (λ l. ends_ge text left i j l) (λ r. ends_ge text right i j r) (among_split j (ends text left i) (ends text right i) a)
ends_ge text (repeat ZeroOrOne tree) i j a = ⊎_elim (λ e. omega arith) (λ r. ends_ge text tree i j r) a
ends_ge text (repeat ZeroOrMore tree) i j a =
    let p = rounds_path (ends text tree) (suc (length text)) i j a in
    path_ge (ends text tree) (λ k l b. ends_ge text tree k l b) p.0 i j p.2
ends_ge text (repeat OneOrMore tree) i j a =
    let f = among_from (rounds (length text) (ends text tree)) (ends text tree i) j a in
    let p = rounds_path (ends text tree) (length text) f.0 j f.2 in
    omega (arith, ends_ge text tree i f.0 f.1, path_ge (ends text tree) (λ k l b. ends_ge text tree k l b) p.0 f.0 j p.2)

pub ends_le : (text : List ℕ) (tree : Tree) (i j : ℕ) → i ≤ length text → Among j (ends text tree i) → j ≤ length text
ends_le text empty i j h a = ⊎_elim (λ e. omega arith) (λ no. absurd no) a
ends_le text never i j h a = absurd a
ends_le text start i j h a = omega (arith, (if_among (i == 0) i j a).1)
ends_le text end i j h a = omega (arith, (if_among (i == length text) i j a).1)
ends_le text (one test) i j h a = let b = behind_at text test i j a in omega (arith, b.0, b.2)
ends_le text (sequence first others) i j h a =
    let f = among_from (ends text others) (ends text first i) j a in
    ends_le text others f.0 j (ends_le text first i f.0 h f.1) f.2
ends_le text (choice left right) i j h a =
    ⊎_elim (λ l. ends_le text left i j h l) (λ r. ends_le text right i j h r) (among_split j (ends text left i) (ends text right i) a)
ends_le text (repeat ZeroOrOne tree) i j h a = ⊎_elim (λ e. omega arith) (λ r. ends_le text tree i j h r) a
ends_le text (repeat ZeroOrMore tree) i j h a =
    let p = rounds_path (ends text tree) (suc (length text)) i j a in
    path_le (ends text tree) (length text) (λ k l w b. ends_le text tree k l w b) p.0 i j h p.2
ends_le text (repeat OneOrMore tree) i j h a =
    let f = among_from (rounds (length text) (ends text tree)) (ends text tree i) j a in
    let p = rounds_path (ends text tree) (length text) f.0 j f.2 in
    path_le (ends text tree) (length text) (λ k l w b. ends_le text tree k l w b) p.0 f.0 j (ends_le text tree i f.0 h f.1) p.2

ends_gt : (text : List ℕ) (tree : Tree) (i j : ℕ) → is_sound tree ≡ true → can_be_empty tree ≡ false → Among j (ends text tree i) → i < j
ends_gt text empty i j s h a = absurd (let no : true ≡ false = h in cc)
ends_gt text never i j s h a = absurd a
ends_gt text start i j s h a = absurd (let no : true ≡ false = h in cc)
ends_gt text end i j s h a = absurd (let no : true ≡ false = h in cc)
ends_gt text (one test) i j s h a = omega (arith, (behind_at text test i j a).2)
ends_gt text (sequence first others) i j s h a =
    let f = among_from (ends text others) (ends text first i) j a in
    let both = and_parts (is_sound first) (is_sound others) s in
    ⊎_elim
    (λ e. omega (arith, ends_gt text first i f.0 both.0 e f.1, ends_ge text others f.0 j f.2))
    (λ e. omega (arith, ends_ge text first i f.0 f.1, ends_gt text others f.0 j both.1 e f.2))
    (and_cases (can_be_empty first) (can_be_empty others) h)
ends_gt text (choice left right) i j s h a =
    let both = and_parts (is_sound left) (is_sound right) s in
    let none = or_parts (can_be_empty left) (can_be_empty right) h in
    ⊎_elim (λ l. ends_gt text left i j both.0 none.0 l) (λ r. ends_gt text right i j both.1 none.1 r) (among_split j (ends text left i) (ends text right i) a)
ends_gt text (repeat ZeroOrOne tree) i j s h a = absurd (let no : true ≡ false = h in cc)
ends_gt text (repeat ZeroOrMore tree) i j s h a = absurd (let no : true ≡ false = h in cc)
ends_gt text (repeat OneOrMore tree) i j s h a =
    let f = among_from (rounds (length text) (ends text tree)) (ends text tree i) j a in
    let p = rounds_path (ends text tree) (length text) f.0 j f.2 in
    let both = and_parts (not (can_be_empty tree)) (is_sound tree) s in
    omega (arith, ends_gt text tree i f.0 both.1 (not-true (can_be_empty tree) both.0) f.1, path_ge (ends text tree) (λ k l b. ends_ge text tree k l b) p.0 f.0 j p.2)

-- a set of places in the text
abbrev pub IsBounded : List ℕ → (ℕ → Type 0) → Type 0
IsBounded text from = (place : ℕ) → from place → place ≤ length text

out_bounded : (text : List ℕ) (tree : Tree) (from : ℕ → Type 0) → IsBounded text from → IsBounded text (Out text tree from)
out_bounded text tree from b place (o, f, a) = ends_le text tree o place (b o f) a

within_bounded : (text : List ℕ) (tree : Tree) (from : ℕ → Type 0) → IsBounded text from → IsBounded text (Within text tree from)
within_bounded text tree from b place (inl f) = b place f
within_bounded text tree from b place (inr p) = out_bounded text (repeat OneOrMore tree) from b place p

-- one more round behind the other rounds of a repetition
within_more : (text : List ℕ) (tree : Tree) (from : ℕ → Type 0) (place : ℕ) → IsBounded text from → is_sound tree ≡ true → can_be_empty tree ≡ false →
    Out text tree (Within text tree from) place → Out text (repeat OneOrMore tree) from place
within_more text tree from place b s h (o, inl f, a) =
    (o, f, among_flat (rounds (length text) (ends text tree)) (ends text tree o) place place a (path_rounds (ends text tree) (length text) 0 place place (omega arith) refl))
within_more text tree from place b s h (o, inr p, a) =
    let f = among_from (rounds (length text) (ends text tree)) (ends text tree p.0) o p.2 in
    let q = rounds_path (ends text tree) (length text) f.0 o f.2 in
    let up = path_gt (ends text tree) (λ k l c. ends_gt text tree k l s h c) (suc q.0) f.0 place (o, q.2, a) in
    let top = ends_le text tree o place (out_bounded text (repeat OneOrMore tree) from b o p) a in (
      p.0,
      p.1,
      among_flat (rounds (length text) (ends text tree)) (ends text tree p.0) f.0 place f.1
          (path_rounds (ends text tree) (length text) (suc q.0) f.0 place (omega (arith, up, top)) (o, q.2, a)),
    )

-- the last round of a repetition
within_last : (text : List ℕ) (tree : Tree) (from : ℕ → Type 0) (place : ℕ) → IsBounded text from → is_sound tree ≡ true → can_be_empty tree ≡ false →
    Out text (repeat OneOrMore tree) from place → Out text tree (Within text tree from) place
within_last text tree from place b s h (o, f, a) =
    let mid = among_from (rounds (length text) (ends text tree)) (ends text tree o) place a in
    let q = rounds_path (ends text tree) (length text) mid.0 place mid.2 in
    by_count q.0 mid.0 place (within_first mid.0 mid.1) q.2 mid.1
  where
    within_first : (mid : ℕ) → Among mid (ends text tree o) → Out text (repeat OneOrMore tree) from mid
    within_first mid c = within_more text tree from mid b s h (o, inl f, c)

    by_count : (count mid place : ℕ) → Out text (repeat OneOrMore tree) from mid → Path (ends text tree) count mid place → Among mid (ends text tree o) → Out text tree (Within text tree from) place
    by_count zero mid place m p c = (o, inl f, subst (λ (v : ℕ). Among v (ends text tree o)) p c)
    by_count (suc count) mid place m p c = (p.0, inr (along count mid p.0 m p.1), p.2)
      where
        along : (count mid place : ℕ) → Out text (repeat OneOrMore tree) from mid → Path (ends text tree) count mid place → Out text (repeat OneOrMore tree) from place
        along zero mid place m p = subst (λ (v : ℕ). Out text (repeat OneOrMore tree) from v) p m
        along (suc count) mid place m p = within_more text tree from place b s h (p.0, inr (along count mid p.0 m p.1), p.2)

-- a match that leaves the tree by its marks has come to its end
pub leaves_sound : (text : List ℕ) (tree : Tree) (from : ℕ → Type 0) (place : ℕ) (enters : Bool) (marks : List Bool) → IsBounded text from → is_sound tree ≡ true →
    Right text tree from place marks → (enters ≡ true → from place) → leaves tree enters (spot_at text place) marks ≡ true → Out text tree from place
leaves_sound text empty from place enters marks b s r f h = (place, f h, inl refl)
leaves_sound text never from place enters marks b s r f h = absurd (let no : false ≡ true = h in cc)
leaves_sound text start from place enters marks b s r f h = let both = and_parts enters (place == 0) h in (place, f both.0, among_if (place == 0) place both.1)
leaves_sound text end from place enters marks b s r f h = let both = and_parts enters (place == length text) h in (place, f both.0, among_if (place == length text) place both.1)
leaves_sound text (one test) from place enters marks b s r f h = r.0 h
leaves_sound text (sequence first others) from place enters marks b s r f h =
    let both = and_parts (is_sound first) (is_sound others) s in
    let out = leaves_sound text others (Out text first from) place (leaves first enters (spot_at text place) marks) (marks_behind first marks) (out_bounded text first from b) both.1 r.1
    (λ e. leaves_sound text first from place enters marks b both.0 r.0 f e) h in
    (out.1.0, out.1.1, among_flat (ends text others) (ends text first out.1.0) out.0 place out.1.2 out.2)
leaves_sound text (choice left right) from place enters marks b s r f h =
    let both = and_parts (is_sound left) (is_sound right) s in
    ⊎_elim
    (λ l. let out = leaves_sound text left from place enters marks b both.0 r.0 f l in (out.0, out.1, among_left place (ends text left out.0) (ends text right out.0) out.2))
    (λ g. let out = leaves_sound text right from place enters (marks_behind left marks) b both.1 r.1 f g in (out.0, out.1, among_right place (ends text left out.0) (ends text right out.0) out.2))
    (or_cases (leaves left enters (spot_at text place) marks) (leaves right enters (spot_at text place) (marks_behind left marks)) h)
leaves_sound text (repeat ZeroOrOne tree) from place enters marks b s r f h =
    ⊎_elim (λ e. (place, f e, inl refl)) (λ l. let out = leaves_sound text tree from place enters marks b s r f l in (out.0, out.1, inr out.2))
    (or_cases enters (leaves tree enters (spot_at text place) marks) h)
leaves_sound text (repeat ZeroOrMore tree) from place enters marks b s r f h =
    let both = and_parts (not (can_be_empty tree)) (is_sound tree) s in
    ⊎_elim (λ e. (place, f e, inl refl))
    (λ l.
    let out = within_more text tree from place b both.1 (not-true (can_be_empty tree) both.0)
    (leaves_sound text tree (Within text tree from) place enters marks (within_bounded text tree from b) both.1 r (λ e. inl (f e)) l) in
    (out.0, out.1, inr out.2))
    (or_cases enters (leaves tree enters (spot_at text place) marks) h)
leaves_sound text (repeat OneOrMore tree) from place enters marks b s r f h =
    let both = and_parts (not (can_be_empty tree)) (is_sound tree) s in
    within_more text tree from place b both.1 (not-true (can_be_empty tree) both.0)
    (leaves_sound text tree (Within text tree from) place enters marks (within_bounded text tree from b) both.1 r (λ e. inl (f e)) h)

-- if a match comes to its end, the marks let it leave the tree
pub leaves_whole : (text : List ℕ) (tree : Tree) (from : ℕ → Type 0) (place : ℕ) (enters : Bool) (marks : List Bool) → IsBounded text from → is_sound tree ≡ true →
    Right text tree from place marks → (from place → enters ≡ true) → Out text tree from place → leaves tree enters (spot_at text place) marks ≡ true
leaves_whole text empty from place enters marks b s r g (o, f, a) = ⊎_elim (λ e. g (subst from e f)) (λ no. absurd no) a
leaves_whole text never from place enters marks b s r g (o, f, a) = absurd a
leaves_whole text start from place enters marks b s r g (o, f, a) =
    let got = if_among (o == 0) o place a in
    and_from enters (place == 0) (g (subst from got.1 f)) (subst (λ (v : ℕ). (v == 0) ≡ true) got.1 got.0)
leaves_whole text end from place enters marks b s r g (o, f, a) =
    let got = if_among (o == length text) o place a in
    and_from enters (place == length text) (g (subst from got.1 f)) (subst (λ (v : ℕ). (v == length text) ≡ true) got.1 got.0)
leaves_whole text (one test) from place enters marks b s r g out = r.1 out
leaves_whole text (sequence first others) from place enters marks b s r g (o, f, a) =
    let both = and_parts (is_sound first) (is_sound others) s in
    let mid = among_from (ends text others) (ends text first o) place a in
    leaves_whole text others (Out text first from) place (leaves first enters (spot_at text place) marks) (marks_behind first marks) (out_bounded text first from b) both.1 r.1
    (λ out. leaves_whole text first from place enters marks b both.0 r.0 g out) (mid.0, (o, f, mid.1), mid.2)
leaves_whole text (choice left right) from place enters marks b s r g (o, f, a) =
    let both = and_parts (is_sound left) (is_sound right) s in
    ⊎_elim
    (λ l. or_left (leaves left enters (spot_at text place) marks) (leaves right enters (spot_at text place) (marks_behind left marks)) (leaves_whole text left from place enters marks b both.0 r.0 g (o, f, l)))
    (λ h. or_right (leaves left enters (spot_at text place) marks) (leaves right enters (spot_at text place) (marks_behind left marks)) (leaves_whole text right from place enters (marks_behind left marks) b both.1 r.1 g (o, f, h)))
    (among_split place (ends text left o) (ends text right o) a)
leaves_whole text (repeat ZeroOrOne tree) from place enters marks b s r g (o, f, a) =
    ⊎_elim (λ e. or_left enters (leaves tree enters (spot_at text place) marks) (g (subst from e f)))
    (λ l. or_right enters (leaves tree enters (spot_at text place) marks) (leaves_whole text tree from place enters marks b s r g (o, f, l))) a
leaves_whole text (repeat ZeroOrMore tree) from place enters marks b s r g (o, f, a) =
    let both = and_parts (not (can_be_empty tree)) (is_sound tree) s in
    let none = not-true (can_be_empty tree) both.0 in
    ⊎_elim (λ e. or_left enters (leaves tree enters (spot_at text place) marks) (g (subst from e f)))
    (λ l. or_right enters (leaves tree enters (spot_at text place) marks)
    (leaves_apart tree enters true (spot_at text place) marks both.1 none
    ∙ leaves_whole text tree (Within text tree from) place true marks (within_bounded text tree from b) both.1 r (λ w. refl) (within_last text tree from place b both.1 none (o, f, l)))) a
leaves_whole text (repeat OneOrMore tree) from place enters marks b s r g out =
    let both = and_parts (not (can_be_empty tree)) (is_sound tree) s in
    let none = not-true (can_be_empty tree) both.0 in
    leaves_apart tree enters true (spot_at text place) marks both.1 none
    ∙ leaves_whole text tree (Within text tree from) place true marks (within_bounded text tree from b) both.1 r (λ w. refl) (within_last text tree from place b both.1 none out)

-- behind the next marks of a tree stand the marks of the rest
pub marks_behind-next : (tree : Tree) (enters : Bool) (spot : Spot) (byte : ℕ) (marks rest : List Bool) → marks_behind tree (next_marks tree enters spot byte marks ++ rest) ≡ rest
marks_behind-next empty enters spot byte marks rest = refl
marks_behind-next never enters spot byte marks rest = refl
marks_behind-next start enters spot byte marks rest = refl
marks_behind-next end enters spot byte marks rest = refl
marks_behind-next (one test) enters spot byte marks rest = refl
marks_behind-next (sequence first others) enters spot byte marks rest =
    let front : List Bool = next_marks first enters spot byte marks in
    let back : List Bool = next_marks others (leaves first enters spot marks) spot byte (marks_behind first marks) in
    ap (λ ms. marks_behind others (marks_behind first ms)) (append_assoc front back rest)
    ∙ ap (marks_behind others) (marks_behind-next first enters spot byte marks (back ++ rest))
    ∙ marks_behind-next others (leaves first enters spot marks) spot byte (marks_behind first marks) rest
marks_behind-next (choice left right) enters spot byte marks rest =
    let front : List Bool = next_marks left enters spot byte marks in
    let back : List Bool = next_marks right enters spot byte (marks_behind left marks) in
    ap (λ ms. marks_behind right (marks_behind left ms)) (append_assoc front back rest)
    ∙ ap (marks_behind right) (marks_behind-next left enters spot byte marks (back ++ rest))
    ∙ marks_behind-next right enters spot byte (marks_behind left marks) rest
marks_behind-next (repeat ZeroOrOne tree) enters spot byte marks rest = marks_behind-next tree enters spot byte marks rest
marks_behind-next (repeat ZeroOrMore tree) enters spot byte marks rest = marks_behind-next tree (enters || leaves tree enters spot marks) spot byte marks rest
marks_behind-next (repeat OneOrMore tree) enters spot byte marks rest = marks_behind-next tree (enters || leaves tree enters spot marks) spot byte marks rest

-- the next marks are right behind one more byte
pub next_right : (text : List ℕ) (tree : Tree) (from : ℕ → Type 0) (place byte : ℕ) (enters : Bool) (marks rest : List Bool) → IsBounded text from → is_sound tree ≡ true →
    place < length text → byte ≡ get_or text place 0 → Right text tree from place marks → (enters ≡ true → from place) → (from place → enters ≡ true) →
    Right text tree from (place + 1) (next_marks tree enters (spot_at text place) byte marks ++ rest)
next_right text empty from place byte enters marks rest b s inside e r f g = tt
next_right text never from place byte enters marks rest b s inside e r f g = tt
next_right text start from place byte enters marks rest b s inside e r f g = tt
next_right text end from place byte enters marks rest b s inside e r f g = tt
next_right text (one test) from place byte enters marks rest b s inside e r f g = (
  λ h. let both = and_parts enters (takes test byte) h in
      (place, f both.0, at_behind text test place inside (subst (λ (v : ℕ). takes test v ≡ true) e both.1)),
  back,
)
  where
    back : Out text (one test) from (place + 1) → (enters && takes test byte) ≡ true
    back (o, h, a) =
        let got = behind_at text test o (place + 1) a in
        let same : o ≡ place = omega (arith, got.2) in
        and_from enters (takes test byte) (g (subst from same h))
        (subst (λ (v : ℕ). takes test v ≡ true) (sym e) (subst (λ (v : ℕ). takes test (get_or text v 0) ≡ true) same got.1))
next_right text (sequence first others) from place byte enters marks rest b s inside e r f g =
    let both = and_parts (is_sound first) (is_sound others) s in
    let front : List Bool = next_marks first enters (spot_at text place) byte marks in
    let back : List Bool = next_marks others (leaves first enters (spot_at text place) marks) (spot_at text place) byte (marks_behind first marks) in
    subst (λ (ms : List Bool). Right text (sequence first others) from (place + 1) ms) (sym (append_assoc front back rest)) (
      next_right text first from place byte enters marks (back ++ rest) b both.0 inside e r.0 f g,
      subst (λ (ms : List Bool). Right text others (Out text first from) (place + 1) ms) (sym (marks_behind-next first enters (spot_at text place) byte marks (back ++ rest)))
          (next_right text others (Out text first from) place byte (leaves first enters (spot_at text place) marks) (marks_behind first marks) rest (out_bounded text first from b) both.1 inside e r.1
          (λ h. leaves_sound text first from place enters marks b both.0 r.0 f h)
          (λ h. leaves_whole text first from place enters marks b both.0 r.0 g h)),
    )
next_right text (choice left right) from place byte enters marks rest b s inside e r f g =
    let both = and_parts (is_sound left) (is_sound right) s in
    let front : List Bool = next_marks left enters (spot_at text place) byte marks in
    let back : List Bool = next_marks right enters (spot_at text place) byte (marks_behind left marks) in
    subst (λ (ms : List Bool). Right text (choice left right) from (place + 1) ms) (sym (append_assoc front back rest)) (
      next_right text left from place byte enters marks (back ++ rest) b both.0 inside e r.0 f g,
      subst (λ (ms : List Bool). Right text right from (place + 1) ms) (sym (marks_behind-next left enters (spot_at text place) byte marks (back ++ rest)))
          (next_right text right from place byte enters (marks_behind left marks) rest b both.1 inside e r.1 f g),
    )
next_right text (repeat ZeroOrOne tree) from place byte enters marks rest b s inside e r f g =
    next_right text tree from place byte enters marks rest b s inside e r f g
next_right text (repeat ZeroOrMore tree) from place byte enters marks rest b s inside e r f g =
    let both = and_parts (not (can_be_empty tree)) (is_sound tree) s in
    next_right text tree (Within text tree from) place byte (enters || leaves tree enters (spot_at text place) marks) marks rest (within_bounded text tree from b) both.1 inside e r
    (λ h. ⊎_elim (λ n. inl (f n)) (λ l. inr (leaves_sound text (repeat OneOrMore tree) from place enters marks b s r f l)) (or_cases enters (leaves tree enters (spot_at text place) marks) h))
    (λ w. ⊎_elim (λ n. or_left enters (leaves tree enters (spot_at text place) marks) (g n)) (λ p. or_right enters (leaves tree enters (spot_at text place) marks) (leaves_whole text (repeat OneOrMore tree) from place enters marks b s r g p)) w)
next_right text (repeat OneOrMore tree) from place byte enters marks rest b s inside e r f g =
    let both = and_parts (not (can_be_empty tree)) (is_sound tree) s in
    next_right text tree (Within text tree from) place byte (enters || leaves tree enters (spot_at text place) marks) marks rest (within_bounded text tree from b) both.1 inside e r
    (λ h. ⊎_elim (λ n. inl (f n)) (λ l. inr (leaves_sound text (repeat OneOrMore tree) from place enters marks b s r f l)) (or_cases enters (leaves tree enters (spot_at text place) marks) h))
    (λ w. ⊎_elim (λ n. or_left enters (leaves tree enters (spot_at text place) marks) (g n)) (λ p. or_right enters (leaves tree enters (spot_at text place) marks) (leaves_whole text (repeat OneOrMore tree) from place enters marks b s r g p)) w)

pub marks_behind-none : (tree : Tree) → marks_behind tree [] ≡ []
marks_behind-none empty = refl
marks_behind-none never = refl
marks_behind-none start = refl
marks_behind-none end = refl
marks_behind-none (one test) = refl
marks_behind-none (sequence first others) = ap (marks_behind others) (marks_behind-none first) ∙ marks_behind-none others
marks_behind-none (choice left right) = ap (marks_behind right) (marks_behind-none left) ∙ marks_behind-none right
marks_behind-none (repeat quantifier tree) = marks_behind-none tree

-- before the first byte no mark is right
pub first_right : (text : List ℕ) (tree : Tree) (from : ℕ → Type 0) → Right text tree from 0 []
first_right text empty from = tt
first_right text never from = tt
first_right text start from = tt
first_right text end from = tt
first_right text (one test) from = (λ h. absurd (let no : false ≡ true = h in cc), none)
  where
    none : Out text (one test) from 0 → false ≡ true
    none (o, f, a) = absurd (omega (arith, (behind_at text test o 0 a).2))
first_right text (sequence first others) from =
    (first_right text first from, subst (λ (ms : List Bool). Right text others (Out text first from) 0 ms) (sym (marks_behind-none first)) (first_right text others (Out text first from)))
first_right text (choice left right) from =
    (first_right text left from, subst (λ (ms : List Bool). Right text right from 0 ms) (sym (marks_behind-none left)) (first_right text right from))
first_right text (repeat ZeroOrOne tree) from = first_right text tree from
first_right text (repeat ZeroOrMore tree) from = first_right text tree (Within text tree from)
first_right text (repeat OneOrMore tree) from = first_right text tree (Within text tree from)

-- the places of a text
abbrev pub Places : List ℕ → ℕ → Type 0
Places text place = place ≤ length text

pub bounded : (text : List ℕ) → IsBounded text (Places text)
bounded text place h = h
