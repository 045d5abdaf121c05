-- The places where a match may end. Source: CMake manual, string(REGEX), Regex Specification.
use Rattle.std.specs.Prelude.{ℕ, zero, suc, ◌+◌, ◌==◌, Bool, true, false, ◌||◌, List, [], ◌∷◌, ◌++◌, length, Option, Some, None, slice_get, if◌then◌else◌}
use Rattle.std.specs.List.{flat_map}
use Rattle.ct_regex.specs.Tree.{Test, takes, Tree, empty, never, start, end, one, sequence, choice, repeat}
use Rattle.ct_regex.specs.declared.tree.Quantifier.TheVariants.{ZeroOrOne, ZeroOrMore, OneOrMore}

-- the place alone if the condition holds, else no place
abbrev pub place_if : Bool → ℕ → List ℕ
place_if holds place = if holds then place ∷ [] else []

-- the place behind a byte, if the test takes that byte
abbrev pub behind : Test → ℕ → Option ℕ → List ℕ
behind test place None = []
behind test place (Some byte) = place_if (takes test byte) (place + 1)

-- the places reached from a place by at most so many rounds of one step
abbrev pub rounds : ℕ → (ℕ → List ℕ) → ℕ → List ℕ
rounds zero step place = place ∷ []
rounds (suc most) step place = place ∷ flat_map (rounds most step) (step place)

-- The places where a match that begins at a place may end.
-- A repetition takes at most one round more than the text has bytes.
abbrev pub ends : List ℕ → Tree → ℕ → List ℕ
ends text empty place = place ∷ []
ends text never place = []
ends text start place = place_if (place == 0) place
ends text end place = place_if (place == length text) place
ends text (one test) place = behind test place (slice_get text place)
ends text (sequence first then_come) place = flat_map (ends text then_come) (ends text first place)
ends text (choice left right) place = ends text left place ++ ends text right place
ends text (repeat ZeroOrOne tree) place = place ∷ ends text tree place
ends text (repeat ZeroOrMore tree) place = rounds (suc (length text)) (ends text tree) place
ends text (repeat OneOrMore tree) place =
    flat_map (rounds (length text) (ends text tree)) (ends text tree place)

-- whether there is a place in the list
abbrev pub has_place : List ℕ → Bool
has_place [] = false
has_place (place ∷ places) = true

-- whether a match begins at a place up to the last one
abbrev pub hits_up_to : ℕ → List ℕ → Tree → Bool
hits_up_to zero text tree = has_place (ends text tree 0)
hits_up_to (suc last) text tree = has_place (ends text tree (suc last)) || hits_up_to last text tree

-- whether a match exists anywhere in the text
abbrev pub hits : Tree → List ℕ → Bool
hits tree text = hits_up_to (length text) text tree
