-- The live positions of a pattern, by its tree: one mark for each atom of one byte, in the order of the tree.
use Rattle.std.specs.Prelude.{ℕ, ◌&&◌, ◌||◌, Bool, false, ◌==◌, List, [], ◌∷◌, ◌++◌, length}
use Rattle.ct_regex.specs.Tree.{takes, Tree, empty, never, start, end, one, sequence, choice, repeat}
use Rattle.ct_regex.specs.declared.tree.Quantifier.{Quantifier}
use Rattle.ct_regex.specs.declared.tree.Quantifier.TheVariants.{ZeroOrOne, ZeroOrMore, OneOrMore}

-- what `^` and `$` need to know of a place
pub record Spot : Type 0 where
  pub is_first : Bool
  pub is_last : Bool

-- the spot of a place
abbrev pub spot_at : List ℕ → ℕ → Spot
spot_at text place = record { is_first = place == 0; is_last = place == length text }

-- whether a match leaves a repetition, given whether it enters the repetition and whether it leaves a round
abbrev pub passes : Quantifier → Bool → Bool → Bool
passes ZeroOrOne enters comes = enters || comes
passes ZeroOrMore enters comes = enters || comes
passes OneOrMore enters comes = comes

-- whether a match begins a round of a repetition, given whether it enters and whether it leaves a round
abbrev pub begins : Quantifier → Bool → Bool → Bool
begins ZeroOrOne enters comes = enters
begins ZeroOrMore enters comes = enters || comes
begins OneOrMore enters comes = enters || comes

-- the first mark, or false where there is none
abbrev pub first_mark : List Bool → Bool
first_mark [] = false
first_mark (mark ∷ marks) = mark

-- the marks behind the first one
abbrev pub other_marks : List Bool → List Bool
other_marks [] = []
other_marks (mark ∷ marks) = marks

-- the marks behind those of the tree
abbrev pub marks_behind : Tree → List Bool → List Bool
marks_behind empty marks = marks
marks_behind never marks = marks
marks_behind start marks = marks
marks_behind end marks = marks
marks_behind (one test) marks = other_marks marks
marks_behind (sequence first others) marks = marks_behind others (marks_behind first marks)
marks_behind (choice left right) marks = marks_behind right (marks_behind left marks)
marks_behind (repeat quantifier tree) marks = marks_behind tree marks

-- whether a match may leave the tree at a spot: it enters there and is empty, or it has come from a mark
abbrev pub leaves : Tree → Bool → Spot → List Bool → Bool
leaves empty enters spot marks = enters
leaves never enters spot marks = false
leaves start enters spot marks = enters && spot.is_first
leaves end enters spot marks = enters && spot.is_last
leaves (one test) enters spot marks = first_mark marks
leaves (sequence first others) enters spot marks = leaves others (leaves first enters spot marks) spot (marks_behind first marks)
leaves (choice left right) enters spot marks = leaves left enters spot marks || leaves right enters spot (marks_behind left marks)
leaves (repeat quantifier tree) enters spot marks = passes quantifier enters (leaves tree enters spot marks)

-- the marks of the tree behind one more byte
abbrev pub next_marks : Tree → Bool → Spot → ℕ → List Bool → List Bool
next_marks empty enters spot byte marks = []
next_marks never enters spot byte marks = []
next_marks start enters spot byte marks = []
next_marks end enters spot byte marks = []
next_marks (one test) enters spot byte marks = (enters && takes test byte) ∷ []
next_marks (sequence first others) enters spot byte marks =
    next_marks first enters spot byte marks ++ next_marks others (leaves first enters spot marks) spot byte (marks_behind first marks)
next_marks (choice left right) enters spot byte marks =
    next_marks left enters spot byte marks ++ next_marks right enters spot byte (marks_behind left marks)
next_marks (repeat quantifier tree) enters spot byte marks = next_marks tree (begins quantifier enters (leaves tree enters spot marks)) spot byte marks
