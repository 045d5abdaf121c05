-- The walk of a scan over a pattern, once for each byte. Internal to the matcher.
-- Of the promises, only what a scan stands for (Scan.antt) is stated by it.
-- Ends.antt defines what a match is.
use Rattle.std.specs.Prelude.{ℕ, ◌+◌, Bool, true, false, ◌&&◌, ◌||◌, List, [], ◌∷◌, ◌++◌, length, slice_index_or, slice_set}
use Rattle.ct_regex.specs.Tree.{Test, any, same, takes, Tree, empty, never, start, end, one, sequence, choice, repeat}
use Rattle.ct_regex.specs.Meaning.{byte_test}
use Rattle.ct_regex.specs.declared.tree.Quantifier.TheVariants.{ZeroOrOne, ZeroOrMore, OneOrMore}
use Rattle.ct_regex.specs.declared.walk.Flow.{Flow}
use Rattle.ct_regex.specs.declared.walk.Branches.{Branches}
use Rattle.ct_regex.specs.declared.walk.Step as step_type

-- one step of a walk, with the place of its mark
pub data Step : Type 0 where
  at_start : ℕ → Step
  at_end : Step
  of_one : ℕ → Test → Step
  fork : Step
  maybe : Step
  or_else : Step
  join : Step
  loop : ℕ → Step
  back : ℕ → Step

-- the step that a `Step` of the code stands for
abbrev pub step_of : step_type.Step → Step
step_of (step_type.TheVariants.Start at) = at_start at
step_of step_type.TheVariants.End = at_end
step_of (step_type.TheVariants.Any at) = of_one at any
step_of (step_type.TheVariants.Same at byte) = of_one at (same byte)
step_of (step_type.TheVariants.Tested at test) = of_one at (byte_test test)
step_of step_type.TheVariants.Fork = fork
step_of step_type.TheVariants.Maybe = maybe
step_of step_type.TheVariants.Or = or_else
step_of step_type.TheVariants.Join = join
step_of (step_type.TheVariants.Loop at) = loop at
step_of (step_type.TheVariants.Back at) = back at

-- two flows together: a match has come if it came by either of them
abbrev pub merged : Flow → Flow → Flow
merged left right = record {
  now = left.now || right.now;
  next = left.next || right.next;
  last = left.last || right.last;
}

-- the flow by which no match has come
abbrev pub no_flow : Flow
no_flow = record { now = false; next = false; last = false }

-- the flow in front of a pattern: a match begins at each place
abbrev pub all_flow : Flow
all_flow = record { now = true; next = true; last = true }

-- the state of a walk: the flow so far, the open choices from the inside out, and the marks
pub record Walk : Type 0 where
  pub flow : Flow
  pub opened : List Branches
  pub marks : List Bool

-- the flow that enters each branch of the innermost choice
abbrev pub entered : List Branches → Flow
entered [] = no_flow
entered (branches ∷ others) = branches.entered

-- the flow that has left the branches of the innermost choice
abbrev pub left_of : List Branches → Flow
left_of [] = no_flow
left_of (branches ∷ others) = branches.left

-- the open choices around the innermost one
abbrev pub around : List Branches → List Branches
around [] = []
around (branches ∷ others) = others

-- the open choices, once a flow has left a branch of the innermost one
abbrev pub with_left : Flow → List Branches → List Branches
with_left flow [] = []
with_left flow (branches ∷ others) =
    record { entered = branches.entered; left = merged branches.left flow } ∷ others

-- the flow behind an atom of one byte: what its mark says, and whether the byte was taken
abbrev pub behind_one : Bool → Bool → Flow
behind_one came comes = record { now = came; next = comes; last = comes }

-- the walk after one more step
abbrev pub behind_step : Step → ℕ → Walk → Walk
behind_step (at_start at) byte walk = record {
  flow = record { now = walk.flow.now && slice_index_or walk.marks at false; next = false; last = false };
  opened = walk.opened;
  marks = slice_set walk.marks at false;
}
behind_step at_end byte walk = record {
  flow = record { now = false; next = false; last = walk.flow.last };
  opened = walk.opened;
  marks = walk.marks;
}
behind_step (of_one at test) byte walk = record {
  flow = behind_one (slice_index_or walk.marks at false) (walk.flow.now && takes test byte);
  opened = walk.opened;
  marks = slice_set walk.marks at (walk.flow.now && takes test byte);
}
behind_step fork byte walk = record {
  flow = walk.flow;
  opened = record { entered = walk.flow; left = no_flow } ∷ walk.opened;
  marks = walk.marks;
}
behind_step maybe byte walk = record {
  flow = walk.flow;
  opened = record { entered = walk.flow; left = walk.flow } ∷ walk.opened;
  marks = walk.marks;
}
behind_step or_else byte walk = record {
  flow = entered walk.opened;
  opened = with_left walk.flow walk.opened;
  marks = walk.marks;
}
behind_step join byte walk = record {
  flow = left_of walk.opened;
  opened = around walk.opened;
  marks = walk.marks;
}
behind_step (loop at) byte walk = record {
  flow =
      record {
        now = walk.flow.now || slice_index_or walk.marks at false;
        next = walk.flow.next;
        last = walk.flow.last;
      };
  opened = walk.opened;
  marks = walk.marks;
}
behind_step (back at) byte walk = record {
  flow = walk.flow;
  opened = walk.opened;
  marks = slice_set walk.marks at walk.flow.next;
}

-- the walk after these steps
abbrev pub walked : List Step → ℕ → Walk → Walk
walked [] byte walk = walk
walked (first ∷ others) byte walk = walked others byte (behind_step first byte walk)

-- the marks of a pattern before the first byte
abbrev pub no_marks : Tree → List Bool
no_marks empty = []
no_marks never = []
no_marks start = true ∷ []
no_marks end = []
no_marks (one test) = false ∷ []
no_marks (sequence first others) = no_marks first ++ no_marks others
no_marks (choice left right) = no_marks left ++ no_marks right
no_marks (repeat ZeroOrOne tree) = no_marks tree
no_marks (repeat ZeroOrMore tree) = false ∷ no_marks tree
no_marks (repeat OneOrMore tree) = false ∷ no_marks tree

-- whether the tree matches nothing, since it is a choice without branches
abbrev pub is_never : Tree → Bool
is_never never = true
is_never empty = false
is_never start = false
is_never end = false
is_never (one test) = false
is_never (sequence first others) = false
is_never (choice left right) = false
is_never (repeat quantifier tree) = false

-- the steps of a part; as the last branch of an open choice, it also ends the branch and the choice
abbrev pub branch : Bool → List Step → List Step
branch false steps = steps
branch true steps = steps ++ (or_else ∷ join ∷ [])

-- the steps of a choice, given those of its first branch and of the others;
-- a choice of one branch has the steps of that branch
abbrev pub choice_steps : Bool → Bool → List Step → List Step → List Step
choice_steps true is_only first others = first ++ (or_else ∷ others)
choice_steps false true first others = first
choice_steps false false first others = fork ∷ first ++ (or_else ∷ others)

-- the steps of a repeated part, whose mark stands at a place
abbrev pub rounds_of : ℕ → List Step → List Step
rounds_of at steps = loop at ∷ steps ++ (back at ∷ [])

-- The steps of a pattern whose marks stand from a place on, or of the last branches of an open choice.
abbrev pub steps_of : Bool → ℕ → Tree → List Step
steps_of is_branch at empty = branch is_branch []
steps_of true at never = join ∷ []
steps_of false at never = fork ∷ join ∷ []
steps_of is_branch at start = branch is_branch (at_start at ∷ [])
steps_of is_branch at end = branch is_branch (at_end ∷ [])
steps_of is_branch at (one test) = branch is_branch (of_one at test ∷ [])
steps_of is_branch at (sequence first others) =
    branch is_branch (steps_of false at first ++ steps_of false (at + length (no_marks first)) others)
steps_of is_branch at (choice left right) =
    choice_steps is_branch (is_never right) (steps_of false at left)
    (steps_of true (at + length (no_marks left)) right)
steps_of is_branch at (repeat ZeroOrOne tree) =
    branch is_branch (maybe ∷ branch true (steps_of false at tree))
steps_of is_branch at (repeat ZeroOrMore tree) =
    branch is_branch (maybe ∷ branch true (rounds_of at (steps_of false (at + 1) tree)))
steps_of is_branch at (repeat OneOrMore tree) = branch is_branch (rounds_of at (steps_of false (at + 1) tree))
