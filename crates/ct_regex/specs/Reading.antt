-- What a pattern's text says: its tree, or its first fault from the left.
-- Source: CMake manual, string(REGEX), Regex Specification; the faults are this project's.
use Rattle.std.specs.Prelude.{ℕ, nat_lt, Bool, true, false, ◌&&◌, ◌||◌, not, List, [], ◌∷◌, ◌++◌, length, Result, Ok, Err, if◌then◌else◌}
use Rattle.ct_regex.specs.Limits.{most_pattern_bytes, most_open_groups}
use Rattle.ct_regex.specs.Tree.{Tree, empty, never, start, end, one, sequence, choice, repeat, sequence_of, branch_of}
use Rattle.ct_regex.specs.Signs.{Sign, atom, opens, closes, bar, often, fault, signs}
use Rattle.ct_regex.specs.declared.tree.Quantifier.{Quantifier}
use Rattle.ct_regex.specs.declared.tree.Quantifier.TheVariants.{ZeroOrOne, ZeroOrMore, OneOrMore}
use Rattle.ct_regex.specs.declared.fault.RegexFault.{RegexFault}
use Rattle.ct_regex.specs.declared.fault.RegexFault.TheVariants.{OpenGroup, StrayClose, NothingToRepeat, EmptyRepeat, NestedRepeat, TooLarge}

-- whether the tree can match the empty text, by the rule for a `*` or `+` behind it
abbrev pub can_be_empty : Tree → Bool
can_be_empty empty = true
can_be_empty never = false
can_be_empty start = true
can_be_empty end = true
can_be_empty (one test) = false
can_be_empty (sequence first others) = can_be_empty first && can_be_empty others
can_be_empty (choice left right) = can_be_empty left || can_be_empty right
can_be_empty (repeat ZeroOrOne tree) = true
can_be_empty (repeat ZeroOrMore tree) = true
can_be_empty (repeat OneOrMore tree) = false

-- the last part of a branch: none yet, one without a quantifier, or one with
pub data Last : Type 0 where
  no_part : Last
  bare : Tree → Last
  quantified : Tree → Last

-- A group that is open: the place of its `(`, its branches in front of the last one,
-- the parts of the last branch in front of its last part, and that last part.
-- The whole pattern counts as the outermost group.
pub record Group : Type 0 where
  pub place : ℕ
  pub branches : List Tree
  pub parts : List Tree
  pub last : Last

-- the group that opens at a place
abbrev pub opened_at : ℕ → Group
opened_at place = record { place = place; branches = []; parts = []; last = no_part }

-- the last part as a list, empty where there is none
abbrev pub last_parts : Last → List Tree
last_parts no_part = []
last_parts (bare tree) = tree ∷ []
last_parts (quantified tree) = tree ∷ []

-- all parts of the last branch of a group
abbrev pub all_parts : Group → List Tree
all_parts group = group.parts ++ last_parts group.last

-- the group with one more atom at its end
abbrev pub with_atom : Tree → Group → Group
with_atom tree group = record {
  place = group.place;
  branches = group.branches;
  parts = all_parts group;
  last = bare tree;
}

-- the group with its last branch ended
abbrev pub with_branch : Group → Group
with_branch group = record {
  place = group.place;
  branches = group.branches ++ sequence_of (all_parts group) ∷ [];
  parts = [];
  last = no_part;
}

-- the tree of a group that is closed
abbrev pub closed : Group → Tree
closed group = branch_of (group.branches ++ sequence_of (all_parts group) ∷ [])

-- whether the quantifier may repeat the tree: `*` and `+` repeat only what cannot be empty
abbrev pub may_repeat : Quantifier → Tree → Bool
may_repeat ZeroOrOne tree = true
may_repeat ZeroOrMore tree = not (can_be_empty tree)
may_repeat OneOrMore tree = not (can_be_empty tree)

-- the group behind a quantifier at a place, which repeats the last part of the group; or the fault
abbrev pub with_quantifier : Quantifier → ℕ → Group → Last → Result Group RegexFault
with_quantifier quantifier place group no_part = Err (NothingToRepeat place)
with_quantifier quantifier place group (quantified tree) = Err (NestedRepeat place)
with_quantifier quantifier place group (bare tree) =
    if may_repeat quantifier tree
    then Ok
    (record {
      place = group.place;
      branches = group.branches;
      parts = group.parts;
      last = quantified (repeat quantifier tree);
    })
    else Err (EmptyRepeat place)

-- the innermost open group, and the groups around it from the inside out
pub record Groups : Type 0 where
  pub inner : Group
  pub outer : List Group

-- the answer with a function applied to its value; a fault stays
abbrev pub map_ok : {X Y : Type 0} → (X → Y) → Result X RegexFault → Result Y RegexFault
map_ok f (Ok x) = Ok (f x)
map_ok f (Err e) = Err e

-- the groups behind a `(`, or the fault; at most `most_open_groups` groups may be open at once
abbrev pub with_group : ℕ → Groups → Result Groups RegexFault
with_group place groups =
    if nat_lt (length groups.outer) most_open_groups
    then Ok (record { inner = opened_at place; outer = groups.inner ∷ groups.outer })
    else Err (TooLarge place)

-- the groups behind a `)`: the innermost one becomes an atom of the one around it; or the fault
abbrev pub with_close : ℕ → Group → List Group → Result Groups RegexFault
with_close place group [] = Err (StrayClose place)
with_close place group (around ∷ outer) =
    Ok (record { inner = with_atom (closed group) around; outer = outer })

-- the groups behind one more sign, or the fault
abbrev pub with_sign : Groups → Sign → Result Groups RegexFault
with_sign groups (atom tree) = Ok (record { inner = with_atom tree groups.inner; outer = groups.outer })
with_sign groups bar = Ok (record { inner = with_branch groups.inner; outer = groups.outer })
with_sign groups (opens place) = with_group place groups
with_sign groups (closes place) = with_close place groups.inner groups.outer
with_sign groups (often quantifier place) =
    map_ok (λ group.
    record { inner = group; outer = groups.outer })
    (with_quantifier quantifier place groups.inner groups.inner.last)
with_sign groups (fault why) = Err why

-- the tree at the end of the text, or the fault where a group is still open
abbrev pub at_end : Group → List Group → Result Tree RegexFault
at_end group [] = Ok (closed group)
at_end group (around ∷ outer) = Err (OpenGroup group.place)

-- continues with the value of the answer, or returns its fault
abbrev pub and_then : {X Y : Type 0} → Result X RegexFault → (X → Result Y RegexFault) → Result Y RegexFault
and_then (Ok x) f = f x
and_then (Err e) f = Err e

-- the tree of the open groups and the signs that follow, or the first fault
abbrev pub read : Groups → List Sign → Result Tree RegexFault
read groups [] = at_end groups.inner groups.outer
read groups (sign ∷ others) = and_then (with_sign groups sign) (λ next. read next others)

-- the tree of a pattern's text, or its first fault from the left
abbrev pub reading : List ℕ → Result Tree RegexFault
reading text =
    if nat_lt most_pattern_bytes (length text) then Err (TooLarge most_pattern_bytes)
    else read (record { inner = opened_at 0; outer = [] }) (signs 0 text)
