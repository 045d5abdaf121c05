-- Patterns in which `*` and `+` repeat only what cannot be empty. This project's choice: `EmptyRepeat`
-- refuses the others.
use Rattle.std.specs.Prelude.{Bool, true, ◌&&◌, not}
use Rattle.ct_regex.specs.Tree.{Tree, empty, never, start, end, one, sequence, choice, repeat}
use Rattle.ct_regex.specs.Reading.{can_be_empty}
use Rattle.ct_regex.specs.declared.tree.Quantifier.TheVariants.{ZeroOrOne, ZeroOrMore, OneOrMore}

-- whether `*` and `+` repeat only what cannot be empty
abbrev pub is_sound : Tree → Bool
is_sound empty = true
is_sound never = true
is_sound start = true
is_sound end = true
is_sound (one test) = true
is_sound (sequence first others) = is_sound first && is_sound others
is_sound (choice left right) = is_sound left && is_sound right
is_sound (repeat ZeroOrOne tree) = is_sound tree
is_sound (repeat ZeroOrMore tree) = not (can_be_empty tree) && is_sound tree
is_sound (repeat OneOrMore tree) = not (can_be_empty tree) && is_sound tree
