-- The tree that a node of the code stands for.
use Rattle.std.specs.Prelude.{ℕ, map, reverse}
use Rattle.ct_regex.specs.Signs.{Sign, atom, opens, closes, bar, often}
use Rattle.ct_regex.specs.Reading.{Last, no_part, bare, quantified, Group, Groups}
use Rattle.ct_regex.specs.declared.sign.Sign as sign_type
use Rattle.ct_regex.specs.declared.reader.Last as last_type
use Rattle.ct_regex.specs.declared.reader.Level.{Level}
use Rattle.ct_regex.specs.declared.reader.Reader.{Reader}
use Rattle.ct_regex.specs.Tree.{Test, any, same, inside, outside, Tree, start, end, one, sequence_of, branch_of, repeat}
use Rattle.ct_regex.specs.declared.tree.ByteTest.{ByteTest}
use Rattle.ct_regex.specs.declared.tree.ByteTest.TheVariants.{Any, Same, Inside, Outside}
use Rattle.ct_regex.specs.declared.tree.Node.{Node}
use Rattle.ct_regex.specs.declared.tree.Node.TheOpen.{Node-F}
use Rattle.ct_regex.specs.declared.tree.Node.TheFolds.{fold-Node}

-- the test that a `ByteTest` of the code stands for
abbrev pub byte_test : ByteTest → Test
byte_test Any = any
byte_test (Same byte) = same byte
byte_test (Inside spans) = inside spans.items
byte_test (Outside spans) = outside spans.items

-- the tree of one node, given the trees of its children
abbrev pub node_meaning : Node-F Tree → Tree
node_meaning Node-F.Start = start
node_meaning Node-F.End = end
node_meaning (Node-F.One test) = one (byte_test test)
node_meaning (Node-F.Sequence parts) = sequence_of parts.items
node_meaning (Node-F.Choice branches) = branch_of branches.items
node_meaning (Node-F.Repeat quantifier inner) = repeat quantifier inner.value

-- the tree of a node
abbrev pub meaning : Node → Tree
meaning = fold-Node Tree node_meaning

-- the sign that a `Sign` of the code stands for, at a place
abbrev pub sign_of : ℕ → sign_type.Sign → Sign
sign_of place (sign_type.TheVariants.Atom node) = atom (meaning node)
sign_of place sign_type.TheVariants.Opens = opens place
sign_of place sign_type.TheVariants.Closes = closes place
sign_of place sign_type.TheVariants.Bar = bar
sign_of place (sign_type.TheVariants.Often quantifier) = often quantifier place

-- the last part that a `Last` of the code stands for
abbrev pub last_of : last_type.Last → Last
last_of last_type.TheVariants.Nothing = no_part
last_of (last_type.TheVariants.Bare node) = bare (meaning node)
last_of (last_type.TheVariants.Quantified node) = quantified (meaning node)

-- the open group that a level of the reader stands for
abbrev pub group_of : Level → Group
group_of level = record {
  place = level.place;
  branches = map meaning level.branches.items;
  parts = map meaning level.parts.items;
  last = last_of level.last;
}

-- the open groups that a reader stands for
abbrev pub groups_of : Reader → Groups
groups_of reader = record { inner = group_of reader.level; outer = reverse (map group_of reader.outer.items) }
