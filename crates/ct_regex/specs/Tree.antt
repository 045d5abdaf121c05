-- A pattern as a tree: CMake manual, string(REGEX), Regex Specification.
use Rattle.std.specs.Prelude.{ℕ, Bool, true, ◌&&◌, not, ◌==◌, nat_le, List, [], ◌∷◌}
use Rattle.std.specs.List.{list_any}
use Rattle.ct_regex.specs.declared.tree.Span.{Span}
use Rattle.ct_regex.specs.declared.tree.Quantifier.{Quantifier}

-- which bytes an atom takes: any byte, that byte alone, the bytes of a set, or the bytes outside a set
pub data Test : Type 0 where
  any : Test
  same : ℕ → Test
  inside : List Span → Test
  outside : List Span → Test

-- a pattern: the empty text, no text at all, `^`, `$`, one byte, two parts one behind the other,
-- one of two parts, or a part that is repeated
pub data Tree : Type 0 where
  empty : Tree
  never : Tree
  start : Tree
  end : Tree
  one : Test → Tree
  sequence : Tree → Tree → Tree
  choice : Tree → Tree → Tree
  repeat : Quantifier → Tree → Tree

-- whether one of the spans has the byte
abbrev pub has_byte : List Span → ℕ → Bool
has_byte spans byte = list_any (λ (span : Span). nat_le span.low byte && nat_le byte span.high) spans

-- whether the test takes the byte
abbrev pub takes : Test → ℕ → Bool
takes any byte = true
takes (same wanted) byte = byte == wanted
takes (inside spans) byte = has_byte spans byte
takes (outside spans) byte = not (has_byte spans byte)

-- the trees one behind the other; without trees, the empty text
abbrev pub sequence_of : List Tree → Tree
sequence_of [] = empty
sequence_of (tree ∷ trees) = sequence tree (sequence_of trees)

-- one of the trees; without trees, a pattern that matches nothing
abbrev pub branch_of : List Tree → Tree
branch_of [] = never
branch_of (tree ∷ trees) = choice tree (branch_of trees)
