-- The signs of a pattern, from the left: CMake manual, string(REGEX), Regex Specification.
use Rattle.std.specs.Prelude.{ℕ, zero, suc, ◌+◌, ◌==◌, nat_lt, Bool, true, false, ◌&&◌, not, List, [], ◌∷◌, ◌++◌, if◌then◌else◌}
use Rattle.ct_regex.specs.Bytes.{caret, dollar, dot, open_group, close_group, upright, star, plus, question, escaping_byte, open_set, close_set, dash}
use Rattle.ct_regex.specs.Tree.{Test, any, same, inside, outside, Tree, start, end, one}
use Rattle.ct_regex.specs.declared.tree.Span.{Span}
use Rattle.ct_regex.specs.declared.tree.Quantifier.{Quantifier}
use Rattle.ct_regex.specs.declared.tree.Quantifier.TheVariants.{ZeroOrOne, ZeroOrMore, OneOrMore}
use Rattle.ct_regex.specs.declared.fault.RegexFault.{RegexFault}
use Rattle.ct_regex.specs.declared.fault.RegexFault.TheVariants.{OpenSet, BadRange, EndsInBackslash}

-- A sign, with its place where a fault may name it. Behind a fault nothing is read.
pub data Sign : Type 0 where
  atom : Tree → Sign
  opens : ℕ → Sign
  closes : ℕ → Sign
  bar : Sign
  often : Quantifier → ℕ → Sign
  fault : RegexFault → Sign

-- the sign of a single byte: `^ $ . ( ) | * + ?` have a meaning, any other byte stands for itself
abbrev pub plain_sign : ℕ → ℕ → Sign
plain_sign place byte =
    if byte == caret then atom start
    else if byte == dollar then atom end
    else if byte == dot then atom (one any)
    else if byte == open_group then opens place
    else if byte == close_group then closes place
    else if byte == upright then bar
    else if byte == star then often ZeroOrMore place
    else if byte == plus then often OneOrMore place
    else if byte == question then often ZeroOrOne place
    else atom (one (same byte))

-- whether the text begins with `^`
abbrev pub begins_negated : List ℕ → Bool
begins_negated [] = false
begins_negated (byte ∷ rest) = byte == caret

-- whether a `-` and a byte other than `]` follow the first byte of an item
abbrev pub is_range : List ℕ → Bool
is_range [] = false
is_range (byte ∷ []) = false
is_range (byte ∷ high ∷ rest) = (byte == dash) && not (high == close_set)

-- the second byte, or 0 where there is none
abbrev pub second : List ℕ → ℕ
second [] = 0
second (byte ∷ []) = 0
second (byte ∷ next ∷ rest) = next

-- the last byte of the item that begins with the byte `low`
abbrev pub item_high : ℕ → List ℕ → ℕ
item_high low rest = if is_range rest then second rest else low

-- whether the list has no item yet
abbrev pub is_none : List Span → Bool
is_none [] = true
is_none (span ∷ spans) = false

-- the set of these items, or of the bytes outside them if it is negated
abbrev pub set_of : Bool → List Span → Test
set_of negated spans = if negated then outside spans else inside spans

-- the signs of a pattern, read outside a set, behind a backslash, and inside a set
abbrev mutual
  -- the signs from a place on
  pub signs : ℕ → List ℕ → List Sign
  signs place [] = []
  signs place (byte ∷ rest) =
      if byte
      == open_set then set_signs place (begins_negated rest) (if begins_negated rest then 1 else 0)
      (place + 1) [] rest
      else if byte == escaping_byte then escaped place rest
      else plain_sign place byte ∷ signs (place + 1) rest

  -- the signs behind the backslash at a place: the byte behind it stands for itself
  pub escaped : ℕ → List ℕ → List Sign
  escaped place [] = fault (EndsInBackslash place) ∷ []
  escaped place (byte ∷ rest) = atom (one (same byte)) ∷ signs (place + 2) rest

  -- The signs inside the set that opens at a place, behind the items so far.
  -- A `]` that is not the first byte ends the set, and any other byte begins an item.
  -- The first `skip` bytes are already read.
  pub set_signs : ℕ → Bool → ℕ → ℕ → List Span → List ℕ → List Sign
  set_signs opened negated skip place items [] = fault (OpenSet opened) ∷ []
  set_signs opened negated (suc skip) place items (byte ∷ rest) =
      set_signs opened negated skip (place + 1) items rest
  set_signs opened negated zero place items (byte ∷ rest) =
      if (byte == close_set)
      && not (is_none items) then atom (one (set_of negated items)) ∷ signs (place + 1) rest
      else if nat_lt (item_high byte rest) byte then fault (BadRange place) ∷ []
      else set_signs opened negated (if is_range rest then 2 else 0) (place + 1)
      (items ++ record { low = byte; high = item_high byte rest } ∷ []) rest
