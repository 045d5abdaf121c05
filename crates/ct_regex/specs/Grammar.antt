-- How a pattern is written, apart from how it is read.
-- Source: CMake manual, string(REGEX), Regex Specification.
use Rattle.std.specs.Prelude.{◌≡◌, ◌⊎◌, ◌≤◌, ℕ, ◌==◌, Bool, true, false, not, List, [], ◌∷◌, ◌++◌}
use Rattle.ct_regex.specs.Bytes.{caret, dollar, dot, open_group, close_group, upright, star, plus, question, escaping_byte, open_set, close_set, dash}
use Rattle.ct_regex.specs.Tree.{any, same, inside, outside, Tree, start, end, one, repeat, sequence_of, branch_of}
use Rattle.ct_regex.specs.Signs.{begins_negated, is_range}
use Rattle.ct_regex.specs.Ends.{hits}
use Rattle.ct_regex.specs.Laws.{stands_for_itself}
use Rattle.ct_regex.specs.declared.tree.Span.{Span}
use Rattle.ct_regex.specs.declared.tree.Quantifier.{Quantifier}
use Rattle.ct_regex.specs.declared.tree.Quantifier.TheVariants.{ZeroOrOne, ZeroOrMore, OneOrMore}

-- the byte may begin an item of a set; a `]` begins only the first item
abbrev pub MayBegin : Bool → ℕ → Type 0
MayBegin first byte = (first ≡ true) ⊎ ((byte == close_set) ≡ false)

-- The items of a set and its `]`. An item is a range wherever it can be, and the first item of a set may
-- begin with a `]`.
pub data IsItems : Bool → List ℕ → List Span → Type 0 where
  closes : IsItems false (close_set ∷ []) []
  range : {first : Bool} {text : List ℕ} {items : List Span} (low high : ℕ) → MayBegin first low →
      (high == close_set) ≡ false → low ≤ high →
      IsItems false text items →
      IsItems first (low ∷ dash ∷ high ∷ text) (record { low = low; high = high } ∷ items)
  byte : {first : Bool} {text : List ℕ} {items : List Span} (low : ℕ) →
      MayBegin first low → is_range text ≡ false →
      IsItems false text items → IsItems first (low ∷ text) (record { low = low; high = low } ∷ items)

-- an atom that is no group: `^`, `$`, `.`, a byte without special meaning, `\c`, `[..]`, `[^..]`
pub data IsOne : List ℕ → Tree → Type 0 where
  at_start : IsOne (caret ∷ []) start
  at_end : IsOne (dollar ∷ []) end
  any_byte : IsOne (dot ∷ []) (one any)
  plain : (byte : ℕ) → stands_for_itself byte ≡ true → IsOne (byte ∷ []) (one (same byte))
  escaped : (byte : ℕ) → IsOne (escaping_byte ∷ byte ∷ []) (one (same byte))
  of_set : {text : List ℕ} {items : List Span} → begins_negated text ≡ false → IsItems true text items →
      IsOne (open_set ∷ text) (one (inside items))
  of_negated : {text : List ℕ} {items : List Span} → IsItems true text items →
      IsOne (open_set ∷ caret ∷ text) (one (outside items))

-- `?` may stand behind each atom, `*` and `+` behind each atom that does not match the empty text
abbrev pub may_stand_behind : Quantifier → Tree → Bool
may_stand_behind ZeroOrOne tree = true
may_stand_behind ZeroOrMore tree = not (hits tree [])
may_stand_behind OneOrMore tree = not (hits tree [])

-- the byte that writes a quantifier
abbrev pub byte_of : Quantifier → ℕ
byte_of ZeroOrOne = question
byte_of ZeroOrMore = star
byte_of OneOrMore = plus

mutual
  -- a whole pattern, or the inside of a group: branches with a bar between each two
  pub data IsPattern : List ℕ → Tree → Type 0 where
    pattern : {front text : List ℕ} {trees parts : List Tree} → IsBranches front trees → IsBranch text parts →
        IsPattern (front ++ text) (branch_of (trees ++ sequence_of parts ∷ []))

  -- branches, each with a bar behind it
  pub data IsBranches : List ℕ → List Tree → Type 0 where
    no_branch : IsBranches [] []
    and_branch : {front text : List ℕ} {trees parts : List Tree} → IsBranches front trees →
        IsBranch text parts →
        IsBranches (front ++ (text ++ upright ∷ [])) (trees ++ sequence_of parts ∷ [])

  -- parts, one directly behind the other
  pub data IsBranch : List ℕ → List Tree → Type 0 where
    no_part : IsBranch [] []
    and_part : {front text : List ℕ} {trees : List Tree} {tree : Tree} → IsBranch front trees →
        IsPart text tree →
        IsBranch (front ++ text) (trees ++ tree ∷ [])

  -- an atom, or an atom with a quantifier that may stand behind it
  pub data IsPart : List ℕ → Tree → Type 0 where
    bare : {text : List ℕ} {tree : Tree} → IsAtom text tree → IsPart text tree
    often : {text : List ℕ} {tree : Tree} (quantifier : Quantifier) → IsAtom text tree →
        may_stand_behind quantifier tree ≡ true →
        IsPart (text ++ byte_of quantifier ∷ []) (repeat quantifier tree)

  -- one atom: an atom that is no group, or a pattern between `(` and `)`
  pub data IsAtom : List ℕ → Tree → Type 0 where
    alone : {text : List ℕ} {tree : Tree} → IsOne text tree → IsAtom text tree
    group : {text : List ℕ} {tree : Tree} → IsPattern text tree →
        IsAtom (open_group ∷ text ++ close_group ∷ []) tree
