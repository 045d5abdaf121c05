-- Which texts are no patterns, and why, apart from how they are read.
-- Source: CMake manual, string(REGEX), Regex Specification; faults and limits are this project's choice.
use Rattle.std.specs.Prelude.{◌≡◌, ◌<◌, ◌≤◌, ℕ, ◌+◌, ◌==◌, Bool, true, false, List, [], ◌∷◌, ◌++◌, length, Result, Ok, Err}
use Rattle.ct_regex.specs.Bytes.{open_group, close_group, upright, escaping_byte, open_set, close_set, caret, dash}
use Rattle.ct_regex.specs.Limits.{most_pattern_bytes, most_open_groups}
use Rattle.ct_regex.specs.Tree.{Tree}
use Rattle.ct_regex.specs.Signs.{begins_negated, is_range}
use Rattle.ct_regex.specs.Grammar.{MayBegin, IsOne, IsPattern, byte_of, may_stand_behind}
use Rattle.ct_regex.specs.declared.tree.Quantifier.{Quantifier}
use Rattle.ct_regex.specs.declared.fault.RegexFault.{RegexFault}
use Rattle.ct_regex.specs.declared.fault.RegexFault.TheVariants.{OpenGroup, StrayClose, OpenSet, BadRange, NothingToRepeat, EmptyRepeat, NestedRepeat, EndsInBackslash, TooLarge, NoMemory}

-- what the beginning of a pattern ends with: no part of the branch, an atom, or an atom and its quantifier
pub data PartEnd : Type 0 where
  nothing : PartEnd
  alone : Tree → PartEnd
  repeated : PartEnd

-- the beginning of a pattern in which at most `most_open_groups` groups are open at once, with the places of
-- the `(` that are open, the last one first, and its end
pub data IsBegun : List ℕ → List ℕ → PartEnd → Type 0 where
  empty : IsBegun [] [] nothing
  and_one : {front text opened : List ℕ} {last : PartEnd} {tree : Tree} →
      IsBegun front opened last → IsOne text tree → IsBegun (front ++ text) opened (alone tree)
  and_often : {front opened : List ℕ} {tree : Tree} (quantifier : Quantifier) →
      IsBegun front opened (alone tree) → may_stand_behind quantifier tree ≡ true →
      IsBegun (front ++ byte_of quantifier ∷ []) opened repeated
  and_bar : {front opened : List ℕ} {last : PartEnd} →
      IsBegun front opened last → IsBegun (front ++ upright ∷ []) opened nothing
  and_open : {front opened : List ℕ} {last : PartEnd} →
      IsBegun front opened last → length opened < most_open_groups →
      IsBegun (front ++ open_group ∷ []) (length front ∷ opened) nothing
  and_close : (front : List ℕ) {text opened : List ℕ} {last : PartEnd} {tree : Tree} →
      IsBegun (front ++ open_group ∷ text) (length front ∷ opened) last → IsPattern text tree →
      IsBegun ((front ++ open_group ∷ text) ++ close_group ∷ []) opened (alone tree)

-- the items of a set that has no `]`
pub data IsOpenSet : Bool → List ℕ → Type 0 where
  at_end : {first : Bool} → IsOpenSet first []
  range : {first : Bool} {text : List ℕ} (low high : ℕ) → MayBegin first low →
      (high == close_set) ≡ false → low ≤ high → IsOpenSet false text →
      IsOpenSet first (low ∷ dash ∷ high ∷ text)
  byte : {first : Bool} {text : List ℕ} (low : ℕ) → MayBegin first low →
      is_range text ≡ false → IsOpenSet false text → IsOpenSet first (low ∷ text)

-- the items of a set, and behind them a range that ends below its begin
pub data IsBrokenSet : Bool → List ℕ → List ℕ → Type 0 where
  below : {first : Bool} {back : List ℕ} (low high : ℕ) → MayBegin first low →
      (high == close_set) ≡ false → high < low → IsBrokenSet first [] (low ∷ dash ∷ high ∷ back)
  range : {first : Bool} {text back : List ℕ} (low high : ℕ) → MayBegin first low →
      (high == close_set) ≡ false → low ≤ high → IsBrokenSet false text back →
      IsBrokenSet first (low ∷ dash ∷ high ∷ text) back
  byte : {first : Bool} {text back : List ℕ} (low : ℕ) → MayBegin first low →
      is_range (text ++ back) ≡ false → IsBrokenSet false text back → IsBrokenSet first (low ∷ text) back

-- the fault of the text that stands first from the left, found behind a beginning of it
pub data HasFault : List ℕ → RegexFault → Type 0 where
  too_deep : {front opened : List ℕ} {last : PartEnd} (back : List ℕ) →
      IsBegun front opened last → most_open_groups ≤ length opened →
      HasFault (front ++ open_group ∷ back) (TooLarge (length front))
  stray_close : {front : List ℕ} {last : PartEnd} (back : List ℕ) →
      IsBegun front [] last → HasFault (front ++ close_group ∷ back) (StrayClose (length front))
  not_closed : {text opened : List ℕ} {last : PartEnd} (place : ℕ) →
      IsBegun text (place ∷ opened) last → HasFault text (OpenGroup place)
  nothing_to_repeat : {front opened : List ℕ} (quantifier : Quantifier) (back : List ℕ) →
      IsBegun front opened nothing →
      HasFault (front ++ byte_of quantifier ∷ back) (NothingToRepeat (length front))
  nested_repeat : {front opened : List ℕ} (quantifier : Quantifier) (back : List ℕ) →
      IsBegun front opened repeated →
      HasFault (front ++ byte_of quantifier ∷ back) (NestedRepeat (length front))
  empty_repeat : {front opened : List ℕ} {tree : Tree} (quantifier : Quantifier) (back : List ℕ) →
      IsBegun front opened (alone tree) → may_stand_behind quantifier tree ≡ false →
      HasFault (front ++ byte_of quantifier ∷ back) (EmptyRepeat (length front))
  ends_in_backslash : {front opened : List ℕ} {last : PartEnd} →
      IsBegun front opened last → HasFault (front ++ escaping_byte ∷ []) (EndsInBackslash (length front))
  set_not_closed : {front text opened : List ℕ} {last : PartEnd} →
      IsBegun front opened last → begins_negated text ≡ false → IsOpenSet true text →
      HasFault (front ++ open_set ∷ text) (OpenSet (length front))
  negated_not_closed : {front text opened : List ℕ} {last : PartEnd} →
      IsBegun front opened last → IsOpenSet true text →
      HasFault (front ++ open_set ∷ caret ∷ text) (OpenSet (length front))
  bad_range : {front text back opened : List ℕ} {last : PartEnd} →
      IsBegun front opened last → begins_negated (text ++ back) ≡ false → IsBrokenSet true text back →
      HasFault (front ++ open_set ∷ (text ++ back)) (BadRange (length front + 1 + length text))
  bad_negated : {front text back opened : List ℕ} {last : PartEnd} →
      IsBegun front opened last → IsBrokenSet true text back →
      HasFault (front ++ open_set ∷ caret ∷ (text ++ back)) (BadRange (length front + 2 + length text))

-- the text is refused for this fault: it has too many bytes, or else it is the first from the left
pub data IsFaulty : List ℕ → RegexFault → Type 0 where
  too_long : {text : List ℕ} → most_pattern_bytes < length text → IsFaulty text (TooLarge most_pattern_bytes)
  behind_begin : {text : List ℕ} {why : RegexFault} →
      length text ≤ most_pattern_bytes → HasFault text why → IsFaulty text why

-- a refusal is the fault that the text has by the grammar; NoMemory says nothing
abbrev pub RefusesFault : {X : Type 0} → List ℕ → Result X RegexFault → Type 0
RefusesFault text (Ok x) = Unit {0}
RefusesFault text (Err NoMemory) = Unit {0}
RefusesFault text (Err why) = IsFaulty text why

-- the call refused the text for this fault, or memory was wanting
abbrev pub IsRefusedWith : {X : Type 0} → RegexFault → Result X RegexFault → Type 0
IsRefusedWith why (Ok x) = ⊥
IsRefusedWith why (Err NoMemory) = Unit {0}
IsRefusedWith why (Err other) = other ≡ why

-- the text was refused with each fault that it has, so it has one at most; NoMemory says nothing
abbrev pub IsSoleAnswer : {X : Type 0} → List ℕ → Result X RegexFault → Type 0
IsSoleAnswer text answer = (why : RegexFault) → IsFaulty text why → IsRefusedWith why answer
