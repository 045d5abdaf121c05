-- Places in lines: which places have a member, and the head of each line,
-- which is its first member. Then lines in bunches. This project's own.
use Rattle.std.specs.Prelude.{◌≡◌, ℕ, ◌<◌, ◌≤◌, Bool, true, false, List, length, replicate, slice_index, slice_set}
use Rattle.std.specs.List.{range_with_len}
use Rattle.ct_queue.specs.Marks.{is_marked}

-- the line of each place, and whether the place has a member
pub record MembersValue : Type 0 where
  pub lines : List ℕ
  pub members : List Bool

-- the number of each line is less than the number of places
abbrev pub AreNumbered : List ℕ → Type 0
AreNumbered lines = (place : ℕ) → place < length lines → slice_index lines place < length lines

-- this many places, each in a line of its own
abbrev pub own_lines : ℕ → List ℕ
own_lines places = range_with_len 0 places

-- a head is at the place: a member, and no earlier place of its line has a member
pub record IsHeadOf (lines : List ℕ) (is_member : ℕ → Bool) (place : ℕ) : Type 0 where
  pub member : is_member place ≡ true
  pub first : (other : ℕ) → other < place → slice_index lines other ≡ slice_index lines place
      → is_member other ≡ false

-- a head of these lines is at the place
abbrev pub IsHeadIn : MembersValue → ℕ → Type 0
IsHeadIn value place = IsHeadOf value.lines (is_marked value.members) place

-- no place from `from` on has a head
abbrev pub NoHeadFrom : MembersValue → ℕ → Type 0
NoHeadFrom value from = (place : ℕ) → from ≤ place → IsHeadIn value place → ⊥

-- the least place from `from` on that has a head
pub record IsLeastHeadFrom (value : MembersValue) (from found : ℕ) : Type 0 where
  pub from_there : from ≤ found
  pub head : IsHeadIn value found
  pub least : (place : ℕ) → from ≤ place → place < found → IsHeadIn value place → ⊥

-- these lines without a member
abbrev pub none_in : List ℕ → MembersValue
none_in lines = record { lines = lines; members = replicate (length lines) false }

-- the same lines, but for whether the place has a member
abbrev pub with_member : MembersValue → ℕ → Bool → MembersValue
with_member value place member = record {
  lines = value.lines;
  members = slice_set value.members place member;
}

-- the line has no member
abbrev pub NoneOfLine : MembersValue → ℕ → Type 0
NoneOfLine value line =
    (place : ℕ) → slice_index value.lines place ≡ line → is_marked value.members place ≡ false

-- the head of the line is at the place
pub record IsHeadOfLine (value : MembersValue) (line place : ℕ) : Type 0 where
  pub within : place < length value.lines
  pub of_line : slice_index value.lines place ≡ line
  pub head : IsHeadIn value place

-- the line of the place has no member behind it
abbrev pub NoneOfLineBehind : MembersValue → ℕ → Type 0
NoneOfLineBehind value place =
    (other : ℕ) → place < other → slice_index value.lines other ≡ slice_index value.lines place
    → is_marked value.members other ≡ false

-- the next member, behind the place, of its line
pub record IsNextOfLine (value : MembersValue) (place found : ℕ) : Type 0 where
  pub within : found < length value.lines
  pub behind : place < found
  pub of_line : slice_index value.lines found ≡ slice_index value.lines place
  pub member : is_marked value.members found ≡ true
  pub least : (other : ℕ) → place < other → other < found
      → slice_index value.lines other ≡ slice_index value.lines place → is_marked value.members other ≡ false

-- the line and the bunch of each place, and whether the place has a member
pub record LinesValue : Type 0 where
  pub lines : List ℕ
  pub bunches : List ℕ
  pub members : List Bool

-- the lines and the members, without the bunches
abbrev pub without_bunches : LinesValue → MembersValue
without_bunches value = record { lines = value.lines; members = value.members }

-- these lines and bunches without a member
abbrev pub none_bunched : List ℕ → List ℕ → LinesValue
none_bunched lines bunches = record {
  lines = lines;
  bunches = bunches;
  members = replicate (length lines) false;
}

-- the same lines and bunches, but for whether the place has a member
abbrev pub with_bunched : LinesValue → ℕ → Bool → LinesValue
with_bunched value place member = record {
  lines = value.lines;
  bunches = value.bunches;
  members = slice_set value.members place member;
}

-- the bunch of the place has a head before `from`, at the place or before it
pub record IsOfBunchBefore (bunches : List ℕ) (IsHead : ℕ → Type 0) (from place : ℕ) : Type 0 where
  pub at : ℕ
  pub before : at < from
  pub upto : at ≤ place
  pub same : slice_index bunches at ≡ slice_index bunches place
  pub head : IsHead at

-- the bunch of each head has a head before `from`
abbrev pub NoNewBunchFrom : LinesValue → ℕ → Type 0
NoNewBunchFrom value from =
    (place : ℕ) → IsHeadIn (without_bunches value) place
    → IsOfBunchBefore value.bunches (IsHeadIn (without_bunches value)) from place

-- the first head of a new bunch: it is at `from` or behind,
-- and the bunch of each earlier head has a head before `from`
pub record IsOfNewBunchFrom (value : LinesValue) (from found : ℕ) : Type 0 where
  pub from_there : from ≤ found
  pub head : IsHeadIn (without_bunches value) found
  pub earlier : (place : ℕ) → place < found → IsHeadIn (without_bunches value) place
      → IsOfBunchBefore value.bunches (IsHeadIn (without_bunches value)) from place

-- the bunch of the place has no head behind it
abbrev pub NoHeadOfBunchBehind : LinesValue → ℕ → Type 0
NoHeadOfBunchBehind value place =
    (other : ℕ) → place < other → slice_index value.bunches other ≡ slice_index value.bunches place
    → IsHeadIn (without_bunches value) other → ⊥

-- the next head, behind the place, of its bunch
pub record IsNextHeadOfBunch (value : LinesValue) (place found : ℕ) : Type 0 where
  pub behind : place < found
  pub of_bunch : slice_index value.bunches found ≡ slice_index value.bunches place
  pub head : IsHeadIn (without_bunches value) found
  pub least : (other : ℕ) → place < other → other < found
      → slice_index value.bunches other ≡ slice_index value.bunches place
      → IsHeadIn (without_bunches value) other → ⊥
