-- The spots of places in lines. The spots of one line lie side by
-- side, in the order of the line's places. This project's own.
use Rattle.std.specs.Prelude.{◌≡◌, ℕ, ◌+◌, ◌<◌, ◌≤◌, ◌==◌, Bool, true, List, length, map, take, count_by, nat_lt, slice_index}
use Rattle.ct_queue.specs.Lines.{MembersValue, AreNumbered, IsHeadIn}
use Rattle.ct_queue.specs.Marks.{is_marked}

-- how many places a line has
abbrev pub size_of : List ℕ → ℕ → ℕ
size_of lines line = count_by (λ l. l == line) lines

-- the first spot of a line: behind the spots of all lines with lower numbers
abbrev pub first_spot : List ℕ → ℕ → ℕ
first_spot lines line = count_by (λ l. nat_lt l line) lines

-- the spot of a place: behind the spots of the earlier places of its line
abbrev pub spot_of : List ℕ → ℕ → ℕ
spot_of lines place =
    first_spot lines (slice_index lines place) + size_of (take place lines) (slice_index lines place)

-- the list has this length, and the function's value at each place
pub record IsTable (of : ℕ → ℕ) (size : ℕ) (table : List ℕ) : Type 0 where
  pub long : length table ≡ size
  pub reads : (at : ℕ) → at < size → slice_index table at ≡ of at

-- each place is found by its spot, and there are as many places as spots
pub record AreFoundBySpot (spots places : List ℕ) : Type 0 where
  pub long : length places ≡ length spots
  pub found : (place : ℕ) → place < length spots → slice_index places (slice_index spots place) ≡ place

-- the tables of first spots, of spots and of places are right for these lines
pub record AreSpots (lines firsts spots places : List ℕ) : Type 0 where
  pub numbered : AreNumbered lines
  pub begin : IsTable (first_spot lines) (length lines) firsts
  pub stand : IsTable (spot_of lines) (length lines) spots
  pub found : AreFoundBySpot spots places

-- the members in these lines: a place has a member if its spot is marked
abbrev pub members_value : List ℕ → List ℕ → List Bool → MembersValue
members_value lines spots marks = record { lines = lines; members = map (is_marked marks) spots }

-- the spot is the spot of a place
pub record IsSpot (lines spots places : List ℕ) (spot : ℕ) : Type 0 where
  pub there : spot < length places
  pub within : slice_index places spot < length lines
  pub back : slice_index spots (slice_index places spot) ≡ spot

-- what holds of the marks on spots: the tables are right, there is room
-- for a mark of each place, and each mark is on the spot of a place
pub record AreOnSpots (lines firsts spots places : List ℕ) (marks : List Bool) : Type 0 where
  pub all : AreSpots lines firsts spots places
  pub room : length lines ≤ length marks
  pub marked : (spot : ℕ) → is_marked marks spot ≡ true → IsSpot lines spots places spot

-- the heads of the lines are exactly the marked places
pub record AreHeads (value : MembersValue) (heads : List Bool) : Type 0 where
  pub room : length value.lines ≤ length heads
  pub marked : (place : ℕ) → is_marked heads place ≡ true → IsHeadIn value place
  pub all : (place : ℕ) → IsHeadIn value place → is_marked heads place ≡ true

-- the members of the bunches are exactly the heads of the lines
pub record AreHeadsInBunches (value heads : MembersValue) : Type 0 where
  pub bunched : length heads.lines ≡ length value.lines
  pub marked : AreHeads value heads.members
