-- Sizes packed on cards that have free slots: the placing of the
-- needs of one kind, in numbers. Source: this project's own.
use Rattle.std.specs.Prelude.{◌≡◌, ◌<◌, ◌⊎◌, ℕ, ◌+◌, ◌≤◌, List, [], ◌∷◌, length, nat_le, nat_lt, ◌/◌, slice_index, if◌then◌else◌, ◌==◌, true}
use Rattle.std.specs.List.{list_all}

-- how many slots of one card these sizes take together; `cards` has the card of each size
abbrev pub load : ℕ → List ℕ → List ℕ → ℕ
load card [] cards = 0
load card (size ∷ sizes) [] = 0
load card (size ∷ sizes) (on ∷ cards) = (if on == card then size else 0) + load card sizes cards

-- the cards are a packing: there is a card for each size, and no card takes more than its free slots
pub record IsPacking (free sizes cards : List ℕ) : Type 0 where
  pub count : length cards ≡ length sizes
  pub within : list_all (λ card. nat_lt card (length free)) cards ≡ true
  pub room : (card : ℕ) → load card sizes cards ≤ slice_index free card

-- there is a packing of the sizes on the free slots
abbrev pub CanPack : List ℕ → List ℕ → Type 0
CanPack free sizes = (cards : List ℕ) × IsPacking free sizes cards

-- there is no packing of the sizes on the free slots
abbrev pub CannotPack : List ℕ → List ℕ → Type 0
CannotPack free sizes = CanPack free sizes → ⊥

-- in each packing, each size equal to `size` is on a card with fewer free slots than `room`
abbrev pub LiesBelow : List ℕ → List ℕ → ℕ → ℕ → Type 0
LiesBelow free sizes size room =
    (cards : List ℕ) (at : ℕ) → IsPacking free sizes cards → at < length sizes → slice_index sizes at ≡ size
    → slice_index free (slice_index cards at) < room

-- the card has room for the size. It has exactly the size free,
-- or it has the most free of all cards with less than `room`.
pub record IsNextCard (free : List ℕ) (size room card : ℕ) : Type 0 where
  pub there : card < length free
  pub fits : size ≤ slice_index free card
  pub chosen : (slice_index free card ≡ size)
      ⊎ ((slice_index free card < room)
      × ((other : ℕ) → other < length free → slice_index free other < room
      → slice_index free other ≤ slice_index free card))

-- the amount, if it is at least the bound, else 0
abbrev pub reaching : ℕ → ℕ → ℕ
reaching least amount = if nat_le least amount then amount else 0

-- 1 if the amount is at least the bound, else 0
abbrev pub one_from : ℕ → ℕ → ℕ
one_from least amount = if nat_le least amount then 1 else 0

-- how many sizes of at least this bound fit on a card with this many free slots
abbrev pub rooms : ℕ → ℕ → ℕ
rooms least amount = amount / least
