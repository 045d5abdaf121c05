-- The tests of a run in the order of their cost, and which of them are ready. Source: CMake
-- manual, ctest(1), -j; cmake-properties(7), COST. The ready set is this project's own.
use Rattle.std.specs.Prelude.{◌≡◌, ◌≢◌, ℕ, ◌-◌, ◌<◌, ◌≤◌, ⊤, Bool, true, false, not, ◌&&◌, ◌==◌, List, length, replicate, slice_set, slice_index, slice_index_or, AllPairs, Option, Some, None, nat_lt}
use Rattle.std.specs.List.{position_or_len}
use Rattle.ct_queue.specs.Lines.{IsHeadOf}

-- the tests in an order. For each place of the order: how many predecessors
-- of the test are not final, whether it is out, its line and its bunch.
pub record ReadyValue : Type 0 where
  pub order : List ℕ
  pub counts : List ℕ
  pub outs : List Bool
  pub lines : List ℕ
  pub bunches : List ℕ

-- the order names each test once
abbrev pub NamesOnce : List ℕ → Type 0
NamesOnce order = AllPairs (λ one other. one ≢ other) order

-- the place of a test in the order, counted from 0
abbrev pub place_of : List ℕ → ℕ → ℕ
place_of order test = position_or_len (λ t. t == test) order

-- the test stands in the order
abbrev pub StandsIn : List ℕ → ℕ → Type 0
StandsIn order test = place_of order test < length order

-- how many predecessors of the test at a place are not final
abbrev pub count_at : ReadyValue → ℕ → ℕ
count_at ready place = slice_index_or ready.counts place 0

-- the test at a place is out
abbrev pub is_out_at : ReadyValue → ℕ → Bool
is_out_at ready place = slice_index_or ready.outs place false

-- a member is at the place: a test whose predecessors are final and that is not out
abbrev pub is_member : ReadyValue → ℕ → Bool
is_member ready place =
    nat_lt place (length ready.order) && (count_at ready place == 0) && not (is_out_at ready place)

-- how many predecessors of a test are not final
abbrev pub predecessors_left : ReadyValue → ℕ → ℕ
predecessors_left ready test = count_at ready (place_of ready.order test)

-- the test is out
abbrev pub is_out : ReadyValue → ℕ → Bool
is_out ready test = is_out_at ready (place_of ready.order test)

-- the test is a member
abbrev pub is_in_ready_set : ReadyValue → ℕ → Bool
is_in_ready_set ready test = is_member ready (place_of ready.order test)

-- the tests in this order with these counts, lines and bunches; none of them is out
abbrev pub none_out : List ℕ → List ℕ → List ℕ → List ℕ → ReadyValue
none_out order counts lines bunches =
    record {
      order = order;
      counts = counts;
      outs = replicate (length order) false;
      lines = lines;
      bunches = bunches;
    }

-- the same set, with one less predecessor of the test that is not final
abbrev pub lowered : ReadyValue → ℕ → ReadyValue
lowered ready test =
    record {
      order = ready.order;
      counts = slice_set ready.counts (place_of ready.order test) (predecessors_left ready test - 1);
      outs = ready.outs;
      lines = ready.lines;
      bunches = ready.bunches;
    }

-- the same set, but for whether the test is out
abbrev pub with_out : ReadyValue → ℕ → Bool → ReadyValue
with_out ready test is =
    record {
      order = ready.order;
      counts = ready.counts;
      outs = slice_set ready.outs (place_of ready.order test) is;
      lines = ready.lines;
      bunches = ready.bunches;
    }

-- the place is behind the given one, if one is given
abbrev pub IsBehind : Option ℕ → ℕ → Type 0
IsBehind None place = ⊤
IsBehind (Some given) place = given < place

-- no member is behind the given place
abbrev pub NoneBehind : ReadyValue → Option ℕ → Type 0
NoneBehind ready given = (place : ℕ) → IsBehind given place → is_member ready place ≡ false

-- the least place behind the given one that has a member
pub record IsLeastBehind (ready : ReadyValue) (given : Option ℕ) (found : ℕ) : Type 0 where
  pub behind : IsBehind given found
  pub member : is_member ready found ≡ true
  pub least : (place : ℕ) → IsBehind given place → place < found → is_member ready place ≡ false

-- a head is at the place: a member, and no earlier place of its line has a member
abbrev pub IsHead : ReadyValue → ℕ → Type 0
IsHead ready place = IsHeadOf ready.lines (is_member ready) place

-- the bunch of the place was seen: it has a head at a place
-- that is not behind the given one, nor behind the place itself
pub record IsOfSeenBunch (ready : ReadyValue) (given : Option ℕ) (place : ℕ) : Type 0 where
  pub at : ℕ
  pub seen : IsBehind given at → ⊥
  pub upto : at ≤ place
  pub same : slice_index ready.bunches at ≡ slice_index ready.bunches place
  pub head : IsHead ready at

-- the bunch of each head was seen
abbrev pub NoNewBunch : ReadyValue → Option ℕ → Type 0
NoNewBunch ready given = (place : ℕ) → IsHead ready place → IsOfSeenBunch ready given place

-- the first head of a new bunch: it is behind the given
-- place, and the bunch of each earlier head was seen
pub record IsOfNewBunch (ready : ReadyValue) (given : Option ℕ) (found : ℕ) : Type 0 where
  pub behind : IsBehind given found
  pub head : IsHead ready found
  pub earlier : (place : ℕ) → place < found → IsHead ready place → IsOfSeenBunch ready given place

-- the bunch of the place has no head behind it
abbrev pub NoHeadBehind : ReadyValue → ℕ → Type 0
NoHeadBehind ready place =
    (other : ℕ) → place < other → slice_index ready.bunches other ≡ slice_index ready.bunches place
    → IsHead ready other → ⊥

-- the next head, behind the place, of its bunch
pub record IsNextHead (ready : ReadyValue) (place found : ℕ) : Type 0 where
  pub behind : place < found
  pub of_bunch : slice_index ready.bunches found ≡ slice_index ready.bunches place
  pub head : IsHead ready found
  pub least : (other : ℕ) → place < other → other < found
      → slice_index ready.bunches other ≡ slice_index ready.bunches place → IsHead ready other → ⊥
