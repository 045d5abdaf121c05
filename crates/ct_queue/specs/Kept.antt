-- What a ready set keeps beside its tests: the place of each test by its
-- number, and the members in their lines and bunches. This project's own.
use Rattle.std.specs.Prelude.{◌≡◌, ℕ, ◌-◌, ◌<◌, ◌^◌, Bool, false, ◌&&◌, ◌==◌, nat_lt, List, length, map, slice_index, slice_set, Some}
use Rattle.std.specs.BTreeMap as tree
use Rattle.std.specs.Ordering.{nat_cmp}
use Rattle.ct_queue.specs.Ready.{ReadyValue, count_at, is_out_at, is_member}
use Rattle.ct_queue.specs.Marks.{is_marked}
use Rattle.ct_queue.specs.Lines.{LinesValue}
use Rattle.ct_queue.specs.declared.ready.Standing.{Standing}

-- each test of the order is found by its number
abbrev pub AreFoundByNumber : tree.BTreeMap ℕ ℕ → List ℕ → Type 0
AreFoundByNumber places order =
    (place : ℕ) → place < length order → tree.get nat_cmp places (slice_index order place) ≡ Some place

-- exactly the places whose count is 0 are marked
abbrev pub AreMarkedAtZero : List ℕ → List Bool → Type 0
AreMarkedAtZero counts marks =
    (place : ℕ) → is_marked marks place ≡ (nat_lt place (length counts) && (slice_index counts place == 0))

-- the ready set of this order, with these standings, lines and bunches
abbrev pub ready_of : List ℕ → List Standing → List ℕ → List ℕ → ReadyValue
ready_of order standings lines bunches =
    record {
      order = order;
      counts = map (λ (s : Standing). s.count) standings;
      outs = map (λ (s : Standing). s.is_out) standings;
      lines = lines;
      bunches = bunches;
    }

-- the standing of a test that has this count and is not out
abbrev pub waiting : ℕ → Standing
waiting count = record { count = count; is_out = false }

-- the standing of the test at a place
abbrev pub standing_at : ReadyValue → ℕ → Standing
standing_at ready place = record { count = count_at ready place; is_out = is_out_at ready place }

-- the set with this standing for the test at a place
abbrev pub with_standing : ReadyValue → ℕ → Standing → ReadyValue
with_standing ready place s =
    record {
      order = ready.order;
      counts = slice_set ready.counts place s.count;
      outs = slice_set ready.outs place s.is_out;
      lines = ready.lines;
      bunches = ready.bunches;
    }

-- what holds of each ready set: each test is found by its number,
-- and exactly the ready tests are members in their lines and bunches
pub record IsReadySet
    (order : List ℕ) (places : tree.BTreeMap ℕ ℕ) (standings : List Standing) (lines : LinesValue)
    : Type 0 where
  pub few : length order < 2 ^ 32 - 1
  pub found : AreFoundByNumber places order
  pub stand : length standings ≡ length order
  pub lined : length lines.lines ≡ length order
  pub bunched : length lines.bunches ≡ length order
  pub seated : length lines.members ≡ length order
  pub in_lines : (place : ℕ)
      → is_marked lines.members place ≡ is_member (ready_of order standings lines.lines lines.bunches) place
