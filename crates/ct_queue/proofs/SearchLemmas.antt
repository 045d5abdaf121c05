-- The search for the least marked place below a node, put
-- together from the searches below the two nodes under it.
use Rattle.std.proofs.Common.{ℕ, ◌≡◌, ◌+◌, ◌*◌, ◌/◌, ◌<◌, ◌≤◌, Bool, true, false, List, length, ap, ◌∙◌, ⊎_elim, arith, Option, Some, None, MatchOption}
use Rattle.std.proofs.Math.Nat.{le-mul_of_pos_right}
use Rattle.std.proofs.lemmas.Bool.{cases_lt}
use Rattle.std.proofs.lemmas.List.{get_or-drop}
use Rattle.std.specs.Int.{IsPowerOfTwo}
use Rattle.ct_queue.specs.Marks.{is_marked, marks_of, IsTree, NoneWithin, IsLeastWithin}
use Rattle.ct_queue.proofs.TreeLemmas.{bare_below, positive_power}

-- the mark of a place is the mark of its node
mark_at : (nodes : List Bool) (place : ℕ) → is_marked (marks_of nodes) place ≡ is_marked nodes (length nodes / 2 + place)
mark_at nodes place = get_or-drop (length nodes / 2) nodes place false

module _ (nodes : List Bool) (tree : IsTree nodes) (node low span : ℕ) (inside : 0 < node) (power : IsPowerOfTwo span) (below : node * span ≡ length nodes / 2 + low) (within : low + span ≤ length nodes / 2) where
  pub node_within : node < length nodes
  node_within =
      let positive : 0 < span = positive_power span power in
      let least : node ≤ node * span = le-mul_of_pos_right node positive in
      let even = tree.even in
      omega arith

  pub none_below : (from : ℕ) → is_marked nodes node ≡ false → NoneWithin (marks_of nodes) from low (low + span)
  none_below from bare place behind there inner =
      let even = tree.even in
      mark_at nodes place ∙ bare_below nodes tree span power node (length nodes / 2 + place) inside (omega arith) bare (omega arith) (omega arith)

  pub least_alone : (from : ℕ) → span ≡ 1 → is_marked nodes node ≡ true → from < low + span → IsLeastWithin (marks_of nodes) from low (low + span) low
  least_alone from one marked before = record {
    from_there = omega arith;
    low_there = omega arith;
    before_end = omega arith;
    marked =
        let times : node * span ≡ node * 1 = ap (λ (s : ℕ). node * s) one in
        let same : length nodes / 2 + low ≡ node = omega arith in
        mark_at nodes low ∙ ap (is_marked nodes) same ∙ marked;
    least = λ place behind there inner. absurd (omega arith);
  }

pub none_in_both : (marks : List Bool) (from low middle end : ℕ) → NoneWithin marks from low middle → NoneWithin marks from middle end → NoneWithin marks from low end
none_in_both marks from low middle end left right place behind there inner =
    ⊎_elim (λ before. left place behind there before) (λ after. right place behind after inner) (cases_lt place middle)

pub least_on_left : (marks : List Bool) (from low middle end place : ℕ) → middle ≤ end → IsLeastWithin marks from low middle place → IsLeastWithin marks from low end place
least_on_left marks from low middle end place within least = record {
  from_there = least.from_there;
  low_there = least.low_there;
  before_end = omega (arith, least.before_end);
  marked = least.marked;
  least = least.least;
}

pub least_on_right : (marks : List Bool) (from low middle end place : ℕ) → low ≤ middle → NoneWithin marks from low middle → IsLeastWithin marks from middle end place → IsLeastWithin marks from low end place
least_on_right marks from low middle end place within left least = record {
  from_there = least.from_there;
  low_there = omega (arith, least.low_there);
  before_end = least.before_end;
  marked = least.marked;
  least = none_in_both marks from low middle place left least.least;
}

-- the two nodes right below a node stand for the two halves of its places
pub left_below : (node low span half : ℕ) → span ≡ 2 * (span / 2) → node * span ≡ half + low → 2 * node * (span / 2) ≡ half + low
left_below node low span half twice is =
    let same : node * span ≡ node * (2 * (span / 2)) = ap (λ (s : ℕ). node * s) twice in
    omega arith

pub right_below : (node low span half : ℕ) → span ≡ 2 * (span / 2) → node * span ≡ half + low → (2 * node + 1) * (span / 2) ≡ half + (low + span / 2)
right_below node low span half twice is =
    let same : node * span ≡ node * (2 * (span / 2)) = ap (λ (s : ℕ). node * s) twice in
    omega arith

pub behind_left : (marks : List Bool) (from low middle end : ℕ) (found : Option ℕ) → low ≤ middle → NoneWithin marks from low middle → MatchOption found (NoneWithin marks from middle end) (IsLeastWithin marks from middle end) → MatchOption found (NoneWithin marks from low end) (IsLeastWithin marks from low end)
behind_left marks from low middle end None within left right = none_in_both marks from low middle end left right
behind_left marks from low middle end (Some place) within left right = least_on_right marks from low middle end place within left right
