-- A node that is not marked has no marked node below it; marks that are set on the way up leave a tree.
use Rattle.std.proofs.Common.{ℕ, zero, suc, ◌≡◌, ◌+◌, ◌-◌, ◌*◌, ◌/◌, ◌^◌, ◌<◌, ◌≤◌, Bool, false, ◌||◌, List, length, drop, set, sym, ap, ◌∙◌, subst, ⊎_elim, arith}
use Rattle.std.proofs.Math.Nat.{pow-succ', le-mul_of_pos_right}
use Rattle.std.proofs.lemmas.Nat.{pow_pos}
use Rattle.std.proofs.lemmas.Bool.{or_parts, cases_lt, cases_eq}
use Rattle.std.proofs.lemmas.List.{length-set, length-drop, get_or-set_other, drop-set-add, drop-set-lt}
use Rattle.std.proofs.lemmas.Grind.{get_or-set_at}
use Rattle.std.specs.Int.{IsPowerOfTwo}
use Rattle.ct_queue.specs.Marks.{is_marked, marks_of, IsTree}

-- if a node has no mark, no node from `span` times its
-- number on and before `span` times the next number has one
abbrev pub IsBareBelow : List Bool → ℕ → Type 0
IsBareBelow nodes span =
    (node leaf : ℕ) → 0 < node → (node + 1) * span ≤ length nodes → is_marked nodes node ≡ false → node * span ≤ leaf → leaf < (node + 1) * span → is_marked nodes leaf ≡ false

bare_below_one : (nodes : List Bool) → IsBareBelow nodes 1
bare_below_one nodes node leaf inside room bare low high =
    let same : leaf ≡ node = omega arith in ap (is_marked nodes) same ∙ bare

bare_below_twice : (nodes : List Bool) → IsTree nodes → (span : ℕ) → 0 < span → IsBareBelow nodes span → IsBareBelow nodes (2 * span)
bare_below_twice nodes tree span positive below node leaf inside room bare low high =
    let least : node ≤ node * span = le-mul_of_pos_right node positive in
    let even = tree.even in
    let inner : node < length nodes / 2 = omega arith in
    let both = or_parts (is_marked nodes (2 * node)) (is_marked nodes (2 * node + 1)) (sym (tree.inner node inside inner) ∙ bare) in
    ⊎_elim
    (λ left. below (2 * node) leaf (omega arith) (omega arith) both.0 (omega arith) left)
    (λ right. below (2 * node + 1) leaf (omega arith) (omega arith) both.1 right (omega arith))
    (cases_lt leaf ((2 * node + 1) * span))

bare_below_power : (nodes : List Bool) → IsTree nodes → (k : ℕ) → IsBareBelow nodes (2 ^ k)
bare_below_power nodes tree zero = bare_below_one nodes
bare_below_power nodes tree (suc k) =
    subst (λ (span : ℕ). IsBareBelow nodes span) (sym (pow-succ' 2 k)) (bare_below_twice nodes tree (2 ^ k) (pow_pos k) (bare_below_power nodes tree k))

pub bare_below : (nodes : List Bool) → IsTree nodes → (span : ℕ) → IsPowerOfTwo span → IsBareBelow nodes span
bare_below nodes tree span power = subst (λ (s : ℕ). IsBareBelow nodes s) (sym power.1) (bare_below_power nodes tree power.0)

pub positive_power : (n : ℕ) → IsPowerOfTwo n → 0 < n
positive_power n power = subst (λ (m : ℕ). 0 < m) (sym power.1) (pow_pos power.0)

-- half of a power of two above 1 is a power of two
half_of_power : (k n : ℕ) → n ≡ 2 ^ k → (n ≡ 1 → ⊥) → (n ≡ 2 * (n / 2)) × IsPowerOfTwo (n / 2)
half_of_power zero n is above = absurd (above is)
half_of_power (suc k) n is above =
    let twice : n ≡ 2 * 2 ^ k = is ∙ pow-succ' 2 k in
    let half : n / 2 ≡ 2 ^ k = omega arith in
    (omega arith, (k, half))

pub even_power : (n : ℕ) → IsPowerOfTwo n → (n ≡ 1 → ⊥) → (n ≡ 2 * (n / 2)) × IsPowerOfTwo (n / 2)
even_power n power above = half_of_power power.0 n power.1 above

-- a tree with these marks on its places, in which only the nodes above one node may be wrong
pub record IsRising (marks nodes : List Bool) (node : ℕ) : Type 0 where
  pub places : marks_of nodes ≡ marks
  pub even : length nodes ≡ 2 * (length nodes / 2)
  pub power : IsPowerOfTwo (length nodes / 2)
  pub positive : 0 < node
  pub within : node < length nodes
  pub inner : (n : ℕ) → 0 < n → n < length nodes / 2 → (2 * n ≡ node → ⊥) → (2 * n + 1 ≡ node → ⊥) → is_marked nodes n ≡ (is_marked nodes (2 * n) || is_marked nodes (2 * n + 1))

-- a node stays right when another node is set that is not right below it
same_below : (nodes : List Bool) (node n : ℕ) (mark : Bool) → (n ≡ node → ⊥) → (2 * n ≡ node → ⊥) → (2 * n + 1 ≡ node → ⊥) → is_marked nodes n ≡ (is_marked nodes (2 * n) || is_marked nodes (2 * n + 1)) → is_marked (set nodes node mark) n ≡ (is_marked (set nodes node mark) (2 * n) || is_marked (set nodes node mark) (2 * n + 1))
same_below nodes node n mark here left right is =
    get_or-set_other nodes node n mark false here ∙ is
    ∙ sym (ap (λ b. b || is_marked (set nodes node mark) (2 * n + 1)) (get_or-set_other nodes node (2 * n) mark false left) ∙ ap (λ b. is_marked nodes (2 * n) || b) (get_or-set_other nodes node (2 * n + 1) mark false right))

pub first_rise : (nodes : List Bool) (place : ℕ) (mark : Bool) → IsTree nodes → place < length (marks_of nodes) → IsRising (set (marks_of nodes) place mark) (set nodes (length nodes / 2 + place) mark) (length nodes / 2 + place)
first_rise nodes place mark tree within =
    let node = length nodes / 2 + place in
    let len : length (set nodes node mark) ≡ length nodes = length-set nodes node mark in
    let even = tree.even in
    let all : place < length nodes - length nodes / 2 = subst (λ (n : ℕ). place < n) (length-drop (length nodes / 2) nodes) within in
    let positive = positive_power (length nodes / 2) tree.power in
    record {
      places = ap (λ (n : ℕ). drop (n / 2) (set nodes node mark)) len ∙ drop-set-add (length nodes / 2) nodes place mark;
      even = subst (λ (n : ℕ). n ≡ 2 * (n / 2)) (sym len) tree.even;
      power = subst (λ (n : ℕ). IsPowerOfTwo (n / 2)) (sym len) tree.power;
      positive = omega arith;
      within = subst (λ (n : ℕ). node < n) (sym len) (omega arith);
      inner = λ n above below left right.
          let low : n < length nodes / 2 = subst (λ (m : ℕ). n < m / 2) len below in
          same_below nodes node n mark (λ same. omega (arith, same)) left right (tree.inner n above low);
    }

pub rise : (marks nodes : List Bool) (node : ℕ) (mark : Bool) → 1 < node → IsRising marks nodes node → mark ≡ (is_marked nodes (2 * (node / 2)) || is_marked nodes (2 * (node / 2) + 1)) → IsRising marks (set nodes (node / 2) mark) (node / 2)
rise marks nodes node mark inside rising is =
    let len : length (set nodes (node / 2) mark) ≡ length nodes = length-set nodes (node / 2) mark in
    let even = rising.even in
    let within = rising.within in
    let inner : node / 2 < length nodes / 2 = omega arith in
    let room : node / 2 < length nodes = omega arith in
    record {
      places = ap (λ (n : ℕ). drop (n / 2) (set nodes (node / 2) mark)) len ∙ drop-set-lt (length nodes / 2) nodes (node / 2) mark inner ∙ rising.places;
      even = subst (λ (n : ℕ). n ≡ 2 * (n / 2)) (sym len) rising.even;
      power = subst (λ (n : ℕ). IsPowerOfTwo (n / 2)) (sym len) rising.power;
      positive = omega arith;
      within = subst (λ (n : ℕ). node / 2 < n) (sym len) room;
      inner = λ n above below left right.
          let low : n < length nodes / 2 = subst (λ (m : ℕ). n < m / 2) len below in
          ⊎_elim
          (λ same.
          get_or-set_at nodes (node / 2) n mark false same room ∙ is
          ∙ ap (λ (j : ℕ). is_marked nodes (2 * j) || is_marked nodes (2 * j + 1)) (sym same)
          ∙ sym (ap (λ b. b || is_marked (set nodes (node / 2) mark) (2 * n + 1)) (get_or-set_other nodes (node / 2) (2 * n) mark false left) ∙ ap (λ b. is_marked nodes (2 * n) || b) (get_or-set_other nodes (node / 2) (2 * n + 1) mark false right)))
          (λ other. same_below nodes (node / 2) n mark other left right (rising.inner n above low (λ e. other (omega (arith, e))) (λ e. other (omega (arith, e)))))
          (cases_eq n (node / 2));
    }

pub risen : (marks nodes : List Bool) (node : ℕ) → IsRising marks nodes node → node ≤ 1 → IsTree nodes
risen marks nodes node rising top = record {
  even = rising.even;
  power = rising.power;
  inner = λ n above below. rising.inner n above below (λ e. omega (arith, e)) (λ e. omega (arith, e));
}
