-- The kinds and counts of slots that are asked, in order.
use Rattle.std.proofs.Common.{◌≡◌, ◌∙◌, sym, ap, subst, Bool, true, ℕ, ◌+◌, ◌<◌, List, [], ◌∷◌, get_or, length, map, take}
use Rattle.std.specs.Prelude.{IsPermutation, filter, ◌&&◌, ◌==◌, bytes_eq}
use Rattle.std.specs.Ordering.{eq_by_cmp, nat_cmp, on}
use Rattle.std.specs.Cmp.{IsTotalOrder, unsigned_ties}
use Rattle.std.specs.Cmp.Lexicographic.{slice_cmp, texts_ties}
use Rattle.std.specs.List.{dedup}
use Rattle.std.specs.List.Sorted.{IsSorted}
use Rattle.std.proofs.lemmas.Bool.{and_parts, eqb-true}
use Rattle.std.proofs.lemmas.Cmp.{nat_cmp_total, nat_list_cmp_total, on_total, then_total}
use Rattle.std.proofs.lemmas.Slice.Eq.{bytes_eq-Decides}
use Rattle.std.proofs.lemmas.List.{map-append}
use Rattle.std.proofs.lemmas.List.Elements.{filter-append}
use Rattle.ct_history.specs.declared.plan.PlanParts.{PlanParts}
use Rattle.ct_times.specs.declared.bounds.Bound.{Bound}
use Rattle.ct_times.specs.declared.bounds.Capacity.{Capacity}
use Rattle.ct_times.specs.declared.slots.Asked.{Asked}
use Rattle.ct_times.specs.Asked.{as_slots}
use Rattle.ct_times.specs.Bounds.{Done}
use Rattle.ct_times.specs.First.{AreSortedOnce, Covers, compare_slots, has_block, slot_capacity}
use Rattle.ct_times.proofs.FirstLemmas.{covers_then}
use Rattle.ct_times.proofs.MeasureLemmas.{next_in}
use Rattle.ct_times.proofs.OrderLemmas.{in_order, then_tied}

slots_total : IsTotalOrder compare_slots
slots_total = then_total (on_total (λ (p : List ℕ × ℕ). p.0) nat_list_cmp_total) (on_total (λ (p : List ℕ × ℕ). p.1) nat_cmp_total)

-- two of them are one kind and one count
abbrev pub are_same : Asked → Asked → Bool
are_same one other = bytes_eq one.kind.now other.kind.now && one.block == other.block

tied : (x y : Asked) → are_same x y ≡ eq_by_cmp compare_slots (as_slots x) (as_slots y)
tied x y =
    ap (λ (b : Bool). b && x.block == y.block) (texts_ties x.kind.now y.kind.now)
    ∙ ap (λ (b : Bool). eq_by_cmp (slice_cmp nat_cmp) x.kind.now y.kind.now && b) (unsigned_ties x.block y.block)
    ∙ sym (then_tied (slice_cmp nat_cmp x.kind.now y.kind.now) (nat_cmp x.block y.block))

alike : (x y : Asked) → are_same x y ≡ true → as_slots x ≡ as_slots y
alike x y is =
    let both = and_parts (bytes_eq x.kind.now y.kind.now) (x.block == y.block) is in
    let kinds : x.kind.now ≡ y.kind.now = (bytes_eq-Decides x.kind.now y.kind.now).0 both.0 in
    let counts : x.block ≡ y.block = eqb-true x.block y.block both.1 in
    ap (λ (k : List ℕ). (k, x.block)) kinds ∙ ap (λ (n : ℕ). (y.kind.now, n)) counts

pub asked_in_order : (items sorted once : List Asked) → IsPermutation items sorted → IsSorted (on as_slots compare_slots) sorted → once ≡ dedup are_same sorted → AreSortedOnce compare_slots (map as_slots items) (map as_slots once)
asked_in_order = in_order as_slots slots_total are_same tied alike

-- the capacities of the first kinds and counts are covered, and so those with the next one
pub covers_next : (plan : PlanParts) (done : Done) (old mid new : Bound) (items : List Asked) (at : ℕ) (x : Asked) → at < length items → x ≡ get_or items at x
    → Covers plan done old (map slot_capacity (filter (has_block plan) (map as_slots (take at items)))) mid
    → Covers plan done mid (map slot_capacity (filter (has_block plan) (as_slots x ∷ []))) new
    → Covers plan done old (map slot_capacity (filter (has_block plan) (map as_slots (take (at + 1) items)))) new
covers_next plan done old mid new items at x within is one other =
    let front = map as_slots (take at items) in
    subst (λ (cs : List Capacity). Covers plan done old cs new)
    (sym (
    ap (λ (ys : List Asked). map slot_capacity (filter (has_block plan) (map as_slots ys))) (next_in items at x within is)
    ∙ ap (λ (ys : List (List ℕ × ℕ)). map slot_capacity (filter (has_block plan) ys)) (map-append as_slots (take at items) (x ∷ []))
    ∙ ap (map slot_capacity) (filter-append (has_block plan) front (as_slots x ∷ []))
    ∙ map-append slot_capacity (filter (has_block plan) front) (filter (has_block plan) (as_slots x ∷ []))
    ))
    (covers_then plan done old mid new (map slot_capacity (filter (has_block plan) front)) (map slot_capacity (filter (has_block plan) (as_slots x ∷ []))) one other)
