-- The needs of groups when one more group is added.
use Rattle.std.proofs.Common.{ℕ, zero, suc, ◌+◌, ◌-◌, ◌≤◌, ◌≡◌, List, ◌++◌, flat_map, sym, ap, ◌∙◌, arith}
use Rattle.std.specs.List.{range_with_len}
use Rattle.std.proofs.lemmas.List.{append_assoc, append-nil}
use Rattle.ct_base.specs.declared.defs.Need.{Need}
use Rattle.ct_groups.specs.declared.description.Requirement.{Requirement}
use Rattle.ct_groups.specs.GroupsIn.{needs_from, group_needs}

-- one more number at the end of a range adds its items at the end of the list
range-more : {A : Type 0} (f : ℕ → List A) (first count : ℕ) → flat_map f (range_with_len first (suc count)) ≡ flat_map f (range_with_len first count) ++ f (first + count)
range-more f first zero = append-nil (f first) ∙ ap f (omega arith)
range-more f first (suc count) = ap (λ l. f first ++ l) (range-more f (first + 1) count) ∙ sym (append_assoc (f first) (flat_map f (range_with_len (first + 1) count)) (f (first + 1 + count))) ∙ ap (λ n. (f first ++ flat_map f (range_with_len (first + 1) count)) ++ f n) (omega arith)

-- the needs of one more group stand behind those of the groups in front of it
pub needs_more : (first group : ℕ) (requirements : List Requirement) (old now more : List Need) → first ≤ group → now ≡ old ++ needs_from first (group - first) requirements → more ≡ now ++ group_needs requirements group → more ≡ old ++ needs_from first (group + 1 - first) requirements
needs_more first group requirements old now more behind so_far pushed =
    let count = group - first in
    let here : first + count ≡ group = omega arith in
    let next : suc count ≡ group + 1 - first = omega arith in
    pushed ∙ ap (λ ns. ns ++ group_needs requirements group) so_far ∙ append_assoc old (needs_from first count requirements) (group_needs requirements group) ∙ ap (λ n. old ++ (needs_from first count requirements ++ group_needs requirements n)) (sym here) ∙ ap (λ ns. old ++ ns) (sym (range-more (group_needs requirements) first count)) ∙ ap (λ n. old ++ needs_from first n requirements) next
