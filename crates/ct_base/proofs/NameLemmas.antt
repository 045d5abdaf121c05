-- The comparison of two names: with itself, either way round, and by the order of their bytes.
use Rattle.std.specs.Prelude.{ℕ, ◌≡◌, List, true, bytes_eq, refl}
use Rattle.std.proofs.Common.{sym, ap, ◌∙◌}
use Rattle.std.proofs.lemmas.Slice.Eq.{bytes_eq-Decides}
use Rattle.std.specs.Cmp.{tied_itself}
use Rattle.std.specs.Cmp.Lexicographic.{slice_cmp, nat_list_cmp_total}
use Rattle.std.specs.Ordering.{nat_cmp, is_eq}
use Rattle.std.specs.declared.cmp.Ordering.{Ordering}
use Rattle.std.specs.declared.cmp.Ordering.TheVariants.{Less, Equal, Greater}
use Rattle.std.proofs.lemmas.Bool.{true≢false}
use Rattle.std.proofs.lemmas.Map.Lookups.{exact_bytes}
use Rattle.ct_base.proofs.TruthLemmas.{same_truth}

-- a name equals itself
pub bytes_eq-refl : (bytes : List ℕ) → bytes_eq bytes bytes ≡ true
bytes_eq-refl bytes = (bytes_eq-Decides bytes bytes).1 refl

-- the comparison of two names is symmetric
pub bytes_eq_comm : (name other : List ℕ) → bytes_eq name other ≡ bytes_eq other name
bytes_eq_comm name other =
    same_truth (bytes_eq name other) (bytes_eq other name)
    (λ is. (bytes_eq-Decides other name).1 (sym ((bytes_eq-Decides name other).0 is)))
    (λ is. (bytes_eq-Decides name other).1 (sym ((bytes_eq-Decides other name).0 is)))

-- the order of names
abbrev pub by_bytes : List ℕ → List ℕ → Ordering
by_bytes = slice_cmp nat_cmp

pub is_eq-true : (order : Ordering) → is_eq order ≡ true → order ≡ Equal
is_eq-true Less is = absurd (true≢false (sym is))
is_eq-true Equal is = refl
is_eq-true Greater is = absurd (true≢false (sym is))

-- names are compared as equal where they are the same
pub same_name : (name other : List ℕ) → is_eq (by_bytes name other) ≡ bytes_eq other name
same_name name other =
    same_truth (is_eq (by_bytes name other)) (bytes_eq other name)
    (λ is. (bytes_eq-Decides other name).1 (sym (exact_bytes name other (is_eq-true (by_bytes name other) is))))
    (λ is. ap (λ n. is_eq (by_bytes name n)) ((bytes_eq-Decides other name).0 is) ∙ ap is_eq (tied_itself nat_list_cmp_total name))
