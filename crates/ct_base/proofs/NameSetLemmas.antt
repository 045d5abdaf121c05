-- One name more in a set of names.
use Rattle.std.proofs.Common.{◌≡◌, ℕ, Bool, true, cond, ◌||◌, bytes_eq, List, ap, ◌∙◌}
use Rattle.std.specs.Borrow.{Bor}
use Rattle.std.specs.Cmp.Lexicographic.{slice_cmp}
use Rattle.std.specs.Ordering.{nat_cmp, is_eq}
use Rattle.std.proofs.lemmas.Cmp.{nat_list_eq_equiv}
use Rattle.std.proofs.lemmas.Map.Text.{is_eq-slice_cmp}
use Rattle.ct_base.proofs.TruthLemmas.{true_where}

-- a reference to a name
abbrev pub key : List ℕ → Bor (List ℕ)
key name = record { ref_ptr = (0, 0); now = name }

-- the set with one name more has what it had, and the name
pub names_more : (asked name : List ℕ) (was now before : Bool) → now ≡ cond (is_eq (slice_cmp nat_cmp name asked)) true was → was ≡ before → now ≡ (before || bytes_eq asked name)
names_more asked name was now before put kept =
    put ∙ true_where (is_eq (slice_cmp nat_cmp name asked)) was ∙ ap (λ b. b || is_eq (slice_cmp nat_cmp name asked)) kept
    ∙ ap (λ b. before || b) (is_eq-slice_cmp name asked ∙ nat_list_eq_equiv.symm name asked)
