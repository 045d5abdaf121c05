-- The marks at a Stop, place after place.
use Rattle.std.proofs.Common.{◌≡◌, ◌∙◌, ◌+◌, ◌<◌, ℕ, Bool, true, false, List, length, set, eqb, ltb, cond, sym, ap, arith, inl, inr}
use Rattle.std.proofs.lemmas.Bool.{cases_Bool, eqb-true, eq-eqb, true≢false}
use Rattle.std.proofs.lemmas.Bool.Decides.{nat_tests}
use Rattle.std.proofs.lemmas.List.{get_or-set_same, get_or-set_other}
use Rattle.ct_queue.specs.Marks.{is_marked}
use Rattle.ct_core.specs.declared.state.State.{State}
use Rattle.ct_core.specs.Parts.{is_pending_at_place}

-- the marks are right up to one more place
pub marked-more : (before now more : List Bool) (states : List State) (n : ℕ) (b : Bool) → n < length now → b ≡ is_pending_at_place states n → more ≡ set now n b
    → ((place : ℕ) → is_marked now place ≡ cond (ltb place n) (is_pending_at_place states place) (is_marked before place))
    → (place : ℕ) → is_marked more place ≡ cond (ltb place (n + 1)) (is_pending_at_place states place) (is_marked before place)
marked-more before now more states n b lt is same marked place = elim (cases_Bool (eqb place n)) [
  | inl here ↦
      let at : place ≡ n = eqb-true place n here in
      let less : ltb place (n + 1) ≡ true = grind (arith, nat_tests) in
      ap (λ (m : List Bool). is_marked m place) same
      ∙ ap (λ (p : ℕ). is_marked (set now n b) p) at
      ∙ get_or-set_same now n b false lt
      ∙ is
      ∙ ap (λ (p : ℕ). is_pending_at_place states p) (sym at)
      ∙ sym (ap (λ (c : Bool). cond c (is_pending_at_place states place) (is_marked before place)) less)
  | inr other ↦
      let bound : ltb place (n + 1) ≡ ltb place n = grind (arith, nat_tests) in
      ap (λ (m : List Bool). is_marked m place) same
      ∙ get_or-set_other now n place b false (λ at. absurd (true≢false (sym (eq-eqb place n at) ∙ other)))
      ∙ marked place
      ∙ sym (ap (λ (c : Bool). cond c (is_pending_at_place states place) (is_marked before place)) bound)
]
