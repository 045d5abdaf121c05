-- For the crates above: which tests a change leaves as they were,
-- by place and by number, and what it makes of the changed test.
use Rattle.std.proofs.Common.{ℕ, ◌≡◌, ◌-◌, ◌<◌, ◌≤◌, zero, suc, Bool, true, false, not, ◌&&◌, eqb, ltb, List, length, get_or, refl, sym, ap, ◌∙◌, arith, ◌⊎◌, inl, inr, ⊎_elim}
use Rattle.std.proofs.lemmas.Bool.{cases_Bool, cases_eq, eqb-true, eq-eqb, ne_eqb}
use Rattle.std.proofs.lemmas.List.{get_or-set_same, get_or-set_other}
use Rattle.std.proofs.lemmas.List.Sums.{passes_at_first, position_or_len_is}
use Rattle.ct_queue.specs.Ready.{ReadyValue, NamesOnce, StandsIn, place_of, count_at, is_out_at, is_member, predecessors_left, is_out, is_in_ready_set, lowered, with_out}
use Rattle.ct_queue.specs.Lines.{IsHeadOf}

-- at the place of a test stands the test
pub test_at_place : (order : List ℕ) (test : ℕ) → StandsIn order test → get_or order (place_of order test) 0 ≡ test
test_at_place order test stands = eqb-true (get_or order (place_of order test) 0) test (passes_at_first (λ t. eqb t test) order 0 stands)

-- in an order that names each test once, the test at a place has that place
pub place_of_test : (order : List ℕ) (place : ℕ) → NamesOnce order → place < length order → place_of order (get_or order place 0) ≡ place
place_of_test order place once within =
    position_or_len_is (λ t. eqb t (get_or order place 0)) order place 0 (omega arith)
    (λ k before. ne_eqb (get_or order k 0) (get_or order place 0) (once k place 0 before within))
    (λ _. eq-eqb (get_or order place 0) (get_or order place 0) refl)

-- tests of the order at the same place are the same test
pub places_apart : (order : List ℕ) (one other : ℕ) → StandsIn order one → StandsIn order other → place_of order one ≡ place_of order other → one ≡ other
places_apart order one other first second same =
    sym (test_at_place order one first) ∙ ap (λ (p : ℕ). get_or order p 0) same ∙ test_at_place order other second

-- a lowered count leaves membership at each other place
pub lowered_elsewhere : (ready : ReadyValue) (test place : ℕ) → (place ≡ place_of ready.order test → ⊥) → is_member (lowered ready test) place ≡ is_member ready place
lowered_elsewhere ready test place other =
    ap (λ (n : ℕ). ltb place (length ready.order) && eqb n 0 && not (is_out_at ready place)) (get_or-set_other ready.counts (place_of ready.order test) place (predecessors_left ready test - 1) 0 other)

-- a change of whether one test is out leaves membership at each other place
pub with_out_elsewhere : (ready : ReadyValue) (test place : ℕ) (is : Bool) → (place ≡ place_of ready.order test → ⊥) → is_member (with_out ready test is) place ≡ is_member ready place
with_out_elsewhere ready test place is other =
    ap (λ (b : Bool). ltb place (length ready.order) && eqb (count_at ready place) 0 && not b) (get_or-set_other ready.outs (place_of ready.order test) place is false other)

-- a change of one test leaves whether each other test of the order is ready
pub lowered_others : (ready : ReadyValue) (test other : ℕ) → StandsIn ready.order test → StandsIn ready.order other → (other ≡ test → ⊥) → is_in_ready_set (lowered ready test) other ≡ is_in_ready_set ready other
lowered_others ready test other stands there apart =
    lowered_elsewhere ready test (place_of ready.order other) (λ same. apart (places_apart ready.order other test there stands same))

pub with_out_others : (ready : ReadyValue) (test other : ℕ) (is : Bool) → StandsIn ready.order test → StandsIn ready.order other → (other ≡ test → ⊥) → is_in_ready_set (with_out ready test is) other ≡ is_in_ready_set ready other
with_out_others ready test other is stands there apart =
    with_out_elsewhere ready test (place_of ready.order other) is (λ same. apart (places_apart ready.order other test there stands same))

-- the line of the place has a head, at the place or before it
pub record HasHeadOf (lines : List ℕ) (is_in : ℕ → Bool) (place : ℕ) : Type 0 where
  pub at : ℕ
  pub upto : at ≤ place
  pub same : get_or lines at 0 ≡ get_or lines place 0
  pub head : IsHeadOf lines is_in at

-- in the ready set, the line of the place has a head, at the place or before it
abbrev pub HasHead : ReadyValue → ℕ → Type 0
HasHead ready place = HasHeadOf ready.lines (is_member ready) place

module _ (lines : List ℕ) (is_in : ℕ → Bool) (place : ℕ) where
  first_of_line : (end : ℕ) → end ≤ place → HasHeadOf lines is_in place ⊎ ((other : ℕ) → other < end → get_or lines other 0 ≡ get_or lines place 0 → is_in other ≡ false)
  first_of_line zero upto = inr (λ other before. absurd (omega arith))
  first_of_line (suc end) upto =
      ⊎_elim inl
      (λ none.
      ⊎_elim
      (λ (is : is_in end ≡ true).
      ⊎_elim
      (λ (same : get_or lines end 0 ≡ get_or lines place 0).
      inl (record { at = end; upto = omega arith; same = same; head = record { member = is; first = λ other before alike. none other before (alike ∙ same) } }))
      (λ (apart : get_or lines end 0 ≡ get_or lines place 0 → ⊥).
      inr (λ other before alike. ⊎_elim (λ (e : other ≡ end). absurd (apart (ap (λ (p : ℕ). get_or lines p 0) (sym e) ∙ alike))) (λ (ne : other ≡ end → ⊥). none other (omega (arith, ne)) alike) (cases_eq other end)))
      (cases_eq (get_or lines end 0) (get_or lines place 0)))
      (λ (no : is_in end ≡ false).
      inr (λ other before alike. ⊎_elim (λ (e : other ≡ end). ap is_in e ∙ no) (λ (ne : other ≡ end → ⊥). none other (omega (arith, ne)) alike) (cases_eq other end)))
      (cases_Bool (is_in end)))
      (first_of_line end (omega arith))

  pub head_of : is_in place ≡ true → HasHeadOf lines is_in place
  head_of is =
      ⊎_elim (λ found. found) (λ none. record { at = place; upto = omega arith; same = refl; head = record { member = is; first = none } }) (first_of_line place (omega arith))

pub head_of_line : (ready : ReadyValue) (place : ℕ) → is_member ready place ≡ true → HasHead ready place
head_of_line ready place is = head_of ready.lines (is_member ready) place is

-- the changed test itself: its count is one less, or it is out as the call set it
pub count_lowered : (ready : ReadyValue) (test : ℕ) → place_of ready.order test < length ready.counts → predecessors_left (lowered ready test) test ≡ predecessors_left ready test - 1
count_lowered ready test within = get_or-set_same ready.counts (place_of ready.order test) (predecessors_left ready test - 1) 0 within

pub out_said : (ready : ReadyValue) (test : ℕ) (is : Bool) → place_of ready.order test < length ready.outs → is_out (with_out ready test is) test ≡ is
out_said ready test is within = get_or-set_same ready.outs (place_of ready.order test) is false within
