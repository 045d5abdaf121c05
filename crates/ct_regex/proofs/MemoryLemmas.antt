-- An entry written into a memory of steps is read from it, and nothing else changes.
use Rattle.std.proofs.Common.{◌≡◌, ◌<◌, ◌⊎◌, Bool, true, false, ℕ, zero, suc, ◌+◌, ◌*◌, List, [], ◌∷◌, ◌++◌, length, drop, get_or, set, Option, Some, None, slice_get, unwrap_or, inl, inr, ⊎_elim, refl, sym, ◌∙◌, ap, subst, arith}
use Rattle.std.proofs.lemmas.Bool.{and_parts}
use Rattle.std.proofs.Math.Bool.{beq}
use Rattle.std.specs.Cmp.Lexicographic.{pointwise}
use Rattle.ct_regex.specs.Walk.{Step}
use Rattle.std.proofs.lemmas.List.{drop_more}
use Rattle.ct_regex.specs.Stand.{Stand, a_stand, behind_byte, behind_bytes}
use Rattle.ct_regex.specs.Met.{marks_of_met}
use Rattle.ct_regex.specs.Memory.{ends_match, stand_in, stand_at, entry_at, Leads, LeadsBy, Remembers}
use Rattle.ct_regex.specs.declared.memory.Memory.{Memory}
use Rattle.ct_regex.specs.declared.memory.Met.{Met}

-- an element after one element was set: the old one, or the new one at its place
pub set_get : {X : Type 0} (xs : List X) (i j : ℕ) (y d v : X) → get_or (set xs i y) j d ≡ v → (get_or xs j d ≡ v) ⊎ ((j ≡ i) × (v ≡ y))
set_get [] i j y d v e = inl e
set_get (x ∷ xs) zero zero y d v e = inr (refl, sym e)
set_get (x ∷ xs) zero (suc j) y d v e = inl e
set_get (x ∷ xs) (suc i) zero y d v e = inl e
set_get (x ∷ xs) (suc i) (suc j) y d v e = ⊎_elim (λ a. inl a) (λ b. inr (ap suc b.0, b.1)) (set_get xs i j y d v e)

-- setting one element keeps the others
pub slice_get-set_other : {X : Type 0} (xs : List X) (i j : ℕ) (y : X) → (j ≡ i → ⊥) → slice_get (set xs i y) j ≡ slice_get xs j
slice_get-set_other [] i j y h = refl
slice_get-set_other (x ∷ xs) zero zero y h = absurd (h refl)
slice_get-set_other (x ∷ xs) zero (suc j) y h = refl
slice_get-set_other (x ∷ xs) (suc i) zero y h = refl
slice_get-set_other (x ∷ xs) (suc i) (suc j) y h = slice_get-set_other xs i j y (λ e. h (ap suc e))

-- the element that was set has the new value
pub slice_get-set_same : {X : Type 0} (xs : List X) (i : ℕ) (y : X) → i < length xs → slice_get (set xs i y) i ≡ Some y
slice_get-set_same [] i y h = absurd (omega arith)
slice_get-set_same (x ∷ xs) zero y h = refl
slice_get-set_same (x ∷ xs) (suc i) y h = slice_get-set_same xs i y (omega arith)

-- two entries at one place of the table are for the same set and byte
pub one_place : (a b c d : ℕ) → b < 256 → d < 256 → a * 256 + b ≡ c * 256 + d → (a ≡ c) × (b ≡ d)
one_place a b c d h k e = (omega arith, omega arith)

-- setting one set keeps the stands of the sets below it
pub stand_in-set : (sets : List Met) (i at : ℕ) (met : Met) → at < i → stand_in (set sets i met) at ≡ stand_in sets at
stand_in-set sets i at met h =
    ap (λ (o : Option Met). a_stand (marks_of_met o) (ends_match o)) (slice_get-set_other sets i at met (λ e. absurd (omega (arith, h, e))))

pub stand_in-set_same : (sets : List Met) (i : ℕ) (met : Met) → i < length sets → stand_in (set sets i met) i ≡ a_stand met.marks.items met.last
stand_in-set_same sets i met h = ap (λ (o : Option Met). a_stand (marks_of_met o) (ends_match o)) (slice_get-set_same sets i met h)

pub leads-set : (steps : List Step) (sets : List Met) (i : ℕ) (met : Met) (at byte to : ℕ) → at < i → to < i →
    behind_byte steps (stand_in sets at) byte ≡ stand_in sets to → behind_byte steps (stand_in (set sets i met) at) byte ≡ stand_in (set sets i met) to
leads-set steps sets i met at byte to h k e =
    ap (λ (s : Stand). behind_byte steps s byte) (stand_in-set sets i at met h) ∙ e ∙ sym (stand_in-set sets i to met k)

-- every set of the list stands for this stand
abbrev pub AllStand : List Met → Stand → Type 0
AllStand sets stand = (at : ℕ) → at < length sets → stand_in sets at ≡ stand

pub all_stand-push : (sets : List Met) (met : Met) (stand : Stand) → AllStand sets stand → a_stand met.marks.items met.last ≡ stand → AllStand (sets ++ met ∷ []) stand
all_stand-push [] met stand h e zero k = e
all_stand-push [] met stand h e (suc at) k = absurd (omega (arith, k))
all_stand-push (x ∷ xs) met stand h e zero k = h 0 (omega arith)
all_stand-push (x ∷ xs) met stand h e (suc at) k = all_stand-push xs met stand (λ other l. h (suc other) (omega (arith, l))) e at (omega (arith, k))

-- an entry that is written is read at its place, and the other entries stay
pub read_back : (Holds : ℕ → ℕ → ℕ → Type 0) (next : List (Option ℕ)) (a b c : ℕ) → b < 256 → Holds a b c →
    ((at byte to : ℕ) → byte < 256 → get_or next (at * 256 + byte) None ≡ Some to → Holds at byte to) →
    (at byte to : ℕ) → byte < 256 → get_or (set next (a * 256 + b) (Some c)) (at * 256 + byte) None ≡ Some to → Holds at byte to
read_back Holds next a b c small new old at byte to k e =
    ⊎_elim (λ was. old at byte to k was)
    (λ here.
    let same = one_place at byte a b k small here.0 in
    let value : to ≡ c = ap (λ (o : Option ℕ). unwrap_or o 0) here.1 in
    subst (λ (v : ℕ). Holds v byte to) (sym same.0) (subst (λ (v : ℕ). Holds a v to) (sym same.1) (subst (λ (v : ℕ). Holds a b v) (sym value) new)))
    (set_get next (a * 256 + b) (at * 256 + byte) (Some c) None (Some to) e)

-- two lists of marks that a test finds equal are equal
pub same_marks : (xs ys : List Bool) → pointwise beq xs ys ≡ true → xs ≡ ys
same_marks [] [] h = refl
same_marks [] (y ∷ ys) h = absurd (let none : false ≡ true = h in cc)
same_marks (x ∷ xs) [] h = absurd (let none : false ≡ true = h in cc)
same_marks (x ∷ xs) (y ∷ ys) h = let both = and_parts (beq x y) (pointwise beq xs ys) h in ap (λ (b : Bool). b ∷ xs) (same_mark x y both.0) ∙ ap (λ (l : List Bool). y ∷ l) (same_marks xs ys both.1)
  where
    same_mark : (a b : Bool) → beq a b ≡ true → a ≡ b
    same_mark true true e = refl
    same_mark false false e = refl
    same_mark true false e = absurd (let none : false ≡ true = e in cc)
    same_mark false true e = absurd (let none : false ≡ true = e in cc)

-- one more byte of a piece is followed, if the memory knows where it leads
pub goes_by : (steps : List Step) (memory : Memory) (piece : List ℕ) (at to i : ℕ) → i < length piece → get_or piece i 0 < 256 → Remembers steps memory →
    entry_at memory at (get_or piece i 0) ≡ Some to →
    behind_bytes steps (stand_at memory to) (drop (i + 1) piece) ≡ behind_bytes steps (stand_at memory at) (drop i piece)
goes_by steps memory piece at to i inside small h e =
    let leads = h at (get_or piece i 0) to small e in
    ap (λ (s : Stand). behind_bytes steps s (drop (i + 1) piece)) (sym leads.2)
    ∙ ap (behind_bytes steps (stand_at memory at)) (sym (drop_more piece i 0 inside))

-- where one byte alone leads
pub leads_one : (steps : List Step) (memory : Memory) (at : ℕ) (bytes : List ℕ) (to : ℕ) → length bytes ≡ 1 → LeadsBy steps memory at bytes to → Leads steps memory at (get_or bytes 0 0) to
leads_one steps memory at [] to one h = absurd (omega (arith, one))
leads_one steps memory at (byte ∷ []) to one h = h
leads_one steps memory at (byte ∷ other ∷ bytes) to one h = absurd (omega (arith, one))
