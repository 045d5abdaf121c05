-- The slots that picks take of a resource, pick by pick, and whether picks fit, resource by resource.
use Rattle.std.proofs.Common.{◌≡◌, ◌≢◌, ◌∙◌, sym, ap, subst, refl, ℕ, zero, suc, ◌+◌, ◌-◌, ◌<◌, ◌≤◌, ◌^◌, ◌⊎◌, inl, inr, ⊎_elim, Bool, true, false, cond, ◌==◌, List, [], ◌∷◌, ◌++◌, length, take, drop, append-nil, get_or, arith, nat_lt, length-set, get_or-set_same, get_or-set_other, drop-cons, leb-true}
use Rattle.std.specs.Prelude.{nat_le, slice_get, None, filter}
use Rattle.std.specs.List.{list_all}
use Rattle.std.proofs.Math.ListN.{set}
use Rattle.std.proofs.lemmas.List.{drop_all, take_all}
use Rattle.std.proofs.lemmas.List.Sums.{sum_by-cons}
use Rattle.std.proofs.lemmas.Bool.{and_parts, and_from, true≢false}
use Rattle.std.proofs.lemmas.Bool.Decides.{nat_tests}
use Rattle.ct_base.specs.declared.defs.Resource.{Resource}
use Rattle.ct_base.proofs.TruthLemmas.{same_truth}
use Rattle.ct_alloc.specs.declared.placement.Pick.{Pick}
use Rattle.ct_alloc.specs.Placement.{slots_at, fits_from, fits_beside}
use Rattle.ct_alloc.specs.Free.{IsWithinSlots, are_there, slot_counts}

-- how many slots one pick takes of a resource
abbrev pub taken : ℕ → Pick → ℕ
taken place pick = cond (pick.resource == place) pick.slots 0

pub slots-cons : (place : ℕ) (pick : Pick) (picks : List Pick) → slots_at place (pick ∷ picks) ≡ taken place pick + slots_at place picks
slots-cons place pick picks = by_test (pick.resource == place) refl
  where
    by_test : (test : Bool) → (pick.resource == place) ≡ test → slots_at place (pick ∷ picks) ≡ cond test pick.slots 0 + slots_at place picks
    by_test true t = rw t (sum_by-cons (λ (p : Pick). p.slots) pick (filter (λ (p : Pick). p.resource == place) picks))
    by_test false t = rw t (omega arith)

pub slots-drop : (place : ℕ) (picks : List Pick) (i : ℕ) (pick : Pick) → i < length picks → pick ≡ get_or picks i pick → slots_at place (drop i picks) ≡ taken place pick + slots_at place (drop (i + 1) picks)
slots-drop place picks i pick inside is =
    let next : i + 1 ≡ suc i = omega arith in
    ap (λ (t : List Pick). slots_at place t) (drop-cons picks i pick inside)
    ∙ slots-cons place (get_or picks i pick) (drop (suc i) picks)
    ∙ ap (λ (p : Pick). taken place p + slots_at place (drop (suc i) picks)) (sym is)
    ∙ ap (λ (n : ℕ). taken place pick + slots_at place (drop n picks)) (sym next)

pub all-pick : (p : Pick → Bool) (picks : List Pick) (i : ℕ) (pick : Pick) → i < length picks → pick ≡ get_or picks i pick → list_all p picks ≡ true → p pick ≡ true
all-pick p [] i pick inside is all = absurd (omega arith)
all-pick p (first ∷ picks) zero pick inside is all = ap p is ∙ (and_parts (p first) (list_all p picks) all).0
all-pick p (first ∷ picks) (suc i) pick inside is all = all-pick p picks i pick (omega arith) is (and_parts (p first) (list_all p picks) all).1

-- while picks are added: the slots used so far and the slots of the
-- remaining picks are the slots used before and the slots of all picks
pub record IsAdding (used before : List ℕ) (picks rest : List Pick) : Type 0 where
  pub count : length used ≡ length before
  pub sums : (place : ℕ) → get_or used place 0 + slots_at place rest ≡ get_or before place 0 + slots_at place picks

pub adding-more : (used before : List ℕ) (picks : List Pick) (i : ℕ) (pick : Pick) → i < length picks → pick ≡ get_or picks i pick → pick.resource < length used → IsAdding used before picks (drop i picks) → IsAdding (set used pick.resource (get_or used pick.resource 0 + pick.slots)) before picks (drop (i + 1) picks)
adding-more used before picks i pick inside is there so = record {
  count = length-set used pick.resource (get_or used pick.resource 0 + pick.slots) ∙ so.count;
  sums = λ place. by_test place (pick.resource == place) refl;
}
  where
    now : List ℕ
    now = set used pick.resource (get_or used pick.resource 0 + pick.slots)

    by_test : (place : ℕ) (test : Bool) → (pick.resource == place) ≡ test → get_or (set used pick.resource (get_or used pick.resource 0 + pick.slots)) place 0 + slots_at place (drop (i + 1) picks) ≡ get_or before place 0 + slots_at place picks
    by_test place true t =
        let same : place ≡ pick.resource = grind (arith, nat_tests) in
        let step : slots_at place (drop i picks) ≡ pick.slots + slots_at place (drop (i + 1) picks) = slots-drop place picks i pick inside is ∙ ap (λ b. cond b pick.slots 0 + slots_at place (drop (i + 1) picks)) t in
        let here : get_or (set used pick.resource (get_or used pick.resource 0 + pick.slots)) place 0 ≡ get_or used place 0 + pick.slots =
        ap (λ n. get_or (set used pick.resource (get_or used pick.resource 0 + pick.slots)) n 0) same ∙ get_or-set_same used pick.resource (get_or used pick.resource 0 + pick.slots) 0 there ∙ ap (λ n. get_or used n 0 + pick.slots) (sym same) in
        omega (arith, step, here, so.sums place)
    by_test place false t =
        let other : place ≢ pick.resource = grind (arith, nat_tests) in
        let step : slots_at place (drop i picks) ≡ 0 + slots_at place (drop (i + 1) picks) = slots-drop place picks i pick inside is ∙ ap (λ b. cond b pick.slots 0 + slots_at place (drop (i + 1) picks)) t in
        let here = get_or-set_other used pick.resource place (get_or used pick.resource 0 + pick.slots) 0 other in
        omega (arith, step, here, so.sums place)

pub own-slots : (picks : List Pick) (i : ℕ) (pick : Pick) → i < length picks → pick ≡ get_or picks i pick → slots_at pick.resource (drop i picks) ≡ pick.slots + slots_at pick.resource (drop (i + 1) picks)
own-slots picks i pick inside is =
    let own : (pick.resource == pick.resource) ≡ true = grind (arith, nat_tests) in
    slots-drop pick.resource picks i pick inside is ∙ ap (λ b. cond b pick.slots 0 + slots_at pick.resource (drop (i + 1) picks)) own

-- while picks are taken away: the slots still used and the slots of all
-- picks are the slots used before and the slots of the remaining picks
pub record IsTaking (used before : List ℕ) (picks rest : List Pick) : Type 0 where
  pub count : length used ≡ length before
  pub sums : (place : ℕ) → get_or used place 0 + slots_at place picks ≡ get_or before place 0 + slots_at place rest

pub taking-more : (used before : List ℕ) (picks : List Pick) (i : ℕ) (pick : Pick) → i < length picks → pick ≡ get_or picks i pick → pick.resource < length used → ((place : ℕ) → slots_at place picks ≤ get_or before place 0) → IsTaking used before picks (drop i picks) → IsTaking (set used pick.resource (get_or used pick.resource 0 - pick.slots)) before picks (drop (i + 1) picks)
taking-more used before picks i pick inside is there enough so = record {
  count = length-set used pick.resource (get_or used pick.resource 0 - pick.slots) ∙ so.count;
  sums = λ place. by_test place (pick.resource == place) refl;
}
  where
    by_test : (place : ℕ) (test : Bool) → (pick.resource == place) ≡ test → get_or (set used pick.resource (get_or used pick.resource 0 - pick.slots)) place 0 + slots_at place picks ≡ get_or before place 0 + slots_at place (drop (i + 1) picks)
    by_test place true t =
        let same : place ≡ pick.resource = grind (arith, nat_tests) in
        let step : slots_at place (drop i picks) ≡ pick.slots + slots_at place (drop (i + 1) picks) = slots-drop place picks i pick inside is ∙ ap (λ b. cond b pick.slots 0 + slots_at place (drop (i + 1) picks)) t in
        let here : get_or (set used pick.resource (get_or used pick.resource 0 - pick.slots)) place 0 ≡ get_or used place 0 - pick.slots =
        ap (λ n. get_or (set used pick.resource (get_or used pick.resource 0 - pick.slots)) n 0) same ∙ get_or-set_same used pick.resource (get_or used pick.resource 0 - pick.slots) 0 there ∙ ap (λ n. get_or used n 0 - pick.slots) (sym same) in
        omega (arith, step, here, so.sums place, enough place)
    by_test place false t =
        let other : place ≢ pick.resource = grind (arith, nat_tests) in
        let step : slots_at place (drop i picks) ≡ 0 + slots_at place (drop (i + 1) picks) = slots-drop place picks i pick inside is ∙ ap (λ b. cond b pick.slots 0 + slots_at place (drop (i + 1) picks)) t in
        let here = get_or-set_other used pick.resource place (get_or used pick.resource 0 - pick.slots) 0 other in
        omega (arith, step, here, so.sums place)

-- picks fit from a place on exactly if each resource from there on has room for them
pub fits-each : (first : ℕ) (resources : List Resource) (used : ℕ → ℕ) (picks : List Pick) → fits_from first resources used picks ≡ true → (at place : ℕ) → place ≡ first + at → at < length resources → used place + slots_at place picks ≤ get_or (slot_counts resources) at 0
fits-each first [] used picks fits at place is inside = absurd (omega arith)
fits-each first (r ∷ rs) used picks fits zero place is inside =
    let both = and_parts (nat_le (used first + slots_at first picks) r.slots) (fits_from (first + 1) rs used picks) fits in
    let same : place ≡ first = omega arith in
    subst (λ (i : ℕ). used i + slots_at i picks ≤ r.slots) (sym same) (leb-true (used first + slots_at first picks) r.slots both.0)
fits-each first (r ∷ rs) used picks fits (suc at) place is inside =
    let both = and_parts (nat_le (used first + slots_at first picks) r.slots) (fits_from (first + 1) rs used picks) fits in
    fits-each (first + 1) rs used picks both.1 at place (omega arith) (omega arith)

pub each-fits : (first : ℕ) (resources : List Resource) (used : ℕ → ℕ) (picks : List Pick) → ((at : ℕ) → at < length resources → used (first + at) + slots_at (first + at) picks ≤ get_or (slot_counts resources) at 0) → fits_from first resources used picks ≡ true
each-fits first [] used picks each = refl
each-fits first (r ∷ rs) used picks each =
    let same : first + 0 ≡ first = omega arith in
    let here : used first + slots_at first picks ≤ r.slots = subst (λ (i : ℕ). used i + slots_at i picks ≤ r.slots) same (each 0 (omega arith)) in
    and_from (nat_le (used first + slots_at first picks) r.slots) (fits_from (first + 1) rs used picks) (grind (arith, nat_tests))
    (each-fits (first + 1) rs used picks (λ at inside. (let next : first + suc at ≡ (first + 1) + at = omega arith in subst (λ (i : ℕ). used i + slots_at i picks ≤ get_or (slot_counts rs) at 0) next (each (suc at) (omega arith)))))

-- the resource of each pick has room for all the picks on it
abbrev pub have_room : List Resource → List ℕ → List Pick → Pick → Bool
have_room resources used picks pick = nat_le (slots_at pick.resource picks) (get_or (slot_counts resources) pick.resource 0 - get_or used pick.resource 0)

picked-or-not : (resources : List Resource) (used : List ℕ) (all picks : List Pick) (place : ℕ) → list_all (have_room resources used all) picks ≡ true → (slots_at place picks ≡ 0) ⊎ (slots_at place all ≤ get_or (slot_counts resources) place 0 - get_or used place 0)
picked-or-not resources used all [] place have = inl refl
picked-or-not resources used all (pick ∷ picks) place have =
    let both = and_parts (have_room resources used all pick) (list_all (have_room resources used all) picks) have in
    by_test both.0 (picked-or-not resources used all picks place both.1) (pick.resource == place) refl
  where
    by_test : have_room resources used all pick ≡ true → (slots_at place picks ≡ 0) ⊎ (slots_at place all ≤ get_or (slot_counts resources) place 0 - get_or used place 0) → (test : Bool) → (pick.resource == place) ≡ test → (slots_at place (pick ∷ picks) ≡ 0) ⊎ (slots_at place all ≤ get_or (slot_counts resources) place 0 - get_or used place 0)
    by_test here more true t =
        let same : pick.resource ≡ place = grind (arith, nat_tests) in
        inr (subst (λ (i : ℕ). slots_at i all ≤ get_or (slot_counts resources) i 0 - get_or used i 0) same (leb-true (slots_at pick.resource all) (get_or (slot_counts resources) pick.resource 0 - get_or used pick.resource 0) here))
    by_test here more false t =
        ⊎_elim
        (λ (none : slots_at place picks ≡ 0). inl (slots-cons place pick picks ∙ ap (λ b. cond b pick.slots 0 + slots_at place picks) t ∙ (let zeros : 0 + slots_at place picks ≡ 0 = omega arith in zeros)))
        (λ (le : slots_at place all ≤ get_or (slot_counts resources) place 0 - get_or used place 0). inr le)
        more

all-have : (resources : List Resource) (used : List ℕ) (all picks : List Pick) → fits_beside resources (λ place. get_or used place 0) all ≡ true → are_there resources picks ≡ true → list_all (have_room resources used all) picks ≡ true
all-have resources used all [] fits there = refl
all-have resources used all (pick ∷ picks) fits there =
    let both = and_parts (nat_lt pick.resource (length resources)) (are_there resources picks) there in
    let inside : pick.resource < length resources = grind (arith, nat_tests) in
    and_from (have_room resources used all pick) (list_all (have_room resources used all) picks)
    (let le : slots_at pick.resource all ≤ get_or (slot_counts resources) pick.resource 0 - get_or used pick.resource 0 = omega (arith, fits-each 0 resources (λ place. get_or used place 0) all fits pick.resource pick.resource (omega arith) inside) in grind (arith, nat_tests))
    (all-have resources used all picks fits both.1)

-- picks fit exactly if the resource of each pick has room for all the picks on it
pub fits-by-picks : (resources : List Resource) (used : List ℕ) (picks : List Pick) → IsWithinSlots resources used → are_there resources picks ≡ true → list_all (have_room resources used picks) picks ≡ fits_beside resources (λ place. get_or used place 0) picks
fits-by-picks resources used picks within there = same_truth _ _
    (λ have. each-fits 0 resources (λ place. get_or used place 0) picks (λ at inside.
    (let same : 0 + at ≡ at = omega arith in
    subst (λ (i : ℕ). get_or used i 0 + slots_at i picks ≤ get_or (slot_counts resources) at 0) (sym same)
    (⊎_elim
    (λ (none : slots_at at picks ≡ 0). (let le : get_or used at 0 + slots_at at picks ≤ get_or (slot_counts resources) at 0 = omega (arith, within.within at) in le))
    (λ (few : slots_at at picks ≤ get_or (slot_counts resources) at 0 - get_or used at 0). (let le : get_or used at 0 + slots_at at picks ≤ get_or (slot_counts resources) at 0 = omega (arith, within.within at) in le))
    (picked-or-not resources used picks picks at have)))))
    (λ fits. all-have resources used picks picks fits there)

-- picks on resources that are there take no slots at a place without a resource
pub none-beyond : (resources : List Resource) (picks : List Pick) (place : ℕ) → are_there resources picks ≡ true → length resources ≤ place → slots_at place picks ≡ 0
none-beyond resources [] place there beyond = refl
none-beyond resources (pick ∷ picks) place there beyond =
    let both = and_parts (nat_lt pick.resource (length resources)) (are_there resources picks) there in
    let inside : pick.resource < length resources = grind (arith, nat_tests) in
    let other : (pick.resource == place) ≡ false = grind (arith, nat_tests) in
    slots-cons place pick picks ∙ ap (λ b. cond b pick.slots 0 + slots_at place picks) other ∙ (let zeros : 0 + slots_at place picks ≡ 0 = omega (arith, none-beyond resources picks place both.1 beyond) in zeros)

-- if picks fit, the used slots and their slots are within the slots of each resource
pub within-each : (resources : List Resource) (used : List ℕ) (picks : List Pick) → IsWithinSlots resources used → are_there resources picks ≡ true → fits_beside resources (λ place. get_or used place 0) picks ≡ true → (place : ℕ) → get_or used place 0 + slots_at place picks ≤ get_or (slot_counts resources) place 0
within-each resources used picks within there fits place = by_test (nat_lt place (length resources)) refl
  where
    by_test : (test : Bool) → nat_lt place (length resources) ≡ test → get_or used place 0 + slots_at place picks ≤ get_or (slot_counts resources) place 0
    by_test true t = fits-each 0 resources (λ i. get_or used i 0) picks fits place place (omega arith) (grind (arith, nat_tests))
    by_test false t =
        let beyond : length resources ≤ place = grind (arith, nat_tests) in
        omega (arith, within.within place, none-beyond resources picks place there beyond)

pub bounded-each : (resources : List Resource) (used : List ℕ) (picks : List Pick) → IsWithinSlots resources used → are_there resources picks ≡ true → fits_beside resources (λ place. get_or used place 0) picks ≡ true → (place : ℕ) → get_or used place 0 + slots_at place picks < 2 ^ 32
bounded-each resources used picks within there fits place = omega (arith, within-each resources used picks within there fits place, within.bounded place)

pub within-taken : (resources : List Resource) (used now : List ℕ) (picks : List Pick) → IsWithinSlots resources used → are_there resources picks ≡ true → fits_beside resources (λ place. get_or used place 0) picks ≡ true → length now ≡ length used → ((place : ℕ) → get_or now place 0 ≡ get_or used place 0 + slots_at place picks) → IsWithinSlots resources now
within-taken resources used now picks within there fits count sums = record {
  count = count ∙ within.count;
  few = within.few;
  bounded = within.bounded;
  within = λ place. omega (arith, sums place, within-each resources used picks within there fits place);
}

pub within-given : (resources : List Resource) (used now : List ℕ) (picks : List Pick) → IsWithinSlots resources used → length now ≡ length used → ((place : ℕ) → get_or now place 0 ≡ get_or used place 0 - slots_at place picks) → IsWithinSlots resources now
within-given resources used now picks within count sums = record {
  count = count ∙ within.count;
  few = within.few;
  bounded = within.bounded;
  within = λ place. omega (arith, sums place, within.within place);
}

-- a slice written back into its list is the list
pub written-back : (n : ℕ) (now before : List ℕ) → n ≡ length now → length now ≡ length before → take n (now ++ drop (length now) before) ≡ now
written-back n now before is same =
    let none : drop (length now) before ≡ [] = drop_all (length now) before (omega arith) in
    ap (λ t. take n (now ++ t)) none ∙ ap (λ t. take n t) (append-nil now) ∙ take_all n now (omega arith)

pub pick-there : (n : ℕ) (picks : List Pick) (i : ℕ) (pick : Pick) → i < length picks → pick ≡ get_or picks i pick → list_all (λ (p : Pick). nat_lt p.resource n) picks ≡ true → pick.resource < n
pick-there n picks i pick inside is all =
    let below : nat_lt pick.resource n ≡ true = all-pick (λ (p : Pick). nat_lt p.resource n) picks i pick inside is all in
    grind (arith, nat_tests)

-- a place without a resource has no slots
pub no-slots : (resources : List Resource) (place : ℕ) → slice_get resources place ≡ None → get_or (slot_counts resources) place 0 ≡ 0
no-slots [] place none = refl
no-slots (r ∷ rs) zero none = cc
no-slots (r ∷ rs) (suc place) none = no-slots rs place none

-- one more resource, whose slots are below the bound, keeps all slots below it
pub bounded-more : (resources : List Resource) (r : Resource) (most place : ℕ) → ((at : ℕ) → get_or (slot_counts resources) at 0 < most) → r.slots < most → get_or (slot_counts (resources ++ r ∷ [])) place 0 < most
bounded-more [] r most zero all here = here
bounded-more [] r most (suc place) all here = all 0
bounded-more (first ∷ resources) r most zero all here = all 0
bounded-more (first ∷ resources) r most (suc place) all here = bounded-more resources r most place (λ at. all (suc at)) here

pub all-not : (p : Pick → Bool) (picks : List Pick) (i : ℕ) (pick : Pick) → i < length picks → pick ≡ get_or picks i pick → p pick ≡ false → list_all p picks ≡ false
all-not p picks i pick inside is not = by_test (list_all p picks) refl
  where
    by_test : (test : Bool) → list_all p picks ≡ test → list_all p picks ≡ false
    by_test false t = t
    by_test true t = absurd (true≢false (sym (all-pick p picks i pick inside is t) ∙ not))

pub all-passed : (p : Pick → Bool) (picks : List Pick) (i : ℕ) → length picks ≤ i → list_all p (drop i picks) ≡ list_all p picks → true ≡ list_all p picks
all-passed p picks i over same = ap (λ (t : List Pick). list_all p t) (sym (drop_all i picks over)) ∙ same
