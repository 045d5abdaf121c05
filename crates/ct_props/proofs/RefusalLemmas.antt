-- The first refused key of a table in byte order is the least one.
use Rattle.std.proofs.Common.{ℕ, ◌≡◌, Bool, true, false, cond, List, [], ◌∷◌, refl, sym, ap, subst, ◌∙◌, Some, None, bytes_eq}
use Rattle.std.specs.Prelude.{Option, ⊤}
use Rattle.std.specs.Ordering.{is_eq, ordering_reverse}
use Rattle.std.proofs.lemmas.Cmp.{nat_list_cmp_total}
use Rattle.std.proofs.lemmas.Map.Text.{is_eq-slice_cmp}
use Rattle.std.proofs.lemmas.Slice.Eq.{bytes_eq-Decides}
use Rattle.ct_base.specs.declared.defs.Pair.{Pair}
use Rattle.ct_props.specs.declared.fault.PropKind.{PropKind}
use Rattle.ct_props.specs.declared.fault.PropFault.{PropFault}
use Rattle.ct_props.specs.declared.fault.PropFault.TheVariants.{Bad, NoMemory}
use Rattle.ct_props.specs.declared.checked.Checked.{Checked}
use Rattle.ct_props.specs.PropsOf.{HasChecked}
use Rattle.ct_props.specs.Refusal.{refusals, refused_in, refused_as, ComesBefore, IsPropFault}
use Rattle.ct_props.specs.FirstRefused.{refused_or, first_refused, IsFirstRefused}

-- a row of the table
abbrev Row : Type 0
Row = List ℕ × Option PropKind

before-trans : (one two three : List ℕ) → ComesBefore one two → ComesBefore two three → ComesBefore one three
before-trans one two three first second = nat_list_cmp_total.trans one two three first second

-- names of which one comes before the other differ
differ : (one other : List ℕ) → ComesBefore one other → bytes_eq one other ≡ false
differ one other before = sym (is_eq-slice_cmp one other) ∙ ap is_eq before

differ-back : (one other : List ℕ) → ComesBefore one other → bytes_eq other one ≡ false
differ-back one other before = sym (is_eq-slice_cmp other one) ∙ ap is_eq (nat_list_cmp_total.antisymm other one ∙ ap ordering_reverse before)

-- the keys of the rows ascend, and are above this key
abbrev Rises : List ℕ → List Row → Type 0
Rises key [] = ⊤
Rises key (row ∷ rows) = ComesBefore key row.0 × Rises row.0 rows

-- a key in front of the first one is in no row
absent : (other key : List ℕ) (rows : List Row) → ComesBefore other key → Rises key rows → refused_in other rows ≡ None
absent other key [] before rises = refl
absent other key (row ∷ rows) before rises =
    let here = before-trans other key row.0 before rises.0 in
    ap (λ b. cond b row.1 (refused_in other rows)) (differ other row.0 here) ∙ absent other row.0 rows here rises.1

-- the key and the kind of an answer
abbrev found_or : List ℕ × PropKind → Option (List ℕ × PropKind) → List ℕ × PropKind
found_or otherwise None = otherwise
found_or otherwise (Some found) = found

-- a refused key is above a key from which on the rows ascend
later-by : (key : List ℕ) (kind : PropKind) (front here : List ℕ) (why : Option PropKind) (rest : Option (List ℕ × PropKind)) → ComesBefore front here → (rest ≡ Some (key, kind) → ComesBefore here key) → refused_or here why rest ≡ Some (key, kind) → ComesBefore front key
later-by key kind front here None rest before behind found = before-trans front here key before (behind found)
later-by key kind front here (Some told) rest before behind found = subst (ComesBefore front) (ap (λ o. (found_or (key, kind) o).0) found) before

later : (key : List ℕ) (kind : PropKind) (front : List ℕ) (rows : List Row) → Rises front rows → first_refused rows ≡ Some (key, kind) → ComesBefore front key
later key kind front [] rises found = cc
later key kind front (row ∷ rows) rises found = later-by key kind front row.0 row.1 (first_refused rows) rises.0 (λ e. later key kind row.0 rows rises.1 e) found

either_none : (test : Bool) (why : Option PropKind) → why ≡ None → cond test None why ≡ None
either_none true why none = refl
either_none false why none = none

-- the first refused key is refused, and none in front of it
least-by : (key : List ℕ) (kind : PropKind) (here : List ℕ) (why : Option PropKind) (rows : List Row) → Rises here rows → refused_or here why (first_refused rows) ≡ Some (key, kind) → (first_refused rows ≡ Some (key, kind) → (refused_in key rows ≡ Some kind) × ((other : List ℕ) → ComesBefore other key → refused_in other rows ≡ None)) → (cond (bytes_eq key here) why (refused_in key rows) ≡ Some kind) × ((other : List ℕ) → ComesBefore other key → cond (bytes_eq other here) why (refused_in other rows) ≡ None)
least-by key kind here None rows rises found rest =
    let more = rest found in (
      ap (λ b. cond b None (refused_in key rows)) (differ-back here key (later key kind here rows rises found)) ∙ more.0,
      λ other before. either_none (bytes_eq other here) (refused_in other rows) (more.1 other before),
    )
least-by key kind here (Some told) rows rises found rest =
    let is_here : here ≡ key = ap (λ o. (found_or (key, kind) o).0) found in
    let is_told : told ≡ kind = ap (λ o. (found_or (key, kind) o).1) found in (
      ap (λ b. cond b (Some told) (refused_in key rows)) ((bytes_eq-Decides key here).1 (sym is_here)) ∙ ap (λ k. Some k) is_told,
      λ other before. let first = subst (ComesBefore other) (sym is_here) before in ap (λ b. cond b (Some told) (refused_in other rows)) (differ other here first) ∙ absent other here rows first rises,
    )

least : (key : List ℕ) (kind : PropKind) (row : Row) (rows : List Row) → Rises row.0 rows → first_refused (row ∷ rows) ≡ Some (key, kind) → (refused_in key (row ∷ rows) ≡ Some kind) × ((other : List ℕ) → ComesBefore other key → refused_in other (row ∷ rows) ≡ None)
least key kind row [] rises found = least-by key kind row.0 row.1 [] rises found (λ e. cc)
least key kind row (next ∷ rows) rises found = least-by key kind row.0 row.1 (next ∷ rows) rises found (λ e. least key kind next rows rises.1 e)

-- the keys of the table ascend
abbrev AllRise : List Row → Type 0
AllRise [] = ⊤
AllRise (row ∷ rows) = Rises row.0 rows

rise : (props : List Pair) → AllRise (refusals props)
rise props = (refl, (refl, (refl, (refl, (refl, (refl, (refl, tt)))))))

least_of : (rows : List Row) (key : List ℕ) (kind : PropKind) → AllRise rows → first_refused rows ≡ Some (key, kind) → (refused_in key rows ≡ Some kind) × ((other : List ℕ) → ComesBefore other key → refused_in other rows ≡ None)
least_of [] key kind rise found = cc
least_of (row ∷ rows) key kind rise found = least key kind row rows rise found

-- the fault of the first key that is refused is that of the least one
pub is_least : (props : List Pair) (fault : PropFault) → IsFirstRefused props fault → IsPropFault props fault
is_least props NoMemory is = tt
is_least props (Bad key kind) is =
    let found = least_of (refusals props) key kind (rise props) is in
    record { refused = found.0; least = found.1 }

-- where no first refused key is found, no key is refused
nothing-by : (test : Bool) (here : List ℕ) (why : Option PropKind) (rest : Option (List ℕ × PropKind)) (other : Option PropKind) → refused_or here why rest ≡ None → (rest ≡ None → other ≡ None) → cond test why other ≡ None
nothing-by test here None rest other none more = either_none test other (more none)
nothing-by test here (Some told) rest other none more = cc

nothing : (key : List ℕ) (rows : List Row) → first_refused rows ≡ None → refused_in key rows ≡ None
nothing key [] none = refl
nothing key (row ∷ rows) none = nothing-by (bytes_eq key row.0) row.0 row.1 (first_refused rows) (refused_in key rows) none (λ e. nothing key rows e)

-- where each key is read, no key is refused
pub none_refused : (props : List Pair) (checked : Checked) → HasChecked props checked → (key : List ℕ) → refused_as props key ≡ None
none_refused props checked has key =
    let none : first_refused (refusals props) ≡ None = rw (has.cost, has.fail, has.pass, has.processors, has.groups, has.skip, has.skip_code, has.timeout) refl in
    nothing key (refusals props) none
