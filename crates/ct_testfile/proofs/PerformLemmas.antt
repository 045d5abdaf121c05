-- What commands do, step by step.
use Rattle.std.proofs.Common.{◌≡◌, ℕ, zero, suc, ◌⊎◌, inl, inr, ◌*◌, ◌≤◌, ◌<◌, nat_le, min, Bool, true, false, cond, ◌||◌, ◌==◌, subst, List, [], ◌∷◌, ◌++◌, length, Option, Some, None, Result, Ok, Err, refl, sym, ap, ◌∙◌, arith}
use Rattle.std.proofs.lemmas.Bool.{cases_lt}
use Rattle.std.proofs.lemmas.Bool.Decides.{nat_tests}
use Rattle.ct_suite.specs.Count.{raised}
use Rattle.ct_testfile.specs.Outcome.{◌>>=◌, or_refused}
use Rattle.ct_testfile.specs.Says.{Follows}
use Rattle.ct_suite.specs.Words.{list_value}
use Rattle.ct_suite.specs.Values.{with_variable}
use Rattle.ct_testfile.specs.Commands.{taken, add_test, is_bad_name, is_full, included, files, set}
use Rattle.ct_suite.specs.Values.{Variable}
use Rattle.std.specs.Option.{option_map_or}
use Rattle.ct_base.specs.declared.defs.TestDef.{TestDef}
use Rattle.ct_suite.specs.Tests.{most_tests, new_test}
use Rattle.ct_suite.specs.Entries.{taken_apart}
use Rattle.ct_testfile.specs.declared.opening.Opens.{Opens}
use Rattle.ct_testfile.specs.declared.fault.ReadKind.{ReadKind}
use Rattle.ct_testfile.specs.declared.fault.ReadKind.TheVariants.{BadCall, TooLong, TooManyTests}
use Rattle.ct_testfile.specs.declared.fault.Stop.{Stop}
use Rattle.ct_testfile.specs.declared.limits.Limits.{Limits}
use Rattle.ct_testfile.specs.declared.state.State.{State}
use Rattle.ct_testfile.proofs.SaysLemmas.{Follows-then, Follows-stopped}

-- where nothing was read, the refusal is returned
pub refused-none : {A B : Type 0} (read : Option A) (kind : ReadKind) (then : A → Result B ReadKind) → read ≡ None → (or_refused read kind >>= then) ≡ Err kind
refused-none read kind then is = ap (λ r. or_refused r kind >>= then) is

-- what was read takes its bytes, and then the command is done
module _ {A : Type 0} (read : Option A) (x : A) (is : read ≡ Some x) (limits : Limits) (state : State) (bytes : A → ℕ) (done : A → State → State) where
  abbrev goes : Result State ReadKind
  goes = or_refused read BadCall >>= λ y. taken limits (bytes y) state >>= λ next. Ok (done y next)

  pub goes-stopped : (stop : Stop) → Follows {A = State} (Err stop) (taken limits (bytes x) state) → Follows {A = State} (Err stop) goes
  goes-stopped stop stopped =
      Follows-then (or_refused read BadCall) (λ y. taken limits (bytes y) state >>= λ next. Ok (done y next)) x (Err stop) (ap (λ r. or_refused r BadCall) is) (Follows-stopped (taken limits (bytes x) state) (λ next. Ok (done x next)) stop stopped)

  pub goes-done : (next final : State) → taken limits (bytes x) state ≡ Ok next → final ≡ done x next → goes ≡ Ok final
  goes-done next final took is_final =
      ap (λ r. or_refused r BadCall >>= λ y. taken limits (bytes y) state >>= λ n. Ok (done y n)) is
      ∙ ap (λ t. t >>= λ n. Ok (done x n)) took
      ∙ ap Ok (sym is_final)

-- a product up to a greatest number does not depend on whether its factor is limited too
product-by : (a b most : ℕ) → (most < b) ⊎ (b ≤ most) → min (a * min b most) most ≡ min (a * b) most
product-by a b most (inr small) =
    let whole : min b most ≡ b = omega arith in ap (λ n. min (a * n) most) whole
product-by zero b most (inl great) =
    let left : zero * min b most ≡ 0 = omega arith in
    let right : zero * b ≡ 0 = omega arith in
    ap (λ n. min n most) (left ∙ sym right)
product-by (suc k) b most (inl great) =
    let whole : min b most ≡ most = omega arith in
    let left : min (suc k * most) most ≡ most = omega arith in
    let right : min (suc k * b) most ≡ most = omega arith in
    ap (λ n. min (suc k * n) most) whole ∙ left ∙ sym right

pub capped-product : (a b most : ℕ) → min (a * min b most) most ≡ min (a * b) most
capped-product a b most = product-by a b most (cases_lt most b)

-- a product up to a greatest number, of a count and of a limited count
pub product-is : (result tests count counted bytes most : ℕ) → tests ≡ count → counted ≡ min bytes most → result ≡ min (tests * counted) most → result ≡ min (count * bytes) most
product-is result tests count counted bytes most same capped is =
    is ∙ (λ i. min (same i * capped i) most) ∙ capped-product count bytes most

-- the first value and the others, where they are taken apart
pub apart-is : (values : List (List ℕ)) (first : List ℕ) (rest : List (List ℕ)) → taken_apart values ≡ Some (first, rest) → values ≡ first ∷ rest
apart-is [] first rest is = cc
apart-is (value ∷ values) first rest is =
    let list_of : Option (List ℕ × List (List ℕ)) → List (List ℕ) = λ o. option_map_or (λ p. p.0 ∷ p.1) o [] in ap list_of is

pub apart-none : (values : List (List ℕ)) → taken_apart values ≡ None → values ≡ []
apart-none [] is = refl
apart-none (value ∷ values) is = cc

-- a test that no command can define, a test too many, and a test that is defined
module _ (limits : Limits) (dir name : List ℕ) (command values : List (List ℕ)) (state : State) (is : values ≡ name ∷ command) where
  abbrev when : Bool → Bool → Result State ReadKind → Result State ReadKind
  when bad full done = cond bad (Err BadCall) (cond full (Err TooManyTests) done)

  abbrev defined : Result State ReadKind
  defined = taken limits (length dir) state >>= λ next. Ok (record next { tests = next.tests ++ new_test dir name command ∷ [] })

  cases : add_test limits dir values state ≡ when (length command == 0 || is_bad_name name) (is_full limits state.tests) defined
  cases = ap (λ vs. add_test limits dir vs state) is

  pub add_test-bad : (length command == 0 || is_bad_name name) ≡ true → add_test limits dir values state ≡ Err BadCall
  add_test-bad bad = cases ∙ ap (λ b. when b (is_full limits state.tests) defined) bad

  pub add_test-full : (length command == 0 || is_bad_name name) ≡ false → is_full limits state.tests ≡ true → add_test limits dir values state ≡ Err TooManyTests
  add_test-full good full =
      cases ∙ (λ i. when (good i) (full i) defined)

  room : (length command == 0 || is_bad_name name) ≡ false → is_full limits state.tests ≡ false → add_test limits dir values state ≡ defined
  room good free = cases ∙ (λ i. when (good i) (free i) defined)

  pub add_test-stopped : (length command == 0 || is_bad_name name) ≡ false → is_full limits state.tests ≡ false → (stop : Stop) → Follows {A = State} (Err stop) (taken limits (length dir) state) → Follows {A = State} (Err stop) (add_test limits dir values state)
  add_test-stopped good free stop stopped =
      let P : Result State ReadKind → Type 0 = λ says. Follows {A = State} (Err stop) says in
      subst P (sym (room good free)) (Follows-stopped (taken limits (length dir) state) (λ next. Ok (record next { tests = next.tests ++ new_test dir name command ∷ [] })) stop stopped)

  pub add_test-done : (length command == 0 || is_bad_name name) ≡ false → is_full limits state.tests ≡ false → (next final : State) → taken limits (length dir) state ≡ Ok next → final ≡ record next { tests = next.tests ++ new_test dir name command ∷ [] } → add_test limits dir values state ≡ Ok final
  add_test-done good free next final took made =
      let add : State → Result State ReadKind = λ n. Ok (record n { tests = n.tests ++ new_test dir name command ∷ [] }) in
      room good free ∙ ap (λ t. t >>= add) took ∙ ap Ok (sym made)

-- `include` with one value opens the file of that name; then: with more values it is refused
pub included-one : (values rest : List (List ℕ)) (name : List ℕ) (state : State) (opens : Opens) → values ≡ name ∷ rest → rest ≡ [] → opens ≡ files (name ∷ []) → included values state ≡ Ok (state, opens)
included-one values rest name state opens is none opened =
    let done : Opens → Result (State × Opens) ReadKind = λ o. Ok (state, o) in
    ap (λ vs. included vs state) (is ∙ ap (λ r. name ∷ r) none) ∙ ap done (sym opened)

pub included-more : (values rest more : List (List ℕ)) (name next : List ℕ) (state : State) → values ≡ name ∷ rest → rest ≡ next ∷ more → included values state ≡ Err BadCall
included-more values rest more name next state is some =
    ap (λ vs. included vs state) (is ∙ ap (λ r. name ∷ r) some)

pub included-none : (values : List (List ℕ)) (state : State) → values ≡ [] → included values state ≡ Err BadCall
included-none values state is = ap (λ vs. included vs state) is

-- `set` sets the variable, or removes its value
pub set-done : (values rest : List (List ℕ)) (name : List ℕ) (state : State) (value : Option (List ℕ)) (variables : List Variable) → values ≡ name ∷ rest → value ≡ list_value rest → variables ≡ with_variable state.variables (record { name = name; value = value }) → set values state ≡ Ok (record state { variables = variables })
set-done values rest name state value variables is valued made =
    let done : List Variable → Result State ReadKind = λ vs. Ok (record state { variables = vs }) in
    ap (λ vs. set vs state) is
    ∙ ap (λ v. done (with_variable state.variables (record { name = name; value = v }))) (sym valued)
    ∙ ap done (sym made)

product-flip : (a b most : ℕ) → min (a * b) most ≡ min (b * a) most
product-flip a b most = let flip : a * b ≡ b * a = omega arith in ap (λ n. min n most) flip

-- a product up to a greatest number, of two limited counts
pub product-both : (result tests count counted bytes most : ℕ) → tests ≡ min count most → counted ≡ min bytes most → result ≡ min (tests * counted) most → result ≡ min (count * bytes) most
product-both result tests count counted bytes most one other is =
    is
    ∙ (λ i. min (one i * other i) most)
    ∙ capped-product (min count most) bytes most
    ∙ product-flip (min count most) bytes most
    ∙ capped-product bytes count most
    ∙ product-flip bytes count most

-- the tests of the state, or the given ones where it is refused; counting bytes keeps the tests
abbrev tests_or : Result State ReadKind → List TestDef → List TestDef
tests_or (Ok state) tests = state.tests
tests_or (Err kind) tests = tests

taken-by : (counted : Option ℕ) (state next : State) → (or_refused counted TooLong >>= λ n. Ok (record state { value_bytes = n })) ≡ Ok next → next.tests ≡ state.tests
taken-by None state next took = ap (λ says. tests_or says state.tests) (sym took)
taken-by (Some n) state next took = ap (λ says. tests_or says state.tests) (sym took)

below : (m n : ℕ) → nat_le m n ≡ false → n < m
below m n not_le = grind (arith, nat_tests)

-- if a tree is not full, there is room for one more test
pub has-room : (limits : Limits) (state next : State) (bytes : ℕ) → limits.tests ≤ most_tests → is_full limits state.tests ≡ false → taken limits bytes state ≡ Ok next → length next.tests < most_tests
has-room limits state next bytes few free took =
    let same = taken-by (raised limits.all_value_bytes state.value_bytes bytes) state next took in
    omega (arith, few, ap length same, below limits.tests (length state.tests) free)
