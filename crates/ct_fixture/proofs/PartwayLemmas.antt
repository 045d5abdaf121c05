-- What holds between two tests whose fixtures are looked at, and that it lists the members in the end.
use Rattle.std.proofs.Common.{◌≡◌, ℕ, ◌+◌, ◌-◌, ◌≤◌, true, false, eqb, ◌||◌, List, [], ◌∷◌, ◌++◌, length, get_or, filter, All, ◌⊎◌, inl, inr, refl, sym, ap, ◌∙◌, arith}
use Rattle.std.specs.List.{range_with_len}
use Rattle.std.proofs.lemmas.Bool.{false≢true, eqb-true, eq-eqb, or_left, or_right, or_cases, cases_Bool}
use Rattle.ct_base.specs.Numbers.{is_in}
use Rattle.ct_props.specs.declared.props.Props.{Props}
use Rattle.ct_props.specs.declared.wanted.Choice.{Choice}
use Rattle.ct_fixture.specs.declared.fixtures.Fixtures.{Fixtures}
use Rattle.ct_fixture.specs.declared.members.Members.{Members}
use Rattle.ct_props.specs.Numbered.{at_number}
use Rattle.ct_fixture.specs.Drawing.{is_drawn, members_of, required_by, keeps_cleanups, keeps_setups}
use Rattle.ct_fixture.specs.Kept.{AddsTests, AreLeft, AreUntaken, Draws, is_drawn_in}
use Rattle.ct_props.proofs.NumberedLemmas.{in_all}
use Rattle.ct_fixture.proofs.KeptLemmas.{left_first}
use Rattle.ct_fixture.proofs.MemberLemmas.{waits_more}
use Rattle.ct_fixture.proofs.RoundLemmas.{IsNumber, chosen_member, draws_test, member_number, members_closed, members_listed}

-- each chosen number is that of a test
abbrev pub AreNumbers : List Props → List ℕ → Type 0
AreNumbers props chosen = All (λ number. (1 ≤ number) × (number ≤ length props)) chosen

-- the state between two tests: the chosen tests are in, and only members are. Each test that waits is in.
-- Each test that is in waits, or the tests that it draws in are in.
pub record IsPartway (choice : Choice) (props : List Props) (chosen : List ℕ) (fixtures : Fixtures) (members : Members) : Type 0 where
  pub left : AreLeft choice props fixtures members
  pub started : (number : ℕ) → is_in chosen number ≡ true → is_drawn_in members number ≡ true
  pub sound : (number : ℕ) → is_drawn_in members number ≡ true → is_in (members_of choice props chosen) number ≡ true
  pub waits_in : (number : ℕ) → is_in members.waiting.items number ≡ true → is_drawn_in members number ≡ true
  pub done : (test : ℕ) → is_drawn_in members test ≡ true → (is_in members.waiting.items test ≡ true) ⊎ ((number : ℕ) → draws_test choice props test number ≡ true → is_drawn_in members number ≡ true)

named_so : (test number : ℕ) → (eqb number test || false) ≡ true → test ≡ number
named_so test number here = elim (or_cases (eqb number test) false here) [ inl is ↦ sym (eqb-true number test is) | inr never ↦ absurd (false≢true never) ]

module _ (choice : Choice) (props : List Props) (chosen : List ℕ) where
  -- the state once the chosen tests are added
  pub begun : (fixtures : Fixtures) (none now : Members) → AreNumbers props chosen → AreUntaken props fixtures → length none.marks.items ≡ length props + 1 → ((number : ℕ) → is_drawn_in none number ≡ false) → none.waiting.items ≡ [] → AddsTests chosen none now → IsPartway choice props chosen fixtures now
  begun fixtures none now numbers whole long out waits added = record {
    left = record {
      long = added.extends.long ∙ long;
      setups = left_first (λ own. own.setup) (keeps_setups choice) props fixtures.setups now whole.setups;
      cleanups = left_first (λ own. own.cleanup) (keeps_cleanups choice) props fixtures.cleanups now whole.cleanups;
    };
    started = λ number there. added.is number ∙ or_right (is_drawn_in none number) (is_in chosen number) there;
    sound = λ number is. elim (or_cases (is_drawn_in none number) (is_in chosen number) (sym (added.is number) ∙ is)) [
      | inl was ↦ absurd (false≢true (sym (out number) ∙ was))
      | inr there ↦ chosen_member choice props chosen number (in_all (IsNumber props) chosen numbers number there) there
    ];
    waits_in = added.extends.waits_in (λ number there. absurd (false≢true (ap (λ tests. is_in tests number) (sym waits) ∙ there)));
    done = λ test is. inl (added.extends.waits test is (out test));
  }

  -- the next test has the number of a test
  pub next_number : (fixtures : Fixtures) (members : Members) (rest : List ℕ) (number : ℕ) → AreNumbers props chosen → members.waiting.items ≡ rest ++ number ∷ [] → IsPartway choice props chosen fixtures members → IsNumber props number
  next_number fixtures members rest number numbers waits partway =
      let here : is_in members.waiting.items number ≡ true =
      ap (λ tests. is_in tests number) waits ∙ waits_more rest number number ∙ or_right (is_in rest number) (eqb number number || false) (or_left (eqb number number) false (eq-eqb number number refl)) in
      member_number choice props chosen (in_all (IsNumber props) chosen numbers) number (partway.sound number (partway.waits_in number here))

  -- the state stays where a test is taken, and the tests that it draws in are added
  pub stepped : (fixtures later : Fixtures) (members taken now : Members) (number : ℕ) → taken.marks ≡ members.marks → members.waiting.items ≡ taken.waiting.items ++ number ∷ [] → AreLeft choice props later now → Draws choice props (required_by (at_number props number)) taken now → IsPartway choice props chosen fixtures members → IsPartway choice props chosen later now
  stepped fixtures later members taken now number marks waits left drawn partway =
      let same = λ (test : ℕ). ap (λ ms. get_or ms.items test false) marks in
      let waited = λ (test : ℕ). ap (λ tests. is_in tests test) waits ∙ waits_more taken.waiting.items number test in
      let here : is_in members.waiting.items number ≡ true =
      waited number ∙ or_right (is_in taken.waiting.items number) (eqb number number || false) (or_left (eqb number number) false (eq-eqb number number refl)) in
      record {
        left = left;
        started = λ test there. drawn.extends.kept test (same test ∙ partway.started test there);
        sound = λ test is. elim (or_cases (is_drawn_in taken test) (is_drawn choice (required_by (at_number props number)) (at_number props test)) (sym (drawn.is test) ∙ is)) [
          | inl was ↦ partway.sound test (sym (same test) ∙ was)
          | inr by ↦ members_closed choice props chosen number test (partway.sound number (partway.waits_in number here)) by
        ];
        waits_in = drawn.extends.waits_in (λ test there. same test ∙ partway.waits_in test (waited test ∙ or_left (is_in taken.waiting.items test) (eqb number test || false) there));
        done = λ test is. elim (cases_Bool (is_drawn_in taken test)) [
          | inl was ↦ elim (partway.done test (sym (same test) ∙ was)) [
            | inl there ↦ elim (or_cases (is_in taken.waiting.items test) (eqb number test || false) (sym (waited test) ∙ there)) [
              | inl still ↦ inl (drawn.extends.waits_still test still)
              | inr at_it ↦ inr (λ other by. drawn.is other ∙ or_right (is_drawn_in taken other) (is_drawn choice (required_by (at_number props number)) (at_number props other)) (ap (λ t. draws_test choice props t other) (sym (named_so test number at_it)) ∙ by))
            ]
            | inr closed ↦ inr (λ other by. drawn.extends.kept other (same other ∙ closed other by))
          ]
          | inr new ↦ inl (drawn.extends.waits test is new)
        ];
      }

  -- where no test waits any more, the tests that are in are the members
  pub ended : (fixtures : Fixtures) (members taken : Members) → AreNumbers props chosen → taken.marks ≡ members.marks → members.waiting.items ≡ [] → IsPartway choice props chosen fixtures members → filter (is_drawn_in taken) (range_with_len 1 (length taken.marks.items - 1)) ≡ members_of choice props chosen
  ended fixtures members taken numbers marks waits partway =
      let count : length members.marks.items - 1 ≡ length props = omega (arith, partway.left.long) in
      ap (λ ms. filter (λ n. get_or ms.items n false) (range_with_len 1 (length ms.items - 1))) marks
      ∙ ap (λ n. filter (is_drawn_in members) (range_with_len 1 n)) count
      ∙ members_listed choice props chosen (is_drawn_in members) (in_all (IsNumber props) chosen numbers) partway.started (λ test number is by. elim (partway.done test is) [
        | inl there ↦ absurd (false≢true (ap (λ tests. is_in tests test) (sym waits) ∙ there))
        | inr closed ↦ closed number by
      ]) partway.sound
