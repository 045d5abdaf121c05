-- Two readings of the same words and files have the same members, the same tests before each member, and the
-- same setups among these.
use Rattle.std.proofs.Common.{◌≡◌, ◌∙◌, sym, ap, Bool, false, ℕ, zero, suc, List, [], ◌∷◌, length, map, refl}
use Rattle.std.specs.Prelude.{Option, Some, None, Result, Ok, filter, flat_map, option_map, unwrap_or, sum_by, not, ◌||◌, ◌&&◌, ◌==◌}
use Rattle.std.specs.List.{list_all, list_any, range_with_len}
use Rattle.std.proofs.Math.Path.{fun_ext}
use Rattle.std.proofs.lemmas.List.{length-map}
use Rattle.std.proofs.lemmas.List.Elements.{filter_agree}
use Rattle.std.proofs.lemmas.List.Folds.{list_all-map}
use Rattle.std.proofs.lemmas.Option.{slice_get-map}
use Rattle.ct_base.specs.declared.defs.TestDef.{TestDef}
use Rattle.ct_base.specs.Numbers.{is_in}
use Rattle.ct_regex.specs.declared.pattern.Regex.{Regex}
use Rattle.ct_regex.specs.Ends.{hits}
use Rattle.ct_regex.specs.Tree.{Tree}
use Rattle.ct_regex.specs.TreeOf.{regex_tree}
use Rattle.ct_groups.specs.GroupsIn.{no_groups}
use Rattle.ct_props.specs.declared.props.Props.{Props}
use Rattle.ct_props.specs.declared.wanted.Choice.{Choice}
use Rattle.ct_props.specs.declared.wanted.Numbers.{Numbers}
use Rattle.ct_props.specs.Numbered.{at_number}
use Rattle.ct_props.specs.PropsOf.{HasProps}
use Rattle.ct_select.specs.Chosen.{by_name, by_number, chosen_tests, hit_labels, is_chosen, is_chosen_at, is_chosen_by_options, is_chosen_there, is_left_out, is_named_or}
use Rattle.ct_fixture.specs.Drawing.{after_rounds, draws, fixtures_required, is_drawn, is_hit, keeps_cleanups, keeps_setups, next_round, required_by}
use Rattle.ct_graph.specs.Before.{before_of, comes_before, setups_of, sets_up}
use Rattle.ct_graph.specs.Order.{edges_of}
use Rattle.ct_plan.specs.Source.{HaveProps, members_in}

-- two Ok values of one result are the same
pub same_ok : {T E : Type 0} (result : Result T E) (one other : T) → result ≡ Ok one → result ≡ Ok other → one ≡ other
same_ok result one other is also = cc

-- whether the tree of a pattern hits a text; None without a pattern
abbrev hit_by : Option Tree → List ℕ → Option Bool
hit_by tree text = option_map (λ (t : Tree). hits t text) tree

name_hit : (pattern : Option Regex) (text : List ℕ) → by_name pattern text ≡ hit_by (option_map regex_tree pattern) text
name_hit None text = refl
name_hit (Some pattern) text = refl

fixture_hit : (pattern : Option Regex) (text : List ℕ) → is_hit pattern text ≡ unwrap_or (hit_by (option_map regex_tree pattern) text) false
fixture_hit None text = refl
fixture_hit (Some pattern) text = refl

labels_hit : (patterns : List Regex) (labels : List (List ℕ)) → hit_labels patterns labels ≡ list_all (λ tree. list_any (λ label. hits tree label) labels) (map regex_tree patterns)
labels_hit patterns labels = sym (list_all-map (λ tree. list_any (λ label. hits tree label) labels) regex_tree patterns)

-- patterns with the same trees are as many
pub trees_length : (a b : List Regex) → map regex_tree a ≡ map regex_tree b → length a ≡ length b
trees_length a b alike = sym (length-map a regex_tree) ∙ ap (λ (trees : List Tree). length trees) alike ∙ length-map b regex_tree

-- two choices have equal trees for their patterns, and agree in all else
pub record IsSameChoice (one other : Choice) : Type 0 where
  pub name : option_map regex_tree one.name ≡ option_map regex_tree other.name
  pub not_name : option_map regex_tree one.not_name ≡ option_map regex_tree other.not_name
  pub labels : map regex_tree one.labels ≡ map regex_tree other.labels
  pub not_labels : map regex_tree one.not_labels ≡ map regex_tree other.not_labels
  pub numbers : one.numbers ≡ other.numbers
  pub union : one.union ≡ other.union
  pub keep_any : option_map regex_tree one.keep_any ≡ option_map regex_tree other.keep_any
  pub keep_setup : option_map regex_tree one.keep_setup ≡ option_map regex_tree other.keep_setup
  pub keep_cleanup : option_map regex_tree one.keep_cleanup ≡ option_map regex_tree other.keep_cleanup
  pub only : one.only ≡ other.only

-- choices that are the same by `IsSameChoice` have the same members
module _ (one other : Choice) (same : IsSameChoice one other) where
  name_same : (a b : Option Regex) (text : List ℕ) → option_map regex_tree a ≡ option_map regex_tree b → by_name a text ≡ by_name b text
  name_same a b text alike = name_hit a text ∙ ap (λ tree. hit_by tree text) alike ∙ sym (name_hit b text)

  fixture_same : (a b : Option Regex) (text : List ℕ) → option_map regex_tree a ≡ option_map regex_tree b → is_hit a text ≡ is_hit b text
  fixture_same a b text alike = fixture_hit a text ∙ ap (λ tree. unwrap_or (hit_by tree text) false) alike ∙ sym (fixture_hit b text)

  labels_same : (a b : List Regex) (labels : List (List ℕ)) → map regex_tree a ≡ map regex_tree b → hit_labels a labels ≡ hit_labels b labels
  labels_same a b labels alike = labels_hit a labels ∙ ap (list_all (λ tree. list_any (λ label. hits tree label) labels)) alike ∙ sym (labels_hit b labels)

  left_out_same : (a b : List Regex) (labels : List (List ℕ)) → map regex_tree a ≡ map regex_tree b → is_left_out a labels ≡ is_left_out b labels
  left_out_same a b labels alike =
      ap (λ n. not (n == 0) && hit_labels a labels) (trees_length a b alike) ∙ ap (λ hit. not (length b == 0) && hit) (labels_same a b labels alike)

  options_same : (numbered : Option Bool) (def : TestDef) (own : Props) → is_chosen_by_options one numbered def own ≡ is_chosen_by_options other numbered def own
  options_same numbered def own =
      rw (same.union, name_same one.name other.name def.name same.name, name_same one.not_name other.not_name def.name same.not_name, labels_same one.labels other.labels own.labels same.labels, left_out_same one.not_labels other.not_labels own.labels same.not_labels) refl

  chosen_same : (numbered : Option Bool) (def : TestDef) (own : Props) → is_chosen one numbered def own ≡ is_chosen other numbered def own
  chosen_same numbered def own =
      ap (λ (only : Option (List (List ℕ))). is_named_or only def.name (is_chosen_by_options one numbered def own)) same.only
      ∙ ap (is_named_or other.only def.name) (options_same numbered def own)

  there_same : (numbered : Option Bool) (def : Option TestDef) (own : Option Props) → is_chosen_there one numbered def own ≡ is_chosen_there other numbered def own
  there_same numbered None own = refl
  there_same numbered (Some def) None = refl
  there_same numbered (Some def) (Some own) = chosen_same numbered def own

  number_same : (count number : ℕ) → by_number one count number ≡ by_number other count number
  number_same count number = ap (λ (numbers : Option Numbers). by_number (record one { numbers = numbers }) count number) same.numbers

  chosen_at_same : (defs : List TestDef) (props : List Props) (number : ℕ) → is_chosen_at defs props one number ≡ is_chosen_at defs props other number
  chosen_at_same defs props number =
      ap (λ numbered. is_chosen_there one numbered (at_number defs number) (at_number props number)) (number_same (length defs) number)
      ∙ there_same (by_number other (length defs) number) (at_number defs number) (at_number props number)

  setups_same : keeps_setups one ≡ keeps_setups other
  setups_same = fun_ext λ fixture. rw (fixture_same one.keep_any other.keep_any fixture same.keep_any, fixture_same one.keep_setup other.keep_setup fixture same.keep_setup) refl

  cleanups_same : keeps_cleanups one ≡ keeps_cleanups other
  cleanups_same = fun_ext λ fixture. rw (fixture_same one.keep_any other.keep_any fixture same.keep_any, fixture_same one.keep_cleanup other.keep_cleanup fixture same.keep_cleanup) refl

  draws_same : (own : Props) (fixture : List ℕ) → draws one own fixture ≡ draws other own fixture
  draws_same own fixture = rw (ap (λ f. f fixture) setups_same, ap (λ f. f fixture) cleanups_same) refl

  drawn_same : (fixtures : List (List ℕ)) (own : Option Props) → is_drawn one fixtures own ≡ is_drawn other fixtures own
  drawn_same fixtures None = refl
  drawn_same fixtures (Some own) = ap (λ (test : List ℕ → Bool). list_any test fixtures) (fun_ext λ fixture. draws_same own fixture)

  rounds_same : (defs : List TestDef) (props : List Props) (rounds : ℕ) → after_rounds one props (chosen_tests defs props one) rounds ≡ after_rounds other props (chosen_tests defs props other) rounds
  rounds_same defs props zero = filter_agree (is_chosen_at defs props one) (is_chosen_at defs props other) (chosen_at_same defs props) (range_with_len 1 (length defs))
  rounds_same defs props (suc rounds) =
      let tests = after_rounds other props (chosen_tests defs props other) rounds in
      ap (next_round one props) (rounds_same defs props rounds)
      ∙ filter_agree (λ number. is_in tests number || is_drawn one (fixtures_required props tests) (at_number props number)) (λ number. is_in tests number || is_drawn other (fixtures_required props tests) (at_number props number))
      (λ number. ap (λ drawn. is_in tests number || drawn) (drawn_same (fixtures_required props tests) (at_number props number))) (range_with_len 1 (length props))

  pub choice_members : (defs : List TestDef) (props : List Props) → members_in one defs props ≡ members_in other defs props
  choice_members defs props = rounds_same defs props (length props)

-- the properties that choices and links use; each other property has one fixed value
abbrev pub plain : Props → Props
plain own =
    record own {
      processors = 0;
      locks = [];
      shared = [];
      serial = false;
      fail = [];
      pass = [];
      skip = [];
      skip_code = None;
      will_fail = false;
      timeout = None;
      cost = None;
      environment = [];
      modification = [];
      required_files = [];
      working_dir = [];
      groups = no_groups;
    }

pub mapped_at : {A B : Type 0} (f : A → B) (items : List A) (number : ℕ) → at_number (map f items) number ≡ option_map f (at_number items number)
mapped_at f items zero = refl
mapped_at f items (suc place) = slice_get-map f items place

-- the plain properties lead to the same members, and the same tests before each, as the properties
module _ (choice : Choice) (defs : List TestDef) (props : List Props) where
  plain_there : (numbered : Option Bool) (def : Option TestDef) (own : Option Props) → is_chosen_there choice numbered def (option_map plain own) ≡ is_chosen_there choice numbered def own
  plain_there numbered None own = refl
  plain_there numbered (Some def) None = refl
  plain_there numbered (Some def) (Some own) = refl

  plain_chosen : (number : ℕ) → is_chosen_at defs (map plain props) choice number ≡ is_chosen_at defs props choice number
  plain_chosen number =
      ap (λ own. is_chosen_there choice (by_number choice (length defs) number) (at_number defs number) own) (mapped_at plain props number)
      ∙ plain_there (by_number choice (length defs) number) (at_number defs number) (at_number props number)

  plain_requires : (own : Option Props) → required_by (option_map plain own) ≡ required_by own
  plain_requires None = refl
  plain_requires (Some own) = refl

  plain_required : (tests : List ℕ) → fixtures_required (map plain props) tests ≡ fixtures_required props tests
  plain_required tests = ap (λ (by : ℕ → List (List ℕ)). flat_map by tests) (fun_ext λ number. ap required_by (mapped_at plain props number) ∙ plain_requires (at_number props number))

  plain_draws : (fixtures : List (List ℕ)) (own : Option Props) → is_drawn choice fixtures (option_map plain own) ≡ is_drawn choice fixtures own
  plain_draws fixtures None = refl
  plain_draws fixtures (Some own) = refl

  plain_drawn : (tests : List ℕ) (number : ℕ) → is_drawn choice (fixtures_required (map plain props) tests) (at_number (map plain props) number) ≡ is_drawn choice (fixtures_required props tests) (at_number props number)
  plain_drawn tests number =
      ap (λ fixtures. is_drawn choice fixtures (at_number (map plain props) number)) (plain_required tests)
      ∙ ap (is_drawn choice (fixtures_required props tests)) (mapped_at plain props number)
      ∙ plain_draws (fixtures_required props tests) (at_number props number)

  plain_round : (tests : List ℕ) → next_round choice (map plain props) tests ≡ next_round choice props tests
  plain_round tests =
      ap (λ (count : ℕ). filter (λ number. is_in tests number || is_drawn choice (fixtures_required (map plain props) tests) (at_number (map plain props) number)) (range_with_len 1 count)) (length-map props plain)
      ∙ filter_agree (λ number. is_in tests number || is_drawn choice (fixtures_required (map plain props) tests) (at_number (map plain props) number)) (λ number. is_in tests number || is_drawn choice (fixtures_required props tests) (at_number props number))
      (λ number. ap (λ drawn. is_in tests number || drawn) (plain_drawn tests number)) (range_with_len 1 (length props))

  plain_rounds : (rounds : ℕ) → after_rounds choice (map plain props) (chosen_tests defs (map plain props) choice) rounds ≡ after_rounds choice props (chosen_tests defs props choice) rounds
  plain_rounds zero = filter_agree (is_chosen_at defs (map plain props) choice) (is_chosen_at defs props choice) plain_chosen (range_with_len 1 (length defs))
  plain_rounds (suc rounds) = ap (next_round choice (map plain props)) (plain_rounds rounds) ∙ plain_round (after_rounds choice props (chosen_tests defs props choice) rounds)

  plain_members : members_in choice defs (map plain props) ≡ members_in choice defs props
  plain_members =
      ap (λ (rounds : ℕ). after_rounds choice (map plain props) (chosen_tests defs (map plain props) choice) rounds) (length-map props plain) ∙ plain_rounds (length props)

  plain_comes : (def : Option TestDef) (earlier later : Option Props) → comes_before def (option_map plain earlier) (option_map plain later) ≡ comes_before def earlier later
  plain_comes None earlier later = refl
  plain_comes (Some def) None later = refl
  plain_comes (Some def) (Some earlier) None = refl
  plain_comes (Some def) (Some earlier) (Some later) = refl

  plain_before : (members : List ℕ) (number : ℕ) → before_of defs (map plain props) members number ≡ before_of defs props members number
  plain_before members number =
      filter_agree (λ j. comes_before (at_number defs j) (at_number (map plain props) j) (at_number (map plain props) number)) (λ j. comes_before (at_number defs j) (at_number props j) (at_number props number))
      (λ j.
      ap (λ earlier. comes_before (at_number defs j) earlier (at_number (map plain props) number)) (mapped_at plain props j)
      ∙ ap (comes_before (at_number defs j) (option_map plain (at_number props j))) (mapped_at plain props number)
      ∙ plain_comes (at_number defs j) (at_number props j) (at_number props number)) members

-- the plain properties tell whether a test sets up another
sets_up_plain : (earlier later : Option Props) → sets_up (option_map plain earlier) (option_map plain later) ≡ sets_up earlier later
sets_up_plain None later = refl
sets_up_plain (Some earlier) None = refl
sets_up_plain (Some earlier) (Some later) = refl

-- the plain properties lead to the same setups before each test as the properties
plain_setups : (props : List Props) (members : List ℕ) (number : ℕ) → setups_of (map plain props) members number ≡ setups_of props members number
plain_setups props members number =
    filter_agree (λ j. sets_up (at_number (map plain props) j) (at_number (map plain props) number)) (λ j. sets_up (at_number props j) (at_number props number))
    (λ j.
    ap (λ earlier. sets_up earlier (at_number (map plain props) number)) (mapped_at plain props j)
    ∙ ap (sets_up (option_map plain (at_number props j))) (mapped_at plain props number)
    ∙ sets_up_plain (at_number props j) (at_number props number)) members

-- two readings of the properties of a test have the same plain properties
plain_same : (def : TestDef) (one other : Props) → HasProps def one → HasProps def other → plain one ≡ plain other
plain_same def one other has own =
    rw (has.depends, own.depends, has.setup, own.setup, has.required, own.required, has.cleanup, own.cleanup, has.disabled, own.disabled, has.labels, own.labels) refl

pub all_plain_same : (defs : List TestDef) (one other : List Props) → HaveProps defs one → HaveProps defs other → map plain one ≡ map plain other
all_plain_same [] [] [] have own = refl
all_plain_same [] [] (q ∷ qs) have own = absurd own
all_plain_same [] (p ∷ ps) other have own = absurd have
all_plain_same (def ∷ defs) [] other have own = absurd have
all_plain_same (def ∷ defs) (p ∷ ps) [] have own = absurd own
all_plain_same (def ∷ defs) (p ∷ ps) (q ∷ qs) have own =
    ap (λ first. first ∷ map plain ps) (plain_same def p q have.0 own.0) ∙ ap (λ rest. plain q ∷ rest) (all_plain_same defs ps qs have.1 own.1)

-- two readings of the properties of the same tests, by choices with the same trees
module _ (defs : List TestDef) (one other : List Props) (have : HaveProps defs one) (own : HaveProps defs other) (choice chosen : Choice) (same : IsSameChoice choice chosen) where
  pub members_same : members_in choice defs one ≡ members_in chosen defs other
  members_same =
      sym (plain_members choice defs one) ∙ ap (members_in choice defs) (all_plain_same defs one other have own) ∙ plain_members choice defs other ∙ choice_members choice chosen same defs other

  pub before_same : before_of defs one (members_in choice defs one) ≡ before_of defs other (members_in chosen defs other)
  before_same = fun_ext λ number.
      ap (λ members. before_of defs one members number) members_same
      ∙ sym (plain_before choice defs one (members_in chosen defs other) number)
      ∙ ap (λ props. before_of defs props (members_in chosen defs other) number) (all_plain_same defs one other have own)
      ∙ plain_before choice defs other (members_in chosen defs other) number

  pub edges_same : edges_of defs one (members_in choice defs one) ≡ edges_of defs other (members_in chosen defs other)
  edges_same =
      ap (λ (before : ℕ → List ℕ). sum_by (λ number. length (before number)) (members_in choice defs one)) before_same
      ∙ ap (sum_by (λ number. length (before_of defs other (members_in chosen defs other) number))) members_same

  pub set_up_same : setups_of one (members_in choice defs one) ≡ setups_of other (members_in chosen defs other)
  set_up_same = fun_ext λ number.
      ap (λ (members : List ℕ). setups_of one members number) members_same
      ∙ sym (plain_setups one (members_in chosen defs other) number)
      ∙ ap (λ (props : List Props). setups_of props (members_in chosen defs other) number) (all_plain_same defs one other have own)
      ∙ plain_setups other (members_in chosen defs other) number
