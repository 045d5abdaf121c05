-- Which tests are chosen. Source: CMake manual, ctest(1), -R, -E, -L, -LE, -I, -U, --rerun-failed.
-- The rule of -U, and that --rerun-failed goes by names, is this project's own.
use Rattle.std.specs.Prelude.{ℕ, ◌+◌, ◌*◌, nat_le, ◌==◌, Bool, true, false, not, ◌&&◌, ◌||◌, List, length, filter, Option, Some, None, unwrap_or, option_map, if◌then◌else◌}
use Rattle.std.specs.List.{list_any, list_all, range_with_len}
use Rattle.ct_base.specs.declared.defs.TestDef.{TestDef}
use Rattle.ct_base.specs.Numbers.{is_in}
use Rattle.ct_regex.specs.declared.pattern.Regex.{Regex}
use Rattle.ct_regex.specs.Ends.{hits}
use Rattle.ct_regex.specs.TreeOf.{regex_tree}
use Rattle.ct_props.specs.Numbered.{at_number}
use Rattle.ct_props.specs.declared.props.Props.{Props}
use Rattle.ct_props.specs.declared.wanted.Numbers.{Numbers}
use Rattle.ct_props.specs.declared.wanted.Choice.{Choice}
use Rattle.ct_base.specs.Names.{is_among}

-- the number is start + k * stride for some k from 0; no k above the number can serve
abbrev pub is_on_stride : ℕ → ℕ → ℕ → Bool
is_on_stride start stride number =
    list_any (λ k. start + k * stride == number) (range_with_len 0 (number + 1))

-- -I admits the number among so many tests: it is on the stride and at most the end, or is one of the others
abbrev pub is_numbered : ℕ → Numbers → ℕ → Bool
is_numbered count numbers number =
    is_on_stride numbers.start numbers.stride number && nat_le number (unwrap_or numbers.end count)
    || is_in numbers.more number

-- whether -I admits the number, where it was given
abbrev pub by_number : Choice → ℕ → ℕ → Option Bool
by_number choice count number =
    option_map (λ (numbers : Numbers). is_numbered count numbers number) choice.numbers

-- whether a pattern hits the name, where it was given
abbrev pub by_name : Option Regex → List ℕ → Option Bool
by_name pattern name = option_map (λ (p : Regex). hits (regex_tree p) name) pattern

-- -R and -I admit the test, by what each says where it was given; where both were given, both must admit,
-- with -U one
abbrev pub admit : Bool → Option Bool → Option Bool → Bool
admit union None None = true
admit union (Some named) None = named
admit union None (Some numbered) = numbered
admit union (Some named) (Some numbered) = if union then named || numbered else named && numbered

-- the pattern hits some label
abbrev pub hits_label : List (List ℕ) → Regex → Bool
hits_label labels pattern = list_any (λ label. hits (regex_tree pattern) label) labels

-- each pattern hits some label
abbrev pub hit_labels : List Regex → List (List ℕ) → Bool
hit_labels patterns labels = list_all (hits_label labels) patterns

-- -LE was given, and each of its patterns hits some label
abbrev pub is_left_out : List Regex → List (List ℕ) → Bool
is_left_out patterns labels = not (length patterns == 0) && hit_labels patterns labels

-- the options choose a test where -R and -I admit it, -E does not hit its name, each -L hits some label, and
-- -LE does not leave it out
abbrev pub is_chosen_by_options : Choice → Option Bool → TestDef → Props → Bool
is_chosen_by_options choice numbered def own =
    admit choice.union (by_name choice.name def.name) numbered
    && not (unwrap_or (by_name choice.not_name def.name) false)
    && hit_labels choice.labels own.labels
    && not (is_left_out choice.not_labels own.labels)

-- where names are given, the name is one of these, whatever the options say; otherwise the options decide
abbrev pub is_named_or : Option (List (List ℕ)) → List ℕ → Bool → Bool
is_named_or None name by_options = by_options
is_named_or (Some only) name by_options = is_among name only

-- a test is chosen where its name is one of those that alone are asked for, or, without such names, where the
-- options choose it
abbrev pub is_chosen : Choice → Option Bool → TestDef → Props → Bool
is_chosen choice numbered def own =
    is_named_or choice.only def.name (is_chosen_by_options choice numbered def own)

-- the test is there and chosen
abbrev pub is_chosen_there : Choice → Option Bool → Option TestDef → Option Props → Bool
is_chosen_there choice numbered None own = false
is_chosen_there choice numbered (Some def) None = false
is_chosen_there choice numbered (Some def) (Some own) = is_chosen choice numbered def own

-- the test with this number is chosen; numbers count from 1
abbrev pub is_chosen_at : List TestDef → List Props → Choice → ℕ → Bool
is_chosen_at defs props choice number =
    is_chosen_there choice (by_number choice (length defs) number) (at_number defs number)
    (at_number props number)

-- the numbers of the chosen tests, which ascend
abbrev pub chosen_tests : List TestDef → List Props → Choice → List ℕ
chosen_tests defs props choice = filter (is_chosen_at defs props choice) (range_with_len 1 (length defs))
