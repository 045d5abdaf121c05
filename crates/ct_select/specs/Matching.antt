-- The matchers of a choice, each of which tries its pattern on names or labels. This project's own.
use Rattle.std.specs.Prelude.{◌≡◌, map, option_map}
use Rattle.ct_regex.specs.PatternOf.{pattern_of}
use Rattle.ct_props.specs.declared.wanted.Choice.{Choice}
use Rattle.ct_select.specs.declared.patterns.Matchers.{Matchers}

-- there is a matcher for each pattern of the choice, in order
pub record AreMatchersOf (choice : Choice) (matchers : Matchers) : Type 0 where
  pub name : option_map pattern_of matchers.name ≡ choice.name
  pub not_name : option_map pattern_of matchers.not_name ≡ choice.not_name
  pub labels : map pattern_of matchers.labels.items ≡ choice.labels
  pub not_labels : map pattern_of matchers.not_labels.items ≡ choice.not_labels
