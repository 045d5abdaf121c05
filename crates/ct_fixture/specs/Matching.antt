-- The matchers of -FA, -FS and -FC, each of which tries its pattern on fixtures. This project's own.
use Rattle.std.specs.Prelude.{◌≡◌, option_map}
use Rattle.ct_regex.specs.PatternOf.{pattern_of}
use Rattle.ct_props.specs.declared.wanted.Choice.{Choice}
use Rattle.ct_fixture.specs.declared.patterns.FixtureMatchers.{FixtureMatchers}

-- there is a matcher for each pattern of the choice
pub record AreFixtureMatchersOf (choice : Choice) (matchers : FixtureMatchers) : Type 0 where
  pub any : option_map pattern_of matchers.any ≡ choice.keep_any
  pub setup : option_map pattern_of matchers.setup ≡ choice.keep_setup
  pub cleanup : option_map pattern_of matchers.cleanup ≡ choice.keep_cleanup
