-- The tests of a call, and the first property of them that is refused.
-- Source: CMake manual, cmake-properties(7), Properties on Tests.
-- The order of refusals is this project's choice.
use Rattle.std.specs.Prelude.{◌≡◌, ℕ, ◌-◌, ◌≤◌, List, [], take, All, Some, None, is_some, ⊤}
use Rattle.ct_base.specs.declared.defs.Pair.{Pair}
use Rattle.ct_base.specs.declared.defs.TestDef.{TestDef}
use Rattle.ct_props.specs.declared.fault.PropKind.{PropKind}
use Rattle.ct_props.specs.declared.props.Props.{Props}
use Rattle.ct_props.specs.Refusal.{IsLeastRefused, refused_as}
use Rattle.ct_props.specs.Numbered.{at_number}
use Rattle.ct_plan.specs.Source.{Source}
use Rattle.ct_worker.specs.Gates.{Terms}
use Rattle.ct_app.specs.declared.outcome.Outcome.{Outcome}
use Rattle.ct_app.specs.declared.outcome.Outcome.TheVariants.{Refused, Memory}
use Rattle.ct_app.specs.declared.outcome.Refusal.TheVariants.{Prop}

-- the terms of a run's attempts: its own environment, the tests and properties of the source, and the time
-- limit of a test without a limit of its own. Slots are lent where the source has resources.
abbrev pub terms_from : List Pair → Source → ℕ → Terms
terms_from own source limit = record {
  own = own;
  defs = source.defs;
  props = source.props;
  limit = limit;
  lends = is_some source.resources;
}

-- the properties without the names that link tests: those of DEPENDS, and those of fixtures
abbrev pub without_links : Props → Props
without_links own = record own { depends = []; setup = []; required = []; cleanup = [] }

-- no property of the test is refused
abbrev pub IsUnrefused : TestDef → Type 0
IsUnrefused def = (key : List ℕ) → refused_as def.props key ≡ None

-- this test is the first with a refused property, and this is the least refused key of the test
pub record RefusesFirst (defs : List TestDef) (test : ℕ) (key : List ℕ) (kind : PropKind) : Type 0 where
  pub low : 1 ≤ test
  pub def : TestDef
  pub there : at_number defs test ≡ Some def
  pub least : IsLeastRefused def.props key kind
  pub first : All IsUnrefused (take (test - 1) defs)

-- the outcome refuses the least refused property of this test, or is Memory, which may come at any time
abbrev pub RefusesTest : ℕ → TestDef → Outcome → Type 0
RefusesTest number def (Refused (Prop test key kind)) = (test ≡ number) × IsLeastRefused def.props key kind
RefusesTest number def Memory = ⊤
RefusesTest number def outcome = ⊥

-- the outcome refuses the first test with a refused property, or is Memory, which may come at any time
abbrev pub RefusesTests : List TestDef → Outcome → Type 0
RefusesTests defs (Refused (Prop test key kind)) = RefusesFirst defs test key kind
RefusesTests defs Memory = ⊤
RefusesTests defs outcome = ⊥
