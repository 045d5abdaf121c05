use Rattle.std.proofs.Common.{◌≡◌, ℕ, ◌<◌, ◌||◌, vec_len, length, option_map, ◌∙◌, arith}
use Rattle.std.proofs.lemmas.List.Elements.{All-same, All-weaker}
use Rattle.std.proofs.lemmas.Result.{on_ok_weaker}
use Rattle.ct_regex.specs.PatternOf.{pattern_of}
use Rattle.ct_fixture.specs.declared.fixtures.Fixtures.{Fixtures}
use Rattle.ct_fixture.specs.Drawing.{is_hit}
use Rattle.ct_fixture.specs.Kept.{given, fixture_tests}
use Rattle.ct_fixture.proofs.KeptLemmas.{drawn_one, given_all, given_same, marks_still}
use Rattle.ct_fixture.proofs.drawing.draw.Goals as goal

pub add_all-requires : goal.add_all-requires
add_all-requires c =
    let marks = c.args.members.now.marks in
    let matchers = c.args.matchers.now in
    let fixture = c.args.fixture.now in
    let tests = fixture_tests c.args.fixtures.now.setups fixture in
    let kept = is_hit (option_map pattern_of matchers.any) fixture || is_hit (option_map pattern_of matchers.setup) fixture in
    let low = λ (number : ℕ). number < length marks.items in
    let there = λ (number : ℕ). number < vec_len marks in
    All-same there c.deref.result.now (given kept tests) (c.deref.ensures.value ∙ c.take_unless-setups.ensures.gives) (All-weaker low there (λ number below. omega (arith, below, marks.ok.0)) (given kept tests) (given_all low kept tests (c.requires.marks.setups fixture)))

pub add_all-requires-2 : goal.add_all-requires-2
add_all-requires-2 c =
    let marks = c.add_all.new.self.marks in
    let fixture = c.args.fixture.now in
    let tests = fixture_tests c.args.fixtures.now.cleanups fixture in
    let kept = is_hit (option_map pattern_of c.take_unless-setups.new.any) fixture || is_hit (option_map pattern_of c.args.matchers.now.cleanup) fixture in
    let low = λ (number : ℕ). number < length c.args.members.now.marks.items in
    let there = λ (number : ℕ). number < vec_len marks in
    All-same there c.deref-2.result.now (given kept tests) (c.deref-2.ensures.value ∙ c.take_unless-cleanups.ensures.gives) (All-weaker low there (λ number below. omega (arith, below, marks.ok.0, c.in_ok-add_all.ensures.extends.long)) (given kept tests) (given_all low kept tests (c.requires.marks.cleanups fixture)))

pub returns-clause-marks : goal.returns-clause-marks
returns-clause-marks c =
    let now : Fixtures = record { setups = c.take_unless-setups.new.tests; cleanups = c.take_unless-cleanups.new.tests } in
    on_ok_weaker c.add_all-2.result (λ added. marks_still c.args.fixture.now c.args.fixtures.now now c.args.members.now c.add_all-2.new.self c.take_unless-setups.ensures.leaves c.take_unless-cleanups.ensures.leaves (added.extends.long ∙ c.in_ok-add_all.ensures.extends.long) c.requires.marks) c.add_all-2.ensures

pub returns-clause-taken : goal.returns-clause-taken
returns-clause-taken c =
    let fixture = c.args.fixture.now in
    let before = c.args.fixtures.now in
    let matchers = c.args.matchers.now in
    let now : Fixtures = record { setups = c.take_unless-setups.new.tests; cleanups = c.take_unless-cleanups.new.tests } in
    on_ok_weaker c.add_all-2.result (λ added choice props matching left.
    let any : option_map pattern_of c.take_unless-setups.new.any ≡ choice.keep_any = c.take_unless-setups.ensures.any ∙ matching.any in
    let setups = c.deref.ensures.value ∙ c.take_unless-setups.ensures.gives ∙ given_same (option_map pattern_of matchers.any) (option_map pattern_of matchers.setup) choice.keep_any choice.keep_setup fixture (fixture_tests before.setups fixture) matching.any matching.setup in
    let cleanups = c.deref-2.ensures.value ∙ c.take_unless-cleanups.ensures.gives ∙ given_same (option_map pattern_of c.take_unless-setups.new.any) (option_map pattern_of matchers.cleanup) choice.keep_any choice.keep_cleanup fixture (fixture_tests before.cleanups fixture) any matching.cleanup in
    let drawn = drawn_one choice props fixture before now c.deref.result.now c.deref-2.result.now c.args.members.now c.add_all.new.self c.add_all-2.new.self left
    c.take_unless-setups.ensures.leaves setups c.in_ok-add_all.ensures
    c.take_unless-cleanups.ensures.leaves cleanups added in (
      record {
        any = c.take_unless-cleanups.ensures.any ∙ any;
        setup = c.take_unless-setups.ensures.side ∙ matching.setup;
        cleanup = c.take_unless-cleanups.ensures.side ∙ matching.cleanup;
      },
      drawn.0,
      drawn.1,
    )) c.add_all-2.ensures
