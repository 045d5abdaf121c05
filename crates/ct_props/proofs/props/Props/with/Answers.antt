use Rattle.std.proofs.Common.{rules}
use Rattle.ct_props.proofs.props.Props.with.Goals as goal

pub returns : goal.returns
returns c =
    let checked = c.requires.checked in
    let fixtures = c.requires.unchecked.fixtures in
    let waits = c.requires.unchecked.waits in
    let surroundings = c.requires.unchecked.surroundings in
    record {
      depends = waits.depends;
      setup = fixtures.setup;
      required = fixtures.required;
      cleanup = fixtures.cleanup;
      disabled = search rules;
      processors = checked.processors;
      locks = waits.locks;
      shared = waits.shared;
      serial = search rules;
      fail = checked.fail;
      pass = checked.pass;
      skip = checked.skip;
      skip_code = checked.skip_code;
      will_fail = search rules;
      timeout = checked.timeout;
      cost = checked.cost;
      environment = surroundings.environment;
      modification = surroundings.modification;
      required_files = surroundings.required_files;
      labels = c.requires.unchecked.labels;
      working_dir = surroundings.working_dir;
      groups = checked.groups;
    }
