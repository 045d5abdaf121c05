use Rattle.std.proofs.Common.{rules}
use Rattle.serde_json.specs.Errors.{IsMemory}
use Rattle.serde_json.specs.View.{view}
use Rattle.ct_spec.proofs.ReadLemmas.{is_json, is_no_json}
use Rattle.ct_spec.proofs.json.json_in.Goals as goal

pub returns-in-Ok : goal.returns-in-Ok
returns-in-Ok c = is_json c.args.text.now (view c.in-Ok.value) c.in-Ok.ensures.ok.0 c.in-Ok.ensures.ok.1

pub returns-else-is_memory : goal.returns-else-is_memory
returns-else-is_memory c =
    let no : IsMemory c.in-Err.fault → ⊥ = search rules in
    is_no_json c.args.text.now (c.in-Err.ensures.err no)
