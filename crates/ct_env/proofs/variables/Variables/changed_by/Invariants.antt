use Rattle.std.proofs.Common.{ℕ, ◌≡◌, List, drop}
use Rattle.ct_props.specs.Values.{value_of_key}
use Rattle.ct_env.specs.Environment.{after_entries}
use Rattle.ct_env.proofs.variables.Variables.changed_by.Given as goal

abbrev pub invariant-loop-entry : goal.invariant-loop-entry
invariant-loop-entry l = (name : List ℕ) → after_entries name (value_of_key l.base name) (value_of_key l.variables name) (drop l.entry-index l.entries) ≡ after_entries name (value_of_key l.base name) (value_of_key l.fn.self name) l.entries
