use Rattle.std.proofs.Common.{◌≡◌, ◌++◌, drop, map}
use Rattle.serde_json.specs.View.{view}
use Rattle.ct_info.specs.Info.{text_value}
use Rattle.ct_info.proofs.entry.text_values.Given as goal

abbrev pub invariant-loop-text : goal.invariant-loop-text
invariant-loop-text l = map view l.values.items ++ map text_value (drop l.text-index l.texts) ≡ map text_value l.texts
