use Rattle.std.proofs.Common.{◌≡◌, ◌++◌, drop, map}
use Rattle.serde_json.specs.View.{view}
use Rattle.ct_info.specs.Info.{property_value}
use Rattle.ct_info.proofs.entry.property_values.Given as goal

abbrev pub invariant-loop-pair : goal.invariant-loop-pair
invariant-loop-pair l = map view l.values.items ++ map property_value (drop l.pair-index l.props) ≡ map property_value l.props
