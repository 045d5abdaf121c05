use Rattle.std.proofs.Common.{◌≡◌, take}
use Rattle.ct_graph.specs.Found.{bytes_of}
use Rattle.ct_graph.proofs.by_name.all_bytes.Given as goal

abbrev pub invariant-loop-name : goal.invariant-loop-name
invariant-loop-name l = bytes_of l.all.items ≡ take l.name-index l.names
