use Rattle.std.proofs.Common.{◌≡◌, map, take}
use Rattle.ct_base.specs.Path.{joined}
use Rattle.ct_props.proofs.folder.all_below.Given as goal

abbrev pub invariant-loop-name : goal.invariant-loop-name
invariant-loop-name l = l.paths ≡ map (joined l.dir) (take l.name-index l.names)
