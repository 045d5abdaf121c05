use Rattle.std.proofs.Common.{◌≡◌, map, fold}
use Rattle.ct_base.specs.Names.{with_new_name}
use Rattle.ct_suite.proofs.words.insert_each.Given as goal

abbrev pub invariant-loop-name : goal.invariant-loop-name
invariant-loop-name l = map (λ key. key.items) l.seen.keys ≡ fold with_new_name (map (λ key. key.items) l.initial.seen.keys) l.yielded
