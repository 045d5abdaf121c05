use Rattle.std.proofs.Common.{◌≡◌, [], take}
use Rattle.ct_core.specs.Followers.{followers_among}
use Rattle.ct_core.proofs.followers.none_each.Given as goal

abbrev pub invariant-loop-at : goal.invariant-loop-at
invariant-loop-at l = l.followers.items ≡ followers_among [] (take l.at l.tests)
