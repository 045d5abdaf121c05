use Rattle.std.proofs.Common.{◌≡◌, ◌*◌, ◌-◌, ◌≤◌, length, drop, []}
use Rattle.ct_trees.specs.TreeReading.{dirs_or_fault}
use Rattle.ct_trees.proofs.words.read_dirs.Given as goal

abbrev pub invariant-trees : goal.invariant-trees
invariant-trees l = record {
  so_far : dirs_or_fault l.dirs (drop (2 * length l.dirs) l.words) ≡ dirs_or_fault [] l.words;
  within : 2 * length l.dirs ≤ length l.words;
  few : length l.dirs ≤ 64;
}

abbrev pub decreases-trees : goal.decreases-trees
decreases-trees l = 64 - length l.dirs
