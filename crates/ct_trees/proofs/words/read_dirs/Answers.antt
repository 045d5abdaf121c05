use Rattle.std.proofs.Common.{rules, ◌≡◌, ◌*◌, ◌++◌, ◌∷◌, [], length, drop, Some, None}
use Rattle.ct_trees.specs.TreeReading.{dirs_or_fault}
use Rattle.ct_trees.specs.TreeWords.{dir_fault, front_dir}
use Rattle.ct_trees.proofs.WordLemmas.{dirs_next, few_next, within_next}
use Rattle.ct_trees.proofs.words.read_dirs.Goals as goal

pub trees-preserved : goal.trees-preserved
trees-preserved c =
    let words = c.args.words.now in
    let dirs = c.trees.dirs in
    let dir = c.in-Some.dir.now in
    let new = c.push.new.self in
    let is : new ≡ dirs ++ dir ∷ [] = search rules in
    let one : front_dir (drop (2 * length dirs) words) ≡ Some dir = search rules in
    let good : dir_fault dirs dir ≡ None = search rules in
    record {
      so_far = dirs_next words dirs dir new one is (dirs_or_fault [] words) c.trees.invariant.so_far good;
      within = within_next words dirs dir new one is c.trees.invariant.within;
      few = few_next dirs dir new is good;
    }
