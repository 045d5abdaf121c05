use Rattle.std.proofs.Common.{◌≡◌, ◌+◌, ◌-◌, ◌≤◌, length, drop}
use Rattle.ct_args.specs.Given.{options_from, options_in}
use Rattle.ct_args.specs.Slots.{no_slots, slots_behind, slots_of_settings}
use Rattle.ct_args.proofs.settings.Settings.read.Given as goal

abbrev pub invariant-words : goal.invariant-words
invariant-words l = record {
  so_far : slots_behind (slots_of_settings l.settings) (options_from (l.count + 1) (drop l.count l.words)) ≡ slots_behind no_slots (options_in l.words);
  within : l.count ≤ length l.words;
}

abbrev pub decreases-words : goal.decreases-words
decreases-words l = length l.words - l.count
