use Rattle.std.proofs.Common.{◌≡◌, drop, map}
use Rattle.ct_base.specs.Entries.{entries_of}
use Rattle.ct_regex.specs.TreeOf.{regex_tree}
use Rattle.ct_props.specs.Values.{patterns_of}
use Rattle.ct_props.proofs.PatternLemmas.{behind}
use Rattle.ct_props.proofs.patterns.patterns_of.Given as goal

abbrev pub invariant-loop-text : goal.invariant-loop-text
invariant-loop-text l = behind (map regex_tree l.patterns) (patterns_of (drop l.text-index l.text-items)) ≡ patterns_of (entries_of l.fn.text)
