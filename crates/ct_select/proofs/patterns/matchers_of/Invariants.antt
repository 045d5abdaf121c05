use Rattle.std.proofs.Common.{◌≡◌, take, map}
use Rattle.ct_regex.specs.PatternOf.{pattern_of}
use Rattle.ct_select.proofs.patterns.matchers_of.Given as goal

abbrev pub invariant-loop-pattern : goal.invariant-loop-pattern
invariant-loop-pattern l = map pattern_of l.matchers.items ≡ take l.pattern-index l.patterns
