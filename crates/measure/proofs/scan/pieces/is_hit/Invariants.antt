use Rattle.std.proofs.Common.{◌≡◌, ℕ, List, ◌++◌, length}
use Rattle.ct_regex.specs.TreeOf.{regex_tree}
use Rattle.ct_regex.specs.Scan.{StandsFor}
use Rattle.measure.proofs.scan.pieces.is_hit.Given as goal

-- what was fed and what is left make the text, and the scan stands for what was fed
abbrev pub invariant-rest : goal.invariant-rest
invariant-rest l = (fed : List ℕ) × (l.text ≡ fed ++ l.rest) × StandsFor (regex_tree l.regex) fed l.scan

abbrev pub decreases-rest : goal.decreases-rest
decreases-rest l = length l.rest
