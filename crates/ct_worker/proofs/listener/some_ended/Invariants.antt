use Rattle.std.proofs.Common.{◌≡◌, ℕ, List, drop}
use Rattle.ct_regex.specs.declared.pattern.Regex.{Regex}
use Rattle.ct_worker.specs.Gates.{some_hits}
use Rattle.ct_worker.specs.Listener.{AllStandFor}
use Rattle.ct_worker.proofs.listener.some_ended.Given as goal

abbrev pub invariant-loop-scan : goal.invariant-loop-scan
invariant-loop-scan l = (patterns : List Regex) (text : List ℕ) → AllStandFor patterns text l.scans → AllStandFor (drop l.scan-index patterns) text (drop l.scan-index l.scans) × (some_hits (drop l.scan-index patterns) text ≡ some_hits patterns text)
