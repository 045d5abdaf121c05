use Rattle.ct_worker.proofs.ListenerLemmas.{AreFed}
use Rattle.ct_worker.proofs.listener.feed_all.Given as goal

abbrev pub invariant-loop-scan : goal.invariant-loop-scan
invariant-loop-scan l = AreFed l.piece l.scan-index l.initial.scans l.scans
