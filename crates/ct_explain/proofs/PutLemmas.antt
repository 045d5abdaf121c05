-- Lines that are put one behind the other: what is left to put, and what was put when a put failed.
use Rattle.std.proofs.Common.{ℕ, List, [], ◌++◌}
use Rattle.std.specs.Prelude.{Result, Ok, Err}
use Rattle.ct_base.specs.declared.sink.SinkFault.{SinkFault}
use Rattle.ct_base.specs.declared.sink.SinkFault.TheVariants as Sinks
use Rattle.ct_base.specs.Outside.{SinkTell}
use Rattle.ct_report.specs.PutLines.{PutsLines}
use Rattle.ct_report.proofs.PutLemmas.{lines_more, lines_none, lines_nothing, lines_then}

-- of these lines, only the rest is left to put: a put of the rest completes the put of all
pub record LeavesToPut (all rest : List (List ℕ)) (old mid : SinkTell) : Type 0 where
  pub completes : (new : SinkTell) (result : Result (Unit {0}) SinkFault) → PutsLines rest mid new result → PutsLines all old new result

-- at first all lines are left
pub all_left : (all : List (List ℕ)) (sink : SinkTell) → LeavesToPut all all sink sink
all_left all sink = record { completes = λ new result put. put }

-- the next lines were put
pub less_left : (all front rest : List (List ℕ)) (old mid new : SinkTell) → LeavesToPut all (front ++ rest) old mid → PutsLines front mid new (Ok tt) → LeavesToPut all rest old new
less_left all front rest old mid new left put = record { completes = λ last result more. left.completes last result (lines_then mid new last front rest result put more) }

-- no line is left
pub none_left : (all : List (List ℕ)) (old new : SinkTell) → LeavesToPut all [] old new → PutsLines all old new (Ok tt)
none_left all old new left = left.completes new (Ok tt) (lines_nothing new)

-- the next lines were not put whole
pub left_fails : (all front rest : List (List ℕ)) (old mid new : SinkTell) (fault : SinkFault) → LeavesToPut all (front ++ rest) old mid → PutsLines front mid new (Err fault) → PutsLines all old new (Err fault)
left_fails all front rest old mid new fault left put = left.completes new (Err fault) (lines_more mid new front rest fault put)

-- memory was wanting for the next line
pub left_lacks : (all rest : List (List ℕ)) (old mid : SinkTell) → LeavesToPut all rest old mid → PutsLines all old mid (Err Sinks.NoMemory)
left_lacks all rest old mid left = left.completes mid (Err Sinks.NoMemory) (lines_none mid rest)
