-- One attempt of a test on the gate of its worker. This project's own.
use Rattle.std.specs.Prelude.{◌≡◌, ◌⊎◌, true, false, [], ◌∷◌, IfSome}
use Rattle.ct_base.specs.Outside.{Adds, Becomes}
use Rattle.ct_verdict.specs.declared.attempt.How.{How}
use Rattle.ct_verdict.specs.declared.attempt.Seen.{Seen}
use Rattle.ct_history.specs.History.{Running}
use Rattle.ct_core.specs.declared.gate.Request.{Request}
use Rattle.ct_core.specs.Gate.{GateTell, HasStartCause, is_no_memory}
use Rattle.ct_turn.specs.Pass.{PassValue}
use Rattle.ct_worker.specs.Gates.{IsRequestFor, SeesTold, Terms, asked_run}

-- the gate was asked once, for this attempt, while it was lent this pass, and memory was there for it
pub record AsksOnce (terms : Terms) (pass : PassValue) (run : Running) (how : How) (old new : GateTell)
    : Type 0 where
  pub had : is_no_memory how ≡ false
  pub request : Request
  pub is : IsRequestFor terms run request
  pub asked : Becomes old.asked new.asked (Adds (asked_run run ∷ []))
  pub sent : Becomes old.sent new.sent (Adds (request ∷ []))
  pub lent : Becomes old.lent new.lent (Adds (pass ∷ []))

-- memory was wanting for an attempt, and the gate recorded no call
pub record AsksNone (how : How) (old new : GateTell) : Type 0 where
  pub lacks : is_no_memory how ≡ true
  pub asked : Becomes old.asked new.asked (Adds [])
  pub sent : Becomes old.sent new.sent (Adds [])
  pub lent : Becomes old.lent new.lent (Adds [])

-- an attempt of a test was run on a gate, and this was seen of it. Unless memory was
-- wanting, that is what the world tells, and the gate was asked once, while it was lent
-- this pass. Once the gate has recorded the call, memory is not wanting. It is the same
-- gate as before, and it tells the same world.
pub record RunsAttempt (terms : Terms) (pass : PassValue) (run : Running) (seen : Seen) (old new : GateTell)
    : Type 0 where
  pub told : is_no_memory seen.how ≡ false
      → IfSome old.world (λ world. SeesTold terms.props world run.test run.attempt seen)
  pub calls : AsksOnce terms pass run seen.how old new ⊎ AsksNone seen.how old new
  pub who : new.who ≡ old.who
  pub world : new.world ≡ old.world
  pub cause : HasStartCause old.faults new.faults seen.how
