-- The passes of a run's workers: in front of their work,
-- behind it, and joined into one. This project's own.
use Rattle.std.specs.Prelude.{◌≡◌, ℕ, ◌+◌, ⊤, List, [], ◌∷◌, None}
use Rattle.ct_core.specs.Gate.{GateTell}
use Rattle.ct_turn.specs.declared.view.Known.{Known}
use Rattle.ct_turn.specs.Pass.{PassValue, idle_pass}
use Rattle.ct_turn.specs.Seen.{held_start, with_joined}
use Rattle.ct_turn.specs.Turn.{TurnValue}
use Rattle.ct_worker.specs.declared.jobs.Jobs.{Jobs}
use Rattle.ct_worker.specs.Work.{GoesAlong, IsEnded, Reach, terms_in}

-- the pass, once `count` more passes were split off it
abbrev pub having_made : PassValue → ℕ → PassValue
having_made pass count = record pass { known = record pass.known { made = pass.known.made + count } }

-- the pass of a worker, split off a pass with this knowledge
abbrev pub split_pass : TurnValue → Known → ℕ → PassValue
split_pass turn known worker = idle_pass turn.id (record known { worker = worker; made = 0; notes = [] })

-- these passes were split off, each for the worker of its place; the first is for this worker
abbrev pub AreSplit : TurnValue → Known → ℕ → List PassValue → Type 0
AreSplit turn known worker [] = ⊤
AreSplit turn known worker (pass ∷ passes) =
    (pass ≡ split_pass turn known worker) × AreSplit turn known (worker + 1) passes

-- the first of these is the pass of worker 0, off which
-- `count` passes were split, and the others are these passes
abbrev pub HasSplit : TurnValue → PassValue → ℕ → List PassValue → Type 0
HasSplit turn first count [] = ⊥
HasSplit turn first count (pass ∷ passes) =
    (pass ≡ having_made first count) × AreSplit turn first.known first.known.made passes

-- the worker may take part with this pass of the turn: it is idle,
-- has the worker's number, and the jobs reach each test of the plan
pub record IsReady (jobs : Jobs) (turn : TurnValue) (worker : ℕ) (pass : PassValue) : Type 0 where
  pub belongs : pass.turn ≡ turn.id
  pub idle : (pass.taken ≡ None) × (held_start pass.known ≡ None)
  pub number : pass.known.worker ≡ worker
  pub reach : Reach jobs pass.known.plan

-- the workers from this one on may take part, each with its pass
abbrev pub AreReady : Jobs → TurnValue → ℕ → List PassValue → Type 0
AreReady jobs turn worker [] = ⊤
AreReady jobs turn worker (pass ∷ passes) =
    IsReady jobs turn worker pass × AreReady jobs turn (worker + 1) passes

-- a worker took part until nothing was left to do: its gate was asked for
-- what it started, and its pass has seen every test final or the run given up
pub record TookPart (jobs : Jobs) (old new : PassValue) (gate_before gate_now : GateTell) : Type 0 where
  pub along : GoesAlong (terms_in jobs old.known.plan) old new gate_before gate_now
  pub ended : IsEnded new

-- each worker took part until nothing was left to do, with the pass and the gate of its place
abbrev pub AllTookPart : Jobs → List PassValue → List PassValue → List GateTell → List GateTell → Type 0
AllTookPart jobs [] [] [] [] = ⊤
AllTookPart jobs [] [] [] (now ∷ nows) = ⊥
AllTookPart jobs [] [] (before ∷ befores) nows = ⊥
AllTookPart jobs [] (new ∷ news) befores nows = ⊥
AllTookPart jobs (old ∷ olds) [] befores nows = ⊥
AllTookPart jobs (old ∷ olds) (new ∷ news) [] nows = ⊥
AllTookPart jobs (old ∷ olds) (new ∷ news) (before ∷ befores) [] = ⊥
AllTookPart jobs (old ∷ olds) (new ∷ news) (before ∷ befores) (now ∷ nows) =
    TookPart jobs old new before now × AllTookPart jobs olds news befores nows

-- the pass of the turn may be joined into another: it is not taken, and holds no start
pub record IsIdle (turn : TurnValue) (pass : PassValue) : Type 0 where
  pub belongs : pass.turn ≡ turn.id
  pub taken : pass.taken ≡ None
  pub start : held_start pass.known ≡ None

-- what the keeper knows after these passes were joined into its own, in this order
abbrev pub all_joined : Known → List PassValue → Known
all_joined keeper [] = keeper
all_joined keeper (pass ∷ passes) = all_joined (with_joined keeper pass.known) passes
