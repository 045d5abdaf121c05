-- What the files, the output and the gates of the machine tell:
-- how many calls failed, and nothing else. This project's own.
use Rattle.std.specs.Prelude.{ℕ, List, Option, None, map}
use Rattle.ct_base.specs.Outside.{FilesTell, SinkTell}
use Rattle.ct_core.specs.Gate.{GateTell}

-- what files tell after this many failed calls
abbrev pub files_tell : ℕ → FilesTell
files_tell faults = record { held = None; refused = None; faults = faults }

-- what an output tells that holds this text, if it is known, after this many failed puts
abbrev pub sink_tell : Option (List ℕ) → ℕ → SinkTell
sink_tell written faults = record { written = written; pieces = None; faults = faults }

-- a sink over a writer as its calls see it: the writer, and how many puts failed
pub record RealSinkValue (W : Type 0) : Type 0 where
  pub writer : W
  pub faults : ℕ

-- what a gate tells after this many failed starts and waits
abbrev pub gate_tell : ℕ → GateTell
gate_tell faults = record {
  who = None;
  world = None;
  asked = None;
  sent = None;
  lent = None;
  faults = faults;
}

-- what gates tell after these many failed starts and waits, one number for each
abbrev pub gates_tell : List ℕ → List GateTell
gates_tell gates = map gate_tell gates
