-- The tests that the log of the last run names, and the choice that --rerun-failed limits to them.
-- Source: CMake manual, ctest(1), --rerun-failed. How much of the log is read, and that the other words of a
-- choice then have no effect, is this project's choice.
use Rattle.std.specs.Prelude.{◌≡◌, ℕ, nat_le, Bool, true, false, List, [], length, Option, Some, None, Result, Ok, Err, IfSome, IsSomeAnd, if◌then◌else◌}
use Rattle.ct_base.specs.Outside.{FilesTell, Held, SameHeld}
use Rattle.ct_props.specs.declared.wanted.Choice.{Choice}
use Rattle.ct_props.specs.declared.wanted.Wanted.{Wanted}
use Rattle.ct_select.specs.FailedLog.{failed_in}
use Rattle.ct_args.specs.declared.invocation.Invocation.{Invocation}
use Rattle.ct_app.specs.declared.run_files.RunFileFault.{RunFileFault}
use Rattle.ct_app.specs.declared.run_files.RunFileFault.TheVariants as Fault
use Rattle.ct_app.specs.declared.rerun.TheConstants.{MOST_LOG_BYTES}
use Rattle.ct_app.specs.RunFiles.{FilesFail, FilesStay, log_path}

-- the greatest number of bytes of a log that counts
abbrev pub most_log_bytes : ℕ
most_log_bytes = MOST_LOG_BYTES

-- the names in the text at a path; none where the text is absent or too long
abbrev pub names_in_text : Option (List ℕ) → List (List ℕ)
names_in_text None = []
names_in_text (Some text) = if nat_le (length text) most_log_bytes then failed_in text else []

-- the names of the tests that failed last in a folder, read from its log
abbrev pub last_failed : List ℕ → Held → List (List ℕ)
last_failed dir held = names_in_text (held (log_path dir))

-- the names that a choice is limited to: with --rerun-failed the names in the log of the folder,
-- else no limit
abbrev pub AreOnly : Option Held → Bool → List ℕ → Option (List (List ℕ)) → Type 0
AreOnly told false dir only = only ≡ None
AreOnly told true dir only = IsSomeAnd only (λ names. IfSome told (λ held. names ≡ last_failed dir held))

-- the choice that an invocation asks for, limited to these names, if any
abbrev pub choice_for : Invocation → Option (List (List ℕ)) → Choice
choice_for invocation only = record invocation.wanted.choice { only = only }

-- what an invocation wants of a run, with its choice limited to these names, if any
abbrev pub wanted_of : Invocation → Option (List (List ℕ)) → Wanted
wanted_of invocation only = record invocation.wanted { choice = choice_for invocation only }

-- the limit of the choice was read, or the log could not be read or memory ran out;
-- each path holds what it held
abbrev pub ReadsOnly : Bool
    → List ℕ → FilesTell → FilesTell → Result (Option (List (List ℕ))) RunFileFault → Type 0
ReadsOnly rerun dir before now (Ok only) = AreOnly before.held rerun dir only × FilesStay before now
ReadsOnly rerun dir before now (Err (Fault.Failed path)) =
    (rerun ≡ true) × (path ≡ log_path dir) × FilesFail path SameHeld before now
ReadsOnly rerun dir before now (Err Fault.NoMemory) = FilesStay before now

-- the log of a folder was read, or could not be read or memory ran out; each path holds what it held
abbrev pub ReadsLog : List ℕ → FilesTell → FilesTell → Result (List (List ℕ)) RunFileFault → Type 0
ReadsLog dir before now (Ok names) =
    IfSome before.held (λ held. names ≡ last_failed dir held) × FilesStay before now
ReadsLog dir before now (Err (Fault.Failed path)) = (path ≡ log_path dir) × FilesFail path SameHeld before now
ReadsLog dir before now (Err Fault.NoMemory) = FilesStay before now
