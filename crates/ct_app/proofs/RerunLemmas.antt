-- The names in the log of the last run, read from the first bytes of its file,
-- and the limit of a choice to them.
use Rattle.std.proofs.Common.{◌≡◌, ◌∙◌, sym, ap, Bool, true, false, ℕ, ◌+◌, List, [], take, refl}
use Rattle.std.specs.Prelude.{Option, Some, None, IfSome, Err, option_map}
use Rattle.ct_base.specs.Outside.{FilesTell, Held}
use Rattle.ct_select.specs.FailedLog.{failed_in}
use Rattle.ct_app.specs.declared.run_files.RunFileFault.{RunFileFault}
use Rattle.ct_app.specs.declared.run_files.RunFileFault.TheVariants as Fault
use Rattle.ct_app.specs.Rerun.{AreOnly, ReadsLog, ReadsOnly, last_failed, most_log_bytes, names_in_text}
use Rattle.ct_app.specs.RunFiles.{log_path}
use Rattle.ct_app.proofs.FrontLemmas.{made_of_front}

-- a log and its first bytes, one more than the limit, have the same names
names_of_front : (held : Option (List ℕ)) → names_in_text (option_map (take (most_log_bytes + 1)) held) ≡ names_in_text held
names_of_front None = refl
names_of_front (Some text) = made_of_front failed_in [] most_log_bytes text

-- the names that are read from the first bytes of the log are the names of the tests that failed last
pub reads_names : (dir path : List ℕ) (told : Option Held) (got : Option (List ℕ)) (names : List (List ℕ)) → path ≡ log_path dir → IfSome told (λ held. got ≡ option_map (take (most_log_bytes + 1)) (held path)) → names ≡ names_in_text got → IfSome told (λ held. names ≡ last_failed dir held)
reads_names dir path None got names named read is = tt
reads_names dir path (Some held) got names named read is = is ∙ ap names_in_text read ∙ names_of_front (held path) ∙ ap (λ (p : List ℕ). names_in_text (held p)) named

-- where the names of the log are asked for and the log was not read, the limit was not read
pub only_unread : (dir : List ℕ) (before now : FilesTell) (fault : RunFileFault) → ReadsLog dir before now (Err fault) → ReadsOnly true dir before now (Err fault)
only_unread dir before now (Fault.Failed path) fails = (refl, fails.0, fails.1)
only_unread dir before now Fault.NoMemory stays = stays

-- the names that a choice is limited to are the same for the same held files
pub only_same : (held : Held) (rerun : Bool) (dir : List ℕ) (one other : Option (List (List ℕ))) → AreOnly (Some held) rerun dir one → AreOnly (Some held) rerun dir other → one ≡ other
only_same held false dir one other is also = is ∙ sym also
only_same held true dir None other is also = absurd is
only_same held true dir (Some names) None is also = absurd also
only_same held true dir (Some names) (Some others) is also = ap (λ (ns : List (List ℕ)). Some ns) (is ∙ sym also)
