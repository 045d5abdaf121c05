-- The files, the sink and the ear in memory: what each of them holds. This project's own.
use Rattle.std.specs.Prelude.{ℕ, ◌+◌, ◌-◌, ◌^◌, min, Bool, true, false, List, [], ◌∷◌, ◌++◌, Option, Some, option_map, Result, IsErrOf, OnOk, ◌≡◌, ◌==◌, ◌⊎◌, bytes_eq, reverse}
use Rattle.std.specs.List.{find, list_any}
use Rattle.ct_base.specs.declared.defs.Pair.{Pair}
use Rattle.ct_base.specs.declared.file_call.FileCall.{FileCall}
use Rattle.ct_base.specs.declared.files.FilesFault.{FilesFault}
use Rattle.ct_base.specs.declared.files.FilesFault.TheVariants as Files
use Rattle.ct_base.specs.declared.sink.SinkFault.{SinkFault}
use Rattle.ct_base.specs.declared.sink.SinkFault.TheVariants as Sinks
use Rattle.ct_base.specs.Outside.{FilesTell, Held, SinkTell, path_of}

-- what the pairs hold: for each path the value of its last pair, and nothing for a path without a pair
abbrev pub held_by : List Pair → Held
held_by pairs path =
    option_map (λ (pair : Pair). pair.value) (find (λ (pair : Pair). bytes_eq pair.name path) (reverse pairs))

-- the count plus 1; at its greatest value, 2^64 - 1, it stays
abbrev pub counted : ℕ → ℕ
counted n = min (n + 1) (2 ^ 64 - 1)

-- the numbers of the calls that fail, how many calls were made, and how many of them failed
pub record Calls : Type 0 where
  pub fail_at : List ℕ
  pub calls : ℕ
  pub faults : ℕ

-- the counts before the first call
abbrev pub no_calls : List ℕ → Calls
no_calls fail_at = record { fail_at = fail_at; calls = 0; faults = 0 }

-- the counts after one more call, which did not fail
abbrev pub passed : Calls → Calls
passed counts = record counts { calls = counted counts.calls }

-- the counts after one more call, which failed
abbrev pub failed : Calls → Calls
failed counts = record counts { calls = counted counts.calls; faults = counted counts.faults }

-- the next call is due to fail: its number, counted from 1, is in `fail_at`
abbrev pub is_due : Calls → Bool
is_due counts = list_any (λ (number : ℕ). number == counted counts.calls) counts.fail_at

-- files in memory: the pairs, the counts of the calls, the path of the last call that failed, and each call
pub record MemFilesValue : Type 0 where
  pub pairs : List Pair
  pub counts : Calls
  pub refused : Option (List ℕ)
  pub made : List FileCall

-- what files in memory tell of what they hold and of their faults
abbrev pub told_by : MemFilesValue → FilesTell
told_by files = record {
  held = Some (held_by files.pairs);
  refused = Some files.refused;
  faults = files.counts.faults;
}

-- the pairs with one more at the end, which then counts for its path
abbrev pub with_pair : List Pair → List ℕ → List ℕ → List Pair
with_pair pairs path bytes = pairs ++ record { name = path; value = bytes } ∷ []

-- the call was due to fail and failed; it was counted, its path is the refused one, and no pair changed
pub record FailsAsDue (call : FileCall) (before now : MemFilesValue) : Type 0 where
  pub due : is_due before.counts ≡ true
  pub is : now
      ≡ record before {
        counts = failed before.counts;
        refused = Some (path_of call);
        made = before.made ++ call ∷ [];
      }

-- the call was not due to fail; it was counted, and the files now hold `pairs`
pub record PassesWith (call : FileCall) (pairs : List Pair) (before now : MemFilesValue) : Type 0 where
  pub not_due : is_due before.counts ≡ false
  pub is : now
      ≡ record before { pairs = pairs; counts = passed before.counts; made = before.made ++ call ∷ [] }

-- a call on files in memory: it fails exactly where it is due to, and is counted and kept;
-- where memory is wanting, nothing changes
pub record IsCall {T : Type 0} (call : FileCall) (pairs : List Pair) (before now : MemFilesValue)
    (result : Result T FilesFault) : Type 0 where
  pub passes : OnOk result (PassesWith call pairs before now)
  pub fails : IsErrOf result Files.Failed → FailsAsDue call before now
  pub unchanged : IsErrOf result Files.NoMemory → now ≡ before

-- a sink in memory: all the bytes that it took, the same bytes put by put, and the counts of its calls
pub record MemSinkValue : Type 0 where
  pub written : List ℕ
  pub pieces : List (List ℕ)
  pub counts : Calls

-- what a sink in memory tells: all three parts
abbrev pub told_of : MemSinkValue → SinkTell
told_of sink = record { written = Some sink.written; pieces = Some sink.pieces; faults = sink.counts.faults }

-- the put was due to fail and failed; it was counted and wrote nothing
pub record PutFailsAsDue (before now : MemSinkValue) : Type 0 where
  pub due : is_due before.counts ≡ true
  pub is : now ≡ record before { counts = failed before.counts }

-- the put was not due to fail; it was counted, and the piece was written
pub record PutPasses (piece : List ℕ) (before now : MemSinkValue) : Type 0 where
  pub not_due : is_due before.counts ≡ false
  pub is : now
      ≡ record before {
        written = before.written ++ piece;
        pieces = before.pieces ++ piece ∷ [];
        counts = passed before.counts;
      }

-- a put into a sink in memory: it fails exactly where it is due to, and is counted;
-- where memory is wanting, nothing changes
pub record IsPut (piece : List ℕ) (before now : MemSinkValue) (result : Result (Unit {0}) SinkFault)
    : Type 0 where
  pub passes : OnOk result (PutPasses piece before now)
  pub fails : IsErrOf result Sinks.Failed → PutFailsAsDue before now
  pub unchanged : IsErrOf result Sinks.NoMemory → now ≡ before

-- what an ear in memory kept, and whether memory was wanting for some piece
pub record CollectValue : Type 0 where
  pub heard : List ℕ
  pub short : Bool

-- the text may be all that was heard: any text where memory was wanting, else only the text that was kept
abbrev pub MayHaveHeard : CollectValue → List ℕ → Type 0
MayHaveHeard ear text = (ear.short ≡ true) ⊎ (text ≡ ear.heard)
