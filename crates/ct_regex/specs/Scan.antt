-- What a scan stands for. A scan does not keep its text: it stands for a text if it answers as the text does,
-- whatever bytes follow.
use Rattle.std.specs.Prelude.{◌≡◌, ℕ, Bool, List, ◌++◌, map}
use Rattle.ct_regex.specs.Tree.{Tree}
use Rattle.ct_regex.specs.Ends.{hits}
use Rattle.ct_regex.specs.Walk.{step_of}
use Rattle.ct_regex.specs.Stand.{Stand, stand_with, behind_bytes, answer}
use Rattle.ct_regex.specs.Memory.{stand_at}
use Rattle.ct_regex.specs.declared.scan.Scan.{Scan}

-- where a scan of the code stands
abbrev pub stand_of : Scan → Stand
stand_of scan = stand_with scan.found (stand_at scan.memory scan.at)

-- the answer of a scan once these bytes have come
abbrev pub answer_behind : Scan → List ℕ → Bool
answer_behind scan bytes = answer (behind_bytes (map step_of scan.steps.items) (stand_of scan) bytes)

-- the answer of a scan once it is set back and these bytes have come
abbrev pub answer_anew : Scan → List ℕ → Bool
answer_anew scan bytes = answer (behind_bytes (map step_of scan.steps.items) (stand_at scan.memory 0) bytes)

-- the scan is one of the pattern: set back, it answers whether the pattern hits the bytes that come
abbrev pub IsScanOf : Tree → Scan → Type 0
IsScanOf tree scan = (bytes : List ℕ) → answer_anew scan bytes ≡ hits tree bytes

-- The scan stands for the text under the pattern: it is one of the pattern, and
-- whatever bytes follow, it then answers whether the pattern hits the text with these bytes behind it.
pub record StandsFor (tree : Tree) (text : List ℕ) (scan : Scan) : Type 0 where
  pub answers : (more : List ℕ) → answer_behind scan more ≡ hits tree (text ++ more)
  pub pattern : IsScanOf tree scan

-- whatever bytes follow, `after` answers on the rest of the piece and these bytes
-- as `before` answers on the whole piece and these bytes; set back, both answer alike
pub record ScansOn (before : Scan) (piece rest : List ℕ) (after : Scan) : Type 0 where
  pub answers : (more : List ℕ) → answer_behind after (rest ++ more) ≡ answer_behind before (piece ++ more)
  pub anew : (bytes : List ℕ) → answer_anew after bytes ≡ answer_anew before bytes
