-- Where a scan stands between two bytes, and what it answers there. Internal to the matcher.
use Rattle.std.specs.Prelude.{◌≡◌, ℕ, Bool, true, false, ◌||◌, List, [], ◌∷◌, ◌++◌, Option, Some, None}
use Rattle.ct_regex.specs.Walk.{Walk, Step, walked, all_flow}

-- where a scan stands: its marks; whether a match has ended, whatever bytes follow;
-- and whether a match ends here if the text does
pub record Stand : Type 0 where
  pub marks : List Bool
  pub found : Bool
  pub last : Bool

-- where a scan stands that has found no match
abbrev pub a_stand : List Bool → Bool → Stand
a_stand marks last = record { marks = marks; found = false; last = last }

-- the same stand with another value of `found`
abbrev pub stand_with : Bool → Stand → Stand
stand_with found stand = record { marks = stand.marks; found = found; last = stand.last }

-- where a scan stands behind a walk
abbrev pub stand_by : Stand → Walk → Stand
stand_by stand walk = record {
  marks = walk.marks;
  found = stand.found || walk.flow.now;
  last = walk.flow.last;
}

-- where a scan stands behind one more byte
abbrev pub behind_byte : List Step → Stand → ℕ → Stand
behind_byte steps stand byte =
    stand_by stand (walked steps byte (record { flow = all_flow; opened = []; marks = stand.marks }))

-- where a scan stands behind these bytes
abbrev pub behind_bytes : List Step → Stand → List ℕ → Stand
behind_bytes steps stand [] = stand
behind_bytes steps stand (byte ∷ bytes) = behind_bytes steps (behind_byte steps stand byte) bytes

-- whether the text has a match if it ends here
abbrev pub answer : Stand → Bool
answer stand = stand.found || stand.last

-- These bytes lead from a stand to these marks, or, where there is no answer, to a match that no later byte
-- takes away.
abbrev pub Comes : List Step → Stand → List ℕ → List Bool → Option Bool → Type 0
Comes steps stand bytes marks None =
    (more : List ℕ) → answer (behind_bytes steps stand (bytes ++ more)) ≡ true
Comes steps stand bytes marks (Some last) = behind_bytes steps stand bytes ≡ a_stand marks last
