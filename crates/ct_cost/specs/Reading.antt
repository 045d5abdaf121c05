-- What is read of cost data line by line. This project's own.
use Rattle.std.specs.Prelude.{ℕ, Bool, true, false, List, [], ◌∷◌, drop, length, fold, nat_lt, if◌then◌else◌}
use Rattle.std.specs.List.{slice_split}
use Rattle.ct_cost.specs.declared.line.Version.{Version}
use Rattle.ct_cost.specs.declared.line.Version.TheVariants.{One, Two}
use Rattle.ct_cost.specs.declared.reading.Reading.{Reading}
use Rattle.ct_cost.specs.Text.{is_divider, is_mark, line_in}
use Rattle.ct_cost.specs.Kept.{with_read, with_named}

-- the parts of a text from a place on, none behind its end
abbrev pub parts_from : (ℕ → Bool) → List ℕ → ℕ → List (List ℕ)
parts_from ends text at = if nat_lt (length text) at then [] else slice_split ends (drop at text)

-- the reading before the first line
abbrev pub unread : Version → Reading
unread version = record { version = version; lines = []; failed = []; is_behind = false }

-- the reading after one more line behind the line that is `---`
abbrev pub after_failed : Reading → List ℕ → Reading
after_failed reading line = record {
  version = reading.version;
  lines = reading.lines;
  failed = with_named reading.failed line;
  is_behind = true;
}

-- the reading after one more line in front of the line that is `---`, or after that line
abbrev pub after_cost : Reading → List ℕ → Reading
after_cost reading line = record {
  version = reading.version;
  lines = if is_divider line then reading.lines else with_read reading.lines (line_in reading.version line);
  failed = reading.failed;
  is_behind = is_divider line;
}

-- the reading after one more line
abbrev pub after_line : Reading → List ℕ → Reading
after_line reading line = if reading.is_behind then after_failed reading line else after_cost reading line

-- the reading after all lines, whose first one may say that they are of version 2
abbrev pub after_lines : List (List ℕ) → Reading
after_lines [] = unread One
after_lines (first ∷ rest) =
    if is_mark first then fold after_line (unread Two) rest else fold after_line (unread One) (first ∷ rest)
