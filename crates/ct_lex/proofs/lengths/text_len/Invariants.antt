use Rattle.std.proofs.Common.{◌≡◌, ◌≤◌, ◌-◌, length, drop}
use Rattle.ct_lex.specs.Extent.{bytes_read}
use Rattle.ct_lex.specs.Text.{text_from, moved}
use Rattle.ct_lex.proofs.lengths.text_len.Given as goal

abbrev pub invariant-loop-at : goal.invariant-loop-at
invariant-loop-at l =
    (l.at ≤ length l.text) × (bytes_read (moved l.at (text_from l.kind 0 (drop l.at l.text))) ≡ bytes_read (text_from l.kind 0 l.text))

abbrev pub decreases-loop-at : goal.decreases-loop-at
decreases-loop-at l = length l.text - l.at
