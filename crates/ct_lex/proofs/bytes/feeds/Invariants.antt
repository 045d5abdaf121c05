use Rattle.std.proofs.Common.{◌≡◌, ◌≤◌, ◌+◌, drop}
use Rattle.ct_lex.specs.Bytes.{feeds}
use Rattle.ct_lex.proofs.bytes.feeds.Given as goal

abbrev pub invariant-loop-byte : goal.invariant-loop-byte
invariant-loop-byte l = (l.count ≤ l.byte-index) × (l.count + feeds (drop l.byte-index l.text) ≡ feeds l.text)
