use Rattle.std.proofs.Common.{◌≡◌, ◌++◌, drop, false, IsUtf8}
use Rattle.serde_json.specs.View.{items_of}
use Rattle.serde_json.specs.Written.{items_text}
use Rattle.ct_info.specs.Info.{test_values}
use Rattle.ct_info.proofs.entry.put_tests.Given as goal

abbrev pub invariant-loop-number : goal.invariant-loop-number
invariant-loop-number l =
    (l.text ++ items_text l.later (items_of (test_values l.config l.defs (drop l.number-index l.members)))
    ≡ l.initial.text ++ items_text false (items_of (test_values l.config l.defs l.members)))
    × (IsUtf8 l.initial.text → IsUtf8 l.text)
