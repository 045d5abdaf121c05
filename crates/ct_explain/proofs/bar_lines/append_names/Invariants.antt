use Rattle.std.proofs.Common.{◌≡◌, ◌++◌, drop}
use Rattle.ct_explain.specs.Picture.{names_text}
use Rattle.ct_explain.proofs.bar_lines.append_names.Given as goal

abbrev pub invariant-loop-name : goal.invariant-loop-name
invariant-loop-name l = l.text ++ names_text l.front (drop l.name-index l.names) ≡ l.initial.text ++ names_text l.front l.names
