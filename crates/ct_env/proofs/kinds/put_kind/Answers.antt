use Rattle.std.proofs.Common.{◌∙◌, ap}
use Rattle.std.specs.Ordering.{nat_cmp}
use Rattle.std.specs.Cmp.Lexicographic.{slice_cmp}
use Rattle.std.specs.BTreeSet.{insert_key}
use Rattle.ct_env.specs.Variables.{names_in}
use Rattle.ct_env.proofs.FoldLemmas.{names-insert_key}
use Rattle.ct_env.proofs.kinds.put_kind.Goals as goal

pub returns : goal.returns
returns c =
    ap names_in c.in_ok-insert.ensures.keys
    ∙ names-insert_key c.args.kinds.now.keys c.in_ok-from_slice.field-0
    ∙ ap (insert_key (slice_cmp nat_cmp) (names_in c.args.kinds.now.keys)) (c.in_ok-from_slice.ensures.items ∙ c.bytes.ensures)
