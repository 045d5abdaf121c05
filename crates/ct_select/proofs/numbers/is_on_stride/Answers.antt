use Rattle.std.proofs.Common.{sym}
use Rattle.ct_select.proofs.StrideLemmas.{off_stride, on_stride, without_stride}
use Rattle.ct_select.proofs.numbers.is_on_stride.Goals as goal

pub returns-then-number-start : goal.returns-then-number-start
returns-then-number-start c = sym (off_stride c.args.start c.args.stride c.args.number c.if-number-start.true)

pub returns-then-stride-eq0 : goal.returns-then-stride-eq0
returns-then-stride-eq0 c = sym (without_stride c.args.start c.args.stride c.args.number c.if-number-start.false c.if-stride-eq0.true)

pub returns : goal.returns
returns c = sym (on_stride c.args.start c.args.stride c.args.number c.if-number-start.false)
