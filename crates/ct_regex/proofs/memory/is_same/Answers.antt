use Rattle.std.proofs.Common.{◌∙◌, sym}
use Rattle.ct_regex.proofs.MemoryLemmas.{same_marks}
use Rattle.ct_regex.proofs.memory.is_same.Goals as goal

pub returns-then-met-last-clause-marks : goal.returns-then-met-last-clause-marks
returns-then-met-last-clause-marks c = λ same. sym c.as_slice.ensures.value ∙ same_marks c.as_slice.result.now c.args.marks.now (sym c.eq.ensures ∙ same)
