use Rattle.ct_history.proofs.opened.opened.Goals as goal

pub returns-then-is_ended : goal.returns-then-is_ended
returns-then-is_ended c = rw (c.in-Start.is, ← c.is_ended.ensures, c.if-is_ended.true)

pub returns-else-is_ended : goal.returns-else-is_ended
returns-else-is_ended c = rw (c.in-Start.is, ← c.is_ended.ensures, c.if-is_ended.false)
