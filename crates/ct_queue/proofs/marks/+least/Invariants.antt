use Rattle.ct_queue.proofs.marks.+least.Given as goal

abbrev pub decreases-least : goal.decreases-least
decreases-least l = l.span
