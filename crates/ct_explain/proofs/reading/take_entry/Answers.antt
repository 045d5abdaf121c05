use Rattle.std.proofs.Common.{subst, Option}
use Rattle.ct_history.specs.declared.history.Entry.{Entry}
use Rattle.ct_journal_text.specs.Checked.{FindsEntry}
use Rattle.ct_explain.proofs.ReadingLemmas.{reads_found, reads_lost}
use Rattle.ct_explain.proofs.reading.take_entry.Goals as goal

pub returns-in_ok-note_entry-in-Some : goal.returns-in_ok-note_entry-in-Some
returns-in_ok-note_entry-in-Some c front told =
    reads_found c.args.plan.now front c.args.line c.in-Some.entry c.in_ok-note_entry-in-Some.field-0 c.note_entry.new.audit
    (subst (λ (o : Option Entry). FindsEntry c.args.plan.now c.args.line o) c.in-Some.is c.in_ok-entry.ensures) (c.in_ok-note_entry-in-Some.ensures front told)

pub returns-in-None : goal.returns-in-None
returns-in-None c front told =
    reads_lost c.args.plan.now front c.args.line c.args.audit.now (subst (λ (o : Option Entry). FindsEntry c.args.plan.now c.args.line o) c.in-None.is c.in_ok-entry.ensures) told
