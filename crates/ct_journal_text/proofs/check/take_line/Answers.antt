use Rattle.std.proofs.Common.{◌∙◌, ◌<◌, ◌^◌, ap, arith, length, subst, Option, Some}
use Rattle.ct_journal_text.specs.declared.lines.JournalLine.{JournalLine}
use Rattle.ct_journal_text.specs.Journal.{Says}
use Rattle.ct_journal_text.proofs.CheckLemmas.{takes_done, takes_entry, takes_first, takes_nothing}
use Rattle.ct_journal_text.proofs.check.take_line.Goals as goal

pub returns-in_ok-take_entry-in-Some-Entry : goal.returns-in_ok-take_entry-in-Some-Entry
returns-in_ok-take_entry-in-Some-Entry c front told same =
    let small : length front < 2 ^ 64 = omega (arith, same) in
    let said = c.in-Some-Entry.is ∙ ap (λ (l : JournalLine). Some l) c.in-Some-Entry.field-0-is in
    takes_entry c.args.plan.now front c.args.line.now _ c.in_ok-take_entry-in-Some-Entry.field-0 c.take_entry.new.audit small
    (subst (λ (o : Option JournalLine). Says c.args.line.now o) said c.in_ok-said.ensures) (c.in_ok-take_entry-in-Some-Entry.ensures front told)

pub returns-in-Some-Done : goal.returns-in-Some-Done
returns-in-Some-Done c front told same =
    let small : length front < 2 ^ 64 = omega (arith, same) in
    let said = c.in-Some-Done.is ∙ ap (λ (l : JournalLine). Some l) c.in-Some-Done.field-0-is in
    takes_done c.args.plan.now front c.args.line.now _ c.done_step.result c.args.audit.now small
    (subst (λ (o : Option JournalLine). Says c.args.line.now o) said c.in_ok-said.ensures) (c.done_step.ensures front told same)

pub returns-in-Some-First : goal.returns-in-Some-First
returns-in-Some-First c front told same =
    let small : length front < 2 ^ 64 = omega (arith, same) in
    let said = c.in-Some-First.is ∙ ap (λ (l : JournalLine). Some l) c.in-Some-First.field-0-is in
    takes_first c.args.plan.now front c.args.line.now c.args.audit.now small
    (subst (λ (o : Option JournalLine). Says c.args.line.now o) said c.in_ok-said.ensures)

pub returns-in-None : goal.returns-in-None
returns-in-None c front told same =
    let small : length front < 2 ^ 64 = omega (arith, same) in
    takes_nothing c.args.plan.now front c.args.line.now c.args.audit.now small
    (subst (λ (o : Option JournalLine). Says c.args.line.now o) c.in-None.is c.in_ok-said.ensures)
