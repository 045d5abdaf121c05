use Rattle.std.proofs.Common.{◌∙◌, ◌<◌, ◌^◌, ap, arith, length, subst, Option, Some}
use Rattle.ct_journal_text.specs.declared.lines.JournalLine.{JournalLine}
use Rattle.ct_journal_text.specs.Journal.{Says}
use Rattle.ct_journal_text.proofs.CheckLemmas.{takes_first, takes_nothing}
use Rattle.ct_explain.proofs.ReadingLemmas.{reads_done, reads_said}
use Rattle.ct_explain.proofs.reading.take_line.Goals as goal

pub returns-in_ok-take_entry-in-Some-Entry : goal.returns-in_ok-take_entry-in-Some-Entry
returns-in_ok-take_entry-in-Some-Entry c front told same =
    let small : length front < 2 ^ 64 = omega (arith, same) in
    let said = c.in-Some-Entry.is ∙ ap (λ (l : JournalLine). Some l) c.in-Some-Entry.field-0-is in
    reads_said c.args.plan.now front c.args.line.now _ c.in_ok-take_entry-in-Some-Entry.field-0 c.take_entry.new.audit small
    (subst (λ (o : Option JournalLine). Says c.args.line.now o) said c.in_ok-said.ensures) (c.in_ok-take_entry-in-Some-Entry.ensures front told)

pub returns-in-Some-Done : goal.returns-in-Some-Done
returns-in-Some-Done c front told same =
    let small : length front < 2 ^ 64 = omega (arith, same) in
    let said = c.in-Some-Done.is ∙ ap (λ (l : JournalLine). Some l) c.in-Some-Done.field-0-is in
    reads_done c.args.plan.now front c.args.line.now _ c.take_done.result c.args.audit.now small
    (subst (λ (o : Option JournalLine). Says c.args.line.now o) said c.in_ok-said.ensures) (c.take_done.ensures front told same) told

pub returns-in-Some-First : goal.returns-in-Some-First
returns-in-Some-First c front told same =
    let small : length front < 2 ^ 64 = omega (arith, same) in
    let said = c.in-Some-First.is ∙ ap (λ (l : JournalLine). Some l) c.in-Some-First.field-0-is in (
      takes_first c.args.plan.now front c.args.line.now c.args.audit.now small
          (subst (λ (o : Option JournalLine). Says c.args.line.now o) said c.in_ok-said.ensures),
      told,
    )

pub returns-in-None : goal.returns-in-None
returns-in-None c front told same =
    let small : length front < 2 ^ 64 = omega (arith, same) in (
      takes_nothing c.args.plan.now front c.args.line.now c.args.audit.now small
          (subst (λ (o : Option JournalLine). Says c.args.line.now o) c.in-None.is c.in_ok-said.ensures),
      told,
    )
