use Rattle.std.proofs.Common.{rules, arith, ◌≡◌, ◌+◌, ◌-◌, ◌^◌, min, sym, subst, slice_set}
use Rattle.ct_history.specs.declared.history.Entry.{Entry}
use Rattle.ct_report.specs.RunLines.{NotesEntry}
use Rattle.ct_report.proofs.RunLineLemmas.{notes_other, notes_planned, notes_unplanned}
use Rattle.ct_report.proofs.run_lines.note.Goals as goal

pub returns-in_default : goal.returns-in_default
returns-in_default c = notes_other c.args.tests.now c.args.entry.now c.args.micros.now.items c.in_default.not-End

pub returns-in_default-place_of : goal.returns-in_default-place_of
returns-in_default-place_of c =
    let end = c.in-End in
    let micros = c.args.micros.now.items in
    subst (λ (e : Entry). NotesEntry c.args.tests.now e micros micros) (sym end.is)
    (notes_unplanned end.test end.attempt end.worker end.seen c.args.tests.now micros c.in_default-place_of.ensures)

pub returns : goal.returns
returns c =
    let end = c.in-End in
    let micros = c.args.micros.now.items in
    let place = c.in-Some.place in
    let had = c.index.result.now in
    let sum : c.min.result ≡ min (min (had + end.seen.micros) (2 ^ 64 - 1)) (10 ^ 18) = first_of (search rules, omega arith) in
    subst (λ (e : Entry). NotesEntry c.args.tests.now e micros (slice_set micros place c.min.result)) (sym end.is)
    (notes_planned end.test end.attempt end.worker end.seen c.args.tests.now place had c.min.result micros c.requires.ascends c.in-Some.ensures.within c.in-Some.ensures.there c.index.ensures sum)
