use Rattle.std.proofs.Common.{◌≤◌, subst, sym, rules, List, ℕ, length}
use Rattle.ct_journal_text.specs.Journal.{journal_of}
use Rattle.ct_journal_text.proofs.WithinLemmas.{begins_journal, passes}
use Rattle.ct_journal_text.proofs.writer.fill_within.Goals as goal

pub returns-then-bytes-most-clause-fits : goal.returns-then-bytes-most-clause-fits
returns-then-bytes-most-clause-fits c =
    let entries = c.args.entries.now in
    passes c.args.most c.loop-entry.text (journal_of entries) (search rules)
    (subst (λ (text : List ℕ). length text ≤ length (journal_of entries)) (sym c.loop-entry.invariant) (begins_journal entries c.loop-entry.entry-index))
