use Rattle.std.proofs.Common.{◌≡◌, ℕ, List, length, map, option_map, rules, subst}
use Rattle.std.specs.Prelude.{IfSome, ◌-◌, drop, take}
use Rattle.std.proofs.lemmas.List.{take_rest}
use Rattle.ct_app.specs.Calls.{sides}
use Rattle.ct_app.specs.Ends.{history_entries}
use Rattle.ct_journal_text.specs.Journal.{EntriesFit}
use Rattle.ct_journal.specs.Record.{IsJournalEnd, run_end}
use Rattle.ct_journal.specs.RecordAgain.{ChecksAgain}
use Rattle.ct_journal.specs.RecordReads.{RechecksWritten}
use Rattle.ct_journal.specs.declared.record.JournalEnd.TheVariants.{Written}
use Rattle.ct_journal.proofs.RecordLemmas.{accepts_run, rechecks_run}
use Rattle.ct_journal.proofs.RecordAgainLemmas.{checks_run}
use Rattle.ct_journal.proofs.RecordPathLemmas.{rechecks_kept}
use Rattle.ct_journal.proofs.record.record_within.Goals as goal

pub returns-in-len1-up-clause-accepted : goal.returns-in-len1-up-clause-accepted
returns-in-len1-up-clause-accepted g c =
    let run = c.ctest_main-run.result in
    let kept = c.keep_journal-end in
    let files = g.F.Files.tells in
    let sink = g.S.Sink.tells in
    let ends : IsJournalEnd (run_end c.args.most c.path-item.result run.outcome (option_map history_entries run.history) (files run.files) (files kept.new.files) (sink run.sink) (sink kept.new.sink)) kept.result.1 kept.result.0 = search rules in
    let fit : (kept.result.0 ≡ Written → IfSome (option_map history_entries run.history) EntriesFit) = search rules in
    let told = sides _ c.args.env.now (files c.args.files) (files run.files) (map g.G.Gate.tells c.args.gates.items) (map g.G.Gate.tells run.gates.items) (sink c.args.sink) (sink run.sink) run.plan (option_map history_entries run.history) in
    rw c.end_call-in-len1-up.ensures (accepts_run told run.outcome run.status c.args.most c.path-item.result (files run.files) (files kept.new.files) (sink run.sink) (sink kept.new.sink) kept.result.1 kept.result.0 c.ctest_main-run.ensures.meant ends fit)

pub returns-in-len1-up-clause-rechecked : goal.returns-in-len1-up-clause-rechecked
returns-in-len1-up-clause-rechecked g c =
    let run = c.ctest_main-run.result in
    let kept = c.keep_journal-end in
    let files = g.F.Files.tells in
    let sink = g.S.Sink.tells in
    let ends : IsJournalEnd (run_end c.args.most c.path-item.result run.outcome (option_map history_entries run.history) (files run.files) (files kept.new.files) (sink run.sink) (sink kept.new.sink)) kept.result.1 kept.result.0 = search rules in
    let fit : (kept.result.0 ≡ Written → IfSome (option_map history_entries run.history) EntriesFit) = search rules in
    let told = sides _ c.args.env.now (files c.args.files) (files run.files) (map g.G.Gate.tells c.args.gates.items) (map g.G.Gate.tells run.gates.items) (sink c.args.sink) (sink run.sink) run.plan (option_map history_entries run.history) in
    let kept_for : RechecksWritten (take (length c.args.words.now - 1) (drop 1 c.args.words.now)) (files c.args.files).held (option_map history_entries run.history) kept.result.0 = rechecks_run told run.outcome run.status c.args.most c.path-item.result (files run.files) (files kept.new.files) (sink run.sink) (sink kept.new.sink) kept.result.1 kept.result.0 c.ctest_main-run.ensures.meant ends fit in
    rw c.end_call-in-len1-up.ensures (subst (λ (ws : List (List ℕ)). RechecksWritten ws (files c.args.files).held (option_map history_entries run.history) kept.result.0) (take_rest c.args.words.now 1) kept_for)

pub returns-in-len1-up-clause-again : goal.returns-in-len1-up-clause-again
returns-in-len1-up-clause-again g c =
    let run = c.ctest_main-run.result in
    let kept = c.keep_journal-end in
    let files = g.F.Files.tells in
    let sink = g.S.Sink.tells in
    let ends : IsJournalEnd (run_end c.args.most c.path-item.result run.outcome (option_map history_entries run.history) (files run.files) (files kept.new.files) (sink run.sink) (sink kept.new.sink)) kept.result.1 kept.result.0 = search rules in
    let fit : (kept.result.0 ≡ Written → IfSome (option_map history_entries run.history) EntriesFit) = search rules in
    let told = sides _ c.args.env.now (files c.args.files) (files run.files) (map g.G.Gate.tells c.args.gates.items) (map g.G.Gate.tells run.gates.items) (sink c.args.sink) (sink run.sink) run.plan (option_map history_entries run.history) in
    let kept_for : ChecksAgain (take (length c.args.words.now - 1) (drop 1 c.args.words.now)) (files c.args.files).held (option_map history_entries run.history) kept.result.0 = checks_run told run.outcome run.status c.args.most c.path-item.result (files run.files) (files kept.new.files) (sink run.sink) (sink kept.new.sink) kept.result.1 kept.result.0 c.requires.checked c.ctest_main-run.ensures.meant ends fit in
    rw c.end_call-in-len1-up.ensures (subst (λ (ws : List (List ℕ)). ChecksAgain ws (files c.args.files).held (option_map history_entries run.history) kept.result.0) (take_rest c.args.words.now 1) kept_for)

pub returns-in-len1-up-clause-kept_paths : goal.returns-in-len1-up-clause-kept_paths
returns-in-len1-up-clause-kept_paths g c =
    let recorded = c.end_call-in-len1-up.result in
    rechecks_kept (drop 1 c.args.words.now) (g.F.Files.tells c.args.files).held (option_map history_entries recorded.finished.history) recorded.journal (returns-in-len1-up-clause-rechecked g c)
