use Rattle.std.proofs.Common.{◌≡◌, ◌<◌, ◌≤◌, ◌^◌, ◌+◌, ◌-◌, ◌++◌, ◌∷◌, [], ℕ, List, arith, drop, length, get_or, refl, rules, sym, subst, take}
use Rattle.ct_history.specs.declared.audit.Audit.{Audit}
use Rattle.ct_journal_text.specs.declared.check.Step.{Step}
use Rattle.ct_journal_text.specs.Checked.{TakesLine}
use Rattle.ct_journal_text.specs.Found.{FindsBehind, IsReading}
use Rattle.ct_journal_text.proofs.TextLemmas.{finds_bad, finds_last, line_more, line_none, reads_byte, reads_entry}
use Rattle.ct_journal_text.proofs.text.check_by.Goals as goal
use Rattle.ct_journal_text.proofs.text.check_by.Goals.{then-text-at-eq10+in_ok-take_line+in-GoesOn, else-text-at-eq10}

pub returns-in-IsBad : goal.returns-in-IsBad
returns-in-IsBad c =
    let entries = c.loop-at.invariant.0 in
    let reading = c.loop-at.invariant.2 in
    let plan = c.args.plan.now in
    let text = c.args.text.now in
    let at = c.loop-at.at in
    let line = take (at - c.loop-at.start) (drop c.loop-at.start text) in
    let lt : at < length text = search rules in
    let feed : get_or text at 0 ≡ 10 = search rules in
    let takes = subst (λ (s : Step). TakesLine plan entries line s c.take_line.new.audit) c.in-IsBad.is (c.in_ok-take_line.ensures entries reading.audited reading.count_is) in
    finds_bad plan text at c.loop-at.count _ c.loop-at.audit c.take_line.new.audit line entries lt refl feed reading takes

pub returns-in-Ends : goal.returns-in-Ends
returns-in-Ends c =
    let entries = c.loop-at.invariant.0 in
    let reading = c.loop-at.invariant.2 in
    let plan = c.args.plan.now in
    let text = c.args.text.now in
    let at = c.loop-at.at in
    let line = take (at - c.loop-at.start) (drop c.loop-at.start text) in
    let lt : at < length text = search rules in
    let feed : get_or text at 0 ≡ 10 = search rules in
    let small : length text < 2 ^ 64 = search rules in
    let takes = subst (λ (s : Step). TakesLine plan entries line s c.take_line.new.audit) c.in-Ends.is (c.in_ok-take_line.ensures entries reading.audited reading.count_is) in
    subst (λ o. FindsBehind plan text o) (sym c.behind_last.ensures)
    (finds_last plan text at c.loop-at.count _ c.loop-at.audit c.take_line.new.audit line entries _ small lt refl feed refl reading takes)

pub loop-at-preserved : goal.loop-at-preserved
loop-at-preserved c =
    let entries = c.loop-at.invariant.0 in
    let reading = c.loop-at.invariant.2 in
    let plan = c.args.plan.now in
    let text = c.args.text.now in
    let lt : c.loop-at.at < length text = search rules in
    let at = c.loop-at.at in
    let old = c.loop-at in
    let now = c.if-text-at-eq10 in
    let line = take (at - old.start) (drop old.start text) in
    elim c.if-text-at-eq10.branch [
      | then-text-at-eq10+in_ok-take_line+in-GoesOn w ↦
          let feed : get_or text at 0 ≡ 10 = w.if-text-at-eq10.true in
          let takes = subst (λ (s : Step). TakesLine plan entries line s w.take_line.new.audit) w.in-GoesOn.is (w.in_ok-take_line.ensures entries reading.audited reading.count_is) in
          let more = entries ++ takes.entry ∷ [] in
          let next = reads_entry plan text at old.count _ old.audit w.take_line.new.audit line (take (at + 1 - (at + 1)) (drop (at + 1) text)) entries lt refl feed (line_none text (at + 1)) reading takes in
          let within : now.start ≤ at + 1 = omega (arith, w.start-is) in (
            more,
            within,
            subst (λ (a : Audit). IsReading plan text (at + 1) a (take (at + 1 - now.start) (drop now.start text)) now.count more) (sym w.audit-is)
                (subst (λ (n : ℕ). IsReading plan text (at + 1) w.take_line.new.audit (take (at + 1 - now.start) (drop now.start text)) n more) (sym w.count-is)
                (subst (λ (s : ℕ). IsReading plan text (at + 1) w.take_line.new.audit (take (at + 1 - s) (drop s text)) (old.count + 1) more) (sym w.start-is) next)),
          )
      | else-text-at-eq10 w ↦
          let next = reads_byte plan text at old.count _ old.audit line entries lt refl w.if-text-at-eq10.false reading in
          let longer = line_more text old.start at old.invariant.1 lt in
          let within : now.start ≤ at + 1 = omega (arith, w.start-is, old.invariant.1) in (
            entries,
            within,
            subst (λ (a : Audit). IsReading plan text (at + 1) a (take (at + 1 - now.start) (drop now.start text)) now.count entries) (sym w.audit-is)
                (subst (λ (n : ℕ). IsReading plan text (at + 1) old.audit (take (at + 1 - now.start) (drop now.start text)) n entries) (sym w.count-is)
                (subst (λ (s : ℕ). IsReading plan text (at + 1) old.audit (take (at + 1 - s) (drop s text)) old.count entries) (sym w.start-is)
                (subst (λ (l : List ℕ). IsReading plan text (at + 1) old.audit l old.count entries) (sym longer) next))),
          )
    ]
