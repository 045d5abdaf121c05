use Rattle.std.proofs.Common.{◌≡◌, ◌∙◌, ◌<◌, ◌≤◌, ◌^◌, ◌+◌, ◌-◌, ◌++◌, ◌∷◌, [], ℕ, List, arith, drop, length, get_or, refl, rules, sym, subst, take}
use Rattle.std.proofs.lemmas.List.{drop_all}
use Rattle.ct_history.specs.declared.history.Entry.{Entry}
use Rattle.ct_history.specs.declared.audit.Audit.{Audit}
use Rattle.ct_journal_text.specs.Found.{IsReading}
use Rattle.ct_journal_text.proofs.TextLemmas.{line_more, line_none, reads_byte}
use Rattle.ct_explain.specs.declared.reading.Taken.{Taken}
use Rattle.ct_explain.specs.Reading.{TakesAs}
use Rattle.ct_explain.proofs.ReadingLemmas.{reads_bad, reads_cut, reads_last, reads_more}
use Rattle.ct_explain.proofs.reading.read_by.Goals as goal
use Rattle.ct_explain.proofs.reading.read_by.Goals.{then-text-at-eq10+in_ok-entry+in-GoesOn+in_ok-push-in-GoesOn, else-text-at-eq10}

pub loop-at-preserved : goal.loop-at-preserved
loop-at-preserved c =
    let entries = c.loop-at.entries in
    let reading = c.loop-at.invariant.1 in
    let plan = c.args.plan.now in
    let text = c.args.text.now in
    let lt : c.loop-at.at < length text = search rules in
    let at = c.loop-at.at in
    let old = c.loop-at in
    let now = c.if-text-at-eq10 in
    let line = take (at - old.start) (drop old.start text) in
    elim c.if-text-at-eq10.branch [
      | then-text-at-eq10+in_ok-entry+in-GoesOn+in_ok-push-in-GoesOn w ↦
          let feed : get_or text at 0 ≡ 10 = w.if-text-at-eq10.true in
          let takes = subst (λ (t : Taken). TakesAs plan entries line t w.take_line.new.audit) w.in-GoesOn.is (w.in_ok-entry.ensures entries reading.audited reading.count_is) in
          let more : List Entry = entries ++ w.in-GoesOn.entry ∷ [] in
          let next = reads_more plan text at old.count _ old.audit line entries lt refl feed reading w.in-GoesOn.entry w.take_line.new.audit (take (at + 1 - (at + 1)) (drop (at + 1) text)) (line_none text (at + 1)) takes in
          let grown : now.entries ≡ more = w.entries-is ∙ w.in_ok-push-in-GoesOn.ensures.ok in
          let within : now.start ≤ at + 1 = omega (arith, w.start-is) in (
            within,
            subst (λ (es : List Entry). IsReading plan text (at + 1) now.audit (take (at + 1 - now.start) (drop now.start text)) now.count es) (sym grown)
                (subst (λ (a : Audit). IsReading plan text (at + 1) a (take (at + 1 - now.start) (drop now.start text)) now.count more) (sym w.audit-is)
                (subst (λ (n : ℕ). IsReading plan text (at + 1) w.take_line.new.audit (take (at + 1 - now.start) (drop now.start text)) n more) (sym w.count-is)
                (subst (λ (s : ℕ). IsReading plan text (at + 1) w.take_line.new.audit (take (at + 1 - s) (drop s text)) (old.count + 1) more) (sym w.start-is) next))),
          )
      | else-text-at-eq10 w ↦
          let next = reads_byte plan text at old.count _ old.audit line entries lt refl w.if-text-at-eq10.false reading in
          let longer = line_more text old.start at old.invariant.0 lt in
          let within : now.start ≤ at + 1 = omega (arith, w.start-is, old.invariant.0) in (
            within,
            subst (λ (es : List Entry). IsReading plan text (at + 1) now.audit (take (at + 1 - now.start) (drop now.start text)) now.count es) (sym w.entries-is)
                (subst (λ (a : Audit). IsReading plan text (at + 1) a (take (at + 1 - now.start) (drop now.start text)) now.count entries) (sym w.audit-is)
                (subst (λ (n : ℕ). IsReading plan text (at + 1) old.audit (take (at + 1 - now.start) (drop now.start text)) n entries) (sym w.count-is)
                (subst (λ (s : ℕ). IsReading plan text (at + 1) old.audit (take (at + 1 - s) (drop s text)) old.count entries) (sym w.start-is)
                (subst (λ (l : List ℕ). IsReading plan text (at + 1) old.audit l old.count entries) (sym longer) next)))),
          )
    ]

pub returns-in-IsBad : goal.returns-in-IsBad
returns-in-IsBad c =
    let entries = c.loop-at.entries in
    let reading = c.loop-at.invariant.1 in
    let plan = c.args.plan.now in
    let text = c.args.text.now in
    let at = c.loop-at.at in
    let line = take (at - c.loop-at.start) (drop c.loop-at.start text) in
    let lt : c.loop-at.at < length c.args.text.now = search rules in
    let feed : get_or text at 0 ≡ 10 = search rules in
    let takes = subst (λ (t : Taken). TakesAs plan entries line t c.take_line.new.audit) c.in-IsBad.is (c.in_ok-entry.ensures entries reading.audited reading.count_is) in
    let why = c.in_ok-why-in-IsBad.ensures entries takes.1 reading.stands.allowed reading.count_is in
    reads_bad plan text at c.loop-at.count _ c.loop-at.audit line entries lt refl feed reading c.take_line.new.audit c.in_ok-why-in-IsBad.why (c.loop-at.count + 2) takes.0 why refl

pub returns-in-Ends : goal.returns-in-Ends
returns-in-Ends c =
    let entries = c.loop-at.entries in
    let reading = c.loop-at.invariant.1 in
    let plan = c.args.plan.now in
    let text = c.args.text.now in
    let at = c.loop-at.at in
    let line = take (at - c.loop-at.start) (drop c.loop-at.start text) in
    let lt : c.loop-at.at < length c.args.text.now = search rules in
    let feed : get_or text at 0 ≡ 10 = search rules in
    let small : length text < 2 ^ 64 = omega (arith, c.requires.size) in
    let takes = subst (λ (t : Taken). TakesAs plan entries line t c.take_line.new.audit) c.in-Ends.is (c.in_ok-entry.ensures entries reading.audited reading.count_is) in
    let ends = c.in_ok-end_by-in-Ends.ensures takes.1 reading.stands.allowed reading.count_is in
    reads_last plan text at c.loop-at.count _ c.loop-at.audit line entries lt refl feed reading c.take_line.new.audit _ c.in_ok-end_by-in-Ends.field-0 small refl takes.0 ends

pub returns : goal.returns
returns c =
    let none : drop c.loop-at.at c.args.text.now ≡ [] = drop_all c.loop-at.at c.args.text.now (omega (arith, c.loop-at-test.false)) in
    reads_cut c.args.plan.now c.args.text.now c.loop-at.at c.loop-at.count (c.loop-at.count + 2) c.loop-at.audit (take (c.loop-at.at - c.loop-at.start) (drop c.loop-at.start c.args.text.now)) c.loop-at.entries none refl c.loop-at.invariant.1
