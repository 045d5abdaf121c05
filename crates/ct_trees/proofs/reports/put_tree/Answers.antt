use Rattle.std.proofs.Common.{rules, ◌≡◌, ◌++◌, ◌∷◌, [], ℕ, List, Err, Ok, subst}
use Rattle.std.specs.Prelude.{codes}
use Rattle.ct_report.specs.PutLines.{PutsLines}
use Rattle.ct_trees.specs.TreeReports.{tree_summary}
use Rattle.ct_trees.proofs.PutTreeLemmas.{blank_fails, folder_fails, summary_behind_folder}
use Rattle.ct_trees.proofs.reports.put_tree.Goals as goal

pub returns-in_err-put_line : goal.returns-in_err-put_line
returns-in_err-put_line g c =
    let plan = c.args.plan.now in
    let fault = c.in_err-put_line.field-0.0 in
    let gave : c.from_residual-in_err-put_line.result ≡ Err fault = search rules in
    rw gave (blank_fails (codes "\n") (codes "Tree: " ++ plan.dir ++ codes "\n") (tree_summary plan c.args.part.now.entries.items) (g.S.Sink.tells c.args.sink.now) (g.S.Sink.tells c.put_line.new.sink) fault c.in_err-put_line.ensures)

pub returns-in_err-put_line-2 : goal.returns-in_err-put_line-2
returns-in_err-put_line-2 g c =
    let plan = c.args.plan.now in
    let line = codes "Tree: " ++ plan.dir ++ codes "\n" in
    let one = g.S.Sink.tells c.put_line.new.sink in
    let two = g.S.Sink.tells c.put_line-2.new.sink in
    let fault = c.in_err-put_line-2.field-0.0 in
    let named : c.bytes.result.now ≡ line = search rules in
    let gave : c.from_residual-in_err-put_line-2.result ≡ Err fault = search rules in
    let second = subst (λ (t : List ℕ). PutsLines (t ∷ []) one two (Err fault)) named c.in_err-put_line-2.ensures in
    rw gave (folder_fails (codes "\n") line (tree_summary plan c.args.part.now.entries.items) (g.S.Sink.tells c.args.sink.now) one two fault c.in_ok-put_line.ensures second)

pub returns-in_err-put_summary : goal.returns-in_err-put_summary
returns-in_err-put_summary g c =
    let plan = c.args.plan.now in
    let line = codes "Tree: " ++ plan.dir ++ codes "\n" in
    let one = g.S.Sink.tells c.put_line.new.sink in
    let two = g.S.Sink.tells c.put_line-2.new.sink in
    let new = g.S.Sink.tells c.put_summary.new.sink in
    let fault = c.in_err-put_summary.field-0.0 in
    let named : c.bytes.result.now ≡ line = search rules in
    let gave : c.from_residual-in_err-put_summary.result ≡ Err fault = search rules in
    let second = subst (λ (t : List ℕ). PutsLines (t ∷ []) one two (Ok tt)) named c.in_ok-put_line-2.ensures in
    rw gave (summary_behind_folder (codes "\n") line (tree_summary plan c.args.part.now.entries.items) (g.S.Sink.tells c.args.sink.now) one two new (Err fault) c.in_ok-put_line.ensures second c.in_err-put_summary.ensures)
