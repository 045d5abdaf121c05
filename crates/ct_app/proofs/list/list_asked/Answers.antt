use Rattle.std.proofs.Common.{rules, ◌≡◌, ℕ, List, subst}
use Rattle.std.specs.Prelude.{Option}
use Rattle.ct_args.specs.declared.invocation.Invocation.{Invocation}
use Rattle.ct_report.specs.PutLines.{PutsLines}
use Rattle.ct_app.specs.Lists.{asked_lines}
use Rattle.ct_app.specs.Rerun.{choice_for}
use Rattle.ct_app.proofs.ListLemmas.{read_list}
use Rattle.ct_app.proofs.list.list_asked.Goals as goal

pub returns-in-Ok : goal.returns-in-Ok
returns-in-Ok g c words asked =
    let files = g.F.Files.tells c.args.files.now in
    let files_now = g.F.Files.tells c.read_listed.new.files in
    let sink = g.S.Sink.tells c.args.sink.now in
    let sink_now = g.S.Sink.tells c.put_list.new.sink in
    let invocation = c.args.invocation.now in
    let tests = c.in-Ok.folder.tests in
    let only : c.take.result ≡ c.in-Ok.folder.only = search rules in
    let limited = subst (λ (i : Invocation). PutsLines (asked_lines i i.wanted.choice tests.defs tests.props) sink sink_now c.put_list.result) c.limit_choice.ensures c.put_list.ensures in
    let puts = subst (λ (o : Option (List (List ℕ))). PutsLines (asked_lines invocation (choice_for invocation o) tests.defs tests.props) sink sink_now c.put_list.result) only limited in
    rw c.listed.ensures (read_list words invocation asked files files_now sink sink_now tests c.in-Ok.folder.only c.put_list.result c.in-Ok.ensures.ok puts)
