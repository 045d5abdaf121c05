use Rattle.ct_testfile.specs.Tree.{tree_within}
use Rattle.ct_testfile.proofs.TreeLemmas.{told-ok, told-refused, told-kept}
use Rattle.ct_testfile.specs.Asks.{AsksWithin}
use Rattle.ct_testfile.proofs.AsksLemmas.{told-blamed}
use Rattle.ct_testfile.specs.TreeCalls.{calls_within}
use Rattle.ct_testfile.proofs.CallsLemmas.{told-made}
use Rattle.ct_testfile.proofs.tree.read_tree_within.Goals as goal

pub returns-clause-ok : goal.returns-clause-ok
returns-clause-ok g c = told-ok (g.F.Files.tells c.args.files.now).held (λ held. tree_within c.args.limits.now held c.args.dir.now c.args.config.now) c.read_through.result c.read_through.ensures.says.answer

pub returns-clause-refused : goal.returns-clause-refused
returns-clause-refused g c = told-refused (g.F.Files.tells c.args.files.now).held (λ held. tree_within c.args.limits.now held c.args.dir.now c.args.config.now) c.read_through.result c.read_through.ensures.says.answer

pub returns-clause-cause : goal.returns-clause-cause
returns-clause-cause g c = c.read_through.ensures.says.cause

pub returns-clause-kept : goal.returns-clause-kept
returns-clause-kept g c = told-kept (g.F.Files.tells c.args.files.now).held (g.F.Files.tells c.read_through.new.files).held c.read_through.ensures.says.kept

pub returns-clause-asks : goal.returns-clause-asks
returns-clause-asks g c = told-blamed (g.F.Files.tells c.args.files.now).held (λ held. AsksWithin c.args.limits.now held c.args.dir.now c.args.config.now) c.read_through.result c.read_through.ensures.asks

pub returns-clause-calls : goal.returns-clause-calls
returns-clause-calls g c = told-made (g.F.Files.tells c.args.files.now).held (λ held. calls_within c.args.limits.now held c.args.dir.now c.args.config.now) (g.F.Files.calls c.args.files.now) (g.F.Files.calls c.read_through.new.files) c.read_through.result c.read_through.ensures.calls
