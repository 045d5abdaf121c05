use Rattle.ct_testfile.proofs.TreeLemmas.{next-ok, next-err}
use Rattle.ct_testfile.proofs.tree.next_call.Goals as goal

pub returns-in-Ok : goal.returns-in-Ok
returns-in-Ok c = next-ok c.args.file.now c.args.lexer.now c.next.new.self c.in-Ok.call c.in-Ok.ensures.reading c.in-Ok.ensures.shrinks

pub returns-in-Err : goal.returns-in-Err
returns-in-Err c = next-err c.args.file.now c.args.lexer.now c.next.new.self c.in-Err.fault c.fault_in.result c.in-Err.ensures.reading c.fault_in.ensures
