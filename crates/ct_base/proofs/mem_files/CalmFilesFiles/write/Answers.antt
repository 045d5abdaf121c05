use Rattle.std.proofs.Common.{rules}
use Rattle.ct_base.proofs.HeldLemmas.{held_by-put}
use Rattle.ct_base.proofs.mem_files.CalmFilesFiles.write.Goals as goal

pub returns-clause-writes : goal.returns-clause-writes
returns-clause-writes c = record {
  asks = search rules;
  ok = held_by-put c.args.self.now c.put_last.new.pairs c.args.path.now c.args.bytes.now (search rules);
  failed = search rules;
  no_memory = search rules;
}
