use Rattle.std.proofs.Common.{◌<◌, false, length, rules}
use Rattle.ct_verdict.specs.declared.attempt.Seen.{Seen}
use Rattle.measure.proofs.HeldLemmas.{oldest_ends}
use Rattle.measure.proofs.drive.run.Run.end_oldest.Goals as goal

pub returns-clause-held : goal.returns-clause-held
returns-clause-held c =
    let some : 0 < length c.args.self.now.tickets.items = search rules in
    let seen : Seen = record { how = c.how.result; fail_hit = false; pass_hit = false; skip_hit = false; micros = 0 } in
    oldest_ends c.args.self.now.core c.args.self.now.tickets.items c.remove-ticket.result c.remove-ticket.new.self.items seen c.finish-verdict.new.self c.requires some c.remove-ticket.ensures.value c.remove-ticket.ensures.items c.finish-verdict.ensures.appended
