use Rattle.std.proofs.Common.{◌∙◌, ◌<◌, ◌^◌, arith}
use Rattle.ct_history.proofs.AuditedLemmas.{says_end}
use Rattle.ct_history.proofs.audit.Audit.is_at_end_for.Goals as goal

pub returns : goal.returns
returns c front told =
    let small : c.args.plan.now.repeat.times < 2 ^ 32 = omega arith in
    c.has_ended.ensures ∙ says_end c.args.plan.now small front c.args.self.now told
