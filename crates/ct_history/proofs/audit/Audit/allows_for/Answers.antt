use Rattle.std.proofs.Common.{◌∙◌, ◌<◌, ◌^◌, arith}
use Rattle.ct_history.proofs.AuditedLemmas.{says_allowed}
use Rattle.ct_history.proofs.audit.Audit.allows_for.Goals as goal

pub returns : goal.returns
returns c front told =
    let small : c.args.plan.now.repeat.times < 2 ^ 32 = omega arith in
    c.is_allowed.ensures ∙ says_allowed c.args.plan.now small front c.args.self.now told c.args.entry.now c.hand_out_attempt.ensures
