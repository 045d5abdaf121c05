use Rattle.std.proofs.Common.{rules, ap, subst, ℕ}
use Rattle.ct_core.specs.Gate.{HasStartCause}
use Rattle.ct_core.specs.ScriptValue.{ScriptValue}
use Rattle.ct_core.proofs.script.ScriptGateGate.run.Goals as goal

pub returns-in-Ok : goal.returns-in-Ok
returns-in-Ok g c =
    let same = ap (λ (s : ScriptValue). s.faults) c.in-Ok.ensures.ok in
    record {
      runs = record {
        told = search rules;
        heard = search rules;
        asked = search rules;
        sent = search rules;
        lent = search rules;
        who = search rules;
        world = search rules;
        cause = subst (λ (n : ℕ). HasStartCause n c.count.new.self.faults c.told_end-ended.result.how) same c.count.ensures.cause;
      };
      kept = c.hear.ensures.kept;
    }
