use Rattle.std.proofs.Common.{◌≡◌, ◌∙◌, sym, rules, ℕ, Result, Err}
use Rattle.std.proofs.lemmas.List.{take_rest}
use Rattle.ct_lex.specs.declared.stop.Stop.{Stop}
use Rattle.ct_lex.proofs.ArgsLemmas.{bytes_read-apart, bytes_read-touched, bytes_read-refused}
use Rattle.ct_lex.proofs.lengths.argument_len.Goals as goal

pub returns-in_err-taken-clause-value : goal.returns-in_err-taken-clause-value
returns-in_err-taken-clause-value c =
    let given : ◌≡◌ {A = Result ℕ Stop} c.from_residual.result (Err c.in_err-taken.field-0.0) = search rules in
    given ∙ sym (bytes_read-refused c.args.text.now c.in_err-taken.field-0.0 (sym c.in_err-taken.ensures.value))

pub returns-then-may_follow-clause-value : goal.returns-then-may_follow-clause-value
returns-then-may_follow-clause-value c =
    let follows = rw take_rest at c.if-may_follow.ensures in
    sym (bytes_read-apart c.args.text.now c.in_ok-taken.taken (sym c.in_ok-taken.ensures.value) (sym follows))

pub returns-else-may_follow-clause-value : goal.returns-else-may_follow-clause-value
returns-else-may_follow-clause-value c =
    let touches = rw take_rest at c.if-may_follow.ensures in
    let refusal = rw take_rest at c.at.ensures in
    rw refusal (sym (bytes_read-touched c.args.text.now c.in_ok-taken.taken (sym c.in_ok-taken.ensures.value) (sym touches)))
