use Rattle.std.proofs.Common.{◌≡◌, ◌∙◌, sym, ap, drop, rules, Ok, Err, Result, ℕ, arith}
use Rattle.std.proofs.lemmas.Bool.Decides.{nat_tests}
use Rattle.std.proofs.lemmas.List.{take_rest}
use Rattle.ct_lex.specs.Bracket.{gap_at}
use Rattle.ct_lex.specs.declared.stop.Stop.{Stop}
use Rattle.ct_lex.proofs.StepLemmas.{gap_turn}
use Rattle.ct_lex.proofs.ArgsLemmas.{counted_turn, counted-refused}
use Rattle.ct_lex.proofs.argument.arguments_len.Goals as goal

pub loop-at-preserved : goal.loop-at-preserved
loop-at-preserved c =
    let known = rw take_rest at c.in_ok-gap.ensures in
    gap_turn c.args.text.now c.loop-at.at c.in_ok-gap.gap _ c.loop-at-test.true (grind (arith, nat_tests)) (sym known.value) (omega arith) known.within c.loop-at.invariant.1

pub loop-at-preserved-then-gap-eq0 : goal.loop-at-preserved-then-gap-eq0
loop-at-preserved-then-gap-eq0 c =
    let known = rw take_rest at c.in_ok-gap.ensures in
    let read = rw take_rest at c.in_ok-at.ensures in
    let gap : gap_at (drop c.loop-at.at c.args.text.now) ≡ Ok 0 = sym known.value ∙ (let P : ℕ → Result ℕ Stop = λ n. Ok n in ap P c.if-gap-eq0.true) in
    counted_turn c.args.text.now c.loop-at.at c.in_ok-at.field-0 _ c.loop-at-test.true (grind (arith, nat_tests)) gap (sym read.value) read.some read.within c.loop-at.invariant.1

pub returns-in_err-at-clause-value : goal.returns-in_err-at-clause-value
returns-in_err-at-clause-value c =
    let given : ◌≡◌ {A = Result ℕ Stop} c.from_residual-in_err-at.result (Err c.in_err-at.field-0.0) = search rules in
    let known = rw take_rest at c.in_ok-gap.ensures in
    let read = rw take_rest at c.in_err-at.ensures in
    let gap : gap_at (drop c.loop-at.at c.args.text.now) ≡ Ok 0 = sym known.value ∙ (let P : ℕ → Result ℕ Stop = λ n. Ok n in ap P c.if-gap-eq0.true) in
    given ∙ counted-refused c.args.text.now c.loop-at.at c.in_err-at.field-0.0 _ c.loop-at-test.true (grind (arith, nat_tests)) gap (sym read.value) c.loop-at.invariant.1
