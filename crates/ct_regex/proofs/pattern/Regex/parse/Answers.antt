use Rattle.std.proofs.Common.{◌<◌, length, rules, arith, Ok, sym, ◌∙◌}
use Rattle.std.proofs.lemmas.Bool.Decides.{nat_tests}
use Rattle.ct_regex.specs.Limits.{most_pattern_bytes}
use Rattle.ct_regex.specs.Faulty.{too_long}
use Rattle.ct_regex.specs.declared.fault.RegexFault.TheVariants.{TooLarge}
use Rattle.ct_regex.specs.Meaning.{meaning}
use Rattle.ct_regex.specs.TreeOf.{regex_tree}
use Rattle.ct_regex.proofs.WrittenLemmas.{reading_written}
use Rattle.ct_regex.proofs.ReadBackLemmas.{read_as}
use Rattle.ct_regex.proofs.FaultLemmas.{refuses_fault, same_why}
use Rattle.ct_regex.proofs.OneAnswerLemmas.{faulty_read, one_answer, sole_answer}
use Rattle.ct_regex.proofs.SoundLemmas.{pattern_sound}
use Rattle.ct_regex.proofs.pattern.Regex.parse.Goals as goal

pub invariant_of-result : goal.invariant_of-result
invariant_of-result c = record { sound = pattern_sound (reading_written c.args.text.now (meaning c.in_ok-root.root) c.in_ok-root.ensures) }

pub returns-clause-written : goal.returns-clause-written
returns-clause-written c = reading_written c.args.text.now (meaning c.in_ok-root.root) c.in_ok-root.ensures

pub returns-then-text-clause-read : goal.returns-then-text-clause-read
returns-then-text-clause-read c = λ tree p. tt

pub returns-in_err-root-clause-read : goal.returns-in_err-root-clause-read
returns-in_err-root-clause-read c = λ tree p. read_as regex_tree c.args.text.now tree c.from_residual.result (search rules) p

pub returns-clause-read : goal.returns-clause-read
returns-clause-read c = λ tree p. read_as meaning c.args.text.now tree (Ok c.in_ok-root.root) c.in_ok-root.ensures p

pub returns-then-text-clause-refused : goal.returns-then-text-clause-refused
returns-then-text-clause-refused c =
    let far : most_pattern_bytes < length c.args.text.now = first_of (search rules, grind (arith, nat_tests)) in too_long far

pub returns-in_err-root-clause-refused : goal.returns-in_err-root-clause-refused
returns-in_err-root-clause-refused c = refuses_fault regex_tree c.args.text.now c.from_residual.result (search rules)

pub returns-then-text-clause-sole : goal.returns-then-text-clause-sole
returns-then-text-clause-sole c =
    let far : most_pattern_bytes < length c.args.text.now = first_of (search rules, grind (arith, nat_tests)) in
    λ why is. same_why (TooLarge most_pattern_bytes) why (sym (faulty_read (too_long far)) ∙ faulty_read is)

pub returns-in_err-root-clause-sole : goal.returns-in_err-root-clause-sole
returns-in_err-root-clause-sole c = sole_answer regex_tree c.args.text.now c.from_residual.result (search rules)

pub returns-clause-sole : goal.returns-clause-sole
returns-clause-sole c = sole_answer meaning c.args.text.now (Ok c.in_ok-root.root) c.in_ok-root.ensures

pub returns-then-text-clause-one : goal.returns-then-text-clause-one
returns-then-text-clause-one c = one_answer c.args.text.now

pub returns-in_err-root-clause-one : goal.returns-in_err-root-clause-one
returns-in_err-root-clause-one c = one_answer c.args.text.now

pub returns-clause-one : goal.returns-clause-one
returns-clause-one c = one_answer c.args.text.now
