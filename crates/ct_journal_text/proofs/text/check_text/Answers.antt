use Rattle.std.proofs.Common.{◌<◌, ◌^◌, length, rules}
use Rattle.ct_journal_text.proofs.ExactLemmas.{finds_once}
use Rattle.ct_journal_text.proofs.text.check_text.Goals as goal

pub returns-clause-sole : goal.returns-clause-sole
returns-clause-sole c other found =
    let small : length c.args.text.now < 2 ^ 64 = search rules in
    finds_once c.args.plan.now c.args.text.now c.in_ok-find_in.field-0 other small c.in_ok-find_in.ensures found
