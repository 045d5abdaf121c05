use Rattle.std.proofs.Common.{rules, ◌+◌, drop}
use Rattle.ct_args.specs.Given.{options_from, options_in, last_word_of}
use Rattle.ct_args.specs.Read.{IsFirstFault}
use Rattle.ct_args.specs.Seen.{given_seen}
use Rattle.ct_args.specs.Slots.{no_slots, slots_behind, slots_of_settings, after_given}
use Rattle.ct_args.proofs.LoopLemmas.{option_refused}
use Rattle.ct_args.proofs.settings.Settings.read.Goals as goal

pub returns-in_err-take : goal.returns-in_err-take
returns-in_err-take c =
    let given = given_seen c.behind-given.result in
    let stopped : IsFirstFault (after_given (slots_of_settings c.words.settings) given) c.in_err-take.field-0.0 = search rules in
    let refused = option_refused (slots_of_settings c.words.settings) given (options_from (last_word_of given + 1) (drop (last_word_of given) c.args.words.now)) (options_from (c.words.count + 1) (drop c.words.count c.args.words.now)) (slots_behind no_slots (options_in c.args.words.now)) c.in_err-take.field-0.0 c.behind-given.ensures.cut stopped c.words.invariant.so_far in
    search (rules, refused)
