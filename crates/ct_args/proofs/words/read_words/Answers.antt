use Rattle.std.proofs.Common.{rules, ◌≡◌, Ok}
use Rattle.ct_args.specs.Given.{options_in}
use Rattle.ct_args.specs.Invocation.{invocation_seen}
use Rattle.ct_args.specs.Slots.{no_slots, slots_behind, slots_of_settings}
use Rattle.ct_args.proofs.BoundLemmas.{bounded}
use Rattle.ct_args.proofs.ReadingLemmas.{reads_words}
use Rattle.ct_args.proofs.words.read_words.Goals as goal

pub returns : goal.returns
returns c =
    let made = c.in_ok-into_invocation.field-0 in
    let read : slots_behind no_slots (options_in c.args.words.now) ≡ Ok (slots_of_settings c.in_ok-settings.settings) = search rules in
    let exact = reads_words c.args.words.now (slots_of_settings c.in_ok-settings.settings) (invocation_seen made) read c.in_ok-into_invocation.ensures in
    record { exact = exact; bounds = bounded c.args.words.now made exact }
