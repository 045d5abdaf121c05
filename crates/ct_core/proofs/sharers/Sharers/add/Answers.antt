use Rattle.std.proofs.Common.{◌∙◌, ◌||◌, bytes_eq, is_some, ap}
use Rattle.ct_core.specs.Locks.{noted_for}
use Rattle.ct_core.specs.declared.sharers.SharerCount.{SharerCount}
use Rattle.ct_core.specs.Sharers.{no_test}
use Rattle.ct_core.proofs.LockLemmas.{updated, known_more, none_still}
use Rattle.ct_core.proofs.sharers.Sharers.add.Goals as goal

pub returns-clause-counted : goal.returns-clause-counted
returns-clause-counted c = λ asked.
    let old = c.args.self.now.counts in
    let now = c.insert.new.self in
    let name = c.in_ok-from_slice.field-0.items in
    known_more (noted_for now asked) (noted_for old asked) no_test (bytes_eq asked name) (updated old now name no_test c.in_ok-insert.ensures.updates asked)
    ∙ ap (λ bytes. is_some (noted_for old asked) || bytes_eq asked bytes) (c.in_ok-from_slice.ensures.items ∙ c.bytes.ensures)

pub returns-clause-none : goal.returns-clause-none
returns-clause-none c = λ asked.
    let old = c.args.self.now.counts in
    let now = c.insert.new.self in
    let name = c.in_ok-from_slice.field-0.items in
    none_still (λ (count : SharerCount). count.tests) no_test (noted_for now asked) (noted_for old asked) (bytes_eq asked name) (updated old now name no_test c.in_ok-insert.ensures.updates asked) (c.requires asked)
