use Rattle.std.proofs.Common.{◌∙◌, ◌||◌, Bool, bytes_eq, false, is_some, ap}
use Rattle.ct_core.specs.Locks.{noted_for}
use Rattle.ct_core.proofs.LockLemmas.{updated, known_more, none_still}
use Rattle.ct_core.proofs.locks.Locks.know.Goals as goal

pub returns-clause-known : goal.returns-clause-known
returns-clause-known c = λ asked.
    let old = c.args.self.now.held in
    let now = c.insert.new.self in
    let name = c.in_ok-from_slice.field-0.items in
    known_more (noted_for now asked) (noted_for old asked) false (bytes_eq asked name) (updated old now name false c.in_ok-insert.ensures.updates asked)
    ∙ ap (λ bytes. is_some (noted_for old asked) || bytes_eq asked bytes) (c.in_ok-from_slice.ensures.items ∙ c.bytes.ensures)

pub returns-clause-none : goal.returns-clause-none
returns-clause-none c = λ asked.
    let old = c.args.self.now.held in
    let now = c.insert.new.self in
    let name = c.in_ok-from_slice.field-0.items in
    none_still (λ (held : Bool). held) false (noted_for now asked) (noted_for old asked) (bytes_eq asked name) (updated old now name false c.in_ok-insert.ensures.updates asked) (c.requires asked)
