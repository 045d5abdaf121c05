use Rattle.std.proofs.Common.{◌∙◌, bytes_eq, cond, is_some, sym, ap}
use Rattle.std.proofs.lemmas.Slice.Eq.{bytes_eq-Decides}
use Rattle.ct_core.specs.declared.sharers.SharerCount.{SharerCount}
use Rattle.ct_core.specs.Locks.{noted_for}
use Rattle.ct_core.specs.Sharers.{has_mark, no_test, sharers_of}
use Rattle.ct_core.proofs.LockLemmas.{updated, known_still, held_now}
use Rattle.ct_core.proofs.sharers.Sharers.set.Goals as goal

pub returns-in-Some-clause-counted : goal.returns-in-Some-clause-counted
returns-in-Some-clause-counted c = λ asked.
    let count : SharerCount = record { tests = c.args.tests; marked = c.args.marked } in
    let old = c.args.self.now.counts in
    let now = c.get_mut.follows.lender count in
    let name = c.bytes.result.now in
    let updates = (c.get_mut.follows.holds count).3 (ap is_some (sym c.in-Some.ensures.value)) in
    known_still (noted_for now asked) (noted_for old asked) count (bytes_eq asked name) (updated old now name count updates asked)
    (λ same. ap (λ bytes. is_some (noted_for old bytes)) ((bytes_eq-Decides asked name).0 same ∙ c.bytes.ensures) ∙ c.requires)

pub returns-in-Some-clause-set : goal.returns-in-Some-clause-set
returns-in-Some-clause-set c = λ asked.
    let count : SharerCount = record { tests = c.args.tests; marked = c.args.marked } in
    let old = c.args.self.now.counts in
    let now = c.get_mut.follows.lender count in
    let name = c.bytes.result.now in
    let updates = (c.get_mut.follows.holds count).3 (ap is_some (sym c.in-Some.ensures.value)) in
    held_now (λ (of : SharerCount). of.tests) no_test (noted_for now asked) (noted_for old asked) count (bytes_eq asked name) (updated old now name count updates asked)
    ∙ ap (λ bytes. cond (bytes_eq asked bytes) c.args.tests (sharers_of c.args.self.now asked)) c.bytes.ensures

pub returns-in-Some-clause-marked : goal.returns-in-Some-clause-marked
returns-in-Some-clause-marked c = λ asked.
    let count : SharerCount = record { tests = c.args.tests; marked = c.args.marked } in
    let old = c.args.self.now.counts in
    let now = c.get_mut.follows.lender count in
    let name = c.bytes.result.now in
    let updates = (c.get_mut.follows.holds count).3 (ap is_some (sym c.in-Some.ensures.value)) in
    held_now (λ (of : SharerCount). of.marked) no_test (noted_for now asked) (noted_for old asked) count (bytes_eq asked name) (updated old now name count updates asked)
    ∙ ap (λ bytes. cond (bytes_eq asked bytes) c.args.marked (has_mark c.args.self.now asked)) c.bytes.ensures
