use Rattle.std.proofs.Common.{◌∙◌, Bool, bytes_eq, cond, false, is_some, sym, ap}
use Rattle.std.proofs.lemmas.Slice.Eq.{bytes_eq-Decides}
use Rattle.ct_core.specs.Locks.{noted_for, is_held}
use Rattle.ct_core.proofs.LockLemmas.{updated, known_still, held_now}
use Rattle.ct_core.proofs.locks.Locks.set.Goals as goal

pub returns-in-Some-clause-known : goal.returns-in-Some-clause-known
returns-in-Some-clause-known c = λ asked.
    let old = c.args.self.now.held in
    let now = c.get_mut.follows.lender c.args.held in
    let name = c.bytes.result.now in
    let updates = (c.get_mut.follows.holds c.args.held).3 (ap is_some (sym c.in-Some.ensures.value)) in
    known_still (noted_for now asked) (noted_for old asked) c.args.held (bytes_eq asked name) (updated old now name c.args.held updates asked)
    (λ same. ap (λ bytes. is_some (noted_for old bytes)) ((bytes_eq-Decides asked name).0 same ∙ c.bytes.ensures) ∙ c.requires)

pub returns-in-Some-clause-held : goal.returns-in-Some-clause-held
returns-in-Some-clause-held c = λ asked.
    let old = c.args.self.now.held in
    let now = c.get_mut.follows.lender c.args.held in
    let name = c.bytes.result.now in
    let updates = (c.get_mut.follows.holds c.args.held).3 (ap is_some (sym c.in-Some.ensures.value)) in
    held_now (λ (held : Bool). held) false (noted_for now asked) (noted_for old asked) c.args.held (bytes_eq asked name) (updated old now name c.args.held updates asked)
    ∙ ap (λ bytes. cond (bytes_eq asked bytes) c.args.held (is_held c.args.self.now asked)) c.bytes.ensures
