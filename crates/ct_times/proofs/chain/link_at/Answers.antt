use Rattle.std.proofs.Common.{rules, ◌<◌, ℕ, length, arith, subst, sym, List}
use Rattle.std.specs.List.Sorted.{IsNonDecreasing}
use Rattle.ct_times.proofs.LinkLemmas.{Found, found_end, found_inside, placed, times_sorted}
use Rattle.ct_times.proofs.StartLemmas.{start_in_front}
use Rattle.ct_times.proofs.chain.link_at.Goals as goal

pub first_at-end-requires-clause-sorted : goal.first_at-end-requires-clause-sorted
first_at-end-requires-clause-sorted c = subst (λ (ts : List ℕ). IsNonDecreasing ts) (sym c.requires.least) (times_sorted c.args.entries.now)

pub offset_bounds-entries-end : goal.offset_bounds-entries-end
offset_bounds-entries-end c =
    let found : Found c.args.entries.now c.args.times.now c.args.place c.first_at-end.result = record { least = c.requires.least; some = c.requires.later; at = c.first_at-end.ensures.first } in
    let within : c.first_at-end.result < length c.args.entries.now = found_inside c.args.entries.now c.args.times.now c.args.place c.first_at-end.result found in
    search rules

pub bounds-entries-end : goal.bounds-entries-end
bounds-entries-end c = found_inside c.args.entries.now c.args.times.now c.args.place c.first_at-end.result (record { least = c.requires.least; some = c.requires.later; at = c.first_at-end.ensures.first })

pub unreachable-requires : goal.unreachable-requires
unreachable-requires c =
    let there = found_end c.args.entries.now c.args.times.now c.args.place c.first_at-end.result c.index-entries-end.result (record { least = c.requires.least; some = c.requires.later; at = c.first_at-end.ensures.first }) c.index-entries-end.is in
    c.in_default.not-End there.0 there.1 there.2 there.3 there.4

pub last_start-begin-requires-clause-inside : goal.last_start-begin-requires-clause-inside
last_start-begin-requires-clause-inside c = omega (arith, found_inside c.args.entries.now c.args.times.now c.args.place c.first_at-end.result (record { least = c.requires.least; some = c.requires.later; at = c.first_at-end.ensures.first }))

pub last_start-begin-requires-clause-there : goal.last_start-begin-requires-clause-there
last_start-begin-requires-clause-there c =
    start_in_front c.args.entries.now c.requires.legal c.first_at-end.result c.in-End.test c.in-End.attempt c.in-End.worker c.in-End.seen c.index-entries-end.result
    (found_inside c.args.entries.now c.args.times.now c.args.place c.first_at-end.result (record { least = c.requires.least; some = c.requires.later; at = c.first_at-end.ensures.first }))
    c.index-entries-end.is c.in-End.is

pub returns-clause-is : goal.returns-clause-is
returns-clause-is c =
    (placed c.args.entries.now c.args.times.now c.args.place c.first_at-end.result c.last_start-begin.result c.in-End.test c.in-End.attempt c.in-End.worker c.in-End.seen c.index-entries-end.result
    (record { least = c.requires.least; some = c.requires.later; at = c.first_at-end.ensures.first }) c.requires.legal c.index-entries-end.is c.in-End.is c.last_start-begin.ensures).0

pub returns-clause-placed : goal.returns-clause-placed
returns-clause-placed c =
    (placed c.args.entries.now c.args.times.now c.args.place c.first_at-end.result c.last_start-begin.result c.in-End.test c.in-End.attempt c.in-End.worker c.in-End.seen c.index-entries-end.result
    (record { least = c.requires.least; some = c.requires.later; at = c.first_at-end.ensures.first }) c.requires.legal c.index-entries-end.is c.in-End.is c.last_start-begin.ensures).1
