use Rattle.std.proofs.Common.{◌≡◌, ◌∙◌, sym, ap, subst, refl, ℕ, ◌+◌, ◌-◌, List, length, drop, arith}
use Rattle.std.specs.Prelude.{map}
use Rattle.ct_turn.specs.Pass.{PassValue}
use Rattle.ct_worker.specs.declared.state.Halt.TheVariants.{Memory}
use Rattle.ct_worker.specs.Crew.{AreReady}
use Rattle.ct_worker.specs.State.{base_of, given_up}
use Rattle.ct_worker.specs.Work.{terms_in}
use Rattle.ct_worker.proofs.PartLemmas.{parted_in, ready_all}
use Rattle.ct_worker.proofs.PoolLemmas.{first_idle, first_opener, is_pooled, joined_all, joined_opener, joined_taken, joined_turn, others_idle, pooled_in, unpooled_is}
use Rattle.ct_worker.proofs.crew.run_workers.Goals as goal

pub returns-in_default-clause-pooled : goal.returns-in_default-clause-pooled
returns-in_default-clause-pooled g c =
    let terms = terms_in c.args.jobs.now c.args.state.plan in
    unpooled_is terms c.args.workers c.args.state c.unstarted.result (map g.G.Gate.tells c.args.gates.now) c.requires.fresh.0 c.requires.fresh.1 c.unstarted.ensures.state c.unstarted.ensures.put c.unstarted.ensures.halted

pub returns-in-Err-clause-pooled : goal.returns-in-Err-clause-pooled
returns-in-Err-clause-pooled g c =
    let terms = terms_in c.args.jobs.now c.args.state.plan in
    unpooled_is terms c.args.workers c.args.state c.unstarted-in-Err.result (map g.G.Gate.tells c.args.gates.now) c.requires.fresh.0 c.requires.fresh.1
    (c.unstarted-in-Err.ensures.state ∙ ap (given_up Memory) c.in-Err.ensures.err) c.unstarted-in-Err.ensures.put c.unstarted-in-Err.ensures.halted

pub crew-requires-clause-ready : goal.crew-requires-clause-ready
crew-requires-clause-ready g c κs within =
    subst (λ (ps : List PassValue). AreReady c.args.jobs.now c.in-Ok-open.turn 0 ps) (sym c.as_mut_slice.ensures.value)
    (ready_all c.args.jobs.now c.in-Ok-open.turn c.args.state.plan (base_of c.args.state) c.in-Ok-open.first (c.args.workers - 1) c.split_all.new.passes.items
    c.in-Ok-open.ensures.ok.1 c.requires.reach c.split_all.ensures.split)

pub join_all-requires : goal.join_all-requires
join_all-requires g c =
    let jobs = c.args.jobs.now in
    let turn = c.in-Ok-open.turn in
    let plan = c.args.state.plan in
    let base = base_of c.args.state in
    let count : ℕ = c.args.workers - 1 in
    let first = c.remove-first.result in
    let others = c.remove-first.new.self.items in
    let passes = c.split_all.new.passes in
    let befores = map g.G.Gate.tells c.split_at_mut-working.result.0.now in
    let nows = map g.G.Gate.tells c.crew.new.gates in
    let parts = parted_in jobs turn plan base count c.in-Ok-open.first first passes.items c.as_mut_slice.result.now c.crew.new.passes (drop (length c.crew.new.passes) passes.items) others passes.len befores nows
    c.in-Ok-open.ensures.ok.1 c.split_all.ensures.split passes.ok.0 c.split_all.ensures.count c.as_mut_slice.ensures.value c.crew.ensures c.remove-first.ensures.value c.remove-first.ensures.items in
    record {
      opener = first_opener jobs turn plan base count first first others befores nows parts;
      first = first_idle jobs turn plan base count first first others befores nows parts;
      others = others_idle jobs turn plan base count first first others befores nows parts;
    }

pub close-state-requires : goal.close-state-requires
close-state-requires g c =
    let jobs = c.args.jobs.now in
    let turn = c.in-Ok-open.turn in
    let plan = c.args.state.plan in
    let base = base_of c.args.state in
    let count : ℕ = c.args.workers - 1 in
    let first = c.remove-first.result in
    let now = c.join_all.new.first in
    let others = c.remove-first.new.self.items in
    let passes = c.split_all.new.passes in
    let befores = map g.G.Gate.tells c.split_at_mut-working.result.0.now in
    let nows = map g.G.Gate.tells c.crew.new.gates in
    let parts = parted_in jobs turn plan base count c.in-Ok-open.first first passes.items c.as_mut_slice.result.now c.crew.new.passes (drop (length c.crew.new.passes) passes.items) others passes.len befores nows
    c.in-Ok-open.ensures.ok.1 c.split_all.ensures.split passes.ok.0 c.split_all.ensures.count c.as_mut_slice.ensures.value c.crew.ensures c.remove-first.ensures.value c.remove-first.ensures.items in
    let joined = c.join_all.ensures.known in
    record {
      turn = joined_turn jobs turn plan base count first now others befores nows parts joined;
      opener = joined_opener jobs turn plan base count first now others befores nows parts joined;
      idle = joined_taken jobs turn plan base count first now others befores nows parts joined;
      done = c.join_all.ensures.held ∙ (first_idle jobs turn plan base count first now others befores nows parts).start;
      joined = joined_all jobs turn plan base count first now others befores nows parts joined;
    }

pub returns-in-Ok-open-clause-pooled : goal.returns-in-Ok-open-clause-pooled
returns-in-Ok-open-clause-pooled g c =
    let jobs = c.args.jobs.now in
    let turn = c.in-Ok-open.turn in
    let plan = c.args.state.plan in
    let base = base_of c.args.state in
    let count : ℕ = c.args.workers - 1 in
    let first = c.remove-first.result in
    let now = c.join_all.new.first in
    let others = c.remove-first.new.self.items in
    let passes = c.split_all.new.passes in
    let front = c.split_at_mut-working.result.0.now in
    let back = c.split_at_mut-working.result.1.now in
    let befores = map g.G.Gate.tells front in
    let nows = map g.G.Gate.tells c.crew.new.gates in
    let parts = parted_in jobs turn plan base count c.in-Ok-open.first first passes.items c.as_mut_slice.result.now c.crew.new.passes (drop (length c.crew.new.passes) passes.items) others passes.len befores nows
    c.in-Ok-open.ensures.ok.1 c.split_all.ensures.split passes.ok.0 c.split_all.ensures.count c.as_mut_slice.ensures.value c.crew.ensures c.remove-first.ensures.value c.remove-first.ensures.items in
    let some = c.requires.some in
    let many : c.args.workers ≡ c.args.workers - 1 + 1 = omega (arith, some) in
    pooled_in g.G.Gate.tells (terms_in jobs plan) c.args.workers c.args.state c.close-state.result c.args.gates.now front back c.crew.new.gates
    c.split_at_mut-working.ensures.value
    (is_pooled jobs turn plan base count first now others befores nows parts c.join_all.ensures.known c.args.state c.close-state.result c.args.workers (map g.G.Gate.tells back) many refl refl
    c.hand_out_sound.ensures c.join_all.ensures.own c.close-state.ensures c.hand_out_lines.ensures.put c.hand_out_lines.ensures.halted)
