use Rattle.std.proofs.Common.{refl}
use Rattle.ct_trees.proofs.tree_run.run_planned.Goals as goal

pub run_prepared-requires-clause-ready : goal.run_prepared-requires-clause-ready
run_prepared-requires-clause-ready g c lifetimes outlives = (
  c.args.trees,
  record {
    planned = c.requires.planned;
    alike = c.requires.alike;
    few = c.requires.few;
    places = c.requires.places;
    level = c.requires.level;
    whole = c.in-Ok.ensures.whole;
    parts = c.in-Ok.ensures.parts;
    joined = c.in-Ok.ensures.joined;
    rests = c.in-Ok.ensures.rests;
    none = c.in-Ok.ensures.none;
    room = c.in-Ok.ensures.room;
  },
)

pub returns-in-Ok-clause-ran : goal.returns-in-Ok-clause-ran
returns-in-Ok-clause-ran g c = c.run_prepared.ensures.ran c.args.trees (record {
  planned = c.requires.planned;
  alike = c.requires.alike;
  few = c.requires.few;
  places = c.requires.places;
  level = c.requires.level;
  whole = c.in-Ok.ensures.whole;
  parts = c.in-Ok.ensures.parts;
  joined = c.in-Ok.ensures.joined;
  rests = c.in-Ok.ensures.rests;
  none = c.in-Ok.ensures.none;
  room = c.in-Ok.ensures.room;
})

pub returns-in-Err-clause-ran : goal.returns-in-Err-clause-ran
returns-in-Err-clause-ran g c = rw c.unrun.ensures (c.in-Err.ensures.plans, record { none = refl; memory = refl; no_place = refl; files = refl; gates = refl; sink = refl })
