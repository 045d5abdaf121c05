use Rattle.ct_app.proofs.fault.append_spec_fault.Goals as goal

pub returns-in-BadSlots : goal.returns-in-BadSlots
returns-in-BadSlots c = rw c.in-BadSlots.is c.append_both-in-BadSlots.ensures

pub returns-in-TooMany : goal.returns-in-TooMany
returns-in-TooMany c = rw c.in-TooMany.is c.append-in-TooMany.ensures.ok
