use Rattle.std.proofs.Common.{ℕ, ◌≡◌, ◌≢◌, ◌∙◌, List, AllPairs, sym, ap, subst, rules}
use Rattle.ct_queue.specs.Lines.{AreNumbered}
use Rattle.ct_queue.specs.Spots.{members_value}
use Rattle.ct_queue.proofs.SpotLemmas.{spots_differ, spots_numbered, value_none}
use Rattle.ct_queue.proofs.members.Members.new.Goals as goal

pub places-requires-clause-within : goal.places-requires-clause-within
places-requires-clause-within c =
    subst (λ (l : List ℕ). AreNumbered l) (sym c.as_slice-2.ensures.value) (spots_numbered c.args.lines.now c.in_ok-spots.spots.items c.in_ok-spots.ensures)

pub places-requires-clause-apart : goal.places-requires-clause-apart
places-requires-clause-apart c =
    subst (λ (l : List ℕ). AllPairs (λ (one other : ℕ). one ≢ other) l) (sym c.as_slice-2.ensures.value) (spots_differ c.args.lines.now c.in_ok-spots.spots.items c.in_ok-spots.ensures)

pub returns : goal.returns
returns c =
    let copied : c.in_ok-copy.copy.items ≡ c.args.lines.now = search rules in
    ap (λ (ls : List ℕ). members_value ls c.in_ok-spots.spots.items c.in_ok-marks.marks) copied
    ∙ value_none c.args.lines.now c.in_ok-spots.spots.items c.in_ok-marks.marks c.in_ok-spots.ensures.long c.in_ok-marks.ensures.none
