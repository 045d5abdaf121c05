use Rattle.std.proofs.Common.{rules, ◌≡◌, List, map, subst}
use Rattle.ct_base.specs.declared.defs.Need.{Need}
use Rattle.ct_alloc.specs.Spread.{NoneSpread}
use Rattle.ct_alloc.proofs.PlaceLemmas.{none-fits}
use Rattle.ct_alloc.proofs.free.Free.place.Goals as goal

pub returns : goal.returns
returns c =
    let wanted : map (λ n. n.now) c.as_slice-2.result.now ≡ c.args.needs.now = search rules in
    let none : NoneSpread c.args.self.now (map (λ n. n.now) c.as_slice-2.result.now) = search rules in
    record { exact = none-fits c.args.self.now c.args.needs.now (subst (λ (ns : List Need). NoneSpread c.args.self.now ns) wanted none) }
