use Rattle.std.proofs.Common.{rules, ◌≡◌, ◌<◌, ◌+◌, ◌^◌, ◌++◌, ◌∷◌, [], ℕ, List, get_or, take, sym, subst}
use Rattle.std.proofs.Common.{arith}
use Rattle.std.proofs.lemmas.Grind.{common_steps}
use Rattle.ct_base.specs.declared.defs.Resource.{Resource}
use Rattle.ct_alloc.specs.Free.{slot_counts}
use Rattle.ct_alloc.proofs.PickLemmas.{bounded-more}
use Rattle.ct_alloc.proofs.free.copied.Goals as goal

pub loop-resource-preserved : goal.loop-resource-preserved
loop-resource-preserved c =
    let made : Resource = c.in_ok-copy.field-0 in
    let pushed : c.push.new.self ≡ c.loop-resource.copy ++ made ∷ [] = search rules in
    let here : made.slots < 2 ^ 32 = search rules in
    let copies : c.push.new.self ≡ take (c.loop-resource.resource-index + 1) c.args.resources.now = grind (arith, common_steps) in
    (copies, subst (λ (rs : List Resource). (place : ℕ) → get_or (slot_counts rs) place 0 < 2 ^ 32) (sym pushed) (λ place. bounded-more c.loop-resource.copy made (2 ^ 32) place c.loop-resource.invariant.1 here))
