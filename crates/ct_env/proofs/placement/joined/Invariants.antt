use Rattle.std.proofs.Common.{◌≡◌, ◌++◌, ◌∷◌, [], drop, flat_map}
use Rattle.ct_env.proofs.placement.joined.Given as goal

abbrev pub invariant-loop-next : goal.invariant-loop-next
invariant-loop-next l = l.text.items ++ flat_map (λ one. (l.separator ∷ []) ++ one) (drop l.next-index l.rest) ≡ l.initial.text.items ++ flat_map (λ one. (l.separator ∷ []) ++ one) l.rest
