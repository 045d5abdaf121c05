use Rattle.std.proofs.Common.{◌∙◌, List, ℕ, Bool, nat_eq, sym, ap, Bor}
use Rattle.std.specs.List.{list_any}
use Rattle.std.specs.Cmp.Lexicographic.{pointwise}
use Rattle.std.proofs.lemmas.List.Filters.{dedup_is}
use Rattle.std.proofs.lemmas.List.Sorted.{list_any-IsPermutation}
use Rattle.std.proofs.lemmas.Slice.Eq.{bytes_eq-Decides}
use Rattle.ct_graph.proofs.NameLemmas.{list_any-dedup, list_any-map}
use Rattle.ct_graph.proofs.by_name.each_once.Goals as goal

pub returns : goal.returns
returns c = λ p.
    let same : Bor (List ℕ) → Bor (List ℕ) → Bool = λ x y. pointwise nat_eq x.now y.now in
    ap (list_any (λ name. p name.now)) (dedup_is same c.sort_unstable.new.self.items c.dedup.new.self.items c.dedup.ensures.filtered)
    ∙ list_any-dedup same (λ name. p name.now) (λ x y is. ap p ((bytes_eq-Decides x.now y.now).0 is)) c.sort_unstable.new.self.items
    ∙ sym (list_any-IsPermutation (λ name. p name.now) c.in_ok-sorted.sorted.items c.sort_unstable.new.self.items c.sort_unstable.ensures.permutation)
    ∙ sym (list_any-map (λ (name : Bor (List ℕ)). name.now) p c.in_ok-sorted.sorted.items)
    ∙ ap (list_any p) c.in_ok-sorted.ensures
