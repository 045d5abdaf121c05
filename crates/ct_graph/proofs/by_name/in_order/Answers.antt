use Rattle.std.proofs.Common.{◌≡◌, ◌∙◌, eqb, sym, ap, subst}
use Rattle.std.specs.List.{dedup}
use Rattle.std.specs.List.Sorted.{IsStrictlyIncreasing}
use Rattle.std.proofs.lemmas.Bool.{eqb-true}
use Rattle.std.proofs.lemmas.List.Filters.{dedup_is}
use Rattle.std.proofs.lemmas.List.Sorted.{list_any-IsPermutation}
use Rattle.std.proofs.lemmas.Map.Keys.{IsStrictlyIncreasing-dedup}
use Rattle.ct_base.specs.Numbers.{is_in}
use Rattle.ct_graph.proofs.NameLemmas.{list_any-dedup}
use Rattle.ct_graph.proofs.by_name.in_order.Goals as goal

pub returns-clause-ascending : goal.returns-clause-ascending
returns-clause-ascending c =
    let is : c.from_vec.result ≡ dedup eqb c.sort_unstable.new.self.items = c.from_vec.ensures ∙ dedup_is eqb c.sort_unstable.new.self.items c.dedup.new.self.items c.dedup.ensures.filtered in
    subst IsStrictlyIncreasing (sym is) (IsStrictlyIncreasing-dedup c.sort_unstable.new.self.items c.sort_unstable.ensures.sorted)

pub returns-clause-same : goal.returns-clause-same
returns-clause-same c = λ n.
    let is : c.from_vec.result ≡ dedup eqb c.sort_unstable.new.self.items = c.from_vec.ensures ∙ dedup_is eqb c.sort_unstable.new.self.items c.dedup.new.self.items c.dedup.ensures.filtered in
    ap (λ tests. is_in tests n) is
    ∙ list_any-dedup eqb (λ m. eqb m n) (λ x y same. ap (λ m. eqb m n) (eqb-true x y same)) c.sort_unstable.new.self.items
    ∙ sym (list_any-IsPermutation (λ m. eqb m n) c.args.tests.items c.sort_unstable.new.self.items c.sort_unstable.ensures.permutation)
