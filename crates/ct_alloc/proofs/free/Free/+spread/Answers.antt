use Rattle.std.proofs.Common.{rules, ◌≡◌, ◌<◌, ◌∙◌, ℕ, List, length, map, sym, ap, subst, true}
use Rattle.std.specs.Prelude.{filter, slice_get, Some}
use Rattle.std.specs.List.{list_all}
use Rattle.std.proofs.lemmas.List.{length-map}
use Rattle.ct_base.specs.declared.defs.Need.{Need}
use Rattle.ct_alloc.specs.Spread.{IsSpread, NoneSpread, asks_kind, asks_other, interleaved}
use Rattle.ct_alloc.proofs.SpreadLemmas.{all-filter, none-spread, others-fewer, spread-interleaved}
use Rattle.ct_alloc.proofs.free.Free.+spread.Goals as goal

pub spread_kind-requires : goal.spread_kind-requires
spread_kind-requires t c =
    let kind : List ℕ = c.in-Some.first.now.now.kind in
    let needs : List Need = map (λ n. n.now) c.args.needs.now in
    let mine : map (λ n. n.now) c.as_slice.result.now ≡ filter (asks_kind kind) needs = search rules in
    record { alike = subst (λ (ns : List Need). list_all (asks_kind kind) ns ≡ true) (sym mine) (all-filter (asks_kind kind) needs) }

pub returns-in_default-2 : goal.returns-in_default-2
returns-in_default-2 t c =
    let kind : List ℕ = c.in-Some.first.now.now.kind in
    let needs : List Need = map (λ n. n.now) c.args.needs.now in
    let mine : map (λ n. n.now) c.as_slice.result.now ≡ filter (asks_kind kind) needs = search rules in
    let none : NoneSpread c.args.self.now (map (λ n. n.now) c.as_slice.result.now) = search rules in
    record { exact = none-spread (asks_kind kind) c.args.self.now needs (subst (λ (ns : List Need). NoneSpread c.args.self.now ns) mine none) }

pub spread-requires : goal.spread-requires
spread-requires t c =
    let kind : List ℕ = c.in-Some.first.now.now.kind in
    let needs : List Need = map (λ n. n.now) c.args.needs.now in
    let others : map (λ n. n.now) c.as_slice-2.result.now ≡ filter (asks_other kind) needs = search rules in
    let first : slice_get c.args.needs.now 0 ≡ Some c.in-Some.first.now = search rules in
    let fewer : length c.as_slice-2.result.now < length c.args.needs.now =
    subst (λ (n : ℕ). n < length c.args.needs.now) (ap (λ (ns : List Need). length ns) (sym others) ∙ length-map c.as_slice-2.result.now (λ n. n.now)) (others-fewer (λ n. n.now) c.args.needs.now c.in-Some.first.now first) in
    search rules

pub returns-in_default-3 : goal.returns-in_default-3
returns-in_default-3 t c =
    let kind : List ℕ = c.in-Some.first.now.now.kind in
    let needs : List Need = map (λ n. n.now) c.args.needs.now in
    let others : map (λ n. n.now) c.as_slice-2.result.now ≡ filter (asks_other kind) needs = search rules in
    let none : NoneSpread c.args.self.now (map (λ n. n.now) c.as_slice-2.result.now) = search rules in
    record { exact = none-spread (asks_other kind) c.args.self.now needs (subst (λ (ns : List Need). NoneSpread c.args.self.now ns) others none) }

pub returns : goal.returns
returns t c =
    let kind : List ℕ = c.in-Some.first.now.now.kind in
    let needs : List Need = map (λ n. n.now) c.args.needs.now in
    let mine : map (λ n. n.now) c.as_slice.result.now ≡ filter (asks_kind kind) needs = search rules in
    let others : map (λ n. n.now) c.as_slice-2.result.now ≡ filter (asks_other kind) needs = search rules in
    let here : IsSpread c.args.self.now (map (λ n. n.now) c.as_slice.result.now) c.in-Some-2.here.items = search rules in
    let rest : IsSpread c.args.self.now (map (λ n. n.now) c.as_slice-2.result.now) c.in-Some-3.rest.items = search rules in
    let places : c.in_ok-interleaved.field-0.items ≡ interleaved kind needs c.in-Some-2.here.items c.in-Some-3.rest.items = search rules in
    record {
      exact = subst (λ (ps : List ℕ). IsSpread c.args.self.now needs ps) (sym places)
          (spread-interleaved kind c.args.self.now needs c.in-Some-2.here.items c.in-Some-3.rest.items
          (subst (λ (ns : List Need). IsSpread c.args.self.now ns c.in-Some-2.here.items) mine here)
          (subst (λ (ns : List Need). IsSpread c.args.self.now ns c.in-Some-3.rest.items) others rest));
    }
