use Rattle.std.proofs.Common.{rules, ◌≡◌, ◌<◌, ◌∙◌, ◌-◌, ◌++◌, ◌∷◌, [], ℕ, List, ap, sym, subst, length, map, get_or}
use Rattle.std.specs.Prelude.{All, reverse}
use Rattle.std.proofs.lemmas.List.Elements.{All-nil, All-push}
use Rattle.ct_times.specs.declared.chain.Link.{Link as PlacedLink}
use Rattle.ct_times.specs.Times.{length_of, timed}
use Rattle.ct_times.specs.Chain.{LeadBack}
use Rattle.ct_times.specs.Links.{IsPlaced, as_link}
use Rattle.ct_times.proofs.LinkLemmas.{AreBehind, behind_more, behind_none, leads_all, leads_more, length_at, ordered_all}
use Rattle.ct_times.proofs.chain.chain_of.Goals as goal

pub loop-link-init : goal.loop-link-init
loop-link-init c =
    let es = c.args.entries.now in
    let ts = c.args.times.now in
    let none : c.new-links.result.items ≡ [] = search rules in
    let place : c.saturating_sub-place.result ≡ length ts - 1 = search rules in
    let last : length_of es ≡ get_or ts c.saturating_sub-place.result 0 = sym (length_at es ts c.requires.least) ∙ ap (λ (n : ℕ). get_or ts n 0) (sym place) in
    record {
      leads = λ rest lead. subst (λ (ls : List PlacedLink). LeadBack (timed es) (length_of es) (map as_link ls ++ rest)) (sym none) (subst (λ (m : ℕ). LeadBack (timed es) m rest) (sym last) lead);
      placed = subst (λ (ls : List PlacedLink). All (IsPlaced es) ls) (sym none) (All-nil (IsPlaced es));
      ordered = subst (λ (ls : List PlacedLink). AreBehind c.saturating_sub-place.result ls) (sym none) (behind_none c.saturating_sub-place.result);
    }

pub loop-link-preserved : goal.loop-link-preserved
loop-link-preserved c =
    let es = c.args.entries.now in
    let ts = c.args.times.now in
    let links = c.loop-link.links.items in
    let l = c.link_at-link.result in
    let more : c.push.new.self.items ≡ links ++ l ∷ [] = search rules in
    let some : 0 < get_or ts c.loop-link.place 0 = search rules in
    record {
      leads = leads_more es ts links c.push.new.self.items l c.loop-link.place c.requires.least c.loop-link.invariant.leads some c.link_at-link.ensures.is c.link_at-link.ensures.placed more;
      placed = subst (λ (ls : List PlacedLink). All (IsPlaced es) ls) (sym more) (All-push (IsPlaced es) links l c.loop-link.invariant.placed c.link_at-link.ensures.placed);
      ordered = subst (λ (ls : List PlacedLink). AreBehind l.begin ls) (sym more) (behind_more es c.loop-link.place links l c.loop-link.invariant.placed c.link_at-link.ensures.placed c.link_at-link.ensures.back c.loop-link.invariant.ordered);
    }

pub returns-clause-chain : goal.returns-clause-chain
returns-clause-chain c =
    let es = c.args.entries.now in
    let links = c.loop-link.links.items in
    let none : get_or c.args.times.now c.loop-link.place 0 ≡ 0 = search rules in
    let turned : c.from_vec.result ≡ reverse links = search rules in
    leads_all es links c.from_vec.result (get_or c.args.times.now c.loop-link.place 0) c.loop-link.invariant.leads none turned

pub returns-clause-ordered : goal.returns-clause-ordered
returns-clause-ordered c =
    let turned : c.from_vec.result ≡ reverse c.loop-link.links.items = search rules in
    ordered_all c.loop-link.place c.loop-link.links.items c.from_vec.result c.loop-link.invariant.ordered turned
