use Rattle.std.proofs.Common.{rules, ◌≡◌, ◌∙◌, ◌-◌, ℕ, List, ap, length, map, refl, subst}
use Rattle.std.specs.Prelude.{All, slice_get, unwrap_or}
use Rattle.ct_history.specs.declared.history.Entry.{Entry}
use Rattle.ct_times.specs.Times.{least_times}
use Rattle.ct_times.specs.Works.{AreWorks}
use Rattle.ct_times.specs.Chain.{IsChain}
use Rattle.ct_times.specs.Links.{IsPlaced, as_link}
use Rattle.ct_times.specs.Bounds.{Done, HasThoseThatRan}
use Rattle.ct_times.specs.First.{IsFirstOfAll}
use Rattle.ct_times.proofs.CodeLemmas.{last_at}
use Rattle.ct_times.proofs.FirstLemmas.{same_done}
use Rattle.ct_explain.specs.Story.{waits_of}
use Rattle.ct_explain.proofs.StoryLemmas.{may_start}
use Rattle.ct_explain.proofs.story.story_of.Goals as goal

pub returns : goal.returns
returns c =
    let times : c.in_ok-times.times ≡ least_times c.args.entries = search rules in
    let slice : c.as_slice-2.result.now ≡ least_times c.args.entries = search rules in
    let third : c.as_slice-3.result.now ≡ c.args.entries = search rules in
    let fourth : c.as_slice-4.result.now ≡ c.args.entries = search rules in
    let sixth : c.as_slice-6.result.now ≡ c.args.entries = search rules in
    let seventh : c.as_slice-7.result.now ≡ c.in_ok-chain.chain = search rules in
    let placed : All (IsPlaced c.args.entries) c.in_ok-chain.chain = subst (λ (es : List Entry). All (IsPlaced es) c.in_ok-chain.chain) fourth c.in_ok-chain.ensures.placed in
    let works : AreWorks c.in_ok-works.works c.args.entries = subst (λ (es : List Entry). AreWorks c.in_ok-works.works es) third c.in_ok-works.ensures.are in
    let those : HasThoseThatRan c.in_ok-works.works c.args.entries = subst (λ (es : List Entry). HasThoseThatRan c.in_ok-works.works es) third c.in_ok-works.ensures.those in
    record {
      entries = refl;
      times = times;
      length = c.last_of-length.ensures ∙ ap (λ (ms : List ℕ). unwrap_or (slice_get ms (length ms - 1)) 0) slice ∙ last_at (least_times c.args.entries);
      works = works;
      chain = subst (λ (es : List Entry). IsChain es (map as_link c.in_ok-chain.chain)) fourth c.in_ok-chain.ensures.chain;
      placed = placed;
      started = may_start c.args.plan.now c.args.entries c.in_ok-chain.chain c.requires.legal placed;
      waits = c.in_ok-waits.ensures ∙ (λ i. waits_of c.args.plan.now (sixth i) (seventh i));
      exact = c.in_ok-bound.ensures.exact c.args.entries works those;
      shortest = c.in_ok-bound.ensures.shortest c.args.entries works those;
      first = subst (λ (d : Done). IsFirstOfAll c.args.plan.now d c.in_ok-bound.bound.capacity) (same_done c.in_ok-works.works c.args.entries works those) c.in_ok-bound.ensures.first;
    }
