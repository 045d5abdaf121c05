use Rattle.std.proofs.Common.{◌≡◌, ◌∙◌, ◌<◌, [], ◌∷◌, ◌++◌, List, ℕ, ap, arith, get_or, length, set, take}
use Rattle.std.proofs.lemmas.List.{get_or_default, get_or_read, length-map}
use Rattle.ct_history.specs.declared.plan.PlanTest.{PlanTest}
use Rattle.ct_core.proofs.FollowerLemmas.{ascends-at, listed, put-more, put-no_more}
use Rattle.ct_core.proofs.followers.follow.Goals as goal
use Rattle.ct_core.proofs.followers.follow.Goals.{in-Some+in_ok-push, in_default}

pub loop-predecessor-preserved : goal.loop-predecessor-preserved
loop-predecessor-preserved c =
    let tests = c.args.tests.now in
    let at = c.args.at in
    let t = c.index-tests-at.result in
    let i = c.loop-predecessor.predecessor-index in
    let given = c.as_slice-predecessor-items.result.now in
    let j = get_or given i 0 in
    let up = ascends-at tests at t c.requires.before c.requires.there c.index-tests-at.is in
    let same : length given ≡ length t.before = ap length c.as_slice-predecessor-items.ensures in
    let lt : i < length t.before = omega (arith, same, c.loop-predecessor-test.true) in
    let is : j ≡ get_or t.before i j = ap (λ (ns : List ℕ). get_or ns i 0) c.as_slice-predecessor-items.ensures ∙ get_or_default t.before i 0 j lt in
    elim c.match-place_of.branch [
      | in-Some+in_ok-push w ↦
          let place = w.in-Some.place in
          let lists = c.loop-predecessor.followers.items in
          let long : length lists ≡ length tests = ap length c.loop-predecessor.invariant ∙ length-map tests (λ (x : PlanTest). listed (take at tests) t (take i t.before) x.number) in
          let inner : place < length lists = omega (arith, w.in-Some.ensures.within, long) in
          ap (λ v. v.items) w.followers-is
          ∙ ap (λ (l : List ℕ). set lists place l) (w.in_ok-push.ensures.ok ∙ ap (λ (l : List ℕ). l ++ t.number ∷ []) (get_or_read lists place w.index_mut.result.now inner w.index_mut.ensures.value []))
          ∙ ap (λ (ls : List (List ℕ)). set ls place (get_or ls place [] ++ t.number ∷ [])) c.loop-predecessor.invariant
          ∙ put-more tests (take at tests) t t.before i j c.requires.numbers up lt is place w.in-Some.ensures
      | in_default w ↦ ap (λ v. v.items) w.followers-is ∙ c.loop-predecessor.invariant ∙ put-no_more tests (take at tests) t t.before i j c.requires.numbers up lt is w.in_default.ensures
    ]
