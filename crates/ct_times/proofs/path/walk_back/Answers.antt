use Rattle.std.proofs.Common.{rules, ◌≡◌, ◌∙◌, ◌++◌, ◌∷◌, [], ◌<◌, Bool, cond, ℕ, List, ap, refl, subst, sym}
use Rattle.std.specs.Prelude.{Option, Some, None}
use Rattle.ct_times.specs.Works.{kept_at}
use Rattle.ct_times.proofs.WalkLemmas.{IsOnWay, way_left, way_more, way_shortens}
use Rattle.ct_times.proofs.WeightLemmas.{HasGoneBack, gone_more, gone_new, gone_whole}
use Rattle.ct_times.proofs.path.walk_back.Goals as goal

pub walk-smaller : goal.walk-smaller
walk-smaller c =
    let tests = c.args.tests.now in
    let next = c.heaviest_before-next.result in
    subst (λ (o : Option ℕ). way_left tests next < way_left tests o) (sym c.in-Some.is)
    (way_shortens tests (λ (n : ℕ). kept_at c.args.weights.now n) c.in-Some.number next c.requires.links c.heaviest_before-next.ensures)

pub walk-preserved : goal.walk-preserved
walk-preserved c =
    let tests = c.args.tests.now in
    let weight = kept_at c.args.weights.now in
    let n = c.in-Some.number in
    let keys = c.walk.path.keys in
    let next = c.heaviest_before-next.result in
    let gone : HasGoneBack weight tests c.args.end keys (Some n) = subst (λ (o : Option ℕ). HasGoneBack weight tests c.args.end keys o) c.in-Some.is c.walk.invariant in
    let new : c.insert.new.self.keys ≡ keys ++ n ∷ [] = c.in_ok-insert.ensures.keys ∙ ap (λ (b : Bool). cond b keys (keys ++ n ∷ [])) (gone_new weight tests c.args.end keys n gone) in
    let way : IsOnWay tests (keys ++ n ∷ []) next = way_more tests weight keys (keys ++ n ∷ []) n next gone.way refl c.heaviest_before-next.ensures in
    subst (λ (ks : List ℕ). HasGoneBack weight tests c.args.end ks next) (sym new)
    (gone_more weight tests c.args.end keys n next c.requires.links gone way c.heaviest_before-next.ensures)

pub returns-clause-goes_back : goal.returns-clause-goes_back
returns-clause-goes_back c =
    let tests = c.args.tests.now in
    let weight = kept_at c.args.weights.now in
    let keys = c.walk.path.keys in
    let over : c.walk.next ≡ None = search rules in
    gone_whole weight tests c.args.end keys (subst (λ (o : Option ℕ). HasGoneBack weight tests c.args.end keys o) over c.walk.invariant)
