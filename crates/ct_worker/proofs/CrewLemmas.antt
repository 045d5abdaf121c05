-- The passes of a run's workers: split off, in use by halves, and joined again.
use Rattle.std.proofs.Common.{◌≡◌, ◌∙◌, sym, ap, subst, refl, ℕ, ◌+◌, List, [], ◌∷◌, ◌++◌, length, arith, append_assoc}
use Rattle.std.specs.Prelude.{map}
use Rattle.std.specs.List.{list_any}
use Rattle.std.proofs.Math.ListN.{get_or, set}
use Rattle.std.proofs.lemmas.List.{map-append}
use Rattle.std.proofs.lemmas.List.Folds.{list_any-append}
use Rattle.std.proofs.lemmas.Bool.{or_from}
use Rattle.ct_history.specs.declared.history.Entry.{Entry}
use Rattle.ct_core.specs.Gate.{GateTell}
use Rattle.ct_turn.specs.declared.view.Known.{Known}
use Rattle.ct_turn.specs.Pass.{PassValue, idle_pass}
use Rattle.ct_turn.specs.Seen.{HistoryGoesOn, is_by, one_more, split_off, with_joined}
use Rattle.ct_turn.specs.Turn.{TurnValue}
use Rattle.ct_worker.specs.declared.jobs.Jobs.{Jobs}
use Rattle.ct_worker.specs.Crew.{AllTookPart, AreReady, AreSplit, HasSplit, all_joined, split_pass}

add_none : (w : ℕ) → w ≡ w + 0
add_none w = omega arith

add_one : (w n m : ℕ) → m ≡ n + 1 → w + 1 + n ≡ w + m
add_one w n m is = omega (arith, is)

-- if all workers are ready, the workers of both parts are ready
pub ready_parts : (jobs : Jobs) (turn : TurnValue) (w : ℕ) (xs ys : List PassValue) → AreReady jobs turn w (xs ++ ys) → AreReady jobs turn w xs × AreReady jobs turn (w + length xs) ys
ready_parts jobs turn w [] ys ready = (tt, subst (λ (n : ℕ). AreReady jobs turn n ys) (add_none w) ready)
ready_parts jobs turn w (x ∷ xs) ys ready =
    let rest = ready_parts jobs turn (w + 1) xs ys ready.1 in (
      (ready.0, rest.0),
      subst (λ (n : ℕ). AreReady jobs turn n ys) (add_one w (length xs) (length (x ∷ xs)) (omega arith)) rest.1,
    )

pub ready_halves : (jobs : Jobs) (turn : TurnValue) (w half next : ℕ) (all xs ys : List PassValue) → all ≡ xs ++ ys → length xs ≡ half → next ≡ w + half → AreReady jobs turn w all → AreReady jobs turn w xs × AreReady jobs turn next ys
ready_halves jobs turn w half next all xs ys is size there ready =
    let both = ready_parts jobs turn w xs ys (subst (λ (ps : List PassValue). AreReady jobs turn w ps) is ready) in
    (both.0, subst (λ (n : ℕ). AreReady jobs turn n ys) (ap (λ (n : ℕ). w + n) size ∙ sym there) both.1)

-- if the workers of both parts took part, all workers did
pub part_append : (jobs : Jobs) (olds news : List PassValue) (befores nows : List GateTell) (olds' news' : List PassValue) (befores' nows' : List GateTell) → AllTookPart jobs olds news befores nows → AllTookPart jobs olds' news' befores' nows' → AllTookPart jobs (olds ++ olds') (news ++ news') (befores ++ befores') (nows ++ nows')
part_append jobs [] [] [] [] olds' news' befores' nows' one other = other
part_append jobs [] [] [] (now ∷ nows) olds' news' befores' nows' one other = absurd one
part_append jobs [] [] (before ∷ befores) nows olds' news' befores' nows' one other = absurd one
part_append jobs [] (new ∷ news) befores nows olds' news' befores' nows' one other = absurd one
part_append jobs (old ∷ olds) [] befores nows olds' news' befores' nows' one other = absurd one
part_append jobs (old ∷ olds) (new ∷ news) [] nows olds' news' befores' nows' one other = absurd one
part_append jobs (old ∷ olds) (new ∷ news) (before ∷ befores) [] olds' news' befores' nows' one other = absurd one
part_append jobs (old ∷ olds) (new ∷ news) (before ∷ befores) (now ∷ nows) olds' news' befores' nows' one other =
    (one.0, part_append jobs olds news befores nows olds' news' befores' nows' one.1 other)

pub part_halves : {G : Type 0} (tells : G → GateTell) (jobs : Jobs) (all xs ys xs' ys' : List PassValue) (gates near far near' far' : List G) → all ≡ xs ++ ys → gates ≡ near ++ far → AllTookPart jobs xs xs' (map tells near) (map tells near') → AllTookPart jobs ys ys' (map tells far) (map tells far') → AllTookPart jobs all (xs' ++ ys') (map tells gates) (map tells (near' ++ far'))
part_halves tells jobs all xs ys xs' ys' gates near far near' far' passes_are gates_are one other =
    subst (λ (ps : List PassValue). AllTookPart jobs ps (xs' ++ ys') (map tells gates) (map tells (near' ++ far'))) (sym passes_are)
    (subst (λ (ts : List GateTell). AllTookPart jobs (xs ++ ys) (xs' ++ ys') ts (map tells (near' ++ far'))) (sym (ap (map tells) gates_are ∙ map-append tells near far))
    (subst (λ (ts : List GateTell). AllTookPart jobs (xs ++ ys) (xs' ++ ys') (map tells near ++ map tells far) ts) (sym (map-append tells near' far'))
    (part_append jobs xs xs' (map tells near) (map tells near') ys ys' (map tells far) (map tells far') one other)))

-- one pass more was split off
pub split-snoc : (turn : TurnValue) (known : Known) (w : ℕ) (passes : List PassValue) (pass : PassValue) → AreSplit turn known w passes → pass ≡ split_pass turn known (w + length passes) → AreSplit turn known w (passes ++ pass ∷ [])
split-snoc turn known w [] pass are is = (is ∙ ap (split_pass turn known) (omega arith), tt)
split-snoc turn known w (p ∷ ps) pass are is =
    (are.0, split-snoc turn known (w + 1) ps pass are.1 (is ∙ ap (split_pass turn known) (sym (add_one w (length ps) (length (p ∷ ps)) (omega arith)))))

-- joining one more pass behind the others is one more step
pub joined-snoc : (keeper : Known) (passes : List PassValue) (pass : PassValue) → all_joined keeper (passes ++ pass ∷ []) ≡ with_joined (all_joined keeper passes) pass.known
joined-snoc keeper [] pass = refl
joined-snoc keeper (p ∷ ps) pass = joined-snoc (with_joined keeper p.known) ps pass

-- the worker of the pass that the others are joined into stays the same
pub joined_worker : (keeper : Known) (passes : List PassValue) → (all_joined keeper passes).worker ≡ keeper.worker
joined_worker keeper [] = refl
joined_worker keeper (p ∷ ps) = joined_worker (with_joined keeper p.known) ps

goes_twice : (w : ℕ) (a b c : List Entry) → HistoryGoesOn w a b → HistoryGoesOn w b c → HistoryGoesOn w a c
goes_twice w a b c one other = record {
  more = one.more ++ other.more;
  is = other.is ∙ ap (λ (es : List Entry). es ++ other.more) one.is ∙ append_assoc a one.more other.more;
  others = list_any-append (is_by w) one.more other.more ∙ or_from (list_any (is_by w) one.more) (list_any (is_by w) other.more) one.others other.others;
}

-- one more pass was joined
module _ (first mid new pass : PassValue) (passes : List PassValue) (was : mid ≡ record first { known = all_joined first.known passes }) where
  pub join_known : new ≡ record mid { known = with_joined mid.known pass.known } → new ≡ record first { known = all_joined first.known (passes ++ pass ∷ []) }
  join_known is =
      is ∙ ap (λ (p : PassValue). record p { known = with_joined p.known pass.known }) was
      ∙ ap (λ (k : Known). record first { known = k }) (sym (joined-snoc first.known passes pass))

  pub join_own : HistoryGoesOn first.known.worker first.known.seen.entries mid.known.seen.entries → HistoryGoesOn mid.known.worker mid.known.seen.entries new.known.seen.entries → HistoryGoesOn first.known.worker first.known.seen.entries new.known.seen.entries
  join_own one other =
      goes_twice first.known.worker first.known.seen.entries mid.known.seen.entries new.known.seen.entries one
      (subst (λ (w : ℕ). HistoryGoesOn w mid.known.seen.entries new.known.seen.entries) (ap (λ (p : PassValue). p.known.worker) was ∙ joined_worker first.known passes) other)

one_later : (made n : ℕ) → made + n + 1 ≡ made + (n + 1)
one_later made n = omega arith

-- one pass more was split off
pub split_step : (turn : TurnValue) (first : PassValue) (n : ℕ) (items : List PassValue) (old new pass : PassValue) → HasSplit turn first n items → length items ≡ n + 1 → old ≡ get_or items 0 old → new ≡ record old { known = one_more old.known } → pass ≡ idle_pass turn.id (split_off old.known) → HasSplit turn first (n + 1) (set items 0 new ++ pass ∷ [])
split_step turn first n [] old new pass split size old_is new_is pass_is = absurd split
split_step turn first n (p ∷ ps) old new pass split size old_is new_is pass_is =
    let counted : length ps ≡ n = omega (arith, size) in (
      new_is ∙ ap (λ (q : PassValue). record q { known = one_more q.known }) (old_is ∙ split.0)
          ∙ ap (λ (made : ℕ). record first { known = record first.known { made = made } }) (one_later first.known.made n),
      split-snoc turn first.known first.known.made ps pass split.1
          (pass_is ∙ ap (λ (q : PassValue). idle_pass turn.id (split_off q.known)) (old_is ∙ split.0) ∙ ap (λ (k : ℕ). split_pass turn first.known (first.known.made + k)) (sym counted)),
    )
