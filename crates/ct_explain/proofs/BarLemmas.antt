-- The bars of a history and the places of a chain, with one element more.
use Rattle.std.proofs.Common.{◌≡◌, ◌∙◌, sym, ap, ℕ, suc, ◌+◌, ◌<◌, List, [], ◌∷◌, ◌++◌, length, get_or, take, drop, drop-cons, refl, append_assoc, arith}
use Rattle.std.specs.Prelude.{Bool, true, false, Option, Some, None, cond, nat_eq, option_map, ◌==◌}
use Rattle.std.specs.Option.{option_or, option_to_list}
use Rattle.std.specs.List.{cons_option}
use Rattle.std.proofs.lemmas.List.{take_more, length-take-le}
use Rattle.indexmap.specs.IndexMap.{IndexMap, get}
use Rattle.ct_history.specs.declared.history.Entry.{Entry}
use Rattle.ct_history.specs.declared.history.Entry.TheVariants.{Start, End, Settle, Stop}
use Rattle.ct_times.specs.declared.chain.Link.{Link}
use Rattle.ct_explain.specs.declared.bars.Bar.{Bar}
use Rattle.ct_explain.specs.Bars.{AreBegins, bar_by, bar_with, bars_behind, begin_with, is_start_of, last_place}
use Rattle.ct_explain.specs.Picture.{AreChained}

cons-by : (b : Bool) (n : ℕ) (rest mine : Option ℕ) → option_or (option_map (λ (k : ℕ). k + 1) (cond b (Some n) rest)) mine ≡ cond b (Some (n + 1)) (option_or (option_map (λ (k : ℕ). k + 1) rest) mine)
cons-by true n rest mine = refl
cons-by false n rest mine = refl

-- the last place, with one element more
pub last-snoc : {A : Type 0} (p : A → Bool) (xs : List A) (x : A) → last_place p (xs ++ x ∷ []) ≡ cond (p x) (Some (length xs)) (last_place p xs)
last-snoc p [] x = refl
last-snoc p (y ∷ ys) x =
    let more : length ys + 1 ≡ suc (length ys) = omega arith in
    let mine : Option ℕ = cond (p y) (Some 0) None in
    ap (λ (o : Option ℕ). option_or (option_map (λ (k : ℕ). k + 1) o) mine) (last-snoc p ys x)
    ∙ cons-by (p x) (length ys) (last_place p ys) mine
    ∙ ap (λ (n : ℕ). cond (p x) (Some n) (option_or (option_map (λ (k : ℕ). k + 1) (last_place p ys)) mine)) more

module _ {A : Type 0} (xs : List A) (at : ℕ) (x : A) (within : at < length xs) (is : x ≡ get_or xs at x) where
  next-of : take (at + 1) xs ≡ take at xs ++ x ∷ []
  next-of = take_more xs at x within ∙ ap (λ (y : A). take at xs ++ y ∷ []) (sym is)

  rest-of : drop at xs ≡ x ∷ drop (at + 1) xs
  rest-of =
      let next : suc at ≡ at + 1 = omega arith in
      drop-cons xs at x within ∙ ap (λ (y : A). y ∷ drop (suc at) xs) (sym is) ∙ ap (λ (n : ℕ). x ∷ drop n xs) next

  last-next : (p : A → Bool) → last_place p (take (at + 1) xs) ≡ cond (p x) (Some at) (last_place p (take at xs))
  last-next p =
      let here : length (take at xs) ≡ at = length-take-le at xs (omega (arith, within)) in
      ap (last_place p) next-of ∙ last-snoc p (take at xs) x ∙ ap (λ (n : ℕ). cond (p x) (Some n) (last_place p (take at xs))) here

-- the map of last Starts, with one entry more
pub begins-more : {S : Type 0} (es : List Entry) (at : ℕ) (e : Entry) (old new : IndexMap ℕ ℕ S) → at < length es → e ≡ get_or es at e → AreBegins (take at es) old → ((test : ℕ) → get nat_eq new test ≡ begin_with test at e (get nat_eq old test)) → AreBegins (take (at + 1) es) new
begins-more es at e old new within is are more test =
    more test
    ∙ ap (λ (o : Option ℕ). cond (is_start_of test e) (Some at) o) (are test)
    ∙ sym (last-next es at e within is (is_start_of test))

-- the map of a chain, with one attempt more
pub chained-more : {S : Type 0} (links : List Link) (at : ℕ) (l : Link) (old new : IndexMap ℕ ℕ S) → at < length links → l ≡ get_or links at l → AreChained (take at links) old → ((end : ℕ) → get nat_eq new end ≡ cond (l.end == end) (Some at) (get nat_eq old end)) → AreChained (take (at + 1) links) new
chained-more links at l old new within is are more end =
    more end
    ∙ ap (λ (o : Option ℕ). cond (l.end == end) (Some at) o) (are end)
    ∙ sym (last-next links at l within is (λ (k : Link). k.end == end))

bar-same : (times : List ℕ) (end : ℕ) (f g : ℕ → Option ℕ) → ((test : ℕ) → f test ≡ g test) → (e : Entry) → bar_with times end f e ≡ bar_with times end g e
bar-same times end f g same (Start t a w p) = refl
bar-same times end f g same (End t a w seen) = ap (λ (o : Option ℕ). bar_with times end (λ _. o) (End t a w seen)) (same t)
bar-same times end f g same (Settle t cause) = refl
bar-same times end f g same Stop = refl

pub cons-list : {A : Type 0} (o : Option A) (xs : List A) → cons_option o xs ≡ option_to_list o ++ xs
cons-list None xs = refl
cons-list (Some x) xs = refl

-- the bars, with one entry more
pub bars-more : {S : Type 0} (times : List ℕ) (es : List Entry) (at : ℕ) (e : Entry) (begins : IndexMap ℕ ℕ S) (bars more all : List Bar) (bar : Option Bar)
    → at < length es → e ≡ get_or es at e → AreBegins (take at es) begins
    → bars ++ bars_behind times (take at es) (drop at es) ≡ all
    → bar ≡ bar_with times at (λ test. get nat_eq begins test) e
    → more ≡ bars ++ option_to_list bar
    → more ++ bars_behind times (take (at + 1) es) (drop (at + 1) es) ≡ all
bars-more times es at e begins bars more all bar within is are before bar_is more_is =
    let front = take at es in
    let behind = bars_behind times (take (at + 1) es) (drop (at + 1) es) in
    let here : length front ≡ at = length-take-le at es (omega (arith, within)) in
    let same : bar ≡ bar_by times front e =
    bar_is ∙ bar-same times at (λ (test : ℕ). get nat_eq begins test) (λ (test : ℕ). last_place (is_start_of test) front) are e
    ∙ ap (λ (n : ℕ). bar_with times n (λ (test : ℕ). last_place (is_start_of test) front) e) (sym here)
    in
    let rest : bars_behind times front (drop at es) ≡ option_to_list bar ++ behind =
    ap (bars_behind times front) (rest-of es at e within is)
    ∙ cons-list (bar_by times front e) (bars_behind times (front ++ e ∷ []) (drop (at + 1) es))
    ∙ ap (λ (o : Option Bar). option_to_list o ++ bars_behind times (front ++ e ∷ []) (drop (at + 1) es)) (sym same)
    ∙ ap (λ (es' : List Entry). option_to_list bar ++ bars_behind times es' (drop (at + 1) es)) (sym (next-of es at e within is))
    in
    ap (λ (bs : List Bar). bs ++ behind) more_is
    ∙ append_assoc bars (option_to_list bar) behind
    ∙ ap (λ (bs : List Bar). bars ++ bs) (sym rest)
    ∙ before
