use Rattle.std.proofs.Common.{◌≡◌, ◌∙◌, ◌++◌, ◌∷◌, [], ◌-◌, List, ℕ, take, drop, length, sym, ap, rules}
use Rattle.std.proofs.lemmas.List.{take-append-drop, take_rest}
use Rattle.ct_explain.proofs.reading.behind_first.Goals as goal

pub returns-then-eq-clause-some : goal.returns-then-eq-clause-some
returns-then-eq-clause-some c =
    let text = c.args.text.now in
    let front : take 13 text ≡ 99 ∷ 116 ∷ 45 ∷ 106 ∷ 111 ∷ 117 ∷ 114 ∷ 110 ∷ 97 ∷ 108 ∷ 32 ∷ 49 ∷ 10 ∷ [] = search rules in
    let whole : take (length text - 13) (drop 13 text) ≡ drop 13 text = take_rest text 13 in
    sym (take-append-drop 13 text) ∙ ap (λ (l : List ℕ). l ++ drop 13 text) front ∙ ap (λ (r : List ℕ). 99 ∷ 116 ∷ 45 ∷ 106 ∷ 111 ∷ 117 ∷ 114 ∷ 110 ∷ 97 ∷ 108 ∷ 32 ∷ 49 ∷ 10 ∷ r) (sym whole)
