-- What is made for the numbers from 1 on, with one number more.
use Rattle.std.proofs.Common.{ℕ, ◌≡◌, ◌+◌, List, [], ◌∷◌, ◌++◌, map, sym, ap, ◌∙◌, arith}
use Rattle.std.specs.List.{flat_map, range_with_len}
use Rattle.std.proofs.lemmas.List.{append-nil}
use Rattle.std.proofs.lemmas.List.Concat.{flat_map-append}
use Rattle.std.proofs.lemmas.List.Folds.{flat_map-map}
use Rattle.std.proofs.lemmas.List.FromFn.{map-range_with_len_more}

text-more : (f : ℕ → List ℕ) (n : ℕ) →
    flat_map f (range_with_len 1 (n + 1)) ≡ flat_map f (range_with_len 1 n) ++ f (n + 1)
text-more f n =
    sym (flat_map-map f (λ x. x) (range_with_len 1 (n + 1)))
    ∙ ap (flat_map f) (map-range_with_len_more (λ x. x) 1 n (n + 1) (omega arith))
    ∙ flat_map-append f (map (λ x. x) (range_with_len 1 n)) ((n + 1) ∷ [])
    ∙ (λ i. flat_map-map f (λ x. x) (range_with_len 1 n) i ++ append-nil (f (n + 1)) i)

-- the text with that of one number more
pub one_text_more : (f : ℕ → List ℕ) (n : ℕ) (now after : List ℕ) → now ≡ flat_map f (range_with_len 1 n) →
    after ≡ now ++ f (n + 1) → after ≡ flat_map f (range_with_len 1 (n + 1))
one_text_more f n now after so_far is = is ∙ ap (λ text. text ++ f (n + 1)) so_far ∙ sym (text-more f n)

-- the items with that of one number more
pub one_item_more : {X : Type 0} (f : ℕ → X) (n : ℕ) (now after : List X) →
    now ≡ map f (range_with_len 1 n) → after ≡ now ++ f (n + 1) ∷ [] →
    after ≡ map f (range_with_len 1 (n + 1))
one_item_more f n now after so_far is = is ∙ ap (λ items. items ++ f (n + 1) ∷ []) so_far ∙ sym (map-range_with_len_more f 1 n (n + 1) (omega arith))
