-- Which tests ran, with the next entry of a list.
use Rattle.std.proofs.Common.{◌≡◌, ◌∙◌, sym, ap, Bool, true, false, ℕ, ◌+◌, ◌<◌, List, [], ◌∷◌, length, take, get_or, refl}
use Rattle.std.specs.Prelude.{◌||◌}
use Rattle.std.specs.List.{list_any}
use Rattle.std.proofs.lemmas.List.Folds.{list_any-append}
use Rattle.indexmap.specs.IndexMap.{IndexMap}
use Rattle.ct_history.specs.declared.history.Entry.{Entry}
use Rattle.ct_times.specs.Capacity.{is_end_of_test}
use Rattle.ct_times.specs.Bounds.{HasThoseThatRan, has_test}
use Rattle.ct_times.proofs.MeasureLemmas.{next_in}

or_none : (b : Bool) → (b || false) ≡ b
or_none true = refl
or_none false = refl

-- some item is among the first ones of a list, with the next one
pub any_next : {A : Type 0} (p : A → Bool) (xs : List A) (at : ℕ) (x : A) → at < length xs → x ≡ get_or xs at x → list_any p (take (at + 1) xs) ≡ (list_any p (take at xs) || p x)
any_next p xs at x lt is =
    ap (list_any p) (next_in xs at x lt is)
    ∙ list_any-append p (take at xs) (x ∷ [])
    ∙ ap (λ (b : Bool). list_any p (take at xs) || b) (or_none (p x))

-- the tests that ran, with those that the next entry ends
pub ran_more : {S : Type 0} (works new : IndexMap ℕ ℕ S) (at : ℕ) (es : List Entry) (e : Entry) → at < length es → e ≡ get_or es at e → HasThoseThatRan works (take at es)
    → ((test : ℕ) → has_test new test ≡ (has_test works test || is_end_of_test test e)) → HasThoseThatRan new (take (at + 1) es)
ran_more works new at es e within is have new_is test =
    new_is test
    ∙ ap (λ (b : Bool). b || is_end_of_test test e) (have test)
    ∙ sym (any_next (is_end_of_test test) es at e within is)
