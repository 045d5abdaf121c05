-- The ids that are kept, and what contracts see of them.
use Rattle.std.proofs.Common.{◌≡◌, ℕ, Bool, true, false, not, MatchBool, bytes_eq, List, [], ◌∷◌, ◌++◌, map, IsPermutation, refl, sym, ap, ◌∙◌, ◌||◌}
use Rattle.std.specs.List.{list_any}
use Rattle.std.specs.declared.vec.Vec.{Vec}
use Rattle.std.proofs.lemmas.List.Folds.{list_any-append}
use Rattle.std.proofs.lemmas.List.Sorted.{list_any-IsPermutation}
use Rattle.std.proofs.lemmas.Slice.Eq.{bytes_eq-Decides}
use Rattle.ct_spec.specs.Ids.{AreIds}
use Rattle.ct_base.specs.Names.{is_among}

module _ {Z : Type 0} where
  -- an id is among the keys exactly if it is among their bytes
  pub is_among-keys : (id : List ℕ) (keys : List (Vec ℕ Z)) → list_any (λ (key : Vec ℕ Z). bytes_eq id key.items) keys ≡ is_among id (map (λ (key : Vec ℕ Z). key.items) keys)
  is_among-keys id [] = refl
  is_among-keys id (key ∷ keys) = ap (λ more. bytes_eq id key.items || more) (is_among-keys id keys)

or_turned : (a b : Bool) → (a || b) ≡ (b || (a || false))
or_turned true true = refl
or_turned true false = refl
or_turned false true = refl
or_turned false false = refl

or_kept : (a b : Bool) → (a ≡ true → b ≡ true) → b ≡ (b || (a || false))
or_kept true true same = refl
or_kept true false same = same refl
or_kept false true same = refl
or_kept false false same = refl

same_id : (id key : List ℕ) (ids : List (List ℕ)) → is_among key ids ≡ true → bytes_eq id key ≡ true → is_among id ids ≡ true
same_id id key ids taken same = ap (λ i. is_among i ids) ((bytes_eq-Decides id key).0 same) ∙ taken

not_false : (b : Bool) → false ≡ not b → b ≡ true
not_false true is = refl
not_false false is = cc

module _ {Z : Type 0} where
  abbrev ids_in : List (Vec ℕ Z) → List (List ℕ)
  ids_in keys = map (λ (key : Vec ℕ Z). key.items) keys

  -- the set with one more id stands for the earlier ids and that one
  pub id_put : (keys new : List (Vec ℕ Z)) (key : Vec ℕ Z) (id : List ℕ) (added : Bool) → key.items ≡ id → added ≡ not (list_any (λ (k : Vec ℕ Z). bytes_eq key.items k.items) keys) → MatchBool added (IsPermutation (key ∷ keys) new) (new ≡ keys)
      → (taken : List (List ℕ)) → AreIds (ids_in keys) taken → AreIds (ids_in new) (taken ++ id ∷ [])
  id_put keys new key id true is added puts taken are =
      λ asked. sym (is_among-keys asked new)
      ∙ sym (list_any-IsPermutation (λ (k : Vec ℕ Z). bytes_eq asked k.items) (key ∷ keys) new puts)
      ∙ ap (λ more. bytes_eq asked key.items || more) (is_among-keys asked keys ∙ are asked)
      ∙ or_turned (bytes_eq asked key.items) (is_among asked taken)
      ∙ (λ i. is_among asked taken || (bytes_eq asked (is i) || false))
      ∙ sym (list_any-append (λ other. bytes_eq asked other) taken (id ∷ []))
  id_put keys new key id false is added puts taken are =
      let there : is_among key.items (ids_in keys) ≡ true = sym (is_among-keys key.items keys) ∙ not_false _ added in
      λ asked. ap (λ ks. is_among asked (ids_in ks)) puts
      ∙ are asked
      ∙ or_kept (bytes_eq asked id) (is_among asked taken) (λ same. sym (are asked) ∙ same_id asked key.items (ids_in keys) there (ap (bytes_eq asked) is ∙ same))
      ∙ sym (list_any-append (λ other. bytes_eq asked other) taken (id ∷ []))
