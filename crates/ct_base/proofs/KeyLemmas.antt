-- Maps and sets whose keys are names: the entry of one name, those of the others, and a key that is put in.
use Rattle.std.proofs.Common.{◌≡◌, ◌∙◌, ◌||◌, sym, ap, refl, Bool, true, false, cond, ℕ, List, [], ◌∷◌, ◌++◌, map}
use Rattle.std.specs.Prelude.{bytes_eq}
use Rattle.std.specs.List.{list_any}
use Rattle.std.specs.Map.{AreApart, IsKeyTest, KeepsOthers, lookup}
use Rattle.std.specs.declared.vec.Vec.{Vec}
use Rattle.std.proofs.lemmas.List.{map_push}
use Rattle.std.proofs.lemmas.Slice.Eq.{bytes_eq-Decides}
use Rattle.ct_base.specs.Names.{is_among, with_new_name}

module _ {Y : Type 0} where
  key_test : (asked : List ℕ) → IsKeyTest (λ (one other : Vec ℕ Y). bytes_eq one.items other.items) (λ (name : Vec ℕ Y). bytes_eq asked name.items)
  key_test asked = λ one other at_one. ap (λ bytes. bytes_eq bytes other.items) ((bytes_eq-Decides asked one.items).0 at_one)

  apart : (name asked : List ℕ) → bytes_eq asked name ≡ false → AreApart (λ (key : Vec ℕ Y). bytes_eq name key.items) (λ (key : Vec ℕ Y). bytes_eq asked key.items)
  apart name asked differ = λ key at_it. ap (bytes_eq asked) (sym ((bytes_eq-Decides name key.items).0 at_it)) ∙ differ

  -- a name is among keys as it is among their names
  pub is_among-keys : (name : List ℕ) (keys : List (Vec ℕ Y)) → list_any (λ (key : Vec ℕ Y). bytes_eq name key.items) keys ≡ is_among name (map (λ (key : Vec ℕ Y). key.items) keys)
  is_among-keys name [] = refl
  is_among-keys name (key ∷ keys) = ap (λ more. bytes_eq name key.items || more) (is_among-keys name keys)

  put_behind : (keys : List (Vec ℕ Y)) (key : Vec ℕ Y) (is : Bool) → map (λ (k : Vec ℕ Y). k.items) (cond is keys (keys ++ key ∷ [])) ≡ cond is (map (λ (k : Vec ℕ Y). k.items) keys) (map (λ (k : Vec ℕ Y). k.items) keys ++ key.items ∷ [])
  put_behind keys key true = refl
  put_behind keys key false = map_push (λ (k : Vec ℕ Y). k.items) keys key

  -- a key that is put behind the others, unless it is among them, is one name more, if it is new
  pub with_new_name-keys : (keys : List (Vec ℕ Y)) (key : Vec ℕ Y) → map (λ (k : Vec ℕ Y). k.items) (cond (list_any (λ (k : Vec ℕ Y). bytes_eq key.items k.items) keys) keys (keys ++ key ∷ [])) ≡ with_new_name (map (λ (k : Vec ℕ Y). k.items) keys) key.items
  with_new_name-keys keys key =
      put_behind keys key (list_any (λ (k : Vec ℕ Y). bytes_eq key.items k.items) keys)
      ∙ ap (λ is. cond is (map (λ (k : Vec ℕ Y). k.items) keys) (map (λ (k : Vec ℕ Y). k.items) keys ++ key.items ∷ [])) (is_among-keys key.items keys)

module _ {Y V : Type 0} where
  -- where the entry of one name was changed, that of another name stays
  pub kept_apart : (name asked : List ℕ) (before now : List (Vec ℕ Y × V)) → bytes_eq asked name ≡ false → KeepsOthers (λ (one other : Vec ℕ Y). bytes_eq one.items other.items) (λ (key : Vec ℕ Y). bytes_eq name key.items) before now → lookup (λ (key : Vec ℕ Y). bytes_eq asked key.items) now ≡ lookup (λ (key : Vec ℕ Y). bytes_eq asked key.items) before
  unfolding KeepsOthers
  kept_apart name asked before now differ kept = kept (λ (key : Vec ℕ Y). bytes_eq asked key.items) (key_test asked) (apart name asked differ)
