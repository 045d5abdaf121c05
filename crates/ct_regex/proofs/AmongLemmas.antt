-- Where a place stands in a list of places.
use Rattle.std.proofs.Common.{◌≡◌, ◌⊎◌, ℕ, List, [], ◌∷◌, ◌++◌, inl, inr, ⊎_elim, subst}
use Rattle.std.specs.List.{flat_map}

-- the place is in the list
abbrev pub Among : ℕ → List ℕ → Type 0
Among place [] = ⊥
Among place (first ∷ others) = (first ≡ place) ⊎ Among place others

pub among_left : (place : ℕ) (xs ys : List ℕ) → Among place xs → Among place (xs ++ ys)
among_left place [] ys h = absurd h
among_left place (x ∷ xs) ys h = ⊎_elim (λ e. inl e) (λ r. inr (among_left place xs ys r)) h

pub among_right : (place : ℕ) (xs ys : List ℕ) → Among place ys → Among place (xs ++ ys)
among_right place [] ys h = h
among_right place (x ∷ xs) ys h = inr (among_right place xs ys h)

pub among_split : (place : ℕ) (xs ys : List ℕ) → Among place (xs ++ ys) → Among place xs ⊎ Among place ys
among_split place [] ys h = inr h
among_split place (x ∷ xs) ys h =
    ⊎_elim (λ e. inl (inl e))
    (λ r. ⊎_elim (λ a. inl (inr a)) (λ b. inr b) (among_split place xs ys r)) h

pub among_flat : (f : ℕ → List ℕ) (xs : List ℕ) (mid place : ℕ) → Among mid xs → Among place (f mid) → Among place (flat_map f xs)
among_flat f [] mid place h k = absurd h
among_flat f (x ∷ xs) mid place h k =
    ⊎_elim (λ e. among_left place (f x) (flat_map f xs) (subst (λ v. Among place (f v)) (sym_of x mid e) k))
    (λ r. among_right place (f x) (flat_map f xs) (among_flat f xs mid place r k)) h
  where
    sym_of : (a b : ℕ) → a ≡ b → b ≡ a
    sym_of a b e = cc

pub among_from : (f : ℕ → List ℕ) (xs : List ℕ) (place : ℕ) → Among place (flat_map f xs) → (mid : ℕ) × Among mid xs × Among place (f mid)
among_from f [] place h = absurd h
among_from f (x ∷ xs) place h =
    ⊎_elim (λ a. (x, inl refl_of, a))
    (λ r. let found = among_from f xs place r in (found.0, inr found.1, found.2))
    (among_split place (f x) (flat_map f xs) h)
  where
    refl_of : x ≡ x
    refl_of = cc
