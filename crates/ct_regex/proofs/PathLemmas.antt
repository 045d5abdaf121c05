-- Paths of rounds, and the places that a repetition reaches.
use Rattle.std.proofs.Common.{◌≡◌, ◌≤◌, ℕ, zero, suc, List, inl, inr, ⊎_elim, subst, refl, arith}
use Rattle.ct_regex.specs.Ends.{rounds}
use Rattle.ct_regex.proofs.AmongLemmas.{Among, among_flat, among_from}

-- exactly so many rounds lead from one place to the other
abbrev pub Path : (ℕ → List ℕ) → ℕ → ℕ → ℕ → Type 0
Path step zero from to = from ≡ to
Path step (suc count) from to = (mid : ℕ) × Path step count from mid × Among to (step mid)

pub path_front : (step : ℕ → List ℕ) (count from mid to : ℕ) → Among mid (step from) → Path step count mid to → Path step (suc count) from to
path_front step zero from mid to h p = (from, refl, subst (λ v. Among v (step from)) p h)
path_front step (suc count) from mid to h p = (p.0, path_front step count from mid p.0 h p.1, p.2)

pub path_open : (step : ℕ → List ℕ) (count from to : ℕ) → Path step (suc count) from to →
    (mid : ℕ) × Among mid (step from) × Path step count mid to
path_open step zero from to p = (to, subst (λ v. Among to (step v)) (sym_of p.1) p.2, refl)
  where
    sym_of : from ≡ p.0 → p.0 ≡ from
    sym_of e = cc
path_open step (suc count) from to p =
    let first = path_open step count from p.0 p.1 in
    (first.0, first.1, (p.0, first.2, p.2))

pub rounds_path : (step : ℕ → List ℕ) (most from to : ℕ) → Among to (rounds most step from) →
    (count : ℕ) × (count ≤ most) × Path step count from to
rounds_path step zero from to h = ⊎_elim (λ e. (0, omega arith, e)) (λ r. absurd r) h
rounds_path step (suc most) from to h =
    ⊎_elim (λ e. (0, omega arith, e))
    (λ r.
    let found = among_from (rounds most step) (step from) to r in
    let rest = rounds_path step most found.0 to found.2 in
    (suc rest.0, omega (arith, rest.1), path_front step rest.0 from found.0 to found.1 rest.2)) h

pub path_rounds : (step : ℕ → List ℕ) (most count from to : ℕ) → count ≤ most → Path step count from to → Among to (rounds most step from)
path_rounds step zero zero from to h p = inl p
path_rounds step (suc most) zero from to h p = inl p
path_rounds step zero (suc count) from to h p = absurd (omega arith)
path_rounds step (suc most) (suc count) from to h p =
    let first = path_open step count from to p in
    inr (among_flat (rounds most step) (step from) first.0 to first.1
    (path_rounds step most count first.0 to (omega arith) first.2))
