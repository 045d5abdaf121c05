-- Where moments stand in a picture. This project's own.
use Rattle.std.specs.Prelude.{ℕ, ◌+◌, ◌*◌, ◌/◌, ◌%◌, List, [], ◌∷◌, ◌++◌, map, filter, find, decimal, nat_le, unwrap_or, ◌==◌, if◌then◌else◌}
use Rattle.ct_explain.specs.declared.scale.TheConstants.{STEPS, MOST_STEP, MARKS}

-- the place of a moment in a picture of this length, in thousandths of a width of 1,000, rounded down; 0
-- where the length is 0. Nothing stands beyond the right edge
abbrev pub scaled : ℕ → ℕ → ℕ
scaled length moment =
    if length == 0 then 0 else (if nat_le length moment then 1000000 else 1000000 * moment / length)

-- thousandths as a whole number, a point, and three digits
abbrev pub thousandths : ℕ → List ℕ
thousandths n =
    decimal (n / 1000)
    ++ 46
    ∷ (48 + n % 1000 / 100)
    ∷ (48 + n % 1000 / 10 % 10)
    ∷ (48 + n % 1000 % 10)
    ∷ []

-- the first of these steps of which at most ten go into a run of this length
abbrev pub first_step : List ℕ → ℕ → ℕ
first_step steps length = unwrap_or (find (λ step. nat_le length (10 * step)) steps) MOST_STEP

-- the step of the scale for a run of this length
unfoldable pub step_of : ℕ → ℕ
step_of length = first_step STEPS length

-- the moments that stand so many steps from the beginning, up to the length
abbrev pub moments_within : List ℕ → ℕ → ℕ → List ℕ
moments_within marks step length =
    filter (λ moment. nat_le moment length) (map (λ mark. mark * step) marks)

-- the moments of the marks of the scale: up to ten steps
unfoldable pub marks : ℕ → List ℕ
marks length = moments_within MARKS (step_of length) length
