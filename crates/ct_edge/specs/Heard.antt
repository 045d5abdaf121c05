-- What an ear hears of the bytes that a reader has left, if the reader tells them. This project's own.
use Rattle.std.specs.Prelude.{◌≡◌, ℕ, List, [], ◌++◌, Option, Some, None, option_map}
use Rattle.ct_base.specs.Outside.{Becomes}

-- the ear heard bytes from the front of what was left, and none was lost
pub record Hears (left left_now : Option (List ℕ)) (before now : List ℕ → Type 0) : Type 0 where
  pub heard : List ℕ
  pub moved : Becomes left left_now (λ all rest. all ≡ heard ++ rest)
  pub said : (text : List ℕ) → before text → now (text ++ heard)

-- the ear heard bytes from the front of an output, and behind
-- them bytes from the front of the other; none was lost
pub record HearsBoth (output output_now errors errors_now : Option (List ℕ)) (before now : List ℕ → Type 0)
    : Type 0 where
  pub first : List ℕ
  pub second : List ℕ
  pub first_moved : Becomes output output_now (λ all rest. all ≡ first ++ rest)
  pub second_moved : Becomes errors errors_now (λ all rest. all ≡ second ++ rest)
  pub said : (text : List ℕ) → before text → now ((text ++ first) ++ second)

-- nothing is left of what was kept, if that is known
abbrev pub emptied : Option (List ℕ) → Option (List ℕ)
emptied kept = option_map (λ _. []) kept

-- what an output has left, if what is kept of it is known too
abbrev pub known_beside : Option (List ℕ) → Option (List ℕ) → Option (List ℕ)
known_beside (Some kept) left = left
known_beside None left = None

-- nothing was heard
abbrev pub HearsNothing : (List ℕ → Type 0) → (List ℕ → Type 0) → Type 0
HearsNothing before now = (text : List ℕ) → before text → now text
