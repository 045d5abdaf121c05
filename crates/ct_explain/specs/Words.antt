-- The words of an explanation: whether they ask for the picture, and those from the path of the journal on.
-- This project's own.
use Rattle.std.specs.Prelude.{ℕ, Bool, false, List, [], ◌∷◌, codes, bytes_eq, if◌then◌else◌}

-- the word asks for the picture
abbrev pub is_picture : List ℕ → Bool
is_picture word = bytes_eq word (codes "--picture")

-- the first word asks for the picture
abbrev pub asks_picture : List (List ℕ) → Bool
asks_picture [] = false
asks_picture (word ∷ words) = is_picture word

-- the words from the path of the journal on
abbrev pub journal_words : List (List ℕ) → List (List ℕ)
journal_words [] = []
journal_words (word ∷ words) = if is_picture word then words else word ∷ words
