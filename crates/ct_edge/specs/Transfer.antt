-- What a read takes from the bytes that a reader has left, if the reader tells them. This project's own.
use Rattle.std.specs.Prelude.{◌≡◌, ℕ, ◌+◌, List, ◌++◌, take, Option, Some, None, IfSome}
use Rattle.ct_base.specs.Outside.{Becomes}

-- all that was left was read, but at most one byte more than the bound
abbrev pub ReadsUpTo : ℕ → Option (List ℕ) → List ℕ → Type 0
ReadsUpTo most left bytes = IfSome left (λ all. bytes ≡ take (most + 1) all)

-- bytes moved from the front of what was left to the end of what was read; none was lost
abbrev pub Moves : Option (List ℕ) → List ℕ → Option (List ℕ) → List ℕ → Type 0
Moves left before left_now now = Becomes left left_now (λ rest rest_now. before ++ rest ≡ now ++ rest_now)

-- what was kept and then what was left, if both are known
abbrev pub kept_and_left : Option (List ℕ) → Option (List ℕ) → Option (List ℕ × List ℕ)
kept_and_left (Some kept) (Some left) = Some (kept, left)
kept_and_left (Some kept) None = None
kept_and_left None left = None

-- bytes moved from the front of what was left to the end of what was kept; none was lost
abbrev pub MovesTo : Option (List ℕ) → Option (List ℕ) → Option (List ℕ) → Option (List ℕ) → Type 0
MovesTo left kept left_now kept_now =
    Becomes (kept_and_left kept left) (kept_and_left kept_now left_now)
    (λ old new. old.0 ++ old.1 ≡ new.0 ++ new.1)
