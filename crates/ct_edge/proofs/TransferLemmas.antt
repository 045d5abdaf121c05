-- What a writer holds when it has taken one more piece.
use Rattle.std.specs.Prelude.{ℕ, List, ◌++◌, Option, Some, None}
use Rattle.std.specs.Io.KnownBytes.{Appends}
use Rattle.std.proofs.Common.{ap, ◌∙◌, append_assoc}
use Rattle.ct_base.specs.Outside.{Adds, Becomes}

-- the bytes taken now are behind the bytes sent before
pub adds-more : (before mid now : Option (List ℕ)) (sent front : List ℕ) → Becomes before mid (Adds sent) → Appends mid now front → Becomes before now (Adds (sent ++ front))
adds-more None mid now sent front was took = tt
adds-more (Some xs) None now sent front was took = absurd was
adds-more (Some xs) (Some ys) None sent front was took = absurd took
adds-more (Some xs) (Some ys) (Some zs) sent front was took = took ∙ ap (λ (held : List ℕ). held ++ front) was ∙ append_assoc xs sent front
