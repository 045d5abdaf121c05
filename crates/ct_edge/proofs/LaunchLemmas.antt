-- Arguments behind a program, whether it is started by itself or as a script.
use Rattle.std.specs.Prelude.{◌≡◌, ℕ, List, [], ◌∷◌, ◌++◌}
use Rattle.std.proofs.Common.{ap}
use Rattle.ct_edge.specs.declared.command.Launch.{Launch}
use Rattle.ct_edge.specs.declared.command.Launch.TheVariants.{Program, Script}
use Rattle.ct_edge.specs.Process.{launched_as}

-- the words of a program without arguments, and then these arguments
pub launched_more : (launch : Launch) (program first : List ℕ) (rest args : List (List ℕ)) →
    first ∷ rest ≡ launched_as launch (program ∷ []) → first ∷ (rest ++ args) ≡ launched_as launch (program ∷ args)
launched_more Program program first rest args is = ap (λ words. words ++ args) is
launched_more Script program first rest args is = ap (λ words. words ++ args) is
