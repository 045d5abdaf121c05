-- What the two grammars say of a text together: that of patterns, and that of faulty texts.
-- Source: CMake manual, string(REGEX), Regex Specification; the limits are this project's choice.
use Rattle.std.specs.Prelude.{◌≡◌, ◌⊎◌, ℕ, List}
use Rattle.ct_regex.specs.Tree.{Tree}
use Rattle.ct_regex.specs.Grammar.{IsPattern}
use Rattle.ct_regex.specs.Faulty.{IsFaulty}
use Rattle.ct_regex.specs.declared.fault.RegexFault.{RegexFault}
use Rattle.ct_regex.specs.declared.fault.RegexFault.TheVariants.{TooLarge}

-- the fault is a limit of this project: bytes, or groups that are open at once
abbrev pub IsLimit : RegexFault → Type 0
IsLimit (TooLarge place) = Unit {0}
IsLimit why = ⊥

-- the text is written as one tree or has one fault; both only where it is a pattern beyond a limit
pub record HasOneAnswer (text : List ℕ) : Type 0 where
  pub some : ((tree : Tree) × IsPattern text tree) ⊎ ((why : RegexFault) × IsFaulty text why)
  pub one_tree : (tree other : Tree) → IsPattern text tree → IsPattern text other → tree ≡ other
  pub one_fault : (why other : RegexFault) → IsFaulty text why → IsFaulty text other → why ≡ other
  pub both : (tree : Tree) (why : RegexFault) → IsPattern text tree → IsFaulty text why → IsLimit why
