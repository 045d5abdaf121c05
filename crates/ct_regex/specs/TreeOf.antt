-- The tree of a parsed pattern.
use Rattle.ct_regex.specs.Tree.{Tree}
use Rattle.ct_regex.specs.Meaning.{meaning}
use Rattle.ct_regex.specs.declared.pattern.Regex.{Regex}

-- the tree of a pattern
abbrev pub regex_tree : Regex → Tree
regex_tree regex = meaning regex.root
