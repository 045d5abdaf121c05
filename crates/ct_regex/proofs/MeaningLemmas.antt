-- The equations of `meaning`, one for each variant.
use Rattle.std.proofs.Common.{◌≡◌, ℕ, ◌+◌, ◌<◌, List, ◌∷◌, map, drop, get_or, length, Vec, Box, Global, sym, ap, ◌∙◌}
use Rattle.std.proofs.lemmas.List.{drop_more}
use Rattle.ct_regex.specs.Tree.{Tree, start, end, one, sequence_of, branch_of, repeat}
use Rattle.ct_regex.specs.Meaning.{meaning, node_meaning, byte_test}
use Rattle.ct_regex.specs.declared.tree.ByteTest.{ByteTest}
use Rattle.ct_regex.specs.declared.tree.Quantifier.{Quantifier}
use Rattle.ct_regex.specs.declared.tree.Node.{Node, Node-F, fold-roll-Node}
use Rattle.ct_regex.specs.declared.tree.Node.TheVariants.{Start, End, One, Sequence, Choice, Repeat, rolls-Start, rolls-End, rolls-One, rolls-Sequence, rolls-Choice, rolls-Repeat}

pub meaning-Start : meaning Start ≡ start
meaning-Start = ap meaning (sym rolls-Start) ∙ fold-roll-Node Tree node_meaning Node-F.Start

pub meaning-End : meaning End ≡ end
meaning-End = ap meaning (sym rolls-End) ∙ fold-roll-Node Tree node_meaning Node-F.End

pub meaning-One : (test : ByteTest) → meaning (One test) ≡ one (byte_test test)
meaning-One test = ap meaning (sym (rolls-One test)) ∙ fold-roll-Node Tree node_meaning (Node-F.One test)

pub meaning-Sequence : (parts : Vec Node Global) → meaning (Sequence parts) ≡ sequence_of (map meaning parts.items)
meaning-Sequence parts = ap meaning (sym (rolls-Sequence parts)) ∙ fold-roll-Node Tree node_meaning (Node-F.Sequence parts)

pub meaning-Choice : (branches : Vec Node Global) → meaning (Choice branches) ≡ branch_of (map meaning branches.items)
meaning-Choice branches = ap meaning (sym (rolls-Choice branches)) ∙ fold-roll-Node Tree node_meaning (Node-F.Choice branches)

pub meaning-Repeat : (quantifier : Quantifier) (inner : Box Node Global) → meaning (Repeat quantifier inner) ≡ repeat quantifier (meaning inner.value)
meaning-Repeat quantifier inner = ap meaning (sym (rolls-Repeat quantifier inner)) ∙ fold-roll-Node Tree node_meaning (Node-F.Repeat quantifier inner)

pub meaning_drop : (nodes : List Node) (i : ℕ) (node : Node) → i < length nodes → node ≡ get_or nodes i node →
    map meaning (drop i nodes) ≡ meaning node ∷ map meaning (drop (i + 1) nodes)
meaning_drop nodes i node h e =
    ap (map meaning) (drop_more nodes i node h ∙ ap (λ n. n ∷ drop (i + 1) nodes) (sym e))
