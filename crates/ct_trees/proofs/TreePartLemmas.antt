-- What the workers of a run over several trees saw of a tree's tests is what the world tells of them, by the tree's
-- own properties.
use Rattle.std.proofs.Common.{◌≡◌, ◌∙◌, sym, ap, Bool, true, false, ℕ, zero, suc, ◌+◌, ◌-◌, ◌≤◌, ◌<◌, List, [], ◌∷◌, ◌++◌, length, refl, arith}
use Rattle.std.specs.Prelude.{Option, Some, None, nat_le, nat_lt, slice_get, if◌then◌else◌}
use Rattle.std.specs.List.{cons_option}
use Rattle.std.proofs.lemmas.Bool.{and_parts, leb-true}
use Rattle.ct_props.specs.declared.props.Props.{Props}
use Rattle.ct_props.specs.Numbered.{at_number}
use Rattle.ct_history.specs.declared.history.Entry.{Entry}
use Rattle.ct_history.specs.declared.history.Entry.TheVariants.{Start, End, Settle, Stop}
use Rattle.ct_history.specs.Parts.{cause_back, entry_of_part, is_in_tree, part_of}
use Rattle.ct_history.proofs.PartLemmas.{above, back_there}
use Rattle.ct_core.specs.declared.gate.Told.{Told}
use Rattle.ct_core.specs.Gate.{told}
use Rattle.ct_plan.specs.declared.whole.Tree.{Tree}
use Rattle.ct_app.specs.Meant.{AreSeen, IsSeen}
use Rattle.ct_app.specs.MeantTold.{seen_as_told, seen_in_world}
use Rattle.ct_trees.specs.Joining.{props_of_trees}
use Rattle.ct_trees.specs.TreeMeant.{seen_by, told_behind}

behind_place : {A : Type 0} (xs ys : List A) (place at : ℕ) → at ≡ place + length xs → slice_get (xs ++ ys) at ≡ slice_get ys place
behind_place [] ys place at is = let same : at ≡ place = omega (arith, is) in ap (slice_get ys) same
behind_place (x ∷ xs) ys place zero is = absurd (omega (arith, is))
behind_place (x ∷ xs) ys place (suc at) is = behind_place xs ys place at (omega (arith, is))

front_place : {A : Type 0} (xs ys : List A) (place : ℕ) → place < length xs → slice_get (xs ++ ys) place ≡ slice_get xs place
front_place [] ys place less = absurd (omega (arith, less))
front_place (x ∷ xs) ys zero less = refl
front_place (x ∷ xs) ys (suc place) less = front_place xs ys place (omega (arith, less))

-- the properties of these trees stand among all properties, behind so many of other trees
abbrev pub StandBehind : List Props → ℕ → List Tree → Type 0
StandBehind all offset trees = (place at : ℕ) → at ≡ place + offset → slice_get all at ≡ slice_get (props_of_trees trees) place

pub stand_first : (trees : List Tree) → StandBehind (props_of_trees trees) 0 trees
stand_first trees place at is = let same : at ≡ place = omega (arith, is) in ap (slice_get (props_of_trees trees)) same

-- all properties, and those of a tree and of the trees behind it
module _ (all : List Props) (offset : ℕ) (tree : Tree) (trees : List Tree) (paired : length tree.props ≡ length tree.defs) (stand : StandBehind all offset (tree ∷ trees)) where
  pub stand_next : StandBehind all (offset + length tree.defs) trees
  stand_next place at is =
      stand (place + length tree.props) at (omega (arith, is, paired)) ∙ behind_place tree.props (props_of_trees trees) place (place + length tree.props) refl

  number_there : (number own : ℕ) → number ≡ own + offset → 1 ≤ own → own ≤ length tree.defs → at_number all number ≡ at_number tree.props own
  number_there zero own is some few = absurd (omega (arith, is, some))
  number_there (suc at) zero is some few = absurd (omega (arith, some))
  number_there (suc at) (suc place) is some few =
      stand place at (omega (arith, is)) ∙ front_place tree.props (props_of_trees trees) place (omega (arith, few, paired))

  -- the properties of a test of the tree, by its number among all tests and by its own
  pub own_props : (number : ℕ) → is_in_tree offset (length tree.defs) number ≡ true → at_number all number ≡ at_number tree.props (number - offset)
  own_props number here =
      let more = above offset (length tree.defs) number here in
      let back = back_there offset (length tree.defs) number here in
      let most : number ≤ offset + length tree.defs = leb-true number (offset + length tree.defs) (and_parts (nat_lt offset number) (nat_le number (offset + length tree.defs)) here).1 in
      number_there number (number - offset) (sym back) (omega (arith, more)) (omega (arith, more, most))

-- what is seen of the tests of a tree, whose own properties are found at their own numbers
module _ (offset count : ℕ) (all own : List Props) (world : List Told) (same : (number : ℕ) → is_in_tree offset count number ≡ true → at_number all number ≡ at_number own (number - offset)) where
  with_entry : (e : Entry) (part : List Entry) → IsSeen (seen_in_world all world) e → AreSeen (seen_by own (told_behind world offset)) part → AreSeen (seen_by own (told_behind world offset)) (cons_option (entry_of_part offset count e) part)
  with_entry (Start t a w p) part is rest = by_here (is_in_tree offset count t)
    where
      by_here : (b : Bool) → AreSeen (seen_by own (told_behind world offset)) (cons_option (if b then Some (Start (t - offset) a w p) else None) part)
      by_here true = (tt, rest)
      by_here false = rest
  with_entry (End t a w seen) part is rest = by_here (is_in_tree offset count t) refl
    where
      by_here : (b : Bool) → is_in_tree offset count t ≡ b → AreSeen (seen_by own (told_behind world offset)) (cons_option (if b then Some (End (t - offset) a w seen) else None) part)
      by_here true here = (
        is ∙ ap (λ (o : Option Props). seen_as_told o (told world t a)) (same t here) ∙ ap (λ (n : ℕ). seen_as_told (at_number own (t - offset)) (told world n a)) (sym (back_there offset count t here)),
        rest,
      )
      by_here false here = rest
  with_entry (Settle t cause) part is rest = by_here (is_in_tree offset count t)
    where
      by_here : (b : Bool) → AreSeen (seen_by own (told_behind world offset)) (cons_option (if b then Some (Settle (t - offset) (cause_back offset cause)) else None) part)
      by_here true = (tt, rest)
      by_here false = rest
  with_entry Stop part is rest = rest

  -- in the part of a tree that is seen which the world tells of its tests
  pub part_seen : (es : List Entry) → AreSeen (seen_in_world all world) es → AreSeen (seen_by own (told_behind world offset)) (part_of offset count es)
  part_seen [] seen = tt
  part_seen (e ∷ es) seen = with_entry e (part_of offset count es) seen.0 (part_seen es seen.1)
