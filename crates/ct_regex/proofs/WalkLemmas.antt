-- A walk over the steps of a pattern changes the marks as a byte changes the live positions of the tree.
use Rattle.std.proofs.Common.{◌≡◌, ℕ, suc, not, ◌+◌, Bool, true, false, ◌&&◌, ◌||◌, List, [], ◌∷◌, ◌++◌, length, slice_set, map, refl, sym, ◌∙◌, ap, subst, append-nil, append_assoc}
use Rattle.std.proofs.lemmas.Bool.{and_parts, not-true}
use Rattle.std.proofs.Math.Bool.{and-false, and-true, or-false, or_assoc, and-or_distrib_left}
use Rattle.std.proofs.lemmas.List.{length-append, set_at, get_or_at}
use Rattle.ct_regex.specs.Tree.{Test, Tree, empty, never, start, end, one, sequence, choice, repeat, takes, branch_of}
use Rattle.ct_regex.specs.declared.tree.Quantifier.TheVariants.{ZeroOrOne, ZeroOrMore, OneOrMore}
use Rattle.ct_regex.specs.declared.walk.Flow.{Flow}
use Rattle.ct_regex.specs.declared.walk.Branches.{Branches}
use Rattle.ct_regex.specs.declared.tree.Node.{Node}
use Rattle.ct_regex.specs.Meaning.{meaning}
use Rattle.ct_regex.specs.Reading.{can_be_empty}
use Rattle.ct_regex.specs.Sound.{is_sound}
use Rattle.ct_regex.specs.Walk.{Step, fork, maybe, or_else, join, back, Walk, walked, behind_step, merged, no_flow, no_marks, is_never, branch, behind_one, choice_steps, rounds_of, steps_of}
use Rattle.ct_regex.proofs.Live.{Spot, leaves, next_marks, marks_behind, first_mark}
use Rattle.ct_regex.proofs.LiveLemmas.{leaves_apart, marks_behind-next, marks_behind-none}

-- the marks of a walk over the tree, given the live positions
abbrev pub slots : Tree → Bool → List Bool → List Bool
slots empty first marks = []
slots never first marks = []
slots start first marks = first ∷ []
slots end first marks = []
slots (one test) first marks = first_mark marks ∷ []
slots (sequence left right) first marks = slots left first marks ++ slots right first (marks_behind left marks)
slots (choice left right) first marks = slots left first marks ++ slots right first (marks_behind left marks)
slots (repeat ZeroOrOne tree) first marks = slots tree first marks
slots (repeat ZeroOrMore tree) first marks = leaves tree false (record { is_first = first; is_last = false }) marks ∷ slots tree first marks
slots (repeat OneOrMore tree) first marks = leaves tree false (record { is_first = first; is_last = false }) marks ∷ slots tree first marks

-- the flow that leaves the tree, in front of a byte and behind it
abbrev pub flow_of : Tree → Flow → Bool → List Bool → List Bool → Flow
flow_of tree flow first marks next = record {
  now = leaves tree flow.now (record { is_first = first; is_last = false }) marks;
  next = leaves tree flow.next (record { is_first = false; is_last = false }) next;
  last = leaves tree flow.last (record { is_first = false; is_last = true }) next;
}

pub walked-append : (xs ys : List Step) (byte : ℕ) (w : Walk) → walked (xs ++ ys) byte w ≡ walked ys byte (walked xs byte w)
walked-append [] ys byte w = refl
walked-append (x ∷ xs) ys byte w = walked-append xs ys byte (behind_step x byte w)

slots_length : (tree : Tree) (first : Bool) (marks : List Bool) → length (slots tree first marks) ≡ length (no_marks tree)
slots_length empty first marks = refl
slots_length never first marks = refl
slots_length start first marks = refl
slots_length end first marks = refl
slots_length (one test) first marks = refl
slots_length (sequence left right) first marks =
    length-append (slots left first marks) (slots right first (marks_behind left marks))
    ∙ ap (λ (n : ℕ). n + length (slots right first (marks_behind left marks))) (slots_length left first marks)
    ∙ ap (λ (n : ℕ). length (no_marks left) + n) (slots_length right first (marks_behind left marks))
    ∙ sym (length-append (no_marks left) (no_marks right))
slots_length (choice left right) first marks =
    length-append (slots left first marks) (slots right first (marks_behind left marks))
    ∙ ap (λ (n : ℕ). n + length (slots right first (marks_behind left marks))) (slots_length left first marks)
    ∙ ap (λ (n : ℕ). length (no_marks left) + n) (slots_length right first (marks_behind left marks))
    ∙ sym (length-append (no_marks left) (no_marks right))
slots_length (repeat ZeroOrOne tree) first marks = slots_length tree first marks
slots_length (repeat ZeroOrMore tree) first marks = ap (λ (n : ℕ). suc n) (slots_length tree first marks)
slots_length (repeat OneOrMore tree) first marks = ap (λ (n : ℕ). suc n) (slots_length tree first marks)

-- without marks a match leaves a tree only if it enters it
no_leaves : (tree : Tree) (spot : Spot) → leaves tree false spot [] ≡ false
no_leaves empty spot = refl
no_leaves never spot = refl
no_leaves start spot = refl
no_leaves end spot = refl
no_leaves (one test) spot = refl
no_leaves (sequence left right) spot =
    ap (λ (b : Bool). leaves right b spot (marks_behind left [])) (no_leaves left spot)
    ∙ ap (leaves right false spot) (marks_behind-none left) ∙ no_leaves right spot
no_leaves (choice left right) spot =
    ap (λ (b : Bool). b || leaves right false spot (marks_behind left [])) (no_leaves left spot)
    ∙ ap (leaves right false spot) (marks_behind-none left) ∙ no_leaves right spot
no_leaves (repeat ZeroOrOne tree) spot = no_leaves tree spot
no_leaves (repeat ZeroOrMore tree) spot = no_leaves tree spot
no_leaves (repeat OneOrMore tree) spot = no_leaves tree spot

-- the first walk begins with the marks of no live position
pub slots_first : (tree : Tree) → slots tree true [] ≡ no_marks tree
slots_first empty = refl
slots_first never = refl
slots_first start = refl
slots_first end = refl
slots_first (one test) = refl
slots_first (sequence left right) =
    ap (λ (xs : List Bool). xs ++ slots right true (marks_behind left [])) (slots_first left)
    ∙ ap (λ (ms : List Bool). no_marks left ++ slots right true ms) (marks_behind-none left)
    ∙ ap (λ (xs : List Bool). no_marks left ++ xs) (slots_first right)
slots_first (choice left right) =
    ap (λ (xs : List Bool). xs ++ slots right true (marks_behind left [])) (slots_first left)
    ∙ ap (λ (ms : List Bool). no_marks left ++ slots right true ms) (marks_behind-none left)
    ∙ ap (λ (xs : List Bool). no_marks left ++ xs) (slots_first right)
slots_first (repeat ZeroOrOne tree) = slots_first tree
slots_first (repeat ZeroOrMore tree) =
    ap (λ (b : Bool). b ∷ slots tree true []) (no_leaves tree (record { is_first = true; is_last = false }))
    ∙ ap (λ (xs : List Bool). false ∷ xs) (slots_first tree)
slots_first (repeat OneOrMore tree) =
    ap (λ (b : Bool). b ∷ slots tree true []) (no_leaves tree (record { is_first = true; is_last = false }))
    ∙ ap (λ (xs : List Bool). false ∷ xs) (slots_first tree)

absorbed : (a b : Bool) → (a || (a && b)) ≡ (a && true)
absorbed true b = refl
absorbed false b = refl

-- in an empty text and without marks, a tree is left exactly if it is entered and can be empty
pub leaves_empty : (tree : Tree) (enters : Bool) → is_sound tree ≡ true →
    leaves tree enters (record { is_first = true; is_last = true }) [] ≡ (enters && can_be_empty tree)
leaves_empty empty enters s = sym (and-true enters)
leaves_empty never enters s = sym (and-false enters)
leaves_empty start enters s = refl
leaves_empty end enters s = refl
leaves_empty (one test) enters s = sym (and-false enters)
leaves_empty (sequence left right) enters s =
    let both = and_parts (is_sound left) (is_sound right) s in
    ap (λ (b : Bool). leaves right b (record { is_first = true; is_last = true }) (marks_behind left [])) (leaves_empty left enters both.0)
    ∙ ap (leaves right (enters && can_be_empty left) (record { is_first = true; is_last = true })) (marks_behind-none left)
    ∙ leaves_empty right (enters && can_be_empty left) both.1
    ∙ and_assoc enters (can_be_empty left) (can_be_empty right)
  where
    and_assoc : (a b c : Bool) → ((a && b) && c) ≡ (a && (b && c))
    and_assoc true b c = refl
    and_assoc false b c = refl
leaves_empty (choice left right) enters s =
    let both = and_parts (is_sound left) (is_sound right) s in
    ap (λ (b : Bool). b || leaves right enters (record { is_first = true; is_last = true }) (marks_behind left [])) (leaves_empty left enters both.0)
    ∙ ap (λ (ms : List Bool). (enters && can_be_empty left) || leaves right enters (record { is_first = true; is_last = true }) ms) (marks_behind-none left)
    ∙ ap (λ (b : Bool). (enters && can_be_empty left) || b) (leaves_empty right enters both.1)
    ∙ sym (and-or_distrib_left enters (can_be_empty left) (can_be_empty right))
leaves_empty (repeat ZeroOrOne tree) enters s = ap (λ (b : Bool). enters || b) (leaves_empty tree enters s) ∙ absorbed enters (can_be_empty tree)
leaves_empty (repeat ZeroOrMore tree) enters s =
    let both = and_parts (not (can_be_empty tree)) (is_sound tree) s in
    ap (λ (b : Bool). enters || b) (leaves_empty tree enters both.1) ∙ absorbed enters (can_be_empty tree)
leaves_empty (repeat OneOrMore tree) enters s =
    let both = and_parts (not (can_be_empty tree)) (is_sound tree) s in
    leaves_empty tree enters both.1 ∙ ap (λ (b : Bool). enters && b) (not-true (can_be_empty tree) both.0)

-- the steps of a choice with no branch or with several
pub many_steps : (at : ℕ) (nodes : List Node) → (length nodes ≡ 1 → ⊥) →
    steps_of false at (branch_of (map meaning nodes)) ≡ fork ∷ steps_of true at (branch_of (map meaning nodes))
many_steps at [] h = refl
many_steps at (node ∷ []) h = absurd (h refl)
many_steps at (node ∷ other ∷ nodes) h = refl

abbrev pub a_walk : Flow → List Branches → List Bool → Walk
a_walk flow opened marks = record { flow = flow; opened = opened; marks = marks }

abbrev pub before_byte : Bool → Spot
before_byte first = record { is_first = first; is_last = false }

-- a walk over the tree updates its marks by the byte
abbrev pub Over : Tree → Type 0
Over tree =
    (at : ℕ) (front behind : List Bool) (opened : List Branches) (flow : Flow) (first : Bool) (marks next more : List Bool) (byte : ℕ) → length front ≡ at →
    next ≡ next_marks tree flow.now (before_byte first) byte marks ++ more →
    walked (steps_of false at tree) byte (a_walk flow opened (front ++ (slots tree first marks ++ behind)))
    ≡ a_walk (flow_of tree flow first marks next) opened (front ++ (slots tree false next ++ behind))

-- a walk over the tree as the last branch of a choice also ends the choice
abbrev pub OverLast : Tree → Type 0
OverLast tree =
    (at : ℕ) (front behind : List Bool) (left : Flow) (opened : List Branches) (flow : Flow) (first : Bool) (marks next more : List Bool) (byte : ℕ) → length front ≡ at →
    next ≡ next_marks tree flow.now (before_byte first) byte marks ++ more →
    walked (steps_of true at tree) byte (a_walk flow (record { entered = flow; left = left } ∷ opened) (front ++ (slots tree first marks ++ behind)))
    ≡ a_walk (merged left (flow_of tree flow first marks next)) opened (front ++ (slots tree false next ++ behind))

abbrev a_flow : Bool → Bool → Bool → Flow
a_flow now next last = record { now = now; next = next; last = last }

flow_eq : (a b c x y z : Bool) → a ≡ x → b ≡ y → c ≡ z → a_flow a b c ≡ a_flow x y z
flow_eq a b c x y z e f g = ap (λ (v : Bool). a_flow v b c) e ∙ ap (λ (v : Bool). a_flow x v c) f ∙ ap (λ (v : Bool). a_flow x y v) g

merged_none : (left : Flow) → merged left no_flow ≡ left
merged_none left = flow_eq _ _ _ _ _ _ (or-false left.now) (or-false left.next) (or-false left.last)

merged_assoc : (a b c : Flow) → merged (merged a b) c ≡ merged a (merged b c)
merged_assoc a b c = flow_eq _ _ _ _ _ _ (or_assoc a.now b.now c.now) (or_assoc a.next b.next c.next) (or_assoc a.last b.last c.last)

-- steps that end the last branch of a choice
branch_last : (steps : List Step) (byte : ℕ) (flow out left : Flow) (opened : List Branches) (marks next : List Bool) →
    ((others : List Branches) → walked steps byte (a_walk flow others marks) ≡ a_walk out others next) →
    walked (branch true steps) byte (a_walk flow (record { entered = flow; left = left } ∷ opened) marks) ≡ a_walk (merged left out) opened next
branch_last steps byte flow out left opened marks next h =
    walked-append steps (or_else ∷ join ∷ []) byte (a_walk flow (record { entered = flow; left = left } ∷ opened) marks)
    ∙ ap (walked (or_else ∷ join ∷ []) byte) (h (record { entered = flow; left = left } ∷ opened))

one_over : (test : Test) → Over (one test)
one_over test at front behind opened flow first marks next more byte e n =
    let comes : Bool = flow.now && takes test byte in
    let all : List Bool = front ++ (first_mark marks ∷ behind) in
    ap (λ (came : Bool). a_walk (behind_one came comes) opened (slice_set all at comes)) (get_or_at front (first_mark marks) behind false at e)
    ∙ ap (a_walk (behind_one (first_mark marks) comes) opened) (set_at front (first_mark marks) behind comes at e)
    ∙ ap (λ (ms : List Bool). a_walk (behind_one (first_mark marks) (first_mark ms)) opened (front ++ (first_mark ms ∷ behind))) (sym n)

start_over : Over start
start_over at front behind opened flow first marks next more byte e n =
    let all : List Bool = front ++ (first ∷ behind) in
    ap (λ (came : Bool). a_walk (record { now = flow.now && came; next = false; last = false }) opened (slice_set all at false)) (get_or_at front first behind false at e)
    ∙ ap (a_walk (record { now = flow.now && first; next = false; last = false }) opened) (set_at front first behind false at e)
    ∙ ap (λ (f : Flow). a_walk f opened (front ++ (false ∷ behind))) (flow_eq _ _ _ _ _ _ refl (sym (and-false flow.next)) (sym (and-false flow.last)))

end_over : Over end
end_over at front behind opened flow first marks next more byte e n =
    ap (λ (f : Flow). a_walk f opened (front ++ behind)) (flow_eq _ _ _ _ _ _ (sym (and-false flow.now)) (sym (and-false flow.next)) (sym (and-true flow.last)))

sequence_over : (left right : Tree) → Over left → Over right → Over (sequence left right)
sequence_over left right over_left over_right at front behind opened flow first marks next more byte e n =
    let inside : Flow = flow_of left flow first marks next in
    let nl : List Bool = next_marks left flow.now (before_byte first) byte marks in
    let nr : List Bool = next_marks right inside.now (before_byte first) byte (marks_behind left marks) in
    let sl : List Bool = slots left first marks in
    let sr : List Bool = slots right first (marks_behind left marks) in
    let tl : List Bool = slots left false next in
    let tr : List Bool = slots right false (marks_behind left next) in
    let ours : List Step = steps_of false at left in
    let others : List Step = steps_of false (at + length (no_marks left)) right in
    let n1 : next ≡ nl ++ (nr ++ more) = n ∙ append_assoc nl nr more in
    let n2 : marks_behind left next ≡ nr ++ more = ap (marks_behind left) n1 ∙ marks_behind-next left flow.now (before_byte first) byte marks (nr ++ more) in
    let len : length (front ++ tl) ≡ at + length (no_marks left) =
    length-append front tl ∙ ap (λ (k : ℕ). k + length tl) e ∙ ap (λ (k : ℕ). at + k) (slots_length left false next) in
    ap (λ (ms : List Bool). walked (ours ++ others) byte (a_walk flow opened (front ++ ms))) (append_assoc sl sr behind)
    ∙ walked-append ours others byte (a_walk flow opened (front ++ (sl ++ (sr ++ behind))))
    ∙ ap (walked others byte) (over_left at front (sr ++ behind) opened flow first marks next (nr ++ more) byte e n1)
    ∙ ap (λ (ms : List Bool). walked others byte (a_walk inside opened ms)) (sym (append_assoc front tl (sr ++ behind)))
    ∙ over_right (at + length (no_marks left)) (front ++ tl) behind opened inside first (marks_behind left marks) (marks_behind left next) more byte len n2
    ∙ ap (a_walk (flow_of right inside first (marks_behind left marks) (marks_behind left next)) opened)
    (append_assoc front tl (tr ++ behind) ∙ ap (λ (ms : List Bool). front ++ ms) (sym (append_assoc tl tr behind)))

choice_last : (left right : Tree) → Over left → OverLast right → (at : ℕ) (front behind : List Bool) (gone : Flow) (opened : List Branches) (flow : Flow) (first : Bool) (marks next more : List Bool) (byte : ℕ) →
    length front ≡ at → next ≡ next_marks (choice left right) flow.now (before_byte first) byte marks ++ more →
    walked (steps_of false at left ++ (or_else ∷ steps_of true (at + length (no_marks left)) right)) byte
    (a_walk flow (record { entered = flow; left = gone } ∷ opened) (front ++ (slots (choice left right) first marks ++ behind)))
    ≡ a_walk (merged gone (flow_of (choice left right) flow first marks next)) opened (front ++ (slots (choice left right) false next ++ behind))
choice_last left right over_left over_right at front behind gone opened flow first marks next more byte e n =
    let leaving : Flow = flow_of left flow first marks next in
    let other : Flow = flow_of right flow first (marks_behind left marks) (marks_behind left next) in
    let nl : List Bool = next_marks left flow.now (before_byte first) byte marks in
    let nr : List Bool = next_marks right flow.now (before_byte first) byte (marks_behind left marks) in
    let sl : List Bool = slots left first marks in
    let sr : List Bool = slots right first (marks_behind left marks) in
    let tl : List Bool = slots left false next in
    let tr : List Bool = slots right false (marks_behind left next) in
    let ours : List Step = steps_of false at left in
    let others : List Step = steps_of true (at + length (no_marks left)) right in
    let n1 : next ≡ nl ++ (nr ++ more) = n ∙ append_assoc nl nr more in
    let n2 : marks_behind left next ≡ nr ++ more = ap (marks_behind left) n1 ∙ marks_behind-next left flow.now (before_byte first) byte marks (nr ++ more) in
    let len : length (front ++ tl) ≡ at + length (no_marks left) =
    length-append front tl ∙ ap (λ (k : ℕ). k + length tl) e ∙ ap (λ (k : ℕ). at + k) (slots_length left false next) in
    let inner : List Branches = record { entered = flow; left = gone } ∷ opened in
    ap (λ (ms : List Bool). walked (ours ++ (or_else ∷ others)) byte (a_walk flow inner (front ++ ms))) (append_assoc sl sr behind)
    ∙ walked-append ours (or_else ∷ others) byte (a_walk flow inner (front ++ (sl ++ (sr ++ behind))))
    ∙ ap (walked (or_else ∷ others) byte) (over_left at front (sr ++ behind) inner flow first marks next (nr ++ more) byte e n1)
    ∙ ap (λ (ms : List Bool). walked others byte (a_walk flow (record { entered = flow; left = merged gone leaving } ∷ opened) ms)) (sym (append_assoc front tl (sr ++ behind)))
    ∙ over_right (at + length (no_marks left)) (front ++ tl) behind (merged gone leaving) opened flow first (marks_behind left marks) (marks_behind left next) more byte len n2
    ∙ ap (λ (f : Flow). a_walk f opened ((front ++ tl) ++ (tr ++ behind))) (merged_assoc gone leaving other)
    ∙ ap (a_walk (merged gone (merged leaving other)) opened)
    (append_assoc front tl (tr ++ behind) ∙ ap (λ (ms : List Bool). front ++ ms) (sym (append_assoc tl tr behind)))

rounds_over : (tree : Tree) → Over tree → is_sound tree ≡ true → can_be_empty tree ≡ false → Over (repeat OneOrMore tree)
rounds_over tree over_tree s full at front behind opened flow first marks next more byte e n =
    let bit : Bool = leaves tree false (before_byte first) marks in
    let comes : Bool = leaves tree flow.now (before_byte first) marks in
    let begun : Flow = record { now = flow.now || comes; next = flow.next; last = flow.last } in
    let out : Flow = flow_of tree begun first marks next in
    let ours : List Step = steps_of false (at + 1) tree in
    let old : List Bool = slots tree first marks ++ behind in
    let new : List Bool = slots tree false next ++ behind in
    let len : length (front ++ bit ∷ []) ≡ at + 1 = length-append front (bit ∷ []) ∙ ap (λ (k : ℕ). k + 1) e in
    ap (λ (b : Bool). walked (ours ++ (back at ∷ [])) byte (a_walk (record { now = flow.now || b; next = flow.next; last = flow.last }) opened (front ++ (bit ∷ old))))
    (get_or_at front bit old false at e ∙ leaves_apart tree false flow.now (before_byte first) marks s full)
    ∙ ap (λ (ms : List Bool). walked (ours ++ (back at ∷ [])) byte (a_walk begun opened ms)) (sym (append_assoc front (bit ∷ []) old))
    ∙ walked-append ours (back at ∷ []) byte (a_walk begun opened ((front ++ bit ∷ []) ++ old))
    ∙ ap (walked (back at ∷ []) byte) (over_tree (at + 1) (front ++ bit ∷ []) behind opened begun first marks next more byte len n)
    ∙ ap (λ (ms : List Bool). a_walk out opened (slice_set ms at out.next)) (append_assoc front (bit ∷ []) new)
    ∙ ap (a_walk out opened) (set_at front bit new out.next at e)
    ∙ ap (λ (b : Bool). a_walk (record { now = b; next = out.next; last = out.last }) opened (front ++ (out.next ∷ new))) (leaves_apart tree begun.now flow.now (before_byte first) marks s full)
    ∙ ap (λ (b : Bool). a_walk (flow_of (repeat OneOrMore tree) flow first marks next) opened (front ++ (b ∷ new))) (leaves_apart tree flow.next false (record { is_first = false; is_last = false }) next s full)

-- a part that may be left out
maybe_over : (steps : List Step) (byte : ℕ) (flow out : Flow) (opened : List Branches) (marks next : List Bool) →
    ((others : List Branches) → walked steps byte (a_walk flow others marks) ≡ a_walk out others next) →
    walked (maybe ∷ branch true steps) byte (a_walk flow opened marks) ≡ a_walk (merged flow out) opened next
maybe_over steps byte flow out opened marks next h = branch_last steps byte flow out flow opened marks next h

never_is : (tree : Tree) → is_never tree ≡ true → tree ≡ never
never_is never h = refl
never_is empty h = absurd (let no : false ≡ true = h in cc)
never_is start h = absurd (let no : false ≡ true = h in cc)
never_is end h = absurd (let no : false ≡ true = h in cc)
never_is (one test) h = absurd (let no : false ≡ true = h in cc)
never_is (sequence left right) h = absurd (let no : false ≡ true = h in cc)
never_is (choice left right) h = absurd (let no : false ≡ true = h in cc)
never_is (repeat quantifier tree) h = absurd (let no : false ≡ true = h in cc)

only_over : (tree : Tree) → Over tree → Over (choice tree never)
only_over tree over_tree at front behind opened flow first marks next more byte e n =
    let was : List Bool = slots tree first marks in
    let now : List Bool = slots tree false next in
    let ours : List Bool = next_marks tree flow.now (before_byte first) byte marks in
    ap (λ (ms : List Bool). walked (steps_of false at tree) byte (a_walk flow opened (front ++ (ms ++ behind)))) (append-nil was)
    ∙ over_tree at front behind opened flow first marks next more byte e (n ∙ ap (λ (ms : List Bool). ms ++ more) (append-nil ours))
    ∙ ap (λ (ms : List Bool). a_walk (flow_of tree flow first marks next) opened (front ++ (ms ++ behind))) (sym (append-nil now))
    ∙ ap (λ (f : Flow). a_walk f opened (front ++ ((now ++ []) ++ behind))) (sym (merged_none (flow_of tree flow first marks next)))

-- a tree that is no choice
plain_over : (tree : Tree) → ((at : ℕ) → steps_of true at tree ≡ branch true (steps_of false at tree)) → Over tree → Over tree × OverLast tree
plain_over tree same h = (
  h,
  λ at front behind left opened flow first marks next more byte e n.
      ap (λ (steps : List Step). walked steps byte (a_walk flow (record { entered = flow; left = left } ∷ opened) (front ++ (slots tree first marks ++ behind)))) (same at)
      ∙ branch_last (steps_of false at tree) byte flow (flow_of tree flow first marks next) left opened (front ++ (slots tree first marks ++ behind)) (front ++ (slots tree false next ++ behind))
      (λ others. h at front behind others flow first marks next more byte e n),
)

pub over : (tree : Tree) → is_sound tree ≡ true → Over tree × OverLast tree
over empty s = plain_over empty (λ at. refl) (λ at front behind opened flow first marks next more byte e n. refl)
over never s = (
  λ at front behind opened flow first marks next more byte e n. refl,
  λ at front behind left opened flow first marks next more byte e n. ap (λ (f : Flow). a_walk f opened (front ++ behind)) (sym (merged_none left)),
)
over start s = plain_over start (λ at. refl) start_over
over end s = plain_over end (λ at. refl) end_over
over (one test) s = plain_over (one test) (λ at. refl) (one_over test)
over (sequence left right) s =
    let both = and_parts (is_sound left) (is_sound right) s in
    plain_over (sequence left right) (λ at. refl) (sequence_over left right (over left both.0).0 (over right both.1).0)
over (choice left right) s =
    let both = and_parts (is_sound left) (is_sound right) s in (
      by_never (is_never right) refl (over left both.0).0 (over right both.1).1,
      choice_last left right (over left both.0).0 (over right both.1).1,
    )
  where
    by_never : (b : Bool) → is_never right ≡ b → Over left → OverLast right → Over (choice left right)
    by_never true h l r = subst (λ (t : Tree). Over (choice left t)) (sym (never_is right h)) (only_over left l)
    by_never false h l r = λ at front behind opened flow first marks next more byte e n.
        ap (λ (b : Bool). walked (choice_steps false b (steps_of false at left) (steps_of true (at + length (no_marks left)) right)) byte
        (a_walk flow opened (front ++ (slots (choice left right) first marks ++ behind)))) h
        ∙ choice_last left right l r at front behind no_flow opened flow first marks next more byte e n
over (repeat ZeroOrOne tree) s = plain_over (repeat ZeroOrOne tree) (λ at. refl)
    (λ at front behind opened flow first marks next more byte e n.
    maybe_over (steps_of false at tree) byte flow (flow_of tree flow first marks next) opened (front ++ (slots tree first marks ++ behind)) (front ++ (slots tree false next ++ behind))
    (λ others. (over tree s).0 at front behind others flow first marks next more byte e n))
over (repeat ZeroOrMore tree) s =
    let both = and_parts (not (can_be_empty tree)) (is_sound tree) s in
    plain_over (repeat ZeroOrMore tree) (λ at. refl)
    (λ at front behind opened flow first marks next more byte e n.
    maybe_over (rounds_of at (steps_of false (at + 1) tree)) byte flow (flow_of (repeat OneOrMore tree) flow first marks next) opened
    (front ++ (slots (repeat OneOrMore tree) first marks ++ behind)) (front ++ (slots (repeat OneOrMore tree) false next ++ behind))
    (λ others. rounds_over tree (over tree both.1).0 both.1 (not-true (can_be_empty tree) both.0) at front behind others flow first marks next more byte e n))
over (repeat OneOrMore tree) s =
    let both = and_parts (not (can_be_empty tree)) (is_sound tree) s in
    plain_over (repeat OneOrMore tree) (λ at. refl) (rounds_over tree (over tree both.1).0 both.1 (not-true (can_be_empty tree) both.0))
