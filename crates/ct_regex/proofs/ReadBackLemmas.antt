-- A text that the grammar writes is read as its tree, unless it is too large.
use Rattle.std.proofs.Common.{◌≡◌, ◌≤◌, ◌⊎◌, ◌&&◌, ◌==◌, ℕ, ◌+◌, Bool, true, false, not, List, [], ◌∷◌, ◌++◌, length, cond, inl, inr, refl, sym, ◌∙◌, ap, subst, append-nil, append_assoc, nat_lt, Result, Ok, Err, arith}
use Rattle.std.proofs.lemmas.Bool.{le-ltb}
use Rattle.std.proofs.Math.Bool.{and-false}
use Rattle.std.proofs.lemmas.Bool.Decides.{nat_tests}
use Rattle.ct_regex.specs.Limits.{most_pattern_bytes, most_open_groups}
use Rattle.ct_regex.specs.declared.tree.Span.{Span}
use Rattle.ct_regex.specs.declared.tree.Quantifier.{Quantifier}
use Rattle.ct_regex.specs.declared.tree.Quantifier.TheVariants.{ZeroOrOne, ZeroOrMore, OneOrMore}
use Rattle.ct_regex.specs.declared.fault.RegexFault.{RegexFault}
use Rattle.ct_regex.specs.declared.fault.RegexFault.TheVariants.{OpenGroup, StrayClose, OpenSet, BadRange, NothingToRepeat, EmptyRepeat, NestedRepeat, EndsInBackslash, TooLarge, NoMemory}
use Rattle.ct_regex.specs.Tree.{Tree, one, repeat, sequence_of, branch_of}
use Rattle.ct_regex.specs.Signs.{Sign, atom, opens, closes, bar, often, fault, signs, set_signs, begins_negated, is_range, second, item_high, is_none, set_of}
use Rattle.ct_regex.specs.Reading.{quantified, Group, Groups, opened_at, all_parts, with_atom, with_branch, closed, with_sign, at_end, and_then, read, reading}
use Rattle.ct_regex.specs.Grammar as grammar
use Rattle.ct_regex.specs.Grammar.{IsItems, IsOne, IsPattern, IsBranches, IsBranch, IsPart, IsAtom, byte_of}
use Rattle.ct_regex.proofs.EmptyLemmas.{may_as}
use Rattle.ct_regex.proofs.SoundLemmas.{atom_sound}
use Rattle.ct_regex.proofs.SignsLemmas.{set_item, is_none-push}
use Rattle.ct_regex.specs.Laws.{HitsAlike}
use Rattle.ct_regex.specs.Gives.{Gives, IsReadAs}
use Rattle.ct_regex.proofs.LawLemmas.{plain_is, bracketed_hits}
use Rattle.ct_regex.proofs.WrittenLemmas.{reading_written}

-- whatever follows, the text of the items of a set begins with `^` only if it does so alone
items_negated : {first : Bool} {text : List ℕ} {items : List Span} → IsItems first text items → (back : List ℕ) → begins_negated (text ++ back) ≡ begins_negated text
items_negated grammar.closes back = refl
items_negated (grammar.range low high c o l i) back = refl
items_negated (grammar.byte low c r i) back = refl

items_range : {text : List ℕ} {items : List Span} → IsItems false text items → (back : List ℕ) → is_range text ≡ false → is_range (text ++ back) ≡ false
items_range grammar.closes [] h = refl
items_range grammar.closes (x ∷ back) h = refl
items_range (grammar.range low high c o l i) back h = h
items_range (grammar.byte low c r grammar.closes) back h = h
items_range (grammar.byte low c r (grammar.range a b d e f g)) back h = h
items_range (grammar.byte low c r (grammar.byte a d e f)) back h = h

pub unclosed : (first : Bool) (low : ℕ) (items : List Span) → is_none items ≡ first → (first ≡ true) ⊎ ((low == 93) ≡ false) → ((low == 93) && not (is_none items)) ≡ false
unclosed first low items e (inl h) = rw (e, h) (and-false (low == 93))
unclosed first low items e (inr h) = rw h refl

not_below_self : (low : ℕ) → nat_lt low low ≡ false
not_below_self low = grind (arith, nat_tests)

-- a range of a set is read
pub range_item : (first : Bool) (low high : ℕ) (rest : List ℕ) → (first ≡ true) ⊎ ((low == 93) ≡ false) → (high == 93) ≡ false → low ≤ high → (opened : ℕ) (negated : Bool) (at : ℕ) (items : List Span) → is_none items ≡ first →
    set_signs opened negated 0 at items (low ∷ 45 ∷ high ∷ rest) ≡ set_signs opened negated 0 (at + 1 + 1 + 1) (items ++ record { low = low; high = high } ∷ []) rest
range_item first low high rest c other le opened negated at items e =
    let range : is_range (45 ∷ high ∷ rest) ≡ true = ap (λ (b : Bool). (45 == 45) && not b) other in
    let top : item_high low (45 ∷ high ∷ rest) ≡ high = ap (λ (b : Bool). cond b high low) range in
    set_item opened negated at items low (45 ∷ high ∷ rest) (unclosed first low items e c) (ap (λ (h : ℕ). nat_lt h low) top ∙ le-ltb high low le)
    ∙ ap (λ (b : Bool). set_signs opened negated (cond b 2 0) (at + 1) (items ++ record { low = low; high = item_high low (45 ∷ high ∷ rest) } ∷ []) (45 ∷ high ∷ rest)) range
    ∙ ap (λ (h : ℕ). set_signs opened negated 0 (at + 1 + 1 + 1) (items ++ record { low = low; high = h } ∷ []) rest) top

-- a byte of a set is read
pub byte_item : (first : Bool) (low : ℕ) (rest : List ℕ) → (first ≡ true) ⊎ ((low == 93) ≡ false) → is_range rest ≡ false → (opened : ℕ) (negated : Bool) (at : ℕ) (items : List Span) → is_none items ≡ first →
    set_signs opened negated 0 at items (low ∷ rest) ≡ set_signs opened negated 0 (at + 1) (items ++ record { low = low; high = low } ∷ []) rest
byte_item first low rest c range opened negated at items e =
    let top : item_high low rest ≡ low = ap (λ (b : Bool). cond b (second rest) low) range in
    set_item opened negated at items low rest (unclosed first low items e c) (ap (λ (h : ℕ). nat_lt h low) top ∙ not_below_self low)
    ∙ ap (λ (b : Bool). set_signs opened negated (cond b 2 0) (at + 1) (items ++ record { low = low; high = item_high low rest } ∷ []) rest) range
    ∙ ap (λ (h : ℕ). set_signs opened negated 0 (at + 1) (items ++ record { low = low; high = h } ∷ []) rest) top

-- the items and the `]` of a set are read, and the signs of the text behind go on from `behind`
record SetGoes (opened : ℕ) (negated : Bool) (at : ℕ) (items more : List Span) (text back : List ℕ) : Type 0 where
  behind : ℕ
  reads : set_signs opened negated 0 at items (text ++ back) ≡ atom (one (set_of negated (items ++ more))) ∷ signs behind back
  size : behind ≡ at + length text

items_read : {first : Bool} {text : List ℕ} {more : List Span} → IsItems first text more → (opened : ℕ) (negated : Bool) (at : ℕ) (items : List Span) (back : List ℕ) → is_none items ≡ first →
    SetGoes opened negated at items more text back
items_read grammar.closes opened negated at items back e = record {
  behind = at + 1;
  reads = rw e (ap (λ (xs : List Span). atom (one (set_of negated xs)) ∷ signs (at + 1) back) (sym (append-nil items)));
  size = omega arith;
}
items_read {first} (grammar.range {text = text} {items = more} low high c other le i) opened negated at items back e =
    let item : Span = record { low = low; high = high } in
    let again = items_read i opened negated (at + 1 + 1 + 1) (items ++ item ∷ []) back (is_none-push items item) in
    record {
      behind = again.behind;
      reads = range_item first low high (text ++ back) c other le opened negated at items e
          ∙ again.reads
          ∙ ap (λ (xs : List Span). atom (one (set_of negated xs)) ∷ signs again.behind back) (append_assoc items (item ∷ []) more);
      size = omega (arith, again.size);
    }
items_read {first} (grammar.byte {text = text} {items = more} low c no_range i) opened negated at items back e =
    let item : Span = record { low = low; high = low } in
    let again = items_read i opened negated (at + 1) (items ++ item ∷ []) back (is_none-push items item) in
    record {
      behind = again.behind;
      reads = byte_item first low (text ++ back) c (items_range i back no_range) opened negated at items e
          ∙ again.reads
          ∙ ap (λ (xs : List Span). atom (one (set_of negated xs)) ∷ signs again.behind back) (append_assoc items (item ∷ []) more);
      size = omega (arith, again.size);
    }

pub one_read : {text : List ℕ} {tree : Tree} → IsOne text tree → (at : ℕ) (back : List ℕ) → (behind : ℕ) × (behind ≡ at + length text) × (signs at (text ++ back) ≡ atom tree ∷ signs behind back)
one_read grammar.at_start at back = (at + 1, refl, refl)
one_read grammar.at_end at back = (at + 1, refl, refl)
one_read grammar.any_byte at back = (at + 1, refl, refl)
one_read (grammar.plain byte h) at back = (at + 1, refl, plain_is at byte back h)
one_read (grammar.escaped byte) at back = (at + 2, refl, refl)
one_read (grammar.of_set {text = text} neg i) at back =
    let goes = items_read i at false (at + 1) [] back refl in
    let no : begins_negated (text ++ back) ≡ false = items_negated i back ∙ neg in
    (goes.behind, omega (arith, goes.size), ap (λ (b : Bool). set_signs at b (cond b 1 0) (at + 1) [] (text ++ back)) no ∙ goes.reads)
one_read (grammar.of_negated {text = text} i) at back =
    let goes = items_read i at true (at + 1 + 1) [] back refl in
    (goes.behind, omega (arith, goes.size), goes.reads)

-- the groups behind one more sign, or the fault, however many groups are open
abbrev take_sign : Groups → Sign → Result Groups RegexFault
take_sign groups (opens place) = Ok (record { inner = opened_at place; outer = groups.inner ∷ groups.outer })
take_sign groups sign = with_sign groups sign

-- the tree of the open groups and the signs that follow, or the first fault, however many groups are open
abbrev read_all : Groups → List Sign → Result Tree RegexFault
read_all groups [] = at_end groups.inner groups.outer
read_all groups (sign ∷ others) = and_then (take_sign groups sign) (λ next. read_all next others)

-- the reading of the signs is the same with the limit on open groups, or the limit is broken
abbrev IsLimited : Groups → List Sign → Type 0
IsLimited groups others = (read groups others ≡ read_all groups others) ⊎ ((place : ℕ) × (read groups others ≡ Err (TooLarge place)))

open_limited : (place : ℕ) (groups : Groups) (others : List Sign) → IsLimited (record { inner = opened_at place; outer = groups.inner ∷ groups.outer }) others → IsLimited groups (opens place ∷ others)
open_limited place groups others l = by_depth (nat_lt (length groups.outer) most_open_groups) refl
  where
    by_depth : (b : Bool) → nat_lt (length groups.outer) most_open_groups ≡ b → IsLimited groups (opens place ∷ others)
    by_depth true few = rw few l
    by_depth false deep = inr (place, rw deep refl)

step_limited : (step : Result Groups RegexFault) (others : List Sign) → ((next : Groups) → IsLimited next others) →
    (and_then step (λ (next : Groups). read next others) ≡ and_then step (λ (next : Groups). read_all next others)) ⊎ ((place : ℕ) × (and_then step (λ (next : Groups). read next others) ≡ Err (TooLarge place)))
step_limited (Ok next) others l = l next
step_limited (Err why) others l = inl refl

limited : (others : List Sign) (groups : Groups) → IsLimited groups others
limited [] groups = inl refl
limited (opens place ∷ others) groups = open_limited place groups others (limited others (record { inner = opened_at place; outer = groups.inner ∷ groups.outer }))
limited (atom tree ∷ others) groups = step_limited (with_sign groups (atom tree)) others (limited others)
limited (bar ∷ others) groups = step_limited (with_sign groups bar) others (limited others)
limited (closes place ∷ others) groups = step_limited (with_sign groups (closes place)) others (limited others)
limited (often quantifier place ∷ others) groups = step_limited (with_sign groups (often quantifier place)) others (limited others)
limited (fault why ∷ others) groups = inl refl

-- the reading goes on behind the text with an innermost group that meets P
abbrev pub GoesOn : Group → List Group → ℕ → List ℕ → List ℕ → (Group → Type 0) → Type 0
GoesOn inner outer at text back P =
    (behind : ℕ) × (next : Group) × (read_all (record { inner = inner; outer = outer }) (signs at (text ++ back)) ≡ read_all (record { inner = next; outer = outer }) (signs behind back)) × P next

-- the group has these parts in addition to its others
abbrev pub AddsParts : Group → List Tree → Group → Type 0
AddsParts group trees next = (next.branches ≡ group.branches) × (all_parts next ≡ all_parts group ++ trees)

goes_along : (P Q : Group → Type 0) (inner : Group) (outer : List Group) (at : ℕ) (front text back : List ℕ) → GoesOn inner outer at front (text ++ back) P →
    ((next : Group) (behind : ℕ) → P next → GoesOn next outer behind text back Q) → GoesOn inner outer at (front ++ text) back Q
goes_along P Q inner outer at front text back g f =
    let h = f g.1 g.0 g.3 in
    (h.0, h.1, ap (λ xs. read_all (record { inner = inner; outer = outer }) (signs at xs)) (append_assoc front text back) ∙ g.2 ∙ h.2, h.3)

abbrev pub IsWithAtom : Tree → Group → Group → Type 0
IsWithAtom tree inner next = next ≡ with_atom tree inner

pub often_sign : (quantifier : Quantifier) (at : ℕ) (back : List ℕ) → signs at (byte_of quantifier ∷ back) ≡ often quantifier at ∷ signs (at + 1) back
often_sign ZeroOrOne at back = refl
often_sign ZeroOrMore at back = refl
often_sign OneOrMore at back = refl

-- a group around what was read
group_read : (inner : Group) (outer : List Group) (at : ℕ) (text back : List ℕ) (tree : Tree) →
    GoesOn (opened_at at) (inner ∷ outer) (at + 1) text (41 ∷ back) (λ next. closed next ≡ tree) →
    GoesOn inner outer at (40 ∷ text ++ 41 ∷ []) back (IsWithAtom tree inner)
group_read inner outer at text back tree goes = (
  goes.0 + 1,
  with_atom (closed goes.1) inner,
  ap (λ xs. read_all (record { inner = opened_at at; outer = inner ∷ outer }) (signs (at + 1) xs)) (append_assoc text (41 ∷ []) back) ∙ goes.2,
  ap (λ t. with_atom t inner) goes.3,
)

mutual
  pattern_read : {text : List ℕ} {tree : Tree} → IsPattern text tree → (place : ℕ) (outer : List Group) (at : ℕ) (back : List ℕ) →
      GoesOn (opened_at place) outer at text back (λ next. closed next ≡ tree)
  pattern_read (grammar.pattern {front = front} {text = text} {trees = trees} {parts = parts} bs b) place outer at back =
      goes_along (λ next. (next.branches ≡ trees) × (all_parts next ≡ [])) (λ next. closed next ≡ branch_of (trees ++ sequence_of parts ∷ [])) (opened_at place) outer at front text back
      (branches_read bs place outer at (text ++ back))
      (λ mid behind m.
      let g = branch_read b mid outer behind back in (
        g.0,
        g.1,
        g.2,
        ap (λ ts. branch_of (ts ++ sequence_of (all_parts g.1) ∷ [])) (g.3.0 ∙ m.0)
            ∙ ap (λ ts. branch_of (trees ++ sequence_of ts ∷ [])) (g.3.1 ∙ ap (λ ts. ts ++ parts) m.1),
      ))

  branches_read : {text : List ℕ} {trees : List Tree} → IsBranches text trees → (place : ℕ) (outer : List Group) (at : ℕ) (back : List ℕ) →
      GoesOn (opened_at place) outer at text back (λ next. (next.branches ≡ trees) × (all_parts next ≡ []))
  branches_read grammar.no_branch place outer at back = (at, opened_at place, refl, (refl, refl))
  branches_read (grammar.and_branch {front = front} {text = text} {trees = trees} {parts = parts} bs b) place outer at back =
      goes_along (λ next. (next.branches ≡ trees) × (all_parts next ≡ [])) (λ next. (next.branches ≡ trees ++ sequence_of parts ∷ []) × (all_parts next ≡ []))
      (opened_at place) outer at front (text ++ 124 ∷ []) back
      (branches_read bs place outer at ((text ++ 124 ∷ []) ++ back))
      (λ mid behind m. goes_along (AddsParts mid parts) (λ next. (next.branches ≡ trees ++ sequence_of parts ∷ []) × (all_parts next ≡ [])) mid outer behind text (124 ∷ []) back
      (branch_read b mid outer behind (124 ∷ back))
      (λ last then_at l. (
        then_at + 1,
        with_branch last,
        refl,
        (
          ap (λ ts. ts ++ sequence_of (all_parts last) ∷ []) (l.0 ∙ m.0)
              ∙ ap (λ ts. trees ++ sequence_of ts ∷ []) (l.1 ∙ ap (λ ts. ts ++ parts) m.1),
          refl,
        ),
      )))

  branch_read : {text : List ℕ} {trees : List Tree} → IsBranch text trees → (inner : Group) (outer : List Group) (at : ℕ) (back : List ℕ) →
      GoesOn inner outer at text back (AddsParts inner trees)
  branch_read grammar.no_part inner outer at back = (at, inner, refl, (refl, sym (append-nil (all_parts inner))))
  branch_read (grammar.and_part {front = front} {text = text} {trees = trees} {tree = tree} b p) inner outer at back =
      goes_along (AddsParts inner trees) (AddsParts inner (trees ++ tree ∷ [])) inner outer at front text back
      (branch_read b inner outer at (text ++ back))
      (λ mid behind m.
      let g = part_read p mid outer behind back in
      (g.0, g.1, g.2, (g.3.0 ∙ m.0, g.3.1 ∙ ap (λ ts. ts ++ tree ∷ []) m.1 ∙ append_assoc (all_parts inner) trees (tree ∷ []))))

  part_read : {text : List ℕ} {tree : Tree} → IsPart text tree → (inner : Group) (outer : List Group) (at : ℕ) (back : List ℕ) →
      GoesOn inner outer at text back (AddsParts inner (tree ∷ []))
  part_read (grammar.bare {tree = tree} a) inner outer at back =
      let g = atom_read a inner outer at back in (g.0, g.1, g.2, (ap (λ (n : Group). n.branches) g.3, ap all_parts g.3))
  part_read (grammar.often {text = text} {tree = tree} quantifier a may) inner outer at back =
      goes_along (IsWithAtom tree inner) (AddsParts inner (repeat quantifier tree ∷ [])) inner outer at text (byte_of quantifier ∷ []) back
      (atom_read a inner outer at (byte_of quantifier ∷ back))
      (λ mid behind m. (
        behind + 1,
        record { place = inner.place; branches = inner.branches; parts = all_parts inner; last = quantified (repeat quantifier tree) },
        ap (λ (n : Group). read_all (record { inner = n; outer = outer }) (signs behind (byte_of quantifier ∷ back))) m
            ∙ ap (read_all (record { inner = with_atom tree inner; outer = outer })) (often_sign quantifier behind back)
            ∙ rw (sym (may_as quantifier tree (atom_sound a)) ∙ may) refl,
        (refl, refl),
      ))

  atom_read : {text : List ℕ} {tree : Tree} → IsAtom text tree → (inner : Group) (outer : List Group) (at : ℕ) (back : List ℕ) →
      GoesOn inner outer at text back (IsWithAtom tree inner)
  atom_read (grammar.alone {tree = tree} o) inner outer at back =
      let found = one_read o at back in
      (found.0, with_atom tree inner, ap (read_all (record { inner = inner; outer = outer })) found.2, refl)
  atom_read (grammar.group {text = text} {tree = tree} p) inner outer at back =
      group_read inner outer at text back tree (pattern_read p at (inner ∷ outer) (at + 1) (41 ∷ back))

-- without limits, a text that is written as a tree is read as that tree
all_read : (text : List ℕ) (tree : Tree) → IsPattern text tree → read_all (record { inner = opened_at 0; outer = [] }) (signs 0 text) ≡ Ok tree
all_read text tree p =
    let g = pattern_read p 0 [] 0 [] in
    ap (λ xs. read_all (record { inner = opened_at 0; outer = [] }) (signs 0 xs)) (sym (append-nil text)) ∙ g.2 ∙ ap (λ (t : Tree). Ok t) g.3

-- a text is written as one tree at most
pub one_tree : (text : List ℕ) (tree other : Tree) → IsPattern text tree → IsPattern text other → tree ≡ other
one_tree text tree other p q = let same : ◌≡◌ {A = Result Tree RegexFault} (Ok tree) (Ok other) = sym (all_read text tree p) ∙ all_read text other q in cc

-- a text that is written as a tree is read as that tree, or is too large
pub written_read : (text : List ℕ) (tree : Tree) → IsPattern text tree → (reading text ≡ Ok tree) ⊎ ((place : ℕ) × (reading text ≡ Err (TooLarge place)))
written_read text tree p = by_len (nat_lt most_pattern_bytes (length text)) refl
  where
    by_limit : nat_lt most_pattern_bytes (length text) ≡ false → IsLimited (record { inner = opened_at 0; outer = [] }) (signs 0 text) →
        (reading text ≡ Ok tree) ⊎ ((place : ℕ) × (reading text ≡ Err (TooLarge place)))
    by_limit h (inl l) = inl (rw h (l ∙ all_read text tree p))
    by_limit h (inr l) = inr (l.0, rw h l.1)

    by_len : (b : Bool) → nat_lt most_pattern_bytes (length text) ≡ b → (reading text ≡ Ok tree) ⊎ ((place : ℕ) × (reading text ≡ Err (TooLarge place)))
    by_len true many = inr (most_pattern_bytes, rw many refl)
    by_len false few = by_limit few (limited (signs 0 text) (record { inner = opened_at 0; outer = [] }))

-- a call that returns the reading of a written text returns that tree, unless it is too large
pub read_as : {X : Type 0} (view : X → Tree) (text : List ℕ) (tree : Tree) (answer : Result X RegexFault) → Gives view answer (reading text) → IsPattern text tree → IsReadAs view tree answer
read_as {X = X} view text tree answer g p = by_cases answer g (written_read text tree p)
  where
    differ : (why : RegexFault) → reading text ≡ Err why → ((place : ℕ) → ◌≡◌ {A = RegexFault} why (TooLarge place) → ⊥) →
        (reading text ≡ Ok tree) ⊎ ((place : ℕ) × (reading text ≡ Err (TooLarge place))) → ⊥
    differ why e other (inl r) = let same : ◌≡◌ {A = Result Tree RegexFault} (Err why) (Ok tree) = sym e ∙ r in cc
    differ why e other (inr r) = let same : ◌≡◌ {A = Result Tree RegexFault} (Err why) (Err (TooLarge r.0)) = sym e ∙ r.1 in other r.0 (cc)

    by_cases : (answer : Result X RegexFault) → Gives view answer (reading text) → (reading text ≡ Ok tree) ⊎ ((place : ℕ) × (reading text ≡ Err (TooLarge place))) → IsReadAs view tree answer
    by_cases (Ok x) g (inl r) = let same : ◌≡◌ {A = Result Tree RegexFault} (Ok (view x)) (Ok tree) = sym g ∙ r in cc
    by_cases (Ok x) g (inr r) = absurd (let same : ◌≡◌ {A = Result Tree RegexFault} (Ok (view x)) (Err (TooLarge r.0)) = sym g ∙ r.1 in cc)
    by_cases (Err (TooLarge place)) g r = tt
    by_cases (Err NoMemory) g r = tt
    by_cases (Err (OpenGroup place)) g r = differ (OpenGroup place) g (λ other e. cc) r
    by_cases (Err (StrayClose place)) g r = differ (StrayClose place) g (λ other e. cc) r
    by_cases (Err (OpenSet place)) g r = differ (OpenSet place) g (λ other e. cc) r
    by_cases (Err (BadRange place)) g r = differ (BadRange place) g (λ other e. cc) r
    by_cases (Err (NothingToRepeat place)) g r = differ (NothingToRepeat place) g (λ other e. cc) r
    by_cases (Err (EmptyRepeat place)) g r = differ (EmptyRepeat place) g (λ other e. cc) r
    by_cases (Err (NestedRepeat place)) g r = differ (NestedRepeat place) g (λ other e. cc) r
    by_cases (Err (EndsInBackslash place)) g r = differ (EndsInBackslash place) g (λ other e. cc) r

-- a whole pattern between brackets hits the same texts
pub brackets_alike : (pattern text : List ℕ) (tree : Tree) → reading pattern ≡ Ok tree → HitsAlike tree text (reading (40 ∷ pattern ++ 41 ∷ []))
brackets_alike pattern text tree h = by_reading (written_read (40 ∷ pattern ++ 41 ∷ []) (branch_of (sequence_of (tree ∷ []) ∷ [])) bracketed)
  where
    bracketed : IsPattern (40 ∷ pattern ++ 41 ∷ []) (branch_of (sequence_of (tree ∷ []) ∷ []))
    bracketed = grammar.pattern grammar.no_branch (grammar.and_part grammar.no_part (grammar.bare (grammar.group (reading_written pattern tree h))))

    by_reading : (reading (40 ∷ pattern ++ 41 ∷ []) ≡ Ok (branch_of (sequence_of (tree ∷ []) ∷ []))) ⊎ ((place : ℕ) × (reading (40 ∷ pattern ++ 41 ∷ []) ≡ Err (TooLarge place))) →
        HitsAlike tree text (reading (40 ∷ pattern ++ 41 ∷ []))
    by_reading (inl r) = subst (λ (answer : Result Tree RegexFault). HitsAlike tree text answer) (sym r) (bracketed_hits tree text)
    by_reading (inr r) = subst (λ (answer : Result Tree RegexFault). HitsAlike tree text answer) (sym r.1) tt
