-- The beginning of a pattern, in step with the groups that the reader has open behind it.
use Rattle.std.proofs.Common.{◌≡◌, ◌<◌, ℕ, true, List, [], ◌∷◌, ◌++◌, length, refl, sym, ◌∙◌, ap, subst, append_assoc, arith}
use Rattle.ct_regex.specs.Limits.{most_open_groups}
use Rattle.ct_regex.specs.declared.tree.Quantifier.{Quantifier}
use Rattle.ct_regex.specs.Tree.{Tree, repeat}
use Rattle.ct_regex.specs.Reading.{Last, no_part, bare, quantified, Group, opened_at, with_atom, with_branch, closed, may_repeat}
use Rattle.ct_regex.specs.Grammar as grammar
use Rattle.ct_regex.specs.Grammar.{IsAtom, IsOne, IsPattern, byte_of, may_stand_behind}
use Rattle.ct_regex.specs.Faulty as faulty
use Rattle.ct_regex.specs.Faulty.{PartEnd, IsBegun}
use Rattle.ct_regex.proofs.EmptyLemmas.{may_as}
use Rattle.ct_regex.proofs.SoundLemmas.{atom_sound}
use Rattle.ct_regex.proofs.WrittenLemmas.{IsLast, HasRead, opened_read, atom_read, bar_read, often_read, closed_read}

-- what a last part is, as the end of a beginning
abbrev pub end_of : Last → PartEnd
end_of no_part = faulty.nothing
end_of (bare tree) = faulty.alone tree
end_of (quantified tree) = faulty.repeated

-- the places of the open groups, the last one first
abbrev pub places_of : Group → List Group → List ℕ
places_of inner [] = []
places_of inner (around ∷ outer) = inner.place ∷ places_of around outer

pub places_len : (inner : Group) (outer : List Group) → length (places_of inner outer) ≡ length outer
places_len inner [] = refl
places_len inner (around ∷ outer) = let more : length (places_of around outer) ≡ length outer = places_len around outer in omega arith

pub places_as : (outer : List Group) (inner next : Group) → next.place ≡ inner.place → places_of next outer ≡ places_of inner outer
places_as [] inner next e = refl
places_as (around ∷ outer) inner next e = ap (λ (p : ℕ). p ∷ places_of around outer) e

-- the text is the beginning of a pattern with these open groups
abbrev pub HasBegun : List ℕ → Group → List Group → Type 0
HasBegun text inner [] = HasRead text inner × IsBegun text [] (end_of inner.last)
HasBegun text inner (around ∷ outer) =
    (before : List ℕ) × (within : List ℕ) × (text ≡ before ++ 40 ∷ within) × (inner.place ≡ length before) × HasBegun before around outer × HasRead within inner × IsBegun text (inner.place ∷ places_of around outer) (end_of inner.last)

pub begun_of : (outer : List Group) (text : List ℕ) (inner : Group) → HasBegun text inner outer → IsBegun text (places_of inner outer) (end_of inner.last)
begun_of [] text inner h = h.1
begun_of (around ∷ outer) text inner h = h.6

-- the text of the innermost group
inner_of : (outer : List Group) (text : List ℕ) (inner : Group) → HasBegun text inner outer → (within : List ℕ) × HasRead within inner
inner_of [] text inner h = (text, h.0)
inner_of (around ∷ outer) text inner h = (h.1, h.5)

-- more text in the innermost group
inner_begun : (outer : List Group) (text more : List ℕ) (inner next : Group) → ((t : List ℕ) → HasRead t inner → HasRead (t ++ more) next) → next.place ≡ inner.place →
    HasBegun text inner outer → IsBegun (text ++ more) (places_of inner outer) (end_of next.last) → HasBegun (text ++ more) next outer
inner_begun [] text more inner next f same h b = (f text h.0, b)
inner_begun (around ∷ outer) text more inner next f same h b = (
  h.0,
  h.1 ++ more,
  ap (λ xs. xs ++ more) h.2 ∙ append_assoc h.0 (40 ∷ h.1) more,
  same ∙ h.3,
  h.4,
  f h.1 h.5,
  subst (λ (p : ℕ). IsBegun (text ++ more) (p ∷ places_of around outer) (end_of next.last)) (sym same) b,
)

pub one_begun : (outer : List Group) (text more : List ℕ) (inner : Group) (part : Tree) → IsOne more part → HasBegun text inner outer → HasBegun (text ++ more) (with_atom part inner) outer
one_begun outer text more inner part o h =
    inner_begun outer text more inner (with_atom part inner) (λ t r. atom_read t more inner part (grammar.alone o) r) refl h
    (faulty.and_one (begun_of outer text inner h) o)

pub bar_begun : (outer : List Group) (text : List ℕ) (inner : Group) → HasBegun text inner outer → HasBegun (text ++ 124 ∷ []) (with_branch inner) outer
bar_begun outer text inner h =
    inner_begun outer text (124 ∷ []) inner (with_branch inner) (λ t r. bar_read t inner r) refl h (faulty.and_bar (begun_of outer text inner h))

pub open_begun : (outer : List Group) (text : List ℕ) (inner : Group) (at : ℕ) → at ≡ length text → length outer < most_open_groups → HasBegun text inner outer → HasBegun (text ++ 40 ∷ []) (opened_at at) (inner ∷ outer)
open_begun outer text inner at e few h =
    let room : length (places_of inner outer) < most_open_groups = omega (arith, few, places_len inner outer) in (
      text,
      [],
      refl,
      e,
      h,
      opened_read at,
      subst (λ (p : ℕ). IsBegun (text ++ 40 ∷ []) (p ∷ places_of inner outer) faulty.nothing) (sym e) (faulty.and_open (begun_of outer text inner h) room),
    )

pub close_begun : (outer : List Group) (text : List ℕ) (inner around : Group) → HasBegun text inner (around ∷ outer) → HasBegun (text ++ 41 ∷ []) (with_atom (closed inner) around) outer
close_begun outer text inner around h =
    subst (λ (xs : List ℕ). HasBegun xs (with_atom (closed inner) around) outer) split
    (inner_begun outer h.0 (40 ∷ h.1 ++ 41 ∷ []) around (with_atom (closed inner) around) (λ t r. atom_read t (40 ∷ h.1 ++ 41 ∷ []) around (closed inner) (grammar.group written) r) refl h.4 begun)
  where
    regroup : h.0 ++ (40 ∷ h.1 ++ 41 ∷ []) ≡ (h.0 ++ 40 ∷ h.1) ++ 41 ∷ []
    regroup = sym (append_assoc h.0 (40 ∷ h.1) (41 ∷ []))

    split : h.0 ++ (40 ∷ h.1 ++ 41 ∷ []) ≡ text ++ 41 ∷ []
    split = regroup ∙ sym (ap (λ xs. xs ++ 41 ∷ []) h.2)

    written : IsPattern h.1 (closed inner)
    written = closed_read h.1 inner h.5

    within : IsBegun (h.0 ++ 40 ∷ h.1) (length h.0 ∷ places_of around outer) (end_of inner.last)
    within = subst (λ (p : ℕ). IsBegun (h.0 ++ 40 ∷ h.1) (p ∷ places_of around outer) (end_of inner.last)) h.3
        (subst (λ (xs : List ℕ). IsBegun xs (inner.place ∷ places_of around outer) (end_of inner.last)) h.2 h.6)

    begun : IsBegun (h.0 ++ (40 ∷ h.1 ++ 41 ∷ [])) (places_of around outer) (faulty.alone (closed inner))
    begun = subst (λ (xs : List ℕ). IsBegun xs (places_of around outer) (faulty.alone (closed inner))) (sym regroup) (faulty.and_close h.0 within written)

-- the rule of the grammar for a quantifier is that of the reader, behind the last part of a group
pub may_behind : (outer : List Group) (text : List ℕ) (inner : Group) (quantifier : Quantifier) (part : Tree) → inner.last ≡ bare part → HasBegun text inner outer → may_stand_behind quantifier part ≡ may_repeat quantifier part
may_behind outer text inner quantifier part l h = let r = (inner_of outer text inner h).1 in
    let a : IsAtom r.tail part = subst (λ (x : Last). IsLast r.tail x) l r.last in
    may_as quantifier part (atom_sound a)

-- the group whose last part is repeated
abbrev pub with_often : Quantifier → Tree → Group → Group
with_often quantifier part group = record { place = group.place; branches = group.branches; parts = group.parts; last = quantified (repeat quantifier part) }

pub often_begun : (outer : List Group) (text : List ℕ) (inner : Group) (quantifier : Quantifier) (part : Tree) → inner.last ≡ bare part → may_repeat quantifier part ≡ true → HasBegun text inner outer →
    HasBegun (text ++ byte_of quantifier ∷ []) (with_often quantifier part inner) outer
often_begun outer text inner quantifier part l may h =
    let begun : IsBegun text (places_of inner outer) (faulty.alone part) = subst (λ (x : Last). IsBegun text (places_of inner outer) (end_of x)) l (begun_of outer text inner h) in
    inner_begun outer text (byte_of quantifier ∷ []) inner (with_often quantifier part inner) (λ t r. often_read t inner quantifier part l may r) refl h
    (faulty.and_often quantifier begun (may_behind outer text inner quantifier part l h ∙ may))
