-- What the reader reads is what the grammar writes: groups, branches and parts.
use Rattle.std.proofs.Common.{◌≡◌, ◌≤◌, ℕ, zero, suc, Bool, true, false, List, [], ◌∷◌, ◌++◌, length, ⊎_elim, refl, sym, ◌∙◌, ap, subst, append-nil, append_assoc, nat_lt, Result, Ok, Err, arith}
use Rattle.std.proofs.lemmas.List.{length-append}
use Rattle.ct_regex.specs.Limits.{most_pattern_bytes, most_open_groups}
use Rattle.ct_regex.specs.declared.tree.Quantifier.{Quantifier}
use Rattle.ct_regex.specs.declared.fault.RegexFault.{RegexFault}
use Rattle.ct_regex.specs.Tree.{Tree, repeat}
use Rattle.ct_regex.specs.Signs.{Sign, signs}
use Rattle.ct_regex.specs.Reading.{Last, no_part, bare, quantified, Group, Groups, opened_at, last_parts, all_parts, with_atom, with_branch, closed, may_repeat, with_quantifier, with_group, with_close, with_sign, at_end, and_then, map_ok, read, reading}
use Rattle.ct_regex.specs.Grammar as grammar
use Rattle.ct_regex.specs.Grammar.{IsPattern, IsBranches, IsBranch, IsPart, IsAtom, byte_of}
use Rattle.ct_regex.proofs.EmptyLemmas.{may_as}
use Rattle.ct_regex.proofs.SoundLemmas.{atom_sound}
use Rattle.ct_regex.proofs.GrammarLemmas.{IsSign, of_one, of_open, of_close, of_bar, of_often, SignRead, SignFault, sign_view, sign_len}

-- the text is written as the last part of a branch
abbrev pub IsLast : List ℕ → Last → Type 0
IsLast text no_part = text ≡ []
IsLast text (bare tree) = IsAtom text tree
IsLast text (quantified tree) = IsPart text tree

-- the text is written as the part of a group that is read so far
pub record HasRead (text : List ℕ) (group : Group) : Type 0 where
  pub front : List ℕ
  pub mid : List ℕ
  pub tail : List ℕ
  pub branches : IsBranches front group.branches
  pub parts : IsBranch mid group.parts
  pub last : IsLast tail group.last
  pub split : text ≡ front ++ (mid ++ tail)

parts_written : (last : Last) (mid tail : List ℕ) (parts : List Tree) → IsBranch mid parts → IsLast tail last → IsBranch (mid ++ tail) (parts ++ last_parts last)
parts_written no_part mid tail parts p l =
    subst (λ (ts : List Tree). IsBranch (mid ++ tail) ts) (sym (append-nil parts))
    (subst (λ (xs : List ℕ). IsBranch xs parts) (sym (ap (λ xs. mid ++ xs) l ∙ append-nil mid)) p)
parts_written (bare tree) mid tail parts p l = grammar.and_part p (grammar.bare l)
parts_written (quantified tree) mid tail parts p l = grammar.and_part p l

all_written : {text : List ℕ} {group : Group} (r : HasRead text group) → IsBranch (r.mid ++ r.tail) (all_parts group)
all_written {text} {group} r = parts_written group.last r.mid r.tail group.parts r.parts r.last

pub opened_read : (place : ℕ) → HasRead [] (opened_at place)
opened_read place = record { front = []; mid = []; tail = []; branches = grammar.no_branch; parts = grammar.no_part; last = refl; split = refl }

pub atom_read : (text more : List ℕ) (group : Group) (tree : Tree) → IsAtom more tree → HasRead text group → HasRead (text ++ more) (with_atom tree group)
atom_read text more group tree a r = record {
  front = r.front;
  mid = r.mid ++ r.tail;
  tail = more;
  branches = r.branches;
  parts = all_written r;
  last = a;
  split = ap (λ xs. xs ++ more) r.split ∙ append_assoc r.front (r.mid ++ r.tail) more;
}

pub bar_read : (text : List ℕ) (group : Group) → HasRead text group → HasRead (text ++ 124 ∷ []) (with_branch group)
bar_read text group r = record {
  front = r.front ++ ((r.mid ++ r.tail) ++ 124 ∷ []);
  mid = [];
  tail = [];
  branches = grammar.and_branch r.branches (all_written r);
  parts = grammar.no_part;
  last = refl;
  split = ap (λ xs. xs ++ 124 ∷ []) r.split ∙ append_assoc r.front (r.mid ++ r.tail) (124 ∷ []) ∙ sym (append-nil (r.front ++ ((r.mid ++ r.tail) ++ 124 ∷ [])));
}

pub often_read : (text : List ℕ) (group : Group) (quantifier : Quantifier) (tree : Tree) → group.last ≡ bare tree → may_repeat quantifier tree ≡ true → HasRead text group →
    HasRead (text ++ byte_of quantifier ∷ []) (record { place = group.place; branches = group.branches; parts = group.parts; last = quantified (repeat quantifier tree) })
often_read text group quantifier tree e may r = let a : IsAtom r.tail tree = subst (λ (l : Last). IsLast r.tail l) e r.last in record {
  front = r.front;
  mid = r.mid;
  tail = r.tail ++ byte_of quantifier ∷ [];
  branches = r.branches;
  parts = r.parts;
  last = grammar.often quantifier a (may_as quantifier tree (atom_sound a) ∙ may);
  split = ap (λ xs. xs ++ byte_of quantifier ∷ []) r.split ∙ append_assoc r.front (r.mid ++ r.tail) (byte_of quantifier ∷ [])
      ∙ ap (λ xs. r.front ++ xs) (append_assoc r.mid r.tail (byte_of quantifier ∷ []));
}

pub closed_read : (text : List ℕ) (group : Group) → HasRead text group → IsPattern text (closed group)
closed_read text group r = subst (λ (xs : List ℕ). IsPattern xs (closed group)) (sym r.split) (grammar.pattern r.branches (all_written r))

-- the text is written as the parts of all open groups that are read so far
abbrev pub HaveRead : List ℕ → Group → List Group → Type 0
HaveRead text inner [] = HasRead text inner
HaveRead text inner (around ∷ outer) =
    (before : List ℕ) × (within : List ℕ) × (text ≡ before ++ 40 ∷ within) × HaveRead before around outer × HasRead within inner

inner_read : (outer : List Group) (text more : List ℕ) (inner next : Group) → ((t : List ℕ) → HasRead t inner → HasRead (t ++ more) next) →
    HaveRead text inner outer → HaveRead (text ++ more) next outer
inner_read [] text more inner next f h = f text h
inner_read (around ∷ outer) text more inner next f h =
    (h.0, h.1 ++ more, ap (λ xs. xs ++ more) h.2 ∙ append_assoc h.0 (40 ∷ h.1) more, h.3, f h.1 h.4)

close_read : (outer : List Group) (around inner : Group) (text : List ℕ) → HaveRead text inner (around ∷ outer) →
    HaveRead (text ++ 41 ∷ []) (with_atom (closed inner) around) outer
close_read outer around inner text h =
    subst (λ (xs : List ℕ). HaveRead xs (with_atom (closed inner) around) outer)
    (sym (ap (λ xs. xs ++ 41 ∷ []) h.2 ∙ append_assoc h.0 (40 ∷ h.1) (41 ∷ [])))
    (inner_read outer h.0 (40 ∷ h.1 ++ 41 ∷ []) around (with_atom (closed inner) around)
    (λ t r. atom_read t (40 ∷ h.1 ++ 41 ∷ []) around (closed inner) (grammar.group (closed_read h.1 inner h.4)) r) h.3)

-- one more sign was taken: the groups behind it are written so far, and the reading goes on from them
record Taken (text : List ℕ) (tree : Tree) (rest : Groups → Result Tree RegexFault) : Type 0 where
  next : Groups
  read_on : rest next ≡ Ok tree
  have : HaveRead text next.inner next.outer

no_ok : {A : Type 0} (why : RegexFault) (tree : Tree) → ◌≡◌ {A = Result Tree RegexFault} (Err why) (Ok tree) → A
no_ok why tree h = absurd (cc)

take_often : (text : List ℕ) (tree : Tree) (inner : Group) (outer : List Group) (rest : Groups → Result Tree RegexFault) (quantifier : Quantifier) (place : ℕ) (last : Last) →
    inner.last ≡ last → HaveRead text inner outer →
    and_then (map_ok (λ (g : Group). record { inner = g; outer = outer }) (with_quantifier quantifier place inner last)) rest ≡ Ok tree →
    Taken (text ++ byte_of quantifier ∷ []) tree rest
take_often text tree inner outer rest quantifier place no_part e h k = no_ok _ tree k
take_often text tree inner outer rest quantifier place (quantified part) e h k = no_ok _ tree k
take_often text tree inner outer rest quantifier place (bare part) e h k = by_may (may_repeat quantifier part) refl
  where
    next : Group
    next = record { place = inner.place; branches = inner.branches; parts = inner.parts; last = quantified (repeat quantifier part) }

    by_may : (b : Bool) → may_repeat quantifier part ≡ b → Taken (text ++ byte_of quantifier ∷ []) tree rest
    by_may true may = record {
      next = record { inner = record { place = inner.place; branches = inner.branches; parts = inner.parts; last = quantified (repeat quantifier part) }; outer = outer };
      read_on = rw may at k;
      have = inner_read outer text (byte_of quantifier ∷ []) inner (record { place = inner.place; branches = inner.branches; parts = inner.parts; last = quantified (repeat quantifier part) })
          (λ t r. often_read t inner quantifier part e may r) h;
    }
    by_may false may = no_ok _ tree (rw may at k)

take_close : (outer : List Group) (text : List ℕ) (tree : Tree) (inner : Group) (rest : Groups → Result Tree RegexFault) (place : ℕ) → HaveRead text inner outer →
    and_then (with_close place inner outer) rest ≡ Ok tree → Taken (text ++ 41 ∷ []) tree rest
take_close [] text tree inner rest place h k = no_ok _ tree k
take_close (around ∷ outer) text tree inner rest place h k = record {
  next = record { inner = with_atom (closed inner) around; outer = outer };
  read_on = k;
  have = close_read outer around inner text h;
}

take_open : (text : List ℕ) (tree : Tree) (groups : Groups) (rest : Groups → Result Tree RegexFault) (place : ℕ) → HaveRead text groups.inner groups.outer →
    and_then (with_group place groups) rest ≡ Ok tree → Taken (text ++ 40 ∷ []) tree rest
take_open text tree groups rest place h k = by_depth (nat_lt (length groups.outer) most_open_groups) refl
  where
    by_depth : (b : Bool) → nat_lt (length groups.outer) most_open_groups ≡ b → Taken (text ++ 40 ∷ []) tree rest
    by_depth true few = record {
      next = record { inner = opened_at place; outer = groups.inner ∷ groups.outer };
      read_on = rw few at k;
      have = (text, [], refl, h, opened_read place);
    }
    by_depth false few = no_ok _ tree (rw few at k)

taken : {more : List ℕ} {sign : Sign} → IsSign more sign → (text : List ℕ) (tree : Tree) (groups : Groups) (rest : Groups → Result Tree RegexFault) →
    HaveRead text groups.inner groups.outer → and_then (with_sign groups sign) rest ≡ Ok tree → Taken (text ++ more) tree rest
taken {more} (of_one {tree = part} o) text tree groups rest h k = record {
  next = record { inner = with_atom part groups.inner; outer = groups.outer };
  read_on = k;
  have = inner_read groups.outer text more groups.inner (with_atom part groups.inner) (λ t r. atom_read t more groups.inner part (grammar.alone o) r) h;
}
taken (of_open place) text tree groups rest h k = take_open text tree groups rest place h k
taken (of_close place) text tree groups rest h k = take_close groups.outer text tree groups.inner rest place h k
taken of_bar text tree groups rest h k = record {
  next = record { inner = with_branch groups.inner; outer = groups.outer };
  read_on = k;
  have = inner_read groups.outer text (124 ∷ []) groups.inner (with_branch groups.inner) (λ t r. bar_read t groups.inner r) h;
}
taken (of_often quantifier place) text tree groups rest h k =
    take_often text tree groups.inner groups.outer rest quantifier place groups.inner.last refl h k

ended : (outer : List Group) (inner : Group) (text : List ℕ) (tree : Tree) → HaveRead text inner outer → at_end inner outer ≡ Ok tree → IsPattern text tree
ended [] inner text tree h k = subst (λ (t : Tree). IsPattern text t) (is_closed k) (closed_read text inner h)
  where
    is_closed : ◌≡◌ {A = Result Tree RegexFault} (Ok (closed inner)) (Ok tree) → closed inner ≡ tree
    is_closed e = cc
ended (around ∷ outer) inner text tree h k = no_ok _ tree k

reads_written : (n at : ℕ) (text rest : List ℕ) (groups : Groups) (tree : Tree) → length rest ≤ n → HaveRead text groups.inner groups.outer →
    read groups (signs at rest) ≡ Ok tree → IsPattern (text ++ rest) tree
reads_written n at text [] groups tree few h k =
    subst (λ (xs : List ℕ). IsPattern xs tree) (sym (append-nil text)) (ended groups.outer groups.inner text tree h k)
reads_written zero at text (byte ∷ rest) groups tree few h k = absurd (omega arith)
reads_written (suc n) at text (byte ∷ rest) groups tree few h k =
    ⊎_elim
    (λ (s : SignRead at (byte ∷ rest)).
    let t = taken s.written text tree groups (λ (next : Groups). read next (signs s.behind s.back)) h (sym (ap (read groups) s.reads) ∙ k) in
    subst (λ (xs : List ℕ). IsPattern xs tree) (append_assoc text s.text s.back ∙ ap (λ xs. text ++ xs) (sym s.split))
    (reads_written n s.behind (text ++ s.text) s.back t.next tree
    (omega (arith, few, ap length s.split, length-append s.text s.back, sign_len s.written)) t.have t.read_on))
    (λ (f : SignFault at (byte ∷ rest)). no_ok f.why tree (sym (ap (read groups) f.reads) ∙ k))
    (sign_view at byte rest)

pub reading_written : (text : List ℕ) (tree : Tree) → reading text ≡ Ok tree → IsPattern text tree
reading_written text tree h = by_len (nat_lt most_pattern_bytes (length text)) refl
  where
    by_len : (b : Bool) → nat_lt most_pattern_bytes (length text) ≡ b → IsPattern text tree
    by_len true many = no_ok _ tree (rw many at h)
    by_len false few = reads_written (length text) 0 [] text (record { inner = opened_at 0; outer = [] }) tree (omega arith) (opened_read 0) (rw few at h)
