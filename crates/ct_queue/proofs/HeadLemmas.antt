-- The marks on heads: they tell where the heads are, and stay right when a member comes or goes.
use Rattle.std.proofs.Common.{ℕ, ◌≡◌, ◌<◌, ◌≤◌, Bool, true, false, List, length, get_or, set, replicate, refl, sym, ap, ◌∙◌, subst, ⊎_elim, arith, Option, Some, None, IfSome, MatchOption}
use Rattle.std.proofs.lemmas.Bool.{cases_eq, cases_lt, true≢false}
use Rattle.std.proofs.lemmas.Grind.{get_or-set_at}
use Rattle.std.proofs.lemmas.List.{get_or_past, get_or-replicate, get_or-set_other, length-replicate, length-set}
use Rattle.ct_queue.specs.Marks.{is_marked, with_mark, NoneWithin, IsLeastWithin}
use Rattle.ct_queue.specs.Lines.{IsHeadIn, IsHeadOfLine, IsLeastHeadFrom, MembersValue, NoHeadFrom, NoneOfLine, none_in, with_member}
use Rattle.ct_queue.specs.Spots.{AreHeads}

abbrev pub line_in : MembersValue → ℕ → ℕ
line_in value place = get_or value.lines place 0

module _ (value : MembersValue) (heads : List Bool) (kept : AreHeads value heads) (from : ℕ) where
  pub no_head_from : NoneWithin heads from 0 (length heads) → NoHeadFrom value from
  no_head_from none place behind head =
      ⊎_elim
      (λ (inner : place < length heads). true≢false (sym (kept.all place head) ∙ none place behind (omega arith) inner))
      (λ (past : length heads ≤ place). true≢false (sym (kept.all place head) ∙ get_or_past heads place false past))
      (cases_lt place (length heads))

  pub least_head_from : (found : ℕ) → IsLeastWithin heads from 0 (length heads) found → IsLeastHeadFrom value from found
  least_head_from found least = record {
    from_there = least.from_there;
    head = kept.marked found least.marked;
    least = λ place behind before head. true≢false (sym (kept.all place head) ∙ least.least place behind (omega arith) before);
  }

-- without members and without marks, the marks on heads are right
pub heads_none : (lines : List ℕ) (heads : List Bool) → length lines ≤ length heads → ((place : ℕ) → is_marked heads place ≡ false) → AreHeads (none_in lines) heads
heads_none lines heads room none = record {
  room = room;
  marked = λ place is. absurd (true≢false (sym is ∙ none place));
  all = λ place head. absurd (true≢false (sym head.member ∙ none_member place));
}
  where
    none_member : (place : ℕ) → is_marked (replicate (length lines) false) place ≡ false
    none_member place =
        ⊎_elim
        (λ (inner : place < length lines). get_or-replicate (length lines) place false false inner)
        (λ (past : length lines ≤ place). get_or_past (replicate (length lines) false) place false (omega (arith, length-replicate (length lines) false)))
        (cases_lt place (length lines))

-- what was found of a line: its head, or that it has no member
abbrev pub IsFoundIn : MembersValue → ℕ → Option ℕ → Type 0
IsFoundIn value line found = MatchOption found (NoneOfLine value line) (IsHeadOfLine value line)

-- the marks are right for all lines but this one, whose places have no mark
record AreHeadsBut (value : MembersValue) (line : ℕ) (heads : List Bool) : Type 0 where
  pub room : length value.lines ≤ length heads
  pub marked : (place : ℕ) → is_marked heads place ≡ true → IsHeadIn value place
  pub apart : (place : ℕ) → is_marked heads place ≡ true → line_in value place ≡ line → ⊥
  pub all : (place : ℕ) → IsHeadIn value place → (line_in value place ≡ line → ⊥) → is_marked heads place ≡ true

-- a line has one head
one_head : (value : MembersValue) (place other : ℕ) → IsHeadIn value place → IsHeadIn value other → line_in value place ≡ line_in value other → place ≡ other
one_head value place other here there same =
    ⊎_elim
    (λ (before : place < other). absurd (true≢false (sym here.member ∙ there.first place before same)))
    (λ (behind : other ≤ place).
    ⊎_elim
    (λ (after : other < place). absurd (true≢false (sym there.member ∙ here.first other after (sym same))))
    (λ (upto : place ≤ other). omega arith)
    (cases_lt other place))
    (cases_lt place other)

pub head_within : (value : MembersValue) (line : ℕ) (found : Option ℕ) (heads : List Bool) → length value.lines ≤ length heads → IsFoundIn value line found → IfSome found (λ at. at < length heads)
head_within value line None heads room is = tt
head_within value line (Some at) heads room is = omega (arith, is.within)

heads_lowered : (value : MembersValue) (line : ℕ) (found : Option ℕ) (heads : List Bool) → AreHeads value heads → IsFoundIn value line found → AreHeadsBut value line (with_mark heads found false)
heads_lowered value line None heads kept none = record {
  room = kept.room;
  marked = kept.marked;
  apart = λ place is same. true≢false (sym ((kept.marked place is).member) ∙ none place same);
  all = λ place head apart. kept.all place head;
}
heads_lowered value line (Some at) heads kept is = record {
  room = subst (λ (n : ℕ). length value.lines ≤ n) (sym (length-set heads at false)) kept.room;
  marked = λ place marked. kept.marked place (was place marked);
  apart = λ place marked same. other place marked (one_head value place at (kept.marked place (was place marked)) is.head (same ∙ sym is.of_line));
  all = λ place head apart.
      get_or-set_other heads at place false false (λ same. apart (ap (λ (p : ℕ). line_in value p) same ∙ is.of_line)) ∙ kept.all place head;
}
  where
    here : (place : ℕ) → place ≡ at → is_marked (set heads at false) place ≡ false
    here place same = get_or-set_at heads at place false false same (let room = kept.room in omega (arith, is.within))

    other : (place : ℕ) → is_marked (set heads at false) place ≡ true → place ≡ at → ⊥
    other place marked same = true≢false (sym marked ∙ here place same)

    was : (place : ℕ) → is_marked (set heads at false) place ≡ true → is_marked heads place ≡ true
    was place marked = sym (get_or-set_other heads at place false false (other place marked)) ∙ marked

-- one change in a line leaves the heads of the others
module _ (value : MembersValue) (changed : ℕ) (member : Bool) where
  member_stays : (place : ℕ) → (line_in value place ≡ line_in value changed → ⊥) → is_marked (set value.members changed member) place ≡ is_marked value.members place
  member_stays place apart = get_or-set_other value.members changed place member false (λ same. apart (ap (λ (p : ℕ). line_in value p) same))

  heads_stay : (heads : List Bool) → AreHeadsBut value (line_in value changed) heads → AreHeadsBut (with_member value changed member) (line_in value changed) heads
  heads_stay heads kept = record {
    room = kept.room;
    marked = λ place is.
        let head = kept.marked place is in
        record {
          member = member_stays place (kept.apart place is) ∙ head.member;
          first = λ other before same. member_stays other (λ e. kept.apart place is (sym same ∙ e)) ∙ head.first other before same;
        };
    apart = kept.apart;
    all = λ place head apart.
        kept.all place
        (record {
          member = sym (member_stays place apart) ∙ head.member;
          first = λ other before same. sym (member_stays other (λ e. apart (sym same ∙ e))) ∙ head.first other before same;
        })
        apart;
  }

heads_raised : (value : MembersValue) (line : ℕ) (found : Option ℕ) (heads : List Bool) → AreHeadsBut value line heads → IsFoundIn value line found → AreHeads value (with_mark heads found true)
heads_raised value line None heads kept none = record {
  room = kept.room;
  marked = kept.marked;
  all = λ place head. kept.all place head (λ same. true≢false (sym head.member ∙ none place same));
}
heads_raised value line (Some at) heads kept is = record {
  room = subst (λ (n : ℕ). length value.lines ≤ n) (sym (length-set heads at true)) kept.room;
  marked = λ place marked.
      ⊎_elim
      (λ (same : place ≡ at). subst (IsHeadIn value) (sym same) is.head)
      (λ (other : place ≡ at → ⊥). kept.marked place (sym (get_or-set_other heads at place true false other) ∙ marked))
      (cases_eq place at);
  all = λ place head.
      ⊎_elim
      (λ (same : place ≡ at). here place same)
      (λ (other : place ≡ at → ⊥).
      get_or-set_other heads at place true false other
      ∙ kept.all place head (λ alike. other (one_head value place at head is.head (alike ∙ sym is.of_line))))
      (cases_eq place at);
}
  where
    here : (place : ℕ) → place ≡ at → is_marked (set heads at true) place ≡ true
    here place same = get_or-set_at heads at place true false same (let room = kept.room in omega (arith, is.within))

-- the marks are right once the old head of the changed line loses its mark and its new head gets one
pub heads_set : (value : MembersValue) (heads : List Bool) (changed : ℕ) (member : Bool) (before after : Option ℕ) → AreHeads value heads → IsFoundIn value (line_in value changed) before → IsFoundIn (with_member value changed member) (line_in value changed) after → AreHeads (with_member value changed member) (with_mark (with_mark heads before false) after true)
heads_set value heads changed member before after kept was is =
    heads_raised (with_member value changed member) (line_in value changed) after (with_mark heads before false)
    (heads_stay value changed member (with_mark heads before false) (heads_lowered value (line_in value changed) before heads kept was))
    is

pub length_marked : (heads : List Bool) (found : Option ℕ) (mark : Bool) → length (with_mark heads found mark) ≡ length heads
length_marked heads None mark = refl
length_marked heads (Some at) mark = length-set heads at mark
