-- Heads of lines in bunches: the first head of a bunch decides about the
-- heads in front of it. The heads stay right when a member comes or goes.
use Rattle.std.proofs.Common.{ℕ, ◌≡◌, ◌<◌, ◌≤◌, false, List, length, replicate, sym, ◌∙◌, ⊎_elim, arith, Option, Some, None, MatchOption}
use Rattle.std.proofs.lemmas.Bool.{cases_lt, true≢false}
use Rattle.std.proofs.lemmas.List.{get_or_past, get_or-replicate, length-replicate}
use Rattle.ct_queue.specs.Marks.{is_marked}
use Rattle.ct_queue.specs.Lines.{LinesValue, MembersValue, IsHeadIn, IsLeastHeadFrom, IsNextHeadOfBunch, IsNextOfLine, IsOfBunchBefore, IsOfNewBunchFrom, NoHeadFrom, NoHeadOfBunchBehind, NoNewBunchFrom, NoneOfLineBehind, none_in}
use Rattle.ct_queue.specs.Spots.{AreHeads, AreHeadsInBunches}
use Rattle.ct_queue.proofs.CallerLemmas.{head_of}
use Rattle.ct_queue.proofs.HeadLemmas.{heads_none}

abbrev pub bunched_of : MembersValue → MembersValue → LinesValue
bunched_of value heads = record { lines = value.lines; bunches = heads.lines; members = value.members }

-- without members there are no heads
pub bunches_none : (lines bunches : List ℕ) → length bunches ≡ length lines → AreHeadsInBunches (none_in lines) (none_in bunches)
bunches_none lines bunches many = record {
  bunched = many;
  marked = heads_none lines (replicate (length bunches) false) (omega (arith, many, length-replicate (length bunches) false)) none;
}
  where
    none : (place : ℕ) → is_marked (replicate (length bunches) false) place ≡ false
    none place =
        ⊎_elim
        (λ (inner : place < length bunches). get_or-replicate (length bunches) place false false inner)
        (λ (past : length bunches ≤ place). get_or_past (replicate (length bunches) false) place false (omega (arith, length-replicate (length bunches) false)))
        (cases_lt place (length bunches))

module _ (value heads : MembersValue) (kept : AreHeads value heads.members) where
  -- if no place between `from` and a head has the first head of
  -- a bunch, the bunch of that head has a head before `from`
  of_bunch_before : (from place : ℕ) → IsHeadIn value place → ((at : ℕ) → at ≤ place → from ≤ at → IsHeadIn heads at → ⊥) → IsOfBunchBefore heads.lines (IsHeadIn value) from place
  of_bunch_before from place head none =
      let first = head_of heads.lines (is_marked heads.members) place (kept.all place head) in
      record {
        at = first.at;
        before =
            ⊎_elim
            (λ (before : first.at < from). before)
            (λ (behind : from ≤ first.at). absurd (none first.at first.upto behind first.head))
            (cases_lt first.at from);
        upto = first.upto;
        same = first.same;
        head = kept.marked first.at first.head.member;
      }

  no_new_bunch : (from : ℕ) → NoHeadFrom heads from → NoNewBunchFrom (bunched_of value heads) from
  no_new_bunch from none place head = of_bunch_before from place head (λ at upto behind first. none at behind first)

  of_new_bunch : (from found : ℕ) → IsLeastHeadFrom heads from found → IsOfNewBunchFrom (bunched_of value heads) from found
  of_new_bunch from found least = record {
    from_there = least.from_there;
    head = kept.marked found least.head.member;
    earlier = λ place before head. of_bunch_before from place head (λ at upto behind first. least.least at behind (omega (arith, upto, before)) first);
  }

  no_head_of_bunch : (place : ℕ) → NoneOfLineBehind heads place → NoHeadOfBunchBehind (bunched_of value heads) place
  no_head_of_bunch place none other behind same head = true≢false (sym (kept.all other head) ∙ none other behind same)

  next_head_of_bunch : (place found : ℕ) → IsNextOfLine heads place found → IsNextHeadOfBunch (bunched_of value heads) place found
  next_head_of_bunch place found next = record {
    behind = next.behind;
    of_bunch = next.of_line;
    head = kept.marked found next.member;
    least = λ other behind before same head. true≢false (sym (kept.all other head) ∙ next.least other behind before same);
  }

  -- what a search of the bunches finds is right for the lines
  pub new_bunch_found : (from : ℕ) (found : Option ℕ) → MatchOption found (NoHeadFrom heads from) (IsLeastHeadFrom heads from) → MatchOption found (NoNewBunchFrom (bunched_of value heads) from) (IsOfNewBunchFrom (bunched_of value heads) from)
  new_bunch_found from None none = no_new_bunch from none
  new_bunch_found from (Some found) least = of_new_bunch from found least

  pub next_head_found : (place : ℕ) (found : Option ℕ) → MatchOption found (NoneOfLineBehind heads place) (IsNextOfLine heads place) → MatchOption found (NoHeadOfBunchBehind (bunched_of value heads) place) (IsNextHeadOfBunch (bunched_of value heads) place)
  next_head_found place None none = no_head_of_bunch place none
  next_head_found place (Some found) next = next_head_of_bunch place found next
