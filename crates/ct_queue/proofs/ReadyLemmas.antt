-- A ready set is kept when it is made and when one test changes, and its marks tell its members.
use Rattle.std.proofs.Common.{ℕ, ◌≡◌, ◌+◌, ◌-◌, ◌<◌, ◌≤◌, ◌^◌, Bool, true, false, cond, not, ◌&&◌, eqb, ltb, List, [], ◌∷◌, map, length, get_or, set, replicate, Option, Some, refl, sym, ap, ◌∙◌, subst, ⊎_elim, arith}
use Rattle.std.specs.BTreeMap as tree
use Rattle.std.specs.Ordering.{nat_cmp, is_eq}
use Rattle.std.specs.declared.cmp.Ordering.TheVariants.{Less, Equal, Greater}
use Rattle.std.proofs.lemmas.Bool.{cases_eq, cases_lt, lt-ltb, le-ltb, ltb-true, ne_eqb, and_parts}
use Rattle.std.proofs.lemmas.List.{length-set, length-map, map-set, get_or-set_other, set-get_or}
use Rattle.std.proofs.lemmas.List.FromFn.{get_or-range_with_len, length-range_with_len}
use Rattle.std.proofs.lemmas.Grind.{get_or-set_at}
use Rattle.ct_base.proofs.ListLemmas.{none_new}
use Rattle.ct_queue.specs.Ready.{ReadyValue, NamesOnce, StandsIn, place_of, count_at, is_out_at, is_member, none_out, lowered, with_out, IsBehind, NoneBehind, IsLeastBehind, IsHead, IsOfSeenBunch, NoNewBunch, IsOfNewBunch, NoHeadBehind, IsNextHead}
use Rattle.ct_queue.specs.Marks.{is_marked}
use Rattle.ct_queue.specs.Lines.{AreNumbered, LinesValue, own_lines, without_bunches, IsHeadIn, IsOfBunchBefore, IsOfNewBunchFrom, NoNewBunchFrom, IsNextHeadOfBunch, NoHeadOfBunchBehind, with_bunched}
use Rattle.ct_queue.specs.Kept.{AreFoundByNumber, AreMarkedAtZero, IsReadySet, waiting, ready_of, standing_at, with_standing}
use Rattle.ct_queue.specs.declared.ready.Standing.{Standing}
use Rattle.ct_queue.proofs.CallerLemmas.{test_at_place}

abbrev count_in : Standing → ℕ
count_in s = s.count

abbrev out_in : Standing → Bool
out_in s = s.is_out

-- the ready set of this order, with these counts, these tests out, these lines and these bunches
abbrev tests_of : List ℕ → List ℕ → List Bool → List ℕ → List ℕ → ReadyValue
tests_of order counts outs lines bunches = record { order = order; counts = counts; outs = outs; lines = lines; bunches = bunches }

-- a test is found by its number
pub found_at : (places : tree.BTreeMap ℕ ℕ) (order : List ℕ) (test : ℕ) → AreFoundByNumber places order → StandsIn order test → tree.get nat_cmp places test ≡ Some (place_of order test)
found_at places order test found stands =
    subst (λ (t : ℕ). tree.get nat_cmp places t ≡ Some (place_of order test)) (test_at_place order test stands) (found (place_of order test) stands)

-- the comparison of two different numbers is not that of equal numbers
cmp_apart : (x y : ℕ) → (x ≡ y → ⊥) → tree.is_at (nat_cmp x) y ≡ false
cmp_apart x y apart =
    ⊎_elim
    (λ (less : x < y). ap (λ b. is_eq (cond b Less (cond (eqb x y) Equal Greater))) (lt-ltb x y less))
    (λ (more : y ≤ x). ap (λ b. is_eq (cond b Less (cond (eqb x y) Equal Greater))) (le-ltb x y more) ∙ ap (λ b. is_eq (cond b Equal Greater)) (ne_eqb x y apart))
    (cases_lt x y)

-- one more test is found by its number
pub found_more : (order : List ℕ) (places now : tree.BTreeMap ℕ ℕ) (place : ℕ) → NamesOnce order → place < length order → ((k : ℕ) → k < place → tree.get nat_cmp places (get_or order k 0) ≡ Some k) → tree.Updates nat_cmp places now (get_or order place 0) (Some place) → (k : ℕ) → k < place + 1 → tree.get nat_cmp now (get_or order k 0) ≡ Some k
found_more order places now place once within found updates k before =
    ⊎_elim
    (λ (same : k ≡ place). subst (λ (j : ℕ). tree.get nat_cmp now (get_or order j 0) ≡ Some j) (sym same) updates.1)
    (λ (other : k ≡ place → ⊥).
    let earlier : k < place = omega (arith, other) in
    updates.2 (get_or order k 0) (cmp_apart (get_or order place 0) (get_or order k 0) (λ same. once k place 0 earlier within (sym same))) ∙ found k earlier)
    (cases_eq k place)

same_member : (here there : Bool) (count other : ℕ) (is was : Bool) → here ≡ there → count ≡ other → is ≡ was → (here && eqb count 0 && not is) ≡ (there && eqb other 0 && not was)
same_member here there count other is was e f g =
    ap (λ (b : Bool). b && eqb count 0 && not is) e ∙ ap (λ (n : ℕ). there && eqb n 0 && not is) f ∙ ap (λ (b : Bool). there && eqb other 0 && not b) g

-- the test at a place gets this standing, and the place has a member exactly if the test is ready
module _ (order : List ℕ) (places : tree.BTreeMap ℕ ℕ) (standings : List Standing) (lines : LinesValue) (place : ℕ) (s : Standing) (mark : Bool) (kept : IsReadySet order places standings lines) (within : place < length order) (is : mark ≡ (eqb s.count 0 && not s.is_out)) where
  marked_here : (q : ℕ) → q ≡ place → is_marked (set lines.members place mark) q ≡ is_member (ready_of order (set standings place s) lines.lines lines.bunches) q
  marked_here q same =
      let counts : place < length (map count_in standings) = omega (arith, length-map standings count_in, kept.stand) in
      let outs : place < length (map out_in standings) = omega (arith, length-map standings out_in, kept.stand) in
      let inner : q < length order = omega arith in
      get_or-set_at lines.members place q mark false same (omega (arith, kept.seated)) ∙ is
      ∙ sym (same_member (ltb q (length order)) true (get_or (map count_in (set standings place s)) q 0) s.count (get_or (map out_in (set standings place s)) q false) s.is_out
      (lt-ltb q (length order) inner)
      (ap (λ (l : List ℕ). get_or l q 0) (map-set count_in standings place s) ∙ get_or-set_at (map count_in standings) place q s.count 0 same counts)
      (ap (λ (l : List Bool). get_or l q false) (map-set out_in standings place s) ∙ get_or-set_at (map out_in standings) place q s.is_out false same outs))

  marked_there : (q : ℕ) → (q ≡ place → ⊥) → is_marked (set lines.members place mark) q ≡ is_member (ready_of order (set standings place s) lines.lines lines.bunches) q
  marked_there q other =
      get_or-set_other lines.members place q mark false other ∙ kept.in_lines q
      ∙ sym (same_member (ltb q (length order)) (ltb q (length order)) (get_or (map count_in (set standings place s)) q 0) (get_or (map count_in standings) q 0) (get_or (map out_in (set standings place s)) q false) (get_or (map out_in standings) q false)
      refl
      (ap (λ (l : List ℕ). get_or l q 0) (map-set count_in standings place s) ∙ get_or-set_other (map count_in standings) place q s.count 0 other)
      (ap (λ (l : List Bool). get_or l q false) (map-set out_in standings place s) ∙ get_or-set_other (map out_in standings) place q s.is_out false other))

  pub kept_set : IsReadySet order places (set standings place s) (with_bunched lines place mark)
  kept_set = record {
    few = kept.few;
    found = kept.found;
    stand = length-set standings place s ∙ kept.stand;
    lined = kept.lined;
    bunched = kept.bunched;
    seated = length-set lines.members place mark ∙ kept.seated;
    in_lines = λ q. ⊎_elim (marked_here q) (marked_there q) (cases_eq q place);
  }

pub ready_set : (order : List ℕ) (standings : List Standing) (lines bunches : List ℕ) (place : ℕ) (s : Standing) → ready_of order (set standings place s) lines bunches ≡ with_standing (ready_of order standings lines bunches) place s
ready_set order standings lines bunches place s =
    ap (λ (cs : List ℕ). tests_of order cs (map out_in (set standings place s)) lines bunches) (map-set count_in standings place s)
    ∙ ap (λ (os : List Bool). tests_of order (set (map count_in standings) place s.count) os lines bunches) (map-set out_in standings place s)

pub lowered_by : (old new : ReadyValue) (test place : ℕ) (s t : Standing) → place ≡ place_of old.order test → s ≡ standing_at old place → t.count ≡ s.count - 1 → t.is_out ≡ s.is_out → new ≡ with_standing old place t → new ≡ lowered old test
lowered_by old new test place s t here is count out now =
    now
    ∙ ap (λ (n : ℕ). tests_of old.order (set old.counts place n) (set old.outs place t.is_out) old.lines old.bunches) (count ∙ ap (λ (n : ℕ). n - 1) (ap count_in is))
    ∙ ap (λ (b : Bool). tests_of old.order (set old.counts place (count_at old place - 1)) (set old.outs place b) old.lines old.bunches) (out ∙ ap out_in is)
    ∙ ap (λ (os : List Bool). tests_of old.order (set old.counts place (count_at old place - 1)) os old.lines old.bunches) (set-get_or old.outs place false)
    ∙ ap (λ (p : ℕ). tests_of old.order (set old.counts p (count_at old p - 1)) old.outs old.lines old.bunches) here

pub with_out_by : (old new : ReadyValue) (test place : ℕ) (s t : Standing) (b : Bool) → place ≡ place_of old.order test → s ≡ standing_at old place → t.count ≡ s.count → t.is_out ≡ b → new ≡ with_standing old place t → new ≡ with_out old test b
with_out_by old new test place s t b here is count out now =
    now
    ∙ ap (λ (n : ℕ). tests_of old.order (set old.counts place n) (set old.outs place t.is_out) old.lines old.bunches) (count ∙ ap count_in is)
    ∙ ap (λ (cs : List ℕ). tests_of old.order cs (set old.outs place t.is_out) old.lines old.bunches) (set-get_or old.counts place 0)
    ∙ ap (λ (o : Bool). tests_of old.order old.counts (set old.outs place o) old.lines old.bunches) out
    ∙ ap (λ (p : ℕ). tests_of old.order old.counts (set old.outs p b) old.lines old.bunches) here

counts_waiting : (counts : List ℕ) → map count_in (map waiting counts) ≡ counts
counts_waiting [] = refl
counts_waiting (n ∷ counts) = ap (λ (ns : List ℕ). n ∷ ns) (counts_waiting counts)

outs_waiting : (counts : List ℕ) → map out_in (map waiting counts) ≡ replicate (length counts) false
outs_waiting [] = refl
outs_waiting (n ∷ counts) = ap (λ (bs : List Bool). false ∷ bs) (outs_waiting counts)

pub ready_new : (order counts lines bunches : List ℕ) → length counts ≡ length order → ready_of order (map waiting counts) lines bunches ≡ none_out order counts lines bunches
ready_new order counts lines bunches one =
    ap (λ (cs : List ℕ). tests_of order cs (map out_in (map waiting counts)) lines bunches) (counts_waiting counts)
    ∙ ap (λ (os : List Bool). tests_of order counts os lines bunches) (outs_waiting counts ∙ ap (λ (n : ℕ). replicate n false) one)

-- marks at exactly the places whose count is 0 are at the members, if no test is out
marked_new : (order counts lines bunches : List ℕ) (marks : List Bool) → length counts ≡ length order → AreMarkedAtZero counts marks → (place : ℕ) → is_marked marks place ≡ is_member (ready_of order (map waiting counts) lines bunches) place
marked_new order counts lines bunches marks one marked q =
    let out : get_or (map out_in (map waiting counts)) q false ≡ false = ap (λ (l : List Bool). get_or l q false) (outs_waiting counts) ∙ none_new (length counts) q in
    marked q ∙ and_true (ltb q (length counts) && eqb (get_or counts q 0) 0)
    ∙ sym (same_member (ltb q (length order)) (ltb q (length counts)) (get_or (map count_in (map waiting counts)) q 0) (get_or counts q 0) (get_or (map out_in (map waiting counts)) q false) false
    (ap (λ (n : ℕ). ltb q n) (sym one))
    (ap (λ (l : List ℕ). get_or l q 0) (counts_waiting counts))
    out)
  where
    and_true : (b : Bool) → b ≡ (b && true)
    and_true true = refl
    and_true false = refl

pub kept_new : (order counts : List ℕ) (places : tree.BTreeMap ℕ ℕ) (lines : LinesValue) → length order < 2 ^ 32 - 1 → AreFoundByNumber places order → length counts ≡ length order → length lines.lines ≡ length order → length lines.bunches ≡ length order → length lines.members ≡ length order → AreMarkedAtZero counts lines.members → IsReadySet order places (map waiting counts) lines
kept_new order counts places lines few found one lined bunched seated in_lines = record {
  few = few;
  found = found;
  stand = length-map counts waiting ∙ one;
  lined = lined;
  bunched = bunched;
  seated = seated;
  in_lines = marked_new order counts lines.lines lines.bunches lines.members one in_lines;
}

-- if each place is a line of its own, the lines are numbered
pub own_numbered : (places : ℕ) → AreNumbered (own_lines places)
own_numbered places place within =
    let long = length-range_with_len 0 places in
    let reads = get_or-range_with_len 0 places place 0 (omega arith) in
    omega arith

-- the place of a member is in the order
pub member_within : (ready : ReadyValue) (place : ℕ) → is_member ready place ≡ true → place < length ready.order
member_within ready place is =
    let first = and_parts (ltb place (length ready.order) && eqb (count_at ready place) 0) (not (is_out_at ready place)) is in
    let second = and_parts (ltb place (length ready.order)) (eqb (count_at ready place) 0) first.0 in
    ltb-true place (length ready.order) second.0

-- no place past the end of the order has a member
member_past : (ready : ReadyValue) (place : ℕ) → length ready.order ≤ place → is_member ready place ≡ false
member_past ready place past =
    ap (λ (b : Bool). b && eqb (count_at ready place) 0 && not (is_out_at ready place)) (le-ltb place (length ready.order) past)

-- a look at each place behind the given one, while no place before `end` has a member
module _ (ready : ReadyValue) (given : Option ℕ) (from : ℕ) (reaches : (place : ℕ) → IsBehind given place → from ≤ place) (begins : (place : ℕ) → from ≤ place → IsBehind given place) where
  pub none_behind : (end : ℕ) → length ready.order ≤ end → ((place : ℕ) → from ≤ place → place < end → is_member ready place ≡ false) → NoneBehind ready given
  none_behind end all none place behind =
      ⊎_elim (λ (inner : place < end). none place (reaches place behind) inner) (λ (past : end ≤ place). member_past ready place (omega (arith, all, past))) (cases_lt place end)

  pub least_behind : (found : ℕ) → from ≤ found → is_member ready found ≡ true → ((place : ℕ) → from ≤ place → place < found → is_member ready place ≡ false) → IsLeastBehind ready given found
  least_behind found there is none = record {
    behind = begins found there;
    member = is;
    least = λ place behind before. none place (reaches place behind) before;
  }

module _ (order : List ℕ) (places : tree.BTreeMap ℕ ℕ) (standings : List Standing) (lines : LinesValue) (kept : IsReadySet order places standings lines) where
  -- a place has a head of the ready set exactly if it has a head of the lines
  head_here : (place : ℕ) → IsHeadIn (without_bunches lines) place → IsHead (ready_of order standings lines.lines lines.bunches) place
  head_here place head = record {
    member = sym (kept.in_lines place) ∙ head.member;
    first = λ other before same. sym (kept.in_lines other) ∙ head.first other before same;
  }

  head_there : (place : ℕ) → IsHead (ready_of order standings lines.lines lines.bunches) place → IsHeadIn (without_bunches lines) place
  head_there place head = record {
    member = kept.in_lines place ∙ head.member;
    first = λ other before same. kept.in_lines other ∙ head.first other before same;
  }

  pub head_fits : (found : ℕ) → IsHeadIn (without_bunches lines) found → found < 2 ^ 32
  head_fits found head =
      let few = kept.few in
      let within = member_within (ready_of order standings lines.lines lines.bunches) found (sym (kept.in_lines found) ∙ head.member) in
      omega arith

  pub no_head_behind : (place : ℕ) → NoHeadOfBunchBehind lines place → NoHeadBehind (ready_of order standings lines.lines lines.bunches) place
  no_head_behind place none other behind same head = none other behind same (head_there other head)

  pub next_head_behind : (place found : ℕ) → IsNextHeadOfBunch lines place found → IsNextHead (ready_of order standings lines.lines lines.bunches) place found
  next_head_behind place found next = record {
    behind = next.behind;
    of_bunch = next.of_bunch;
    head = head_here found next.head;
    least = λ other behind before same head. next.least other behind before same (head_there other head);
  }

  module _ (given : Option ℕ) (from : ℕ) (reaches : (place : ℕ) → IsBehind given place → from ≤ place) (begins : (place : ℕ) → from ≤ place → IsBehind given place) where
    seen_here : (place : ℕ) → IsOfBunchBefore lines.bunches (IsHeadIn (without_bunches lines)) from place → IsOfSeenBunch (ready_of order standings lines.lines lines.bunches) given place
    seen_here place known = record {
      at = known.at;
      seen = λ behind. let before = known.before in let upto = reaches known.at behind in absurd (omega arith);
      upto = known.upto;
      same = known.same;
      head = head_here known.at known.head;
    }

    pub no_new_bunch : NoNewBunchFrom lines from → NoNewBunch (ready_of order standings lines.lines lines.bunches) given
    no_new_bunch none place head = seen_here place (none place (head_there place head))

    pub of_new_bunch : (found : ℕ) → IsOfNewBunchFrom lines from found → IsOfNewBunch (ready_of order standings lines.lines lines.bunches) given found
    of_new_bunch found new = record {
      behind = begins found new.from_there;
      head = head_here found new.head;
      earlier = λ place before head. seen_here place (new.earlier place before (head_there place head));
    }

-- of the places before `end`, exactly those whose count is 0 are marked
abbrev pub AreMarkedTo : List ℕ → List Bool → ℕ → Type 0
AreMarkedTo counts marks end = (place : ℕ) → is_marked marks place ≡ (ltb place end && eqb (get_or counts place 0) 0)

pub marked_to_none : (counts : List ℕ) (marks : List Bool) → ((place : ℕ) → is_marked marks place ≡ false) → AreMarkedTo counts marks 0
marked_to_none counts marks none place = none place ∙ sym (ap (λ (b : Bool). b && eqb (get_or counts place 0) 0) (le-ltb place 0 (omega arith)))

pub marked_to_more : (counts : List ℕ) (marks : List Bool) (end : ℕ) → end < length marks → AreMarkedTo counts marks end → AreMarkedTo counts (set marks end (eqb (get_or counts end 0) 0)) (end + 1)
marked_to_more counts marks end room marked place =
    ⊎_elim
    (λ same.
    get_or-set_at marks end place (eqb (get_or counts end 0) 0) false same room
    ∙ ap (λ (k : ℕ). eqb (get_or counts k 0) 0) (sym same)
    ∙ sym (ap (λ (b : Bool). b && eqb (get_or counts place 0) 0) (lt-ltb place (end + 1) (omega (arith, same)))))
    (λ other.
    get_or-set_other marks end place (eqb (get_or counts end 0) 0) false other ∙ marked place
    ∙ ap (λ (b : Bool). b && eqb (get_or counts place 0) 0)
    (⊎_elim
    (λ (before : place < end). lt-ltb place end before ∙ sym (lt-ltb place (end + 1) (omega arith)))
    (λ (after : end ≤ place). le-ltb place end after ∙ sym (le-ltb place (end + 1) (omega (arith, other))))
    (cases_lt place end)))
    (cases_eq place end)
