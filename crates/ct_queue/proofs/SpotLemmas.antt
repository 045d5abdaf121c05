-- Spots of places in lines: how the counts grow, that no two
-- places share a spot, and what the marks on spots tell.
use Rattle.std.proofs.Common.{ℕ, ◌≡◌, ◌≢◌, ◌+◌, ◌<◌, ◌≤◌, Bool, false, cond, eqb, ltb, List, [], ◌∷◌, map, take, length, get_or, set, replicate, refl, sym, ap, ◌∙◌, subst, ⊎_elim, arith, AllPairs}
use Rattle.std.proofs.lemmas.Bool.{cases_eq, cases_lt, cases_order, eq-eqb, ne_eqb, true≢false}
use Rattle.std.proofs.lemmas.Bool.Decides.{nat_tests}
use Rattle.std.proofs.lemmas.Grind.{get_or-set_at}
use Rattle.std.proofs.lemmas.List.{ext_get_or, get_or_default, get_or_past, get_or-map, get_or-replicate, get_or-set_other, length-map, length-replicate, length-set, take-take}
use Rattle.std.proofs.lemmas.List.Sums.{count_by-le-length, count_by_more_no, count_by_more_yes, sum_by-cons, sum_by-take-le}
use Rattle.ct_queue.specs.Marks.{is_marked, NoneWithin, IsLeastWithin}
use Rattle.ct_queue.specs.Lines.{AreNumbered, IsHeadOfLine, IsNextOfLine, MembersValue, NoneOfLine, NoneOfLineBehind, none_in, with_member}
use Rattle.ct_queue.specs.Spots.{AreOnSpots, AreSpots, IsSpot, IsTable, first_spot, members_value, size_of, spot_of}

abbrev members_in : List ℕ → List Bool → MembersValue
members_in lines members = record { lines = lines; members = members }

one_more : (x line : ℕ) → cond (ltb x (line + 1)) 1 0 ≡ cond (ltb x line) 1 0 + cond (eqb x line) 1 0
one_more x line = grind (arith, nat_tests)

one_upto : (x line other : ℕ) → line < other → cond (ltb x line) 1 0 + cond (eqb x line) 1 0 ≤ cond (ltb x other) 1 0
one_upto x line other less = grind (arith, nat_tests)

none_less : (x : ℕ) → cond (ltb x 0) 1 0 ≤ 0
none_less x = grind (arith, nat_tests)

-- the next line begins behind the spots of a line
pub first_more : (lines : List ℕ) (line : ℕ) → first_spot lines (line + 1) ≡ first_spot lines line + size_of lines line
first_more [] line = refl
first_more (x ∷ lines) line =
    let next = sum_by-cons (λ (l : ℕ). cond (ltb l (line + 1)) 1 0) x lines in
    let first = sum_by-cons (λ (l : ℕ). cond (ltb l line) 1 0) x lines in
    let size = sum_by-cons (λ (l : ℕ). cond (eqb l line) 1 0) x lines in
    let here = one_more x line in
    let rest = first_more lines line in
    omega arith

-- each later line begins behind the spots of a line
pub first_later : (lines : List ℕ) (line other : ℕ) → line < other → first_spot lines line + size_of lines line ≤ first_spot lines other
first_later [] line other less = omega arith
first_later (x ∷ lines) line other less =
    let next = sum_by-cons (λ (l : ℕ). cond (ltb l other) 1 0) x lines in
    let first = sum_by-cons (λ (l : ℕ). cond (ltb l line) 1 0) x lines in
    let size = sum_by-cons (λ (l : ℕ). cond (eqb l line) 1 0) x lines in
    let here = one_upto x line other less in
    let rest = first_later lines line other less in
    omega arith

pub first_fits : (lines : List ℕ) (line : ℕ) → first_spot lines line + size_of lines line ≤ length lines
first_fits lines line =
    let more = first_more lines line in
    let all = count_by-le-length (λ (l : ℕ). ltb l (line + 1)) lines in
    omega arith

pub first_none : (lines : List ℕ) → first_spot lines 0 ≡ 0
first_none [] = refl
first_none (x ∷ lines) =
    let first = sum_by-cons (λ (l : ℕ). cond (ltb l 0) 1 0) x lines in
    let here = none_less x in
    let rest = first_none lines in
    omega arith

-- one more place counts in its own line, and in no other
pub size_more : (lines : List ℕ) (place line : ℕ) → place < length lines → get_or lines place 0 ≡ line → size_of (take (place + 1) lines) line ≡ size_of (take place lines) line + 1
size_more lines place line within is = count_by_more_yes (λ (l : ℕ). eqb l line) lines place 0 within (eq-eqb (get_or lines place 0) line is)

pub size_stays : (lines : List ℕ) (place line : ℕ) → place < length lines → (get_or lines place 0 ≡ line → ⊥) → size_of (take (place + 1) lines) line ≡ size_of (take place lines) line
size_stays lines place line within other = count_by_more_no (λ (l : ℕ). eqb l line) lines place 0 within (ne_eqb (get_or lines place 0) line other)

pub size_part : (lines : List ℕ) (place line : ℕ) → size_of (take place lines) line ≤ size_of lines line
size_part lines place line = sum_by-take-le (λ (l : ℕ). cond (eqb l line) 1 0) lines place

size_upto : (lines : List ℕ) (place other line : ℕ) → place ≤ other → size_of (take place lines) line ≤ size_of (take other lines) line
size_upto lines place other line upto =
    subst (λ (l : List ℕ). size_of l line ≤ size_of (take other lines) line) (take-take place other lines upto) (size_part (take other lines) place line)

-- a spot is among the spots of its line, and behind the spots of earlier places of the line
pub spot_below : (lines : List ℕ) (place : ℕ) → place < length lines → spot_of lines place < first_spot lines (get_or lines place 0) + size_of lines (get_or lines place 0)
spot_below lines place within =
    let more = size_more lines place (get_or lines place 0) within refl in
    let part = size_part lines (place + 1) (get_or lines place 0) in
    omega arith

pub spot_within : (lines : List ℕ) (place : ℕ) → place < length lines → spot_of lines place < length lines
spot_within lines place within =
    let below = spot_below lines place within in
    let fits = first_fits lines (get_or lines place 0) in
    omega arith

pub spot_rises : (lines : List ℕ) (place other : ℕ) → place < other → other < length lines → get_or lines place 0 ≡ get_or lines other 0 → spot_of lines place < spot_of lines other
spot_rises lines place other before within same =
    let more = size_more lines place (get_or lines other 0) (omega arith) same in
    let upto = size_upto lines (place + 1) other (get_or lines other 0) (omega arith) in
    subst (λ (line : ℕ). first_spot lines line + size_of (take place lines) line < spot_of lines other) (sym same) (omega arith)

-- a spot between the first spot of a line and a spot of that line belongs to the line
pub spot_between : (lines : List ℕ) (place other : ℕ) → place < length lines → other < length lines → first_spot lines (get_or lines place 0) ≤ spot_of lines other → spot_of lines other ≤ spot_of lines place → get_or lines other 0 ≡ get_or lines place 0
spot_between lines place other within there behind before =
    ⊎_elim (λ same. same)
    (λ apart.
    ⊎_elim
    (λ (less : get_or lines other 0 < get_or lines place 0).
    let below = spot_below lines other there in
    let later = first_later lines (get_or lines other 0) (get_or lines place 0) less in
    absurd (omega arith))
    (λ (more : get_or lines place 0 < get_or lines other 0).
    let below = spot_below lines place within in
    let later = first_later lines (get_or lines place 0) (get_or lines other 0) more in
    absurd (omega arith))
    apart)
    (cases_order (get_or lines other 0) (get_or lines place 0))

pub spots_apart : (lines : List ℕ) (place other : ℕ) → place < other → other < length lines → spot_of lines place ≡ spot_of lines other → ⊥
spots_apart lines place other before within same =
    let alike = spot_between lines place other (omega arith) within (omega (arith, same)) (omega (arith, same)) in
    let rises = spot_rises lines place other before within (sym alike) in
    omega (arith, same)

-- the listed spots are below the number of places, and no two are the same
module _ (lines spots : List ℕ) (stand : IsTable (spot_of lines) (length lines) spots) where
  pub spots_numbered : AreNumbered spots
  spots_numbered place within =
      let there : place < length lines = omega (arith, stand.long) in
      let reads = stand.reads place there in
      let below = spot_within lines place there in
      omega (arith, stand.long)

  pub spots_differ : AllPairs (λ (one other : ℕ). one ≢ other) spots
  spots_differ i j d before within same =
      let there : j < length lines = omega (arith, stand.long) in
      spots_apart lines i j before there
      (sym (stand.reads i (omega arith)) ∙ get_or_default spots i 0 d (omega arith) ∙ same ∙ get_or_default spots j d 0 within ∙ stand.reads j there)

-- what the marks on spots tell of the lines
module _ (lines firsts spots places : List ℕ) (marks : List Bool) (kept : AreOnSpots lines firsts spots places marks) where
  pub spot_there : (place : ℕ) → place < length lines → get_or spots place 0 < length lines
  spot_there place within =
      let reads = kept.all.stand.reads place within in
      let below = spot_within lines place within in
      omega arith

  pub place_there : (place : ℕ) → place < length lines → IsSpot lines spots places (get_or spots place 0)
  place_there place within =
      let long = kept.all.stand.long in
      let found : get_or places (get_or spots place 0) 0 ≡ place = kept.all.found.found place (omega arith) in
      record {
        there = let below = spot_there place within in let all = kept.all.found.long in omega arith;
        within = subst (λ (p : ℕ). p < length lines) (sym found) within;
        back = ap (λ (p : ℕ). get_or spots p 0) found;
      }

  -- a place has a member exactly if its spot is marked
  member_at : (place : ℕ) → place < length lines → is_marked (map (is_marked marks) spots) place ≡ is_marked marks (get_or spots place 0)
  member_at place within = get_or-map (is_marked marks) spots place 0 false (let long = kept.all.stand.long in omega arith)

  member_past : (place : ℕ) → length lines ≤ place → is_marked (map (is_marked marks) spots) place ≡ false
  member_past place past = get_or_past (map (is_marked marks) spots) place false (let long = kept.all.stand.long in let same = length-map spots (is_marked marks) in omega arith)

  module _ (line : ℕ) (numbered : line < length lines) where
    first_upto : (place : ℕ) → place < length lines → get_or lines place 0 ≡ line → get_or firsts line 0 ≤ get_or spots place 0
    first_upto place within is =
        let first = kept.all.begin.reads line numbered in
        let spot = kept.all.stand.reads place within in
        let same = ap (λ (l : ℕ). first_spot lines l) is in
        omega arith

    pub none_of_line : NoneWithin marks (get_or firsts line 0) 0 (length marks) → NoneOfLine (members_value lines spots marks) line
    none_of_line none place is =
        ⊎_elim
        (λ (within : place < length lines).
        let below = spot_there place within in
        let room = kept.room in
        member_at place within ∙ none (get_or spots place 0) (first_upto place within is) (omega arith) (omega arith))
        (λ past. member_past place past)
        (cases_lt place (length lines))

    module _ (spot : ℕ) (least : IsLeastWithin marks (get_or firsts line 0) 0 (length marks) spot) where
      pub spot_has : IsSpot lines spots places spot
      spot_has = kept.marked spot least.marked

      pub head_found : get_or lines (get_or places spot 0) 0 ≡ line → IsHeadOfLine (members_value lines spots marks) line (get_or places spot 0)
      head_found is =
          let has = spot_has in
          record {
            within = has.within;
            of_line = is;
            head = record {
              member = member_at (get_or places spot 0) has.within ∙ ap (is_marked marks) has.back ∙ least.marked;
              first = λ other before same.
                  let there : other < length lines = omega (arith, has.within) in
                  let less = spot_rises lines other (get_or places spot 0) before has.within same in
                  let one = kept.all.stand.reads other there in
                  let two = kept.all.stand.reads (get_or places spot 0) has.within in
                  let back = has.back in
                  member_at other there ∙ least.least (get_or spots other 0) (first_upto other there (same ∙ is)) (omega arith) (omega arith);
            };
          }

      pub head_of_other : (get_or lines (get_or places spot 0) 0 ≡ line → ⊥) → NoneOfLine (members_value lines spots marks) line
      head_of_other apart place is =
          let has = spot_has in
          ⊎_elim
          (λ (within : place < length lines).
          ⊎_elim
          (λ (before : get_or spots place 0 < spot). member_at place within ∙ least.least (get_or spots place 0) (first_upto place within is) (omega arith) before)
          (λ (behind : spot ≤ get_or spots place 0).
          let first = kept.all.begin.reads line numbered in
          let begins = ap (λ (l : ℕ). first_spot lines l) is in
          let one = kept.all.stand.reads place within in
          let two = kept.all.stand.reads (get_or places spot 0) has.within in
          let back = has.back in
          let from = least.from_there in
          absurd (apart (spot_between lines place (get_or places spot 0) within has.within (omega arith) (omega arith) ∙ is)))
          (cases_lt (get_or spots place 0) spot))
          (λ past. member_past place past)
          (cases_lt place (length lines))

  -- what the first mark behind the spot of a place tells of its line
  module _ (place : ℕ) (within : place < length lines) where
    spot_behind : (other : ℕ) → place < other → other < length lines → get_or lines other 0 ≡ get_or lines place 0 → get_or spots place 0 + 1 ≤ get_or spots other 0
    spot_behind other behind there same =
        let rises = spot_rises lines place other behind there (sym same) in
        let one = kept.all.stand.reads place within in
        let two = kept.all.stand.reads other there in
        omega arith

    pub none_behind_place : NoneWithin marks (get_or spots place 0 + 1) 0 (length marks) → NoneOfLineBehind (members_value lines spots marks) place
    none_behind_place none other behind same =
        ⊎_elim
        (λ (there : other < length lines).
        let below = spot_there other there in
        let room = kept.room in
        member_at other there ∙ none (get_or spots other 0) (spot_behind other behind there same) (omega arith) (omega arith))
        (λ past. member_past other past)
        (cases_lt other (length lines))

    module _ (spot : ℕ) (least : IsLeastWithin marks (get_or spots place 0 + 1) 0 (length marks) spot) where
      pub next_has : IsSpot lines spots places spot
      next_has = kept.marked spot least.marked

      place_behind : get_or lines (get_or places spot 0) 0 ≡ get_or lines place 0 → place < get_or places spot 0
      place_behind is =
          let has = next_has in
          let from = least.from_there in
          let back = has.back in
          ⊎_elim
          (λ (less : get_or places spot 0 < place).
          let rises = spot_rises lines (get_or places spot 0) place less within is in
          let one = kept.all.stand.reads place within in
          let two = kept.all.stand.reads (get_or places spot 0) has.within in
          absurd (omega arith))
          (λ (upto : place ≤ get_or places spot 0).
          ⊎_elim
          (λ (same : get_or places spot 0 ≡ place).
          let alike : get_or spots (get_or places spot 0) 0 ≡ get_or spots place 0 = ap (λ (p : ℕ). get_or spots p 0) same in
          absurd (omega arith))
          (λ (apart : get_or places spot 0 ≡ place → ⊥). omega (arith, apart))
          (cases_eq (get_or places spot 0) place))
          (cases_lt (get_or places spot 0) place)

      pub next_found : get_or lines (get_or places spot 0) 0 ≡ get_or lines place 0 → IsNextOfLine (members_value lines spots marks) place (get_or places spot 0)
      next_found is =
          let has = next_has in
          record {
            within = has.within;
            behind = place_behind is;
            of_line = is;
            member = member_at (get_or places spot 0) has.within ∙ ap (is_marked marks) has.back ∙ least.marked;
            least = λ other behind before same.
                let there : other < length lines = omega (arith, has.within) in
                let less = spot_rises lines other (get_or places spot 0) before has.within (same ∙ sym is) in
                let one = kept.all.stand.reads other there in
                let two = kept.all.stand.reads (get_or places spot 0) has.within in
                let back = has.back in
                member_at other there ∙ least.least (get_or spots other 0) (spot_behind other behind there same) (omega arith) (omega arith);
          }

      pub none_next : (get_or lines (get_or places spot 0) 0 ≡ get_or lines place 0 → ⊥) → NoneOfLineBehind (members_value lines spots marks) place
      none_next apart other behind same =
          let has = next_has in
          ⊎_elim
          (λ (there : other < length lines).
          ⊎_elim
          (λ (before : get_or spots other 0 < spot). member_at other there ∙ least.least (get_or spots other 0) (spot_behind other behind there same) (omega arith) before)
          (λ (after : spot ≤ get_or spots other 0).
          let first = ap (λ (l : ℕ). first_spot lines l) same in
          let one = kept.all.stand.reads other there in
          let two = kept.all.stand.reads (get_or places spot 0) has.within in
          let here = kept.all.stand.reads place within in
          let back = has.back in
          let from = least.from_there in
          absurd (apart (spot_between lines other (get_or places spot 0) there has.within (omega arith) (omega arith) ∙ same)))
          (cases_lt (get_or spots other 0) spot))
          (λ past. member_past other past)
          (cases_lt other (length lines))

  -- what the marks on spots tell after the mark of one place was set
  module _ (place : ℕ) (within : place < length lines) (mark : Bool) where
    pub on_spots_set : AreOnSpots lines firsts spots places (set marks (get_or spots place 0) mark)
    on_spots_set = record {
      all = kept.all;
      room = subst (λ (n : ℕ). length lines ≤ n) (sym (length-set marks (get_or spots place 0) mark)) kept.room;
      marked = λ spot is.
          ⊎_elim
          (λ (same : spot ≡ get_or spots place 0). subst (IsSpot lines spots places) (sym same) (place_there place within))
          (λ (other : spot ≡ get_or spots place 0 → ⊥). kept.marked spot (sym (get_or-set_other marks (get_or spots place 0) spot mark false other) ∙ is))
          (cases_eq spot (get_or spots place 0));
    }

    spots_equal : (other : ℕ) → other < length lines → get_or spots other 0 ≡ get_or spots place 0 → other ≡ place
    spots_equal other there same =
        let long = kept.all.stand.long in
        sym (kept.all.found.found other (omega arith)) ∙ ap (λ (s : ℕ). get_or places s 0) same ∙ kept.all.found.found place (omega arith)

    marks_after : (at : ℕ) → at < length (map (is_marked (set marks (get_or spots place 0) mark)) spots) → get_or (map (is_marked (set marks (get_or spots place 0) mark)) spots) at false ≡ get_or (set (map (is_marked marks) spots) place mark) at false
    marks_after at inner =
        let long = kept.all.stand.long in
        let mapped = length-map spots (is_marked marks) in
        let there : at < length spots = omega (arith, length-map spots (is_marked (set marks (get_or spots place 0) mark))) in
        let reads = get_or-map (is_marked (set marks (get_or spots place 0) mark)) spots at 0 false there in
        ⊎_elim
        (λ (same : at ≡ place).
        reads
        ∙ get_or-set_at marks (get_or spots place 0) (get_or spots at 0) mark false (ap (λ (p : ℕ). get_or spots p 0) same) (let below = spot_there place within in let room = kept.room in omega arith)
        ∙ sym (get_or-set_at (map (is_marked marks) spots) place at mark false same (omega arith)))
        (λ (other : at ≡ place → ⊥).
        reads
        ∙ get_or-set_other marks (get_or spots place 0) (get_or spots at 0) mark false (λ same. other (spots_equal at (omega arith) same))
        ∙ sym (get_or-map (is_marked marks) spots at 0 false there)
        ∙ sym (get_or-set_other (map (is_marked marks) spots) place at mark false other))
        (cases_eq at place)

    pub value_set : members_value lines spots (set marks (get_or spots place 0) mark) ≡ with_member (members_value lines spots marks) place mark
    value_set =
        ap (λ (members : List Bool). members_in lines members)
        (ext_get_or false (map (is_marked (set marks (get_or spots place 0) mark)) spots) (set (map (is_marked marks) spots) place mark)
        (length-map spots (is_marked (set marks (get_or spots place 0) mark)) ∙ sym (length-map spots (is_marked marks)) ∙ sym (length-set (map (is_marked marks) spots) place mark))
        marks_after)

-- without marks, the marks are on spots, and the lines have no member
pub on_spots_none : (lines firsts spots places : List ℕ) (marks : List Bool) → AreSpots lines firsts spots places → length lines ≤ length marks → ((spot : ℕ) → is_marked marks spot ≡ false) → AreOnSpots lines firsts spots places marks
on_spots_none lines firsts spots places marks all room none = record {
  all = all;
  room = room;
  marked = λ spot is. absurd (true≢false (sym is ∙ none spot));
}

pub value_none : (lines spots : List ℕ) (marks : List Bool) → length spots ≡ length lines → ((spot : ℕ) → is_marked marks spot ≡ false) → members_value lines spots marks ≡ none_in lines
value_none lines spots marks long none =
    ap (λ (members : List Bool). members_in lines members)
    (ext_get_or false (map (is_marked marks) spots) (replicate (length lines) false)
    (length-map spots (is_marked marks) ∙ long ∙ sym (length-replicate (length lines) false))
    (λ at inner.
    let there : at < length spots = omega (arith, length-map spots (is_marked marks)) in
    get_or-map (is_marked marks) spots at 0 false there ∙ none (get_or spots at 0)
    ∙ sym (get_or-replicate (length lines) at false false (omega arith))))
