-- The steps that give spots to places: sizes of lines, first
-- spots, a spot for each place, a place for each spot.
use Rattle.std.proofs.Common.{ℕ, ◌≡◌, ◌≢◌, ◌+◌, ◌<◌, ◌≤◌, List, [], ◌∷◌, ◌++◌, take, length, get_or, set, refl, sym, ap, ◌∙◌, ⊎_elim, arith, AllPairs}
use Rattle.std.proofs.lemmas.Bool.{cases_eq}
use Rattle.std.proofs.Math.Seq.{get_or-append_seam}
use Rattle.std.proofs.lemmas.Grind.{get_or-set_at}
use Rattle.std.proofs.lemmas.List.{get_or_append_left, get_or-set_other, length-set, length_push}
use Rattle.ct_queue.specs.Lines.{AreNumbered}
use Rattle.ct_queue.specs.Spots.{IsTable, first_spot, size_of, spot_of}
use Rattle.ct_queue.proofs.SpotLemmas.{first_fits, first_more, first_none, size_more, size_stays, spot_below}

-- one more place is counted
pub sizes_more : (lines sizes : List ℕ) (place : ℕ) → AreNumbered lines → place < length lines → IsTable (size_of (take place lines)) (length lines) sizes → IsTable (size_of (take (place + 1) lines)) (length lines) (set sizes (get_or lines place 0) (get_or sizes (get_or lines place 0) 0 + 1))
sizes_more lines sizes place numbered within sized = record {
  long = length-set sizes (get_or lines place 0) (get_or sizes (get_or lines place 0) 0 + 1) ∙ sized.long;
  reads = λ at there.
      ⊎_elim
      (λ (same : at ≡ get_or lines place 0).
      get_or-set_at sizes (get_or lines place 0) at (get_or sizes (get_or lines place 0) 0 + 1) 0 same (let n = numbered place within in let long = sized.long in omega arith)
      ∙ ap (λ (n : ℕ). n + 1) (ap (λ (l : ℕ). get_or sizes l 0) (sym same) ∙ sized.reads at there)
      ∙ sym (size_more lines place at within (sym same)))
      (λ (other : at ≡ get_or lines place 0 → ⊥).
      get_or-set_other sizes (get_or lines place 0) at (get_or sizes (get_or lines place 0) 0 + 1) 0 other
      ∙ sized.reads at there ∙ sym (size_stays lines place at within (λ same. other (sym same))))
      (cases_eq at (get_or lines place 0));
}

-- the lines before `end` have their first spots, and the others still their sizes
pub record AreBegun (lines : List ℕ) (end before : ℕ) (firsts : List ℕ) : Type 0 where
  pub long : length firsts ≡ length lines
  pub passed : before ≡ first_spot lines end
  pub begun : (line : ℕ) → line < end → get_or firsts line 0 ≡ first_spot lines line
  pub sized : (line : ℕ) → end ≤ line → line < length lines → get_or firsts line 0 ≡ size_of lines line

pub begun_none : (lines sizes : List ℕ) → IsTable (size_of lines) (length lines) sizes → AreBegun lines 0 0 sizes
begun_none lines sizes sized = record {
  long = sized.long;
  passed = sym (first_none lines);
  begun = λ line before. absurd (omega arith);
  sized = λ line behind there. sized.reads line there;
}

pub begun_more : (lines firsts : List ℕ) (end before size : ℕ) → end < length lines → size ≡ get_or firsts end 0 → AreBegun lines end before firsts → AreBegun lines (end + 1) (before + size) (set firsts end before)
begun_more lines firsts end before size within is kept = record {
  long = length-set firsts end before ∙ kept.long;
  passed = let passed = kept.passed in let size = kept.sized end (omega arith) within in let more = first_more lines end in omega arith;
  begun = λ line less.
      ⊎_elim
      (λ (same : line ≡ end). get_or-set_at firsts end line before 0 same (let long = kept.long in omega arith) ∙ kept.passed ∙ ap (λ (l : ℕ). first_spot lines l) (sym same))
      (λ (other : line ≡ end → ⊥). get_or-set_other firsts end line before 0 other ∙ kept.begun line (omega (arith, other)))
      (cases_eq line end);
  sized = λ line behind there.
      let other : line ≡ end → ⊥ = λ same. omega (arith, same) in
      get_or-set_other firsts end line before 0 other ∙ kept.sized line (omega arith) there;
}

pub begun_fits : (lines firsts : List ℕ) (end before : ℕ) → end < length lines → AreBegun lines end before firsts → before + get_or firsts end 0 ≤ length lines
begun_fits lines firsts end before within kept =
    let passed = kept.passed in
    let size = kept.sized end (omega arith) within in
    let fits = first_fits lines end in
    omega arith

pub begun_all : (lines firsts : List ℕ) (end before : ℕ) → length lines ≤ end → AreBegun lines end before firsts → IsTable (first_spot lines) (length lines) firsts
begun_all lines firsts end before all kept = record { long = kept.long; reads = λ line there. kept.begun line (omega arith) }

-- the places before `end` have their spots, and each line has its next free spot
pub record AreDealt (lines : List ℕ) (end : ℕ) (next spots : List ℕ) : Type 0 where
  pub long : length next ≡ length lines
  pub dealt : length spots ≡ end
  pub stand : (place : ℕ) → place < end → get_or spots place 0 ≡ spot_of lines place
  pub follow : (line : ℕ) → line < length lines → get_or next line 0 ≡ first_spot lines line + size_of (take end lines) line

pub dealt_none : (lines firsts : List ℕ) → IsTable (first_spot lines) (length lines) firsts → AreDealt lines 0 firsts []
dealt_none lines firsts begun = record {
  long = begun.long;
  dealt = refl;
  stand = λ place before. absurd (omega arith);
  follow = λ line there. begun.reads line there ∙ omega arith;
}

module _ (lines next spots : List ℕ) (end : ℕ) (numbered : AreNumbered lines) (within : end < length lines) (kept : AreDealt lines end next spots) where
  pub dealt_spot : get_or next (get_or lines end 0) 0 ≡ spot_of lines end
  dealt_spot = kept.follow (get_or lines end 0) (numbered end within)

  pub dealt_fits : get_or next (get_or lines end 0) 0 < length lines
  dealt_fits =
      let spot = dealt_spot in
      let below = spot_below lines end within in
      let fits = first_fits lines (get_or lines end 0) in
      omega arith

  pub dealt_more : AreDealt lines (end + 1) (set next (get_or lines end 0) (get_or next (get_or lines end 0) 0 + 1)) (spots ++ get_or next (get_or lines end 0) 0 ∷ [])
  dealt_more = record {
    long = length-set next (get_or lines end 0) (get_or next (get_or lines end 0) 0 + 1) ∙ kept.long;
    dealt = length_push spots (get_or next (get_or lines end 0) 0) ∙ ap (λ (n : ℕ). n + 1) kept.dealt;
    stand = λ place before.
        ⊎_elim
        (λ (same : place ≡ end).
        ap (λ (p : ℕ). get_or (spots ++ get_or next (get_or lines end 0) 0 ∷ []) p 0) (same ∙ sym kept.dealt)
        ∙ get_or-append_seam spots (get_or next (get_or lines end 0) 0) [] 0
        ∙ dealt_spot ∙ ap (λ (p : ℕ). spot_of lines p) (sym same))
        (λ (other : place ≡ end → ⊥).
        let earlier : place < end = omega (arith, other) in
        get_or_append_left spots (get_or next (get_or lines end 0) 0 ∷ []) 0 place (let dealt = kept.dealt in omega arith) ∙ kept.stand place earlier)
        (cases_eq place end);
    follow = λ line there.
        ⊎_elim
        (λ (same : line ≡ get_or lines end 0).
        let more = size_more lines end line within (sym same) in
        let old = kept.follow line there in
        get_or-set_at next (get_or lines end 0) line (get_or next (get_or lines end 0) 0 + 1) 0 same (let n = numbered end within in let long = kept.long in omega arith)
        ∙ ap (λ (l : ℕ). get_or next l 0 + 1) (sym same) ∙ omega arith)
        (λ (other : line ≡ get_or lines end 0 → ⊥).
        let stays = size_stays lines end line within (λ same. other (sym same)) in
        let old = kept.follow line there in
        get_or-set_other next (get_or lines end 0) line (get_or next (get_or lines end 0) 0 + 1) 0 other ∙ omega arith)
        (cases_eq line (get_or lines end 0));
  }

-- each place before `end` is found by its spot
pub record AreFoundTo (spots : List ℕ) (end : ℕ) (places : List ℕ) : Type 0 where
  pub long : length places ≡ length spots
  pub found : (place : ℕ) → place < end → get_or places (get_or spots place 0) 0 ≡ place

pub found_more_spot : (spots places : List ℕ) (end : ℕ) → AreNumbered spots → AllPairs (λ (one other : ℕ). one ≢ other) spots → end < length spots → AreFoundTo spots end places → AreFoundTo spots (end + 1) (set places (get_or spots end 0) end)
found_more_spot spots places end numbered apart within kept = record {
  long = length-set places (get_or spots end 0) end ∙ kept.long;
  found = λ place before.
      ⊎_elim
      (λ (same : place ≡ end).
      get_or-set_at places (get_or spots end 0) (get_or spots place 0) end 0 (ap (λ (p : ℕ). get_or spots p 0) same) (let n = numbered end within in let long = kept.long in omega arith) ∙ sym same)
      (λ (other : place ≡ end → ⊥).
      let earlier : place < end = omega (arith, other) in
      get_or-set_other places (get_or spots end 0) (get_or spots place 0) end 0 (apart place end 0 earlier within) ∙ kept.found place earlier)
      (cases_eq place end);
}
