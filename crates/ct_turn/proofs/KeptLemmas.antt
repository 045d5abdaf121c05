-- What the workers know stays true of the state.
use Rattle.std.proofs.Common.{◌≡◌, ◌≢◌, ◌∙◌, sym, ap, subst, refl, ℕ, ◌+◌, ◌<◌, ◌≤◌, true, false, List, [], ◌∷◌, set, inl, inr, ⊎_elim, zero, suc, arith}
use Rattle.std.specs.Prelude.{Some, None, All, Contains, sum_by, ◌==◌, slice_index_or}
use Rattle.std.specs.List.{list_any}
use Rattle.std.proofs.lemmas.Bool.Decides.{nat_tests}
use Rattle.std.proofs.lemmas.List.Folds.{list_any-append, list_any_at}
use Rattle.std.proofs.lemmas.List.Sums.{sum_by-cons}
use Rattle.std.proofs.lemmas.Bool.{or_parts, or_from}
use mathlib.Core.Option.{some, some-injective, some-ne-none}
use mathlib.Core.Logic.{dite}
use native.Mathlib.Decide.{ℕ_discrete}
use lib.ListN.{get_elem?}
use Rattle.atomic_table.proofs.Lists.{at_set, set_else}
use Rattle.ct_history.specs.declared.board.Base.{Base}
use Rattle.ct_history.specs.declared.history.Entry.{Entry}
use Rattle.ct_history.specs.declared.plan.PlanParts.{PlanParts}
use Rattle.ct_history.specs.History.{Running, open_starts, open_start_of_worker}
use Rattle.ct_history.specs.Legal.{is_legal}
use Rattle.ct_history.proofs.LegalLemmas.{legal-nil}
use Rattle.ct_turn.specs.declared.view.Moment.{Moment}
use Rattle.ct_turn.specs.declared.view.Known.{Known}
use Rattle.ct_turn.specs.declared.view.Note.{Note}
use Rattle.ct_turn.specs.Seen.{AddsOwn, Continues, HistoryGoesOn, IsTrueNote, Sight, Suits, has_seen, held_start, is_by, is_noted, opener}
use Rattle.ct_turn.specs.Rule.{Assures, AllAgree, IsOwned, SomeOut, passes_at}
use Rattle.ct_turn.proofs.GoesLemmas.{goes_further, goes_nowhere, noted_is, own_none}
use Rattle.ct_turn.proofs.SeatLemmas.{only_one, set_there}
use Rattle.ct_turn.proofs.StartLemmas.{open_start-own, opened_by, start_stays}

-- what some seat that is out knows still has a property, where one seat that is out has changed and kept it
pub some_set : (P : Known → Type 0) (seats : List Known) (id : ℕ) (k l : Known) → get_elem? seats id ≡ some k → l.is_out ≡ true → (P k → P l) → SomeOut P seats → SomeOut P (set seats id l)
some_set P seats id k l here out same (j, u, at_j, out_u, holds) = dite (ℕ_discrete j id)
    (λ e. let is : u ≡ k = some-injective u k (sym at_j ∙ ap (λ (n : ℕ). get_elem? seats n) e ∙ here) in (id, l, set_there seats id k l here, out, same (subst P is holds)))
    (λ ne. (j, u, set_else seats id j l ne ∙ at_j, out_u, holds))

-- each open start is held by the seat of its worker
pub starts_held : (plan : PlanParts) (now : Moment) (seats : List Known) → is_legal plan now.entries ≡ true → ((j : ℕ) (k : Known) → get_elem? seats j ≡ some k → k.is_out ≡ true → HistoryGoesOn k.worker k.seen.entries now.entries)
    → ((j : ℕ) (k : Known) → get_elem? seats j ≡ some k → k.is_out ≡ true → All (IsTrueNote now.entries k.worker) k.notes) → ((w : ℕ) → IsOwned now.entries seats w)
    → (r : Running) → Contains (open_starts now.entries) r → SomeOut (λ k. (k.worker ≡ r.worker) × (held_start k ≡ Some r)) seats
starts_held plan now seats legal seen noted owned r there =
    let own = open_start-own plan now.entries r legal there in
    elim (owned r.worker) [
      | inl none ↦ absurd (opened_by plan now.entries r legal there none)
      | inr (inl (j, k, at_j, out, is)) ↦
          let stays = start_stays plan k.worker k.seen.entries now.entries legal (seen j k at_j out) in
          (j, k, at_j, out, (is, sym stays ∙ ap (λ (w : ℕ). open_start_of_worker w now.entries) is ∙ own))
      | inr (inr (j, k, at_j, out, is)) ↦
          let t = noted_is (IsTrueNote now.entries k.worker) r.worker k.notes (noted j k at_j out) is in
          let stays = start_stays plan t.0.worker t.0.seen now.entries legal t.2.history in
          let none : open_start_of_worker r.worker now.entries ≡ None = ap (λ (w : ℕ). open_start_of_worker w now.entries) (sym t.1) ∙ stays ∙ t.2.idle in
          let never : None ≡ Some r = sym none ∙ own in
          absurd (cc)
    ]

-- one seat changes, and stands for more or fewer passes
pub passes-set : (seats : List Known) (id : ℕ) (k l : Known) → get_elem? seats id ≡ some k → sum_by passes_at (set seats id l) + passes_at k ≡ sum_by passes_at seats + passes_at l
passes-set [] id k l e = absurd (some-ne-none k (sym e))
passes-set (x ∷ xs) zero k l e =
    let same : passes_at x ≡ passes_at k = ap passes_at (some-injective x k e) in
    let before : sum_by passes_at (x ∷ xs) ≡ passes_at x + sum_by passes_at xs = sum_by-cons passes_at x xs in
    let after : sum_by passes_at (set (x ∷ xs) zero l) ≡ passes_at l + sum_by passes_at xs = sum_by-cons passes_at l xs in
    omega (arith, same, before, after)
passes-set (x ∷ xs) (suc i) k l e =
    let rest = passes-set xs i k l e in
    let before : sum_by passes_at (x ∷ xs) ≡ passes_at x + sum_by passes_at xs = sum_by-cons passes_at x xs in
    let after : sum_by passes_at (set (x ∷ xs) (suc i) l) ≡ passes_at x + sum_by passes_at (set xs i l) = sum_by-cons passes_at x (set xs i l) in
    omega (arith, rest, before, after)

module _ (plan : PlanParts) (base : Base) (now : Moment) (seats : List Known) (id : ℕ) (k : Known) where
  -- the state fits what a worker knows
  pub suits : (state : Sight) → AllAgree plan base now seats → get_elem? seats id ≡ some k → k.is_out ≡ true → state ≡ record { plan = plan; base = base; now = now } → Suits k state
  suits state kept here out is =
      let same = kept.same id k here out in
      let at_now : state.now ≡ now = ap (λ (y : Sight). y.now) is in
      let goes = kept.seen id k here out in
      record {
        plan = ap (λ (y : Sight). y.plan) is ∙ sym same.0;
        base = ap (λ (y : Sight). y.base) is ∙ sym same.1;
        legal = subst (λ (p : PlanParts). is_legal p state.now.entries ≡ true) (sym same.0) (subst (λ (m : Moment). is_legal plan m.entries ≡ true) (sym at_now) kept.legal);
        history = subst (λ (m : Moment). HistoryGoesOn k.worker k.seen.entries m.entries) (sym at_now) goes;
        halted = λ was. ap (λ (m : Moment). m.halted) at_now ∙ kept.halted id k here out was;
        start = ap (λ (m : Moment). open_start_of_worker k.worker m.entries) at_now ∙ start_stays plan k.worker k.seen.entries now.entries kept.legal goes;
      }

  -- a worker whose pass was not made has no entry
  pub unmade_none : (kept : AllAgree plan base now seats) → (w : ℕ) → kept.made ≤ w → list_any (is_by w) now.entries ≡ false
  unmade_none kept w le = elim (kept.owned w) [
    | inl none ↦ none
    | inr (inl (j, u, at_j, out, is)) ↦ let lt = (kept.numbered j u at_j out).0 in absurd (omega (arith, lt, is, le))
    | inr (inr (j, u, at_j, out, is)) ↦ let lt = (kept.numbered j u at_j out).1 w is in absurd (omega (arith, lt, le))
  ]

  -- what a worker may rely on holds
  pub assures : AllAgree plan base now seats → get_elem? seats id ≡ some k → k.is_out ≡ true → Assures k
  assures kept here out = record {
    notes = λ i d lt. (kept.noted id k here out i d lt).kept;
    unmade = λ first w le.
        let goes = kept.seen id k here out in
        let none = unmade_none kept w (let e = kept.counted id k here out first in omega (arith, e, le)) in
        (or_parts (list_any (is_by w) k.seen.entries) (list_any (is_by w) goes.more) (sym (list_any-append (is_by w) k.seen.entries goes.more) ∙ sym (ap (λ (es : List Entry). list_any (is_by w) es) goes.is) ∙ none)).0;
  }

  -- a worker has seen the state that it gives back
  pub kept-give : (taken : Moment) (state : Sight) → AllAgree plan base now seats → get_elem? seats id ≡ some k → k.is_out ≡ true → taken ≡ now → Continues k taken state → AllAgree plan base state.now (set seats id (has_seen k state.now))
  kept-give taken state kept here out at_now fits =
      let later = state.now in
      let l : Known = has_seen k later in
      let adds = subst (λ (m : Moment). AddsOwn k.worker m.entries later.entries) at_now fits.history in
      let legal = subst (λ (p : PlanParts). is_legal p later.entries ≡ true) (kept.same id k here out).0 fits.legal in
      let back : (P : Known → Type 0) → P l → ((j : ℕ) (u : Known) → j ≢ id → get_elem? seats j ≡ some u → u.is_out ≡ true → P u) → (j : ℕ) (u : Known) → get_elem? (set seats id l) j ≡ some u → u.is_out ≡ true → P u =
      λ P own others j u at_j out_u. ⊎_elim (λ there. subst P there.1 own) (λ else. others j u else.0 else.1 out_u) (at_set seats id j l u at_j) in
      let seen = back (λ u. HistoryGoesOn u.worker u.seen.entries later.entries) (goes_nowhere k.worker later.entries)
      (λ j u ne at_j out_u. goes_further k.worker u.worker u.seen.entries now.entries later.entries (λ e. ne (sym (kept.apart id j k here out u at_j out_u e))) (kept.seen j u at_j out_u) adds) in
      let note_further : (j : ℕ) (u : Known) → get_elem? seats j ≡ some u → u.is_out ≡ true → All (IsTrueNote later.entries u.worker) u.notes = λ j u at_j out_u i d lt.
      let note : Note = slice_index_or u.notes i d in
      let old = kept.noted j u at_j out_u i d lt in
      let other : k.worker ≢ note.worker = λ e.
      let there = list_any_at (λ (n : Note). n.worker == k.worker) u.notes i d lt (grind (arith, nat_tests, e)) in
      let never : true ≡ false = sym there ∙ kept.absent j u at_j out_u id k here out in
      cc in
      record { history = goes_further k.worker note.worker note.seen now.entries later.entries other old.history adds; idle = old.idle; kept = old.kept } in
      let noted = back (λ u. All (IsTrueNote later.entries u.worker) u.notes) (note_further id k here out) (λ j u ne at_j out_u. note_further j u at_j out_u) in
      let owned : (w : ℕ) → IsOwned later.entries (set seats id l) w = λ w. dite (ℕ_discrete k.worker w)
      (λ e. inr (inl (id, l, set_there seats id k l here, out, e)))
      (λ ne. elim (kept.owned w) [
        | inl none ↦ inl (ap (λ (es : List Entry). list_any (is_by w) es) adds.is ∙ list_any-append (is_by w) now.entries adds.more ∙ or_from _ _ none (own_none k.worker w adds.more ne adds.own))
        | inr (inl found) ↦ inr (inl (some_set (λ y. y.worker ≡ w) seats id k l here out (λ e. e) found))
        | inr (inr found) ↦ inr (inr (some_set (λ y. is_noted w y.notes ≡ true) seats id k l here out (λ e. e) found))
      ]) in
      let sizes = passes-set seats id k l here in
      record {
        same = back (λ u. (u.plan ≡ plan) × (u.base ≡ base)) (kept.same id k here out) (λ j u ne at_j out_u. kept.same j u at_j out_u);
        legal = legal;
        seen = seen;
        halted = back (λ u. u.seen.halted ≡ true → later.halted ≡ true) (λ was. was) (λ j u ne at_j out_u was. fits.halted (ap (λ (m : Moment). m.halted) at_now ∙ kept.halted j u at_j out_u was));
        exact = (id, l, set_there seats id k l here, out, refl);
        apart = λ i j u at_i out_u v at_j out_v same.
            ⊎_elim (λ there_i.
            ⊎_elim (λ there_j. there_i.0 ∙ sym there_j.0)
            (λ else. there_i.0 ∙ kept.apart id j k here out v else.1 out_v (ap (λ (y : Known). y.worker) there_i.1 ∙ same)) (at_set seats id j l v at_j))
            (λ else. ⊎_elim (λ there_j. kept.apart i id u else.1 out_u k here out (same ∙ sym (ap (λ (y : Known). y.worker) there_j.1)) ∙ sym there_j.0)
            (λ other. kept.apart i j u else.1 out_u v other.1 out_v same) (at_set seats id j l v at_j)) (at_set seats id i l u at_i);
        owned = owned;
        started = starts_held plan later (set seats id l) legal seen noted owned;
        noted = noted;
        absent = back (λ u. (j : ℕ) (v : Known) → get_elem? (set seats id l) j ≡ some v → v.is_out ≡ true → is_noted v.worker u.notes ≡ false)
            (back (λ v. is_noted v.worker k.notes ≡ false) (kept.absent id k here out id k here out) (λ j v ne at_j out_v. kept.absent id k here out j v at_j out_v))
            (λ i u ne at_i out_u. back (λ v. is_noted v.worker u.notes ≡ false) (kept.absent i u at_i out_u id k here out) (λ j v ne_j at_j out_v. kept.absent i u at_i out_u j v at_j out_v));
        made = kept.made;
        numbered = back (λ u. (u.worker < kept.made) × ((w : ℕ) → is_noted w u.notes ≡ true → w < kept.made)) (kept.numbered id k here out) (λ j u ne at_j out_u. kept.numbered j u at_j out_u);
        counted = back (λ u. u.worker ≡ 0 → u.made ≡ kept.made) (kept.counted id k here out) (λ j u ne at_j out_u. kept.counted j u at_j out_u);
        plain = back (λ u. u.worker ≢ 0 → u.notes ≡ []) (kept.plain id k here out) (λ j u ne at_j out_u. kept.plain j u at_j out_u);
        whole = omega (arith, sizes, kept.whole);
      }

-- at the opening one worker knows that nothing has happened
pub kept-open : (plan : PlanParts) (base : Base) (now : Moment) → now.entries ≡ [] → now.halted ≡ false → AllAgree plan base now (opener plan base ∷ [])
kept-open plan base now none going =
    let first : Known = opener plan base in
    let back : (P : Known → Type 0) → P first → (j : ℕ) (u : Known) → get_elem? (first ∷ []) j ≡ some u → u.is_out ≡ true → P u = λ P own j u at_j out. subst P (only_one first u j at_j).1 own in
    let legal : is_legal plan now.entries ≡ true = subst (λ es. is_legal plan es ≡ true) (sym none) (legal-nil plan) in
    let seen = back (λ u. HistoryGoesOn u.worker u.seen.entries now.entries) (subst (λ es. HistoryGoesOn 0 [] es) (sym none) (goes_nowhere 0 [])) in
    let noted = back (λ u. All (IsTrueNote now.entries u.worker) u.notes) (λ i d lt. absurd (omega (arith, lt))) in
    let owned : (w : ℕ) → IsOwned now.entries (first ∷ []) w = λ w. inl (ap (list_any (is_by w)) none) in
    record {
      same = back (λ u. (u.plan ≡ plan) × (u.base ≡ base)) (refl, refl);
      legal = legal;
      seen = seen;
      halted = back (λ u. u.seen.halted ≡ true → now.halted ≡ true) (λ (was : false ≡ true). absurd (cc));
      exact = (0, first, refl, refl, sym none);
      apart = λ i j k at_i out_k l at_j out_l same. (only_one first k i at_i).0 ∙ sym (only_one first l j at_j).0;
      owned = owned;
      started = starts_held plan now (first ∷ []) legal seen noted owned;
      noted = noted;
      absent = back (λ u. (j : ℕ) (v : Known) → get_elem? (first ∷ []) j ≡ some v → v.is_out ≡ true → is_noted v.worker u.notes ≡ false) (λ j v at_j out. refl);
      made = 1;
      numbered = back (λ u. (u.worker < 1) × ((w : ℕ) → is_noted w u.notes ≡ true → w < 1)) (omega arith, λ w (is : false ≡ true). absurd (cc));
      counted = back (λ u. u.worker ≡ 0 → u.made ≡ 1) (λ _. refl);
      plain = back (λ u. u.worker ≢ 0 → u.notes ≡ []) (λ _. refl);
      whole = refl;
    }
