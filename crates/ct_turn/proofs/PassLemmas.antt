-- What the workers know when a pass is made, when one is joined away, and when one is left.
use Rattle.std.proofs.Common.{◌≡◌, ◌≢◌, ◌∙◌, sym, ap, subst, refl, ℕ, ◌+◌, ◌<◌, ◌≤◌, Bool, true, false, List, [], ◌∷◌, ◌++◌, set, length, inl, inr, ⊎_elim, ◌⊎◌, zero, suc, length-append, length-set, arith}
use Rattle.std.specs.Prelude.{Some, None, All, Contains, sum_by, ◌==◌, ◌||◌, cond, slice_index_or}
use Rattle.std.specs.List.{list_any}
use Rattle.std.proofs.lemmas.Bool.{cases_Bool, true≢false, or_parts, or_from}
use Rattle.std.proofs.lemmas.Bool.Decides.{nat_tests}
use Rattle.std.proofs.lemmas.List.Elements.{All-append, All-cons, All-contains, Contains-append_right}
use Rattle.std.proofs.lemmas.List.Folds.{list_any-append}
use Rattle.std.proofs.lemmas.List.Sums.{sum_by-append, sum_by-cons}
use mathlib.Core.Option.{some, some-injective, some-ne-none}
use mathlib.Core.Logic.{dite}
use native.Mathlib.Decide.{ℕ_discrete}
use lib.ListN.{get_elem?}
use Rattle.atomic_table.proofs.Lists.{at_longer, at_set, set_else}
use Rattle.ct_history.specs.declared.board.Base.{Base}
use Rattle.ct_history.specs.declared.history.Entry.{Entry}
use Rattle.ct_history.specs.declared.plan.PlanParts.{PlanParts}
use Rattle.ct_history.specs.History.{Running, open_starts, open_start_of_worker}
use Rattle.ct_history.specs.Legal.{is_legal}
use Rattle.ct_turn.specs.declared.view.Moment.{Moment}
use Rattle.ct_turn.specs.declared.view.Known.{Known}
use Rattle.ct_turn.specs.declared.view.Note.{Note}
use Rattle.ct_turn.specs.Seen.{Closes, HistoryGoesOn, IsKeptBy, IsTrueNote, Sight, held_start, is_by, is_noted, with_joined, nobody, note_of, one_more, split_off}
use Rattle.ct_turn.specs.Rule.{Assures, AllAgree, IsOwned, SomeOut, passes_at}
use Rattle.ct_turn.proofs.GoesLemmas.{goes_longer, longer_whole, none_open}
use Rattle.ct_turn.proofs.KeptLemmas.{passes-set, some_set, starts_held, unmade_none}
use Rattle.ct_turn.proofs.SeatLemmas.{at_behind, set_there}
use Rattle.ct_turn.proofs.StartLemmas.{start_stays}

-- what some seat that is out knows still has a property, with one more seat behind the others
some_behind : (P : Known → Type 0) (seats : List Known) (l : Known) → SomeOut P seats → SomeOut P (seats ++ l ∷ [])
some_behind P seats l (j, u, at_j, out, holds) = (j, u, at_longer seats (l ∷ []) j u at_j, out, holds)

other_worker : (v w : ℕ) → v ≢ w → (v == w) ≡ false
other_worker v w ne = grind (arith, nat_tests, ne)

module _ (plan : PlanParts) (base : Base) (now : Moment) (seats : List Known) (id : ℕ) (k : Known) (kept : AllAgree plan base now seats) (here : get_elem? seats id ≡ some k) (out : k.is_out ≡ true) (first : k.worker ≡ 0) where
  -- a new pass has seen the same, and none of its worker's entries stands anywhere
  pub kept-split : AllAgree plan base now (set seats id (one_more k) ++ split_off k ∷ [])
  kept-split =
      let k' : Known = one_more k in
      let l : Known = split_off k in
      let front = set seats id k' in
      let is_made : k.made ≡ kept.made = kept.counted id k here out first in
      let unmade : list_any (is_by k.made) now.entries ≡ false = unmade_none plan base now seats id k kept k.made (omega (arith, is_made)) in
      let goes = kept.seen id k here out in
      let unmade_more : list_any (is_by k.made) goes.more ≡ false = (or_parts (list_any (is_by k.made) k.seen.entries) (list_any (is_by k.made) goes.more) (sym (list_any-append (is_by k.made) k.seen.entries goes.more) ∙ sym (ap (λ (es : List Entry). list_any (is_by k.made) es) goes.is) ∙ unmade)).1 in
      let size : length seats ≡ length front = sym (length-set seats id k') in
      let back : (P : Known → Type 0) → P k' → P l → ((j : ℕ) (u : Known) → j ≢ id → get_elem? seats j ≡ some u → u.is_out ≡ true → P u) → (j : ℕ) (u : Known) → get_elem? (front ++ l ∷ []) j ≡ some u → u.is_out ≡ true → P u =
      λ P own new others j u at_j out_u. ⊎_elim (λ inside. ⊎_elim (λ there. subst P there.1 own) (λ else. others j u else.0 else.1 out_u) (at_set seats id j k' u inside)) (λ last. subst P last.1 new) (at_behind front l u j at_j) in
      let seen = back (λ u. HistoryGoesOn u.worker u.seen.entries now.entries) goes (record { more = goes.more; is = goes.is; others = unmade_more }) (λ j u ne at_j out_u. kept.seen j u at_j out_u) in
      let noted = back (λ u. All (IsTrueNote now.entries u.worker) u.notes) (kept.noted id k here out) (λ i d lt. absurd (omega (arith, lt))) (λ j u ne at_j out_u. kept.noted j u at_j out_u) in
      let lift : (P : Known → Type 0) → (P k → P k') → SomeOut P seats → SomeOut P (front ++ l ∷ []) = λ P same found. some_behind P front l (some_set P seats id k k' here out same found) in
      let owned : (w : ℕ) → IsOwned now.entries (front ++ l ∷ []) w = λ w. elim (kept.owned w) [
        | inl none ↦ inl none
        | inr (inl found) ↦ inr (inl (lift (λ y. y.worker ≡ w) (λ e. e) found))
        | inr (inr found) ↦ inr (inr (lift (λ y. is_noted w y.notes ≡ true) (λ e. e) found))
      ] in
      let new_unnoted : (j : ℕ) (u : Known) → get_elem? seats j ≡ some u → u.is_out ≡ true → is_noted k.made u.notes ≡ false = λ j u at_j out_u. elim (cases_Bool (is_noted k.made u.notes)) [
        | inl is ↦ let lt = (kept.numbered j u at_j out_u).1 k.made is in absurd (omega (arith, lt, is_made))
        | inr none ↦ none
      ] in
      let older : (j : ℕ) (u : Known) → get_elem? front j ≡ some u → u.is_out ≡ true → u.worker < k.made = λ j u at_j out_u.
      ⊎_elim (λ there. let lt = (kept.numbered id k here out).0 in let e : k.worker ≡ u.worker = ap (λ (y : Known). y.worker) there.1 in omega (arith, lt, e, is_made))
      (λ else. let lt = (kept.numbered j u else.1 out_u).0 in omega (arith, lt, is_made)) (at_set seats id j k' u at_j) in
      let inside_apart : (i j : ℕ) (u v : Known) → get_elem? front i ≡ some u → u.is_out ≡ true → get_elem? front j ≡ some v → v.is_out ≡ true → u.worker ≡ v.worker → i ≡ j = λ i j u v at_i out_u at_j out_v same.
      ⊎_elim (λ there_i.
      ⊎_elim (λ there_j. there_i.0 ∙ sym there_j.0)
      (λ else. there_i.0 ∙ kept.apart id j k here out v else.1 out_v (ap (λ (y : Known). y.worker) there_i.1 ∙ same)) (at_set seats id j k' v at_j))
      (λ else. ⊎_elim (λ there_j. kept.apart i id u else.1 out_u k here out (same ∙ sym (ap (λ (y : Known). y.worker) there_j.1)) ∙ sym there_j.0)
      (λ other. kept.apart i j u else.1 out_u v other.1 out_v same) (at_set seats id j k' v at_j)) (at_set seats id i k' u at_i) in
      let sizes = passes-set seats id k k' here in
      let same_passes : passes_at k' ≡ passes_at k = refl in
      let new_passes : sum_by passes_at (l ∷ []) ≡ 1 = sum_by-cons passes_at l [] ∙ ap (λ (b : Bool). cond b 1 0 + 0) out in
      let all : sum_by passes_at (front ++ l ∷ []) ≡ sum_by passes_at front + sum_by passes_at (l ∷ []) = sum_by-append passes_at front (l ∷ []) in
      record {
        same = back (λ u. (u.plan ≡ plan) × (u.base ≡ base)) (kept.same id k here out) (kept.same id k here out) (λ j u ne at_j out_u. kept.same j u at_j out_u);
        legal = kept.legal;
        seen = seen;
        halted = back (λ u. u.seen.halted ≡ true → now.halted ≡ true) (kept.halted id k here out) (kept.halted id k here out) (λ j u ne at_j out_u. kept.halted j u at_j out_u);
        exact = lift (λ u. u.seen.entries ≡ now.entries) (λ e. e) kept.exact;
        apart = λ i j u at_i out_u v at_j out_v same.
            ⊎_elim (λ in_i.
            ⊎_elim (λ in_j. inside_apart i j u v in_i out_u in_j out_v same)
            (λ last_j. let lt = older i u in_i out_u in let e : k.made ≡ v.worker = ap (λ (y : Known). y.worker) last_j.1 in absurd (omega (arith, lt, e, same))) (at_behind front l v j at_j))
            (λ last_i.
            ⊎_elim (λ in_j. let lt = older j v in_j out_v in let e : k.made ≡ u.worker = ap (λ (y : Known). y.worker) last_i.1 in absurd (omega (arith, lt, e, same)))
            (λ last_j. last_i.0 ∙ sym last_j.0) (at_behind front l v j at_j)) (at_behind front l u i at_i);
        owned = owned;
        started = starts_held plan now (front ++ l ∷ []) kept.legal seen noted owned;
        noted = noted;
        absent = back (λ u. (j : ℕ) (v : Known) → get_elem? (front ++ l ∷ []) j ≡ some v → v.is_out ≡ true → is_noted v.worker u.notes ≡ false)
            (back (λ v. is_noted v.worker k.notes ≡ false) (kept.absent id k here out id k here out) (new_unnoted id k here out) (λ j v ne at_j out_v. kept.absent id k here out j v at_j out_v))
            (λ j v at_j out_v. refl)
            (λ i u ne at_i out_u. back (λ v. is_noted v.worker u.notes ≡ false) (kept.absent i u at_i out_u id k here out) (new_unnoted i u at_i out_u) (λ j v ne_j at_j out_v. kept.absent i u at_i out_u j v at_j out_v));
        made = kept.made + 1;
        numbered = back (λ u. (u.worker < kept.made + 1) × ((w : ℕ) → is_noted w u.notes ≡ true → w < kept.made + 1))
            (let lt = (kept.numbered id k here out).0 in omega (arith, lt), λ w is. let lt = (kept.numbered id k here out).1 w is in omega (arith, lt))
            (omega (arith, is_made), λ w (is : false ≡ true). absurd (cc))
            (λ j u ne at_j out_u. (let lt = (kept.numbered j u at_j out_u).0 in omega (arith, lt), λ w is. let lt = (kept.numbered j u at_j out_u).1 w is in omega (arith, lt)));
        counted = back (λ u. u.worker ≡ 0 → u.made ≡ kept.made + 1) (λ _. omega (arith, is_made)) (λ zero_made. let lt = (kept.numbered id k here out).0 in absurd (omega (arith, zero_made, is_made, lt)))
            (λ j u ne at_j out_u zero_worker. absurd (ne (kept.apart j id u at_j out_u k here out (zero_worker ∙ sym first))));
        plain = back (λ u. u.worker ≢ 0 → u.notes ≡ []) (kept.plain id k here out) (λ _. refl) (λ j u ne at_j out_u. kept.plain j u at_j out_u);
        whole = omega (arith, sizes, same_passes, new_passes, all, kept.whole);
      }

  -- a pass is joined away: the keeper has seen the longer history, and notes the other's worker
  module _ (o : ℕ) (l : Known) (there : get_elem? seats o ≡ some l) (out_l : l.is_out ≡ true) (ne : o ≢ id) (idle : held_start l ≡ None) where
    abbrev k' : Known
    k' = with_joined k l

    abbrev after : List Known
    after = set (set seats id k') o nobody

    other_is : l.worker ≢ 0
    other_is e = ne (kept.apart o id l there out_l k here out (e ∙ sym first))

    places : (j : ℕ) (u : Known) → get_elem? after j ≡ some u → u.is_out ≡ true → ((j ≡ id) × (k' ≡ u)) ⊎ ((j ≢ id) × (j ≢ o) × (get_elem? seats j ≡ some u))
    places j u at_j out_u =
        ⊎_elim (λ gone. absurd (true≢false (sym (ap (λ (y : Known). y.is_out) gone.1 ∙ out_u))))
        (λ left. ⊎_elim (λ is_id. inl is_id) (λ else. inr (else.0, left.0, else.1)) (at_set seats id j k' u left.1)) (at_set (set seats id k') o j nobody u at_j)

    back : (P : Known → Type 0) → P k' → ((j : ℕ) (u : Known) → j ≢ id → j ≢ o → get_elem? seats j ≡ some u → u.is_out ≡ true → P u) → (j : ℕ) (u : Known) → get_elem? after j ≡ some u → u.is_out ≡ true → P u
    back P own others j u at_j out_u = ⊎_elim (λ is_id. subst P is_id.1 own) (λ else. others j u else.0 else.1 else.2 out_u) (places j u at_j out_u)

    kept_at : get_elem? after id ≡ some k'
    kept_at = set_else (set seats id k') o id nobody (λ e. ne (sym e)) ∙ set_there seats id k k' here

    lift_at : (P : Known → Type 0) → (P k → P k') → (j : ℕ) (u : Known) → get_elem? seats j ≡ some u → u.is_out ≡ true → P u → j ≢ o → SomeOut P after
    lift_at P same j u at_j out_u holds not_o = dite (ℕ_discrete j id)
        (λ e. let is : u ≡ k = some-injective u k (sym at_j ∙ ap (λ (n : ℕ). get_elem? seats n) e ∙ here) in (id, k', kept_at, out, same (subst P is holds)))
        (λ not_id. (j, u, set_else (set seats id k') o j nobody not_o ∙ set_else seats id j k' not_id ∙ at_j, out_u, holds))

    lift : (P : Known → Type 0) → (P k → P k') → (P l → SomeOut P after) → SomeOut P seats → SomeOut P after
    lift P same moved (j, u, at_j, out_u, holds) = dite (ℕ_discrete j o)
        (λ e. let is : u ≡ l = some-injective u l (sym at_j ∙ ap (λ (n : ℕ). get_elem? seats n) e ∙ there) in moved (subst P is holds))
        (λ not_o. lift_at P same j u at_j out_u holds not_o)

    noted_more : (w : ℕ) → is_noted w k'.notes ≡ (is_noted w k.notes || (l.worker == w || false))
    noted_more w = list_any-append (λ (n : Note). n.worker == w) k.notes (note_of k l ∷ [])

    still_noted : (w : ℕ) → is_noted w k.notes ≡ true → is_noted w k'.notes ≡ true
    still_noted w is = noted_more w ∙ ap (λ (b : Bool). b || (l.worker == w || false)) is

    now_noted : is_noted l.worker k'.notes ≡ true
    now_noted = noted_more l.worker ∙ (let same : (l.worker == l.worker) ≡ true = grind (arith, nat_tests) in by_first (is_noted l.worker k.notes) (l.worker == l.worker) same)
      where
        by_first : (a b : Bool) → b ≡ true → (a || (b || false)) ≡ true
        by_first true b is = refl
        by_first false b is = ap (λ (c : Bool). c || false) is

    unnoted_more : (w : ℕ) → is_noted w k.notes ≡ false → l.worker ≢ w → is_noted w k'.notes ≡ false
    unnoted_more w none other = noted_more w ∙ or_from (is_noted w k.notes) (l.worker == w || false) none (or_from (l.worker == w) false (other_worker l.worker w other) refl)

    goes : HistoryGoesOn k.worker k.seen.entries k'.seen.entries × HistoryGoesOn k.worker k'.seen.entries now.entries
    goes = goes_longer k.worker l.worker k.seen.entries l.seen.entries now.entries (kept.seen id k here out) (kept.seen o l there out_l)

    held_longer : open_start_of_worker k.worker k'.seen.entries ≡ open_start_of_worker k.worker k.seen.entries
    held_longer =
        sym (start_stays plan k.worker k'.seen.entries now.entries kept.legal goes.1) ∙ start_stays plan k.worker k.seen.entries now.entries kept.legal (kept.seen id k here out)

    either_halted : (a b c : Bool) → (a ≡ true → c ≡ true) → (b ≡ true → c ≡ true) → (a || b) ≡ true → c ≡ true
    either_halted true b c one other is = one refl
    either_halted false b c one other is = other is

    all_seen : (k.seen.entries ≡ now.entries) ⊎ (l.seen.entries ≡ now.entries) → k'.seen.entries ≡ now.entries
    all_seen one = longer_whole k.worker l.worker k.seen.entries l.seen.entries now.entries (kept.seen id k here out) (kept.seen o l there out_l) one

    one_fewer : sum_by passes_at after ≡ sum_by passes_at seats
    one_fewer =
        let at_l : get_elem? (set seats id k') o ≡ some l = set_else seats id o k' ne ∙ there in
        let a = passes-set seats id k k' here in
        let b = passes-set (set seats id k') o l nobody at_l in
        let keeper : passes_at k ≡ 1 + length k.notes = ap (λ (c : Bool). cond c (1 + length k.notes) 0) out in
        let more : length k'.notes ≡ length k.notes + 1 = length-append k.notes (note_of k l ∷ []) in
        let keeper' : passes_at k' ≡ 1 + length k'.notes = ap (λ (c : Bool). cond c (1 + length k'.notes) 0) out in
        let other : passes_at l ≡ 1 = ap (λ (c : Bool). cond c (1 + length l.notes) 0) out_l ∙ ap (λ (ns : List Note). 1 + length ns) (kept.plain o l there out_l other_is) in
        let gone : passes_at nobody ≡ 0 = refl in
        omega (arith, a, b, keeper, more, keeper', other, gone)

    below : (w : ℕ) → is_noted w k'.notes ≡ true → w < kept.made
    below w is = elim (cases_Bool (is_noted w k.notes)) [
      | inl before ↦ (kept.numbered id k here out).1 w before
      | inr none ↦ dite (ℕ_discrete l.worker w)
          (λ e. subst (λ (v : ℕ). v < kept.made) e (kept.numbered o l there out_l).0)
          (λ other. absurd (true≢false (sym is ∙ unnoted_more w none other)))
    ]

    pub kept-join : AllAgree plan base now (set (set seats id (with_joined k l)) o nobody)
    kept-join =
        let seen = back (λ u. HistoryGoesOn u.worker u.seen.entries now.entries) goes.1 (λ j u ne_id ne_o at_j out_u. kept.seen j u at_j out_u) in
        let new_note : IsTrueNote now.entries k.worker (note_of k l) = record { history = kept.seen o l there out_l; idle = idle; kept = record { own = goes.0; held = held_longer } } in
        let noted = back (λ u. All (IsTrueNote now.entries u.worker) u.notes)
        (All-append (IsTrueNote now.entries k.worker) k.notes (note_of k l ∷ []) (kept.noted id k here out) (All-cons (IsTrueNote now.entries k.worker) (note_of k l) [] new_note (λ i d lt. absurd (omega (arith, lt)))))
        (λ j u ne_id ne_o at_j out_u. kept.noted j u at_j out_u) in
        let owned : (w : ℕ) → IsOwned now.entries after w = λ w. elim (kept.owned w) [
          | inl none ↦ inl none
          | inr (inl (j, u, at_j, out_u, is)) ↦ dite (ℕ_discrete j o)
              (λ e. let same : u ≡ l = some-injective u l (sym at_j ∙ ap (λ (n : ℕ). get_elem? seats n) e ∙ there) in inr (inr (id, k', kept_at, out, subst (λ (v : ℕ). is_noted v k'.notes ≡ true) (ap (λ (y : Known). y.worker) (sym same) ∙ is) now_noted)))
              (λ not_o. inr (inl (lift_at (λ y. y.worker ≡ w) (λ e. e) j u at_j out_u is not_o)))
          | inr (inr found) ↦ inr (inr (lift (λ y. is_noted w y.notes ≡ true) (still_noted w) (λ is. absurd (true≢false (sym is ∙ ap (is_noted w) (kept.plain o l there out_l other_is)))) found))
        ] in
        let absent_from : (j : ℕ) (v : Known) → get_elem? after j ≡ some v → v.is_out ≡ true → is_noted v.worker k'.notes ≡ false =
        back (λ v. is_noted v.worker k'.notes ≡ false) (unnoted_more k.worker (kept.absent id k here out id k here out) (λ e. ne (kept.apart o id l there out_l k here out e)))
        (λ j v ne_id ne_o at_j out_v. unnoted_more v.worker (kept.absent id k here out j v at_j out_v) (λ e. ne_o (sym (kept.apart o j l there out_l v at_j out_v e)))) in
        record {
          same = back (λ u. (u.plan ≡ plan) × (u.base ≡ base)) (kept.same id k here out) (λ j u ne_id ne_o at_j out_u. kept.same j u at_j out_u);
          legal = kept.legal;
          seen = seen;
          halted = back (λ u. u.seen.halted ≡ true → now.halted ≡ true) (either_halted k.seen.halted l.seen.halted now.halted (kept.halted id k here out) (kept.halted o l there out_l)) (λ j u ne_id ne_o at_j out_u. kept.halted j u at_j out_u);
          exact = lift (λ u. u.seen.entries ≡ now.entries) (λ e. all_seen (inl e)) (λ e. (id, k', kept_at, out, all_seen (inr e))) kept.exact;
          apart = λ i j u at_i out_u v at_j out_v same.
              ⊎_elim (λ is_i.
              ⊎_elim (λ is_j. is_i.0 ∙ sym is_j.0)
              (λ else. is_i.0 ∙ kept.apart id j k here out v else.2 out_v (ap (λ (y : Known). y.worker) is_i.1 ∙ same)) (places j v at_j out_v))
              (λ else. ⊎_elim (λ is_j. kept.apart i id u else.2 out_u k here out (same ∙ sym (ap (λ (y : Known). y.worker) is_j.1)) ∙ sym is_j.0)
              (λ other. kept.apart i j u else.2 out_u v other.2 out_v same) (places j v at_j out_v)) (places i u at_i out_u);
          owned = owned;
          started = starts_held plan now after kept.legal seen noted owned;
          noted = noted;
          absent = back (λ u. (j : ℕ) (v : Known) → get_elem? after j ≡ some v → v.is_out ≡ true → is_noted v.worker u.notes ≡ false) absent_from
              (λ i u ne_id ne_o at_i out_u. back (λ v. is_noted v.worker u.notes ≡ false) (kept.absent i u at_i out_u id k here out) (λ j v ne_j ne_oj at_j out_v. kept.absent i u at_i out_u j v at_j out_v));
          made = kept.made;
          numbered = back (λ u. (u.worker < kept.made) × ((w : ℕ) → is_noted w u.notes ≡ true → w < kept.made))
              ((kept.numbered id k here out).0, λ w is. below w is)
              (λ j u ne_id ne_o at_j out_u. kept.numbered j u at_j out_u);
          counted = back (λ u. u.worker ≡ 0 → u.made ≡ kept.made) (kept.counted id k here out) (λ j u ne_id ne_o at_j out_u. kept.counted j u at_j out_u);
          plain = back (λ u. u.worker ≢ 0 → u.notes ≡ []) (λ not_first. absurd (not_first first)) (λ j u ne_id ne_o at_j out_u. kept.plain j u at_j out_u);
          whole = one_fewer ∙ kept.whole;
        }

-- a seat stands for at most as many passes as all seats do
one_pass : (seats : List Known) (j : ℕ) (k : Known) → get_elem? seats j ≡ some k → passes_at k ≤ sum_by passes_at seats
one_pass [] j k e = absurd (some-ne-none k (sym e))
one_pass (x ∷ xs) zero k e =
    let same : passes_at x ≡ passes_at k = ap passes_at (some-injective x k e) in
    omega (arith, same, sum_by-cons passes_at x xs)
one_pass (x ∷ xs) (suc j) k e = omega (arith, sum_by-cons passes_at x xs, one_pass xs j k e)

-- two seats stand for at most as many passes as all seats do
two_passes : (seats : List Known) (i j : ℕ) (k l : Known) → get_elem? seats i ≡ some k → get_elem? seats j ≡ some l → i ≢ j → passes_at k + passes_at l ≤ sum_by passes_at seats
two_passes [] i j k l at_i at_j ne = absurd (some-ne-none k (sym at_i))
two_passes (x ∷ xs) zero zero k l at_i at_j ne = absurd (ne refl)
two_passes (x ∷ xs) zero (suc j) k l at_i at_j ne =
    let same : passes_at x ≡ passes_at k = ap passes_at (some-injective x k at_i) in
    omega (arith, same, sum_by-cons passes_at x xs, one_pass xs j l at_j)
two_passes (x ∷ xs) (suc i) zero k l at_i at_j ne =
    let same : passes_at x ≡ passes_at l = ap passes_at (some-injective x l at_j) in
    omega (arith, same, sum_by-cons passes_at x xs, one_pass xs i k at_i)
two_passes (x ∷ xs) (suc i) (suc j) k l at_i at_j ne =
    omega (arith, sum_by-cons passes_at x xs, two_passes xs i j k l at_i at_j (λ e. ne (ap suc e)))

none_contained : (rs : List Running) → ((r : Running) → Contains rs r → ⊥) → rs ≡ []
none_contained [] none = refl
none_contained (r ∷ rs) none = absurd (none r (0, omega arith, refl))

module _ (plan : PlanParts) (base : Base) (now : Moment) (seats : List Known) (id : ℕ) (k : Known) (kept : AllAgree plan base now seats) (here : get_elem? seats id ≡ some k) (out : k.is_out ≡ true) (first : k.worker ≡ 0) (all : length k.notes + 1 ≡ k.made) where
  -- where each pass that was made was joined away, one seat is out
  pub only_out : (j : ℕ) (u : Known) → get_elem? seats j ≡ some u → u.is_out ≡ true → j ≡ id
  only_out j u at_j out_u = dite (ℕ_discrete j id)
      (λ e. e)
      (λ ne.
      let both = two_passes seats id j k u here at_j (λ e. ne (sym e)) in
      let own : passes_at k ≡ 1 + length k.notes = ap (λ (c : Bool). cond c (1 + length k.notes) 0) out in
      let other : passes_at u ≡ 1 + length u.notes = ap (λ (c : Bool). cond c (1 + length u.notes) 0) out_u in
      absurd (omega (arith, both, own, other, all, kept.counted id k here out first, kept.whole)))

  only_known : (j : ℕ) (u : Known) → get_elem? seats j ≡ some u → u.is_out ≡ true → u ≡ k
  only_known j u at_j out_u = some-injective u k (sym at_j ∙ ap (λ (n : ℕ). get_elem? seats n) (only_out j u at_j out_u) ∙ here)

  -- the state at the end is what the worker that is left has seen
  pub closes : (state : Sight) → state ≡ record { plan = plan; base = base; now = now } → held_start k ≡ None → Closes k state
  closes state is idle =
      let same = kept.same id k here out in
      let at_now : state.now ≡ now = ap (λ (y : Sight). y.now) is in
      let seen : now.entries ≡ k.seen.entries = by_one kept.exact in
      record {
        plan = ap (λ (y : Sight). y.plan) is ∙ sym same.0;
        base = ap (λ (y : Sight). y.base) is ∙ sym same.1;
        legal = subst (λ (p : PlanParts). is_legal p state.now.entries ≡ true) (sym same.0) (subst (λ (m : Moment). is_legal plan m.entries ≡ true) (sym at_now) kept.legal);
        history = ap (λ (m : Moment). m.entries) at_now ∙ seen;
        halted = λ was. ap (λ (m : Moment). m.halted) at_now ∙ kept.halted id k here out was;
        notes = λ i d lt. subst (λ (m : Moment). HistoryGoesOn (slice_index_or k.notes i d).worker (slice_index_or k.notes i d).seen m.entries) (sym at_now) (kept.noted id k here out i d lt).history;
        owners = λ w other none. ap (λ (m : Moment). list_any (is_by w) m.entries) at_now ∙ by_owner w other none (kept.owned w);
        idle = ap (λ (m : Moment). open_starts m.entries) at_now ∙ none_contained (open_starts now.entries) (λ r inside. by_holder r (kept.started r inside));
      }
    where
      by_one : SomeOut (λ u. u.seen.entries ≡ now.entries) seats → now.entries ≡ k.seen.entries
      by_one (j, u, at_j, out_u, all_seen) = sym all_seen ∙ ap (λ (y : Known). y.seen.entries) (only_known j u at_j out_u)

      by_owner : (w : ℕ) → w ≢ k.worker → is_noted w k.notes ≡ false → IsOwned now.entries seats w → list_any (is_by w) now.entries ≡ false
      by_owner w other none (inl is_none) = is_none
      by_owner w other none (inr (inl (j, u, at_j, out_u, by))) = absurd (other (sym by ∙ ap (λ (y : Known). y.worker) (only_known j u at_j out_u)))
      by_owner w other none (inr (inr (j, u, at_j, out_u, noted))) = absurd (true≢false (sym noted ∙ ap (λ (y : Known). is_noted w y.notes) (only_known j u at_j out_u) ∙ none))

      by_holder : (r : Running) → SomeOut (λ u. (u.worker ≡ r.worker) × (held_start u ≡ Some r)) seats → ⊥
      by_holder r (j, u, at_j, out_u, holds) = let never : None ≡ Some r = sym idle ∙ ap held_start (sym (only_known j u at_j out_u)) ∙ holds.1 in cc

-- where a pass was joined away, its note is kept by the keeper
pub as_noted : (k l : Known) → Assures (with_joined k l) → IsKeptBy k.worker (note_of k l)
as_noted k l assures =
    All-contains (IsKeptBy k.worker) (with_joined k l).notes (note_of k l) assures.notes
    (Contains-append_right k.notes (note_of k l ∷ []) (note_of k l) (0, omega arith, refl))

-- a new pass holds no start
pub split_idle : (k : Known) → k.worker ≡ 0 → Assures k → held_start (split_off k) ≡ None
split_idle k first assures = none_open k.made k.seen.entries (assures.unmade first k.made (omega arith))
