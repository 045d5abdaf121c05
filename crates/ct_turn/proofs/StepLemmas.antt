-- Each step of a turn keeps its rule.
use Rattle.std.proofs.Common.{◌≡◌, ◌≢◌, ◌∙◌, sym, ap, subst, refl, ℕ, ◌+◌, ◌%◌, ◌^◌, eqb, Bool, true, false, List, [], ◌∷◌, ◌++◌, map, length, get_or, set, inl, inr, ⊎_elim, length-set, get_or-set_same, get_or-set_other, arith}
use Rattle.std.specs.Prelude.{Option, Some, None, IsSomeAnd}
use Rattle.std.proofs.lemmas.List.{map-append, map-set, set-get_or}
use mathlib.Core.Option.{some, some-injective, none as nothing, Option as Maybe}
use mathlib.Core.Logic.{dite}
use native.Mathlib.Decide.{ℕ_discrete}
use prog.Atomic.{either}
use lib.ListN.{get_elem?}
use Rattle.atomic_table.specs.Table.{State, Me, Allows, keeps, takes, gives, opening, Final, Joins, Seen, Splits}
use Rattle.atomic_table.proofs.Lists.{at_longer, at_map, at_set, exchanged, set_again, set_else, set_here}
use Rattle.ct_turn.specs.declared.view.Moment.{Moment}
use Rattle.ct_turn.specs.declared.view.Known.{Known}
use Rattle.ct_turn.specs.declared.view.View.{View}
use Rattle.ct_turn.specs.Seen.{Closes, Continues, Sight, held_start, with_joined, nobody, one_more}
use Rattle.ct_turn.specs.Rule.{first_view, new_view, spent_view, Counted, Looked, GivenBack, AllAgree, IsOrderly, Lent, Taken, Tried, known_at, with_turn, without_turn}
use Rattle.ct_turn.proofs.SeatLemmas.{at_behind, only_one, same_known, set_there}
use Rattle.ct_turn.proofs.KeptLemmas.{assures, kept-give, kept-open, suits}
use Rattle.ct_turn.proofs.PassLemmas.{closes, kept-join, kept-split, only_out}

none_of : {A : Type 0} (o : Option A) → ((a : A) → o ≡ Some a → ⊥) → o ≡ None
none_of None never = refl
none_of (Some a) never = absurd (never a refl)

none_some : {A : Type 0} (o : Option A) (a : A) → o ≡ None → o ≡ Some a → ⊥
none_some o a none some_a = let no : None ≡ Some a = sym none ∙ some_a in cc

module _ {T : Type 0} (see : T → Sight) (opened : T) where
  take-keeps : (s : State (Option T) View) (id : ℕ) (v : View) (x : T) (n : ℕ) → (g : IsOrderly see opened s) → get_or s.words 0 0 ≡ 0 → n ≢ 0 → get_elem? s.views id ≡ some v → v.known.is_out ≡ true → (see x).now ≡ g.now
      → IsOrderly see opened (record { words = set s.words 0 n; homes = set s.homes 0 nothing; views = set s.views id (with_turn v (see x).now) })
  take-keeps s id v x n g zero held me out now =
      let is : get_or (set s.words 0 n) 0 0 ≡ n = get_or-set_same s.words 0 n 0 (omega (arith, g.words)) in
      let w : View = with_turn v (see x).now in
      record {
        words = length-set s.words 0 n ∙ g.words;
        now = g.now;
        idle = λ e. absurd (held (sym is ∙ e));
        busy = λ _. (id, w, (see x).now, set_there s.views id v w me, refl);
        lone = λ i j u t m k at_i at_j has_u has_t.
            ⊎_elim (λ here. ⊎_elim (λ there. here.0 ∙ sym there.0) (λ else. absurd (none_some t.taken k (g.idle zero j t else.1) has_t)) (at_set s.views id j w t at_j))
            (λ else. absurd (none_some u.taken m (g.idle zero i u else.1) has_u)) (at_set s.views id i w u at_i);
        held = λ j u m at_j has_u.
            ⊎_elim (λ here. let e : Some (see x).now ≡ Some m = ap (λ (y : View). y.taken) here.1 ∙ has_u in let f : (see x).now ≡ m = cc in (sym f ∙ now, subst (λ (y : View). y.known.is_out ≡ true) here.1 out))
            (λ else. absurd (none_some u.taken m (g.idle zero j u else.1) has_u)) (at_set s.views id j w u at_j);
        empty = λ j u m at_j has_u lent.
            ⊎_elim (λ here. let e : false ≡ true = ap (λ (y : View). y.is_lent) here.1 ∙ lent in absurd (cc))
            (λ else. absurd (none_some u.taken m (g.idle zero j u else.1) has_u)) (at_set s.views id j w u at_j);
        home = λ e. absurd (held (sym is ∙ e));
        kept = subst (λ ks. AllAgree (see opened).plan (see opened).base g.now ks) (sym (same_known s.views id v w me refl)) g.kept;
      }

  -- the word of a turn that is held changes, and the turn stays held
  held-keeps : (s : State (Option T) View) (n : ℕ) → (g : IsOrderly see opened s) → get_or s.words 0 0 ≢ 0 → n ≢ 0 → IsOrderly see opened (record { words = set s.words 0 n; homes = s.homes; views = s.views })
  held-keeps s n g held stays =
      let is : get_or (set s.words 0 n) 0 0 ≡ n = get_or-set_same s.words 0 n 0 (omega (arith, g.words)) in
      record {
        words = length-set s.words 0 n ∙ g.words;
        now = g.now;
        idle = λ e. absurd (stays (sym is ∙ e));
        busy = λ _. g.busy held;
        lone = g.lone;
        held = g.held;
        empty = g.empty;
        home = λ e. absurd (stays (sym is ∙ e));
        kept = g.kept;
      }

  -- a try makes a free turn held, and leaves a held one held
  pub takes-turn : (id : ℕ) (m : Me (Option T) View) (f : ℕ → ℕ) → f 0 ≢ 0 → ((n : ℕ) → n ≢ 0 → f n ≢ 0) → m.0.known.is_out ≡ true → Allows (IsOrderly see opened) 1 id m 0 f (Tried see m)
  takes-turn id m f up stays out s g wide me small = dite (ℕ_discrete (get_or s.words 0 0) 0)
      (λ zero.
      let t = g.home zero in
      let now : (see t.0).now ≡ g.now = ap (λ (y : Sight). y.now) t.2 in (
        with_turn m.0 (see t.0).now,
        takes 0 (Some t.0),
        t.1,
        take-keeps s id m.0 t.0 (f (get_or s.words 0 0)) g zero (λ e. up (ap f (sym zero) ∙ e)) me out now,
        inl (zero, (t.0, refl, suits (see opened).plan (see opened).base g.now (map known_at s.views) id m.0.known (see t.0) g.kept (at_map known_at s.views id m.0 me) out t.2)),
      ))
      (λ held. (
        m.0,
        keeps,
        tt,
        subst (λ views. IsOrderly see opened (record { words = set s.words 0 (f (get_or s.words 0 0)); homes = s.homes; views = views })) (sym (set_again s.views id m.0 me)) (held-keeps s (f (get_or s.words 0 0)) g held (stays (get_or s.words 0 0) held)),
        inr (omega (arith, held), refl),
      ))

  module _ (s : State (Option T) View) (id : ℕ) (v : View) (t : Moment) (g : IsOrderly see opened s) (me : get_elem? s.views id ≡ some v) (has : v.taken ≡ Some t) where
    -- while a seat has the turn, the word is not 0
    not_free : get_or s.words 0 0 ≢ 0
    not_free e = none_some v.taken t (g.idle e id v me) has

    -- the rule stays where the holder's `is_lent` or the place of the slot changes, and word 0 does not
    slot-keeps : (words : List ℕ) (homes : List (Maybe (Option T))) (lent : Bool) → length words ≡ 2 → get_or words 0 0 ≡ get_or s.words 0 0 → (lent ≡ true → get_elem? homes 0 ≡ some (some None))
        → IsOrderly see opened (record { words = words; homes = homes; views = set s.views id (record v { is_lent = lent }) })
    slot-keeps words homes lent two same slot =
        let w : View = record v { is_lent = lent } in
        record {
          words = two;
          now = g.now;
          idle = λ e. absurd (not_free (sym same ∙ e));
          busy = λ _. (id, w, t, set_there s.views id v w me, has);
          lone = λ i j u x m k at_i at_j has_u has_x.
              ⊎_elim (λ here.
              ⊎_elim (λ there. here.0 ∙ sym there.0)
              (λ else. absurd (else.0 (sym (g.lone id j v x t k me else.1 has has_x)))) (at_set s.views id j w x at_j))
              (λ else. absurd (else.0 (sym (g.lone id i v u t m me else.1 has has_u)))) (at_set s.views id i w u at_i);
          held = λ j u m at_j has_u.
              ⊎_elim (λ here. let t = g.held id v m me (ap (λ (y : View). y.taken) here.1 ∙ has_u) in (t.0, subst (λ (y : View). y.known.is_out ≡ true) here.1 t.1))
              (λ else. g.held j u m else.1 has_u) (at_set s.views id j w u at_j);
          empty = λ j u m at_j has_u is_lent.
              ⊎_elim (λ here. slot (ap (λ (y : View). y.is_lent) here.1 ∙ is_lent))
              (λ else. absurd (else.0 (sym (g.lone id j v u t m me else.1 has has_u)))) (at_set s.views id j w u at_j);
          home = λ e. absurd (not_free (sym same ∙ e));
          kept = subst (λ ks. AllAgree (see opened).plan (see opened).base g.now ks) (sym (same_known s.views id v w me refl)) g.kept;
        }

    give-keeps : (x : T) (homes : List (Maybe (Option T))) → Continues v.known t (see x) → v.known.is_out ≡ true → get_elem? homes 0 ≡ some (some (Some x))
        → IsOrderly see opened (record { words = set s.words 0 0; homes = homes; views = set s.views id (without_turn v (see x).now) })
    give-keeps x homes fits out slot =
        let is : get_or (set s.words 0 0) 0 0 ≡ 0 = get_or-set_same s.words 0 0 0 (omega (arith, g.words)) in
        let w : View = without_turn v (see x).now in
        let same = g.kept.same id v.known (at_map known_at s.views id v me) out in
        let no_turn : (j : ℕ) (u : View) → get_elem? (set s.views id w) j ≡ some u → (m : Moment) → u.taken ≡ Some m → ⊥ = λ j u at_j m has_u.
        ⊎_elim (λ here. none_some u.taken m (sym (ap (λ (y : View). y.taken) here.1)) has_u)
        (λ else. else.0 (sym (g.lone id j v u t m me else.1 has has_u))) (at_set s.views id j w u at_j) in
        record {
          words = length-set s.words 0 0 ∙ g.words;
          now = (see x).now;
          idle = λ e j u at_j. none_of u.taken (no_turn j u at_j);
          busy = λ ne. absurd (ne is);
          lone = λ i j u y m k at_i at_j has_u has_y. absurd (no_turn i u at_i m has_u);
          held = λ j u m at_j has_u. absurd (no_turn j u at_j m has_u);
          empty = λ j u m at_j has_u lent. absurd (no_turn j u at_j m has_u);
          home = λ e. (x, slot, λ i. record { plan = (fits.plan ∙ same.0) i; base = (fits.base ∙ same.1) i; now = (see x).now });
          kept = subst (λ ks. AllAgree (see opened).plan (see opened).base (see x).now ks) (sym (map-set known_at s.views id w))
              (kept-give (see opened).plan (see opened).base g.now (map known_at s.views) id v.known t (see x) g.kept (at_map known_at s.views id v me) out (g.held id v t me has).0 fits);
        }

  -- the empty slot is put back
  pub lends-slot : (id : ℕ) (v : View) (t : Moment) (m : Me (Option T) View) → m ≡ (v, (0, None) ∷ []) → v.taken ≡ Some t → Allows (IsOrderly see opened) 1 id m 0 (λ n. n) (λ found n. Lent m n)
  lends-slot id v t m is has = subst (λ (x : Me (Option T) View). Allows (IsOrderly see opened) 1 id x 0 (λ n. n) (λ found n. Lent x n)) (sym is)
      (λ s g wide me small. (
        record v { is_lent = true },
        gives,
        tt,
        slot-keeps s id v t g me has (set s.words 0 (get_or s.words 0 0)) (set s.homes 0 (some None)) true (length-set s.words 0 (get_or s.words 0 0) ∙ g.words) (ap (λ (l : List ℕ). get_or l 0 0) (set-get_or s.words 0 0)) (λ _. set_here s.homes 0 (some None) (omega (arith, wide))),
        refl,
      ))

  -- the round is counted, and the empty slot is taken
  pub counts-round : (id : ℕ) (v : View) (t : Moment) (k : ℕ) (m : Me (Option T) View) → m ≡ (v, []) → v.taken ≡ Some t → v.is_lent ≡ true → Allows (IsOrderly see opened) 1 id m 1 (λ n. (n + k) % 2 ^ 64) (λ found n. Counted m n)
  counts-round id v t k m is has lent = subst (λ (x : Me (Option T) View). Allows (IsOrderly see opened) 1 id x 1 (λ n. (n + k) % 2 ^ 64) (λ found n. Counted x n)) (sym is)
      (λ s g wide me small. (
        record v { is_lent = false },
        takes 0 None,
        g.empty id v t me has lent,
        slot-keeps s id v t g me has (set s.words 1 ((get_or s.words 1 0 + k) % 2 ^ 64)) (set s.homes 0 nothing) false (length-set s.words 1 ((get_or s.words 1 0 + k) % 2 ^ 64) ∙ g.words) (get_or-set_other s.words 1 0 ((get_or s.words 1 0 + k) % 2 ^ 64) 0 (λ e. omega (arith, e))) (λ e. absurd (cc)),
        refl,
      ))

  -- the turn becomes free
  pub frees-turn : (id : ℕ) (v : View) (t : Moment) (x : T) (m : Me (Option T) View) → m ≡ (v, (0, Some x) ∷ []) → v.taken ≡ Some t → v.known.is_out ≡ true → Continues v.known t (see x)
      → Allows (IsOrderly see opened) 1 id m 0 (λ n. 0) (λ found n. GivenBack see m n)
  frees-turn id v t x m is has out fits = subst (λ (y : Me (Option T) View). Allows (IsOrderly see opened) 1 id y 0 (λ n. 0) (λ found n. GivenBack see y n)) (sym is)
      (λ s g wide me small. (
        without_turn v (see x).now,
        gives,
        tt,
        give-keeps s id v t g me has x (set s.homes 0 (some (Some x))) fits out (set_here s.homes 0 (some (Some x)) (omega (arith, wide))),
        (x, refl, refl),
      ))

-- a compare-exchange from 0 to 1 makes a free turn held
pub to_one : (n : ℕ) → n ≢ 0 → either (eqb n 0) 1 n ≢ 0
to_one n ne = exchanged n 0 1 (λ (k : ℕ). k ≢ 0) (λ e. absurd (ne e)) (λ _. ne)

-- a try that found the turn free has taken it
pub was-free : {T : Type 0} (see : T → Sight) (m : Me (Option T) View) (found : ℕ) (n : Me (Option T) View) → Tried see m found n → found ≡ 0 → Taken see m n
was-free see m found n tried zero = ⊎_elim (λ hit. hit.1) (λ miss. absurd (omega (arith, miss.0, zero))) tried

-- a try that found it held left the seat as it was
pub was-held : {T : Type 0} (see : T → Sight) (m : Me (Option T) View) (found : ℕ) (n : Me (Option T) View) → Tried see m found n → found ≢ 0 → n ≡ m
was-held see m found n tried held = ⊎_elim (λ hit. absurd (held hit.0)) (λ miss. miss.1) tried

module _ {T : Type 0} (see : T → Sight) (opened : T) where
  -- the rule stays where the same seat has the turn, and what the workers know is true
  turn-keeps : (s : State (Option T) View) (views : List View) → (g : IsOrderly see opened s)
      → ((j : ℕ) (u : View) (m : Moment) → get_elem? views j ≡ some u → u.taken ≡ Some m → (t : View) × (get_elem? s.views j ≡ some t) × (t.taken ≡ Some m) × (u.is_lent ≡ true → t.is_lent ≡ true) × (t.known.is_out ≡ true → u.known.is_out ≡ true))
      → ((j : ℕ) (u : View) (m : Moment) → get_elem? s.views j ≡ some u → u.taken ≡ Some m → (t : View) × (get_elem? views j ≡ some t) × (t.taken ≡ Some m))
      → AllAgree (see opened).plan (see opened).base g.now (map known_at views) → IsOrderly see opened (record { words = s.words; homes = s.homes; views = views })
  turn-keeps s views g back forth kept = record {
    words = g.words;
    now = g.now;
    idle = λ e j u at_j. none_of u.taken (λ m has. let t = back j u m at_j has in none_some t.0.taken m (g.idle e j t.0 t.1) t.2);
    busy = λ held. let (j, u, m, at_j, has) = g.busy held in let t = forth j u m at_j has in (j, t.0, m, t.1, t.2);
    lone = λ i j u v m n at_i at_j has_u has_v. let t = back i u m at_i has_u in let r = back j v n at_j has_v in g.lone i j t.0 r.0 m n t.1 r.1 t.2 r.2;
    held = λ j u m at_j has. let t = back j u m at_j has in let h = g.held j t.0 m t.1 t.2 in (h.0, t.4 h.1);
    empty = λ j u m at_j has lent. let t = back j u m at_j has in g.empty j t.0 m t.1 t.2 (t.3 lent);
    home = g.home;
    kept = kept;
  }

  -- a look leaves the table as it is, and tells what is true of what the worker knows
  pub looks : (id : ℕ) (m : Me (Option T) View) → m.0.known.is_out ≡ true → Allows (IsOrderly see opened) 1 id m 0 (λ n. n) (λ found n. Looked m n)
  looks id m out s g wide me small = (
    m.0,
    keeps,
    tt,
    subst (λ (words : List ℕ). IsOrderly see opened (record { words = words; homes = s.homes; views = set s.views id m.0 })) (sym (set-get_or s.words 0 0))
        (subst (λ (views : List View). IsOrderly see opened (record { words = s.words; homes = s.homes; views = views })) (sym (set_again s.views id m.0 me)) g),
    (refl, assures (see opened).plan (see opened).base g.now (map known_at s.views) id m.0.known g.kept (at_map known_at s.views id m.0 me) out),
  )

  -- a pass is made
  pub splits-seat : (id : ℕ) (v : View) → v.known.is_out ≡ true → v.known.worker ≡ 0 → Splits (IsOrderly see opened) id v (record v { known = one_more v.known }) (new_view v)
  splits-seat id v out first s g me =
      let w : View = record v { known = one_more v.known } in
      let l : View = new_view v in
      let front = set s.views id w in
      turn-keeps s (front ++ l ∷ []) g
      (λ j u m at_j has.
      ⊎_elim (λ inside.
      ⊎_elim (λ here. (v, ap (λ (n : ℕ). get_elem? s.views n) here.0 ∙ me, ap (λ (y : View). y.taken) here.1 ∙ has, (λ lent. ap (λ (y : View). y.is_lent) here.1 ∙ lent), (λ was. subst (λ (y : View). y.known.is_out ≡ true) here.1 was)))
      (λ else. (u, else.1, has, (λ lent. lent), (λ was. was))) (at_set s.views id j w u inside))
      (λ last. absurd (none_some u.taken m (sym (ap (λ (y : View). y.taken) last.1)) has)) (at_behind front l u j at_j))
      (λ j u m at_j has. dite (ℕ_discrete j id)
      (λ e. let is : u ≡ v = some-injective u v (sym at_j ∙ ap (λ (n : ℕ). get_elem? s.views n) e ∙ me) in (w, at_longer front (l ∷ []) j w (ap (λ (n : ℕ). get_elem? front n) e ∙ set_there s.views id v w me), sym (ap (λ (y : View). y.taken) is) ∙ has))
      (λ ne. (u, at_longer front (l ∷ []) j u (set_else s.views id j w ne ∙ at_j), has)))
      (subst (λ (ks : List Known). AllAgree (see opened).plan (see opened).base g.now ks) (sym (map-append known_at front (l ∷ []) ∙ ap (λ (ks : List Known). ks ++ l.known ∷ []) (map-set known_at s.views id w)))
      (kept-split (see opened).plan (see opened).base g.now (map known_at s.views) id v.known g.kept (at_map known_at s.views id v me) out first))

  -- a pass is joined away
  pub joins-seats : (id other : ℕ) (v w : View) → v.known.is_out ≡ true → v.known.worker ≡ 0 → w.known.is_out ≡ true → v.taken ≡ None → w.taken ≡ None → held_start w.known ≡ None
      → Joins (IsOrderly see opened) id v other w (record v { known = with_joined v.known w.known }) spent_view
  joins-seats id other v w out first out_w idle_v idle_w holds s g me ne me_w =
      let x : View = record v { known = with_joined v.known w.known } in
      let at_w : get_elem? s.views other ≡ some w = sym (set_else s.views id other x ne) ∙ me_w in
      let views = set (set s.views id x) other spent_view in
      turn-keeps s views g
      (λ j u m at_j has.
      ⊎_elim (λ gone. absurd (none_some u.taken m (sym (ap (λ (y : View). y.taken) gone.1)) has))
      (λ left.
      ⊎_elim (λ here. absurd (none_some u.taken m (sym (ap (λ (y : View). y.taken) here.1) ∙ idle_v) has))
      (λ else. (u, else.1, has, (λ lent. lent), (λ was. was))) (at_set s.views id j x u left.1)) (at_set (set s.views id x) other j spent_view u at_j))
      (λ j u m at_j has.
      let not_v : j ≢ id = λ e. none_some u.taken m (ap (λ (y : View). y.taken) (some-injective u v (sym at_j ∙ ap (λ (n : ℕ). get_elem? s.views n) e ∙ me)) ∙ idle_v) has in
      let not_w : j ≢ other = λ e. none_some u.taken m (ap (λ (y : View). y.taken) (some-injective u w (sym at_j ∙ ap (λ (n : ℕ). get_elem? s.views n) e ∙ at_w)) ∙ idle_w) has in
      (u, set_else (set s.views id x) other j spent_view not_w ∙ set_else s.views id j x not_v ∙ at_j, has))
      (subst (λ (ks : List Known). AllAgree (see opened).plan (see opened).base g.now ks) (sym (map-set known_at (set s.views id x) other spent_view ∙ ap (λ (ks : List Known). set ks other nobody) (map-set known_at s.views id x)))
      (kept-join (see opened).plan (see opened).base g.now (map known_at s.views) id v.known g.kept (at_map known_at s.views id v me) out first other w.known (at_map known_at s.views other w at_w) out_w ne holds))

  -- where one pass is left and has no turn, the state is at home, and is what its worker has seen
  pub closes-turn : (id : ℕ) (v : View) (words : List ℕ) (slots : List (Option T)) → v.known.is_out ≡ true → v.known.worker ≡ 0 → v.taken ≡ None → length v.known.notes + 1 ≡ v.known.made → held_start v.known ≡ None
      → Final (Seen (IsOrderly see opened) id v) words slots → (x : T) × (get_elem? slots 0 ≡ some (Some x)) × Closes v.known (see x)
  closes-turn id v words slots out first idle all holds (s, (g, me), same_words, same_slots, at_home) = dite (ℕ_discrete (get_or s.words 0 0) 0)
      (λ zero. let t = g.home zero in (t.0, at_home 0 (Some t.0) t.1, closes (see opened).plan (see opened).base g.now (map known_at s.views) id v.known g.kept (at_map known_at s.views id v me) out first all (see t.0) t.2 holds))
      (λ held.
      let (j, u, m, at_j, has) = g.busy held in
      let is_id = only_out (see opened).plan (see opened).base g.now (map known_at s.views) id v.known g.kept (at_map known_at s.views id v me) out first all j u.known (at_map known_at s.views j u at_j) (g.held j u m at_j has).1 in
      let is : u ≡ v = some-injective u v (sym at_j ∙ ap (λ (n : ℕ). get_elem? s.views n) is_id ∙ me) in
      absurd (none_some u.taken m (ap (λ (y : View). y.taken) is ∙ idle) has))

-- the turn opens with the rule
pub opens : {T : Type 0} (see : T → Sight) (x : T) → (see x).now.entries ≡ [] → (see x).now.halted ≡ false → IsOrderly see x (opening (0 ∷ 0 ∷ []) (Some x ∷ []) (first_view (see x)))
opens see x none going =
    let first : View = first_view (see x) in
    let idle : (j : ℕ) (v : View) → get_elem? (first ∷ []) j ≡ some v → v.taken ≡ None = λ j v at_j. sym (ap (λ (y : View). y.taken) (only_one first v j at_j).1) in
    record {
      words = refl;
      now = (see x).now;
      idle = λ _ j v at_j. idle j v at_j;
      busy = λ ne. absurd (ne refl);
      lone = λ i j v w m n at_i at_j has_v has_w. absurd (none_some v.taken m (idle i v at_i) has_v);
      held = λ j v m at_j has_v. absurd (none_some v.taken m (idle j v at_j) has_v);
      empty = λ j v m at_j has_v lent. absurd (none_some v.taken m (idle j v at_j) has_v);
      home = λ _. (x, refl, refl);
      kept = kept-open (see x).plan (see x).base (see x).now none going;
    }

-- an optional value with a property: it is there, and it has the property
pub some_of : {A : Type 0} (o : Option A) (P : A → Type 0) → IsSomeAnd o P → (a : A) × (o ≡ Some a) × P a
some_of None P never = absurd never
some_of (Some a) P holds = (a, refl, holds)
