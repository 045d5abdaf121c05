-- The bars of one worker do not overlap, since it has one open start at most.
use Rattle.std.proofs.Common.{◌≡◌, ◌∙◌, sym, ap, subst, ℕ, ◌<◌, ◌⊎◌, List, [], ◌∷◌, ◌++◌, length, get_or, refl, append_assoc, arith, length-append, Bool, true, false, inl, inr, ⊎_elim, eq-eqb}
use Rattle.std.specs.Prelude.{All, Option, Some, None, cond, filter, not, slice_index, ◌==◌, ◌&&◌, ◌||◌}
use Rattle.std.specs.Option.{option_to_list}
use Rattle.std.specs.List.{list_any}
use Rattle.std.proofs.lemmas.Bool.{and_parts, cases_Bool, eqb-true}
use Rattle.std.proofs.Math.Bool.{or-false}
use Rattle.std.proofs.lemmas.List.{append-nil}
use Rattle.std.proofs.lemmas.List.Folds.{list_any-append}
use Rattle.std.proofs.lemmas.List.Elements.{All-push}
use Rattle.std.proofs.lemmas.List.Quantifiers.{all_pairs_push}
use Rattle.ct_alloc.specs.declared.placement.Placement.{Placement}
use Rattle.ct_verdict.specs.declared.attempt.Seen.{Seen}
use Rattle.ct_history.specs.declared.plan.PlanParts.{PlanParts}
use Rattle.ct_history.specs.declared.history.Entry.{Entry}
use Rattle.ct_history.specs.declared.history.Entry.TheVariants.{Start, End, Settle, Stop}
use Rattle.ct_history.specs.History.{Running, holds_start, is_busy_in, open_starts, test_at}
use Rattle.ct_history.specs.Legal.{are_allowed_behind, is_allowed, is_legal, is_stop_due, starts}
use Rattle.ct_history.proofs.FinalLemmas.{open_by_hold}
use Rattle.ct_history.proofs.LegalLemmas.{legal_allowed}
use Rattle.ct_history.proofs.OpenLemmas.{is_of, open_starts-end, open_starts-snoc, opens_settle, opens_stop}
use Rattle.ct_explain.specs.declared.bars.Bar.{Bar}
use Rattle.ct_explain.specs.Bars.{DoNotOverlap, bar_by, bar_with, bars, bars_behind, is_start_of, last_place}
use Rattle.ct_explain.proofs.BarLemmas.{cons-list, last-snoc}
use Rattle.ct_explain.proofs.LawLemmas.{start-placed}

-- the open start is this attempt of the test, and the worker made it
abbrev is_held : ℕ → ℕ → ℕ → Running → Bool
is_held t a w r = r.test == t && r.attempt == a && r.worker == w

any-more : (p q : Running → Bool) → ((r : Running) → p r ≡ true → q r ≡ true) → (rs : List Running) → list_any p rs ≡ true → list_any q rs ≡ true
any-more p q more [] any = any
any-more p q more (r ∷ rs) any = elim (cases_Bool (p r)) [
  | inl here ↦ ap (λ (b : Bool). b || list_any q rs) (more r here)
  | inr other ↦
      let rest : list_any p rs ≡ true = sym (ap (λ (b : Bool). b || list_any p rs) other) ∙ any in
      elim (cases_Bool (q r)) [
        | inl here ↦ ap (λ (b : Bool). b || list_any q rs) here
        | inr not_here ↦ ap (λ (b : Bool). b || list_any q rs) not_here ∙ any-more p q more rs rest
      ]
]

any-kept : (p q : Running → Bool) (rs : List Running) → list_any p (filter (λ r. not (q r)) rs) ≡ true → (r : Running) × (p r ≡ true) × (q r ≡ false) × (list_any p rs ≡ true)
any-kept p q [] any = cc
any-kept p q (r ∷ rs) any = elim (cases_Bool (q r)) [
  | inl gone ↦
      let rest = any-kept p q rs (sym (ap (λ (b : Bool). list_any p (cond (not b) (r ∷ filter (λ x. not (q x)) rs) (filter (λ x. not (q x)) rs))) gone) ∙ any) in
      (rest.0, rest.1, rest.2, lift r rs rest.3)
  | inr stays ↦
      let here : (p r || list_any p (filter (λ x. not (q x)) rs)) ≡ true = sym (ap (λ (b : Bool). list_any p (cond (not b) (r ∷ filter (λ x. not (q x)) rs) (filter (λ x. not (q x)) rs))) stays) ∙ any in
      elim (cases_Bool (p r)) [
        | inl is ↦ (r, is, stays, ap (λ (b : Bool). b || list_any p rs) is)
        | inr other ↦
            let rest = any-kept p q rs (sym (ap (λ (b : Bool). b || list_any p (filter (λ x. not (q x)) rs)) other) ∙ here) in
            (rest.0, rest.1, rest.2, lift r rs rest.3)
      ]
]
  where
    lift : (x : Running) (xs : List Running) → list_any p xs ≡ true → (p x || list_any p xs) ≡ true
    lift x xs is = elim (cases_Bool (p x)) [
      | inl here ↦ ap (λ (b : Bool). b || list_any p xs) here
      | inr other ↦ ap (λ (b : Bool). b || list_any p xs) other ∙ is
    ]

parts : (t a w : ℕ) (r : Running) → is_held t a w r ≡ true → (r.test ≡ t) × (r.attempt ≡ a) × (r.worker ≡ w)
parts t a w r is =
    let two = and_parts (r.test == t && r.attempt == a) (r.worker == w) is in
    let one = and_parts (r.test == t) (r.attempt == a) two.0 in
    (eqb-true r.test t one.0, eqb-true r.attempt a one.1, eqb-true r.worker w two.1)

busy_by_hold : (t a w : ℕ) (rs : List Running) → list_any (is_held t a w) rs ≡ true → list_any (λ (r : Running). r.worker == w) rs ≡ true
busy_by_hold t a w rs any = any-more (is_held t a w) (λ (r : Running). r.worker == w) (λ r is. (and_parts (r.test == t && r.attempt == a) (r.worker == w) is).1) rs any

-- what is held behind a Start was held in front of it, or is what it starts
held-start : (t a w t0 a0 w0 : ℕ) (p : Option Placement) (front : List Entry) → holds_start t a w (front ++ Start t0 a0 w0 p ∷ []) ≡ true → (holds_start t a w front ≡ true) ⊎ ((t0 ≡ t) × (a0 ≡ a) × (w0 ≡ w))
held-start t a w t0 a0 w0 p front held =
    let r : Running = record { test = t0; attempt = a0; worker = w0; placement = p } in
    let both : (list_any (is_held t a w) (open_starts front) || (is_held t a w r || false)) ≡ true =
    sym (ap (list_any (is_held t a w)) (open_starts-snoc front (Start t0 a0 w0 p) refl) ∙ list_any-append (is_held t a w) (open_starts front) (r ∷ [])) ∙ held
    in
    elim (cases_Bool (list_any (is_held t a w) (open_starts front))) [
      | inl old ↦ inl old
      | inr none ↦
          let new : (is_held t a w r || false) ≡ true = sym (ap (λ (b : Bool). b || (is_held t a w r || false)) none) ∙ both in
          inr (parts t a w r (sym (or-false (is_held t a w r)) ∙ new))
    ]

-- what is held behind an End was held in front of it, and is another attempt
held-end : (t a w t0 a0 w0 : ℕ) (s : Seen) (front : List Entry) → holds_start t a w (front ++ End t0 a0 w0 s ∷ []) ≡ true → (holds_start t a w front ≡ true) × ((t0 ≡ t) → (a0 ≡ a) → ⊥)
held-end t a w t0 a0 w0 s front held =
    let found = any-kept (is_held t a w) (is_of t0 a0) (open_starts front) (sym (ap (list_any (is_held t a w)) (open_starts-end front t0 a0 w0 s)) ∙ held) in
    (found.3, λ same_test same_attempt. clash found.0 found.1 found.2 same_test same_attempt)
  where
    clash : (r : Running) → is_held t a w r ≡ true → is_of t0 a0 r ≡ false → t0 ≡ t → a0 ≡ a → ⊥
    clash r is other same_test same_attempt =
        let two = and_parts (r.test == t && r.attempt == a) (r.worker == w) is in
        let same : is_of t0 a0 r ≡ true = ap (λ (n : ℕ). r.test == n && r.attempt == a0) same_test ∙ ap (λ (n : ℕ). r.test == t && r.attempt == n) same_attempt ∙ two.0 in
        cc

-- the number is below the place, if there is one
abbrev IsBefore : ℕ → Option ℕ → Type 0
IsBefore n None = ⊥
IsBefore n (Some p) = n < p

before-later : (n len : ℕ) (b : Bool) (o : Option ℕ) → n < len → ((b ≡ false) → IsBefore n o) → IsBefore n (cond b (Some len) o)
before-later n len true o lt rest = lt
before-later n len false o lt rest = rest refl

-- the bars that are done behind these entries
record AreDone (front : List Entry) (done : List Bar) : Type 0 where
  ends : All (λ (b : Bar). b.link.end < length front) done
  behind : (t a w : ℕ) → holds_start t a w front ≡ true → All (λ (b : Bar). b.worker ≡ w → IsBefore b.link.end (last_place (is_start_of t) front)) done
  alone : (t a u b w : ℕ) → holds_start t a w front ≡ true → holds_start u b w front ≡ true → (t ≡ u) × (a ≡ b)
  apart : DoNotOverlap done

module _ (front : List Entry) (done : List Bar) (kept : AreDone front done) where
  ends-later : (e : Entry) → All (λ (b : Bar). b.link.end < length (front ++ e ∷ [])) done
  ends-later e i d lt = omega (arith, kept.ends i d lt, length-append front (e ∷ []))

  done-start : (plan : PlanParts) (t0 a0 w0 : ℕ) (p : Option Placement) → is_allowed plan front (Start t0 a0 w0 p) ≡ true → AreDone (front ++ Start t0 a0 w0 p ∷ []) done
  done-start plan t0 a0 w0 p allowed = record {
    ends = ends-later (Start t0 a0 w0 p);
    behind = later;
    alone = single;
    apart = kept.apart;
  }
    where
      idle : not (is_busy_in w0 front) ≡ true
      idle = (and_parts (not (is_stop_due plan front) && starts plan front a0 p (test_at plan.tests t0)) (not (is_busy_in w0 front)) allowed).1

      never : (t a w : ℕ) → w0 ≡ w → holds_start t a w front ≡ true → ⊥
      never t a w same held =
          let busy : is_busy_in w0 front ≡ true = subst (λ (n : ℕ). is_busy_in n front ≡ true) (sym same) (busy_by_hold t a w (open_starts front) held) in
          let busy_not : not (is_busy_in w0 front) ≡ false = ap not busy in
          let free : not (is_busy_in w0 front) ≡ true = idle in
          cc

      later : (t a w : ℕ) → holds_start t a w (front ++ Start t0 a0 w0 p ∷ []) ≡ true → All (λ (b : Bar). b.worker ≡ w → IsBefore b.link.end (last_place (is_start_of t) (front ++ Start t0 a0 w0 p ∷ []))) done
      later t a w held i d lt same =
          subst (λ (o : Option ℕ). IsBefore (get_or done i d).link.end o) (sym (last-snoc (is_start_of t) front (Start t0 a0 w0 p)))
          (before-later (get_or done i d).link.end (length front) (t0 == t) (last_place (is_start_of t) front) (kept.ends i d lt)
          (λ other.
          ⊎_elim
          (λ (old : holds_start t a w front ≡ true). kept.behind t a w old i d lt same)
          (λ (new : (t0 ≡ t) × (a0 ≡ a) × (w0 ≡ w)). absurd (unlike t0 t new.0 other))
          (held-start t a w t0 a0 w0 p front held)))
        where
          unlike : (m n : ℕ) → m ≡ n → (m == n) ≡ false → ⊥
          unlike m n is differs = let yes : (m == n) ≡ true = eq-eqb m n is in cc

      single : (t a u b w : ℕ) → holds_start t a w (front ++ Start t0 a0 w0 p ∷ []) ≡ true → holds_start u b w (front ++ Start t0 a0 w0 p ∷ []) ≡ true → (t ≡ u) × (a ≡ b)
      single t a u b w one two =
          ⊎_elim
          (λ (old : holds_start t a w front ≡ true).
          ⊎_elim
          (λ (old' : holds_start u b w front ≡ true). kept.alone t a u b w old old')
          (λ (new : (t0 ≡ u) × (a0 ≡ b) × (w0 ≡ w)). absurd (never t a w new.2 old))
          (held-start u b w t0 a0 w0 p front two))
          (λ (new : (t0 ≡ t) × (a0 ≡ a) × (w0 ≡ w)).
          ⊎_elim
          (λ (old : holds_start u b w front ≡ true). absurd (never u b w new.2 old))
          (λ (new' : (t0 ≡ u) × (a0 ≡ b) × (w0 ≡ w)). (sym new.0 ∙ new'.0, sym new.1 ∙ new'.1))
          (held-start u b w t0 a0 w0 p front two))
          (held-start t a w t0 a0 w0 p front one)

  -- an entry that opens and closes nothing
  done-other : (e : Entry) → open_starts (front ++ e ∷ []) ≡ open_starts front → ((t : ℕ) → is_start_of t e ≡ false) → AreDone (front ++ e ∷ []) done
  done-other e opens none = record {
    ends = ends-later e;
    behind = λ t a w held i d lt same. subst (λ (o : Option ℕ). IsBefore (get_or done i d).link.end o) (sym (stays t)) (kept.behind t a w (was t a w held) i d lt same);
    alone = λ t a u b w one two. kept.alone t a u b w (was t a w one) (was u b w two);
    apart = kept.apart;
  }
    where
      was : (t a w : ℕ) → holds_start t a w (front ++ e ∷ []) ≡ true → holds_start t a w front ≡ true
      was t a w held = sym (ap (list_any (is_held t a w)) opens) ∙ held

      stays : (t : ℕ) → last_place (is_start_of t) (front ++ e ∷ []) ≡ last_place (is_start_of t) front
      stays t = last-snoc (is_start_of t) front e ∙ ap (λ (b : Bool). cond b (Some (length front)) (last_place (is_start_of t) front)) (none t)

  -- an End adds its bar
  done-end : (times : List ℕ) (t0 a0 w0 : ℕ) (s : Seen) → holds_start t0 a0 w0 front ≡ true → AreDone (front ++ End t0 a0 w0 s ∷ []) (done ++ option_to_list (bar_by times front (End t0 a0 w0 s)))
  done-end times t0 a0 w0 s held0 =
      let found = start-placed t0 front (open_by_hold t0 a0 w0 (open_starts front) held0) in
      with-place found.0 found.1
    where
      with-place : (p : ℕ) → last_place (is_start_of t0) front ≡ Some p → AreDone (front ++ End t0 a0 w0 s ∷ []) (done ++ option_to_list (bar_by times front (End t0 a0 w0 s)))
      with-place p is =
          subst (λ (o : Option ℕ). AreDone (front ++ End t0 a0 w0 s ∷ []) (done ++ option_to_list (bar_with times (length front) (λ (test : ℕ). o) (End t0 a0 w0 s)))) (sym is) (record {
            ends = All-push (λ (b : Bar). b.link.end < length (front ++ End t0 a0 w0 s ∷ [])) done bar (ends-later (End t0 a0 w0 s)) (omega (arith, length-append front (End t0 a0 w0 s ∷ [])));
            behind = λ t a w held. All-push (λ (b : Bar). b.worker ≡ w → IsBefore b.link.end (last_place (is_start_of t) (front ++ End t0 a0 w0 s ∷ []))) done bar (old t a w held) (mine t a w held);
            alone = λ t a u b w one two. kept.alone t a u b w (held-end t a w t0 a0 w0 s front one).0 (held-end u b w t0 a0 w0 s front two).0;
            apart = all_pairs_push (λ (one other : Bar). one.worker ≡ other.worker → one.link.end < other.link.begin) done bar kept.apart (λ k d lt same. subst (λ (o : Option ℕ). IsBefore (get_or done k d).link.end o) is (kept.behind t0 a0 w0 held0 k d lt same));
          })
        where
          bar : Bar
          bar = record { link = record { test = t0; attempt = a0; start = slice_index times p; micros = s.micros; begin = p; end = length front }; worker = w0; seen = s }

          stays : (t : ℕ) → last_place (is_start_of t) (front ++ End t0 a0 w0 s ∷ []) ≡ last_place (is_start_of t) front
          stays t = last-snoc (is_start_of t) front (End t0 a0 w0 s)

          old : (t a w : ℕ) → holds_start t a w (front ++ End t0 a0 w0 s ∷ []) ≡ true → All (λ (b : Bar). b.worker ≡ w → IsBefore b.link.end (last_place (is_start_of t) (front ++ End t0 a0 w0 s ∷ []))) done
          old t a w held i d lt same = subst (λ (o : Option ℕ). IsBefore (get_or done i d).link.end o) (sym (stays t)) (kept.behind t a w (held-end t a w t0 a0 w0 s front held).0 i d lt same)

          mine : (t a w : ℕ) → holds_start t a w (front ++ End t0 a0 w0 s ∷ []) ≡ true → w0 ≡ w → IsBefore (length front) (last_place (is_start_of t) (front ++ End t0 a0 w0 s ∷ []))
          mine t a w held same =
              let was = held-end t a w t0 a0 w0 s front held in
              let one = kept.alone t0 a0 t a w (subst (λ (n : ℕ). holds_start t0 a0 n front ≡ true) same held0) was.0 in
              absurd (was.1 one.0 one.1)

all-done : (plan : PlanParts) (times : List ℕ) (front es : List Entry) (done : List Bar) → are_allowed_behind plan front es ≡ true → AreDone front done → DoNotOverlap (done ++ bars_behind times front es)
all-done plan times front [] done allowed kept = subst DoNotOverlap (sym (append-nil done)) kept.apart
all-done plan times front (Start t a w p ∷ es) done allowed kept =
    let both = and_parts (is_allowed plan front (Start t a w p)) (are_allowed_behind plan (front ++ Start t a w p ∷ []) es) allowed in
    all-done plan times (front ++ Start t a w p ∷ []) es done both.1 (done-start front done kept plan t a w p both.0)
all-done plan times front (Settle t c ∷ es) done allowed kept =
    let both = and_parts (is_allowed plan front (Settle t c)) (are_allowed_behind plan (front ++ Settle t c ∷ []) es) allowed in
    all-done plan times (front ++ Settle t c ∷ []) es done both.1 (done-other front done kept (Settle t c) (opens_settle front t c) (λ _. refl))
all-done plan times front (Stop ∷ es) done allowed kept =
    let both = and_parts (is_allowed plan front Stop) (are_allowed_behind plan (front ++ Stop ∷ []) es) allowed in
    all-done plan times (front ++ Stop ∷ []) es done both.1 (done-other front done kept Stop (opens_stop front) (λ _. refl))
all-done plan times front (End t a w s ∷ es) done allowed kept =
    let e = End t a w s in
    let both = and_parts (is_allowed plan front e) (are_allowed_behind plan (front ++ e ∷ []) es) allowed in
    let held : holds_start t a w front ≡ true = (and_parts (not (is_stop_due plan front)) (holds_start t a w front) both.0).1 in
    let rest = bars_behind times (front ++ e ∷ []) es in
    subst DoNotOverlap
    (append_assoc done (option_to_list (bar_by times front e)) rest ∙ ap (λ (bs : List Bar). done ++ bs) (sym (cons-list (bar_by times front e) rest)))
    (all-done plan times (front ++ e ∷ []) es (done ++ option_to_list (bar_by times front e)) both.1 (done-end front done kept times t a w s held))

none-done : AreDone [] []
none-done = record {
  ends = λ i d lt. absurd (omega (arith, lt));
  behind = λ t a w held i d lt. absurd (omega (arith, lt));
  alone = λ t a u b w one two. cc;
  apart = λ i j d less lt. absurd (omega (arith, lt));
}

-- the bars of one worker do not overlap in a legal history
pub do-not-overlap : (plan : PlanParts) (entries : List Entry) (times : List ℕ) → is_legal plan entries ≡ true → DoNotOverlap (bars entries times)
do-not-overlap plan entries times legal = all-done plan times [] entries [] (legal_allowed plan entries legal) none-done
