-- The bars of one worker do not overlap by the least times.
use Rattle.std.proofs.Common.{◌≡◌, ◌∙◌, sym, ap, subst, ℕ, suc, ◌+◌, ◌≤◌, ◌<◌, List, [], ◌∷◌, ◌++◌, length, get_or, map, refl, arith, append_assoc, length-append, Bool, true, false}
use Rattle.std.specs.Prelude.{Option, Some, None, cond, slice_index, unwrap_or}
use Rattle.std.specs.List.{AllByRecursion, cons_option}
use Rattle.std.proofs.lemmas.List.{append-nil, get_or_append_left, get_or_push, length-map, map-append}
use Rattle.std.proofs.lemmas.List.Elements.{All-from_recursion}
use Rattle.ct_history.specs.declared.plan.PlanParts.{PlanParts}
use Rattle.ct_history.specs.declared.history.Entry.{Entry}
use Rattle.ct_history.specs.declared.history.Entry.TheVariants.{Start, End, Settle, Stop}
use Rattle.ct_history.specs.Legal.{is_legal}
use Rattle.ct_times.specs.Times.{Timed, least_times, next_timed, start_at, started, timed, timed_behind}
use Rattle.ct_times.proofs.LinkLemmas.{times_sorted}
use Rattle.ct_times.proofs.TimedLemmas.{started-snoc, timed-snoc}
use Rattle.ct_explain.specs.declared.bars.Bar.{Bar}
use Rattle.ct_explain.specs.Bars.{DoNotOverlapInTime, bar_with, bars, bars_behind, is_start_of, last_place}
use Rattle.ct_explain.proofs.ApartLemmas.{do-not-overlap}
use Rattle.ct_explain.proofs.BarLemmas.{last-snoc}

abbrev moment : Timed → ℕ
moment x = x.moment

behind-append : (front : List Timed) (xs ys : List Entry) → timed_behind front (xs ++ ys) ≡ timed_behind front xs ++ timed_behind (front ++ timed_behind front xs) ys
behind-append front [] ys = ap (λ (f : List Timed). timed_behind f ys) (sym (append-nil front))
behind-append front (x ∷ xs) ys =
    let n = next_timed front x in
    let rest = timed_behind (front ++ n ∷ []) xs in
    ap (λ (l : List Timed). n ∷ l) (behind-append (front ++ n ∷ []) xs ys ∙ ap (λ (f : List Timed). rest ++ timed_behind f ys) (append_assoc front (n ∷ []) rest))

-- the least times of a beginning are a beginning of the least times
times-append : (xs ys : List Entry) → least_times (xs ++ ys) ≡ least_times xs ++ map moment (timed_behind (timed xs) ys)
times-append xs ys = ap (map moment) (behind-append [] xs ys) ∙ map-append moment (timed xs) (timed_behind (timed xs) ys)

times-length : (xs : List Entry) → length (least_times xs) ≡ length xs
times-length xs = length-map (timed xs) moment ∙ long [] xs
  where
    long : (front : List Timed) (es : List Entry) → length (timed_behind front es) ≡ length es
    long front [] = refl
    long front (e ∷ es) = ap suc (long (front ++ next_timed front e ∷ []) es)

time-kept : (xs ys : List Entry) (place : ℕ) → place < length xs → get_or (least_times (xs ++ ys)) place 0 ≡ get_or (least_times xs) place 0
time-kept xs ys place within =
    ap (λ (ts : List ℕ). get_or ts place 0) (times-append xs ys)
    ∙ get_or_append_left (least_times xs) (map moment (timed_behind (timed xs) ys)) 0 place (omega (arith, within, times-length xs))

-- where a last Start stands, the last start of the test is the least time there
abbrev IsPlacedIn : ℕ → List Entry → Type 0
IsPlacedIn test es =
    (place : ℕ) → last_place (is_start_of test) es ≡ Some place → (place < length es) × (started test (timed es) ≡ get_or (least_times es) place 0)

start-by : (test m : ℕ) (e : Entry) → start_at test m e ≡ cond (is_start_of test e) (Some m) None
start-by test m (Start t a w p) = refl
start-by test m (End t a w seen) = refl
start-by test m (Settle t cause) = refl
start-by test m Stop = refl

placed-next : (test : ℕ) (front : List Entry) (e : Entry) → IsPlacedIn test front → IsPlacedIn test (front ++ e ∷ [])
placed-next test front e was place here = by (is_start_of test e) refl (sym (last-snoc (is_start_of test) front e) ∙ here)
  where
    x : Timed
    x = next_timed (timed front) e

    times : least_times (front ++ e ∷ []) ≡ least_times front ++ x.moment ∷ []
    times = times-append front (e ∷ [])

    longer : length (front ++ e ∷ []) ≡ length front + 1
    longer = omega (arith, length-append front (e ∷ []))

    start : started test (timed (front ++ e ∷ [])) ≡ unwrap_or (cond (is_start_of test e) (Some x.moment) None) (started test (timed front))
    start = ap (started test) (timed-snoc front e) ∙ started-snoc test (timed front) x ∙ ap (λ (o : Option ℕ). unwrap_or o (started test (timed front))) (start-by test x.moment e)

    by : (b : Bool) → is_start_of test e ≡ b → cond (is_start_of test e) (Some (length front)) (last_place (is_start_of test) front) ≡ Some place
        → (place < length (front ++ e ∷ [])) × (started test (timed (front ++ e ∷ [])) ≡ get_or (least_times (front ++ e ∷ [])) place 0)
    by true is at =
        let found : Some (length front) ≡ Some place = sym (ap (λ (b : Bool). cond b (Some (length front)) (last_place (is_start_of test) front)) is) ∙ at in
        let same : length front ≡ place = cc in
        let there : get_or (least_times front ++ x.moment ∷ []) (length (least_times front)) 0 ≡ x.moment = get_or_push (least_times front) x.moment 0 (length (least_times front)) refl in (
          omega (arith, same, longer),
          start ∙ ap (λ (b : Bool). unwrap_or (cond b (Some x.moment) None) (started test (timed front))) is
              ∙ sym (ap (λ (ts : List ℕ). get_or ts place 0) times ∙ ap (λ (n : ℕ). get_or (least_times front ++ x.moment ∷ []) n 0) (sym same ∙ sym (times-length front)) ∙ there),
        )
    by false is at =
        let found = was place (sym (ap (λ (b : Bool). cond b (Some (length front)) (last_place (is_start_of test) front)) is) ∙ at) in (
          omega (arith, found.0, longer),
          start ∙ ap (λ (b : Bool). unwrap_or (cond b (Some x.moment) None) (started test (timed front))) is
              ∙ found.1 ∙ sym (time-kept front (e ∷ []) place found.0),
        )

placed-all : (test : ℕ) (front es : List Entry) → IsPlacedIn test front → IsPlacedIn test (front ++ es)
placed-all test front [] placed = subst (λ (xs : List Entry). IsPlacedIn test xs) (sym (append-nil front)) placed
placed-all test front (e ∷ es) placed =
    subst (λ (xs : List Entry). IsPlacedIn test xs) (append_assoc front (e ∷ []) es) (placed-all test (front ++ e ∷ []) es (placed-next test front e placed))

placed : (test : ℕ) (es : List Entry) → IsPlacedIn test es
placed test es = placed-all test [] es (λ place none. absurd cc)

-- a bar starts at the least time of its Start, and is over by that of its End
record IsInTime (times : List ℕ) (bar : Bar) : Type 0 where
  start : bar.link.start ≡ get_or times bar.link.begin 0
  over : bar.link.start + bar.link.micros ≤ get_or times bar.link.end 0
  inside : bar.link.begin < length times

in-time : (all front es : List Entry) → all ≡ front ++ es → AllByRecursion (λ (b : Bar). IsInTime (least_times all) b) (bars_behind (least_times all) front es)
in-time all front [] is = tt
in-time all front (Start t a w p ∷ es) is = in-time all (front ++ Start t a w p ∷ []) es (is ∙ sym (append_assoc front (Start t a w p ∷ []) es))
in-time all front (Settle t cause ∷ es) is = in-time all (front ++ Settle t cause ∷ []) es (is ∙ sym (append_assoc front (Settle t cause ∷ []) es))
in-time all front (Stop ∷ es) is = in-time all (front ++ Stop ∷ []) es (is ∙ sym (append_assoc front (Stop ∷ []) es))
in-time all front (End t a w seen ∷ es) is =
    by (last_place (is_start_of t) front) refl (in-time all (front ++ End t a w seen ∷ []) es (is ∙ sym (append_assoc front (End t a w seen ∷ []) es)))
  where
    times : List ℕ
    times = least_times all

    e : Entry
    e = End t a w seen

    by : (o : Option ℕ) → last_place (is_start_of t) front ≡ o → AllByRecursion (λ (b : Bar). IsInTime times b) (bars_behind times (front ++ e ∷ []) es)
        → AllByRecursion (λ (b : Bar). IsInTime times b) (cons_option (bar_with times (length front) (λ (test : ℕ). last_place (is_start_of test) front) e) (bars_behind times (front ++ e ∷ []) es))
    by None none rest =
        subst (λ (o : Option ℕ). AllByRecursion (λ (b : Bar). IsInTime times b) (cons_option (bar_with times (length front) (λ (test : ℕ). o) e) (bars_behind times (front ++ e ∷ []) es))) (sym none) rest
    by (Some place) at rest =
        subst (λ (o : Option ℕ). AllByRecursion (λ (b : Bar). IsInTime times b) (cons_option (bar_with times (length front) (λ (test : ℕ). o) e) (bars_behind times (front ++ e ∷ []) es))) (sym at)
        (record { start = refl; over = over; inside = inside }, rest)
      where
        begun : (place < length front) × (started t (timed front) ≡ get_or (least_times front) place 0)
        begun = placed t front place at

        x : Timed
        x = next_timed (timed front) e

        long : length all ≡ length front + suc (length es)
        long = omega (arith, ap length is, length-append front (e ∷ es))

        inside : place < length times
        inside = omega (arith, begun.0, times-length all, long)

        start : get_or times place 0 ≡ started t (timed front)
        start = ap (λ (xs : List Entry). get_or (least_times xs) place 0) is ∙ time-kept front (e ∷ es) place begun.0 ∙ sym begun.1

        end : get_or times (length front) 0 ≡ x.moment
        end =
            ap (λ (xs : List Entry). get_or (least_times xs) (length front) 0) (is ∙ sym (append_assoc front (e ∷ []) es))
            ∙ time-kept (front ++ e ∷ []) es (length front) (omega (arith, length-append front (e ∷ [])))
            ∙ ap (λ (ts : List ℕ). get_or ts (length front) 0) (times-append front (e ∷ []))
            ∙ ap (λ (n : ℕ). get_or (least_times front ++ x.moment ∷ []) n 0) (sym (times-length front))
            ∙ get_or_push (least_times front) x.moment 0 (length (least_times front)) refl

        over : slice_index times place + seen.micros ≤ get_or times (length front) 0
        over = omega (arith, start, end)

-- the bars of one worker do not overlap by the least times of a legal history
pub do-not-overlap-in-time : (plan : PlanParts) (entries : List Entry) → is_legal plan entries ≡ true → DoNotOverlapInTime (bars entries (least_times entries))
do-not-overlap-in-time plan entries legal i j d less within same =
    let times = least_times entries in
    let drawn = bars entries times in
    let each = All-from_recursion (λ (b : Bar). IsInTime times b) drawn (in-time entries [] entries refl) in
    let one = each i d (omega (arith, less, within)) in
    let other = each j d within in
    let apart = do-not-overlap plan entries times legal i j d less within same in
    omega (arith, one.over, other.start, times_sorted entries (get_or drawn i d).link.end (get_or drawn j d).link.begin 0 (omega (arith, apart)) other.inside)
