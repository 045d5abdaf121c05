-- What the code keeps of a history, with the next entry of a list.
use Rattle.std.proofs.Common.{◌≡◌, ◌∙◌, sym, ap, subst, ℕ, suc, ◌+◌, ◌*◌, ◌^◌, ◌<◌, ◌≤◌, List, [], ◌∷◌, ◌++◌, length, map, take, take-suc, get_or, refl, arith}
use Rattle.std.specs.Prelude.{unwrap_or, max, sum_by, slice_get, ◌-◌, Some}
use Rattle.std.specs.List.{last_or}
use Rattle.std.proofs.lemmas.Option.{unwrap_or-slice_get}
use Rattle.ct_history.specs.Verdicts.{last_of_list}
use Rattle.std.proofs.lemmas.List.{map-append}
use Rattle.std.proofs.lemmas.List.Sums.{sum_by-append}
use Rattle.indexmap.specs.IndexMap.{IndexMap}
use Rattle.ct_history.specs.declared.history.Entry.{Entry}
use Rattle.ct_history.specs.declared.history.Entry.TheVariants.{Start, End, Settle, Stop}
use Rattle.ct_times.specs.Times.{Timed, last_moment, least_times, next_timed, over_by, start_at, started, timed}
use Rattle.ct_times.specs.Capacity.{work_by}
use Rattle.ct_times.specs.Works.{AreWorks, kept_at}
use Rattle.ct_times.proofs.TimedLemmas.{last-snoc, start_most, started-snoc, started_most, timed-snoc}

-- the next entry of a list stands behind those in front of it
next_of : (es : List Entry) (at : ℕ) (e : Entry) → at < length es → e ≡ get_or es at e → take (at + 1) es ≡ take at es ++ e ∷ []
next_of es at e within is =
    let next : suc at ≡ at + 1 = omega arith in
    ap (λ (k : ℕ). take k es) (sym next) ∙ take-suc es at e within ∙ ap (λ (x : Entry). take at es ++ x ∷ []) (sym is)

-- the times, the last moment and the last starts of some entries; the moment is far below 2^128
pub record AreNoted {S : Type 0} (times : List ℕ) (now : ℕ) (starts : IndexMap ℕ ℕ S) (at : ℕ) (es : List Entry) : Type 0 where
  pub times_are : times ≡ least_times es
  pub now_is : now ≡ last_moment (timed es)
  pub starts_are : (test : ℕ) → kept_at starts test ≡ started test (timed es)
  pub few : now ≤ at * 2 ^ 64
  pub starts_few : (test : ℕ) → kept_at starts test ≤ at * 2 ^ 64

-- no noted start stands behind the last moment
pub noted_most : {S : Type 0} (times : List ℕ) (now : ℕ) (starts : IndexMap ℕ ℕ S) (at : ℕ) (es : List Entry) → AreNoted times now starts at es → (test : ℕ) → kept_at starts test ≤ now
noted_most times now starts at es noted test = omega (arith, noted.starts_are test, noted.now_is, started_most es test)

over_same : (start other : ℕ → ℕ) → ((test : ℕ) → start test ≡ other test) → (e : Entry) → over_by start e ≡ over_by other e
over_same start other same (Start t a w p) = refl
over_same start other same (End t a w seen) = ap (λ (s : ℕ). s + seen.micros) (same t)
over_same start other same (Settle t c) = refl
over_same start other same Stop = refl

pub noted_more : {S : Type 0} (times more : List ℕ) (now then' : ℕ) (starts new : IndexMap ℕ ℕ S) (at : ℕ) (es : List Entry) (e : Entry)
    → at < length es → e ≡ get_or es at e → AreNoted times now starts at (take at es)
    → then' ≡ max now (over_by (kept_at starts) e) → over_by (kept_at starts) e ≤ now + 2 ^ 64
    → more ≡ times ++ then' ∷ []
    → ((test : ℕ) → kept_at new test ≡ unwrap_or (start_at test then' e) (kept_at starts test))
    → AreNoted more then' new (at + 1) (take (at + 1) es)
noted_more times more now then' starts new at es e within is noted then_is small more_is new_is =
    let front = take at es in
    let x = next_timed (timed front) e in
    let over : over_by (kept_at starts) e ≡ over_by (λ test. started test (timed front)) e = over_same (kept_at starts) (λ test. started test (timed front)) noted.starts_are e in
    let moment : then' ≡ x.moment = omega (arith, then_is, over, noted.now_is) in
    let most : then' ≤ (at + 1) * 2 ^ 64 = omega (arith, noted.few, then_is, small) in
    subst (λ (ys : List Entry). AreNoted more then' new (at + 1) ys) (sym (next_of es at e within is)) (record {
      times_are =
          more_is
          ∙ ap (λ (ts : List ℕ). ts ++ then' ∷ []) noted.times_are
          ∙ ap (λ (m : ℕ). least_times front ++ m ∷ []) moment
          ∙ sym (map-append (λ (y : Timed). y.moment) (timed front) (x ∷ []))
          ∙ sym (ap (λ (ys : List Timed). map (λ (y : Timed). y.moment) ys) (timed-snoc front e));
      now_is = moment ∙ sym (last-snoc (timed front) x) ∙ sym (ap last_moment (timed-snoc front e));
      starts_are = λ test.
          new_is test
          ∙ ap (λ (m : ℕ). unwrap_or (start_at test m e) (kept_at starts test)) moment
          ∙ ap (λ (s : ℕ). unwrap_or (start_at test x.moment e) s) (noted.starts_are test)
          ∙ sym (started-snoc test (timed front) x)
          ∙ sym (ap (λ (ys : List Timed). started test ys) (timed-snoc front e));
      few = most;
      starts_few = λ test. omega (arith, most, moment, new_is test, start_most test then' (kept_at starts test) e (omega (arith, then_is, noted_most times now starts at front noted test)));
    })

-- the work of each test, which is far below 2^128
pub record AreAdded {S : Type 0} (works : IndexMap ℕ ℕ S) (at : ℕ) (es : List Entry) : Type 0 where
  pub are : AreWorks works es
  pub few : (test : ℕ) → kept_at works test ≤ at * 2 ^ 64

pub added_more : {S : Type 0} (works new : IndexMap ℕ ℕ S) (at : ℕ) (es : List Entry) (e : Entry)
    → at < length es → e ≡ get_or es at e → AreAdded works at (take at es)
    → ((test : ℕ) → kept_at new test ≡ kept_at works test + work_by test e)
    → ((test : ℕ) → work_by test e ≤ 2 ^ 64)
    → AreAdded new (at + 1) (take (at + 1) es)
added_more works new at es e within is added new_is small =
    subst (λ (ys : List Entry). AreAdded new (at + 1) ys) (sym (next_of es at e within is)) (record {
      are = λ test.
          let one : sum_by (work_by test) (e ∷ []) ≡ work_by test e = omega arith in
          omega (arith, new_is test, added.are test, one, sum_by-append (work_by test) (take at es) (e ∷ []));
      few = λ test. omega (arith, new_is test, added.few test, small test);
    })

last_there : (x : ℕ) (xs : List ℕ) → get_or (x ∷ xs) (length xs) 0 ≡ unwrap_or (last_or (Some x) xs) 0
last_there x [] = refl
last_there x (y ∷ ys) =
    let longer : length (y ∷ ys) ≡ suc (length ys) = omega arith in
    ap (λ (n : ℕ). get_or (x ∷ y ∷ ys) n 0) longer ∙ last_there y ys

-- the number at the last place is the last one
pub last_at : (xs : List ℕ) → unwrap_or (slice_get xs (length xs - 1)) 0 ≡ unwrap_or (last_of_list xs) 0
last_at [] = refl
last_at (x ∷ xs) =
    let place : length (x ∷ xs) - 1 ≡ length xs = omega arith in
    unwrap_or-slice_get (x ∷ xs) (length (x ∷ xs) - 1) 0 ∙ ap (λ (n : ℕ). get_or (x ∷ xs) n 0) place ∙ last_there x xs
