-- The least times are a timing, and the least one.
use Rattle.std.proofs.Common.{◌≡◌, sym, Bool, true, false, ℕ, zero, suc, ◌≤◌, List, [], ◌∷◌, ◌++◌, map, refl, arith}
use Rattle.std.specs.Prelude.{Some, None, unwrap_or, ◌==◌, not, cond, max, slice_index}
use Rattle.std.proofs.lemmas.Bool.{and_parts, true≢false}
use Rattle.ct_history.specs.declared.plan.PlanParts.{PlanParts}
use Rattle.ct_history.specs.declared.history.Entry.{Entry}
use Rattle.ct_history.specs.declared.history.Entry.TheVariants.{Start, End, Settle, Stop}
use Rattle.ct_history.specs.Legal.{are_allowed_behind, is_allowed, is_allowed_so_far, is_legal, is_stop_due}
use Rattle.ct_times.specs.Times.{IsNeverAbove, IsTiming, IsTimingBehind, Timed, last_moment, least_times, next_timed, over_at, start_at, started, timed_behind}
use Rattle.ct_times.proofs.TimedLemmas.{last-snoc, started-snoc}

timing_behind : (front : List Timed) (es : List Entry) → IsTimingBehind front es (map (λ (x : Timed). x.moment) (timed_behind front es))
timing_behind front [] = tt
timing_behind front (e ∷ es) = (omega arith, omega arith, timing_behind (front ++ next_timed front e ∷ []) es)

first_moment : (plan : PlanParts) (es : List Entry) → is_allowed_so_far plan es ≡ true → slice_index (least_times es) 0 ≡ 0
first_moment plan [] so_far = refl
first_moment plan (Start t a w p ∷ es) so_far = omega arith
first_moment plan (End t a w seen ∷ es) so_far =
    let both = and_parts (is_allowed plan [] (End t a w seen)) (are_allowed_behind plan (End t a w seen ∷ []) es) so_far in
    absurd (true≢false (sym (and_parts (not (is_stop_due plan [])) false both.0).1))
first_moment plan (Settle t c ∷ es) so_far = omega arith
first_moment plan (Stop ∷ es) so_far = omega arith

-- the least times of a legal history are a timing
pub least_is_timing : (plan : PlanParts) (es : List Entry) → is_legal plan es ≡ true → IsTiming es (least_times es)
least_is_timing plan es legal = record {
  starts = first_moment plan es (and_parts (is_allowed_so_far plan es) (not (is_stop_due plan es)) legal).0;
  keeps = timing_behind [] es;
}

-- some timed entries stand nowhere later than others
record AreSooner (xs ys : List Timed) : Type 0 where
  last : last_moment xs ≤ last_moment ys
  starts : (test : ℕ) → started test xs ≤ started test ys

start_sooner : (test m k s r : ℕ) (e : Entry) → m ≤ k → s ≤ r → unwrap_or (start_at test m e) s ≤ unwrap_or (start_at test k e) r
start_sooner test m k s r (Start t a w p) le less = by_test (t == test)
  where
    by_test : (b : Bool) → unwrap_or (cond b (Some m) None) s ≤ unwrap_or (cond b (Some k) None) r
    by_test true = le
    by_test false = less
start_sooner test m k s r (End t a w seen) le less = less
start_sooner test m k s r (Settle t c) le less = less
start_sooner test m k s r Stop le less = less

abbrev at : Entry → ℕ → Timed
at e m = record { entry = e; moment = m }

sooner-snoc : (xs ys : List Timed) (e : Entry) (m k : ℕ) → AreSooner xs ys → m ≤ k → AreSooner (xs ++ at e m ∷ []) (ys ++ at e k ∷ [])
sooner-snoc xs ys e m k sooner le = record {
  last = omega (arith, le, last-snoc xs (at e m), last-snoc ys (at e k));
  starts = λ test. omega (arith, started-snoc test xs (at e m), started-snoc test ys (at e k), start_sooner test m k (started test xs) (started test ys) e le (sooner.starts test));
}

over_sooner : (xs ys : List Timed) (e : Entry) → AreSooner xs ys → over_at xs e ≤ over_at ys e
over_sooner xs ys (Start t a w p) sooner = omega arith
over_sooner xs ys (End t a w seen) sooner = omega (arith, sooner.starts t)
over_sooner xs ys (Settle t c) sooner = omega arith
over_sooner xs ys Stop sooner = omega arith

sooner_behind : (front others : List Timed) (es : List Entry) (times : List ℕ) → AreSooner front others → IsTimingBehind others es times → IsNeverAbove (map (λ (x : Timed). x.moment) (timed_behind front es)) times
sooner_behind front others [] [] sooner is place = omega arith
sooner_behind front others [] (m ∷ ms) sooner is place = absurd is
sooner_behind front others (e ∷ es) [] sooner is place = absurd is
sooner_behind front others (e ∷ es) (m ∷ ms) sooner is zero = omega (arith, sooner.last, over_sooner front others e sooner, is.0, is.1)
sooner_behind front others (e ∷ es) (m ∷ ms) sooner is (suc place) =
    let least : max (last_moment front) (over_at front e) ≤ m = omega (arith, sooner.last, over_sooner front others e sooner, is.0, is.1) in
    sooner_behind (front ++ next_timed front e ∷ []) (others ++ at e m ∷ []) es ms (sooner-snoc front others e (max (last_moment front) (over_at front e)) m sooner least) is.2 place

-- no timing is at some place below the least times
pub least_of_timings : (es : List Entry) (times : List ℕ) → IsTiming es times → IsNeverAbove (least_times es) times
least_of_timings es times is = sooner_behind [] [] es times (record { last = omega arith; starts = λ test. omega arith }) is.keeps
