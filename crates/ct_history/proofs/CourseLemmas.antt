-- How each test has fared, with one entry more, and the verdict that follows.
use Rattle.std.proofs.Common.{length-append, take-suc, take, get_or, suc, ◌≡◌, ◌∙◌, sym, ap, ℕ, ◌+◌, ◌-◌, ◌^◌, ◌<◌, min, Bool, true, false, not, ◌&&◌, List, [], ◌∷◌, ◌++◌, length, map, filter_map, refl, arith, cond, Option, Some, None, option_map}
use Rattle.std.specs.Prelude.{if◌then◌else◌, ◌==◌}
use Rattle.std.specs.List.{cons_option, last_or}
use Rattle.std.proofs.lemmas.Bool.Decides.{nat_tests}
use Rattle.std.proofs.lemmas.List.{append-nil, length-map}
use Rattle.std.proofs.lemmas.List.Elements.{filter_map-append}
use Rattle.ct_verdict.specs.declared.attempt.Seen.{Seen}
use Rattle.ct_verdict.specs.declared.verdict.Verdict.{Verdict}
use Rattle.ct_verdict.specs.declared.verdict.Verdict.TheVariants.{Disabled}
use Rattle.ct_verdict.specs.declared.rules.Rules.{Rules}
use Rattle.ct_verdict.specs.declared.repeat.Repeat.{Repeat}
use Rattle.ct_verdict.specs.Verdict.{is_repeated, verdict_of}
use Rattle.ct_history.specs.declared.plan.PlanTest.{PlanTest}
use Rattle.ct_history.specs.declared.history.Entry.{Entry}
use Rattle.ct_history.specs.declared.history.Entry.TheVariants.{Start, End, Settle, Stop}
use Rattle.ct_history.specs.History.{attempts_of, is_open_in, open_starts, settled_by}
use Rattle.ct_history.specs.Verdicts.{attempted_verdict, first_of_list, is_final_in, is_over, last_of_list, settled_cause, settled_or, verdict_in}
use Rattle.ct_history.specs.Endings.{last_seen, seen_at_end}
use Rattle.ct_history.proofs.AttemptLemmas.{repeated_few, last_or-snoc}
use Rattle.ct_history.proofs.EndingLemmas.{first_snoc, last_attempt, there, verdict_from}
use Rattle.indexmap.specs.IndexMap.{IndexMap}
use Rattle.ct_history.specs.declared.course.Course.{Course}
use Rattle.ct_history.specs.declared.course.Ended.{Ended}
use Rattle.ct_history.specs.Course.{AreCourses, HaveVerdicts, course_after, course_at, course_in, ended_after, ended_in, ended_with, last_of_course, most_attempts_seen, seens_of, verdict_by}
use Rattle.ct_history.specs.Seen.{attempted_by, next_attempt, verdict_in_course}

last_there : {A : Type 0} (x : A) (xs : List A) → (y : A) × (last_of_list (x ∷ xs) ≡ Some y)
last_there x [] = (x, refl)
last_there x (y ∷ ys) = last_there y ys

last_map : {A B : Type 0} (f : A → B) (o : Option A) (xs : List A) → last_or (option_map f o) (map f xs) ≡ option_map f (last_or o xs)
last_map f o [] = refl
last_map f o (x ∷ xs) = last_map f (Some x) xs

abbrev made : ℕ → Seen → Ended
made n seen = record { earlier = n; last = seen }

ended_one : (seens : List Seen) (seen : Seen) → ended_in (seens ++ seen ∷ []) ≡ Some (ended_after (ended_in seens) seen)
ended_one [] seen =
    let none : min (length (seen ∷ []) - 1) most_attempts_seen ≡ 0 = omega arith in
    ap (λ (n : ℕ). Some (made n seen)) none
ended_one (x ∷ xs) seen =
    let found = last_there x xs in
    let count : length (x ∷ xs ++ seen ∷ []) ≡ length (x ∷ xs) + 1 = length-append (x ∷ xs) (seen ∷ []) in
    let same : min (length (x ∷ xs ++ seen ∷ []) - 1) most_attempts_seen ≡ min (min (length (x ∷ xs) - 1) most_attempts_seen + 1) most_attempts_seen = omega (arith, count) in
    ap (λ (o : Option Seen). option_map (λ (s : Seen). made (min (length (x ∷ xs ++ seen ∷ []) - 1) most_attempts_seen) s) o) (last_or-snoc (Some x) xs seen)
    ∙ ap (λ (n : ℕ). Some (made n seen)) same
    ∙ sym (ap (λ (o : Option Seen). Some (ended_after (option_map (λ (s : Seen). made (min (length (x ∷ xs) - 1) most_attempts_seen) s) o) seen)) (found.1))

ended_option : (seens : List Seen) (o : Option Seen) → ended_in (seens ++ cons_option o []) ≡ ended_with (ended_in seens) o
ended_option seens None = ap ended_in (append-nil seens)
ended_option seens (Some seen) = ended_one seens seen

-- how a test has fared, with one entry more
pub course_snoc : (es : List Entry) (e : Entry) (test : ℕ) → course_in (es ++ e ∷ []) test ≡ course_after test (course_in es test) e
course_snoc es e test =
    let settled = ap first_of_list (filter_map-append (settled_by test) es (e ∷ [])) ∙ first_snoc (filter_map (settled_by test) es) (settled_by test e) in
    let ended = ap ended_in (filter_map-append (seen_at_end test) es (e ∷ [])) ∙ ended_option (seens_of test es) (seen_at_end test e) in
    λ i. record { settled = settled i; ended = ended i }

-- how a test has fared, with the next entry of a list
pub course_more : (es : List Entry) (at : ℕ) (e : Entry) (test : ℕ) → at < length es → e ≡ get_or es at e → course_after test (course_in (take at es) test) e ≡ course_in (take (at + 1) es) test
course_more es at e test within is =
    let next : suc at ≡ at + 1 = omega arith in
    sym (course_snoc (take at es) e test)
    ∙ ap (λ one. course_in (take at es ++ one ∷ []) test) is
    ∙ ap (λ all. course_in all test) (sym (take-suc es at e within) ∙ ap (λ k. take k es) next)

-- the verdicts of the attempts are those of what was seen
attempts_are : (n : ℕ) (rules : Rules) (es : List Entry) → attempts_of n rules es ≡ map (verdict_of rules) (seens_of n es)
attempts_are n rules [] = refl
attempts_are n rules (Start t a w p ∷ es) = attempts_are n rules es
attempts_are n rules (End t a w seen ∷ es) = by_test (t == n) (attempts_are n rules es)
  where
    by_test : (b : Bool) → attempts_of n rules es ≡ map (verdict_of rules) (seens_of n es) → cons_option (cond b (Some (verdict_of rules seen)) None) (attempts_of n rules es) ≡ map (verdict_of rules) (cons_option (cond b (Some seen) None) (seens_of n es))
    by_test true same = ap (λ (vs : List Verdict). verdict_of rules seen ∷ vs) same
    by_test false same = same
attempts_are n rules (Settle t c ∷ es) = attempts_are n rules es
attempts_are n rules (Stop ∷ es) = attempts_are n rules es

-- the verdict of the attempts, by the last one and the number of the others
attempted_is : (repeat : Repeat) (rules : Rules) (seens : List Seen) (opened : Bool) → repeat.times < 2 ^ 32 → attempted_by repeat rules opened (ended_in seens) ≡ (if not opened && is_over repeat (map (verdict_of rules) seens) then last_of_list (map (verdict_of rules) seens) else None)
attempted_is repeat rules [] true small = refl
attempted_is repeat rules [] false small = refl
attempted_is repeat rules (x ∷ xs) opened small =
    let found = last_there x xs in
    let v = verdict_of rules (found.0) in
    let vs = map (verdict_of rules) (x ∷ xs) in
    let last : last_of_list vs ≡ Some v = last_map (verdict_of rules) (Some x) xs ∙ ap (option_map (verdict_of rules)) (found.1) in
    let count : length vs ≡ length (x ∷ xs) = length-map (x ∷ xs) (verdict_of rules) in
    let few : min (min (length (x ∷ xs) - 1) most_attempts_seen + 1) most_attempts_seen ≡ min (length vs) most_attempts_seen = omega (arith, count) in
    ap (λ (o : Option Seen). attempted_by repeat rules opened (option_map (λ (s : Seen). made (min (length (x ∷ xs) - 1) most_attempts_seen) s) o)) (found.1)
    ∙ ap (λ (n : ℕ). if not opened && not (is_repeated repeat n (Some v)) then Some v else None) few
    ∙ ap (λ (b : Bool). if not opened && not b then Some v else None) (repeated_few repeat (length vs) (Some v) small)
    ∙ sym (ap (λ (o : Option Verdict). if not opened && not (is_repeated repeat (length vs) o) then o else None) last)

-- the verdict of a test, by the open starts and how it has fared
pub verdict_is : (repeat : Repeat) (t : PlanTest) (es : List Entry) → repeat.times < 2 ^ 32 → verdict_in_course repeat (open_starts es) (course_in es) t ≡ verdict_in repeat t es
verdict_is repeat t es small =
    ap (λ (o : Option Verdict). if t.disabled then Some Disabled else settled_or (settled_cause t.number es) o)
    (attempted_is repeat t.rules (seens_of t.number es) (is_open_in t.number es) small
    ∙ sym (ap (λ (vs : List Verdict). if not (is_open_in t.number es) && is_over repeat vs then last_of_list vs else None) (attempts_are t.number t.rules es)))

next_by : (seens : List Seen) (attempt : ℕ) → attempt < 2 ^ 32 → (attempt == next_attempt (ended_in seens)) ≡ (attempt == length seens + 1)
next_by [] attempt small = refl
next_by (x ∷ xs) attempt small =
    let found = last_there x xs in
    ap (λ (o : Option Seen). attempt == next_attempt (option_map (λ (s : Seen). made (min (length (x ∷ xs) - 1) most_attempts_seen) s) o)) (found.1)
    ∙ either (length xs) (length (x ∷ xs)) (omega arith)
  where
    either : (m n : ℕ) → n ≡ m + 1 → (attempt == min (n - 1) most_attempts_seen + 2) ≡ (attempt == n + 1)
    either m n is = grind (arith, nat_tests, small, is)

-- the number of the next attempt
pub next_is : (t : PlanTest) (es : List Entry) (attempt : ℕ) → attempt < 2 ^ 32 → (attempt == next_attempt (ended_in (seens_of t.number es))) ≡ (attempt == length (attempts_of t.number t.rules es) + 1)
next_is t es attempt small =
    next_by (seens_of t.number es) attempt small
    ∙ sym (ap (λ (n : ℕ). attempt == n + 1) (ap length (attempts_are t.number t.rules es) ∙ length-map (seens_of t.number es) (verdict_of t.rules)))

-- a map with one more entry noted has how each test has fared with one more entry
pub courses_more : {S : Type 0} (old new : IndexMap ℕ Course S) (es : List Entry) (at : ℕ) (e : Entry) → at < length es → e ≡ get_or es at e → AreCourses old (take at es)
    → ((test : ℕ) → course_at new test ≡ course_after test (course_at old test) e) → AreCourses new (take (at + 1) es)
courses_more old new es at e within is so_far noted =
    λ test. noted test ∙ ap (λ course. course_after test course e) (so_far test) ∙ course_more es at e test within is

last_in : (n : ℕ) (o : Option Seen) → option_map (λ (e : Ended). e.last) (option_map (made n) o) ≡ o
last_in n None = refl
last_in n (Some seen) = refl

-- what was seen of the last attempt, by how the test has fared
pub last_is : (es : List Entry) (test : ℕ) → last_of_course (course_in es test) ≡ last_seen test es
last_is es test = last_in (min (length (seens_of test es) - 1) most_attempts_seen) (last_of_list (seens_of test es))

-- the verdict of a final test follows from how it has fared
pub final_verdict : (repeat : Repeat) (t : PlanTest) (es : List Entry) → is_final_in repeat t es ≡ true → verdict_by t (course_in es t.number) ≡ verdict_in repeat t es
final_verdict repeat t es ended =
    ap (λ (o : Option Seen). if t.disabled then Some Disabled else settled_or (settled_cause t.number es) (option_map (verdict_of t.rules) o)) (last_is es t.number)
    ∙ verdict_from t.disabled (settled_cause t.number es) (attempted_verdict repeat t es) (option_map (verdict_of t.rules) (last_seen t.number es)) ended
    (λ some. sym (last_attempt t.number t.rules None es) ∙ there (not (is_open_in t.number es) && is_over repeat (attempts_of t.number t.rules es)) (last_of_list (attempts_of t.number t.rules es)) some)

-- what the map has tells the verdict of each test that is final
pub verdicts_told : {S : Type 0} (courses : IndexMap ℕ Course S) (es : List Entry) → AreCourses courses es → HaveVerdicts courses es
verdicts_told courses es are = λ repeat t ended. ap (verdict_by t) (are t.number) ∙ final_verdict repeat t es ended
