-- The part of a history for one of several trees: its open starts, attempts and verdicts are those of the
-- whole history for the tests of the tree.
use Rattle.std.proofs.Common.{◌≡◌, ◌∙◌, sym, ap, subst, Bool, true, false, ℕ, ◌+◌, ◌-◌, ◌<◌, List, [], ◌∷◌, refl, arith, inl, inr}
use Rattle.std.specs.Prelude.{Option, Some, None, option_map, option_and_then, not, is_some, ◌&&◌, ◌==◌, cond, filter_map, map, nat_le, nat_lt, if◌then◌else◌}
use Rattle.std.specs.List.{list_all, list_any, cons_option}
use Rattle.std.proofs.lemmas.Bool.{and_parts, cases_Bool, ltb-true}
use Rattle.std.proofs.lemmas.Bool.Decides.{nat_tests}
use Rattle.ct_alloc.proofs.SpreadLemmas.{all-filter}
use Rattle.ct_verdict.specs.declared.attempt.How.{How}
use Rattle.ct_verdict.specs.declared.attempt.How.TheVariants as Ends
use Rattle.ct_verdict.specs.declared.attempt.Seen.{Seen}
use Rattle.ct_verdict.specs.declared.repeat.Repeat.{Repeat}
use Rattle.ct_verdict.specs.declared.rules.Rules.{Rules}
use Rattle.ct_verdict.specs.declared.verdict.Cause.{Cause}
use Rattle.ct_verdict.specs.declared.verdict.Verdict.{Verdict}
use Rattle.ct_verdict.specs.declared.verdict.Verdict.TheVariants.{Passed, Failed, Timeout, Exception, Skipped, NotRun, Disabled}
use Rattle.ct_verdict.specs.Verdict.{is_passing_exit, is_skipped_exit, verdict_of, verdict_of_how}
use Rattle.ct_history.specs.declared.plan.PlanTest.{PlanTest}
use Rattle.ct_history.specs.declared.plan.PlanParts.{PlanParts}
use Rattle.ct_history.specs.declared.history.Entry.{Entry}
use Rattle.ct_history.specs.declared.history.Entry.TheVariants.{Start, End, Settle, Stop}
use Rattle.ct_history.specs.Plan.{test_at}
use Rattle.ct_history.specs.History.{Running, attempt_by, attempts_of, has_stop, holds_start, is_busy_in, is_end_of, is_open_in, is_stop, open_starts, opened, settled_by}
use Rattle.ct_history.specs.Verdicts.{attempted_verdict, first_of_list, is_final_in, is_over, is_passed_verdict, last_of_list, settled_cause, settled_or, verdict_at, verdict_in, verdict_of_test}
use Rattle.ct_history.specs.Parts.{IsPartOfPlan, cause_back, entry_of_part, is_in_tree, part_of, renumbered, verdict_back}
use Rattle.ct_history.proofs.PlanLemmas.{find_passes}
use Rattle.ct_history.proofs.PartListLemmas.{any-filter_map, any_less, filter_map-cons, filter_map-twice, find-filter, find-map, first-filter_map, is_some_and, last-filter_map}
use Rattle.ct_history.proofs.ProgressLemmas.{all_found}

-- a number of the tree, between its bounds
pub above : (o c n : ℕ) → is_in_tree o c n ≡ true → o < n
above o c n is = ltb-true o n (and_parts (nat_lt o n) (nat_le n (o + c)) is).0

-- lowered, and raised again, a number of the tree is itself
pub back_there : (o c n : ℕ) → is_in_tree o c n ≡ true → (n - o) + o ≡ n
back_there o c n is = omega (arith, above o c n is)

pub there_back : (o n : ℕ) → (n + o) - o ≡ n
there_back o n = omega arith

pub back_same : (o c x m : ℕ) → is_in_tree o c x ≡ true → (x - o == m) ≡ (x == m + o)
back_same o c x m is = let more = above o c x is in grind (arith, nat_tests)

pub other_number : (o c x m : ℕ) → is_in_tree o c (m + o) ≡ true → is_in_tree o c x ≡ false → (x == m + o) ≡ false
other_number o c x m here there = elim (cases_Bool (x == m + o)) [
  | inl same ↦
      let is : x ≡ m + o = grind (arith, nat_tests) in
      let no = sym there ∙ ap (λ (n : ℕ). is_in_tree o c n) is ∙ here in
      (cc)
  | inr other ↦ other
]

-- the start with its number lowered, if it is of the tree
abbrev pub running_of_part : ℕ → ℕ → Running → Option Running
running_of_part o c r =
    if is_in_tree o c r.test
    then Some (record { test = r.test - o; attempt = r.attempt; worker = r.worker; placement = r.placement })
    else None

-- a test of the number, and of more, is passed by an entry of the part alike
by_tree : (o c x m : ℕ) (more : Bool) → is_in_tree o c (m + o) ≡ true → (b : Bool) → b ≡ is_in_tree o c x → (if b then (x - o == m) && more else false) ≡ ((x == m + o) && more)
by_tree o c x m more here true is = ap (λ (b : Bool). b && more) (back_same o c x m (sym is))
by_tree o c x m more here false is = sym (ap (λ (b : Bool). b && more) (other_number o c x m here (sym is)))

if_some : {A : Type 0} (p : A → Bool) (b : Bool) (x : A) → is_some_and p (if b then Some x else None) ≡ (if b then p x else false)
if_some p true x = refl
if_some p false x = refl

if_none : (b : Bool) → (if b then false else false) ≡ false
if_none true = refl
if_none false = refl

ends_alike : (o c m a : ℕ) → is_in_tree o c (m + o) ≡ true → (e : Entry) → is_some_and (is_end_of m a) (entry_of_part o c e) ≡ is_end_of (m + o) a e
ends_alike o c m a here (Start t b w p) = if_some (is_end_of m a) (is_in_tree o c t) (Start (t - o) b w p) ∙ if_none (is_in_tree o c t)
ends_alike o c m a here (End t b w s) = if_some (is_end_of m a) (is_in_tree o c t) (End (t - o) b w s) ∙ by_tree o c t m (b == a) here (is_in_tree o c t) refl
ends_alike o c m a here (Settle t k) = if_some (is_end_of m a) (is_in_tree o c t) (Settle (t - o) (cause_back o k)) ∙ if_none (is_in_tree o c t)
ends_alike o c m a here Stop = refl

-- an attempt of the tree ended in the part exactly where it ended in the whole
ended_alike : (o c m a : ℕ) → is_in_tree o c (m + o) ≡ true → (es : List Entry) → list_any (is_end_of m a) (part_of o c es) ≡ list_any (is_end_of (m + o) a) es
ended_alike o c m a here es = any-filter_map (entry_of_part o c) (is_end_of m a) (is_end_of (m + o) a) (ends_alike o c m a here) es

ended_back : (o c t a : ℕ) → is_in_tree o c t ≡ true → (es : List Entry) → list_any (is_end_of (t - o) a) (part_of o c es) ≡ list_any (is_end_of t a) es
ended_back o c t a here es =
    let same = back_there o c t here in
    ended_alike o c (t - o) a (ap (λ (n : ℕ). is_in_tree o c n) same ∙ here) es ∙ ap (λ (n : ℕ). list_any (is_end_of n a) es) same

opens_alike : (o c : ℕ) (e : Entry) (es : List Entry) → option_and_then (λ (x : Entry). opened x (part_of o c es)) (entry_of_part o c e) ≡ option_and_then (running_of_part o c) (opened e es)
opens_alike o c (Start t a w p) es = by_here (is_in_tree o c t) refl
  where
    run : Running
    run = record { test = t; attempt = a; worker = w; placement = p }

    back : Running
    back = record { test = t - o; attempt = a; worker = w; placement = p }

    by_ended : (ended b : Bool) → b ≡ is_in_tree o c t → b ≡ true → cond ended None (Some (record { test = t - o; attempt = a; worker = w; placement = p })) ≡ option_and_then (running_of_part o c) (cond ended None (Some (record { test = t; attempt = a; worker = w; placement = p })))
    by_ended true b is here = refl
    by_ended false b is here =
        sym (ap (λ (x : Bool). if x then Some (record { test = t - o; attempt = a; worker = w; placement = p }) else None) (sym is ∙ here))

    by_gone : (ended b : Bool) → b ≡ is_in_tree o c t → b ≡ false → None ≡ option_and_then (running_of_part o c) (cond ended None (Some (record { test = t; attempt = a; worker = w; placement = p })))
    by_gone true b is gone = refl
    by_gone false b is gone =
        sym (ap (λ (x : Bool). if x then Some (record { test = t - o; attempt = a; worker = w; placement = p }) else None) (sym is ∙ gone))

    by_here : (b : Bool) → b ≡ is_in_tree o c t → option_and_then (λ (x : Entry). opened x (part_of o c es)) (if b then Some (Start (t - o) a w p) else None) ≡ option_and_then (running_of_part o c) (opened (Start t a w p) es)
    by_here true is =
        ap (λ (x : Bool). cond x None (Some (record { test = t - o; attempt = a; worker = w; placement = p }))) (ended_back o c t a (sym is) es)
        ∙ by_ended (list_any (is_end_of t a) es) true is refl
    by_here false is = by_gone (list_any (is_end_of t a) es) false is refl
opens_alike o c (End t a w s) es = by_here (is_in_tree o c t)
  where
    by_here : (b : Bool) → option_and_then (λ (x : Entry). opened x (part_of o c es)) (if b then Some (End (t - o) a w s) else None) ≡ None
    by_here true = refl
    by_here false = refl
opens_alike o c (Settle t k) es = by_here (is_in_tree o c t)
  where
    by_here : (b : Bool) → option_and_then (λ (x : Entry). opened x (part_of o c es)) (if b then Some (Settle (t - o) (cause_back o k)) else None) ≡ None
    by_here true = refl
    by_here false = refl
opens_alike o c Stop es = refl

open_cons : (o : Option Entry) (es : List Entry) → open_starts (cons_option o es) ≡ cons_option (option_and_then (λ (x : Entry). opened x es) o) (open_starts es)
open_cons None es = refl
open_cons (Some e) es = refl

-- the open starts of the part are the tree's open starts
pub open_starts-part : (o c : ℕ) (es : List Entry) → open_starts (part_of o c es) ≡ filter_map (running_of_part o c) (open_starts es)
open_starts-part o c [] = refl
open_starts-part o c (e ∷ es) =
    open_cons (entry_of_part o c e) (part_of o c es)
    ∙ ap (λ (x : Option Running). cons_option x (open_starts (part_of o c es))) (opens_alike o c e es)
    ∙ ap (λ (rs : List Running). cons_option (option_and_then (running_of_part o c) (opened e es)) rs) (open_starts-part o c es)
    ∙ sym (filter_map-cons (running_of_part o c) (opened e es) (open_starts es))

-- a test of the tree is open in the part exactly where it is open in the whole
pub open-part : (o c m : ℕ) → is_in_tree o c (m + o) ≡ true → (es : List Entry) → is_open_in m (part_of o c es) ≡ is_open_in (m + o) es
open-part o c m here es =
    ap (λ (rs : List Running). list_any (λ (r : Running). r.test == m) rs) (open_starts-part o c es)
    ∙ any-filter_map (running_of_part o c) (λ (r : Running). r.test == m) (λ (r : Running). r.test == m + o) each (open_starts es)
  where
    plain : (b : Bool) → (b && true) ≡ b
    plain true = refl
    plain false = refl

    here_plain : (b x y : Bool) → (if b then x && true else false) ≡ (y && true) → (if b then x else false) ≡ y
    here_plain true x y is = sym (plain x) ∙ is ∙ plain y
    here_plain false x y is = is ∙ plain y

    each : (r : Running) → is_some_and (λ (q : Running). q.test == m) (running_of_part o c r) ≡ (r.test == m + o)
    each r =
        if_some (λ (q : Running). q.test == m) (is_in_tree o c r.test) (record { test = r.test - o; attempt = r.attempt; worker = r.worker; placement = r.placement })
        ∙ here_plain (is_in_tree o c r.test) (r.test - o == m) (r.test == m + o) (by_tree o c r.test m true here (is_in_tree o c r.test) refl)

-- a start of the tree is held in the part exactly where it is held in the whole
pub holds-part : (o c m a w : ℕ) → is_in_tree o c (m + o) ≡ true → (es : List Entry) → holds_start m a w (part_of o c es) ≡ holds_start (m + o) a w es
holds-part o c m a w here es =
    ap (λ (rs : List Running). list_any (λ (r : Running). r.test == m && r.attempt == a && r.worker == w) rs) (open_starts-part o c es)
    ∙ any-filter_map (running_of_part o c) (λ (r : Running). r.test == m && r.attempt == a && r.worker == w) (λ (r : Running). r.test == m + o && r.attempt == a && r.worker == w) each (open_starts es)
  where
    joined : (x y z : Bool) → (x && y && z) ≡ (x && (y && z))
    joined true y z = refl
    joined false y z = refl

    here_joined : (b x u y z : Bool) → (if b then x && (y && z) else false) ≡ (u && (y && z)) → (if b then x && y && z else false) ≡ (u && y && z)
    here_joined true x u y z is = joined x y z ∙ is ∙ sym (joined u y z)
    here_joined false x u y z is = is ∙ sym (joined u y z)

    each : (r : Running) → is_some_and (λ (q : Running). q.test == m && q.attempt == a && q.worker == w) (running_of_part o c r) ≡ (r.test == m + o && r.attempt == a && r.worker == w)
    each r =
        if_some (λ (q : Running). q.test == m && q.attempt == a && q.worker == w) (is_in_tree o c r.test) (record { test = r.test - o; attempt = r.attempt; worker = r.worker; placement = r.placement })
        ∙ here_joined (is_in_tree o c r.test) (r.test - o == m) (r.test == m + o) (r.attempt == a) (r.worker == w) (by_tree o c r.test m (r.attempt == a && r.worker == w) here (is_in_tree o c r.test) refl)

-- a worker that is not busy in the whole is not busy in the part
pub busy_less : (o c w : ℕ) (es : List Entry) → is_busy_in w es ≡ false → is_busy_in w (part_of o c es) ≡ false
busy_less o c w es free =
    ap (λ (rs : List Running). list_any (λ (r : Running). r.worker == w) rs) (open_starts-part o c es)
    ∙ any_less (running_of_part o c) (λ (r : Running). r.worker == w) (λ (r : Running). r.worker == w) each (open_starts es) free
  where
    by_here : (b x : Bool) → (if b then x else false) ≡ true → x ≡ true
    by_here true x is = is
    by_here false x is = cc

    each : (r : Running) → is_some_and (λ (q : Running). q.worker == w) (running_of_part o c r) ≡ true → (r.worker == w) ≡ true
    each r is =
        by_here (is_in_tree o c r.test) (r.worker == w)
        (sym (if_some (λ (q : Running). q.worker == w) (is_in_tree o c r.test) (record { test = r.test - o; attempt = r.attempt; worker = r.worker; placement = r.placement })) ∙ is)

no_stop_of : (o c : ℕ) (e : Entry) → is_some_and is_stop (entry_of_part o c e) ≡ false
no_stop_of o c (Start t a w p) = if_some is_stop (is_in_tree o c t) (Start (t - o) a w p) ∙ if_none (is_in_tree o c t)
no_stop_of o c (End t a w s) = if_some is_stop (is_in_tree o c t) (End (t - o) a w s) ∙ if_none (is_in_tree o c t)
no_stop_of o c (Settle t k) = if_some is_stop (is_in_tree o c t) (Settle (t - o) (cause_back o k)) ∙ if_none (is_in_tree o c t)
no_stop_of o c Stop = refl

-- no Stop is in a part
pub part_goes_on : (o c : ℕ) (es : List Entry) → has_stop (part_of o c es) ≡ false
part_goes_on o c es = any-filter_map (entry_of_part o c) is_stop (λ e. false) (no_stop_of o c) es ∙ none es
  where
    none : (xs : List Entry) → list_any (λ (e : Entry). false) xs ≡ false
    none [] = refl
    none (x ∷ xs) = none xs

if_and_then : {A B : Type 0} (g : A → Option B) (b : Bool) (x : A) → option_and_then g (if b then Some x else None) ≡ (if b then g x else None)
if_and_then g true x = refl
if_and_then g false x = refl

if_nothing : {A : Type 0} (b : Bool) → (if b then (let n : Option A = None in n) else None) ≡ (let n : Option A = None in n)
if_nothing true = refl
if_nothing false = refl

-- a value that an entry of the tree's test gives is given alike
by_own : {A : Type 0} (o c x m : ℕ) (v : A) → is_in_tree o c (m + o) ≡ true → (b : Bool) → b ≡ is_in_tree o c x → (if b then (if x - o == m then Some v else None) else None) ≡ (if x == m + o then Some v else None)
by_own o c x m v here true is = ap (λ (b : Bool). if b then Some v else None) (back_same o c x m (sym is))
by_own o c x m v here false is = sym (ap (λ (b : Bool). if b then Some v else None) (other_number o c x m here (sym is)))

attempt_alike : (o c m : ℕ) (rules : Rules) → is_in_tree o c (m + o) ≡ true → (e : Entry) → option_and_then (attempt_by m rules) (entry_of_part o c e) ≡ attempt_by (m + o) rules e
attempt_alike o c m rules here (Start t a w p) = if_and_then (attempt_by m rules) (is_in_tree o c t) (Start (t - o) a w p) ∙ if_nothing (is_in_tree o c t)
attempt_alike o c m rules here (End t a w s) = if_and_then (attempt_by m rules) (is_in_tree o c t) (End (t - o) a w s) ∙ by_own o c t m (verdict_of rules s) here (is_in_tree o c t) refl
attempt_alike o c m rules here (Settle t k) = if_and_then (attempt_by m rules) (is_in_tree o c t) (Settle (t - o) (cause_back o k)) ∙ if_nothing (is_in_tree o c t)
attempt_alike o c m rules here Stop = refl

-- the attempts of a test of the tree are the same in the part
pub attempts-part : (o c m : ℕ) (rules : Rules) → is_in_tree o c (m + o) ≡ true → (es : List Entry) → attempts_of m rules (part_of o c es) ≡ attempts_of (m + o) rules es
attempts-part o c m rules here es = filter_map-twice (entry_of_part o c) (attempt_by m rules) (attempt_by (m + o) rules) (attempt_alike o c m rules here) es

settled_alike : (o c m : ℕ) → is_in_tree o c (m + o) ≡ true → (e : Entry) → option_and_then (settled_by m) (entry_of_part o c e) ≡ option_map (cause_back o) (settled_by (m + o) e)
settled_alike o c m here (Start t a w p) = if_and_then (settled_by m) (is_in_tree o c t) (Start (t - o) a w p) ∙ if_nothing (is_in_tree o c t)
settled_alike o c m here (End t a w s) = if_and_then (settled_by m) (is_in_tree o c t) (End (t - o) a w s) ∙ if_nothing (is_in_tree o c t)
settled_alike o c m here (Settle t k) =
    if_and_then (settled_by m) (is_in_tree o c t) (Settle (t - o) (cause_back o k)) ∙ by_own o c t m (cause_back o k) here (is_in_tree o c t) refl ∙ sym (mapped (t == m + o))
  where
    mapped : (b : Bool) → option_map (cause_back o) (if b then Some k else None) ≡ (if b then Some (cause_back o k) else None)
    mapped true = refl
    mapped false = refl
settled_alike o c m here Stop = refl

-- the cause that settled a test of the tree is the same in the part, lowered
pub settled-part : (o c m : ℕ) → is_in_tree o c (m + o) ≡ true → (es : List Entry) → settled_cause m (part_of o c es) ≡ option_map (cause_back o) (settled_cause (m + o) es)
settled-part o c m here es =
    ap first_of_list (filter_map-twice (entry_of_part o c) (settled_by m) (λ e. option_map (cause_back o) (settled_by (m + o) e)) (settled_alike o c m here) es)
    ∙ first-filter_map (cause_back o) (settled_by (m + o)) es

-- the verdict of an attempt names no setup
how_stays : (o : ℕ) (rules : Rules) (seen : Seen) (how : How) → verdict_back o (verdict_of_how rules seen how) ≡ verdict_of_how rules seen how
how_stays o rules seen (Ends.Exited code) = by_tests (is_skipped_exit rules seen code) (is_passing_exit rules seen code)
  where
    by_tests : (a b : Bool) → verdict_back o (if a then Skipped else (if b then Passed else Failed)) ≡ (if a then Skipped else (if b then Passed else Failed))
    by_tests true b = refl
    by_tests false true = refl
    by_tests false false = refl
how_stays o rules seen Ends.Signalled = refl
how_stays o rules seen Ends.TimedOut = refl
how_stays o rules seen Ends.NotStarted = refl
how_stays o rules seen (Ends.Lacks place) = refl
how_stays o rules seen Ends.NoMemory = refl

attempt_stays : (o n : ℕ) (rules : Rules) (e : Entry) → option_map (verdict_back o) (attempt_by n rules e) ≡ attempt_by n rules e
attempt_stays o n rules (Start t a w p) = refl
attempt_stays o n rules (End t a w s) = by_same (t == n)
  where
    by_same : (b : Bool) → option_map (verdict_back o) (if b then Some (verdict_of rules s) else None) ≡ (if b then Some (verdict_of rules s) else None)
    by_same true = ap (λ (v : Verdict). Some v) (how_stays o rules s s.how)
    by_same false = refl
attempt_stays o n rules (Settle t k) = refl
attempt_stays o n rules Stop = refl

-- the verdict of a test of the tree is the same in the part, with the setup of its cause lowered
pub verdict-part : (o c : ℕ) (repeat : Repeat) (t : PlanTest) → is_in_tree o c (t.number + o) ≡ true → (es : List Entry) → verdict_in repeat t (part_of o c es) ≡ option_map (verdict_back o) (verdict_in repeat (renumbered o t) es)
verdict-part o c repeat t here es = by_disabled t.disabled
  where
    attempts : List Verdict
    attempts = attempts_of (t.number + o) t.rules es

    attempted : attempted_verdict repeat t (part_of o c es) ≡ attempted_verdict repeat (renumbered o t) es
    attempted =
        ap (λ (b : Bool). if not b && is_over repeat (attempts_of t.number t.rules (part_of o c es)) then last_of_list (attempts_of t.number t.rules (part_of o c es)) else None) (open-part o c t.number here es)
        ∙ ap (λ (vs : List Verdict). if not (is_open_in (t.number + o) es) && is_over repeat vs then last_of_list vs else None) (attempts-part o c t.number t.rules here es)

    kept : (b : Bool) (last : Option Verdict) → option_map (verdict_back o) last ≡ last → (if b then last else None) ≡ option_map (verdict_back o) (if b then last else None)
    kept true last same = sym same
    kept false last same = refl

    lowered : attempted_verdict repeat (renumbered o t) es ≡ option_map (verdict_back o) (attempted_verdict repeat (renumbered o t) es)
    lowered =
        kept (not (is_open_in (t.number + o) es) && is_over repeat (attempts_of (t.number + o) t.rules es)) (last_of_list (attempts_of (t.number + o) t.rules es))
        (last-filter_map (verdict_back o) (attempt_by (t.number + o) t.rules) (attempt_stays o (t.number + o) t.rules) es)

    by_cause : (k : Option Cause) (mine its : Option Verdict) → mine ≡ option_map (verdict_back o) its → settled_or (option_map (cause_back o) k) mine ≡ option_map (verdict_back o) (settled_or k its)
    by_cause None mine its same = same
    by_cause (Some k) mine its same = refl

    by_disabled : (d : Bool) → (if d then Some Disabled else settled_or (settled_cause t.number (part_of o c es)) (attempted_verdict repeat t (part_of o c es))) ≡ option_map (verdict_back o) (if d then Some Disabled else settled_or (settled_cause (t.number + o) es) (attempted_verdict repeat (renumbered o t) es))
    by_disabled true = refl
    by_disabled false =
        ap (λ (k : Option Cause). settled_or k (attempted_verdict repeat t (part_of o c es))) (settled-part o c t.number here es)
        ∙ by_cause (settled_cause (t.number + o) es) (attempted_verdict repeat t (part_of o c es)) (attempted_verdict repeat (renumbered o t) es) (attempted ∙ lowered)

pub some_back : (o : ℕ) (v : Option Verdict) → is_some (option_map (verdict_back o) v) ≡ is_some v
some_back o None = refl
some_back o (Some v) = refl

-- a test of the tree is final in the part exactly where it is final in the whole
pub final-part : (o c : ℕ) (repeat : Repeat) (t : PlanTest) → is_in_tree o c (t.number + o) ≡ true → (es : List Entry) → is_final_in repeat t (part_of o c es) ≡ is_final_in repeat (renumbered o t) es
final-part o c repeat t here es = ap is_some (verdict-part o c repeat t here es) ∙ some_back o (verdict_in repeat (renumbered o t) es)

pub passed_back : (o : ℕ) (v : Option Verdict) → is_passed_verdict (option_map (verdict_back o) v) ≡ is_passed_verdict v
passed_back o None = refl
passed_back o (Some Passed) = refl
passed_back o (Some Failed) = refl
passed_back o (Some Timeout) = refl
passed_back o (Some Exception) = refl
passed_back o (Some Skipped) = refl
passed_back o (Some (NotRun cause)) = refl
passed_back o (Some Disabled) = refl

-- looking up the tests of a part
module _ (whole : PlanParts) (o c : ℕ) (part : PlanParts) (is : IsPartOfPlan whole o c part) where
  numbers_in : list_all (λ (t : PlanTest). is_in_tree o c t.number) (map (renumbered o) part.tests) ≡ true
  numbers_in = subst (λ (ts : List PlanTest). list_all (λ (t : PlanTest). is_in_tree o c t.number) ts ≡ true) is.tests (all-filter (λ (t : PlanTest). is_in_tree o c t.number) whole.tests)

  -- the tests of the part have numbers of the tree
  pub tests_in : list_all (λ (t : PlanTest). is_in_tree o c (t.number + o)) part.tests ≡ true
  tests_in = plain part.tests numbers_in
    where
      plain : (ts : List PlanTest) → list_all (λ (t : PlanTest). is_in_tree o c t.number) (map (renumbered o) ts) ≡ true → list_all (λ (t : PlanTest). is_in_tree o c (t.number + o)) ts ≡ true
      plain [] all = refl
      plain (t ∷ ts) all =
          let both = and_parts (is_in_tree o c (t.number + o)) (list_all (λ (u : PlanTest). is_in_tree o c u.number) (map (renumbered o) ts)) all in
          ap (λ (b : Bool). b && list_all (λ (u : PlanTest). is_in_tree o c (u.number + o)) ts) both.0 ∙ plain ts both.1

  -- a test of the whole with a number of the tree is the part's test, renumbered
  pub test_at-part : (m : ℕ) → is_in_tree o c (m + o) ≡ true → test_at whole.tests (m + o) ≡ option_map (renumbered o) (test_at part.tests m)
  test_at-part m here =
      sym (find-filter (λ (t : PlanTest). t.number == m + o) (λ (t : PlanTest). is_in_tree o c t.number) own whole.tests)
      ∙ ap (λ (ts : List PlanTest). test_at ts (m + o)) is.tests
      ∙ find-map (renumbered o) (λ (t : PlanTest). t.number == m + o) (λ (t : PlanTest). t.number == m) (λ t. raised t.number) part.tests
    where
      own : (t : PlanTest) → (t.number == m + o) ≡ true → is_in_tree o c t.number ≡ true
      own t same =
          let number : t.number ≡ m + o = grind (arith, nat_tests) in
          ap (λ (n : ℕ). is_in_tree o c n) number ∙ here

      raised : (n : ℕ) → (n + o == m + o) ≡ (n == m)
      raised n = grind (arith, nat_tests)

  -- the number of a test of the part is one of the tree
  pub found_in : (m : ℕ) (t : PlanTest) → test_at part.tests m ≡ Some t → is_in_tree o c (m + o) ≡ true
  found_in m t found =
      let passes = find_passes (λ (u : PlanTest). u.number == m) part.tests t found in
      let number : t.number ≡ m = grind (arith, nat_tests) in
      ap (λ (n : ℕ). is_in_tree o c (n + o)) (sym number)
      ∙ all_found (λ (u : PlanTest). is_in_tree o c (u.number + o)) (λ (u : PlanTest). u.number == m) part.tests t tests_in found

  -- the verdict of a test by its number is the same in the part
  pub verdict_of_test-part : (es : List Entry) (m : ℕ) → is_in_tree o c (m + o) ≡ true → verdict_of_test part (part_of o c es) m ≡ option_map (verdict_back o) (verdict_of_test whole es (m + o))
  verdict_of_test-part es m here = by_found (test_at part.tests m) refl ∙ sym (ap (λ (u : Option PlanTest). option_map (verdict_back o) (verdict_at whole es u)) (test_at-part m here))
    where
      by_found : (u : Option PlanTest) → u ≡ test_at part.tests m → verdict_at part (part_of o c es) u ≡ option_map (verdict_back o) (verdict_at whole es (option_map (renumbered o) u))
      by_found None found = refl
      by_found (Some t) found =
          let passes = find_passes (λ (u : PlanTest). u.number == m) part.tests t (sym found) in
          let number : t.number ≡ m = grind (arith, nat_tests) in
          verdict-part o c part.repeat t (ap (λ (n : ℕ). is_in_tree o c (n + o)) number ∙ here) es
          ∙ ap (λ (r : Repeat). option_map (verdict_back o) (verdict_in r (renumbered o t) es)) (sym is.repeat)
