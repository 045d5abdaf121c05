-- What follows from an allowed history and from each of its
-- entries: what holds all along, and which test an entry is about.
use Rattle.std.proofs.Common.{◌≡◌, Bool, true, false, ℕ, List, refl, arith}
use Rattle.std.specs.Prelude.{Option, Some, None, is_some, not, ◌&&◌, ◌==◌, if◌then◌else◌}
use Rattle.std.proofs.lemmas.Bool.{and_parts}
use Rattle.std.proofs.lemmas.Bool.Decides.{nat_tests}
use Rattle.ct_alloc.specs.declared.placement.Placement.{Placement}
use Rattle.ct_verdict.specs.declared.attempt.Seen.{Seen}
use Rattle.ct_verdict.specs.declared.repeat.Repeat.{Repeat}
use Rattle.ct_verdict.specs.declared.verdict.Cause.{Cause}
use Rattle.ct_verdict.specs.declared.verdict.Verdict.{Verdict}
use Rattle.ct_verdict.specs.declared.verdict.Verdict.TheVariants.{Disabled}
use Rattle.ct_history.specs.declared.plan.PlanTest.{PlanTest}
use Rattle.ct_history.specs.declared.plan.PlanParts.{PlanParts}
use Rattle.ct_history.specs.declared.history.Entry.{Entry}
use Rattle.ct_history.specs.declared.history.Entry.TheVariants.{Start, End, Settle}
use Rattle.ct_history.specs.Plan.{test_at}
use Rattle.ct_history.specs.History.{holds_start, is_busy_in, is_open_in}
use Rattle.ct_history.specs.Verdicts.{attempted_verdict, settled_cause, settled_or}
use Rattle.ct_history.specs.Rules.{is_pending}
use Rattle.ct_history.specs.Legal.{is_allowed, is_stop_due, settles, starts}
pub use Rattle.ct_history.proofs.ApartLemmas.{allowed_induction}
use Rattle.ct_history.proofs.MayLemmas.{SettlesAs, StartsAs, pending-parts, settles-parts, starts-parts}
use Rattle.ct_history.proofs.PlanLemmas.{find_passes}
use Rattle.ct_history.proofs.OtherLemmas.{is_about}
use Rattle.ct_history.proofs.BoolLemmas.{flipped}

-- a test is found by its own number
pub number_at : (tests : List PlanTest) (n : ℕ) (t : PlanTest) → test_at tests n ≡ Some t → t.number ≡ n
number_at tests n t found =
    let passes = find_passes (λ (x : PlanTest). x.number == n) tests t found in
    grind (arith, nat_tests)

-- the entry is about no other test than this one
abbrev pub IsAboutOnly : ℕ → Entry → Type 0
IsAboutOnly n e = (u : ℕ) → (u == n) ≡ false → is_about u e ≡ false

pub about_start : (n a w : ℕ) (p : Option Placement) → IsAboutOnly n (Start n a w p)
about_start n a w p u unlike = flipped u n unlike

pub about_end : (n a w : ℕ) (s : Seen) → IsAboutOnly n (End n a w s)
about_end n a w s u unlike = flipped u n unlike

pub about_settle : (n : ℕ) (c : Cause) → IsAboutOnly n (Settle n c)
about_settle n c u unlike = flipped u n unlike

-- a pending test is not disabled, not settled, and its attempts gave no verdict
pub record IsUndecided (repeat : Repeat) (t : PlanTest) (es : List Entry) : Type 0 where
  pub enabled : t.disabled ≡ false
  pub unsettled : settled_cause t.number es ≡ None
  pub unattempted : attempted_verdict repeat t es ≡ None
  pub closed : is_open_in t.number es ≡ false

pub undecided : (plan : PlanParts) (t : PlanTest) (es : List Entry) → is_pending plan t es ≡ true → IsUndecided plan.repeat t es
undecided plan t es pending =
    let parts = pending-parts plan t es pending in
    let three = by_parts t.disabled (settled_cause t.number es) (attempted_verdict plan.repeat t es) parts.unfinished in
    record { enabled = three.0; unsettled = three.1; unattempted = three.2; closed = parts.closed }
  where
    by_parts : (d : Bool) (c : Option Cause) (o : Option Verdict) → is_some (if d then Some Disabled else settled_or c o) ≡ false → (d ≡ false) × (c ≡ None) × (o ≡ None)
    by_parts true c o none = cc
    by_parts false (Some c) o none = cc
    by_parts false None (Some v) none = cc
    by_parts false None None none = (refl, refl, refl)

-- what follows from an allowed entry
pub start_begins : (plan : PlanParts) (es : List Entry) (n a w : ℕ) (p : Option Placement) → is_allowed plan es (Start n a w p) ≡ true → StartsAs plan es a p (test_at plan.tests n)
start_begins plan es n a w p allowed =
    let most = and_parts (not (is_stop_due plan es) && starts plan es a p (test_at plan.tests n)) (not (is_busy_in w es)) allowed in
    starts-parts plan es a p (test_at plan.tests n) (and_parts (not (is_stop_due plan es)) (starts plan es a p (test_at plan.tests n)) most.0).1

pub end_holds : (plan : PlanParts) (es : List Entry) (n a w : ℕ) (s : Seen) → is_allowed plan es (End n a w s) ≡ true → holds_start n a w es ≡ true
end_holds plan es n a w s allowed = (and_parts (not (is_stop_due plan es)) (holds_start n a w es) allowed).1

pub settle_settles : (plan : PlanParts) (es : List Entry) (n : ℕ) (c : Cause) → is_allowed plan es (Settle n c) ≡ true → SettlesAs plan es c (test_at plan.tests n)
settle_settles plan es n c allowed = settles-parts plan es c (test_at plan.tests n) (and_parts (not (is_stop_due plan es)) (settles plan es c (test_at plan.tests n)) allowed).1
