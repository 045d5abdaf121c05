-- What follows where a test may start, or may be settled.
use Rattle.std.proofs.Common.{◌≡◌, Bool, true, false, ℕ, List, refl}
use Rattle.std.specs.Prelude.{Option, Some, None, not, ◌&&◌, if◌then◌else◌}
use Rattle.std.proofs.lemmas.Bool.{and_parts, not-true}
use Rattle.ct_alloc.specs.declared.placement.Placement.{Placement}
use Rattle.ct_verdict.specs.declared.verdict.Cause.{Cause}
use Rattle.ct_verdict.specs.declared.verdict.Cause.TheVariants.{Unstarted, Lacks, Fixture, NotAvailable, BadOperation, Insufficient, Stopped, Memory}
use Rattle.ct_history.specs.declared.plan.PlanTest.{PlanTest}
use Rattle.ct_history.specs.declared.plan.PlanParts.{PlanParts}
use Rattle.ct_history.specs.declared.history.Entry.{Entry}
use Rattle.ct_history.specs.History.{has_stop, is_open_in, used_slots}
use Rattle.ct_history.specs.Verdicts.{is_final_in}
use Rattle.ct_history.specs.Rules.{cause_behind, first_unpassed, follows_finals, has_processors, has_room, is_excluded, is_pending, is_placed, is_ready, may_start, settle_cause}
use Rattle.ct_history.specs.Legal.{is_next_attempt, same_cause, settles, starts}

-- each part of 'may start'
pub record MayStart (plan : PlanParts) (t : PlanTest) (placement : Option Placement) (es : List Entry) : Type 0 where
  pub goes_on : has_stop es ≡ false
  pub pending : is_pending plan t es ≡ true
  pub ready : is_ready plan t es ≡ true
  pub processors : has_processors plan t es ≡ true
  pub apart : is_excluded plan.tests t es ≡ false
  pub placed : is_placed plan.resources t.needs (used_slots es) placement ≡ true

pub may_start-parts : (plan : PlanParts) (t : PlanTest) (placement : Option Placement) (es : List Entry) → may_start plan t placement es ≡ true → MayStart plan t placement es
may_start-parts plan t placement es may =
    let placed = is_placed plan.resources t.needs (used_slots es) placement in
    let four = and_parts (not (has_stop es) && is_pending plan t es && is_ready plan t es && has_room plan t es) placed may in
    let three = and_parts (not (has_stop es) && is_pending plan t es && is_ready plan t es) (has_room plan t es) four.0 in
    let two = and_parts (not (has_stop es) && is_pending plan t es) (is_ready plan t es) three.0 in
    let one = and_parts (not (has_stop es)) (is_pending plan t es) two.0 in
    let room = and_parts (has_processors plan t es) (not (is_excluded plan.tests t es)) three.1 in
    record {
      goes_on = not-true (has_stop es) one.0;
      pending = one.1;
      ready = two.1;
      processors = room.0;
      apart = not-true (is_excluded plan.tests t es) room.1;
      placed = four.1;
    }

-- a test that is neither final nor open
pub record IsPending (plan : PlanParts) (t : PlanTest) (es : List Entry) : Type 0 where
  pub unfinished : is_final_in plan.repeat t es ≡ false
  pub closed : is_open_in t.number es ≡ false

pub pending-parts : (plan : PlanParts) (t : PlanTest) (es : List Entry) → is_pending plan t es ≡ true → IsPending plan t es
pending-parts plan t es pending =
    let both = and_parts (not (is_final_in plan.repeat t es)) (not (is_open_in t.number es)) pending in
    record { unfinished = not-true (is_final_in plan.repeat t es) both.0; closed = not-true (is_open_in t.number es) both.1 }

-- the test that was looked up, which may start with this placement as this attempt
pub record StartsAs (plan : PlanParts) (es : List Entry) (attempt : ℕ) (placement : Option Placement) (looked_up : Option PlanTest) : Type 0 where
  pub test : PlanTest
  pub found : looked_up ≡ Some test
  pub may : MayStart plan test placement es
  pub next : is_next_attempt test attempt es ≡ true

pub starts-parts : (plan : PlanParts) (es : List Entry) (attempt : ℕ) (placement : Option Placement) (found : Option PlanTest) → starts plan es attempt placement found ≡ true → StartsAs plan es attempt placement found
starts-parts plan es attempt placement None is = cc
starts-parts plan es attempt placement (Some t) is =
    let both = and_parts (may_start plan t placement es) (is_next_attempt t attempt es) is in
    record { test = t; found = refl; may = may_start-parts plan t placement es both.0; next = both.1 }

-- only a pending test can be settled
pub settled_pending : (plan : PlanParts) (t : PlanTest) (es : List Entry) (cause : Cause) → settle_cause plan t es ≡ Some cause → is_pending plan t es ≡ true
settled_pending plan t es cause is = by_pending (is_pending plan t es) (if has_stop es then Some Stopped else (if follows_finals plan t es then cause_behind (first_unpassed plan t es) t.fixed else None)) cause is
  where
    by_pending : (pending : Bool) (rest : Option Cause) (c : Cause) → (if not pending then None else rest) ≡ Some c → pending ≡ true
    by_pending true rest c has = refl
    by_pending false rest c has = cc

-- the test that was looked up, which may be settled with this cause
pub record SettlesAs (plan : PlanParts) (es : List Entry) (cause : Cause) (looked_up : Option PlanTest) : Type 0 where
  pub test : PlanTest
  pub found : looked_up ≡ Some test
  pub pending : is_pending plan test es ≡ true

pub no_cause : (cause : Cause) → same_cause cause None ≡ false
no_cause Unstarted = refl
no_cause (Lacks k) = refl
no_cause (Fixture k) = refl
no_cause NotAvailable = refl
no_cause (BadOperation k) = refl
no_cause Insufficient = refl
no_cause Stopped = refl
no_cause Memory = refl

some_cause : (cause : Cause) (o : Option Cause) → same_cause cause o ≡ true → (c : Cause) × (o ≡ Some c)
some_cause cause None is = let none = no_cause cause in (cc)
some_cause cause (Some c) is = (c, refl)

pub settles-parts : (plan : PlanParts) (es : List Entry) (cause : Cause) (found : Option PlanTest) → settles plan es cause found ≡ true → SettlesAs plan es cause found
settles-parts plan es cause None is = cc
settles-parts plan es cause (Some t) is =
    let some = some_cause cause (settle_cause plan t es) is in
    record { test = t; found = refl; pending = settled_pending plan t es some.0 some.1 }
