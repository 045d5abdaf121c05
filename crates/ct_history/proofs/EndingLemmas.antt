-- The last attempt of a test that has ended, and the verdicts that follow from it.
use Rattle.std.proofs.Common.{◌≡◌, ℕ, ◌+◌, ◌<◌, suc, Bool, true, false, cond, not, ◌&&◌, List, [], ◌∷◌, ◌++◌, length, take, get_or, filter_map, Option, Some, None, option_map, is_some, refl, sym, ap, ◌∙◌, arith, take-suc, ◌==◌}
use Rattle.std.specs.Option.{option_or}
use Rattle.std.specs.List.{cons_option, last_or}
use Rattle.std.proofs.lemmas.List.Elements.{filter_map-append}
use Rattle.ct_verdict.specs.declared.attempt.Seen.{Seen}
use Rattle.ct_verdict.specs.declared.verdict.Cause.{Cause}
use Rattle.ct_verdict.specs.declared.verdict.Verdict.{Verdict}
use Rattle.ct_verdict.specs.declared.verdict.Verdict.TheVariants.{Disabled}
use Rattle.ct_verdict.specs.declared.rules.Rules.{Rules}
use Rattle.ct_verdict.specs.declared.repeat.Repeat.{Repeat}
use Rattle.ct_verdict.specs.Verdict.{verdict_of}
use Rattle.ct_history.specs.declared.plan.PlanTest.{PlanTest}
use Rattle.ct_history.specs.declared.history.Entry.{Entry}
use Rattle.ct_history.specs.declared.history.Entry.TheVariants.{Start, End, Settle, Stop}
use Rattle.ct_history.specs.History.{settled_by, attempts_of, is_open_in}
use Rattle.ct_history.specs.Verdicts.{first_of_list, last_of_list, settled_or, settled_cause, attempted_verdict, is_over, verdict_in, is_final_in}
use Rattle.ct_history.specs.Endings.{seen_at_end}

pub first_snoc : {A : Type 0} (xs : List A) (o : Option A) → first_of_list (xs ++ cons_option o []) ≡ option_or (first_of_list xs) o
first_snoc [] None = refl
first_snoc [] (Some x) = refl
first_snoc (x ∷ xs) o = refl

last_snoc : {A : Type 0} (found : Option A) (xs : List A) (o : Option A) → last_or found (xs ++ cons_option o []) ≡ option_or o (last_or found xs)
last_snoc found [] None = refl
last_snoc found [] (Some x) = refl
last_snoc found (x ∷ xs) o = last_snoc (Some x) xs o

pub last_end : (rules : Rules) (found : Option Seen) (seen : Seen) (attempts : List Verdict) (seens : List Seen) → ((o : Option Seen) → last_or (option_map (verdict_of rules) o) attempts ≡ option_map (verdict_of rules) (last_or o seens)) → (b : Bool)
    → last_or (option_map (verdict_of rules) found) (cons_option (cond b (Some (verdict_of rules seen)) None) attempts) ≡ option_map (verdict_of rules) (last_or found (cons_option (cond b (Some seen) None) seens))
last_end rules found seen attempts seens rest true = rest (Some seen)
last_end rules found seen attempts seens rest false = rest found

-- the verdict of the last attempt is that of what was last seen
pub last_attempt : (test : ℕ) (rules : Rules) (found : Option Seen) (es : List Entry) → last_or (option_map (verdict_of rules) found) (attempts_of test rules es) ≡ option_map (verdict_of rules) (last_or found (filter_map (seen_at_end test) es))
last_attempt test rules found [] = refl
last_attempt test rules found (Start t a w p ∷ es) = last_attempt test rules found es
last_attempt test rules found (End t a w seen ∷ es) = last_end rules found seen (attempts_of test rules es) (filter_map (seen_at_end test) es) (λ o. last_attempt test rules o es) (t == test)
last_attempt test rules found (Settle t c ∷ es) = last_attempt test rules found es
last_attempt test rules found (Stop ∷ es) = last_attempt test rules found es

pub there : (b : Bool) (last : Option Verdict) → is_some (cond b last None) ≡ true → last ≡ cond b last None
there true last is = refl
there false last is = cc

pub verdict_from : (disabled : Bool) (settled : Option Cause) (attempted last : Option Verdict) → is_some (cond disabled (Some Disabled) (settled_or settled attempted)) ≡ true → (is_some attempted ≡ true → last ≡ attempted)
    → cond disabled (Some Disabled) (settled_or settled last) ≡ cond disabled (Some Disabled) (settled_or settled attempted)
verdict_from true settled attempted last ended same = refl
verdict_from false None attempted last ended same = same ended
verdict_from false (Some cause) attempted last ended same = refl
