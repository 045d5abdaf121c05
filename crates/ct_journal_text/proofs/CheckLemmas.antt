-- What a line of a journal does behind the entries in front of it.
use Rattle.std.proofs.Common.{◌≡◌, ◌∙◌, sym, ap, subst, ℕ, ◌<◌, ◌^◌, arith, Bool, true, false, not, ◌&&◌, List, [], ◌∷◌, length, refl, Option, Some, None}
use Rattle.std.specs.Prelude.{◌==◌, if◌then◌else◌}
use Rattle.std.proofs.lemmas.Bool.{and_parts, eq-eqb}
use Rattle.std.proofs.lemmas.Bool.Decides.{nat_tests}
use Rattle.ct_base.specs.declared.defs.Need.{Need}
use Rattle.ct_base.specs.declared.defs.Resource.{Resource}
use Rattle.ct_alloc.specs.declared.placement.Placement.{Placement}
use Rattle.ct_alloc.specs.Placement.{fits_beside, is_placement}
use Rattle.ct_history.specs.declared.plan.PlanTest.{PlanTest}
use Rattle.ct_history.specs.declared.plan.PlanParts.{PlanParts}
use Rattle.ct_history.specs.declared.history.Entry.{Entry}
use Rattle.ct_history.specs.declared.history.Entry.TheVariants as Happened
use Rattle.ct_history.specs.Plan.{test_at}
use Rattle.ct_history.specs.History.{is_busy_in, used_slots}
use Rattle.ct_history.specs.Rules.{is_placed}
use Rattle.ct_history.specs.Legal.{is_allowed, is_stop_due, starts}
use Rattle.ct_history.proofs.MayLemmas.{starts-parts}
use Rattle.ct_history.specs.declared.audit.Audit.{Audit}
use Rattle.ct_history.specs.Audited.{is_at_end}
use Rattle.ct_journal_text.specs.declared.check.Step.{Step}
use Rattle.ct_journal_text.specs.declared.check.Step.TheVariants.{GoesOn, Ends, IsBad}
use Rattle.ct_journal_text.specs.declared.lines.EntryLine.{EntryLine}
use Rattle.ct_journal_text.specs.declared.lines.JournalLine.TheVariants as Line
use Rattle.ct_journal_text.specs.Journal.{EntryFits, Says, journal_line_text, noted}
use Rattle.ct_journal_text.specs.Checked.{FindsEntry, HasPlacement, IsPlacementFor, IsDoneLine, NotesLine, TakesLine, TakesEntryOr}

placed_for : (resources : Option (List Resource)) (t : PlanTest) (used : ℕ → ℕ) (p : Placement) → is_placed resources t.needs used (Some p) ≡ true → IsPlacementFor resources (Some t) p
placed_for None t used p placed = cc
placed_for (Some rs) t used p placed = by_needs t.needs placed
  where
    by_needs : (needs : List Need) → is_placed (Some rs) needs used (Some p) ≡ true → is_placement rs needs p.picks ≡ true
    by_needs [] is = cc
    by_needs (need ∷ needs) is = (and_parts (is_placement rs (need ∷ needs) p.picks) (fits_beside rs used p.picks) is).0

-- the placement of an allowed entry is one for the needs of its test
pub allowed_placed : (plan : PlanParts) (front : List Entry) (e : Entry) → is_allowed plan front e ≡ true → HasPlacement plan e
allowed_placed plan front (Happened.Start t a w None) allowed = tt
allowed_placed plan front (Happened.Start t a w (Some p)) allowed =
    let most = and_parts (not (is_stop_due plan front) && starts plan front a (Some p) (test_at plan.tests t)) (not (is_busy_in w front)) allowed in
    let both = and_parts (not (is_stop_due plan front)) (starts plan front a (Some p) (test_at plan.tests t)) most.0 in
    let begins = starts-parts plan front a (Some p) (test_at plan.tests t) both.1 in
    subst (λ (o : Option PlanTest). IsPlacementFor plan.resources o p) (sym begins.found) (placed_for plan.resources begins.test (used_slots front) p begins.may.placed)
allowed_placed plan front (Happened.End t a w seen) allowed = tt
allowed_placed plan front (Happened.Settle t cause) allowed = tt
allowed_placed plan front Happened.Stop allowed = tt

-- what the line of an entry does, by the entry that was found and whether it is allowed
pub takes_found : (plan : PlanParts) (front : List Entry) (line : EntryLine) (e : Entry) (step : Step) (audit : Audit) → FindsEntry plan line (Some e) → NotesLine plan front e step audit → TakesEntryOr plan front line step audit
takes_found plan front line e GoesOn audit finds notes = (e, ((finds e).0 refl).0, notes.0, notes.1)
takes_found plan front line e Ends audit finds notes = notes
takes_found plan front line e IsBad audit finds notes =
    λ other allowed is. (let same : Some e ≡ Some other = (finds other).1 (is, allowed_placed plan front other allowed) in let it : e ≡ other = cc in let no : true ≡ false = sym allowed ∙ ap (is_allowed plan front) (sym it) ∙ notes in cc)

pub takes_lost : (plan : PlanParts) (front : List Entry) (line : EntryLine) (audit : Audit) → FindsEntry plan line None → TakesEntryOr plan front line IsBad audit
takes_lost plan front line audit finds = λ other allowed is. (let found : None ≡ Some other = (finds other).1 (is, allowed_placed plan front other allowed) in cc)

entry_same : (a b : EntryLine) → Some (Line.Entry a) ≡ Some (Line.Entry b) → a ≡ b
entry_same a b is = cc

-- what a text that says the line of an entry does
pub takes_entry : (plan : PlanParts) (front : List Entry) (text : List ℕ) (line : EntryLine) (step : Step) (audit : Audit) → length front < 2 ^ 64 → Says text (Some (Line.Entry line)) → TakesEntryOr plan front line step audit → TakesLine plan front text step audit
takes_entry plan front text line GoesOn audit small says (e, is, allowed, audited) = record {
  entry = e;
  is = ((says (Line.Entry line)).0 refl).1 ∙ ap (λ l. journal_line_text (Line.Entry l)) is;
  fits = subst EntryFits is ((says (Line.Entry line)).0 refl).0;
  allowed = allowed;
  audited = audited;
}
takes_entry plan front text line Ends audit small says takes = absurd takes
takes_entry plan front text line IsBad audit small says takes = (
  λ e fits allowed is. (let said = (says (Line.Entry (noted e))).1 (fits, is) in takes e allowed (entry_same line (noted e) said)),
  λ is ended. (let said = (says (Line.Done (length front))).1 (small, is) in cc),
)

-- a text that says nothing, or the first line once more
pub takes_nothing : (plan : PlanParts) (front : List Entry) (text : List ℕ) (audit : Audit) → length front < 2 ^ 64 → Says text None → TakesLine plan front text IsBad audit
takes_nothing plan front text audit small says = (
  λ e fits allowed is. (let said = (says (Line.Entry (noted e))).1 (fits, is) in cc),
  λ is ended. (let said = (says (Line.Done (length front))).1 (small, is) in cc),
)

pub takes_first : (plan : PlanParts) (front : List Entry) (text : List ℕ) (audit : Audit) → length front < 2 ^ 64 → Says text (Some Line.First) → TakesLine plan front text IsBad audit
takes_first plan front text audit small says = (
  λ e fits allowed is. (let said = (says (Line.Entry (noted e))).1 (fits, is) in cc),
  λ is ended. (let said = (says (Line.Done (length front))).1 (small, is) in cc),
)

done_same : (m n : ℕ) → Some (Line.Done m) ≡ Some (Line.Done n) → m ≡ n
done_same m n is = cc

-- a text that says the number of entries
pub takes_done : (plan : PlanParts) (front : List Entry) (text : List ℕ) (n : ℕ) (step : Step) (audit : Audit) → length front < 2 ^ 64 → Says text (Some (Line.Done n)) → IsDoneLine plan front n step → TakesLine plan front text step audit
takes_done plan front text n GoesOn audit small says done = absurd done
takes_done plan front text n Ends audit small says done = (((says (Line.Done n)).0 refl).1 ∙ ap (λ (m : ℕ). journal_line_text (Line.Done m)) done.0, done.1)
takes_done plan front text n IsBad audit small says done = (
  λ e fits allowed is. (let said = (says (Line.Entry (noted e))).1 (fits, is) in cc),
  λ is ended. done (done_same n (length front) ((says (Line.Done (length front))).1 (small, is))) ended,
)

-- whether a number of entries is that of a history at its end
pub done_by : (plan : PlanParts) (front : List Entry) (n count : ℕ) (ends : Bool) → count ≡ length front → ends ≡ is_at_end plan front → (b : Bool) → b ≡ (n == count && ends) → IsDoneLine plan front n (if b then Ends else IsBad)
done_by plan front n count ends same is true both =
    let parts = and_parts (n == count) ends (sym both) in
    let here : n ≡ count = grind (arith, nat_tests) in
    (here ∙ same, sym is ∙ parts.1)
done_by plan front n count ends same is false both = λ here ended. (
    let one : (n == count) ≡ true = eq-eqb n count (here ∙ sym same) in
    let no : false ≡ true = both ∙ ap (λ (b : Bool). b && ends) one ∙ is ∙ ended in
    cc)
