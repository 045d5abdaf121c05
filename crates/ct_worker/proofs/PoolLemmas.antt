-- The result of a run by several workers, from what each of them
-- saw and from what was left when their passes were joined.
use Rattle.std.proofs.Common.{◌≡◌, ◌∙◌, sym, ap, subst, refl, ℕ, suc, ◌+◌, ◌<◌, ◌≤◌, true, false, List, [], ◌∷◌, ◌++◌, length, arith, append_assoc, length-append, inl, inr}
use Rattle.std.specs.Prelude.{⊤, Contains, IfErr, Option, Some, None, is_some, All, map, ◌==◌, ◌||◌, nat_lt}
use Rattle.std.specs.Option.{option_or}
use Rattle.std.specs.List.{list_all, list_any}
use Rattle.std.proofs.lemmas.Bool.{and_parts, and_from, cases_Bool, true≢false, or_from, or_parts}
use Rattle.std.proofs.lemmas.Bool.Decides.{nat_tests}
use Rattle.std.proofs.lemmas.List.{append-nil, map-append}
use Rattle.std.proofs.lemmas.List.Elements.{All-cons, All-head, All-nil, All-tail}
use Rattle.std.proofs.lemmas.List.Folds.{list_any-append}
use Rattle.atomic_table.specs.Seated.{TableId}
use Rattle.ct_base.proofs.OptionLemmas.{some_is}
use Rattle.ct_verdict.specs.declared.verdict.Verdict.{Verdict}
use Rattle.ct_history.specs.declared.board.Base.{Base}
use Rattle.ct_history.specs.declared.plan.PlanParts.{PlanParts}
use Rattle.ct_history.specs.declared.plan.PlanTest.{PlanTest}
use Rattle.ct_history.specs.declared.history.Entry.{Entry}
use Rattle.ct_history.specs.declared.history.Entry.TheVariants.{Start, End, Settle, Stop}
use Rattle.ct_history.specs.History.{open_starts}
use Rattle.ct_history.specs.Legal.{are_allowed_behind, is_allowed, is_legal}
use Rattle.ct_history.specs.Plan.{IsSound, test_at}
use Rattle.ct_history.specs.Verdicts.{are_all_final, is_final_in, verdict_in}
use Rattle.ct_history.proofs.BoolLemmas.{eq_same}
use Rattle.ct_history.proofs.FinalLemmas.{verdict_stays}
use Rattle.ct_history.proofs.LegalLemmas.{legal-nil, legal_allowed}
use Rattle.ct_history.proofs.PlanLemmas.{contained_at}
use Rattle.ct_core.specs.Gate.{GateTell}
use Rattle.ct_turn.specs.declared.view.Known.{Known}
use Rattle.ct_turn.specs.declared.view.Note.{Note}
use Rattle.ct_turn.specs.Pass.{PassValue}
use Rattle.ct_turn.specs.Seen.{Closes, HistoryGoesOn, is_by, is_noted, note_of, with_joined}
use Rattle.ct_turn.specs.Turn.{TurnValue}
use Rattle.ct_report.specs.PutLines.{PutsLines}
use Rattle.ct_report.specs.Report.{test_lines}
use Rattle.ct_worker.specs.declared.jobs.Jobs.{Jobs}
use Rattle.ct_worker.specs.Crew.{IsIdle, all_joined}
use Rattle.ct_worker.specs.Gates.{AreAsked, AreSameGates, IsAsked, Terms, are_below, is_below}
use Rattle.ct_worker.specs.Halted.{IsHalted}
use Rattle.ct_worker.specs.Lent.{AreLentEach, IsLentEach}
use Rattle.ct_worker.specs.Pool.{IsPooled}
use Rattle.ct_worker.specs.State.{StateValue, base_of, given_up, put_of}
use Rattle.ct_worker.specs.declared.state.Halt.{Halt}
use Rattle.ct_worker.specs.declared.state.Halt.TheVariants.{Memory}
use Rattle.ct_worker.specs.Work.{terms_in}
use Rattle.ct_worker.proofs.CrewLemmas.{joined_worker}
use Rattle.ct_worker.proofs.EventLemmas.{sight_of}
use Rattle.ct_worker.proofs.GateLemmas.{asked_none, asked_others}
use Rattle.ct_worker.proofs.LentLemmas.{lent_more, none_lent, nothing_lent}
use Rattle.ct_worker.proofs.PartLemmas.{AllHaveLent, AllWorked, Parted, Worked, all_idle}

-- what stays when passes are joined
joined_plan : (keeper : Known) (passes : List PassValue) → (all_joined keeper passes).plan ≡ keeper.plan
joined_plan keeper [] = refl
joined_plan keeper (p ∷ ps) = joined_plan (with_joined keeper p.known) ps

joined_base : (keeper : Known) (passes : List PassValue) → (all_joined keeper passes).base ≡ keeper.base
joined_base keeper [] = refl
joined_base keeper (p ∷ ps) = joined_base (with_joined keeper p.known) ps

joined_made : (keeper : Known) (passes : List PassValue) → (all_joined keeper passes).made ≡ keeper.made
joined_made keeper [] = refl
joined_made keeper (p ∷ ps) = joined_made (with_joined keeper p.known) ps

-- joining adds one note for each pass
joined_notes : (keeper : Known) (passes : List PassValue) → length (all_joined keeper passes).notes ≡ length keeper.notes + length passes
joined_notes keeper [] = omega arith
joined_notes keeper (p ∷ ps) =
    let rest = joined_notes (with_joined keeper p.known) ps in
    let one = length-append keeper.notes (note_of keeper p.known ∷ []) in
    omega (arith, rest, one)

-- if no halt is seen after joining, the keeper had seen none before
joined_halted : (keeper : Known) (passes : List PassValue) → (all_joined keeper passes).seen.halted ≡ false → keeper.seen.halted ≡ false
joined_halted keeper [] is = is
joined_halted keeper (p ∷ ps) is = (or_parts keeper.seen.halted p.known.seen.halted (joined_halted (with_joined keeper p.known) ps is)).0

-- the passes are for the workers from this number on, in order
abbrev HaveNumbers : ℕ → List PassValue → Type 0
HaveNumbers w [] = ⊤
HaveNumbers w (pass ∷ passes) = (pass.known.worker ≡ w) × HaveNumbers (w + 1) passes

numbers : (terms : Terms) (turn : TurnValue) (w : ℕ) (passes : List PassValue) (befores nows : List GateTell) → AllWorked terms turn w passes befores nows → HaveNumbers w passes
numbers terms turn w [] befores nows all = tt
numbers terms turn w (p ∷ ps) [] nows all = absurd all
numbers terms turn w (p ∷ ps) (before ∷ befores) [] all = absurd all
numbers terms turn w (p ∷ ps) (before ∷ befores) (now ∷ nows) all = (all.0.number, numbers terms turn (w + 1) ps befores nows all.1)

unlike : (v w first : ℕ) → v ≡ first → first < w → (v == w) ≡ false
unlike v w first is less = grind (arith, nat_tests)

-- a worker behind these passes was not noted
unnoted : (w from : ℕ) (keeper : Known) (passes : List PassValue) → HaveNumbers from passes → from + length passes ≤ w → is_noted w keeper.notes ≡ false → is_noted w (all_joined keeper passes).notes ≡ false
unnoted w from keeper [] have behind none = none
unnoted w from keeper (p ∷ ps) have behind none =
    let other : (p.known.worker == w) ≡ false = unlike p.known.worker w from have.0 (omega (arith, behind)) in
    unnoted w (from + 1) (with_joined keeper p.known) ps have.1 (omega (arith, behind))
    (list_any-append (λ (n : Note). n.worker == w) keeper.notes (note_of keeper p.known ∷ []) ∙ or_from (is_noted w keeper.notes) (p.known.worker == w || false) none (or_from (p.known.worker == w) false other refl))

-- the history goes on from what was noted
abbrev Goes : List Entry → Note → Type 0
Goes final note = HistoryGoesOn note.worker note.seen final

-- the history goes on from what each of these passes has seen
abbrev AllGo : List Entry → List PassValue → Type 0
AllGo final [] = ⊤
AllGo final (pass ∷ passes) = HistoryGoesOn pass.known.worker pass.known.seen.entries final × AllGo final passes

all_parts : (P : Note → Type 0) (xs ys : List Note) → All P (xs ++ ys) → All P xs × All P ys
all_parts P [] ys all = (All-nil P, all)
all_parts P (x ∷ xs) ys all =
    let rest = all_parts P xs ys (All-tail P x (xs ++ ys) all) in
    (All-cons P x xs (All-head P x (xs ++ ys) all) rest.0, rest.1)

all_go : (final : List Entry) (keeper : Known) (passes : List PassValue) → All (Goes final) (all_joined keeper passes).notes → All (Goes final) keeper.notes × AllGo final passes
all_go final keeper [] all = (all, tt)
all_go final keeper (p ∷ ps) all =
    let rest = all_go final (with_joined keeper p.known) ps all in
    let both = all_parts (Goes final) keeper.notes (note_of keeper p.known ∷ []) rest.0 in
    (both.0, (All-head (Goes final) (note_of keeper p.known) [] both.1, rest.1))

-- the gates behind the workers' gates were not asked
asked_rest : (terms : Terms) (w : ℕ) (rest : List GateTell) (final : List Entry) → ((v : ℕ) → w ≤ v → list_any (is_by v) final ≡ false) → AreAsked terms w rest rest final
asked_rest terms w [] final none = tt
asked_rest terms w (tell ∷ tells) final none = (
  asked_others terms w tell tell [] final (none w (omega arith)) (asked_none terms w tell),
  asked_rest terms (w + 1) tells final (λ v behind. none v (omega (arith, behind))),
)

asked_one : (terms : Terms) (turn : TurnValue) (w : ℕ) (pass : PassValue) (before now : GateTell) (final : List Entry) → Worked terms turn w pass before now → HistoryGoesOn pass.known.worker pass.known.seen.entries final → IsAsked terms w before now final
asked_one terms turn w pass before now final worked goes =
    subst (λ (es : List Entry). IsAsked terms w before now es) (sym goes.is)
    (asked_others terms w before now pass.known.seen.entries goes.more (subst (λ (v : ℕ). list_any (is_by v) goes.more ≡ false) worked.number goes.others) worked.asked)

-- the workers' gates were asked for all that their workers did, and the gates behind them were not asked
asked_all : (terms : Terms) (turn : TurnValue) (w : ℕ) (passes : List PassValue) (befores nows rest : List GateTell) (final : List Entry) → AllWorked terms turn w passes befores nows → AllGo final passes → ((v : ℕ) → w + length passes ≤ v → list_any (is_by v) final ≡ false) → AreAsked terms w (befores ++ rest) (nows ++ rest) final
asked_all terms turn w [] [] [] rest final all goes none = asked_rest terms w rest final (λ v behind. none v (omega (arith, behind)))
asked_all terms turn w [] [] (now ∷ nows) rest final all goes none = absurd all
asked_all terms turn w [] (before ∷ befores) nows rest final all goes none = absurd all
asked_all terms turn w (p ∷ ps) [] nows rest final all goes none = absurd all
asked_all terms turn w (p ∷ ps) (before ∷ befores) [] rest final all goes none = absurd all
asked_all terms turn w (p ∷ ps) (before ∷ befores) (now ∷ nows) rest final all goes none = (
  asked_one terms turn w p before now final all.0 goes.0,
  asked_all terms turn (w + 1) ps befores nows rest final all.1 goes.1 (λ v behind. none v (omega (arith, behind))),
)

-- the workers' gates were lent their passes, and the gates behind them were lent nothing
lent_all : (turn : TableId) (plan : PlanParts) (w : ℕ) (passes : List PassValue) (befores nows rest : List GateTell) (final : List Entry) → AllHaveLent turn plan w passes befores nows → AllGo final passes → AreLentEach turn plan w (befores ++ rest) (nows ++ rest) final
lent_all turn plan w [] [] [] rest final all goes = none_lent turn plan w rest final
lent_all turn plan w [] [] (now ∷ nows) rest final all goes = absurd all
lent_all turn plan w [] (before ∷ befores) nows rest final all goes = absurd all
lent_all turn plan w (p ∷ ps) [] nows rest final all goes = absurd all
lent_all turn plan w (p ∷ ps) (before ∷ befores) [] rest final all goes = absurd all
lent_all turn plan w (p ∷ ps) (before ∷ befores) (now ∷ nows) rest final all goes = (
  subst (λ (es : List Entry). IsLentEach turn plan w before now es) (sym goes.0.is) (lent_more turn plan w before now p.known.seen.entries goes.0.more all.0),
  lent_all turn plan (w + 1) ps befores nows rest final all.1 goes.1,
)

-- if no entry is by a worker behind the first ones, each entry is by one of the first
below_one : (workers : ℕ) (e : Entry) → ((v : ℕ) → workers ≤ v → is_by v e ≡ false) → is_below workers e ≡ true
below_one workers (Start t a w p) none = elim (cases_Bool (nat_lt w workers)) [
  | inl less ↦ less
  | inr not_less ↦ let behind : workers ≤ w = grind (arith, nat_tests, not_less) in absurd (true≢false (sym (eq_same w) ∙ none w behind))
]
below_one workers (End t a w s) none = elim (cases_Bool (nat_lt w workers)) [
  | inl less ↦ less
  | inr not_less ↦ let behind : workers ≤ w = grind (arith, nat_tests, not_less) in absurd (true≢false (sym (eq_same w) ∙ none w behind))
]
below_one workers (Settle t cause) none = refl
below_one workers Stop none = refl

below_all : (workers : ℕ) (es : List Entry) → ((v : ℕ) → workers ≤ v → list_any (is_by v) es ≡ false) → are_below workers es ≡ true
below_all workers [] none = refl
below_all workers (e ∷ es) none =
    and_from (is_below workers e) (are_below workers es) (below_one workers e (λ v behind. (or_parts (is_by v e) (list_any (is_by v) es) (none v behind)).0))
    (below_all workers es (λ v behind. (or_parts (is_by v e) (list_any (is_by v) es) (none v behind)).1))

allowed_behind : (plan : PlanParts) (front xs ys : List Entry) → are_allowed_behind plan front (xs ++ ys) ≡ true → are_allowed_behind plan (front ++ xs) ys ≡ true
allowed_behind plan front [] ys allowed = subst (λ (es : List Entry). are_allowed_behind plan es ys ≡ true) (sym (append-nil front)) allowed
allowed_behind plan front (x ∷ xs) ys allowed =
    let both = and_parts (is_allowed plan front x) (are_allowed_behind plan (front ++ x ∷ []) (xs ++ ys)) allowed in
    subst (λ (es : List Entry). are_allowed_behind plan es ys ≡ true) (append_assoc front (x ∷ []) xs) (allowed_behind plan (front ++ x ∷ []) xs ys both.1)

-- a verdict stays when allowed entries follow
verdict_more : (plan : PlanParts) (t : PlanTest) → test_at plan.tests t.number ≡ Some t → (front more : List Entry) (v : Verdict) → are_allowed_behind plan front more ≡ true → verdict_in plan.repeat t front ≡ Some v → verdict_in plan.repeat t (front ++ more) ≡ Some v
verdict_more plan t at front [] v allowed final = ap (verdict_in plan.repeat t) (append-nil front) ∙ final
verdict_more plan t at front (e ∷ es) v allowed final =
    let both = and_parts (is_allowed plan front e) (are_allowed_behind plan (front ++ e ∷ []) es) allowed in
    ap (verdict_in plan.repeat t) (sym (append_assoc front (e ∷ []) es)) ∙ verdict_more plan t at (front ++ e ∷ []) es v both.1 (verdict_stays plan t at front v final e both.0)

finals_more : (plan : PlanParts) (front more : List Entry) → are_allowed_behind plan front more ≡ true → (ts : List PlanTest) → ((t : PlanTest) → Contains ts t → test_at plan.tests t.number ≡ Some t) → list_all (λ t. is_final_in plan.repeat t front) ts ≡ true → list_all (λ t. is_final_in plan.repeat t (front ++ more)) ts ≡ true
finals_more plan front more allowed [] at all = refl
finals_more plan front more allowed (t ∷ ts) at all =
    let both = and_parts (is_final_in plan.repeat t front) (list_all (λ u. is_final_in plan.repeat u front) ts) all in
    let own = some_is (verdict_in plan.repeat t front) both.0 in
    and_from (is_final_in plan.repeat t (front ++ more)) (list_all (λ u. is_final_in plan.repeat u (front ++ more)) ts)
    (ap is_some (verdict_more plan t (at t (0, omega arith, refl)) front more own.0 allowed own.1))
    (finals_more plan front more allowed ts (λ u there. at u (later u there)) both.1)
  where
    later : (u : PlanTest) → Contains ts u → Contains (t ∷ ts) u
    later u (i, less, is) = (suc i, omega (arith, less), is)

-- if each test is final in what a worker has seen, each is final in a legal history that goes on from it
all_final_more : (plan : PlanParts) (w : ℕ) (seen now : List Entry) → IsSound plan → is_legal plan now ≡ true → HistoryGoesOn w seen now → are_all_final plan seen ≡ true → are_all_final plan now ≡ true
all_final_more plan w seen now sound legal goes all =
    let allowed = subst (λ (es : List Entry). are_allowed_behind plan [] es ≡ true) goes.is (legal_allowed plan now legal) in
    subst (λ (es : List Entry). are_all_final plan es ≡ true) (sym goes.is)
    (finals_more plan seen goes.more (allowed_behind plan [] seen goes.more allowed) plan.tests (λ t there. contained_at 1 plan.tests t sound.numbers there) all)

module _ (jobs : Jobs) (turn : TurnValue) (plan : PlanParts) (base : Base) (count : ℕ) (first now : PassValue) (others : List PassValue) (befores nows : List GateTell) (parts : Parted jobs turn plan base count first others befores nows) where
  idle : All (IsIdle turn) (first ∷ others)
  idle = all_idle (terms_in jobs plan) turn 0 (first ∷ others) befores nows parts.all

  pub first_idle : IsIdle turn first
  first_idle = All-head (IsIdle turn) first others idle

  pub others_idle : All (IsIdle turn) others
  others_idle = All-tail (IsIdle turn) first others idle

  pub first_opener : first.known.worker ≡ 0
  first_opener = ap (λ (k : Known). k.worker) parts.known

  module _ (joined : now ≡ record first { known = all_joined first.known others }) where
    pub joined_turn : now.turn ≡ turn.id
    joined_turn = ap (λ (p : PassValue). p.turn) joined ∙ first_idle.belongs

    pub joined_taken : now.taken ≡ None
    joined_taken = ap (λ (p : PassValue). p.taken) joined ∙ first_idle.taken

    pub joined_opener : now.known.worker ≡ 0
    joined_opener = ap (λ (p : PassValue). p.known.worker) joined ∙ joined_worker first.known others ∙ first_opener

    pub joined_all : length now.known.notes + 1 ≡ now.known.made
    joined_all =
        let noted : length now.known.notes ≡ length first.known.notes + length others = ap (λ (p : PassValue). length p.known.notes) joined ∙ joined_notes first.known others in
        let none : length first.known.notes ≡ 0 = ap (λ (k : Known). length k.notes) parts.known in
        let made : now.known.made ≡ 1 + count = ap (λ (p : PassValue). p.known.made) joined ∙ joined_made first.known others ∙ ap (λ (k : Known). k.made) parts.known in
        let size = parts.size in
        omega (arith, noted, none, made, size)

    module _ (old new : StateValue) (workers : ℕ) (rest : List GateTell) (many : workers ≡ count + 1) (planned : old.plan ≡ plan) (based : base_of old ≡ base)
        (sound : IsSound plan) (own : HistoryGoesOn first.known.worker first.known.seen.entries now.known.seen.entries) (closes : Closes now.known (sight_of new))
        (put : PutsLines (test_lines new.plan new.entries) new.opened new.sink (put_of new.halt)) (stops : IfErr (put_of new.halt) (λ fault. IsHalted fault new.plan new.entries new.opened new.sink)) where
      abbrev keeper : Known
      keeper = all_joined first.known others

      closed : Closes keeper (sight_of new)
      closed = subst (λ (p : PassValue). Closes p.known (sight_of new)) joined closes

      new_plan : new.plan ≡ plan
      new_plan = closed.plan ∙ joined_plan first.known others ∙ ap (λ (k : Known). k.plan) parts.known

      legal : is_legal plan new.entries ≡ true
      legal = subst (λ (p : PlanParts). is_legal p new.entries ≡ true) (joined_plan first.known others ∙ ap (λ (k : Known). k.plan) parts.known) closed.legal

      goes_first : HistoryGoesOn first.known.worker first.known.seen.entries new.entries
      goes_first = subst (λ (es : List Entry). HistoryGoesOn first.known.worker first.known.seen.entries es) (sym closes.history) own

      goes : AllGo new.entries (first ∷ others)
      goes = (goes_first, (all_go new.entries first.known others closed.notes).1)

      have : HaveNumbers 0 (first ∷ others)
      have = numbers (terms_in jobs plan) turn 0 (first ∷ others) befores nows parts.all

      none_behind : (v : ℕ) → workers ≤ v → list_any (is_by v) new.entries ≡ false
      none_behind v behind = closed.owners v other (unnoted v 1 first.known others have.1 (omega (arith, behind, many, parts.size)) (ap (λ (k : Known). is_noted v k.notes) parts.known))
        where
          other : v ≡ keeper.worker → ⊥
          other is = let zero' : keeper.worker ≡ 0 = joined_worker first.known others ∙ first_opener in absurd (omega (arith, is, zero', behind, many))

      not_halted : new.halt ≡ None → keeper.seen.halted ≡ false
      not_halted none = elim (cases_Bool keeper.seen.halted) [
        | inl halted ↦ absurd (true≢false (sym (closed.halted halted) ∙ ap is_some none))
        | inr going ↦ going
      ]

      ended : new.halt ≡ None → are_all_final plan new.entries ≡ true
      ended none =
          let all = parts.ended (joined_halted first.known others (not_halted none)) in
          all_final_more plan first.known.worker first.known.seen.entries new.entries sound legal goes_first
          (subst (λ (p : PlanParts). are_all_final p first.known.seen.entries ≡ true) (ap (λ (k : Known). k.plan) parts.known) all)

      pub is_pooled : IsPooled (terms_in jobs plan) workers old new (befores ++ rest) (nows ++ rest)
      is_pooled = record {
        plan = new_plan ∙ sym planned;
        base = closed.base ∙ joined_base first.known others ∙ ap (λ (k : Known). k.base) parts.known ∙ sym based;
        legal = subst (λ (p : PlanParts). is_legal p new.entries ≡ true) (sym new_plan) legal;
        closed = closed.idle;
        workers = below_all workers new.entries none_behind;
        ended = λ none. subst (λ (p : PlanParts). are_all_final p new.entries ≡ true) (sym new_plan) (ended none);
        asked = asked_all (terms_in jobs plan) turn 0 (first ∷ others) befores nows rest new.entries parts.all goes (λ v behind. none_behind v (omega (arith, behind, many, parts.size)));
        lent = record {
          turn = turn.id;
          each = subst (λ (p : PlanParts). AreLentEach turn.id p 0 (befores ++ rest) (nows ++ rest) new.entries) (sym new_plan) (lent_all turn.id plan 0 (first ∷ others) befores nows rest new.entries parts.lent goes);
        };
        put = put;
        halted = stops;
      }

-- a run that was given up before anything had started is pooled
pub unpooled_is : (terms : Terms) (workers : ℕ) (old new : StateValue) (tells : List GateTell) → old.entries ≡ [] → old.halt ≡ None → new ≡ given_up Memory old
    → PutsLines (test_lines new.plan new.entries) new.opened new.sink (put_of new.halt) → IfErr (put_of new.halt) (λ fault. IsHalted fault new.plan new.entries new.opened new.sink) → IsPooled terms workers old new tells tells
unpooled_is terms workers old new tells fresh going is put stops =
    let none : new.entries ≡ [] = ap (λ (s : StateValue). s.entries) is ∙ fresh in
    record {
      plan = ap (λ (s : StateValue). s.plan) is;
      base = ap (λ (s : StateValue). base_of s) is;
      legal = subst (λ (es : List Entry). is_legal new.plan es ≡ true) (sym none) (legal-nil new.plan);
      closed = ap open_starts none;
      workers = ap (are_below workers) none;
      ended = λ no. absurd (some_is_none (sym (ap (λ (s : StateValue). s.halt) is ∙ ap (λ (h : Option Halt). option_or h (Some Memory)) going) ∙ no));
      asked = asked_rest terms 0 tells new.entries (λ v behind. ap (list_any (is_by v)) none);
      lent = nothing_lent new.plan tells new.entries;
      put = put;
      halted = stops;
    }
  where
    some_is_none : Some Memory ≡ None → ⊥
    some_is_none is = cc

-- the run is pooled with all its gates, behind the work on the first of them
pub pooled_in : {G : Type 0} (tells : G → GateTell) (terms : Terms) (workers : ℕ) (old new : StateValue) (gates front back now : List G) → gates ≡ front ++ back → IsPooled terms workers old new (map tells front ++ map tells back) (map tells now ++ map tells back) → IsPooled terms workers old new (map tells gates) (map tells (now ++ back))
pooled_in tells terms workers old new gates front back now are pooled =
    subst (λ (ts : List GateTell). IsPooled terms workers old new ts (map tells (now ++ back))) (sym (ap (map tells) are ∙ map-append tells front back))
    (subst (λ (ts : List GateTell). IsPooled terms workers old new (map tells front ++ map tells back) ts) (sym (map-append tells now back)) pooled)

-- gates that were asked for the attempts of their workers are the same ones in the same order
pub asked_in_order : (terms : Terms) (w : ℕ) (befores nows : List GateTell) (es : List Entry) → AreAsked terms w befores nows es → AreSameGates befores nows
asked_in_order terms w [] [] es asked = refl
asked_in_order terms w [] (now ∷ nows) es asked = absurd asked
asked_in_order terms w (before ∷ befores) [] es asked = absurd asked
asked_in_order terms w (before ∷ befores) (now ∷ nows) es asked =
    ap (λ (who : Option ℕ). who ∷ map (λ (gate : GateTell). gate.who) nows) asked.0.who
    ∙ ap (λ (whos : List (Option ℕ)). before.who ∷ whos) (asked_in_order terms (w + 1) befores nows es asked.1)
