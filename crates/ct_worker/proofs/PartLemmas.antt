-- The passes of a run's workers in front of their work and behind it.
use Rattle.std.proofs.Common.{◌≡◌, ◌∙◌, sym, ap, subst, refl, ℕ, zero, suc, ◌+◌, false, List, [], ◌∷◌, ◌++◌, length, arith}
use Rattle.std.specs.Prelude.{⊤, None, All}
use Rattle.std.specs.List.{remove}
use Rattle.std.proofs.Math.ListN.{get_or, take}
use Rattle.std.proofs.lemmas.List.Elements.{All-cons, All-nil}
use Rattle.atomic_table.specs.Seated.{TableId}
use Rattle.ct_history.specs.declared.board.Base.{Base}
use Rattle.ct_history.specs.declared.plan.PlanParts.{PlanParts}
use Rattle.ct_history.specs.declared.history.Entry.{Entry}
use Rattle.ct_core.specs.Gate.{GateTell}
use Rattle.ct_turn.specs.declared.view.Known.{Known}
use Rattle.ct_turn.specs.Pass.{PassValue, idle_pass}
use Rattle.ct_turn.specs.Seen.{has_seen, moment, opener}
use Rattle.ct_turn.specs.Turn.{TurnValue}
use Rattle.ct_worker.specs.declared.jobs.Jobs.{Jobs}
use Rattle.ct_worker.specs.Crew.{AllTookPart, AreReady, AreSplit, HasSplit, IsIdle, IsReady, TookPart, having_made}
use Rattle.ct_worker.specs.Gates.{IsAsked, Terms}
use Rattle.ct_worker.specs.Lent.{IsLentEach}
use Rattle.ct_worker.specs.Work.{IsEnded, Reach, terms_in}
use Rattle.ct_history.specs.History.{open_start_of_worker}

-- a worker whose pass has seen nothing is ready
ready_one : (jobs : Jobs) (turn : TurnValue) (w : ℕ) (pass : PassValue) → pass.turn ≡ turn.id → pass.taken ≡ None → pass.known.worker ≡ w → pass.known.seen ≡ moment [] false → Reach jobs pass.known.plan → IsReady jobs turn w pass
ready_one jobs turn w pass belongs taken number seen reach = record {
  belongs = belongs;
  idle = (taken, ap (λ m. open_start_of_worker pass.known.worker m.entries) seen);
  number = number;
  reach = reach;
}

-- workers whose passes were split off a pass that has seen nothing are ready
ready_split : (jobs : Jobs) (turn : TurnValue) (known : Known) (w : ℕ) (passes : List PassValue) → known.seen ≡ moment [] false → Reach jobs known.plan → AreSplit turn known w passes → AreReady jobs turn w passes
ready_split jobs turn known w [] seen reach are = tt
ready_split jobs turn known w (p ∷ ps) seen reach are = (
  ready_one jobs turn w p (ap (λ (q : PassValue). q.turn) are.0) (ap (λ (q : PassValue). q.taken) are.0) (ap (λ (q : PassValue). q.known.worker) are.0)
      (ap (λ (q : PassValue). q.known.seen) are.0 ∙ seen) (subst (λ (plan : PlanParts). Reach jobs plan) (sym (ap (λ (q : PassValue). q.known.plan) are.0)) reach),
  ready_split jobs turn known (w + 1) ps seen reach are.1,
)

pub ready_all : (jobs : Jobs) (turn : TurnValue) (plan : PlanParts) (base : Base) (first : PassValue) (count : ℕ) (passes : List PassValue) → first ≡ idle_pass turn.id (opener plan base) → Reach jobs plan → HasSplit turn first count passes → AreReady jobs turn 0 passes
ready_all jobs turn plan base first count [] is reach split = absurd split
ready_all jobs turn plan base first count (p ∷ ps) is reach split =
    let own : p ≡ having_made (idle_pass turn.id (opener plan base)) count = split.0 ∙ ap (λ (q : PassValue). having_made q count) is in
    let others : AreSplit turn (opener plan base) 1 ps = subst (λ (q : PassValue). AreSplit turn q.known q.known.made ps) is split.1 in (
      ready_one jobs turn 0 p (ap (λ (q : PassValue). q.turn) own) (ap (λ (q : PassValue). q.taken) own) (ap (λ (q : PassValue). q.known.worker) own)
          (ap (λ (q : PassValue). q.known.seen) own) (subst (λ (plan : PlanParts). Reach jobs plan) (sym (ap (λ (q : PassValue). q.known.plan) own)) reach),
      ready_split jobs turn (opener plan base) 1 ps refl reach others,
    )

-- behind the worker's work its pass may be joined into another,
-- and its gate was asked for all that the pass has seen
pub record Worked (terms : Terms) (turn : TurnValue) (w : ℕ) (pass : PassValue) (before now : GateTell) : Type 0 where
  pub idle : IsIdle turn pass
  pub number : pass.known.worker ≡ w
  pub asked : IsAsked terms w before now pass.known.seen.entries

-- each worker from this one on is behind its work: its pass
-- may be joined into another, and its gate was asked
abbrev pub AllWorked : Terms → TurnValue → ℕ → List PassValue → List GateTell → List GateTell → Type 0
AllWorked terms turn w [] [] [] = ⊤
AllWorked terms turn w [] [] (now ∷ nows) = ⊥
AllWorked terms turn w [] (before ∷ befores) nows = ⊥
AllWorked terms turn w (pass ∷ passes) [] nows = ⊥
AllWorked terms turn w (pass ∷ passes) (before ∷ befores) [] = ⊥
AllWorked terms turn w (pass ∷ passes) (before ∷ befores) (now ∷ nows) = Worked terms turn w pass before now × AllWorked terms turn (w + 1) passes befores nows

worked_one : (jobs : Jobs) (turn : TurnValue) (plan : PlanParts) (w : ℕ) (old new : PassValue) (before now : GateTell) → old.turn ≡ turn.id → old.taken ≡ None → old.known.worker ≡ w → old.known.seen ≡ moment [] false → old.known.plan ≡ plan → TookPart jobs old new before now → Worked (terms_in jobs plan) turn w new before now
worked_one jobs turn plan w old new before now belongs taken number seen planned part =
    let pass = part.along.pass in
    let asks = part.along.asked in
    let all : new.known.seen.entries ≡ asks.more = asks.is ∙ ap (λ m. m.entries ++ asks.more) seen in
    record {
      idle = record {
        belongs = ap (λ (p : PassValue). p.turn) pass ∙ belongs;
        taken = ap (λ (p : PassValue). p.taken) pass ∙ taken;
        start = part.along.idle;
      };
      number = ap (λ (p : PassValue). p.known.worker) pass ∙ number;
      asked = subst (λ (es : List Entry). IsAsked (terms_in jobs plan) w before now es) (sym all)
          (subst (λ (v : ℕ). IsAsked (terms_in jobs plan) v before now asks.more) number
          (subst (λ (p : PlanParts). IsAsked (terms_in jobs p) old.known.worker before now asks.more) planned asks.asked));
    }

worked_split : (jobs : Jobs) (turn : TurnValue) (known : Known) (w : ℕ) (olds news : List PassValue) (befores nows : List GateTell) → known.seen ≡ moment [] false → AreSplit turn known w olds → AllTookPart jobs olds news befores nows → AllWorked (terms_in jobs known.plan) turn w news befores nows
worked_split jobs turn known w [] [] [] [] seen are part = tt
worked_split jobs turn known w [] [] [] (now ∷ nows) seen are part = absurd part
worked_split jobs turn known w [] [] (before ∷ befores) nows seen are part = absurd part
worked_split jobs turn known w [] (new ∷ news) befores nows seen are part = absurd part
worked_split jobs turn known w (old ∷ olds) [] befores nows seen are part = absurd part
worked_split jobs turn known w (old ∷ olds) (new ∷ news) [] nows seen are part = absurd part
worked_split jobs turn known w (old ∷ olds) (new ∷ news) (before ∷ befores) [] seen are part = absurd part
worked_split jobs turn known w (old ∷ olds) (new ∷ news) (before ∷ befores) (now ∷ nows) seen are part = (
  worked_one jobs turn known.plan w old new before now (ap (λ (q : PassValue). q.turn) are.0) (ap (λ (q : PassValue). q.taken) are.0) (ap (λ (q : PassValue). q.known.worker) are.0)
      (ap (λ (q : PassValue). q.known.seen) are.0 ∙ seen) (ap (λ (q : PassValue). q.known.plan) are.0) part.0,
  worked_split jobs turn known (w + 1) olds news befores nows seen are.1 part.1,
)

-- each worker from this one on lent its gate its pass for each attempt
abbrev pub AllHaveLent : TableId → PlanParts → ℕ → List PassValue → List GateTell → List GateTell → Type 0
AllHaveLent turn plan w [] [] [] = ⊤
AllHaveLent turn plan w [] [] (now ∷ nows) = ⊥
AllHaveLent turn plan w [] (before ∷ befores) nows = ⊥
AllHaveLent turn plan w (pass ∷ passes) [] nows = ⊥
AllHaveLent turn plan w (pass ∷ passes) (before ∷ befores) [] = ⊥
AllHaveLent turn plan w (pass ∷ passes) (before ∷ befores) (now ∷ nows) = IsLentEach turn plan w before now pass.known.seen.entries × AllHaveLent turn plan (w + 1) passes befores nows

lent_one : (jobs : Jobs) (turn : TurnValue) (plan : PlanParts) (w : ℕ) (old new : PassValue) (before now : GateTell) → old.turn ≡ turn.id → old.known.worker ≡ w → old.known.plan ≡ plan → TookPart jobs old new before now → IsLentEach turn.id plan w before now new.known.seen.entries
lent_one jobs turn plan w old new before now belongs number planned part =
    subst (λ (v : ℕ). IsLentEach turn.id plan v before now new.known.seen.entries) number
    (subst (λ (p : PlanParts). IsLentEach turn.id p old.known.worker before now new.known.seen.entries) planned
    (subst (λ (t : TableId). IsLentEach t old.known.plan old.known.worker before now new.known.seen.entries) belongs part.along.lent))

lent_split : (jobs : Jobs) (turn : TurnValue) (known : Known) (w : ℕ) (olds news : List PassValue) (befores nows : List GateTell) → AreSplit turn known w olds → AllTookPart jobs olds news befores nows → AllHaveLent turn.id known.plan w news befores nows
lent_split jobs turn known w [] [] [] [] are part = tt
lent_split jobs turn known w [] [] [] (now ∷ nows) are part = absurd part
lent_split jobs turn known w [] [] (before ∷ befores) nows are part = absurd part
lent_split jobs turn known w [] (new ∷ news) befores nows are part = absurd part
lent_split jobs turn known w (old ∷ olds) [] befores nows are part = absurd part
lent_split jobs turn known w (old ∷ olds) (new ∷ news) [] nows are part = absurd part
lent_split jobs turn known w (old ∷ olds) (new ∷ news) (before ∷ befores) [] are part = absurd part
lent_split jobs turn known w (old ∷ olds) (new ∷ news) (before ∷ befores) (now ∷ nows) are part = (
  lent_one jobs turn known.plan w old new before now (ap (λ (q : PassValue). q.turn) are.0) (ap (λ (q : PassValue). q.known.worker) are.0) (ap (λ (q : PassValue). q.known.plan) are.0) part.0,
  lent_split jobs turn known (w + 1) olds news befores nows are.1 part.1,
)

-- the pass of worker 0 and the `count` others behind their work
pub record Parted (jobs : Jobs) (turn : TurnValue) (plan : PlanParts) (base : Base) (count : ℕ) (first : PassValue) (others : List PassValue) (befores nows : List GateTell) : Type 0 where
  pub known : first.known ≡ has_seen (record (opener plan base) { made = 1 + count }) first.known.seen
  pub ended : IsEnded first
  pub all : AllWorked (terms_in jobs plan) turn 0 (first ∷ others) befores nows
  pub lent : AllHaveLent turn.id plan 0 (first ∷ others) befores nows
  pub size : length others ≡ count

same_length : (jobs : Jobs) (olds news : List PassValue) (befores nows : List GateTell) → AllTookPart jobs olds news befores nows → length news ≡ length olds
same_length jobs [] [] befores nows part = refl
same_length jobs [] (new ∷ news) [] nows part = absurd part
same_length jobs [] (new ∷ news) (before ∷ befores) nows part = absurd part
same_length jobs (old ∷ olds) [] befores nows part = absurd part
same_length jobs (old ∷ olds) (new ∷ news) [] nows part = absurd part
same_length jobs (old ∷ olds) (new ∷ news) (before ∷ befores) [] part = absurd part
same_length jobs (old ∷ olds) (new ∷ news) (before ∷ befores) (now ∷ nows) part = let rest = same_length jobs olds news befores nows part.1 in omega (arith, rest)

parted_cons : (jobs : Jobs) (turn : TurnValue) (plan : PlanParts) (base : Base) (count : ℕ) (opens : PassValue) (old new : PassValue) (olds news : List PassValue) (befores nows : List GateTell) → opens ≡ idle_pass turn.id (opener plan base) → HasSplit turn opens count (old ∷ olds) → length (old ∷ olds) ≡ count + 1 → AllTookPart jobs (old ∷ olds) (new ∷ news) befores nows → Parted jobs turn plan base count new news befores nows
parted_cons jobs turn plan base count opens old new olds news [] nows is split size part = absurd part
parted_cons jobs turn plan base count opens old new olds news (before ∷ befores) [] is split size part = absurd part
parted_cons jobs turn plan base count opens old new olds news (before ∷ befores) (now ∷ nows) is split size part =
    let own : old ≡ having_made (idle_pass turn.id (opener plan base)) count = split.0 ∙ ap (λ (q : PassValue). having_made q count) is in
    let others : AreSplit turn (opener plan base) 1 olds = subst (λ (q : PassValue). AreSplit turn q.known q.known.made olds) is split.1 in
    let long = same_length jobs olds news befores nows part.1 in
    record {
      known = ap (λ (q : PassValue). q.known) part.0.along.pass ∙ ap (λ (q : PassValue). has_seen q.known new.known.seen) own;
      ended = part.0.ended;
      all = (
        worked_one jobs turn plan 0 old new before now (ap (λ (q : PassValue). q.turn) own) (ap (λ (q : PassValue). q.taken) own) (ap (λ (q : PassValue). q.known.worker) own)
            (ap (λ (q : PassValue). q.known.seen) own) (ap (λ (q : PassValue). q.known.plan) own) part.0,
        worked_split jobs turn (opener plan base) 1 olds news befores nows refl others part.1,
      );
      lent = (
        lent_one jobs turn plan 0 old new before now (ap (λ (q : PassValue). q.turn) own) (ap (λ (q : PassValue). q.known.worker) own) (ap (λ (q : PassValue). q.known.plan) own) part.0,
        lent_split jobs turn (opener plan base) 1 olds news befores nows others part.1,
      );
      size = omega (arith, long, size);
    }

pub parted : (jobs : Jobs) (turn : TurnValue) (plan : PlanParts) (base : Base) (count : ℕ) (opens first : PassValue) (olds news others : List PassValue) (befores nows : List GateTell) → opens ≡ idle_pass turn.id (opener plan base) → HasSplit turn opens count olds → length olds ≡ count + 1 → AllTookPart jobs olds news befores nows → first ≡ get_or news 0 first → others ≡ remove news 0 → Parted jobs turn plan base count first others befores nows
parted jobs turn plan base count opens first [] news others befores nows is split size part first_is others_are = absurd split
parted jobs turn plan base count opens first (old ∷ olds) [] others befores nows is split size part first_is others_are = absurd part
parted jobs turn plan base count opens first (old ∷ olds) (new ∷ news) others befores nows is split size part first_is others_are =
    subst (λ (p : PassValue). Parted jobs turn plan base count p others befores nows) (sym first_is)
    (subst (λ (ps : List PassValue). Parted jobs turn plan base count new ps befores nows) (sym others_are)
    (parted_cons jobs turn plan base count opens old new olds news befores nows is split size part))

pub front_of : {A : Type 0} (n : ℕ) (xs ys : List A) → length xs ≡ n → take n (xs ++ ys) ≡ xs
front_of zero [] ys is = refl
front_of (suc n) [] ys is = absurd (omega (arith, is))
front_of zero (x ∷ xs) ys is = absurd (omega (arith, is))
front_of (suc n) (x ∷ xs) ys is = ap (λ (rest : List _). x ∷ rest) (front_of n xs ys (omega (arith, is)))

-- passes in a vector, behind the work on a slice of it
pub parted_in : (jobs : Jobs) (turn : TurnValue) (plan : PlanParts) (base : Base) (count : ℕ) (opens first : PassValue) (items slice news over others : List PassValue) (len : ℕ) (befores nows : List GateTell) → opens ≡ idle_pass turn.id (opener plan base) → HasSplit turn opens count items → len ≡ length items → len ≡ count + 1 → slice ≡ items → AllTookPart jobs slice news befores nows → first ≡ get_or (take len (news ++ over)) 0 first → others ≡ remove (take len (news ++ over)) 0 → Parted jobs turn plan base count first others befores nows
parted_in jobs turn plan base count opens first items slice news over others len befores nows is split sized many slice_is part first_is others_are =
    let took = subst (λ (ps : List PassValue). AllTookPart jobs ps news befores nows) slice_is part in
    let kept : take len (news ++ over) ≡ news = front_of len news over (same_length jobs items news befores nows took ∙ sym sized) in
    parted jobs turn plan base count opens first items news others befores nows is split (sym sized ∙ many) took
    (first_is ∙ ap (λ (ps : List PassValue). get_or ps 0 first) kept) (others_are ∙ ap (λ (ps : List PassValue). remove ps 0) kept)

-- behind their work each pass may be joined into another
pub all_idle : (terms : Terms) (turn : TurnValue) (w : ℕ) (passes : List PassValue) (befores nows : List GateTell) → AllWorked terms turn w passes befores nows → All (IsIdle turn) passes
all_idle terms turn w [] befores nows all = All-nil (IsIdle turn)
all_idle terms turn w (p ∷ ps) [] nows all = absurd all
all_idle terms turn w (p ∷ ps) (before ∷ befores) [] all = absurd all
all_idle terms turn w (p ∷ ps) (before ∷ befores) (now ∷ nows) all = All-cons (IsIdle turn) p ps all.0.idle (all_idle terms turn (w + 1) ps befores nows all.1)
