-- How a step of the core, and the line that it brings, change a state.
use Rattle.std.proofs.Common.{◌≡◌, ◌∙◌, sym, ap, subst, true, false, Bool, ℕ, List, [], ◌∷◌, ◌++◌, length, refl}
use Rattle.std.specs.Prelude.{Option, Some, None, is_some, Result, Ok, Err, IfErr, ◌||◌, not, ◌&&◌}
use Rattle.std.specs.Option.{option_or}
use Rattle.std.proofs.lemmas.List.{append-nil}
use Rattle.std.proofs.lemmas.List.Folds.{list_all-append}
use Rattle.std.proofs.Math.Bool.{or-false, or-true}
use Rattle.ct_base.specs.declared.sink.SinkFault.{SinkFault}
use Rattle.ct_base.specs.declared.sink.SinkFault.TheVariants as Sinks
use Rattle.ct_base.specs.Outside.{SinkTell}
use Rattle.ct_base.proofs.OptionLemmas.{not_some}
use Rattle.ct_verdict.specs.declared.attempt.Seen.{Seen}
use Rattle.ct_history.specs.declared.history.Entry.{Entry}
use Rattle.ct_history.specs.declared.history.Entry.TheVariants as Is
use Rattle.ct_core.specs.declared.scheduler.Next.{Next}
use Rattle.ct_core.specs.declared.scheduler.Next.TheVariants as Nexts
use Rattle.ct_core.specs.declared.ticket.Ticket.{Ticket}
use Rattle.ct_core.specs.Core.{IsNext, SettlesLeast, StartsFirst, with_due_stop, with_entry, with_final}
use Rattle.ct_core.specs.CoreValue.{CoreValue}
use Rattle.ct_core.specs.Gate.{is_no_memory}
use Rattle.ct_core.specs.Ticket.{end_of, start_of, test_of}
use Rattle.ct_report.specs.declared.run_lines.TestLines.{TestLines}
use Rattle.ct_report.specs.PutLines.{PutsLines}
use Rattle.ct_report.specs.Report.{test_lines}
use Rattle.ct_report.proofs.PutLemmas.{lines_as, lines_none, lines_stop}
use Rattle.ct_report.proofs.RunLineLemmas.{knows_more}
use Rattle.ct_worker.specs.declared.lines.Lines.{Lines}
use Rattle.ct_worker.specs.declared.state.Halt.{Halt}
use Rattle.ct_worker.specs.declared.state.Halt.TheVariants as Halts
use Rattle.ct_worker.specs.Gates.{had_memory, lacks_memory}
use Rattle.ct_worker.specs.Halted.{IsHalted}
use Rattle.ct_worker.specs.Kept.{IsKeptState, KnowsSome}
use Rattle.ct_worker.specs.Lines.{PutsEnd, PutsFor}
use Rattle.ct_worker.specs.State.{EndsSo, StateFollows, IsFinished, IsStateNext, PutsLine, StateValue, core_of, halt_of, put_of}
use Rattle.ct_worker.proofs.StateLemmas.{kept_given_up, kept_lacking, kept_line, knows_now, lines_same, never_failed, puts_line, seen_as}

-- the case that an attempt ended
module _ {S : Type 0} (tells : S → SinkTell) (core now : CoreValue) (halt : Option Halt) (old : Lines S) (opened : SinkTell) (kept : IsKeptState core halt old.known old.count opened (tells old.sink)) (ticket : Ticket) (seen : Seen) (grew : now ≡ with_final core (end_of ticket seen)) where
  entries_now : now.entries ≡ with_due_stop core.plan (core.entries ++ end_of ticket seen ∷ [])
  entries_now = ap (λ (c : CoreValue). c.entries) grew

  pub end_knows : KnowsSome now old.known
  end_knows = knows_now core now (end_of ticket seen) halt old.known old.count opened (tells old.sink) kept grew

  -- the run was given up before
  pub given_up_kept : is_some halt ≡ true → IsKeptState now halt old.known old.count opened (tells old.sink)
  given_up_kept some = kept_given_up core now (end_of ticket seen) halt old.known old.count opened (tells old.sink) kept grew refl some

  pub given_up_finished : is_some halt ≡ true → IsFinished (seen_as core halt opened (tells old.sink)) ticket seen (seen_as now halt opened (tells old.sink))
  given_up_finished some = by halt some (ap (λ (c : CoreValue). seen_as c halt opened (tells old.sink)) grew)
    where
      by : (o : Option Halt) → is_some o ≡ true → seen_as now halt opened (tells old.sink) ≡ record (seen_as core halt opened (tells old.sink)) { entries = with_due_stop core.plan (core.entries ++ end_of ticket seen ∷ []) } → EndsSo o (is_no_memory seen.how) (test_of ticket) (with_due_stop core.plan (core.entries ++ end_of ticket seen ∷ [])) (seen_as core halt opened (tells old.sink)) (seen_as now halt opened (tells old.sink))
      by None is same = cc
      by (Some h) is same = same

  -- the run goes on
  module _ (goes : is_some halt ≡ false) (new : Lines S) (put : Result (Unit {0}) SinkFault) (after : CoreValue) (halted : Option Halt) (heeded : after ≡ record now { aborted = now.aborted || is_some (halt_of put) }) (is : halted ≡ option_or halt (halt_of put)) where
    none : halt ≡ None
    none = not_some halt goes

    lacking : new ≡ old → put ≡ Err Sinks.NoMemory → IsKeptState after halted new.known new.count opened (tells new.sink)
    lacking same failed =
        subst (λ (l : Lines S). IsKeptState after halted l.known l.count opened (tells l.sink)) (sym same)
        (kept_lacking core now (end_of ticket seen) halt old.known old.count opened (tells old.sink) kept grew none after halted
        (heeded ∙ ap (λ (r : Result (Unit {0}) SinkFault). record now { aborted = now.aborted || is_some (halt_of r) }) failed)
        (is ∙ ap (λ (r : Result (Unit {0}) SinkFault). option_or halt (halt_of r)) failed))

    pub end_kept : (b : Bool) → is_no_memory seen.how ≡ b → PutsEnd tells b (test_of ticket) now old new put → IsKeptState after halted new.known new.count opened (tells new.sink)
    end_kept true lacks says = lacking says.0 says.1
    end_kept false has says =
        kept_line core now (end_of ticket seen) halt old.known old.count opened (tells old.sink) kept grew none after halted (test_of ticket) refl put (tells new.sink) new.known new.count says.puts heeded is has says.count says.knows says.tried

    abbrev was : StateValue
    was = seen_as core halt opened (tells old.sink)

    abbrev now_is : StateValue
    now_is = seen_as after halted opened (tells new.sink)

    ends_so : (b : Bool) → PutsEnd tells b (test_of ticket) now old new put → EndsSo None b (test_of ticket) (with_due_stop core.plan (core.entries ++ end_of ticket seen ∷ [])) was now_is
    ends_so true says =
        ap (λ (l : Lines S). seen_as after halted opened (tells l.sink)) says.0
        ∙ ap (λ (c : CoreValue). seen_as c halted opened (tells old.sink)) (heeded ∙ ap (λ (c : CoreValue). record c { aborted = c.aborted || is_some (halt_of put) }) grew)
        ∙ ap (λ (h : Option Halt). seen_as (with_final core (end_of ticket seen)) h opened (tells old.sink)) (is ∙ ap (λ (h : Option Halt). option_or h (halt_of put)) none ∙ ap (λ (r : Result (Unit {0}) SinkFault). halt_of r) says.1)
    ends_so false says =
        subst (λ (es : List Entry). PutsLine (test_of ticket) es was now_is) entries_now
        (puts_line core now (end_of ticket seen) halt old.known old.count opened (tells old.sink) kept grew none after halted (test_of ticket) refl put (tells new.sink) new.known new.count says.puts heeded is)

    pub end_finished : PutsEnd tells (is_no_memory seen.how) (test_of ticket) now old new put → IsFinished was ticket seen now_is
    end_finished says =
        subst (λ (h : Option Halt). EndsSo h (is_no_memory seen.how) (test_of ticket) (with_due_stop core.plan (core.entries ++ end_of ticket seen ∷ [])) was now_is) (sym none) (ends_so (is_no_memory seen.how) says)

-- the case that the core answered what a worker has to do next
module _ {S : Type 0} (tells : S → SinkTell) (core now : CoreValue) (halt : Option Halt) (old : Lines S) (opened : SinkTell) (kept : IsKeptState core halt old.known old.count opened (tells old.sink)) (worker : ℕ) where
  goes_none : core.aborted ≡ false → halt ≡ None
  goes_none goes = not_some halt (sym kept.aborted ∙ goes)

  started_knows : (ticket : Ticket) → StartsFirst core worker ticket now → KnowsSome now old.known
  started_knows ticket step = subst (λ (c : CoreValue). KnowsSome c old.known) (sym step.appended) (by old.known kept.knows)
    where
      by : (known : Option TestLines) → KnowsSome core known → KnowsSome (with_entry core (start_of ticket)) known
      by None knows = tt
      by (Some lines) knows = knows_more core.plan core.entries (start_of ticket ∷ []) lines knows

  settled_knows : (test : ℕ) → SettlesLeast core test now → KnowsSome now old.known
  settled_knows test step = knows_now core now (Is.Settle test step.cause) halt old.known old.count opened (tells old.sink) kept step.appended

  still_knows : now ≡ core → KnowsSome now old.known
  still_knows same = subst (λ (c : CoreValue). KnowsSome c old.known) (sym same) kept.knows

  pub next_knows : (next : Next) → IsNext core worker next now → KnowsSome now old.known
  next_knows (Nexts.Start ticket) step = started_knows ticket step
  next_knows (Nexts.Settled test) step = settled_knows test step
  next_knows Nexts.Wait step = still_knows step.kept
  next_knows Nexts.Done step = still_knows step.kept
  next_knows Nexts.Aborted step = still_knows step.1
  next_knows Nexts.NoMemory step = still_knows step.kept

  kept_started : (ticket : Ticket) → StartsFirst core worker ticket now → IsKeptState now halt old.known old.count opened (tells old.sink)
  kept_started ticket step =
      let lines : test_lines now.plan now.entries ≡ test_lines core.plan core.entries = ap (λ (c : CoreValue). test_lines c.plan c.entries) step.appended ∙ lines_same core.plan core.entries (start_of ticket) refl in
      record {
        aborted = ap (λ (c : CoreValue). c.aborted) step.appended ∙ kept.aborted;
        put = lines_as (sym lines) kept.put;
        knows = started_knows ticket step;
        goes_on = λ none. let going = kept.goes_on none in record {
          memory = ap (λ (c : CoreValue). had_memory c.entries) step.appended ∙ list_all-append (λ (x : Entry). not (lacks_memory x)) core.entries (start_of ticket ∷ []) ∙ ap (λ (b : Bool). b && (true && true)) going.memory;
          counted = going.counted ∙ ap (λ (ls : List (List ℕ)). length ls) (sym lines);
        };
        stops = subst (λ (o : Option Halt). IfErr (put_of o) (λ fault. IsHalted fault now.plan now.entries opened (tells old.sink))) (sym (goes_none step.goes_on)) tt;
      }

  kept_still : now ≡ core → IsKeptState now halt old.known old.count opened (tells old.sink)
  kept_still same = subst (λ (c : CoreValue). IsKeptState c halt old.known old.count opened (tells old.sink)) (sym same) kept

  knows_aborted : (known : Option TestLines) → KnowsSome core known → KnowsSome (record core { aborted = true }) known
  knows_aborted None knows = tt
  knows_aborted (Some lines) knows = knows

  pub kept_short : IsKeptState (record core { aborted = true }) (option_or halt (Some Halts.Memory)) old.known old.count opened (tells old.sink)
  kept_short = by halt kept.put kept.stops
    where
      by : (o : Option Halt) → PutsLines (test_lines core.plan core.entries) opened (tells old.sink) (put_of o) → IfErr (put_of o) (λ fault. IsHalted fault core.plan core.entries opened (tells old.sink)) → IsKeptState (record core { aborted = true }) (option_or o (Some Halts.Memory)) old.known old.count opened (tells old.sink)
      by None put stops = record {
        aborted = refl;
        put = lines_as (append-nil (test_lines core.plan core.entries)) (lines_stop opened (tells old.sink) (test_lines core.plan core.entries) [] put);
        knows = knows_aborted old.known kept.knows;
        goes_on = λ none. cc;
        stops = record { front = core.entries; last = None; behind = []; only = refl; is = refl; middle = tells old.sink; put = put; cut = lines_none (tells old.sink) []; tried = λ failed. absurd (never_failed failed) };
      }
      by (Some h) put stops = record { aborted = refl; put = put; knows = knows_aborted old.known kept.knows; goes_on = λ none. cc; stops = stops }

  module _ (new : Lines S) (put : Result (Unit {0}) SinkFault) (after : CoreValue) (halted : Option Halt) (heeded : after ≡ record now { aborted = now.aborted || is_some (halt_of put) }) (is : halted ≡ option_or halt (halt_of put)) where
    or_none : (o : Option Halt) → option_or o None ≡ o
    or_none None = refl
    or_none (Some h) = refl

    after_well : put ≡ Ok tt → after ≡ now
    after_well well = heeded ∙ ap (λ (r : Result (Unit {0}) SinkFault). record now { aborted = now.aborted || is_some (halt_of r) }) well ∙ ap (λ (b : Bool). record now { aborted = b }) (or-false now.aborted)

    halted_well : put ≡ Ok tt → halted ≡ halt
    halted_well well = is ∙ ap (λ (r : Result (Unit {0}) SinkFault). option_or halt (halt_of r)) well ∙ or_none halt

    -- the case that no line was put
    kept_well : new ≡ old → put ≡ Ok tt → IsKeptState now halt old.known old.count opened (tells old.sink) → IsKeptState after halted new.known new.count opened (tells new.sink)
    kept_well same well it =
        subst (λ (l : Lines S). IsKeptState after halted l.known l.count opened (tells l.sink)) (sym same)
        (subst (λ (c : CoreValue). IsKeptState c halted old.known old.count opened (tells old.sink)) (sym (after_well well))
        (subst (λ (h : Option Halt). IsKeptState now h old.known old.count opened (tells old.sink)) (sym (halted_well well)) it))

    seen_well : new ≡ old → put ≡ Ok tt → seen_as after halted opened (tells new.sink) ≡ seen_as now halt opened (tells old.sink)
    seen_well same well =
        ap (λ (l : Lines S). seen_as after halted opened (tells l.sink)) same ∙ ap (λ (c : CoreValue). seen_as c halted opened (tells old.sink)) (after_well well) ∙ ap (λ (h : Option Halt). seen_as now h opened (tells old.sink)) (halted_well well)

    after_short : now ≡ core → put ≡ Err Sinks.NoMemory → (after ≡ record core { aborted = core.aborted || true }) × (halted ≡ option_or halt (Some Halts.Memory))
    after_short same failed = (heeded ∙ ap (λ (c : CoreValue). record c { aborted = c.aborted || is_some (halt_of put) }) same ∙ ap (λ (r : Result (Unit {0}) SinkFault). record core { aborted = core.aborted || is_some (halt_of r) }) failed, is ∙ ap (λ (r : Result (Unit {0}) SinkFault). option_or halt (halt_of r)) failed)

    pub next_kept : (next : Next) → IsNext core worker next now → PutsFor tells next now old new put → IsKeptState after halted new.known new.count opened (tells new.sink)
    next_kept (Nexts.Start ticket) step says = kept_well says.0 says.1 (kept_started ticket step)
    next_kept (Nexts.Settled test) step says =
        kept_line core now (Is.Settle test step.cause) halt old.known old.count opened (tells old.sink) kept step.appended (goes_none step.goes_on) after halted test refl put (tells new.sink) new.known new.count says.puts heeded is refl says.count says.knows says.tried
    next_kept Nexts.Wait step says = kept_well says.0 says.1 (kept_still step.kept)
    next_kept Nexts.Done step says = kept_well says.0 says.1 (kept_still step.kept)
    next_kept Nexts.Aborted step says = kept_well says.0 says.1 (kept_still step.1)
    next_kept Nexts.NoMemory step says =
        let short = after_short step.kept says.1 in
        subst (λ (l : Lines S). IsKeptState after halted l.known l.count opened (tells l.sink)) (sym says.0)
        (subst (λ (c : CoreValue). IsKeptState c halted old.known old.count opened (tells old.sink)) (sym (short.0 ∙ ap (λ (b : Bool). record core { aborted = b }) (or-true core.aborted)))
        (subst (λ (h : Option Halt). IsKeptState (record core { aborted = true }) h old.known old.count opened (tells old.sink)) (sym short.1) kept_short))

    abbrev old_state : StateValue
    old_state = seen_as core halt opened (tells old.sink)

    abbrev new_state : StateValue
    new_state = seen_as after halted opened (tells new.sink)

    follows : (next : Next) → IsNext core worker next now → PutsFor tells next now old new put → StateFollows next now.entries old_state new_state
    follows (Nexts.Start ticket) step says = seen_well says.0 says.1 ∙ ap (λ (c : CoreValue). record { plan = c.plan; entries = now.entries; halt = halt; opened = opened; sink = tells old.sink }) step.appended
    follows (Nexts.Settled test) step says =
        puts_line core now (Is.Settle test step.cause) halt old.known old.count opened (tells old.sink) kept step.appended (goes_none step.goes_on) after halted test refl put (tells new.sink) new.known new.count says.puts heeded is
    follows Nexts.Wait step says = seen_well says.0 says.1 ∙ ap (λ (c : CoreValue). seen_as c halt opened (tells old.sink)) step.kept
    follows Nexts.Done step says = seen_well says.0 says.1 ∙ ap (λ (c : CoreValue). seen_as c halt opened (tells old.sink)) step.kept
    follows Nexts.Aborted step says = seen_well says.0 says.1 ∙ ap (λ (c : CoreValue). seen_as c halt opened (tells old.sink)) step.1
    follows Nexts.NoMemory step says =
        let short = after_short step.kept says.1 in
        ap (λ (l : Lines S). seen_as after halted opened (tells l.sink)) says.0 ∙ ap (λ (c : CoreValue). seen_as c halted opened (tells old.sink)) short.0 ∙ ap (λ (h : Option Halt). seen_as core h opened (tells old.sink)) short.1

    core_is : core_of old_state ≡ core
    core_is = ap (λ (b : Bool). record core { aborted = b }) (sym kept.aborted)

    pub next_of : (next : Next) → IsNext core worker next now → PutsFor tells next now old new put → IsStateNext old_state worker next new_state
    next_of next step says = record {
      core = now;
      step = subst (λ (c : CoreValue). IsNext c worker next now) (sym core_is) step;
      follows = follows next step says;
    }
