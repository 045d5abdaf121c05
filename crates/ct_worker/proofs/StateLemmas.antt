-- What holds of a state stays when its calls change it.
use Rattle.std.proofs.Common.{◌≡◌, ◌∙◌, sym, ap, subst, true, false, Bool, ℕ, ◌+◌, List, [], ◌∷◌, ◌++◌, length, refl, length-append}
use Rattle.std.specs.Prelude.{Option, Some, None, is_some, Result, Ok, Err, OnOk, not, ◌&&◌, ◌||◌, IfSome, IfErr}
use Rattle.std.specs.Option.{option_or}
use Rattle.std.proofs.lemmas.List.{append-nil}
use Rattle.std.proofs.lemmas.List.Folds.{list_all-append}
use Rattle.ct_base.specs.declared.sink.SinkFault.{SinkFault}
use Rattle.ct_base.specs.declared.sink.SinkFault.TheVariants as Sinks
use Rattle.ct_base.specs.Outside.{Rose, SinkTell}
use Rattle.ct_history.specs.declared.plan.PlanParts.{PlanParts}
use Rattle.ct_history.specs.declared.history.Entry.{Entry}
use Rattle.ct_history.specs.declared.history.Entry.TheVariants.{Stop}
use Rattle.ct_core.specs.Core.{with_due_stop, with_final}
use Rattle.ct_core.specs.CoreValue.{CoreValue}
use Rattle.ct_report.specs.declared.run_lines.TestLines.{TestLines}
use Rattle.ct_report.specs.PutLines.{PutsLines}
use Rattle.ct_report.specs.Report.{finished_by, lines_of_test, test_lines}
use Rattle.ct_report.specs.RunLines.{KnowsLines}
use Rattle.ct_report.proofs.LineLemmas.{test_lines-snoc}
use Rattle.ct_report.proofs.PutLemmas.{lines_as, lines_more, lines_none, lines_stop, lines_then}
use Rattle.ct_report.proofs.RunLineLemmas.{knows_more}
use Rattle.ct_worker.specs.declared.state.Halt.{Halt}
use Rattle.ct_worker.specs.declared.state.Halt.TheVariants as Halts
use Rattle.ct_worker.specs.Gates.{had_memory, lacks_memory}
use Rattle.ct_worker.specs.Halted.{IsHalted, added_behind, ends_attempt, with_last}
use Rattle.ct_worker.specs.Kept.{IsGoing, IsKeptState, KnowsSome}
use Rattle.ct_worker.specs.State.{PutsLine, StateValue, halt_of, put_of}
use Rattle.ct_worker.proofs.StopLemmas.{due_keeps, lines_due, test_lines_due}

-- the result of a put is the result that its halt tells
pub put_of_halt : (result : Result (Unit {0}) SinkFault) → put_of (halt_of result) ≡ result
put_of_halt (Ok tt) = refl
put_of_halt (Err Sinks.Failed) = refl
put_of_halt (Err Sinks.NoMemory) = refl

-- one more entry behind the added ones
added-snoc : (plan : PlanParts) (front es : List Entry) (e : Entry) → added_behind plan front (es ++ e ∷ []) ≡ with_due_stop plan (added_behind plan front es ++ e ∷ [])
added-snoc plan front [] e = refl
added-snoc plan front (x ∷ xs) e = added-snoc plan (with_due_stop plan (front ++ x ∷ [])) xs e

pub never_failed : Sinks.NoMemory ≡ Sinks.Failed → ⊥
never_failed is = cc

-- one more entry, with the Stop that it makes due
module _ (plan : PlanParts) (es : List Entry) (e : Entry) where
  abbrev now : List Entry
  now = with_due_stop plan (es ++ e ∷ [])

  -- the line that the entry brings
  abbrev brought : List (List ℕ)
  brought = lines_of_test plan now (length (test_lines plan es) + 1) (finished_by e)

  pub lines_grow : test_lines plan now ≡ test_lines plan es ++ brought
  lines_grow =
      test_lines_due plan (es ++ e ∷ []) ∙ test_lines-snoc plan es e
      ∙ ap (λ (ls : List (List ℕ)). test_lines plan es ++ ls) (sym (lines_due plan (es ++ e ∷ []) (length (test_lines plan es) + 1) (finished_by e)))

  pub memory_stays : had_memory es ≡ true → lacks_memory e ≡ false → had_memory now ≡ true
  memory_stays had has =
      let both = list_all-append (λ (x : Entry). not (lacks_memory x)) es (e ∷ []) ∙ ap (λ (b : Bool). b && (not (lacks_memory e) && true)) had ∙ ap (λ (b : Bool). not b && true) has in
      due_keeps plan (es ++ e ∷ []) (λ xs. had_memory xs ≡ true) both (list_all-append (λ (x : Entry). not (lacks_memory x)) (es ++ e ∷ []) (Stop ∷ []) ∙ ap (λ (b : Bool). b && (true && true)) both)

  pub knows_still : (known : Option TestLines) → IfSome known (λ lines. KnowsLines plan es lines) → IfSome known (λ lines. KnowsLines plan now lines)
  knows_still None knows = tt
  knows_still (Some lines) knows =
      let behind = knows_more plan es (e ∷ []) lines knows in
      due_keeps plan (es ++ e ∷ []) (λ xs. KnowsLines plan xs lines) behind (knows_more plan (es ++ e ∷ []) (Stop ∷ []) lines behind)

  module _ (opened sink : SinkTell) where
    -- the line of the entry was put behind the others, with this result
    pub line_then : (new : SinkTell) (result : Result (Unit {0}) SinkFault) → PutsLines (test_lines plan es) opened sink (Ok tt) → PutsLines brought sink new result → PutsLines (test_lines plan now) opened new result
    line_then new result put line = lines_as (sym lines_grow) (lines_then opened sink new (test_lines plan es) brought result put line)

    -- the line of the entry was not tried, for want of memory
    pub line_stops : PutsLines (test_lines plan es) opened sink (Ok tt) → PutsLines (test_lines plan now) opened sink (Err Sinks.NoMemory)
    line_stops put = lines_as (sym lines_grow) (lines_stop opened sink (test_lines plan es) brought put)

    -- the line of the entry could not be put, so the run is halted here
    pub stops_here : (new : SinkTell) (fault : SinkFault) → PutsLines (test_lines plan es) opened sink (Ok tt) → PutsLines brought sink new (Err fault) → (fault ≡ Sinks.Failed → length brought ≡ 1) → IsHalted fault plan now opened new
    stops_here new fault put line tried = record { front = es; last = Some e; behind = []; only = refl; is = refl; middle = sink; put = put; cut = line; tried = tried }

    -- the entry ends an attempt behind a halt
    pub stops_before : (fault : SinkFault) → ends_attempt e ≡ true → IsHalted fault plan es opened sink → IsHalted fault plan now opened sink
    stops_before fault end was = record {
      front = was.front;
      last = was.last;
      behind = was.behind ++ e ∷ [];
      only = list_all-append ends_attempt was.behind (e ∷ []) ∙ ap (λ (b : Bool). b && (ends_attempt e && true)) was.only ∙ ap (λ (b : Bool). true && (b && true)) end;
      is = ap (λ (xs : List Entry). with_due_stop plan (xs ++ e ∷ [])) was.is ∙ sym (added-snoc plan (with_last plan was.front was.last) was.behind e);
      middle = was.middle;
      put = was.put;
      cut = was.cut;
      tried = was.tried;
    }

    -- the line of the entry was not tried, since the run was given up before
    pub line_fails : (fault : SinkFault) → PutsLines (test_lines plan es) opened sink (Err fault) → PutsLines (test_lines plan now) opened sink (Err fault)
    line_fails fault put = lines_as (sym lines_grow) (lines_more opened sink (test_lines plan es) brought fault put)

-- an entry that finishes no test brings no line
module _ (plan : PlanParts) (es : List Entry) (e : Entry) (starts : finished_by e ≡ None) where
  pub lines_same : test_lines plan (es ++ e ∷ []) ≡ test_lines plan es
  lines_same = test_lines-snoc plan es e ∙ ap (λ (o : Option ℕ). test_lines plan es ++ lines_of_test plan (es ++ e ∷ []) (length (test_lines plan es) + 1) o) starts ∙ append-nil (test_lines plan es)

-- a state of these parts
abbrev pub seen_as : CoreValue → Option Halt → SinkTell → SinkTell → StateValue
seen_as core halt opened sink = record { plan = core.plan; entries = core.entries; halt = halt; opened = opened; sink = sink }

none_is_some : (h : Halt) → Some h ≡ None → ⊥
none_is_some h is = cc

-- a state whose core made one step, with one more entry
module _ (core now : CoreValue) (e : Entry) (halt : Option Halt) (known : Option TestLines) (count : ℕ) (opened sink : SinkTell) (kept : IsKeptState core halt known count opened sink) (grew : now ≡ with_final core e) where
  pub knows_now : KnowsSome now known
  knows_now = subst (λ (c : CoreValue). KnowsSome c known) (sym grew) (knows_still core.plan core.entries e known kept.knows)

  aborted_now : now.aborted ≡ is_some halt
  aborted_now = ap (λ (c : CoreValue). c.aborted) grew ∙ kept.aborted

  now_entries : now.entries ≡ with_due_stop core.plan (core.entries ++ e ∷ [])
  now_entries = ap (λ (c : CoreValue). c.entries) grew

  now_plan : now.plan ≡ core.plan
  now_plan = ap (λ (c : CoreValue). c.plan) grew

  lines_are : test_lines core.plan (with_due_stop core.plan (core.entries ++ e ∷ [])) ≡ test_lines now.plan now.entries
  lines_are = ap (λ (c : CoreValue). test_lines c.plan c.entries) (sym grew)

  -- the case that the run was given up before: no line is tried
  pub kept_given_up : ends_attempt e ≡ true → is_some halt ≡ true → IsKeptState now halt known count opened sink
  kept_given_up end some = record {
    aborted = aborted_now;
    put = lines_as lines_are (by halt some kept.put);
    knows = knows_now;
    goes_on = λ none. absurd (let is : is_some halt ≡ false = ap (λ (o : Option Halt). is_some o) none in let no : true ≡ false = sym some ∙ is in cc);
    stops = subst (λ (c : CoreValue). IfErr (put_of halt) (λ fault. IsHalted fault c.plan c.entries opened sink)) (sym grew) (still (put_of halt) kept.stops);
  }
    where
      still : (r : Result (Unit {0}) SinkFault) → IfErr r (λ fault. IsHalted fault core.plan core.entries opened sink) → IfErr r (λ fault. IsHalted fault core.plan (with_due_stop core.plan (core.entries ++ e ∷ [])) opened sink)
      still (Ok done) was = tt
      still (Err fault) was = stops_before core.plan core.entries e opened sink fault end was

      by : (o : Option Halt) → is_some o ≡ true → PutsLines (test_lines core.plan core.entries) opened sink (put_of o) → PutsLines (test_lines core.plan (with_due_stop core.plan (core.entries ++ e ∷ []))) opened sink (put_of o)
      by None is put = cc
      by (Some Halts.Output) is put = line_fails core.plan core.entries e opened sink Sinks.Failed put
      by (Some Halts.Memory) is put = line_fails core.plan core.entries e opened sink Sinks.NoMemory put

  -- the case that the run goes on
  module _ (none : halt ≡ None) (after : CoreValue) (halted : Option Halt) where
    going : IsGoing core count
    going = kept.goes_on none

    put_before : PutsLines (test_lines core.plan core.entries) opened sink (Ok tt)
    put_before = subst (λ (o : Option Halt). PutsLines (test_lines core.plan core.entries) opened sink (put_of o)) none kept.put

    heeded_aborted : (put : Result (Unit {0}) SinkFault) → after ≡ record now { aborted = now.aborted || is_some (halt_of put) } → halted ≡ option_or halt (halt_of put) → after.aborted ≡ is_some halted
    heeded_aborted put heeded is =
        ap (λ (c : CoreValue). c.aborted) heeded ∙ ap (λ (b : Bool). b || is_some (halt_of put)) (aborted_now ∙ ap (λ (o : Option Halt). is_some o) none)
        ∙ ap (λ (o : Option Halt). is_some (option_or o (halt_of put))) (sym none) ∙ ap (λ (o : Option Halt). is_some o) (sym is)

    halted_is : (put : Result (Unit {0}) SinkFault) → halted ≡ option_or halt (halt_of put) → halted ≡ halt_of put
    halted_is put is = is ∙ ap (λ (o : Option Halt). option_or o (halt_of put)) none

    lines_after : (put : Result (Unit {0}) SinkFault) → after ≡ record now { aborted = now.aborted || is_some (halt_of put) } → test_lines core.plan (with_due_stop core.plan (core.entries ++ e ∷ [])) ≡ test_lines after.plan after.entries
    lines_after put heeded = lines_are ∙ ap (λ (c : CoreValue). test_lines c.plan c.entries) (sym heeded)

    -- if the put failed, the run is halted here
    stops_after : (put : Result (Unit {0}) SinkFault) (new : SinkTell) → after ≡ record now { aborted = now.aborted || is_some (halt_of put) } → halted ≡ option_or halt (halt_of put)
        → PutsLines (brought core.plan core.entries e) sink new put → (put ≡ Err Sinks.Failed → length (brought core.plan core.entries e) ≡ 1)
        → IfErr (put_of halted) (λ fault. IsHalted fault after.plan after.entries opened new)
    stops_after put new heeded is line tried =
        subst (λ (r : Result (Unit {0}) SinkFault). IfErr r (λ fault. IsHalted fault after.plan after.entries opened new)) (sym (ap (λ (o : Option Halt). put_of o) (halted_is put is) ∙ put_of_halt put))
        (subst (λ (c : CoreValue). IfErr put (λ fault. IsHalted fault c.plan c.entries opened new)) (sym heeded)
        (subst (λ (c : CoreValue). IfErr put (λ fault. IsHalted fault c.plan c.entries opened new)) (sym grew) (here put line tried)))
      where
        here : (r : Result (Unit {0}) SinkFault) → PutsLines (brought core.plan core.entries e) sink new r → (r ≡ Err Sinks.Failed → length (brought core.plan core.entries e) ≡ 1)
            → IfErr r (λ fault. IsHalted fault core.plan (with_due_stop core.plan (core.entries ++ e ∷ [])) opened new)
        here (Ok done) cut one = tt
        here (Err fault) cut one = stops_here core.plan core.entries e opened sink new fault put_before cut (λ is_failed. one (ap (λ (f : SinkFault). Err f) is_failed))

    -- the case that memory was wanting for the entry's attempt
    pub kept_lacking : after ≡ record now { aborted = now.aborted || true } → halted ≡ option_or halt (Some Halts.Memory) → IsKeptState after halted known count opened sink
    kept_lacking heeded is = record {
      aborted = heeded_aborted (Err Sinks.NoMemory) heeded is;
      put = lines_as (lines_after (Err Sinks.NoMemory) heeded) (subst (λ (o : Option Halt). PutsLines (test_lines core.plan (with_due_stop core.plan (core.entries ++ e ∷ []))) opened sink (put_of o)) (sym (halted_is (Err Sinks.NoMemory) is)) (line_stops core.plan core.entries e opened sink put_before));
      knows = subst (λ (c : CoreValue). KnowsSome c known) (sym heeded) knows_now;
      goes_on = λ goes. absurd (none_is_some Halts.Memory (sym (halted_is (Err Sinks.NoMemory) is) ∙ goes));
      stops = stops_after (Err Sinks.NoMemory) sink heeded is (lines_none sink (brought core.plan core.entries e)) (λ failed. absurd (no_failed failed));
    }
      where
        no_failed : (let r : Result (Unit {0}) SinkFault = Err Sinks.NoMemory in r) ≡ Err Sinks.Failed → ⊥
        no_failed failed = cc

    -- the case that the entry's test may have become final: its line was put, or the put failed
    module _ (test : ℕ) (of : finished_by e ≡ Some test) (put : Result (Unit {0}) SinkFault) (new : SinkTell) (more : Option TestLines) (lines : ℕ) (says : PutsLines (lines_of_test now.plan now.entries (count + 1) (Some test)) sink new put) (heeded : after ≡ record now { aborted = now.aborted || is_some (halt_of put) }) (is : halted ≡ option_or halt (halt_of put)) where
      line_is : lines_of_test now.plan now.entries (count + 1) (Some test) ≡ brought core.plan core.entries e
      line_is =
          ap (λ (p : PlanParts). lines_of_test p now.entries (count + 1) (Some test)) now_plan
          ∙ ap (λ (es : List Entry). lines_of_test core.plan es (count + 1) (Some test)) now_entries
          ∙ ap (λ (n : ℕ). lines_of_test core.plan (with_due_stop core.plan (core.entries ++ e ∷ [])) (n + 1) (Some test)) going.counted
          ∙ ap (λ (o : Option ℕ). lines_of_test core.plan (with_due_stop core.plan (core.entries ++ e ∷ [])) (length (test_lines core.plan core.entries) + 1) o) (sym of)

      line_put : PutsLines (brought core.plan core.entries e) sink new put
      line_put = subst (λ (ls : List (List ℕ)). PutsLines ls sink new put) line_is says

      put_after : PutsLines (test_lines after.plan after.entries) opened new (put_of halted)
      put_after =
          lines_as (lines_after put heeded)
          (subst (λ (r : Result (Unit {0}) SinkFault). PutsLines (test_lines core.plan (with_due_stop core.plan (core.entries ++ e ∷ []))) opened new r) (sym (ap (λ (o : Option Halt). put_of o) (halted_is put is) ∙ put_of_halt put)) (line_then core.plan core.entries e opened sink new put put_before line_put))

      goes : (r : Result (Unit {0}) SinkFault) → lacks_memory e ≡ false → OnOk r (lines ≡ count + length (lines_of_test now.plan now.entries (count + 1) (Some test))) → halt_of r ≡ None → IsGoing now lines
      goes (Ok done) has counted unhalted = record {
        memory = ap had_memory now_entries ∙ memory_stays core.plan core.entries e going.memory has;
        counted =
            counted ∙ ap (λ (ls : List (List ℕ)). count + length ls) line_is ∙ ap (λ (n : ℕ). n + length (brought core.plan core.entries e)) going.counted
            ∙ sym (length-append (test_lines core.plan core.entries) (brought core.plan core.entries e)) ∙ ap (λ (ls : List (List ℕ)). length ls) (sym (lines_grow core.plan core.entries e))
            ∙ ap (λ (c : CoreValue). length (test_lines c.plan c.entries)) (sym grew);
      }
      goes (Err Sinks.Failed) has counted unhalted = absurd (none_is_some Halts.Output unhalted)
      goes (Err Sinks.NoMemory) has counted unhalted = absurd (none_is_some Halts.Memory unhalted)

      pub kept_line : lacks_memory e ≡ false → OnOk put (lines ≡ count + length (lines_of_test now.plan now.entries (count + 1) (Some test))) → KnowsSome now more
          → (put ≡ Err Sinks.Failed → length (lines_of_test now.plan now.entries (count + 1) (Some test)) ≡ 1) → IsKeptState after halted more lines opened new
      kept_line has counts knows tried = record {
        aborted = heeded_aborted put heeded is;
        put = put_after;
        knows = subst (λ (c : CoreValue). KnowsSome c more) (sym heeded) knows;
        goes_on = λ unhalted. subst (λ (c : CoreValue). IsGoing c lines) (sym heeded) (goes_as (goes put has counts (sym (halted_is put is) ∙ unhalted)));
        stops = stops_after put new heeded is line_put (λ failed. ap (λ (ls : List (List ℕ)). length ls) (sym line_is) ∙ tried failed);
      }
        where
          goes_as : IsGoing now lines → IsGoing (record now { aborted = now.aborted || is_some (halt_of put) }) lines
          goes_as it = record { memory = it.memory; counted = it.counted }

      pub puts_line : PutsLine test now.entries (seen_as core halt opened sink) (seen_as after halted opened new)
      puts_line = record {
        result = put;
        put = subst (λ (ls : List (List ℕ)). PutsLines ls sink new put) same says;
        is = ap (λ (c : CoreValue). seen_as c halted opened new) heeded ∙ ap (λ (h : Option Halt). seen_as now h opened new) (halted_is put is) ∙ ap (λ (p : PlanParts). record { plan = p; entries = now.entries; halt = halt_of put; opened = opened; sink = new }) now_plan;
      }
        where
          same : lines_of_test now.plan now.entries (count + 1) (Some test) ≡ lines_of_test core.plan now.entries (length (test_lines core.plan core.entries) + 1) (Some test)
          same = ap (λ (p : PlanParts). lines_of_test p now.entries (count + 1) (Some test)) now_plan ∙ ap (λ (n : ℕ). lines_of_test core.plan now.entries (n + 1) (Some test)) going.counted

-- a run that was given up for its output has a sink that counted a fault
pub output_rose : (core : CoreValue) (halt : Option Halt) (lines : Option TestLines) (count : ℕ) (opened sink : SinkTell) → IsKeptState core halt lines count opened sink → halt ≡ Some Halts.Output → Rose opened.faults sink.faults
output_rose core halt lines count opened sink kept is =
    let put = subst (λ (h : Option Halt). PutsLines (test_lines core.plan core.entries) opened sink (put_of h)) is kept.put in
    put.bytes.cause.failed refl
