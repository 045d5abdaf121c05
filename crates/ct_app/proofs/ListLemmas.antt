-- How a list ended, and the answer of a call whose words ask for a list.
use Rattle.std.proofs.Common.{◌≡◌, sym, subst, ℕ, List, [], ◌∷◌, refl, inl, inr}
use Rattle.std.specs.Prelude.{Option, Result, Ok, Err}
use Rattle.ct_base.specs.declared.defs.Pair.{Pair}
use Rattle.ct_base.specs.declared.sink.SinkFault.{SinkFault}
use Rattle.ct_base.specs.declared.sink.SinkFault.TheVariants as Sinks
use Rattle.ct_base.specs.Outside.{FilesTell, SinkTell}
use Rattle.ct_history.specs.declared.plan.PlanParts.{PlanParts}
use Rattle.ct_history.specs.declared.history.Entry.{Entry}
use Rattle.ct_core.specs.Gate.{GateTell}
use Rattle.ct_args.specs.declared.invocation.Invocation.{Invocation}
use Rattle.ct_report.specs.PutLines.{PutsLines}
use Rattle.ct_app.specs.declared.outcome.Outcome.{Outcome}
use Rattle.ct_app.specs.declared.outcome.Outcome.TheVariants.{Completed, Listed, Usage, Refused, FilesFault, OutputFault, Memory}
use Rattle.ct_app.specs.declared.props.Tests.{Tests}
use Rattle.ct_app.specs.Calls.{IsReadFault, IsUnreadable, IsUnrun, IsUsage, PutsOrFails, ThenLine, Tries, list_sides, sides}
use Rattle.ct_app.specs.Ends.{EndsList, IsReadList, IsUnreadList, ListEnds, ReportsFault, ReportsEnd, PutsFault, listed_as}
use Rattle.ct_app.specs.Lists.{AnswersList, HasList, IsShortList, asked_lines}
use Rattle.ct_app.specs.Outcome.{fault_line, fault_status}
use Rattle.ct_app.specs.Reading.{AskFor, ListFailsAt}
use Rattle.ct_app.specs.Rerun.{choice_for}
use Rattle.ct_app.proofs.AnswerLemmas.{tried}

-- the tests of a list were read, and the list was put or its put failed
module _ (words : List (List ℕ)) (invocation : Invocation) (asked : AskFor words invocation) (files files_now : FilesTell) (sink sink_now : SinkTell) where
  pub read_list : (tests : Tests) (only : Option (List (List ℕ))) (result : Result (Unit {0}) SinkFault) → IsReadList invocation files files_now tests only → PutsLines (asked_lines invocation (choice_for invocation only) tests.defs tests.props) sink sink_now result → ListEnds (list_sides words files files_now sink sink_now) (listed_as result)
  read_list tests only result read puts = by result puts
    where
      unrun : IsUnrun (list_sides words files files_now sink sink_now)
      unrun = record { no_plan = refl; no_history = refl; unasked = refl }

      has : (P : List (List ℕ) → Type 0) → P (asked_lines invocation (choice_for invocation only) tests.defs tests.props) → HasList (list_sides words files files_now sink sink_now) P
      has P holds = record {
        invocation = invocation;
        words = asked;
        defs = tests.defs;
        props = tests.props;
        read = read.read.read;
        only = only;
        limits = read.limits;
        files = read.read.files;
        unrun = unrun;
        holds = holds;
      }

      by : (r : Result (Unit {0}) SinkFault) → PutsLines (asked_lines invocation (choice_for invocation only) tests.defs tests.props) sink sink_now r → ListEnds (list_sides words files files_now sink sink_now) (listed_as r)
      by (Ok tt) put = has (λ lines. PutsLines lines sink sink_now (Ok tt)) put
      by (Err Sinks.Failed) put = has (λ lines. PutsLines lines sink sink_now (Err Sinks.Failed)) put
      by (Err Sinks.NoMemory) put = (unrun, read.read.files, inr (has (λ lines. PutsLines lines sink sink_now (Err Sinks.NoMemory)) put))

-- a list whose tests were not read ends with the outcome of the reading
pub unread_list : (words : List (List ℕ)) (invocation : Invocation) (asked : AskFor words invocation) (files files_now : FilesTell) (sink : SinkTell) (outcome : Outcome) → IsUnreadList invocation files files_now outcome → ListEnds (list_sides words files files_now sink sink) outcome
unread_list words invocation asked files files_now sink Completed unread = absurd unread
unread_list words invocation asked files files_now sink Listed unread = absurd unread
unread_list words invocation asked files files_now sink (Usage word kind) unread = absurd unread
unread_list words invocation asked files files_now sink (Refused refusal) unread =
    (record { invocation = invocation; words = asked; refused = unread.0; files = unread.1; unrun = record { no_plan = refl; no_history = refl; unasked = refl } }, refl)
unread_list words invocation asked files files_now sink (FilesFault path) unread =
    (record { invocation = invocation; words = asked; due = unread.0; files = unread.1; unrun = record { no_plan = refl; no_history = refl; unasked = refl } }, refl)
unread_list words invocation asked files files_now sink OutputFault unread = absurd unread
unread_list words invocation asked files files_now sink Memory unread = (record { no_plan = refl; no_history = refl; unasked = refl }, unread, inl refl)

-- the values of a call that lists, before and after the line of its outcome; its gates, if any, are as before
module _ (words : List (List ℕ)) (env : List Pair) (files files_now : FilesTell) (gates gates_now : List GateTell) (sink mid now : SinkTell) (plan : Option PlanParts) (history : Option (List Entry)) (unrun : IsUnrun (sides words env files files_now gates gates_now sink now plan history)) where
  list_late : (P Q : List (List ℕ) → Type 0) → ((lines : List (List ℕ)) → P lines → Q lines) → HasList (list_sides words files files_now sink mid) P → HasList (sides words env files files_now gates gates_now sink now plan history) Q
  list_late P Q each has = record {
    invocation = has.invocation;
    words = has.words;
    defs = has.defs;
    props = has.props;
    read = has.read;
    only = has.only;
    limits = has.limits;
    files = has.files;
    unrun = unrun;
    holds = each (asked_lines has.invocation (choice_for has.invocation has.only) has.defs has.props) has.holds;
  }

  answer_as : (o outcome : Outcome) (status : ℕ) → outcome ≡ o → status ≡ fault_status outcome → AnswersList (sides words env files files_now gates gates_now sink now plan history) o (fault_status o) → AnswersList (sides words env files files_now gates gates_now sink now plan history) outcome status
  answer_as o outcome status is status_is answer =
      subst (λ (n : ℕ). AnswersList (sides words env files files_now gates gates_now sink now plan history) outcome n) (sym status_is) (subst (λ (x : Outcome). AnswersList (sides words env files files_now gates gates_now sink now plan history) x (fault_status x)) (sym is) answer)

  line_listed : (o outcome : Outcome) (status : ℕ) → mid ≡ sink → PutsFault [] o outcome mid now → status ≡ fault_status outcome → (PutsOrFails (fault_line [] o) sink now → AnswersList (sides words env files files_now gates gates_now sink now plan history) o (fault_status o)) → (PutsLines (fault_line [] o ∷ []) sink now (Err Sinks.NoMemory) → IsShortList (sides words env files files_now gates gates_now sink now plan history) o) → AnswersList (sides words env files files_now gates gates_now sink now plan history) outcome status
  line_listed o outcome status unput (inl (is, puts)) status_is answers short = answer_as o outcome status is status_is (answers (subst (λ (t : SinkTell). PutsOrFails (fault_line [] o) t now) unput puts))
  line_listed o outcome status unput (inr (is, puts)) status_is answers short = answer_as Memory outcome status is status_is ((o, short (subst (λ (t : SinkTell). PutsLines (fault_line [] o ∷ []) t now (Err Sinks.NoMemory)) unput puts)), refl)

  memory_listed : (outcome : Outcome) → PutsFault [] Memory outcome mid now → (outcome ≡ Memory) × Tries (fault_line [] Memory) mid now
  memory_listed outcome (inl (is, puts)) = (is, tried (fault_line [] Memory) mid now puts)
  memory_listed outcome (inr (is, puts)) = (is, (Err Sinks.NoMemory, puts))

  pub list_answer : (o outcome : Outcome) (status : ℕ) → ListEnds (list_sides words files files_now sink mid) o → ReportsFault [] o outcome mid now → status ≡ fault_status outcome → AnswersList (sides words env files files_now gates gates_now sink now plan history) outcome status
  list_answer Completed outcome status ends told status_is = absurd ends
  list_answer Listed outcome status ends told status_is =
      answer_as Listed outcome status told.0 status_is (list_late (λ lines. PutsLines lines sink mid (Ok tt)) (λ lines. PutsLines lines sink now (Ok tt)) (λ lines put. subst (λ (t : SinkTell). PutsLines lines sink t (Ok tt)) (sym told.1) put) ends, refl)
  list_answer (Usage word kind) outcome status ends told status_is =
      let usage : IsUsage (sides words env files files_now gates gates_now sink now plan history) word kind = record { words = ends.0.words; files = ends.0.files; unrun = unrun } in
      line_listed (Usage word kind) outcome status ends.1 told status_is (λ puts. (usage, puts, refl)) (λ puts. (usage, puts))
  list_answer (Refused refusal) outcome status ends told status_is =
      let refused : IsUnreadable (sides words env files files_now gates gates_now sink now plan history) refusal = record { invocation = ends.0.invocation; words = ends.0.words; refused = ends.0.refused; files = ends.0.files; unrun = unrun } in
      line_listed (Refused refusal) outcome status ends.1 told status_is (λ puts. (refused, puts, refl)) (λ puts. (refused, puts))
  list_answer (FilesFault path) outcome status ends told status_is =
      let fault : IsReadFault (sides words env files files_now gates gates_now sink now plan history) ListFailsAt path = record { invocation = ends.0.invocation; words = ends.0.words; due = ends.0.due; files = ends.0.files; unrun = unrun } in
      line_listed (FilesFault path) outcome status ends.1 told status_is (λ puts. (fault, puts, refl)) (λ puts. (fault, puts))
  list_answer OutputFault outcome status ends told status_is =
      answer_as OutputFault outcome status told.0 status_is (list_late (λ lines. PutsLines lines sink mid (Err Sinks.Failed)) (λ lines. PutsLines lines sink now (Err Sinks.Failed)) (λ lines put. subst (λ (t : SinkTell). PutsLines lines sink t (Err Sinks.Failed)) (sym told.1) put) ends, refl)
  list_answer Memory outcome status (was, stay, inl unput) told status_is =
      let tries = memory_listed outcome told in
      answer_as Memory outcome status tries.0 status_is ((Memory, (unrun, stay, inl (subst (λ (t : SinkTell). Tries (fault_line [] Memory) t now) unput tries.1))), refl)
  list_answer Memory outcome status (was, stay, inr has) told status_is =
      let tries = memory_listed outcome told in
      answer_as Memory outcome status tries.0 status_is
      ((Memory, (unrun, stay, inr (list_late (λ lines. PutsLines lines sink mid (Err Sinks.NoMemory)) (λ lines. ThenLine (λ middle. PutsLines lines sink middle (Err Sinks.NoMemory)) (λ middle. Tries (fault_line [] Memory) middle now)) (λ lines put. record { middle = mid; first = put; line = tries.1 }) has))), refl)

  pub list_told : (names : List (List ℕ)) (ended : Result ℕ Outcome) (outcome : Outcome) (status : ℕ) → EndsList (list_sides words files files_now sink mid) names ended → ReportsEnd names ended outcome status mid now → AnswersList (sides words env files files_now gates gates_now sink now plan history) outcome status
  list_told names (Ok st) outcome status ends told = absurd ends
  list_told names (Err o) outcome status ends told = list_answer o outcome status ends.0 (subst (λ (ns : List (List ℕ)). ReportsFault ns o outcome mid now) ends.1 told.0) told.1
