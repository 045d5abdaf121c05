-- What is seen of an attempt that a gate was asked to run, as its listener heard it.
use Rattle.std.proofs.Common.{◌≡◌, ◌∙◌, sym, ap, subst, Bool, true, false, ℕ, List, [], ◌∷◌, refl, arith, inl, inr}
use Rattle.std.specs.Prelude.{◌⊎◌, Option, Some, None, IfSome, IsSomeAnd, cond}
use Rattle.std.proofs.lemmas.Bool.{cases_Bool}
use Rattle.ct_base.specs.declared.defs.TestDef.{TestDef}
use Rattle.ct_base.specs.Outside.{Adds, Becomes}
use Rattle.ct_props.specs.declared.props.Props.{Props}
use Rattle.ct_props.specs.Numbered.{at_number}
use Rattle.ct_verdict.specs.declared.attempt.How.{How}
use Rattle.ct_verdict.specs.declared.attempt.How.TheVariants as Ends
use Rattle.ct_verdict.specs.declared.attempt.Seen.{Seen}
use Rattle.ct_history.specs.History.{Running}
use Rattle.ct_core.specs.declared.gate.Asked.{Asked}
use Rattle.ct_core.specs.declared.gate.Ended.{Ended}
use Rattle.ct_core.specs.declared.gate.Request.{Request}
use Rattle.ct_core.specs.declared.gate.Told.{Told}
use Rattle.ct_core.specs.Gate.{GateTell, HasStartCause, HearsTold, IsTold, RunsRequest, asked_for, is_no_memory, is_not_started, told}
use Rattle.ct_turn.specs.Pass.{PassValue}
use Rattle.ct_report.proofs.PutLemmas.{adds_none}
use Rattle.ct_worker.specs.Attempt.{AsksNone, AsksOnce, RunsAttempt}
use Rattle.ct_worker.specs.declared.listener.Listener.{Listener}
use Rattle.ct_worker.specs.Listener.{ListensFor}
use Rattle.ct_worker.specs.Gates.{IsRequestFor, IsRequestOf, SeesTold, Terms, asked_run, seen_of}

both_ways : (b : Bool) → b ≡ true → b ≡ false → ⊥
both_ways b is not_so = let both : true ≡ false = sym is ∙ not_so in cc

no_memory_starts : (how : How) → is_no_memory how ≡ true → is_not_started how ≡ true → ⊥
no_memory_starts (Ends.Exited code) is failed = cc
no_memory_starts Ends.Signalled is failed = cc
no_memory_starts Ends.TimedOut is failed = cc
no_memory_starts Ends.NotStarted is failed = cc
no_memory_starts (Ends.Lacks place) is failed = cc
no_memory_starts Ends.NoMemory is failed = cc

-- if memory is wanting for the request, the gate is not asked
pub unasked_attempt : (terms : Terms) (pass : PassValue) (run : Running) (seen : Seen) (tell : GateTell) → is_no_memory seen.how ≡ true → RunsAttempt terms pass run seen tell tell
unasked_attempt terms pass run seen tell lacks = record {
  told = λ memory. absurd (both_ways (is_no_memory seen.how) lacks memory);
  calls = inr (record { lacks = lacks; asked = adds_none tell.asked; sent = adds_none tell.sent; lent = adds_none tell.lent });
  who = refl;
  world = refl;
  cause = record { later = omega arith; failed = λ failed. absurd (no_memory_starts seen.how lacks failed); unfailed = λ passed. refl };
}

module _ (terms : Terms) (pass : PassValue) (run : Running) (def : TestDef) (own : Props) (there : at_number terms.defs run.test ≡ Some def) (has : at_number terms.props run.test ≡ Some own) (request : Request) (is_of : IsRequestOf terms def own run request) (old new : GateTell) (before ear : Listener) (fresh : ListensFor before []) (mine : before.props.now ≡ own) (kept : ear.props.now ≡ before.props.now) (ended : Ended) (seen : Seen) (runs : RunsRequest pass request old new (ListensFor before) (ListensFor ear) ended) (sees : (text : List ℕ) → ListensFor ear text → seen ≡ seen_of ear.props.now text ended) (how : seen.how ≡ ended.how) where
  test_is : request.test ≡ run.test
  test_is = ap (λ (r : Request). r.test) is_of.is

  attempt_is : request.attempt ≡ run.attempt
  attempt_is = ap (λ (r : Request). r.attempt) is_of.is

  -- the listener looks for the patterns of the attempt's test
  own_is : ear.props.now ≡ own
  own_is = kept ∙ mine

  by_world : (o : Option (List Told)) (test attempt : ℕ) → is_no_memory ended.how ≡ false → IsTold o test attempt ended → HearsTold o test attempt ended.how (ListensFor before) (ListensFor ear) → IfSome o (λ world. seen ≡ seen_of own (told world test attempt).heard (told world test attempt).ended)
  by_world None test attempt memory says hears = tt
  by_world (Some world) test attempt memory says hears =
      sees (told world test attempt).heard (hears memory [] fresh)
      ∙ ap (λ (x : Props). seen_of x (told world test attempt).heard ended) own_is
      ∙ ap (λ (e : Ended). seen_of own (told world test attempt).heard e) (says memory)

  -- the properties are those of the test with the number of the attempt
  with_props : (o : Option (List Told)) → IfSome o (λ world. seen ≡ seen_of own (told world run.test run.attempt).heard (told world run.test run.attempt).ended) → IfSome o (λ world. SeesTold terms.props world run.test run.attempt seen)
  with_props None says = tt
  with_props (Some world) says = subst (λ (o : Option Props). IsSomeAnd o (λ x. seen ≡ seen_of x (told world run.test run.attempt).heard (told world run.test run.attempt).ended)) (sym has) says

  told_seen : is_no_memory seen.how ≡ false → IfSome old.world (λ world. SeesTold terms.props world run.test run.attempt seen)
  told_seen memory =
      let same : is_no_memory ended.how ≡ false = sym (ap is_no_memory how) ∙ memory in
      with_props old.world
      (subst (λ (n : ℕ). IfSome old.world (λ world. seen ≡ seen_of own (told world n run.attempt).heard (told world n run.attempt).ended)) test_is
      (subst (λ (n : ℕ). IfSome old.world (λ world. seen ≡ seen_of own (told world request.test n).heard (told world request.test n).ended)) attempt_is
      (by_world old.world request.test request.attempt same runs.told runs.heard)))

  asked_is : asked_for request.test request.attempt ≡ asked_run run
  asked_is = ap (λ (n : ℕ). asked_for n request.attempt) test_is ∙ ap (λ (n : ℕ). asked_for run.test n) attempt_is

  request_is : IsRequestFor terms run request
  request_is =
      subst (λ (o : Option TestDef). IsSomeAnd o (λ d. IsSomeAnd (at_number terms.props run.test) (λ x. IsRequestOf terms d x run request))) (sym there)
      (subst (λ (o : Option Props). IsSomeAnd o (λ x. IsRequestOf terms def x run request)) (sym has) is_of)

  calls : AsksOnce terms pass run seen.how old new ⊎ AsksNone seen.how old new
  calls = elim (cases_Bool (is_no_memory ended.how)) [
    | inl lacks ↦ inr (record {
      lacks = ap is_no_memory how ∙ lacks;
      asked = subst (λ (b : Bool). Becomes old.asked new.asked (Adds (cond b [] (asked_for request.test request.attempt ∷ [])))) lacks runs.asked;
      sent = subst (λ (b : Bool). Becomes old.sent new.sent (Adds (cond b [] (request ∷ [])))) lacks runs.sent;
      lent = subst (λ (b : Bool). Becomes old.lent new.lent (Adds (cond b [] (pass ∷ [])))) lacks runs.lent;
    })
    | inr memory ↦ inl (record {
      had = ap is_no_memory how ∙ memory;
      request = request;
      is = request_is;
      asked = subst (λ (x : Asked). Becomes old.asked new.asked (Adds (x ∷ []))) asked_is (subst (λ (b : Bool). Becomes old.asked new.asked (Adds (cond b [] (asked_for request.test request.attempt ∷ [])))) memory runs.asked);
      sent = subst (λ (b : Bool). Becomes old.sent new.sent (Adds (cond b [] (request ∷ [])))) memory runs.sent;
      lent = subst (λ (b : Bool). Becomes old.lent new.lent (Adds (cond b [] (pass ∷ [])))) memory runs.lent;
    })
  ]

  -- the gate is asked once, unless memory is wanting
  pub ran_attempt : RunsAttempt terms pass run seen old new
  ran_attempt = record {
    told = told_seen;
    calls = calls;
    who = runs.who;
    world = runs.world;
    cause = subst (λ (h : How). HasStartCause old.faults new.faults h) (sym how) runs.cause;
  }
