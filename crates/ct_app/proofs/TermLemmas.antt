-- Gates that were asked by properties without links were asked by the properties.
use Rattle.std.proofs.Common.{◌≡◌, subst, refl, ℕ, ◌+◌, List, [], ◌∷◌, map}
use Rattle.std.specs.Prelude.{Option, Some, None, Bool, option_map, IfSome, IsSomeAnd}
use Rattle.ct_base.specs.declared.defs.Pair.{Pair}
use Rattle.ct_base.specs.declared.defs.TestDef.{TestDef}
use Rattle.ct_base.specs.Outside.{Becomes}
use Rattle.ct_props.specs.declared.props.Props.{Props}
use Rattle.ct_props.specs.Numbered.{at_number}
use Rattle.ct_alloc.specs.declared.placement.Placement.{Placement}
use Rattle.ct_env.specs.Environment.{IsEnvironment}
use Rattle.ct_history.specs.declared.history.Entry.{Entry}
use Rattle.ct_history.specs.declared.history.Entry.TheVariants.{Start, End, Settle, Stop}
use Rattle.ct_history.specs.History.{Running}
use Rattle.ct_core.specs.declared.gate.Request.{Request}
use Rattle.ct_core.specs.declared.gate.Told.{Told}
use Rattle.ct_core.specs.Gate.{GateTell}
use Rattle.ct_worker.specs.Gates.{AreAsked, AreRequests, IsAsked, IsRequestOf, SawAllTold, SawTold, Sends, Terms, placement_shown}
use Rattle.ct_app.specs.declared.props.Tests.{Tests}
use Rattle.ct_app.specs.Tests.{without_links}
use Rattle.ct_app.proofs.SourceLemmas.{mapped_at}

-- what holds of the properties of a test without their links turns into what holds of the properties
some_linked : (P Q : Props → Type 0) → ((own : Props) → P (without_links own) → Q own) → (found : Option Props) → IsSomeAnd (option_map without_links found) P → IsSomeAnd found Q
some_linked P Q turn None is = is
some_linked P Q turn (Some own) is = turn own is

linked_at : (P Q : Props → Type 0) → ((own : Props) → P (without_links own) → Q own) → (props : List Props) (number : ℕ) → IsSomeAnd (at_number (map without_links props) number) P → IsSomeAnd (at_number props number) Q
linked_at P Q turn props number is = some_linked P Q turn (at_number props number) (subst (λ (found : Option Props). IsSomeAnd found P) (mapped_at without_links props number) is)

-- links play no part in what a program is told and in what its variables hold
same_told : (lends : Bool) (own : Props) (placement : Option Placement) → placement_shown lends (without_links own) placement ≡ placement_shown lends own placement
same_told lends own None = refl
same_told lends own (Some placement) = refl

environment : (base : List Pair) (own : Props) (given : Option Placement) (pairs : List Pair) → IsEnvironment base (without_links own) given pairs → IsEnvironment base own given pairs
environment base own given pairs is = record { ordered = is.ordered; holds = is.holds }

module _ (base : List Pair) (defs : List TestDef) (props : List Props) (limit : ℕ) (lends : Bool) where
  -- the terms with these properties
  abbrev by : List Props → Terms
  by owns = record { own = base; defs = defs; props = owns; limit = limit; lends = lends }

  abbrev bare : List Props
  bare = map without_links props

  request_of : (def : TestDef) (run : Running) (request : Request) (own : Props) → IsRequestOf (by bare) def (without_links own) run request → IsRequestOf (by props) def own run request
  request_of def run request own is = record {
    env = subst (λ (given : Option Placement). IsEnvironment base own given request.env) (same_told lends own run.placement) (environment base own (placement_shown lends (without_links own) run.placement) request.env is.env);
    is = is.is;
  }

  request_by : (run : Running) (request : Request) (found : Option TestDef) → IsSomeAnd found (λ def. IsSomeAnd (at_number bare run.test) (λ own. IsRequestOf (by bare) def own run request)) → IsSomeAnd found (λ def. IsSomeAnd (at_number props run.test) (λ own. IsRequestOf (by props) def own run request))
  request_by run request None is = is
  request_by run request (Some def) is =
      linked_at (λ own. IsRequestOf (by bare) def own run request) (λ own. IsRequestOf (by props) def own run request) (request_of def run request) props run.test is

  requests_are : (runs : List Running) (requests : List Request) → AreRequests (by bare) runs requests → AreRequests (by props) runs requests
  requests_are [] [] are = are
  requests_are [] (request ∷ requests) are = are
  requests_are (run ∷ runs) [] are = are
  requests_are (run ∷ runs) (request ∷ requests) are =
      (request_by run request (at_number defs run.test) are.0, requests_are runs requests are.1)

  sends : (runs : List Running) (before now : List Request) → Sends (by bare) runs before now → Sends (by props) runs before now
  sends runs before now sent = record { requests = sent.requests; are = requests_are runs sent.requests sent.are; added = sent.added }

  was_sent : (runs : List Running) (before now : Option (List Request)) → Becomes before now (Sends (by bare) runs) → Becomes before now (Sends (by props) runs)
  was_sent runs None now sent = sent
  was_sent runs (Some before) None sent = sent
  was_sent runs (Some before) (Some now) sent = sends runs before now sent

  saw : (world : List Told) (worker : ℕ) (entry : Entry) → SawTold bare world worker entry → SawTold props world worker entry
  saw world worker (Start t a w placement) told = told
  saw world worker (End t a w seen) told = λ same known. linked_at _ _ (λ own is. is) props t (told same known)
  saw world worker (Settle t cause) told = told
  saw world worker Stop told = told

  saw_all : (world : List Told) (worker : ℕ) (entries : List Entry) → SawAllTold bare world worker entries → SawAllTold props world worker entries
  saw_all world worker [] told = told
  saw_all world worker (entry ∷ entries) told = (saw world worker entry told.0, saw_all world worker entries told.1)

  was_told : (worker : ℕ) (entries : List Entry) (world : Option (List Told)) → IfSome world (λ world. SawAllTold bare world worker entries) → IfSome world (λ world. SawAllTold props world worker entries)
  was_told worker entries None told = told
  was_told worker entries (Some world) told = saw_all world worker entries told

  asked_one : (worker : ℕ) (before now : GateTell) (entries : List Entry) → IsAsked (by bare) worker before now entries → IsAsked (by props) worker before now entries
  asked_one worker before now entries is = record {
    told = was_told worker entries before.world is.told;
    runs = is.runs;
    kept = is.kept;
    ended = is.ended;
    asked = is.asked;
    sent = was_sent is.runs before.sent now.sent is.sent;
    who = is.who;
    world = is.world;
    unstarted = is.unstarted;
  }

  asked_all : (worker : ℕ) (befores nows : List GateTell) (entries : List Entry) → AreAsked (by bare) worker befores nows entries → AreAsked (by props) worker befores nows entries
  asked_all worker [] [] entries are = are
  asked_all worker [] (now ∷ nows) entries are = are
  asked_all worker (before ∷ befores) [] entries are = are
  asked_all worker (before ∷ befores) (now ∷ nows) entries are =
      (asked_one worker before now entries are.0, asked_all (worker + 1) befores nows entries are.1)

  -- gates that were asked by tests without their links were asked by the tests
  pub asked_with_links : (unlinked : Tests) → unlinked ≡ record { defs = defs; props = bare } → (worker : ℕ) (befores nows : List GateTell) (entries : List Entry) → AreAsked (record { own = base; defs = unlinked.defs; props = unlinked.props; limit = limit; lends = lends }) worker befores nows entries → AreAsked (by props) worker befores nows entries
  asked_with_links unlinked are worker befores nows entries asked =
      asked_all worker befores nows entries
      (subst (λ (tests : Tests). let t : Terms = record { own = base; defs = tests.defs; props = tests.props; limit = limit; lends = lends } in AreAsked t worker befores nows entries) are asked)
