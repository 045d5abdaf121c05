use Rattle.std.proofs.Common.{◌≡◌, ◌∙◌, ℕ, List, ap, refl, sym}
use Rattle.std.specs.Prelude.{Ok}
use Rattle.std.specs.List.{list_any}
use Rattle.std.proofs.lemmas.Result.{IfOk-at_ok}
use Rattle.ct_history.specs.declared.plan.PlanTest.{PlanTest}
use Rattle.ct_core.proofs.LockLemmas.{named_pass}
use Rattle.ct_core.specs.Locks.{is_held, knows}
use Rattle.ct_core.specs.Sharers.{counts_sharers, sharers_of}
use Rattle.ct_alloc.specs.Lent.{lent}
use Rattle.ct_core.specs.Slots.{used_of}
use Rattle.ct_core.specs.declared.locks.Locks.{Locks}
use Rattle.ct_core.specs.declared.sharers.Sharers.{Sharers}
use Rattle.ct_core.proofs.in_use.nothing.Goals as goal
use Rattle.ct_base.specs.Names.{is_among}

pub returns : goal.returns
returns c =
    let plan = c.args.plan.now in
    let known = c.in_ok-locks-2.ensures.one in
    let locks = c.in_ok-locks-2.locks in
    let sharers = c.in_ok-locks-2.sharers in
    let same = ap (λ both. both.0) known ∙ c.in_ok-known.ensures.one in
    let made = c.in_ok-known.ensures.next ∙ ap (λ both. Ok both.1) (sym known) in
    let free = c.in_ok-locks-2.ensures.next in
    record {
      processors = refl;
      opens = refl;
      serial = refl;
      known =
          named_pass (knows locks) (λ (t : PlanTest). t.locks) plan.tests
          (λ name. ap (λ (l : Locks). knows l name) same ∙ c.in_ok-locks.ensures.known name ∙ ap (λ (ts : List PlanTest). list_any (λ (t : PlanTest). is_among name t.locks) ts) c.as_slice.ensures);
      locks = λ name. ap (λ (l : Locks). is_held l name) same ∙ c.in_ok-locks.ensures.none name;
      counted =
          named_pass (counts_sharers sharers) (λ (t : PlanTest). t.shared) plan.tests
          (λ name. IfOk-at_ok (λ (s : Sharers). (name : List ℕ) → counts_sharers s name ≡ list_any (λ (t : PlanTest). is_among name t.shared) c.as_slice-2.result.now) made c.none_share.ensures.counted name ∙ ap (λ (ts : List PlanTest). list_any (λ (t : PlanTest). is_among name t.shared) ts) c.as_slice-2.ensures);
      shares = λ name. IfOk-at_ok (λ (s : Sharers). (name : List ℕ) → sharers_of s name ≡ 0) made c.none_share.ensures.none name;
      resources = IfOk-at_ok (λ free. lent free ≡ plan.resources) free c.all_free.ensures.whole;
      slots = λ place. IfOk-at_ok (λ free. (place : ℕ) → used_of free place ≡ 0) free c.all_free.ensures.unused place;
    }
