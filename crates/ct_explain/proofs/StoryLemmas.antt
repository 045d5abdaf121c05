-- The waits of a chain, in one pass over the entries.
use Rattle.std.proofs.Common.{◌≡◌, ◌∙◌, sym, ap, subst, ℕ, ◌+◌, ◌<◌, ◌≤◌, true, List, [], ◌∷◌, ◌++◌, get_or, length, take, drop, refl, arith, zero, suc}
use Rattle.std.specs.Prelude.{All, AllPairs, slice_get, Some}
use Rattle.std.proofs.lemmas.Bool.{and_from, and_parts}
use Rattle.std.proofs.lemmas.List.{append-nil, append_assoc, drop_more, length-drop, take-append-drop, take_more}
use Rattle.ct_history.specs.declared.plan.PlanParts.{PlanParts}
use Rattle.ct_history.specs.declared.history.Entry.{Entry}
use Rattle.ct_history.specs.Legal.{are_allowed_behind, is_allowed, is_allowed_so_far, is_legal}
use Rattle.ct_history.specs.declared.audit.Audit.{Audit}
use Rattle.ct_history.specs.Audited.{IsAuditOf}
use Rattle.ct_history.proofs.LegalLemmas.{legal_allowed}
use Rattle.ct_times.specs.declared.chain.Link.{Link}
use Rattle.ct_times.specs.Links.{EndsBefore, IsPlaced}
use Rattle.ct_explain.specs.declared.wait.Wait.{Wait}
use Rattle.std.proofs.lemmas.Option.{slice_get-get_or}
use Rattle.ct_explain.specs.Story.{MayStart, entry_wait, wait_between, waits_of}

allowed_there : (plan : PlanParts) (front ys : List Entry) (e : Entry) (zs : List Entry) → are_allowed_behind plan front (ys ++ e ∷ zs) ≡ true → is_allowed plan (front ++ ys) e ≡ true
allowed_there plan front [] e zs allowed =
    subst (λ (l : List Entry). is_allowed plan l e ≡ true) (sym (append-nil front)) (and_parts (is_allowed plan front e) (are_allowed_behind plan (front ++ e ∷ []) zs) allowed).0
allowed_there plan front (y ∷ ys) e zs allowed =
    subst (λ (l : List Entry). is_allowed plan l e ≡ true) (append_assoc front (y ∷ []) ys)
    (allowed_there plan (front ++ y ∷ []) ys e zs (and_parts (is_allowed plan front y) (are_allowed_behind plan (front ++ y ∷ []) (ys ++ e ∷ zs)) allowed).1)

-- each entry of a legal history is allowed by those in front of it
pub allowed_at : (plan : PlanParts) (es : List Entry) → is_legal plan es ≡ true → (i : ℕ) (d : Entry) → i < length es → is_allowed plan (take i es) (get_or es i d) ≡ true
allowed_at plan es legal i d inside =
    let split : es ≡ take i es ++ get_or es i d ∷ drop (i + 1) es = sym (take-append-drop i es) ∙ ap (λ (l : List Entry). take i es ++ l) (drop_more es i d inside) in
    allowed_there plan [] (take i es) (get_or es i d) (drop (i + 1) es) (subst (λ (l : List Entry). is_allowed_so_far plan l ≡ true) split (legal_allowed plan es legal))

front_behind : (plan : PlanParts) (front es : List Entry) (n : ℕ) → are_allowed_behind plan front es ≡ true → are_allowed_behind plan front (take n es) ≡ true
front_behind plan front [] zero allowed = refl
front_behind plan front [] (suc n) allowed = refl
front_behind plan front (e ∷ es) zero allowed = refl
front_behind plan front (e ∷ es) (suc n) allowed =
    let both = and_parts (is_allowed plan front e) (are_allowed_behind plan (front ++ e ∷ []) es) allowed in
    and_from (is_allowed plan front e) (are_allowed_behind plan (front ++ e ∷ []) (take n es)) both.0 (front_behind plan (front ++ e ∷ []) es n both.1)

-- each beginning of a legal history is allowed so far
pub front_allowed : (plan : PlanParts) (es : List Entry) → is_legal plan es ≡ true → (n : ℕ) → is_allowed_so_far plan (take n es) ≡ true
front_allowed plan es legal n = front_behind plan [] es n (legal_allowed plan es legal)

-- the audit of one entry more
pub audit_more : (plan : PlanParts) (es : List Entry) (place : ℕ) (e : Entry) (audit : Audit) → place < length es → e ≡ get_or es place e → IsAuditOf plan (take place es ++ e ∷ []) audit → IsAuditOf plan (take (place + 1) es) audit
audit_more plan es place e audit inside is told =
    subst (λ (l : List Entry). IsAuditOf plan l audit) (sym (take_more es place e inside ∙ ap (λ (x : Entry). take place es ++ x ∷ []) (sym is))) told

-- each attempt of the chain was allowed where it started
pub may_start : (plan : PlanParts) (es : List Entry) (chain : List Link) → is_legal plan es ≡ true → All (IsPlaced es) chain → All (MayStart plan es) chain
may_start plan es chain legal placed = λ k d inside e. (
    let link = get_or chain k d in
    let here = placed k d inside in
    let less : link.begin < length es = omega (arith, here.last.before, here.inside) in
    allowed_at plan es legal link.begin e less)

get_or_any : (links : List Link) (i : ℕ) (d e : Link) → i < length links → get_or links i d ≡ get_or links i e
get_or_any [] i d e less = absurd (omega (arith, less))
get_or_any (l ∷ ls) zero d e less = refl
get_or_any (l ∷ ls) (suc i) d e less = get_or_any ls i d e (omega (arith, less))

module _ (plan : PlanParts) (es : List Entry) (chain : List Link) where
  -- what is told of the waits of the attempts in front of a place, with the audit of the entries in front of
  -- the last End that was reached
  pub record AreTold (waits : List Wait) (at noted : ℕ) (audit : Audit) : Type 0 where
    pub order : (k : ℕ) (d : Link) → at ≤ k → k < length chain → noted ≤ (get_or chain k d).end
    pub audited : IsAuditOf plan (take noted es) audit
    pub so_far : waits ++ waits_of plan es (drop at chain) ≡ waits_of plan es chain

  one_more : (waits : List Wait) (at : ℕ) (d : Link) → at + 1 < length chain → waits ++ waits_of plan es (drop at chain) ≡ waits_of plan es chain → (waits ++ wait_between plan es (get_or chain at d) (get_or chain (at + 1) d) ∷ []) ++ waits_of plan es (drop (at + 1) chain) ≡ waits_of plan es chain
  one_more waits at d inside before =
      let less : at < length chain = omega (arith, inside) in
      let rest = drop (at + 1 + 1) chain in
      let one = get_or chain at d in
      let next = get_or chain (at + 1) d in
      let wait = wait_between plan es one next in
      let first : drop (at + 1) chain ≡ next ∷ rest = drop_more chain (at + 1) d inside in
      let both : drop at chain ≡ one ∷ next ∷ rest = drop_more chain at d less ∙ ap (λ (ls : List Link). one ∷ ls) first in
      ap (λ (ls : List Link). (waits ++ wait ∷ []) ++ waits_of plan es ls) first
      ∙ append_assoc waits (wait ∷ []) (waits_of plan es (next ∷ rest))
      ∙ sym (ap (λ (ls : List Link). waits ++ waits_of plan es ls) both)
      ∙ before

  -- one wait more
  pub told_more : (waits more : List Wait) (at noted : ℕ) (old new : Audit) (d : Link) (wait : Wait) (e : Entry) → All (IsPlaced es) chain → AllPairs EndsBefore chain → at + 1 < length chain → e ≡ get_or es (get_or chain (at + 1) d).begin e → wait ≡ entry_wait plan (take (get_or chain at d).end es) (Some e) → more ≡ waits ++ wait ∷ [] → AreTold waits at noted old → IsAuditOf plan (take (get_or chain at d).end es) new → AreTold more (at + 1) (get_or chain at d).end new
  told_more waits more at noted old new d wait e placed ordered inside e_is wait_is more_is told audited =
      let one = get_or chain at d in
      let next = get_or chain (at + 1) d in
      let here = placed (at + 1) d inside in
      let within : next.begin < length es = omega (arith, here.last.before, here.inside) in
      let start : slice_get es next.begin ≡ Some e = slice_get-get_or es next.begin e within ∙ ap (λ (x : Entry). Some x) (sym e_is) in
      let between : wait ≡ wait_between plan es one next = wait_is ∙ sym (ap (entry_wait plan (take one.end es)) start) in
      record {
        order = λ k f behind less. (
            let same : get_or chain at d ≡ get_or chain at f = get_or_any chain at d f (omega (arith, inside)) in
            let ends : (get_or chain at d).end ≡ (get_or chain at f).end = ap (λ (l : Link). l.end) same in
            let apart = ordered at k f (omega (arith, behind)) less in
            let last = (placed k f less).last.before in
            omega (arith, ends, apart, last));
        audited = audited;
        so_far = ap (λ (ws : List Wait). ws ++ waits_of plan es (drop (at + 1) chain)) (more_is ∙ ap (λ (w : Wait). waits ++ w ∷ []) between) ∙ one_more waits at d inside told.so_far;
      }

  short : (links : List Link) → length links ≤ 1 → waits_of plan es links ≡ []
  short [] few = refl
  short (l ∷ []) few = refl
  short (l ∷ m ∷ ls) few = absurd (omega (arith, few))

  -- the waits of all attempts
  pub told_all : (waits : List Wait) (at noted : ℕ) (audit : Audit) → length chain ≤ at + 1 → AreTold waits at noted audit → waits ≡ waits_of plan es chain
  told_all waits at noted audit over told =
      let none : waits_of plan es (drop at chain) ≡ [] = short (drop at chain) (omega (arith, length-drop at chain, over)) in
      sym (append-nil waits) ∙ ap (λ (ws : List Wait). waits ++ ws) (sym none) ∙ told.so_far

  -- nothing was told yet
  pub told_none : (waits : List Wait) (audit : Audit) → waits ≡ [] → IsAuditOf plan [] audit → AreTold waits 0 0 audit
  told_none waits audit none audited = record {
    order = λ k d behind less. omega arith;
    audited = audited;
    so_far = ap (λ (ws : List Wait). ws ++ waits_of plan es chain) none;
  }
