use Rattle.std.proofs.Common.{◌≡◌, ◌∙◌, ◌+◌, ◌++◌, ◌∷◌, [], List, ℕ, ap, append_assoc, cond, drop, not, sym}
use Rattle.std.proofs.lemmas.List.{at_drop_more}
use Rattle.ct_base.specs.Names.{is_among}
use Rattle.ct_plan.specs.Planned.{without}
use Rattle.ct_plan.proofs.planned.without.Goals.{else-not-contains, then-not-contains+in_ok-copy+in_ok-push}
use Rattle.ct_plan.proofs.planned.without.Goals as goal

pub loop-name-preserved : goal.loop-name-preserved
loop-name-preserved c =
    let locks = c.args.locks.now in
    let at = c.loop-name.name-index in
    let name = c.name-item.result in
    let copies = c.loop-name.copies in
    let rest = without locks (drop (at + 1) c.args.names.now) in
    let is : c.contains.result ≡ is_among name locks = c.contains.ensures ∙ c.in_ok-held.ensures c.bytes.result.now ∙ ap (λ n. is_among n locks) c.bytes.ensures in
    let left : without locks (name ∷ drop (at + 1) c.args.names.now) ≡ without locks (drop at c.args.names.now) =
    ap (λ n. without locks (n ∷ drop (at + 1) c.args.names.now)) c.name-item.is ∙ sym (at_drop_more (without locks) c.args.names.now at name c.loop-name-test.true) in
    elim c.if-not-contains.branch [
      | then-not-contains+in_ok-copy+in_ok-push w ↦
          let other = sym w.if-not-contains.true ∙ is in
          ap (λ (l : List (List ℕ)). l ++ rest) (w.copies-is ∙ w.in_ok-push.ensures.ok ∙ ap (λ n. copies ++ n ∷ []) w.in_ok-copy.ensures)
          ∙ append_assoc copies (name ∷ []) rest
          ∙ ap (λ among. copies ++ cond (not among) (name ∷ rest) rest) other
          ∙ ap (λ l. copies ++ l) left
          ∙ c.loop-name.invariant
      | else-not-contains w ↦
          let same = sym w.if-not-contains.false ∙ is in
          ap (λ (l : List (List ℕ)). l ++ rest) w.copies-is
          ∙ ap (λ among. copies ++ cond (not among) (name ∷ rest) rest) same
          ∙ ap (λ l. copies ++ l) left
          ∙ c.loop-name.invariant
    ]
