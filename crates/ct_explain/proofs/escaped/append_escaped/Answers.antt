use Rattle.std.proofs.Common.{◌≡◌, ◌∙◌, ◌+◌, ◌++◌, sym, ap, ℕ, List, length, take, drop, append_assoc, arith, length-drop}
use Rattle.std.specs.Prelude.{◌-◌}
use Rattle.std.proofs.lemmas.List.{take_all}
use Rattle.ct_explain.specs.Escaped.{escaped_from, left_behind, shown_text}
use Rattle.ct_explain.proofs.DrawLemmas.{escaped-next}
use Rattle.ct_explain.proofs.escaped.append_escaped.Goals as goal

pub loop-at-preserved : goal.loop-at-preserved
loop-at-preserved c =
    let at = c.loop-at.at in
    let left = c.loop-at.left in
    let bytes = c.args.bytes.now in
    let text = c.loop-at.text in
    let here = shown_text left (drop at bytes) in
    let whole : take (length bytes - at) (drop at bytes) ≡ drop at bytes = take_all (length bytes - at) (drop at bytes) (omega (arith, length-drop at bytes)) in
    let more = drop (at + 1) bytes in
    ap (λ (t : List ℕ). t ++ escaped_from c.left_behind-left.result more) (c.in_ok-append.ensures.ok ∙ ap (λ (t : List ℕ). text ++ t) (c.shown_text.ensures ∙ ap (shown_text left) whole))
    ∙ ap (λ (n : ℕ). text ++ here ++ escaped_from n more) (c.left_behind-left.ensures ∙ ap (left_behind left) whole)
    ∙ append_assoc text here (escaped_from (left_behind left (drop at bytes)) more)
    ∙ ap (λ (t : List ℕ). text ++ t) (sym (escaped-next left at bytes c.loop-at-test.true))
    ∙ c.loop-at.invariant
