use Rattle.std.proofs.Common.{rules, ◌≡◌, ◌∙◌, ◌++◌, ap, append_assoc, codes, decimal, ℕ, List}
use Rattle.ct_explain.specs.Texts.{level_text}
use Rattle.ct_explain.proofs.texts.append_processors.Goals as goal

pub returns : goal.returns
returns c =
    let start = codes "processors: " in
    let number = decimal c.args.used in
    let level = level_text c.args.level in
    let used : c.append_number.new.self ≡ c.append.new.self ++ number = search rules in
    c.in_ok-append_level.ensures ∙ ap (λ (text : List ℕ). text ++ level) (used ∙ ap (λ (text : List ℕ). text ++ number) c.in_ok-append.ensures.ok ∙ append_assoc c.args.text.now start number) ∙ append_assoc c.args.text.now (start ++ number) level
