use Rattle.std.proofs.Common.{rules, sym, ap, ◌∙◌, arith}
use Rattle.ct_regex.specs.Stand.{Stand, behind_bytes}
use Rattle.ct_regex.specs.Memory.{stand_in}
use Rattle.ct_regex.proofs.memory.Memory.learn.Goals as goal

pub returns-clause-remembers : goal.returns-clause-remembers
returns-clause-remembers c = λ steps h e.
    c.link-2.ensures.remembers steps (c.add-to.ensures.remembers steps h) (
      (omega (arith, c.requires.met, c.add-to.ensures.count)),
      (omega (arith, c.add-to.ensures.number, c.add-to.ensures.count)),
      ap (λ (s : Stand). behind_bytes steps s c.args.bytes.now) (c.add-to.ensures.kept c.args.from c.requires.met) ∙ e ∙ sym c.add-to.ensures.same,
    )

pub returns-in-Some-clause-remembers : goal.returns-in-Some-clause-remembers
returns-in-Some-clause-remembers c = λ steps h e. c.link.ensures.remembers steps h (c.requires.met, c.in-Some.ensures.met, e ∙ sym c.in-Some.ensures.same)

pub returns-then-is_full-clause-remembers : goal.returns-then-is_full-clause-remembers
returns-then-is_full-clause-remembers c = λ steps h e. c.add.ensures.remembers steps (c.forget.ensures.remembers steps)

pub returns-clause-first : goal.returns-clause-first
returns-clause-first c = ap (λ sets. stand_in sets.items 0) c.link-2.ensures.sets ∙ c.add-to.ensures.kept 0 (search rules)

pub returns-then-is_full-clause-first : goal.returns-then-is_full-clause-first
returns-then-is_full-clause-first c = c.add.ensures.kept 0 (omega (arith, c.forget.ensures.count)) ∙ c.forget.ensures.first
