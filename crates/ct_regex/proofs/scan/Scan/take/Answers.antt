use Rattle.std.proofs.Common.{◌-◌, ◌++◌, List, ℕ, map, take, drop, length, refl, sym, ap, ◌∙◌, append_assoc}
use Rattle.std.proofs.lemmas.List.{take_rest, take-append-drop}
use Rattle.ct_regex.specs.Walk.{Step, step_of}
use Rattle.ct_regex.specs.Stand.{Stand, stand_with, answer, behind_bytes}
use Rattle.ct_regex.specs.Memory.{stand_at}
use Rattle.ct_regex.specs.Scan.{answer_behind}
use Rattle.ct_regex.proofs.ScanLemmas.{alike_found}
use Rattle.ct_regex.proofs.scan.Scan.take.Goals as goal

pub returns-then-is_empty-clause-goes_on : goal.returns-then-is_empty-clause-goes_on
returns-then-is_empty-clause-goes_on c =
    let steps : List Step = map step_of c.args.self.now.steps.items in
    let here : Stand = stand_at c.args.self.now.memory c.follow-at.result.0 in
    let there : Stand = stand_at c.args.self.now.memory c.args.self.now.at in
    let known : ℕ = c.follow-at.result.1 in
    record {
      answers = λ more.
          ap (λ (ys : List ℕ). answer (behind_bytes steps (stand_with c.args.self.now.found here) (ys ++ more))) (take_rest c.args.piece.now known)
          ∙ alike_found steps c.args.self.now.found here there (drop known c.args.piece.now) c.args.piece.now more c.requires.goes (c.follow-at.ensures.behind steps c.args.self.now.right);
      anew = λ bytes. refl;
    }

pub returns-clause-goes_on : goal.returns-clause-goes_on
returns-clause-goes_on c =
    let steps : List Step = map step_of c.args.self.now.steps.items in
    let here : Stand = stand_at c.args.self.now.memory c.follow-at.result.0 in
    let there : Stand = stand_at c.args.self.now.memory c.args.self.now.at in
    let known : ℕ = c.follow-at.result.1 in
    let count : ℕ = c.walks-count.result in
    let rest : List ℕ = take (length c.args.piece.now - known) (drop known c.args.piece.now) in
    record {
      answers = λ more.
          ap (λ (ys : List ℕ). answer_behind c.walk.new.self (ys ++ more)) (take_rest rest count)
          ∙ c.walk.ensures.answers (drop count rest ++ more)
          ∙ ap (λ (ys : List ℕ). answer (behind_bytes steps (stand_with c.args.self.now.found here) ys))
          (sym (append_assoc (take count rest) (drop count rest) more) ∙ ap (λ (ys : List ℕ). ys ++ more) (take-append-drop count rest))
          ∙ ap (λ (ys : List ℕ). answer (behind_bytes steps (stand_with c.args.self.now.found here) (ys ++ more))) (take_rest c.args.piece.now known)
          ∙ alike_found steps c.args.self.now.found here there (drop known c.args.piece.now) c.args.piece.now more c.requires.goes (c.follow-at.ensures.behind steps c.args.self.now.right);
      anew = λ bytes. c.walk.ensures.anew bytes;
    }
