use Rattle.std.proofs.Common.{◌≡◌, ◌+◌, ◌∷◌, ◌++◌, [], Err, take, sym, ap, subst, ◌∙◌, rules}
use Rattle.std.proofs.lemmas.List.{take_more}
use Rattle.ct_edge.specs.Process.{IsTextPair}
use Rattle.ct_edge.proofs.EnvLemmas.{has_env-more}
use Rattle.ct_edge.proofs.command.set_environment.Goals as goal

pub loop-pair-preserved : goal.loop-pair-preserved
loop-pair-preserved c =
    let env = c.args.env.now in
    let at = c.loop-pair.pair-index in
    let pair = c.pair-item.result in
    let is = take_more env at pair c.loop-pair-test.true ∙ ap (λ last. take at env ++ last ∷ []) (sym c.pair-item.is) in
    record {
      env = has_env-more pair (take at env) (take (at + 1) env) c.loop-pair.command _ c.loop-pair.invariant.env is (search rules) (search rules) (search rules);
      call = search rules;
      dir = search rules;
    }

pub returns-in_err-word_of-clause-texts : goal.returns-in_err-word_of-clause-texts
returns-in_err-word_of-clause-texts c =
    let pair = c.pair-item.result in
    let gave : c.from_residual.result ≡ Err c.in_err-word_of.field-0.0 = search rules in
    rw gave (λ texts. absurd (c.in_err-word_of.ensures.text (subst IsTextPair (sym c.pair-item.is) (texts c.loop-pair.pair-index pair c.loop-pair-test.true)).0))

pub returns-in_err-word_of-2-clause-texts : goal.returns-in_err-word_of-2-clause-texts
returns-in_err-word_of-2-clause-texts c =
    let pair = c.pair-item.result in
    let gave : c.from_residual-in_err-word_of-2.result ≡ Err c.in_err-word_of-2.field-0.0 = search rules in
    rw gave (λ texts. absurd (c.in_err-word_of-2.ensures.text (subst IsTextPair (sym c.pair-item.is) (texts c.loop-pair.pair-index pair c.loop-pair-test.true)).1))
