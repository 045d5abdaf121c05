use Rattle.std.proofs.Common.{ap, sym, ◌∙◌, ℕ, Option, Result, Ok}
use Rattle.ct_testfile.specs.Outcome.{◌>>=◌, or_refused}
use Rattle.ct_testfile.specs.declared.fault.ReadKind.{ReadKind}
use Rattle.ct_testfile.specs.declared.fault.ReadKind.TheVariants.{TooLong}
use Rattle.ct_testfile.specs.declared.state.State.{State}
use Rattle.ct_testfile.proofs.TreeLemmas.{admitted-long, admitted-short}
use Rattle.ct_testfile.proofs.tree.admit.Goals as goal

pub returns-then-text-limits : goal.returns-then-text-limits
returns-then-text-limits c = admitted-long c.args.limits.now c.args.text.now c.args.state c.if-text-limits.true

pub returns-in-None : goal.returns-in-None
returns-in-None c =
    let goes : Option ℕ → Result State ReadKind = λ r. or_refused r TooLong >>= λ n. Ok (record c.args.state { file_bytes = n }) in
    admitted-short c.args.limits.now c.args.text.now c.args.state c.if-text-limits.false ∙ ap goes (sym c.raised.ensures ∙ c.in-None.is)

pub returns-in-Some : goal.returns-in-Some
returns-in-Some c =
    let goes : Option ℕ → Result State ReadKind = λ r. or_refused r TooLong >>= λ n. Ok (record c.args.state { file_bytes = n }) in
    admitted-short c.args.limits.now c.args.text.now c.args.state c.if-text-limits.false ∙ ap goes (sym c.raised.ensures ∙ c.in-Some.is)
