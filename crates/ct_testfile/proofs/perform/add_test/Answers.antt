use Rattle.std.proofs.Common.{◌-◌, ◌^◌, ◌++◌, ◌∷◌, [], min, length, ap, sym, ◌∙◌, ◌||◌, ◌==◌}
use Rattle.std.proofs.lemmas.Result.{err_from_is_err_and}
use Rattle.ct_suite.specs.Tests.{most_bytes, new_test}
use Rattle.ct_testfile.specs.Commands.{add_test, is_bad_name}
use Rattle.ct_testfile.proofs.PerformLemmas.{apart-is, apart-none, add_test-bad, add_test-full, add_test-stopped, add_test-done, has-room}
use Rattle.ct_suite.proofs.ShortLemmas.{first-short, rest-short}
use Rattle.ct_testfile.proofs.perform.add_test.Goals as goal

pub returns-in_default : goal.returns-in_default
returns-in_default c =
    ap (λ values. add_test c.args.limits.now c.args.dir.now values c.args.state) (apart-none c.args.values (sym c.take_apart.ensures ∙ c.in_default.is))

pub returns-then-is_bad_test : goal.returns-then-is_bad_test
returns-then-is_bad_test c =
    let name = c.in-Some.name in
    let command = c.in-Some.command in
    add_test-bad c.args.limits.now c.args.dir.now name command c.args.values c.args.state (apart-is c.args.values name command (sym c.take_apart.ensures ∙ c.in-Some.is)) (ap (λ n. length command == 0 || is_bad_name n) (sym c.bytes.ensures) ∙ sym c.is_bad_test.ensures ∙ c.if-is_bad_test.true)

pub returns-then-is_full : goal.returns-then-is_full
returns-then-is_full c =
    let name = c.in-Some.name in
    let command = c.in-Some.command in
    add_test-full c.args.limits.now c.args.dir.now name command c.args.values c.args.state (apart-is c.args.values name command (sym c.take_apart.ensures ∙ c.in-Some.is)) (ap (λ n. length command == 0 || is_bad_name n) (sym c.bytes.ensures) ∙ sym c.is_bad_test.ensures ∙ c.if-is_bad_test.false) (sym c.is_full.ensures ∙ c.if-is_full.true)

pub returns-in_err-state : goal.returns-in_err-state
returns-in_err-state c =
    let name = c.in-Some.name in
    let command = c.in-Some.command in
    let dir = c.args.dir.now in
    let p = err_from_is_err_and c.from_residual-in_err-state.result c.from_residual-in_err-state.ensures.1 in
    rw (p.1, p.2) (add_test-stopped c.args.limits.now dir name command c.args.values c.args.state (apart-is c.args.values name command (sym c.take_apart.ensures ∙ c.in-Some.is)) (ap (λ n. length command == 0 || is_bad_name n) (sym c.bytes.ensures) ∙ sym c.is_bad_test.ensures ∙ c.if-is_bad_test.false) (sym c.is_full.ensures ∙ c.if-is_full.false) c.in_err-state.field-0.0 (c.in_err-state.ensures (length dir) (c.length.ensures ∙ ap (λ d. min (length d) (2 ^ 64 - 1)) (c.bytes-2.ensures ∙ c.in_ok-dir.ensures))))

pub returns : goal.returns
returns c =
    let name = c.in-Some.name in
    let command = c.in-Some.command in
    let dir = c.args.dir.now in
    let next = c.in_ok-state.state in
    add_test-done c.args.limits.now dir name command c.args.values c.args.state (apart-is c.args.values name command (sym c.take_apart.ensures ∙ c.in-Some.is)) (ap (λ n. length command == 0 || is_bad_name n) (sym c.bytes.ensures) ∙ sym c.is_bad_test.ensures ∙ c.if-is_bad_test.false) (sym c.is_full.ensures ∙ c.if-is_full.false) next (record next { tests = c.in_ok-with_test.field-0 }) (c.in_ok-state.ensures (length dir) (c.length.ensures ∙ ap (λ d. min (length d) (2 ^ 64 - 1)) (c.bytes-2.ensures ∙ c.in_ok-dir.ensures))) (λ i. record next { tests = (c.in_ok-with_test.ensures ∙ ap (λ d. next.tests ++ new_test d name command ∷ []) c.in_ok-dir.ensures) i })

pub with_test-requires-clause-room : goal.with_test-requires-clause-room
with_test-requires-clause-room c =
    has-room c.args.limits.now c.args.state c.in_ok-state.state (length c.args.dir.now) c.requires.limits.tests (sym c.is_full.ensures ∙ c.if-is_full.false) (c.in_ok-state.ensures (length c.args.dir.now) (c.length.ensures ∙ ap (λ d. min (length d) (2 ^ 64 - 1)) (c.bytes-2.ensures ∙ c.in_ok-dir.ensures)))

pub with_test-requires-clause-name : goal.with_test-requires-clause-name
with_test-requires-clause-name c =
    first-short most_bytes c.args.values c.in-Some.name c.in-Some.command (apart-is c.args.values c.in-Some.name c.in-Some.command (sym c.take_apart.ensures ∙ c.in-Some.is)) c.requires.values

pub with_test-requires-clause-command : goal.with_test-requires-clause-command
with_test-requires-clause-command c =
    rest-short most_bytes c.args.values c.in-Some.name c.in-Some.command (apart-is c.args.values c.in-Some.name c.in-Some.command (sym c.take_apart.ensures ∙ c.in-Some.is)) c.requires.values
