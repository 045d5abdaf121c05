use Rattle.std.proofs.Common.{◌≡◌, ◌+◌, ◌-◌, ◌<◌, ◌≤◌, ap, sym, ◌∙◌, refl, subst, arith, ℕ, length, get_or, drop, take, List, [], Option, Some, None, option_map, Result, Ok, Err}
use Rattle.std.proofs.lemmas.Result.{err_from_is_err_and}
use Rattle.ct_base.specs.Outside.{Held}
use Rattle.ct_lex.specs.Place.{beginning}
use Rattle.ct_lex.specs.declared.call.Call.{Call}
use Rattle.ct_testfile.specs.Outcome.{◌>>=◌, on_line}
use Rattle.ct_testfile.specs.Says.{IsNextOf, Over}
use Rattle.ct_testfile.specs.Tree.{absent, admitted, ended, nested, opened_by}
use Rattle.ct_testfile.specs.declared.fault.ReadFault.{ReadFault}
use Rattle.ct_testfile.specs.declared.fault.ReadFault.TheVariants.{At, NoMemory}
use Rattle.ct_testfile.specs.declared.fault.ReadKind.TheVariants.{TooDeep}
use Rattle.ct_testfile.specs.declared.state.State.{State}
use Rattle.ct_testfile.proofs.OverLemmas.{IsAnswerOf-same, Over-same, Over-still, Over-stopped, Over-then, SoFar-start, SoFar-end}
use Rattle.ct_testfile.proofs.TreeLemmas.{from, from-start, from-end, from-refused, ends-unfailed, stopped-step, stopped-known, once-more, entered, too-deep, admitted-is-short, opened_by-taken, opened_from, opened-stopped, opened-more, opened-all}
use Rattle.std.proofs.Common.{inl, inr, IfOk, IsSomeAnd}
use Rattle.ct_testfile.specs.Asks.{CallAsks, NestedAsks, OpeningAsks}
use Rattle.ct_testfile.proofs.AsksLemmas.{asks-behind, asks-call, asks-inside, asks-more, asks-one, asks-opened, asks-taken, asks_from, asks_from-start, blamed, blamed-fault, ok-and, opened_ask_from, opened_asks, some-and, unblamed}
use Rattle.ct_base.specs.declared.file_call.FileCall.{FileCall}
use Rattle.ct_base.specs.declared.file_call.FileCall.TheVariants.{Read}
use Rattle.std.proofs.Common.{◌∷◌}
use Rattle.ct_testfile.specs.TreeCalls.{MakesCalls, calls_behind, held_calls, nested_calls}
use Rattle.ct_testfile.proofs.CallsLemmas.{calls-entered, calls-none, calls-once-more, calls-one-more, calls-one-stopped, calls-stopped, calls-stopped-in, calls-taken, calls_from, calls_from-end, calls_from-refused, calls_from-start, made-same, made-stopped, made-then, opened-calls-all, opened_calls_from, so-far-end, so-far-start, still, wanting}
use Rattle.ct_testfile.proofs.tree.+tree.Goals as goal

pub carry-new-lexer-requires : goal.carry-new-lexer-requires
carry-new-lexer-requires g t c = c.requires.lines

pub carry-calls-init : goal.carry-calls-init
carry-calls-init g t c = (SoFar-start _ _, λ held told path asks. asks, λ held told. so-far-start _ _)

pub carry-returns-in_err-call-clause-says : goal.carry-returns-in_err-call-clause-says
carry-returns-in_err-call-clause-says g t c =
    let before = g.F.Files.tells c.args.files.now in
    let now = g.F.Files.tells c.calls.files in
    let limits = c.args.here.now.limits.now in
    let file = c.args.here.now.file.now in
    let fault = c.in_err-call.field-0.0 in
    let begin = from limits c.args.here.now.more file c.new-ifs.result c.args.state c.new-lexer.result in
    let rest = from limits c.args.here.now.more file c.calls.ifs c.calls.known c.calls.lexer in
    let p = err_from_is_err_and c.from_residual.result c.from_residual.ensures.1 in
    rw (p.1, p.2) (Over-same before now begin (from limits c.args.here.now.more file [] c.args.state (beginning c.args.text.now)) (Err fault) (from-start limits c.args.here.now.more file c.new-ifs.result c.args.state c.new-lexer.result c.args.text.now c.new-ifs.ensures c.new-lexer.ensures.place) (SoFar-end before now now begin rest (Err fault) c.calls.invariant.0 (Over-still now rest (Err fault) (ends-unfailed State file.path c.calls.lexer fault c.in_err-call.ensures) (from-refused limits c.args.here.now.more file c.calls.ifs c.calls.known c.calls.lexer fault c.in_err-call.ensures))))

pub carry-same-ifs : goal.carry-same-ifs
carry-same-ifs g t c = refl

pub carry-returns-in_err-step-clause-says : goal.carry-returns-in_err-step-clause-says
carry-returns-in_err-step-clause-says g t c =
    let before = g.F.Files.tells c.args.files.now in
    let between = g.F.Files.tells c.calls.files in
    let now = g.F.Files.tells c.advance.new.files in
    let limits = c.args.here.now.limits.now in
    let file = c.args.here.now.file.now in
    let fault = c.in_err-step.field-0.0 in
    let begin = from limits c.args.here.now.more file c.new-ifs.result c.args.state c.new-lexer.result in
    let P : Option Call → Type 0 = λ call. IsNextOf file.path c.calls.lexer c.next_call.new.lexer (Ok call) in
    let next = subst P c.in-Some.is c.in_ok-call.ensures in
    let p = err_from_is_err_and c.from_residual-in_err-step.result c.from_residual-in_err-step.ensures.1 in
    rw (p.1, p.2) (Over-same before now begin (from limits c.args.here.now.more file [] c.args.state (beginning c.args.text.now)) (Err fault) (from-start limits c.args.here.now.more file c.new-ifs.result c.args.state c.new-lexer.result c.args.text.now c.new-ifs.ensures c.new-lexer.ensures.place) (stopped-step limits c.args.here.now.more file before between now c.calls.ifs c.calls.known c.in-Some.call c.calls.lexer c.next_call.new.lexer begin fault c.calls.invariant.0 next c.in_err-step.ensures.says))

pub carry-returns-in_err-known-clause-says : goal.carry-returns-in_err-known-clause-says
carry-returns-in_err-known-clause-says g t c =
    let before = g.F.Files.tells c.args.files.now in
    let between = g.F.Files.tells c.calls.files in
    let mid = g.F.Files.tells c.advance.new.files in
    let now = g.F.Files.tells c.open_each.new.files in
    let limits = c.args.here.now.limits.now in
    let file = c.args.here.now.file.now in
    let fault = c.in_err-known.field-0.0 in
    let begin = from limits c.args.here.now.more file c.new-ifs.result c.args.state c.new-lexer.result in
    let P : Option Call → Type 0 = λ call. IsNextOf file.path c.calls.lexer c.next_call.new.lexer (Ok call) in
    let next = subst P c.in-Some.is c.in_ok-call.ensures in
    let p = err_from_is_err_and c.from_residual-in_err-known.result c.from_residual-in_err-known.ensures.1 in
    rw (p.1, p.2) (Over-same before now begin (from limits c.args.here.now.more file [] c.args.state (beginning c.args.text.now)) (Err fault) (from-start limits c.args.here.now.more file c.new-ifs.result c.args.state c.new-lexer.result c.args.text.now c.new-ifs.ensures c.new-lexer.ensures.place) (stopped-known limits c.args.here.now.more file before between mid c.calls.ifs c.calls.known c.in-Some.call c.calls.lexer c.next_call.new.lexer now begin c.in_ok-step.step fault c.calls.invariant.0 next c.in_ok-step.ensures.says c.in_err-known.ensures.says))

pub carry-same-ifs-in-Some : goal.carry-same-ifs-in-Some
carry-same-ifs-in-Some g t c = refl

pub carry-calls-smaller : goal.carry-calls-smaller
carry-calls-smaller g t c =
    let P : Option Call → Type 0 = λ call. IsNextOf c.args.here.now.file.now.path c.calls.lexer c.next_call.new.lexer (Ok call) in
    (subst P c.in-Some.is c.in_ok-call.ensures).2

pub carry-calls-preserved : goal.carry-calls-preserved
carry-calls-preserved g t c =
    let before = g.F.Files.tells c.args.files.now in
    let between = g.F.Files.tells c.calls.files in
    let mid = g.F.Files.tells c.advance.new.files in
    let now = g.F.Files.tells c.open_each.new.files in
    let limits = c.args.here.now.limits.now in
    let file = c.args.here.now.file.now in
    let begin = from limits c.args.here.now.more file c.new-ifs.result c.args.state c.new-lexer.result in
    let P : Option Call → Type 0 = λ call. IsNextOf file.path c.calls.lexer c.next_call.new.lexer (Ok call) in
    let next = subst P c.in-Some.is c.in_ok-call.ensures in (
      once-more limits c.args.here.now.more file before between mid c.calls.ifs c.calls.known c.in-Some.call c.calls.lexer c.next_call.new.lexer now begin c.in_ok-step.step c.in_ok-known.known c.calls.invariant.0 next c.in_ok-step.ensures.says c.in_ok-known.ensures.says,
      λ held told path asks.
          let so_far = c.calls.invariant.0.kept held told in
          c.calls.invariant.1 held told path (asks-behind limits c.args.here.now.more file c.calls.ifs c.calls.known c.in-Some.call c.calls.lexer c.next_call.new.lexer next held path c.in_ok-step.step c.in_ok-known.known (c.in_ok-step.ensures.says.answer held so_far) (c.in_ok-known.ensures.says.answer held (c.in_ok-step.ensures.says.kept held so_far)) asks),
      λ held told.
          let so_far = c.calls.invariant.0.kept held told in
          let kept = c.in_ok-step.ensures.says.kept held so_far in
          calls-once-more limits c.args.here.now.more file c.calls.ifs c.calls.known c.in-Some.call c.calls.lexer c.next_call.new.lexer next held (calls_from limits c.args.here.now.more file c.new-ifs.result c.args.state c.new-lexer.result held) (g.F.Files.calls c.args.files.now) (g.F.Files.calls c.calls.files) (g.F.Files.calls c.advance.new.files) (c.calls.invariant.2 held told) (g.F.Files.calls c.open_each.new.files) c.in_ok-step.step (c.in_ok-step.ensures.says.answer held so_far) c.in_ok-step.ensures.calls c.in_ok-known.known (c.in_ok-known.ensures.says.answer held kept) (c.in_ok-known.ensures.calls held kept),
    )

pub carry-same-ifs-2 : goal.carry-same-ifs-2
carry-same-ifs-2 g t c = refl

pub carry-returns-clause-says : goal.carry-returns-clause-says
carry-returns-clause-says g t c =
    let before = g.F.Files.tells c.args.files.now in
    let now = g.F.Files.tells c.calls.files in
    let limits = c.args.here.now.limits.now in
    let file = c.args.here.now.file.now in
    let begin = from limits c.args.here.now.more file c.new-ifs.result c.args.state c.new-lexer.result in
    let rest = from limits c.args.here.now.more file c.calls.ifs c.calls.known c.calls.lexer in
    let P : Option Call → Type 0 = λ call. IsNextOf file.path c.calls.lexer c.next_call.new.lexer (Ok call) in
    let next = subst P c.in_default.is c.in_ok-call.ensures in
    Over-same before now begin (from limits c.args.here.now.more file [] c.args.state (beginning c.args.text.now)) c.end.result (from-start limits c.args.here.now.more file c.new-ifs.result c.args.state c.new-lexer.result c.args.text.now c.new-ifs.ensures c.new-lexer.ensures.place) (SoFar-end before now now begin rest c.end.result c.calls.invariant.0 (Over-still now rest c.end.result c.end.ensures.unfailed (λ held. IsAnswerOf-same (ended file.path c.calls.ifs c.calls.known None) (rest held) c.end.result (sym (from-end limits c.args.here.now.more file c.calls.ifs c.calls.known c.calls.lexer c.next_call.new.lexer next held)) c.end.ensures.says)))

pub enter-returns-in_default-clause-says : goal.enter-returns-in_default-clause-says
enter-returns-in_default-clause-says g t c =
    let tells = g.F.Files.tells c.args.files.now in
    let site = c.args.here.now.file.now.path in
    let opening = c.args.opening.now in
    let goes : Option (List ℕ) → Held → Result State ReadFault = λ got held. opened_by (nested c.args.here.now.limits.now held c.args.here.now.more) site c.args.line opening c.args.state got in
    Over-same tells tells (goes None) (goes c.args.got) c.at_line.result (λ held. ap (λ got. goes got held) (sym c.in_default.is)) (Over-still tells (goes None) c.at_line.result c.at_line.ensures.unfailed (λ held. c.at_line.ensures.says (absent opening c.args.state) c.absent.ensures))

pub enter-returns-then-here-eq0-clause-says : goal.enter-returns-then-here-eq0-clause-says
enter-returns-then-here-eq0-clause-says g t c =
    let tells = g.F.Files.tells c.args.files.now in
    let site = c.args.here.now.file.now.path in
    let opening = c.args.opening.now in
    let goes : Held → Result State ReadFault = λ held. opened_by (nested c.args.here.now.limits.now held c.args.here.now.more) site c.args.line opening c.args.state c.args.got in
    Over-same tells tells (λ held. Err (At site c.args.line TooDeep)) goes c.at_line-then-here-eq0.result (λ held. too-deep c.args.here.now.limits.now held c.args.here.now.more site c.args.line opening c.args.state c.args.got c.in-Some.text c.if-here-eq0.true c.in-Some.is) (Over-still tells (λ held. Err (At site c.args.line TooDeep)) c.at_line-then-here-eq0.result c.at_line-then-here-eq0.ensures.unfailed (λ held. c.at_line-then-here-eq0.ensures.says (Err TooDeep) refl))

pub enter-returns-in_err-state-clause-says : goal.enter-returns-in_err-state-clause-says
enter-returns-in_err-state-clause-says g t c =
    let tells = g.F.Files.tells c.args.files.now in
    let limits = c.args.here.now.limits.now in
    let site = c.args.here.now.file.now.path in
    let opening = c.args.opening.now in
    let text = c.bytes.result.now in
    let fault = c.in_err-state.field-0.0 in
    let left = c.args.here.now.more in
    let first : Held → Result State ReadFault = λ held. on_line opening.file.path 0 (admitted limits text c.args.state) in
    let next : Held → State → Result State ReadFault = λ held state. from limits (left - 1) opening.file [] state (beginning text) held in
    let goes : Held → Result State ReadFault = λ held. opened_by (nested limits held left) site c.args.line opening c.args.state c.args.got in
    let p = err_from_is_err_and c.from_residual.result c.from_residual.ensures.1 in
    rw (p.1, p.2) (Over-same tells tells (λ held. first held >>= next held) goes (Err fault) (λ held. entered limits held left (left - 1) site c.args.line opening c.args.state c.args.got text (grind (arith, c.if-here-eq0.false)) (c.in-Some.is ∙ ap Some (sym c.bytes.ensures))) (Over-stopped tells tells first next fault (Over-still tells first (Err fault) c.in_err-state.ensures.unfailed (λ held. c.in_err-state.ensures.says (admitted limits text c.args.state) c.admit-admitted.ensures))))

pub enter-carry-requires : goal.enter-carry-requires
enter-carry-requires g t c κs within =
    let short = admitted-is-short c.args.here.now.limits.now c.bytes.result.now c.args.state c.in_ok-state.state c.args.opening.now.file.path (c.in_ok-state.ensures.says (admitted c.args.here.now.limits.now c.bytes.result.now c.args.state) c.admit-admitted.ensures) in
    let same : length c.bytes-2.result.now ≡ length c.bytes.result.now = ap length (c.bytes-2.ensures ∙ sym c.bytes.ensures) in
    (omega (arith, c.decreases, c.if-here-eq0.false), (within, (c.requires, omega (arith, c.requires.lines))))

pub enter-returns-clause-says : goal.enter-returns-clause-says
enter-returns-clause-says g t c =
    let tells = g.F.Files.tells c.args.files.now in
    let now = g.F.Files.tells c.carry.new.files in
    let limits = c.args.here.now.limits.now in
    let site = c.args.here.now.file.now.path in
    let opening = c.args.opening.now in
    let text = c.bytes.result.now in
    let left = c.args.here.now.more in
    let first : Held → Result State ReadFault = λ held. on_line opening.file.path 0 (admitted limits text c.args.state) in
    let next : Held → State → Result State ReadFault = λ held state. from limits (left - 1) opening.file [] state (beginning text) held in
    let goes : Held → Result State ReadFault = λ held. opened_by (nested limits held left) site c.args.line opening c.args.state c.args.got in
    let P : List ℕ → Type 0 = λ text. Over tells now (λ held. from limits (left - 1) opening.file [] c.in_ok-state.state (beginning text) held) c.carry.result in
    let carried = subst P (c.bytes-2.ensures ∙ sym c.bytes.ensures) c.carry.ensures.says in
    Over-same tells now (λ held. first held >>= next held) goes c.carry.result (λ held. entered limits held left (left - 1) site c.args.line opening c.args.state c.args.got text (grind (arith, c.if-here-eq0.false)) (c.in-Some.is ∙ ap Some (sym c.bytes.ensures))) (Over-then tells tells now first next c.in_ok-state.state c.carry.result (Over-still tells first (Ok c.in_ok-state.state) tt (λ held. c.in_ok-state.ensures.says (admitted limits text c.args.state) c.admit-admitted.ensures)) carried)

pub open-returns-in_err-got-clause-says : goal.open-returns-in_err-got-clause-says
open-returns-in_err-got-clause-says g t c =
    let before = g.F.Files.tells c.args.files.now in
    let now = g.F.Files.tells c.fetch.new.files in
    let limits = c.args.here.now.limits.now in
    let opening = c.args.opening.now in
    let fault = c.in_err-got.field-0.0 in
    let first : Held → Result (Option (List ℕ)) ReadFault = λ held. Ok (option_map (take (limits.file_bytes + 1)) (held opening.file.path)) in
    let next : Held → Option (List ℕ) → Result State ReadFault = λ held got. opened_by (nested limits held c.args.here.now.more) c.args.here.now.file.now.path c.args.line opening c.args.state got in
    let p = err_from_is_err_and c.from_residual.result c.from_residual.ensures.1 in
    rw (p.1, p.2) (Over-same before now (λ held. first held >>= next held) (λ held. next held (held opening.file.path)) (Err fault) (λ held. opened_by-taken limits held c.args.here.now.more c.args.here.now.file.now.path c.args.line opening c.args.state (held opening.file.path)) (Over-stopped before now first next fault c.in_err-got.ensures.says))

pub open-returns-clause-says : goal.open-returns-clause-says
open-returns-clause-says g t c =
    let before = g.F.Files.tells c.args.files.now in
    let between = g.F.Files.tells c.fetch.new.files in
    let now = g.F.Files.tells c.enter.new.files in
    let limits = c.args.here.now.limits.now in
    let opening = c.args.opening.now in
    let first : Held → Result (Option (List ℕ)) ReadFault = λ held. Ok (option_map (take (limits.file_bytes + 1)) (held opening.file.path)) in
    let next : Held → Option (List ℕ) → Result State ReadFault = λ held got. opened_by (nested limits held c.args.here.now.more) c.args.here.now.file.now.path c.args.line opening c.args.state got in
    Over-same before now (λ held. first held >>= next held) (λ held. next held (held opening.file.path)) c.enter.result (λ held. opened_by-taken limits held c.args.here.now.more c.args.here.now.file.now.path c.args.line opening c.args.state (held opening.file.path)) (Over-then before between now first next c.in_ok-got.got c.enter.result c.in_ok-got.ensures.says c.enter.ensures.says)

pub open_each-loop-name-init : goal.open_each-loop-name-init
open_each-loop-name-init g t c = (SoFar-start _ _, λ held told path asks. asks, λ held told. so-far-start _ _)

pub open_each-returns-in_err-opening-clause-says : goal.open_each-returns-in_err-opening-clause-says
open_each-returns-in_err-opening-clause-says g t c =
    let before = g.F.Files.tells c.args.files.now in
    let now = g.F.Files.tells c.loop-name.files in
    let limits = c.args.here.now.limits.now in
    let file = c.args.here.now.file.now in
    let opens = c.args.opens.now in
    let begin = opened_from limits c.args.here.now.more file c.args.line opens opens.names c.args.state in
    let rest = opened_from limits c.args.here.now.more file c.args.line opens (drop c.loop-name.name-index opens.names) c.loop-name.known in
    let p = err_from_is_err_and c.from_residual.result c.from_residual.ensures.1 in
    rw (p.1, p.2) (SoFar-end before now now begin rest (Err NoMemory) c.loop-name.invariant.0 (Over-still now rest (Err NoMemory) tt (λ held. tt)))

pub open_each-returns-in_err-known-clause-says : goal.open_each-returns-in_err-known-clause-says
open_each-returns-in_err-known-clause-says g t c =
    let before = g.F.Files.tells c.args.files.now in
    let between = g.F.Files.tells c.loop-name.files in
    let now = g.F.Files.tells c.open.new.files in
    let opens = c.args.opens.now in
    let fault = c.in_err-known.field-0.0 in
    let begin = opened_from c.args.here.now.limits.now c.args.here.now.more c.args.here.now.file.now c.args.line opens opens.names c.args.state in
    let within : c.loop-name.name-index < length opens.names = subst (λ ns. c.loop-name.name-index < length ns) c.as_slice-name-items.ensures c.loop-name-test.true in
    let is : c.name-item.result ≡ get_or opens.names c.loop-name.name-index c.name-item.result = c.name-item.is ∙ ap (λ ns. get_or ns c.loop-name.name-index c.name-item.result) c.as_slice-name-items.ensures in
    let p = err_from_is_err_and c.from_residual-in_err-known.result c.from_residual-in_err-known.ensures.1 in
    rw (p.1, p.2) (opened-stopped c.args.here.now.limits.now c.args.here.now.more c.args.here.now.file.now c.args.line opens before between now opens.names c.loop-name.name-index c.name-item.result c.in_ok-opening.opening c.loop-name.known within is c.in_ok-opening.ensures begin fault c.loop-name.invariant.0 c.in_err-known.ensures.says)

pub open_each-loop-name-preserved : goal.open_each-loop-name-preserved
open_each-loop-name-preserved g t c =
    let before = g.F.Files.tells c.args.files.now in
    let between = g.F.Files.tells c.loop-name.files in
    let now = g.F.Files.tells c.open.new.files in
    let opens = c.args.opens.now in
    let begin = opened_from c.args.here.now.limits.now c.args.here.now.more c.args.here.now.file.now c.args.line opens opens.names c.args.state in
    let within : c.loop-name.name-index < length opens.names = subst (λ ns. c.loop-name.name-index < length ns) c.as_slice-name-items.ensures c.loop-name-test.true in
    let is : c.name-item.result ≡ get_or opens.names c.loop-name.name-index c.name-item.result = c.name-item.is ∙ ap (λ ns. get_or ns c.loop-name.name-index c.name-item.result) c.as_slice-name-items.ensures in (
      opened-more c.args.here.now.limits.now c.args.here.now.more c.args.here.now.file.now c.args.line opens before between now opens.names c.loop-name.name-index c.name-item.result c.in_ok-opening.opening c.loop-name.known within is c.in_ok-opening.ensures begin c.in_ok-known.known c.loop-name.invariant.0 c.in_ok-known.ensures.says,
      λ held told path asks.
          c.loop-name.invariant.1 held told path (asks-more c.args.here.now.limits.now c.args.here.now.more c.args.here.now.file.now c.args.line opens opens.names c.loop-name.name-index c.name-item.result c.in_ok-opening.opening c.loop-name.known within is c.in_ok-opening.ensures held path c.in_ok-known.known (c.in_ok-known.ensures.says.answer held (c.loop-name.invariant.0.kept held told)) asks),
      λ held told.
          let limits = c.args.here.now.limits.now in
          let left = c.args.here.now.more in
          let file = c.args.here.now.file.now in
          let at = c.loop-name.name-index in
          let opening = c.in_ok-opening.opening in
          let known = c.in_ok-known.known in
          let kept = c.loop-name.invariant.0.kept held told in
          calls-one-more limits left file c.args.line opens opens.names at c.name-item.result opening c.loop-name.known within is c.in_ok-opening.ensures held (opened_calls_from limits left file c.args.line opens opens.names c.args.state held) (g.F.Files.calls c.args.files.now) (g.F.Files.calls c.loop-name.files) (g.F.Files.calls c.open.new.files) (c.loop-name.invariant.2 held told) known (c.in_ok-known.ensures.says.answer held kept) (c.in_ok-known.ensures.calls held kept),
    )

pub open_each-returns-clause-says : goal.open_each-returns-clause-says
open_each-returns-clause-says g t c =
    let opens = c.args.opens.now in
    let begin = opened_from c.args.here.now.limits.now c.args.here.now.more c.args.here.now.file.now c.args.line opens opens.names c.args.state in
    let past : length opens.names ≤ c.loop-name.name-index = subst (λ ns. length ns ≤ c.loop-name.name-index) c.as_slice-name-items.ensures c.loop-name-test.false in
    opened-all c.args.here.now.limits.now c.args.here.now.more c.args.here.now.file.now c.args.line opens (g.F.Files.tells c.args.files.now) (g.F.Files.tells c.loop-name.files) opens.names c.loop-name.name-index c.loop-name.known begin past c.loop-name.invariant.0

pub carry-returns-in_err-call-clause-asks : goal.carry-returns-in_err-call-clause-asks
carry-returns-in_err-call-clause-asks g t c =
    let limits = c.args.here.now.limits.now in
    let file = c.args.here.now.file.now in
    let fault = c.in_err-call.field-0.0 in
    let p = err_from_is_err_and c.from_residual.result c.from_residual.ensures.1 in
    rw (p.1, p.2) (λ held told. unblamed {A = State} (asks_from limits c.args.here.now.more file [] c.args.state (beginning c.args.text.now) held) (Err fault) (ends-unfailed State file.path c.calls.lexer fault c.in_err-call.ensures))

pub carry-returns-in_err-step-clause-asks : goal.carry-returns-in_err-step-clause-asks
carry-returns-in_err-step-clause-asks g t c =
    let limits = c.args.here.now.limits.now in
    let file = c.args.here.now.file.now in
    let more = c.args.here.now.more in
    let call = c.in-Some.call in
    let fault = c.in_err-step.field-0.0 in
    let P : Option Call → Type 0 = λ call. IsNextOf file.path c.calls.lexer c.next_call.new.lexer (Ok call) in
    let next = subst P c.in-Some.is c.in_ok-call.ensures in
    let p = err_from_is_err_and c.from_residual-in_err-step.result c.from_residual-in_err-step.ensures.1 in
    rw (p.1, p.2) (λ held told. blamed-fault (CallAsks limits file.dir c.calls.ifs c.calls.known call) (asks_from limits more file [] c.args.state (beginning c.args.text.now) held) fault (λ path asks. asks_from-start limits more file c.new-ifs.result c.args.state c.new-lexer.result c.args.text.now c.new-ifs.ensures c.new-lexer.ensures.place held path (c.calls.invariant.1 held told path (asks-call limits more file c.calls.ifs c.calls.known call c.calls.lexer c.next_call.new.lexer next held path asks))) c.in_err-step.ensures.asks)

pub carry-returns-in_err-known-clause-asks : goal.carry-returns-in_err-known-clause-asks
carry-returns-in_err-known-clause-asks g t c =
    let limits = c.args.here.now.limits.now in
    let file = c.args.here.now.file.now in
    let more = c.args.here.now.more in
    let call = c.in-Some.call in
    let step = c.in_ok-step.step in
    let fault = c.in_err-known.field-0.0 in
    let P : Option Call → Type 0 = λ call. IsNextOf file.path c.calls.lexer c.next_call.new.lexer (Ok call) in
    let next = subst P c.in-Some.is c.in_ok-call.ensures in
    let p = err_from_is_err_and c.from_residual-in_err-known.result c.from_residual-in_err-known.ensures.1 in
    rw (p.1, p.2) (λ held told.
    let so_far = c.calls.invariant.0.kept held told in
    blamed-fault (opened_asks limits more file step call.line held) (asks_from limits more file [] c.args.state (beginning c.args.text.now) held) fault (λ path asks. asks_from-start limits more file c.new-ifs.result c.args.state c.new-lexer.result c.args.text.now c.new-ifs.ensures c.new-lexer.ensures.place held path (c.calls.invariant.1 held told path (asks-opened limits more file c.calls.ifs c.calls.known call c.calls.lexer c.next_call.new.lexer next held path step (c.in_ok-step.ensures.says.answer held so_far) asks))) (c.in_err-known.ensures.asks held (c.in_ok-step.ensures.says.kept held so_far)))

pub carry-returns-clause-asks : goal.carry-returns-clause-asks
carry-returns-clause-asks g t c =
    λ held told. unblamed (asks_from c.args.here.now.limits.now c.args.here.now.more c.args.here.now.file.now [] c.args.state (beginning c.args.text.now) held) c.end.result c.end.ensures.unfailed

pub enter-returns-in_default-clause-asks : goal.enter-returns-in_default-clause-asks
enter-returns-in_default-clause-asks g t c =
    λ held told. unblamed (λ path. IsSomeAnd c.args.got (λ text. NestedAsks c.args.here.now.limits.now held c.args.here.now.more c.args.opening.now.file c.args.state text path)) c.at_line.result c.at_line.ensures.unfailed

pub enter-returns-then-here-eq0-clause-asks : goal.enter-returns-then-here-eq0-clause-asks
enter-returns-then-here-eq0-clause-asks g t c =
    λ held told. unblamed (λ path. IsSomeAnd c.args.got (λ text. NestedAsks c.args.here.now.limits.now held c.args.here.now.more c.args.opening.now.file c.args.state text path)) c.at_line-then-here-eq0.result c.at_line-then-here-eq0.ensures.unfailed

pub enter-returns-in_err-state-clause-asks : goal.enter-returns-in_err-state-clause-asks
enter-returns-in_err-state-clause-asks g t c =
    let fault = c.in_err-state.field-0.0 in
    let p = err_from_is_err_and c.from_residual.result c.from_residual.ensures.1 in
    rw (p.1, p.2) (λ held told. unblamed {A = State} (λ path. IsSomeAnd c.args.got (λ text. NestedAsks c.args.here.now.limits.now held c.args.here.now.more c.args.opening.now.file c.args.state text path)) (Err fault) c.in_err-state.ensures.unfailed)

pub enter-returns-clause-asks : goal.enter-returns-clause-asks
enter-returns-clause-asks g t c =
    let limits = c.args.here.now.limits.now in
    let left = c.args.here.now.more in
    let file = c.args.opening.now.file in
    let text = c.bytes.result.now in
    let state = c.in_ok-state.state in
    let admits = c.in_ok-state.ensures.says (admitted limits text c.args.state) c.admit-admitted.ensures in
    let some : c.args.got ≡ Some text = c.in-Some.is ∙ ap Some (sym c.bytes.ensures) in
    let same : c.bytes-2.result.now ≡ text = c.bytes-2.ensures ∙ sym c.bytes.ensures in
    λ held told. blamed (λ path. asks_from limits (left - 1) file [] state (beginning c.bytes-2.result.now) held path) (λ path. IsSomeAnd c.args.got (λ text. NestedAsks limits held left file c.args.state text path)) c.carry.result (λ path asks. some-and c.args.got text (λ text. NestedAsks limits held left file c.args.state text path) some (asks-inside limits held file c.args.state path left (left - 1) text (grind (arith, c.if-here-eq0.false)) (ok-and (on_line file.path 0 (admitted limits text c.args.state)) state (λ next. asks_from limits (left - 1) file [] next (beginning text) held path) admits (subst (λ t. asks_from limits (left - 1) file [] state (beginning t) held path) same asks)))) (c.carry.ensures.asks held told)

pub open-returns-in_err-got-clause-asks : goal.open-returns-in_err-got-clause-asks
open-returns-in_err-got-clause-asks g t c =
    let limits = c.args.here.now.limits.now in
    let opening = c.args.opening.now in
    let fault = c.in_err-got.field-0.0 in
    let p = err_from_is_err_and c.from_residual.result c.from_residual.ensures.1 in
    rw (p.1, p.2) (λ held told. blamed-fault (λ refused. refused ≡ opening.file.path) (OpeningAsks (NestedAsks limits held c.args.here.now.more) held opening c.args.state) fault (λ path is. inl is) c.in_err-got.ensures.asks)

pub open-returns-clause-asks : goal.open-returns-clause-asks
open-returns-clause-asks g t c =
    let limits = c.args.here.now.limits.now in
    let left = c.args.here.now.more in
    let opening = c.args.opening.now in
    let got = c.in_ok-got.got in
    λ held told.
    let X : Option (List ℕ) → List ℕ → Type 0 = λ o path. IsSomeAnd o (λ text. NestedAsks limits held left opening.file c.args.state text path) in
    blamed (X got) (OpeningAsks (NestedAsks limits held left) held opening c.args.state) c.enter.result (λ path asks. inr (asks-taken limits held opening.file c.args.state path left (held opening.file.path) (subst (λ (r : Result (Option (List ℕ)) ReadFault). IfOk r (λ o. X o path)) (sym (c.in_ok-got.ensures.says.answer held told)) asks))) (c.enter.ensures.asks held (c.in_ok-got.ensures.says.kept held told))

pub open_each-returns-in_err-known-clause-asks : goal.open_each-returns-in_err-known-clause-asks
open_each-returns-in_err-known-clause-asks g t c =
    let limits = c.args.here.now.limits.now in
    let left = c.args.here.now.more in
    let file = c.args.here.now.file.now in
    let opens = c.args.opens.now in
    let opening = c.in_ok-opening.opening in
    let at = c.loop-name.name-index in
    let fault = c.in_err-known.field-0.0 in
    let within : at < length opens.names = subst (λ ns. at < length ns) c.as_slice-name-items.ensures c.loop-name-test.true in
    let is : c.name-item.result ≡ get_or opens.names at c.name-item.result = c.name-item.is ∙ ap (λ ns. get_or ns at c.name-item.result) c.as_slice-name-items.ensures in
    let p = err_from_is_err_and c.from_residual-in_err-known.result c.from_residual-in_err-known.ensures.1 in
    rw (p.1, p.2) (λ held told. blamed-fault (OpeningAsks (NestedAsks limits held left) held opening c.loop-name.known) (opened_ask_from limits left file c.args.line opens opens.names c.args.state held) fault (λ path asks. c.loop-name.invariant.1 held told path (asks-one limits left file c.args.line opens opens.names at c.name-item.result opening c.loop-name.known within is c.in_ok-opening.ensures held path asks)) (c.in_err-known.ensures.asks held (c.loop-name.invariant.0.kept held told)))

pub carry-returns-in_err-call-clause-calls : goal.carry-returns-in_err-call-clause-calls
carry-returns-in_err-call-clause-calls g t c =
    let limits = c.args.here.now.limits.now in
    let more = c.args.here.now.more in
    let file = c.args.here.now.file.now in
    let fault = c.in_err-call.field-0.0 in
    let before = g.F.Files.calls c.args.files.now in
    let now = g.F.Files.calls c.calls.files in
    let whole = calls_from limits more file c.new-ifs.result c.args.state c.new-lexer.result in
    let p = err_from_is_err_and c.from_residual.result c.from_residual.ensures.1 in
    rw (p.1, p.2) (λ held told. made-same {A = State} (whole held) (calls_from limits more file [] c.args.state (beginning c.args.text.now) held) before now (Err fault) (calls_from-start limits more file c.new-ifs.result c.args.state c.new-lexer.result c.args.text.now c.new-ifs.ensures c.new-lexer.ensures.place held) (so-far-end {A = State} before now now (whole held) (calls_from limits more file c.calls.ifs c.calls.known c.calls.lexer held) (Err fault) (c.calls.invariant.2 held told) (calls_from-refused limits more file c.calls.ifs c.calls.known c.calls.lexer fault now c.in_err-call.ensures held)))

pub carry-returns-in_err-step-clause-calls : goal.carry-returns-in_err-step-clause-calls
carry-returns-in_err-step-clause-calls g t c =
    let limits = c.args.here.now.limits.now in
    let more = c.args.here.now.more in
    let file = c.args.here.now.file.now in
    let fault = c.in_err-step.field-0.0 in
    let before = g.F.Files.calls c.args.files.now in
    let between = g.F.Files.calls c.calls.files in
    let mid = g.F.Files.calls c.advance.new.files in
    let whole = calls_from limits more file c.new-ifs.result c.args.state c.new-lexer.result in
    let P : Option Call → Type 0 = λ call. IsNextOf file.path c.calls.lexer c.next_call.new.lexer (Ok call) in
    let next = subst P c.in-Some.is c.in_ok-call.ensures in
    let p = err_from_is_err_and c.from_residual-in_err-step.result c.from_residual-in_err-step.ensures.1 in
    rw (p.1, p.2) (λ held told. made-same {A = State} (whole held) (calls_from limits more file [] c.args.state (beginning c.args.text.now) held) before mid (Err fault) (calls_from-start limits more file c.new-ifs.result c.args.state c.new-lexer.result c.args.text.now c.new-ifs.ensures c.new-lexer.ensures.place held) (calls-stopped limits more file c.calls.ifs c.calls.known c.in-Some.call c.calls.lexer c.next_call.new.lexer next held (whole held) before between mid (c.calls.invariant.2 held told) fault (c.in_err-step.ensures.says.answer held (c.calls.invariant.0.kept held told)) c.in_err-step.ensures.calls))

pub carry-returns-in_err-known-clause-calls : goal.carry-returns-in_err-known-clause-calls
carry-returns-in_err-known-clause-calls g t c =
    let limits = c.args.here.now.limits.now in
    let more = c.args.here.now.more in
    let file = c.args.here.now.file.now in
    let fault = c.in_err-known.field-0.0 in
    let before = g.F.Files.calls c.args.files.now in
    let between = g.F.Files.calls c.calls.files in
    let mid = g.F.Files.calls c.advance.new.files in
    let now = g.F.Files.calls c.open_each.new.files in
    let whole = calls_from limits more file c.new-ifs.result c.args.state c.new-lexer.result in
    let P : Option Call → Type 0 = λ call. IsNextOf file.path c.calls.lexer c.next_call.new.lexer (Ok call) in
    let next = subst P c.in-Some.is c.in_ok-call.ensures in
    let p = err_from_is_err_and c.from_residual-in_err-known.result c.from_residual-in_err-known.ensures.1 in
    rw (p.1, p.2) (λ held told.
    let so_far = c.calls.invariant.0.kept held told in
    let kept = c.in_ok-step.ensures.says.kept held so_far in
    made-same {A = State} (whole held) (calls_from limits more file [] c.args.state (beginning c.args.text.now) held) before now (Err fault) (calls_from-start limits more file c.new-ifs.result c.args.state c.new-lexer.result c.args.text.now c.new-ifs.ensures c.new-lexer.ensures.place held) (calls-stopped-in limits more file c.calls.ifs c.calls.known c.in-Some.call c.calls.lexer c.next_call.new.lexer next held (whole held) before between mid (c.calls.invariant.2 held told) now c.in_ok-step.step (c.in_ok-step.ensures.says.answer held so_far) c.in_ok-step.ensures.calls fault (c.in_err-known.ensures.says.answer held kept) (c.in_err-known.ensures.calls held kept)))

pub carry-returns-clause-calls : goal.carry-returns-clause-calls
carry-returns-clause-calls g t c =
    let limits = c.args.here.now.limits.now in
    let more = c.args.here.now.more in
    let file = c.args.here.now.file.now in
    let before = g.F.Files.calls c.args.files.now in
    let now = g.F.Files.calls c.calls.files in
    let whole = calls_from limits more file c.new-ifs.result c.args.state c.new-lexer.result in
    let rest = calls_from limits more file c.calls.ifs c.calls.known c.calls.lexer in
    let P : Option Call → Type 0 = λ call. IsNextOf file.path c.calls.lexer c.next_call.new.lexer (Ok call) in
    let next = subst P c.in_default.is c.in_ok-call.ensures in
    λ held told. made-same (whole held) (calls_from limits more file [] c.args.state (beginning c.args.text.now) held) before now c.end.result (calls_from-start limits more file c.new-ifs.result c.args.state c.new-lexer.result c.args.text.now c.new-ifs.ensures c.new-lexer.ensures.place held) (so-far-end before now now (whole held) (rest held) c.end.result (c.calls.invariant.2 held told) (made-same [] (rest held) now now c.end.result (sym (calls_from-end limits more file c.calls.ifs c.calls.known c.calls.lexer c.next_call.new.lexer next held)) (still now c.end.result c.end.ensures.unfailed)))

pub enter-returns-in_default-clause-calls : goal.enter-returns-in_default-clause-calls
enter-returns-in_default-clause-calls g t c =
    let told = g.F.Files.calls c.args.files.now in
    λ held tells.
    let calls : Option (List ℕ) → List FileCall = held_calls (nested_calls c.args.here.now.limits.now held c.args.here.now.more) c.args.opening.now.file c.args.state in
    made-same [] (calls c.args.got) told told c.at_line.result (sym (ap calls c.in_default.is)) (still told c.at_line.result c.at_line.ensures.unfailed)

pub enter-returns-then-here-eq0-clause-calls : goal.enter-returns-then-here-eq0-clause-calls
enter-returns-then-here-eq0-clause-calls g t c =
    let limits = c.args.here.now.limits.now in
    let left = c.args.here.now.more in
    let file = c.args.opening.now.file in
    let told = g.F.Files.calls c.args.files.now in
    λ held tells.
    let calls : Option (List ℕ) → List FileCall = held_calls (nested_calls limits held left) file c.args.state in
    made-same [] (calls c.args.got) told told c.at_line-then-here-eq0.result (sym (ap calls c.in-Some.is ∙ calls-none limits held file c.args.state left c.in-Some.text c.if-here-eq0.true)) (still told c.at_line-then-here-eq0.result c.at_line-then-here-eq0.ensures.unfailed)

pub enter-returns-in_err-state-clause-calls : goal.enter-returns-in_err-state-clause-calls
enter-returns-in_err-state-clause-calls g t c =
    let limits = c.args.here.now.limits.now in
    let left = c.args.here.now.more in
    let file = c.args.opening.now.file in
    let text = c.bytes.result.now in
    let fault = c.in_err-state.field-0.0 in
    let told = g.F.Files.calls c.args.files.now in
    let says : Result State ReadFault = on_line file.path 0 (admitted limits text c.args.state) in
    let p = err_from_is_err_and c.from_residual.result c.from_residual.ensures.1 in
    rw (p.1, p.2) (λ held tells.
    let rest : State → List FileCall = λ next. calls_from limits (left - 1) file [] next (beginning text) held in
    made-same {A = State} (calls_behind says rest) (held_calls (nested_calls limits held left) file c.args.state c.args.got) told told (Err fault) (calls-entered limits held left (left - 1) file c.args.state c.args.got text (grind (arith, c.if-here-eq0.false)) (c.in-Some.is ∙ ap Some (sym c.bytes.ensures))) (made-stopped {A = State} (State) says rest [] told told fault (c.in_err-state.ensures.says (admitted limits text c.args.state) c.admit-admitted.ensures) (still {A = State} told (Err fault) c.in_err-state.ensures.unfailed)))

pub enter-returns-clause-calls : goal.enter-returns-clause-calls
enter-returns-clause-calls g t c =
    let limits = c.args.here.now.limits.now in
    let left = c.args.here.now.more in
    let file = c.args.opening.now.file in
    let text = c.bytes.result.now in
    let state = c.in_ok-state.state in
    let before = g.F.Files.calls c.args.files.now in
    let now = g.F.Files.calls c.carry.new.files in
    let says : Result State ReadFault = on_line file.path 0 (admitted limits text c.args.state) in
    let same : c.bytes-2.result.now ≡ text = c.bytes-2.ensures ∙ sym c.bytes.ensures in
    λ held tells.
    let rest : State → List FileCall = λ next. calls_from limits (left - 1) file [] next (beginning text) held in
    let carried = subst (λ (text : List ℕ). MakesCalls (calls_from limits (left - 1) file [] state (beginning text) held) before now c.carry.result) same (c.carry.ensures.calls held tells) in
    made-same (calls_behind says rest) (held_calls (nested_calls limits held left) file c.args.state c.args.got) before now c.carry.result (calls-entered limits held left (left - 1) file c.args.state c.args.got text (grind (arith, c.if-here-eq0.false)) (c.in-Some.is ∙ ap Some (sym c.bytes.ensures))) (made-then {A = State} says rest [] before before now state c.carry.result (c.in_ok-state.ensures.says (admitted limits text c.args.state) c.admit-admitted.ensures) (still {A = State} before (Ok state) tt) carried)

pub open-returns-in_err-got-clause-calls : goal.open-returns-in_err-got-clause-calls
open-returns-in_err-got-clause-calls g t c =
    let limits = c.args.here.now.limits.now in
    let left = c.args.here.now.more in
    let opening = c.args.opening.now in
    let fault = c.in_err-got.field-0.0 in
    let before = g.F.Files.calls c.args.files.now in
    let now = g.F.Files.calls c.fetch.new.files in
    let p = err_from_is_err_and c.from_residual.result c.from_residual.ensures.1 in
    rw (p.1, p.2) (λ held tells.
    let says : Result (Option (List ℕ)) ReadFault = Ok (option_map (take (limits.file_bytes + 1)) (held opening.file.path)) in
    let rest : Option (List ℕ) → List FileCall = held_calls (nested_calls limits held left) opening.file c.args.state in
    made-same {A = State} (Read opening.file.path limits.file_bytes ∷ calls_behind says rest) (Read opening.file.path limits.file_bytes ∷ rest (held opening.file.path)) before now (Err fault) (ap (λ (calls : List FileCall). Read opening.file.path limits.file_bytes ∷ calls) (calls-taken limits held opening.file c.args.state left (held opening.file.path))) (made-stopped {A = Option (List ℕ)} (State) says rest (Read opening.file.path limits.file_bytes ∷ []) before now fault (c.in_err-got.ensures.says.answer held tells) c.in_err-got.ensures.calls))

pub open-returns-clause-calls : goal.open-returns-clause-calls
open-returns-clause-calls g t c =
    let limits = c.args.here.now.limits.now in
    let left = c.args.here.now.more in
    let opening = c.args.opening.now in
    let got = c.in_ok-got.got in
    let before = g.F.Files.calls c.args.files.now in
    let between = g.F.Files.calls c.fetch.new.files in
    let now = g.F.Files.calls c.enter.new.files in
    λ held tells.
    let says : Result (Option (List ℕ)) ReadFault = Ok (option_map (take (limits.file_bytes + 1)) (held opening.file.path)) in
    let rest : Option (List ℕ) → List FileCall = held_calls (nested_calls limits held left) opening.file c.args.state in
    made-same (Read opening.file.path limits.file_bytes ∷ calls_behind says rest) (Read opening.file.path limits.file_bytes ∷ rest (held opening.file.path)) before now c.enter.result (ap (λ (calls : List FileCall). Read opening.file.path limits.file_bytes ∷ calls) (calls-taken limits held opening.file c.args.state left (held opening.file.path))) (made-then {A = Option (List ℕ)} says rest (Read opening.file.path limits.file_bytes ∷ []) before between now got c.enter.result (c.in_ok-got.ensures.says.answer held tells) c.in_ok-got.ensures.calls (c.enter.ensures.calls held (c.in_ok-got.ensures.says.kept held tells)))

pub open_each-returns-in_err-opening-clause-calls : goal.open_each-returns-in_err-opening-clause-calls
open_each-returns-in_err-opening-clause-calls g t c =
    let limits = c.args.here.now.limits.now in
    let left = c.args.here.now.more in
    let file = c.args.here.now.file.now in
    let opens = c.args.opens.now in
    let before = g.F.Files.calls c.args.files.now in
    let now = g.F.Files.calls c.loop-name.files in
    let p = err_from_is_err_and c.from_residual.result c.from_residual.ensures.1 in
    rw (p.1, p.2) (λ held told.
    let rest = opened_calls_from limits left file c.args.line opens (drop c.loop-name.name-index opens.names) c.loop-name.known held in
    so-far-end {A = State} before now now (opened_calls_from limits left file c.args.line opens opens.names c.args.state held) rest (Err NoMemory) (c.loop-name.invariant.2 held told) (wanting (State) rest now))

pub open_each-returns-in_err-known-clause-calls : goal.open_each-returns-in_err-known-clause-calls
open_each-returns-in_err-known-clause-calls g t c =
    let limits = c.args.here.now.limits.now in
    let left = c.args.here.now.more in
    let file = c.args.here.now.file.now in
    let opens = c.args.opens.now in
    let opening = c.in_ok-opening.opening in
    let at = c.loop-name.name-index in
    let fault = c.in_err-known.field-0.0 in
    let within : at < length opens.names = subst (λ ns. at < length ns) c.as_slice-name-items.ensures c.loop-name-test.true in
    let is : c.name-item.result ≡ get_or opens.names at c.name-item.result = c.name-item.is ∙ ap (λ ns. get_or ns at c.name-item.result) c.as_slice-name-items.ensures in
    let p = err_from_is_err_and c.from_residual-in_err-known.result c.from_residual-in_err-known.ensures.1 in
    rw (p.1, p.2) (λ held told.
    let kept = c.loop-name.invariant.0.kept held told in
    calls-one-stopped limits left file c.args.line opens opens.names at c.name-item.result opening c.loop-name.known within is c.in_ok-opening.ensures held (opened_calls_from limits left file c.args.line opens opens.names c.args.state held) (g.F.Files.calls c.args.files.now) (g.F.Files.calls c.loop-name.files) (g.F.Files.calls c.open.new.files) (c.loop-name.invariant.2 held told) fault (c.in_err-known.ensures.says.answer held kept) (c.in_err-known.ensures.calls held kept))

pub open_each-returns-clause-calls : goal.open_each-returns-clause-calls
open_each-returns-clause-calls g t c =
    let limits = c.args.here.now.limits.now in
    let left = c.args.here.now.more in
    let file = c.args.here.now.file.now in
    let opens = c.args.opens.now in
    let at = c.loop-name.name-index in
    let known = c.loop-name.known in
    let before = g.F.Files.calls c.args.files.now in
    let now = g.F.Files.calls c.loop-name.files in
    let past : length opens.names ≤ at = subst (λ ns. length ns ≤ at) c.as_slice-name-items.ensures c.loop-name-test.false in
    λ held told.
    let rest = opened_calls_from limits left file c.args.line opens (drop at opens.names) known held in
    so-far-end {A = State} before now now (opened_calls_from limits left file c.args.line opens opens.names c.args.state held) rest (Ok known) (c.loop-name.invariant.2 held told) (made-same {A = State} [] rest now now (Ok known) (sym (opened-calls-all limits left file c.args.line opens opens.names at known past held)) (still {A = State} now (Ok known) tt))
