use Rattle.std.proofs.Common.{◌≡◌, ap, sym, ◌∙◌, refl, is_some, get_or, arith, Bool, Result, Ok, Err}
use Rattle.ct_base.specs.Outside.{Held}
use Rattle.ct_base.specs.Path.{joined}
use Rattle.ct_regex.specs.Reading as pattern
use Rattle.ct_testfile.specs.Outcome.{on_line}
use Rattle.ct_testfile.specs.Condition.{holds, matched}
use Rattle.ct_testfile.specs.declared.fault.ReadFault.{ReadFault}
use Rattle.ct_testfile.specs.declared.fault.ReadKind.TheVariants.{BadCondition}
use Rattle.ct_testfile.proofs.ConditionLemmas.{holds-exists, holds-matches, holds-neither}
use Rattle.ct_testfile.proofs.OverLemmas.{IsAnswerOf-same, Over-same, Over-still}
use Rattle.ct_testfile.specs.Asks.{NamesPath}
use Rattle.ct_testfile.proofs.AsksLemmas.{blamed, names-second, unblamed}
use Rattle.std.proofs.Common.{[], ◌∷◌}
use Rattle.ct_base.specs.declared.file_call.FileCall.TheVariants.{Exists}
use Rattle.ct_testfile.specs.TreeCalls.{exists_calls}
use Rattle.ct_testfile.proofs.CallsLemmas.{exists-none, exists-one, made-same, still}
use Rattle.ct_testfile.proofs.condition.holds.Goals as goal

pub returns-then-is_exists-clause-says : goal.returns-then-is_exists-clause-says
returns-then-is_exists-clause-says g c =
    let path = c.args.here.now.file.now.path in
    let dir = c.args.here.now.file.now.dir in
    let variables = c.args.table.now in
    let values = c.args.values.now in
    let asks : Held → Result Bool ReadFault = λ held. on_line path c.args.line (holds held dir variables values) in
    let found : Held → Result Bool ReadFault = λ held. Ok (is_some (held (joined dir (get_or values 1 c.index-values-1.result).text))) in
    Over-same (g.F.Files.tells c.args.files.now) (g.F.Files.tells c.exists.new.files) found asks c.exists.result (λ held. sym (ap (on_line path c.args.line) (holds-exists held dir variables values (get_or values 1 c.index-values-1.result) (sym c.is_exists.ensures.is ∙ c.if-is_exists.true) (ap (λ d. get_or values 1 d) c.index-values-1.is)))) c.exists.ensures.says

pub returns-then-is_matches-clause-says : goal.returns-then-is_matches-clause-says
returns-then-is_matches-clause-says g c =
    let path = c.args.here.now.file.now.path in
    let dir = c.args.here.now.file.now.dir in
    let variables = c.args.table.now in
    let values = c.args.values.now in
    let asks : Held → Result Bool ReadFault = λ held. on_line path c.args.line (holds held dir variables values) in
    let found = matched c.subject.result.now (pattern.reading c.bytes.result.now) in
    let same : (held : Held) → found ≡ holds held dir variables values =
    λ held. (λ i. matched (c.subject.ensures i) (pattern.reading (c.bytes.ensures i))) ∙ sym (holds-matches held dir variables values c.index-values-0.result (get_or values 2 c.index-values-2.result) (sym c.is_matches.ensures.is ∙ c.if-is_matches.true) c.index-values-0.is (ap (λ d. get_or values 2 d) c.index-values-2.is)) in
    Over-still (g.F.Files.tells c.args.files.now) asks c.at_line.result c.at_line.ensures.unfailed (λ held. IsAnswerOf-same (on_line path c.args.line found) (asks held) c.at_line.result (ap (on_line path c.args.line) (same held)) (c.at_line.ensures.says found c.matched-found.ensures))

pub returns-clause-says : goal.returns-clause-says
returns-clause-says g c =
    let path = c.args.here.now.file.now.path in
    let dir = c.args.here.now.file.now.dir in
    let variables = c.args.table.now in
    let values = c.args.values.now in
    let asks : Held → Result Bool ReadFault = λ held. on_line path c.args.line (holds held dir variables values) in
    Over-still (g.F.Files.tells c.args.files.now) asks c.at_line-2.result c.at_line-2.ensures.unfailed (λ held. IsAnswerOf-same (on_line path c.args.line (Err BadCondition)) (asks held) c.at_line-2.result (ap (on_line path c.args.line) (sym (holds-neither held dir variables values (sym c.is_exists.ensures.is ∙ c.if-is_exists.false) (sym c.is_matches.ensures.is ∙ c.if-is_matches.false)))) (c.at_line-2.ensures.says (Err BadCondition) refl))

pub bounds-values-1 : goal.bounds-values-1
bounds-values-1 g c = omega (arith, c.is_exists.ensures.two c.if-is_exists.true)

pub bounds-values-0 : goal.bounds-values-0
bounds-values-0 g c = omega (arith, c.is_matches.ensures.three c.if-is_matches.true)

pub bounds-values-2 : goal.bounds-values-2
bounds-values-2 g c = omega (arith, c.is_matches.ensures.three c.if-is_matches.true)

pub returns-then-is_exists-clause-asks : goal.returns-then-is_exists-clause-asks
returns-then-is_exists-clause-asks g c =
    let dir = c.args.here.now.file.now.dir in
    let values = c.args.values.now in
    let name = get_or values 1 c.index-values-1.result in
    blamed (λ path. path ≡ joined dir name.text) (NamesPath dir values) c.exists.result (λ path. names-second dir values name path (sym c.is_exists.ensures.is ∙ c.if-is_exists.true) (ap (λ d. get_or values 1 d) c.index-values-1.is)) c.exists.ensures.asks

pub returns-then-is_matches-clause-asks : goal.returns-then-is_matches-clause-asks
returns-then-is_matches-clause-asks g c =
    unblamed (NamesPath c.args.here.now.file.now.dir c.args.values.now) c.at_line.result c.at_line.ensures.unfailed

pub returns-clause-asks : goal.returns-clause-asks
returns-clause-asks g c =
    unblamed (NamesPath c.args.here.now.file.now.dir c.args.values.now) c.at_line-2.result c.at_line-2.ensures.unfailed

pub returns-then-is_exists-clause-calls : goal.returns-then-is_exists-clause-calls
returns-then-is_exists-clause-calls g c =
    let dir = c.args.here.now.file.now.dir in
    let values = c.args.values.now in
    let name = get_or values 1 c.index-values-1.result in
    made-same (Exists (joined dir name.text) ∷ []) (exists_calls dir values) (g.F.Files.calls c.args.files.now) (g.F.Files.calls c.exists.new.files) c.exists.result (sym (exists-one dir values name (sym c.is_exists.ensures.is ∙ c.if-is_exists.true) (ap (λ d. get_or values 1 d) c.index-values-1.is))) c.exists.ensures.calls

pub returns-then-is_matches-clause-calls : goal.returns-then-is_matches-clause-calls
returns-then-is_matches-clause-calls g c =
    let dir = c.args.here.now.file.now.dir in
    let values = c.args.values.now in
    let told = g.F.Files.calls c.args.files.now in
    made-same [] (exists_calls dir values) told told c.at_line.result (sym (exists-none dir values (sym c.is_exists.ensures.is ∙ c.if-is_exists.false))) (still told c.at_line.result c.at_line.ensures.unfailed)

pub returns-clause-calls : goal.returns-clause-calls
returns-clause-calls g c =
    let dir = c.args.here.now.file.now.dir in
    let values = c.args.values.now in
    let told = g.F.Files.calls c.args.files.now in
    made-same [] (exists_calls dir values) told told c.at_line-2.result (sym (exists-none dir values (sym c.is_exists.ensures.is ∙ c.if-is_exists.false))) (still told c.at_line-2.result c.at_line-2.ensures.unfailed)
