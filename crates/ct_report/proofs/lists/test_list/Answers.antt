use Rattle.std.proofs.Common.{rules, ◌≡◌, ◌∷◌, [], ℕ, List, Err, Ok, map, codes, subst}
use Rattle.ct_base.specs.Outside.{Puts, PutsEach}
use Rattle.ct_report.specs.Lists.{enabled_count, test_entry, total_line}
use Rattle.ct_report.specs.PutLines.{PutsLines}
use Rattle.ct_report.specs.Report.{project_line, text_of}
use Rattle.ct_report.proofs.ListLemmas.{ending-put, heading-fails, middle-fails}
use Rattle.ct_report.proofs.PutLemmas.{one_line}
use Rattle.ct_report.proofs.lists.test_list.Goals as goal

pub returns-in_err-put-clause-text : goal.returns-in_err-put-clause-text
returns-in_err-put-clause-text g c =
    let old = g.S.Sink.tells c.args.sink.now in
    let one = g.S.Sink.tells c.put.new.self in
    let heading = project_line c.args.dir.now in
    let middle = map test_entry c.args.tests.now in
    let ending = codes "\n" ∷ total_line (enabled_count c.args.tests.now) ∷ [] in
    let named : c.bytes.result.now ≡ heading = search rules in
    let fault = c.in_err-put.field-0.0 in
    let gave : c.from_residual-in_err-put.result ≡ Err fault = search rules in
    let first = one_line old one heading (Err fault) (subst (λ (t : List ℕ). Puts t old one (Err fault)) named c.in_err-put.ensures.puts) (subst (λ (t : List ℕ). PutsEach (t ∷ []) old one (Err fault)) named c.in_err-put.ensures.each) in
    rw gave ((heading-fails heading middle ending old one fault first).bytes)

pub returns-in_err-put-clause-each : goal.returns-in_err-put-clause-each
returns-in_err-put-clause-each g c =
    let old = g.S.Sink.tells c.args.sink.now in
    let one = g.S.Sink.tells c.put.new.self in
    let heading = project_line c.args.dir.now in
    let middle = map test_entry c.args.tests.now in
    let ending = codes "\n" ∷ total_line (enabled_count c.args.tests.now) ∷ [] in
    let named : c.bytes.result.now ≡ heading = search rules in
    let fault = c.in_err-put.field-0.0 in
    let gave : c.from_residual-in_err-put.result ≡ Err fault = search rules in
    let first = one_line old one heading (Err fault) (subst (λ (t : List ℕ). Puts t old one (Err fault)) named c.in_err-put.ensures.puts) (subst (λ (t : List ℕ). PutsEach (t ∷ []) old one (Err fault)) named c.in_err-put.ensures.each) in
    rw gave ((heading-fails heading middle ending old one fault first).each)

pub returns-in_err-put_tests-clause-text : goal.returns-in_err-put_tests-clause-text
returns-in_err-put_tests-clause-text g c =
    let old = g.S.Sink.tells c.args.sink.now in
    let one = g.S.Sink.tells c.put.new.self in
    let heading = project_line c.args.dir.now in
    let middle = map test_entry c.args.tests.now in
    let ending = codes "\n" ∷ total_line (enabled_count c.args.tests.now) ∷ [] in
    let named : c.bytes.result.now ≡ heading = search rules in
    let two = g.S.Sink.tells c.put_tests.new.sink in
    let fault = c.in_err-put_tests.field-0.0 in
    let gave : c.from_residual-in_err-put_tests.result ≡ Err fault = search rules in
    let first = one_line old one heading (Ok tt) (subst (λ (t : List ℕ). Puts t old one (Ok tt)) named c.in_ok-put.ensures.puts) (subst (λ (t : List ℕ). PutsEach (t ∷ []) old one (Ok tt)) named c.in_ok-put.ensures.each) in
    rw gave ((middle-fails heading middle ending old one two fault first (record { bytes = c.in_err-put_tests.ensures.text; each = c.in_err-put_tests.ensures.each })).bytes)

pub returns-in_err-put_tests-clause-each : goal.returns-in_err-put_tests-clause-each
returns-in_err-put_tests-clause-each g c =
    let old = g.S.Sink.tells c.args.sink.now in
    let one = g.S.Sink.tells c.put.new.self in
    let heading = project_line c.args.dir.now in
    let middle = map test_entry c.args.tests.now in
    let ending = codes "\n" ∷ total_line (enabled_count c.args.tests.now) ∷ [] in
    let named : c.bytes.result.now ≡ heading = search rules in
    let two = g.S.Sink.tells c.put_tests.new.sink in
    let fault = c.in_err-put_tests.field-0.0 in
    let gave : c.from_residual-in_err-put_tests.result ≡ Err fault = search rules in
    let first = one_line old one heading (Ok tt) (subst (λ (t : List ℕ). Puts t old one (Ok tt)) named c.in_ok-put.ensures.puts) (subst (λ (t : List ℕ). PutsEach (t ∷ []) old one (Ok tt)) named c.in_ok-put.ensures.each) in
    rw gave ((middle-fails heading middle ending old one two fault first (record { bytes = c.in_err-put_tests.ensures.text; each = c.in_err-put_tests.ensures.each })).each)

pub returns-clause-text : goal.returns-clause-text
returns-clause-text g c =
    let old = g.S.Sink.tells c.args.sink.now in
    let one = g.S.Sink.tells c.put.new.self in
    let heading = project_line c.args.dir.now in
    let middle = map test_entry c.args.tests.now in
    let ending = codes "\n" ∷ total_line (enabled_count c.args.tests.now) ∷ [] in
    let named : c.bytes.result.now ≡ heading = search rules in
    let two = g.S.Sink.tells c.put_tests.new.sink in
    let new = g.S.Sink.tells c.put_total.new.sink in
    let first = one_line old one heading (Ok tt) (subst (λ (t : List ℕ). Puts t old one (Ok tt)) named c.in_ok-put.ensures.puts) (subst (λ (t : List ℕ). PutsEach (t ∷ []) old one (Ok tt)) named c.in_ok-put.ensures.each) in
    let second : PutsLines middle one two (Ok tt) = record { bytes = c.in_ok-put_tests.ensures.text; each = c.in_ok-put_tests.ensures.each } in
    let total : c.bytes-2.result.now ≡ total_line (enabled_count c.args.tests.now) = search rules in
    let third : PutsLines ending two new c.put_total.result = record {
      bytes = subst (λ (t : List ℕ). Puts (text_of (codes "\n" ∷ t ∷ [])) two new c.put_total.result) total c.put_total.ensures.text;
      each = subst (λ (t : List ℕ). PutsEach (codes "\n" ∷ t ∷ []) two new c.put_total.result) total c.put_total.ensures.each;
    } in
    (ending-put heading middle ending old one two new c.put_total.result first second third).bytes

pub returns-clause-each : goal.returns-clause-each
returns-clause-each g c =
    let old = g.S.Sink.tells c.args.sink.now in
    let one = g.S.Sink.tells c.put.new.self in
    let heading = project_line c.args.dir.now in
    let middle = map test_entry c.args.tests.now in
    let ending = codes "\n" ∷ total_line (enabled_count c.args.tests.now) ∷ [] in
    let named : c.bytes.result.now ≡ heading = search rules in
    let two = g.S.Sink.tells c.put_tests.new.sink in
    let new = g.S.Sink.tells c.put_total.new.sink in
    let first = one_line old one heading (Ok tt) (subst (λ (t : List ℕ). Puts t old one (Ok tt)) named c.in_ok-put.ensures.puts) (subst (λ (t : List ℕ). PutsEach (t ∷ []) old one (Ok tt)) named c.in_ok-put.ensures.each) in
    let second : PutsLines middle one two (Ok tt) = record { bytes = c.in_ok-put_tests.ensures.text; each = c.in_ok-put_tests.ensures.each } in
    let total : c.bytes-2.result.now ≡ total_line (enabled_count c.args.tests.now) = search rules in
    let third : PutsLines ending two new c.put_total.result = record {
      bytes = subst (λ (t : List ℕ). Puts (text_of (codes "\n" ∷ t ∷ [])) two new c.put_total.result) total c.put_total.ensures.text;
      each = subst (λ (t : List ℕ). PutsEach (codes "\n" ∷ t ∷ []) two new c.put_total.result) total c.put_total.ensures.each;
    } in
    (ending-put heading middle ending old one two new c.put_total.result first second third).each
