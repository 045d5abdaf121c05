use Rattle.std.proofs.Common.{rules, ◌≡◌, ◌<◌, ◌^◌, ◌++◌, ◌∙◌, IsUtf8, ap, append_assoc, arith, subst, sym}
use Rattle.std.proofs.lemmas.Str.{IsUtf8-append}
use Rattle.serde_json.specs.View.{view}
use Rattle.serde_json.specs.Written.{comma_if}
use Rattle.ct_info.proofs.InfoLemmas.{test_text}
use Rattle.ct_info.proofs.Utf8Lemmas.{comma_utf8}
use Rattle.ct_info.proofs.entry.put_test.Goals as goal

pub returns-clause-is : goal.returns-clause-is
returns-clause-is c =
    let old = c.args.text.now in
    let comma = comma_if c.args.later in
    let bytes = c.in_ok-written.written.items in
    let put : c.append-2.new.self ≡ (old ++ comma) ++ bytes = search rules in
    let small : c.args.number < 2 ^ 64 = omega (arith, c.ranges.number.fits) in
    let one = test_text c.args.config.now c.args.number c.args.def.now small (view c.in_ok-value.value) c.in_ok-value.ensures bytes c.in_ok-written.ensures.text in
    put ∙ append_assoc old comma bytes ∙ ap (λ b. old ++ (comma ++ b)) one

pub returns-clause-utf8 : goal.returns-clause-utf8
returns-clause-utf8 c was =
    let old = c.args.text.now in
    let comma = comma_if c.args.later in
    let bytes = c.in_ok-written.written.items in
    let put : c.append-2.new.self ≡ (old ++ comma) ++ bytes = search rules in
    subst IsUtf8 (sym put) (IsUtf8-append (old ++ comma) bytes (IsUtf8-append old comma was (comma_utf8 c.args.later)) c.in_ok-written.ensures.utf8)
