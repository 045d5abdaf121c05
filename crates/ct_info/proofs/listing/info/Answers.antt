use Rattle.std.proofs.Common.{rules, ◌≡◌, ◌<◌, ◌^◌, ◌++◌, ◌∙◌, IsUtf8, ap, false, length, refl, subst}
use Rattle.json.proofs.Printed.Utf8.{IsUtf8-are_ascii}
use Rattle.serde_json.specs.Read.{read}
use Rattle.serde_json.specs.View.{items_of}
use Rattle.serde_json.specs.Written.{items_text}
use Rattle.ct_info.specs.Info.{test_values}
use Rattle.ct_info.specs.Text.{shown}
use Rattle.ct_info.proofs.InfoLemmas.{back, front, line_is, line_reads}
use Rattle.ct_info.proofs.Utf8Lemmas.{more_utf8}
use Rattle.ct_info.proofs.listing.info.Goals as goal

pub returns-clause-text : goal.returns-clause-text
returns-clause-text c =
    let put : c.append.new.self ≡ (front ++ items_text false (items_of (test_values (shown c.args.config.now) c.args.defs.now c.args.members.now))) ++ back = search rules in
    put ∙ line_is c.args.defs.now c.args.members.now c.args.config.now

pub returns-clause-utf8 : goal.returns-clause-utf8
returns-clause-utf8 c =
    let tests = items_text false (items_of (test_values (shown c.args.config.now) c.args.defs.now c.args.members.now)) in
    let put : c.append.new.self ≡ (front ++ tests) ++ back = search rules in
    let begun : IsUtf8 front = IsUtf8-are_ascii front refl in
    let told : IsUtf8 (front ++ tests) = subst IsUtf8 (search rules) (c.in_ok-put_tests.ensures.utf8 (subst IsUtf8 (search rules) begun)) in
    more_utf8 (front ++ tests) back c.append.new.self put refl told

pub returns-clause-reads : goal.returns-clause-reads
returns-clause-reads c =
    let put : c.append.new.self ≡ (front ++ items_text false (items_of (test_values (shown c.args.config.now) c.args.defs.now c.args.members.now))) ++ back = search rules in
    let few : length c.args.defs.now < 2 ^ 64 = search rules in
    ap read (put ∙ line_is c.args.defs.now c.args.members.now c.args.config.now) ∙ line_reads c.args.defs.now c.args.members.now c.args.config.now few
