use Rattle.std.proofs.Common.{rules, ◌≡◌, ◌++◌, codes, refl}
use Rattle.ct_info.proofs.Utf8Lemmas.{more_utf8}
use Rattle.ct_info.proofs.entry.put_tests.Goals as goal

pub returns-clause-utf8 : goal.returns-clause-utf8
returns-clause-utf8 c was =
    let put : c.append.new.self ≡ c.loop-number.text ++ codes "]" = search rules in
    more_utf8 c.loop-number.text (codes "]") c.append.new.self put refl (c.loop-number.invariant.1 was)
