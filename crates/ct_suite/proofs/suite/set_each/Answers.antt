use Rattle.std.proofs.Common.{◌<◌, ◌∙◌, Some, map, ap, sym, subst, vec_len}
use Rattle.std.proofs.lemmas.List.Elements.{All-pop}
use Rattle.ct_suite.specs.Tests.{taking_props}
use Rattle.ct_suite.specs.Entries.{changed, changed_at, def_of}
use Rattle.ct_suite.proofs.PlaceLemmas.{changed_at-last}
use Rattle.ct_suite.proofs.suite.set_each.Goals as goal

pub copy_each-requires : goal.copy_each-requires
copy_each-requires c =
    (All-pop (λ place. place < vec_len c.args.tests.now) c.args.places.now c.in-Some.front.now (Some c.in-Some.last.now) c.in-Some.ensures.cases.0 c.requires).0

pub set_at-requires : goal.set_at-requires
set_at-requires c =
    subst (λ n. c.in-Some.last.now < n) (sym c.in_ok-copy_each.ensures.len) (All-pop (λ place. place < vec_len c.args.tests.now) c.args.places.now c.in-Some.front.now (Some c.in-Some.last.now) c.in-Some.ensures.cases.0 c.requires).1

pub returns : goal.returns
returns c =
    let change = taking_props c.args.pairs in
    let old = map def_of c.args.tests.now.items in
    c.in_ok-set_at.ensures.is
    ∙ ap (changed change c.in-Some.last.now) (c.in_ok-copy_each.ensures.is ∙ ap (λ pairs. changed_at (taking_props pairs) c.in-Some.front.now old) c.as_slice.ensures)
    ∙ changed_at-last change c.args.places.now c.in-Some.front.now c.in-Some.last.now old c.in-Some.ensures.cases.0
