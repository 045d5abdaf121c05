use Rattle.std.proofs.Common.{◌≡◌, ◌∙◌, ◌<◌, ◌≤◌, refl, subst, ℕ, length, take, arith}
use Rattle.ct_history.specs.Parts.{entry_of_part}
use Rattle.ct_trees.specs.Spans.{IsSpanPlace}
use Rattle.ct_trees.proofs.SpanLemmas.{as_many, no_span, put_there}
use Rattle.ct_trees.proofs.tree_parts.add_entry.Goals as goal

pub returns-in_ok-add_to : goal.returns-in_ok-add_to
returns-in_ok-add_to c =
    let spans = c.args.spans.now in
    let parts = c.args.parts.now.items in
    let place = c.place_of-place.result in
    let entry = c.index-entries-at.result in
    let span = c.span_at.result.now in
    let here = subst (λ (n : ℕ). IsSpanPlace n spans place) c.test_of.ensures c.place_of-place.ensures in
    let there : place < length spans = c.if-place-spans.true in
    let many : length parts ≡ length spans = as_many spans parts (take c.args.at c.args.entries.now) c.requires.earlier in
    let inside : place < length parts = omega (arith, there, many) in
    put_there spans place entry c.args.entries.now c.args.at c.requires.follow here c.requires.there c.index-entries-at.is
    span there c.span_at.ensures
    parts c.index_mut.result.now c.add_to.new.part (entry_of_part span.offset span.count entry) c.requires.earlier inside c.index_mut.ensures.value c.in_ok-add_to.ensures refl

pub returns-else-place-spans : goal.returns-else-place-spans
returns-else-place-spans c =
    let spans = c.args.spans.now in
    let place = c.place_of-place.result in
    let here = subst (λ (n : ℕ). IsSpanPlace n spans place) c.test_of.ensures c.place_of-place.ensures in
    let past : length spans ≤ place = omega (arith, c.if-place-spans.false) in
    c.requires.earlier ∙ no_span spans place c.index-entries-at.result c.args.entries.now c.args.at c.requires.follow here c.requires.there c.index-entries-at.is past
