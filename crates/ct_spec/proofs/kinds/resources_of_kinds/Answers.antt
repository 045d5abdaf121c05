use Rattle.std.proofs.Common.{rules, ◌≡◌, ◌∙◌, [], sym, ap, Ok, append-nil}
use Rattle.serde_json.specs.View.{members_view}
use Rattle.ct_spec.specs.Specification.{resources_of_kinds}
use Rattle.ct_spec.proofs.ReadLemmas.{none_behind, with_kinds}
use Rattle.ct_spec.proofs.ApartLemmas.{kinds_apart}
use Rattle.ct_spec.proofs.kinds.resources_of_kinds.Goals as goal

pub returns-clause-distinct : goal.returns-clause-distinct
returns-clause-distinct c =
    let kinds = c.args.kinds.now.entries in
    let resources = c.loop-kind.resources in
    let all : c.into_iter-kind-iterator.result ≡ kinds = search rules in
    let said : resources_of_kinds (members_view kinds) ≡ Ok resources =
    sym (none_behind (resources_of_kinds (members_view kinds)))
    ∙ sym (ap (with_kinds []) all)
    ∙ sym c.loop-kind.invariant
    ∙ ap (with_kinds resources) c.in-None.ensures.steps.0
    ∙ ap Ok (append-nil resources) in
    kinds_apart kinds c.iter-kind-items.ensures.ordered resources said
