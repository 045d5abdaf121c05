use Rattle.std.proofs.Common.{rules, ltb}
use Rattle.std.proofs.lemmas.List.Sorted.{IsPartitionPoint-from_clause, IsPartitionedBy-ltb}
use Rattle.ct_trees.specs.declared.tree_parts.Span.{Span}
use Rattle.ct_trees.specs.Spans.{last_of_span}
use Rattle.ct_trees.proofs.SpanLemmas.{ends_rise}
use Rattle.ct_trees.proofs.tree_parts.place_of.Goals as goal

pub returns : goal.returns
returns c =
    let spans = c.args.spans.now in
    let parted = IsPartitionedBy-ltb (λ (span : Span). last_of_span span) spans c.args.test (ends_rise 0 spans c.requires) in
    IsPartitionPoint-from_clause (λ (span : Span). ltb (last_of_span span) c.args.test) spans c.partition_point.result c.partition_point.ensures.partitioned parted (λ a r q k. search rules)
