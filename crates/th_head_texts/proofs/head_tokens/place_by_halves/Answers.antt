use Rattle.std.proofs.Common.{rules, arith}
use Rattle.std.proofs.Math.Dec.{ltb}
use Rattle.std.proofs.lemmas.List.Sorted.{IsPartitionPoint-from_clause, IsPartitionedBy-ltb}
use Rattle.th_head_texts.proofs.Starts.{first_place}
use Rattle.th_head_texts.proofs.head_tokens.place_by_halves.Goals as goal

pub returns : goal.returns
returns c =
    let parted = IsPartitionedBy-ltb (λ t. t.start) c.args.tokens.now c.args.at c.requires in
    let point = IsPartitionPoint-from_clause (λ t. ltb t.start c.args.at) _ _ c.partition_point.ensures.partitioned parted (λ a r q k. search rules) in
    first_place c.args.at c.args.tokens.now c.partition_point.result c.partition_point.ensures.bound
    (λ k d s. point.0 k d (omega arith) s)
    (λ d s. point.1 c.partition_point.result d (omega arith) s)
