use Rattle.std.proofs.Common.{rules, arith, ◌≡◌, ◌+◌, ◌∙◌, sym, List}
use Rattle.std.specs.List.{count_by}
use Rattle.std.specs.Ordering.{is_lt, is_le}
use Rattle.std.proofs.lemmas.List.Sorted.{IsPartitionPoint-from_clause}
use Rattle.ghcn_files.specs.declared.station.StationId.{StationId}
use Rattle.ghcn_files.specs.Meaning.Ids.{same_id}
use Rattle.rank_papers.proofs.StationRows.{beside, less_first, most_first, counted-between, gap-none}
use Rattle.rank_papers.proofs.station_rows.count.Goals as goal

-- no more come before the ID than aren't after it
pub overflow_sub-result : goal.overflow_sub-result
overflow_sub-result c =
    let ids : List StationId = c.args.ids.now in
    let id : StationId = c.args.id.now in
    let between : c.partition_point-through.result
    ≡ c.partition_point-before.result + count_by (λ i. same_id i id) ids =
    counted-between id ids _ _ c.partition_point-before.ensures.bound c.partition_point-through.ensures.bound
    (IsPartitionPoint-from_clause (λ i. is_lt (beside id i)) ids _ c.partition_point-before.ensures.partitioned
    (less_first id ids c.requires) (λ a r q k. search rules))
    (IsPartitionPoint-from_clause (λ i. is_le (beside id i)) ids _ c.partition_point-through.ensures.partitioned
    (most_first id ids c.requires) (λ a r q k. search rules)) in
    omega (arith, between)

-- those between the two points are the ID's
pub returns : goal.returns
returns c =
    let ids : List StationId = c.args.ids.now in
    let id : StationId = c.args.id.now in
    let between : c.partition_point-through.result
    ≡ c.partition_point-before.result + count_by (λ i. same_id i id) ids =
    counted-between id ids _ _ c.partition_point-before.ensures.bound c.partition_point-through.ensures.bound
    (IsPartitionPoint-from_clause (λ i. is_lt (beside id i)) ids _ c.partition_point-before.ensures.partitioned
    (less_first id ids c.requires) (λ a r q k. search rules))
    (IsPartitionPoint-from_clause (λ i. is_le (beside id i)) ids _ c.partition_point-through.ensures.partitioned
    (most_first id ids c.requires) (λ a r q k. search rules)) in
    omega (arith, between)

-- in a gap there is none
pub returns-then-is_gap : goal.returns-then-is_gap
returns-then-is_gap c =
    sym (gap-none c.args.id.now c.args.ids.now c.requires c.args.place (sym c.is_gap.ensures ∙ c.if-is_gap.true))
