use Rattle.ghcn_series.proofs.Cited.{rules, ℤ, w32, ◌∙◌, ◌≡◌, int_lt, to_z-of_z}
use Rattle.std.specs.Prelude.{slice_get}
use Rattle.std.proofs.lemmas.List.Sorted.{IsPartitionPoint-from_clause}
use Rattle.ghcn_series.proofs.Nexts.{found-at_partition}
use Rattle.ghcn_series.proofs.Searches.{parted-by_rise, got-is}
use Rattle.ghcn_series.proofs.columns.first_from.Goals as goal

-- the number at the partition point is the first from there on
pub returns : goal.returns
returns c =
    let b : ℤ = c.args.number in let same = to_z-of_z w32 b c.ranges.number in
    let parted = IsPartitionPoint-from_clause (λ (n : ℤ). int_lt n b) c.args.numbers.now c.partition_point-at.result
    c.partition_point-at.ensures.partitioned (parted-by_rise c.args.numbers.now c.requires b)
    (λ a r f called. search (rules, same)) in
    let got : c.copied.result ≡ slice_get c.args.numbers.now c.partition_point-at.result = c.copied.ensures
    ∙ got-is c.args.numbers.now c.partition_point-at.result c.get.result c.get.ensures.lookup.3 in
    got ∙ found-at_partition b c.args.numbers.now c.partition_point-at.result parted
