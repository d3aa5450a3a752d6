use Rattle.std.proofs.Common.{rules, sym, ◌∙◌, not}
use Rattle.std.proofs.lemmas.List.Sorted.{IsPartitionPoint-from_clause}
use Rattle.rank_scores.specs.Meaning.Order.{precedes}
use Rattle.rank_check.proofs.Places.{parted, place-found, place-first}
use Rattle.rank_check.proofs.tally.place_of.Goals as goal

-- what precedes the first mark precedes all
pub returns-then-precedes_all-clause-place : goal.returns-then-precedes_all-clause-place
returns-then-precedes_all-clause-place c =
    place-first c.args.marks.now c.requires c.args.candidate.now (sym c.precedes_all.ensures ∙ c.if-precedes_all.true)

-- the marks that the candidate doesn't precede come before the place
pub returns-clause-place : goal.returns-clause-place
returns-clause-place c =
    let marks = c.args.marks.now in
    let d = c.args.candidate.now in
    place-found marks d c.partition_point.result c.partition_point.ensures.bound
    (IsPartitionPoint-from_clause (λ m. not (precedes d m.candidate)) marks c.partition_point.result
    c.partition_point.ensures.partitioned (parted marks c.requires d) (λ a r q k. search rules))
