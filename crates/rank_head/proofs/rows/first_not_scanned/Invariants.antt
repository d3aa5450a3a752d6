use Rattle.std.proofs.Common.{◌≡◌, true, map}
use Rattle.std.specs.List.{AllWithin}
use Rattle.rank_papers.specs.declared.paper.Row.{Row}
use Rattle.rank_papers.specs.Certificate.{count_of}
use Rattle.rank_head.specs.HeadTests.{is_scanned}
use Rattle.rank_head.proofs.Tallies.{first_candidates}
use Rattle.rank_head.proofs.rows.first_not_scanned.Given as goal

-- the rows so far belong to series that were scanned, and are counted
abbrev pub invariant-loop-place : goal.invariant-loop-place
invariant-loop-place l = record {
  scanned : AllWithin (λ (row : Row). is_scanned l.lines row.candidate.id ≡ true) l.rows 0 l.place;
  counted : l.counts ≡ map (count_of (first_candidates l.place l.rows)) l.lines;
}
