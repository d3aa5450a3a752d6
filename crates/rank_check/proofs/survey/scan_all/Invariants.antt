use Rattle.std.proofs.Common.{◌≡◌, take, map, length}
use Rattle.std.specs.List.{flat_map}
use Rattle.ghcn_series.specs.Says.{in_64_bits}
use Rattle.rank_scores.specs.Candidates.{candidates}
use Rattle.rank_papers.specs.Papers.{candidates_of}
use Rattle.rank_check.specs.Survey.{met, top}
use Rattle.rank_check.proofs.survey.scan_all.Given as goal

-- the series so far were scanned
abbrev pub invariant-loop-series : goal.invariant-loop-series
invariant-loop-series l = record {
  rows : l.tally.rows ≡ map (met (flat_map (candidates l.query) (map (λ s. s.now) (take l.series-index l.all))))
      (candidates_of l.rows);
  count : l.tally.count ≡ in_64_bits (length (flat_map (candidates l.query) (map (λ s. s.now) (take l.series-index
      l.all))));
  tops : l.tops.items ≡ map (top l.query) (map (λ s. s.now) (take l.series-index l.all));
}
