use Rattle.ghcn_series.proofs.JoinedFiles.{facts_joined}
use Rattle.ghcn_series.proofs.JoinedSeries.{series_of_parts}
use Rattle.rank_scores.proofs.CutMorsels.{morsels_of_parts}
use Rattle.rank_scores.proofs.CutParts.{cut_by_files}
use Rattle.rank_scores.proofs.laws.files_in_parts.Goals as goal
use Rattle.std.proofs.Common.{arith, rules}

-- candidates and morsels are those of the parts, and so are facts and series
pub returns : goal.returns
returns c = search (rules, arith, cut_by_files, morsels_of_parts, facts_joined, series_of_parts)
