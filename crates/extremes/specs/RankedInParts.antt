-- What is ranked in parts and merged, as a statement for the contract of a public function.
use Rattle.std.specs.Prelude.{◌≡◌, ℕ, List}
use Rattle.std.specs.List.{AllByRecursion}
use Rattle.ghcn_series.specs.SaidLists.{stations_said}
use Rattle.rank_query.specs.Meaning.Asked.{Query}
use Rattle.rank_query.specs.Meaning.Asks.{Asks}
use Rattle.rank_scores.specs.Cut.{Filed}
use Rattle.rank_papers.specs.Meaning.Right.{IsAdmittedSeries}
use Rattle.rank_papers.specs.Right.{IsRightCertificate}
use Rattle.rank_merge.specs.Laws.{all_files, all_texts}
use Rattle.extremes.specs.declared.papers.Papers.{Papers}
use Rattle.extremes.specs.Meaning.Answer.{Answers}
use Rattle.extremes.specs.Answer.{IsFaultless}
use Rattle.extremes.specs.Merges.{AreMerged}

-- the report and the certificate of a part are those that a ranking returns for its files, and for a text that denotes
-- this query, in the part's own spelling
pub record IsRankedPart (asked : Query) (stations : List ℕ) (p : Filed) : Type 0 where
  pub query : List ℕ
  pub asks : Asks query asked
  pub papers : Papers
  pub answer : Answers query stations p.0 papers
  pub faultless : IsFaultless query stations p.0
  pub texts : p.1 ≡ (papers.report.items, papers.certificate.items)

-- what is ranked in parts and merged is ranked: the report is, byte for byte, the one that is returned for all files,
-- and the certificate is right for all files; the query of all files, of each part and of the merging may each be
-- spelt in its own way
abbrev pub MergedIsRanked : Type 0
MergedIsRanked = (query merging stations : List ℕ) (parts : List Filed) (whole merged : Papers)
    (answer : Answers query stations (all_files parts) whole) → IsFaultless query stations (all_files parts)
    → AllByRecursion (IsRankedPart answer.asked stations) parts
    → Asks merging answer.asked → AreMerged merging (all_texts parts) merged
    → (merged.report.items ≡ whole.report.items)
    × IsRightCertificate 2 answer.asked (IsAdmittedSeries answer.asked (stations_said stations) (all_files parts))
    merged.certificate.items
