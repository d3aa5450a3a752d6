-- What the code has found, and what it means.
use Rattle.std.proofs.Common.{Bor}
use Rattle.std.specs.Prelude.{◌≡◌, ◌≤◌, ℕ, true, List, ◌++◌, map, Option, None, Some, Ok, IfSome}
use Rattle.std.specs.List.{AllByRecursion, count_by}
use Rattle.rank_query.specs.Meaning.Asked.{Query}
use Rattle.rank_scores.specs.declared.candidate.Candidate.{Candidate}
use Rattle.rank_pool.specs.First.{comes_first}
use Rattle.rank_papers.specs.Report.{Named}
use Rattle.rank_papers.specs.ReportLines.{reported_in, named_in}
use Rattle.rank_papers.specs.CertificateLines.{certified_in}
use Rattle.rank_merge.specs.declared.part.Papers.{Papers}
use Rattle.rank_merge.specs.declared.gathering.Gathered.{Gathered}
use Rattle.rank_merge.specs.declared.merging.Merged.{Merged}
use Rattle.rank_merge.specs.Merged.{Part, entries_of_parts, first_rows, merged_rows}
use Rattle.rank_merge.specs.Merging.{Texts, parts_from}

-- the texts of parts that are lent
abbrev pub texts_in : List (Bor (List ℕ) × Bor (List ℕ)) → List Texts
texts_in parts = map (λ p. (p.0.now, p.1.now)) parts

-- the texts of the merged report and certificate
abbrev pub papers_in : Merged → Texts
papers_in m = (m.report.items, m.certificate.items)

-- what a report and a certificate that were read say
abbrev pub part_in : Papers → Part
part_in p = record { report = reported_in p.report; certificate = certified_in p.certificate }

-- ---- what is gathered

-- if there is a candidate, k of these rows come before it or tie with it
abbrev pub IsFloor : ℕ → List Named → Option Candidate → Type 0
IsFloor k rows floor = IfSome floor (λ f. k ≤ count_by (λ r. comes_first r.0 f) rows)

-- some rows without the last of them, each of which a candidate comes before or ties with
pub record IsCutBehind (f : Candidate) (all kept : List Named) : Type 0 where
  pub dropped : List Named
  pub parts : all ≡ kept ++ dropped
  pub behind : AllByRecursion (λ r. comes_first f r.0 ≡ true) dropped

-- some rows without those that were removed after a floor: all of them if there is no floor
abbrev pub IsCut : Option Candidate → List Named → List Named → Type 0
IsCut None all kept = kept ≡ all
IsCut (Some f) all kept = IsCutBehind f all kept

-- the lines of the parts with these texts, one part after the other, and rows whose first k are those of all their rows
pub record AreOfParts (q : Query) (texts : List Texts) (all : Gathered) : Type 0 where
  pub parts : List Part
  pub read : parts_from q 1 texts ≡ Ok parts
  pub rows : first_rows q.k (map named_in all.rows.items) ≡ merged_rows q.k parts
  pub floor : IsFloor q.k (map named_in all.rows.items) all.floor
  pub lines : all.lines.items ≡ entries_of_parts parts
