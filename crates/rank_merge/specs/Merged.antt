-- The report and the certificate of all files, made of what those of their parts say.
use Rattle.std.specs.Prelude.{ℕ, List, take}
use Rattle.std.specs.List.{flat_map}
use Rattle.ghcn_fields.specs.Sorting.{sorted_by}
use Rattle.rank_query.specs.Meaning.Asked.{Query}
use Rattle.rank_scores.specs.Morsels.{id_comes_first}
use Rattle.rank_pool.specs.First.{comes_first}
use Rattle.rank_papers.specs.Report.{Named}
use Rattle.rank_papers.specs.ReportLines.{Reported}
use Rattle.rank_papers.specs.Certificate.{Line, Certified, kth_of_best, counts_of}
use Rattle.rank_papers.specs.Papers.{of_rows}

-- ---- what parts say

-- what the report and the certificate of one part say
pub record Part : Type 0 where
  pub report : Reported
  pub certificate : Certified

-- the rows of all parts, one part after the other
abbrev pub rows_of : List Part → List Named
rows_of ps = flat_map (λ p. p.report.rows) ps

-- the lines of all parts, one part after the other
abbrev pub entries_of_parts : List Part → List Line
entries_of_parts ps = flat_map (λ p. p.certificate.entries) ps

-- ---- in order

-- rows in the order of their candidates
abbrev pub rows_in_order : List Named → List Named
rows_in_order rows = sorted_by (λ a b. comes_first a.0 b.0) rows

-- the first k of some rows in this order, and all of them if there are fewer
abbrev pub first_rows : ℕ → List Named → List Named
first_rows k rows = take k (rows_in_order rows)

-- lines by increasing ID
abbrev pub by_id : List Line → List Line
by_id es = sorted_by (λ a b. id_comes_first a.id b.id) es

-- ---- the report and the certificate of all

-- the first k rows of all parts
abbrev pub merged_rows : ℕ → List Part → List Named
merged_rows k ps = first_rows k (rows_of ps)

-- the lines of all parts by increasing ID, each with its own bound; a skip stays a skip
abbrev pub merged_entries : List Part → List Line
merged_entries ps = by_id (entries_of_parts ps)

-- what the report of all says
abbrev pub merged_report : Query → List Part → Reported
merged_report q ps = record { query = q; rows = merged_rows q.k ps }

-- what the certificate of all says, in version 2: the k-th score and the counts are those of the merged rows
abbrev pub merged_certificate : Query → List Part → Certified
merged_certificate q ps = record {
  version = 2;
  query = q;
  kth = kth_of_best q.k (of_rows (merged_rows q.k ps));
  entries = merged_entries ps;
  counts = counts_of 2 (of_rows (merged_rows q.k ps)) (merged_entries ps);
}
