-- A report and its certificate together, and what tests of both need.
use Rattle.std.specs.Prelude.{◌≡◌, ℕ, Bool, true, List, [], ◌∷◌, map, codes, Result, Ok, Err}
use Rattle.std.specs.List.{AllByRecursion}
use Rattle.ghcn_fields.specs.Meaning.Bytes.{same_bytes}
use Rattle.rank_query.specs.Meaning.Asked.{Query}
use Rattle.rank_query.specs.Meaning.QueryTexts.{query_text}
use Rattle.rank_scores.specs.declared.candidate.Candidate.{Candidate}
use Rattle.rank_scores.specs.Meaning.Order.{precedes}
use Rattle.rank_papers.specs.declared.fault.Paper.{Paper}
use Rattle.rank_papers.specs.declared.fault.Paper.TheVariants as paper
use Rattle.rank_papers.specs.declared.paper.Row.{Row}
use Rattle.rank_papers.specs.Report.{Named}
use Rattle.rank_papers.specs.ReportLines.{Reported, read_report, named_in}
use Rattle.rank_papers.specs.Certificate.{Certified}
use Rattle.rank_papers.specs.CertificateLines.{read_certificate}

-- ---- reading both

-- what both say, or the first bad line: that of the report comes first
abbrev pub of_both : Result Reported ℕ → Result Certified ℕ → Result (Reported × Certified) (Paper × ℕ)
of_both (Err n) z = Err (paper.Report, n)
of_both (Ok r) (Err n) = Err (paper.Certificate, n)
of_both (Ok r) (Ok z) = Ok (r, z)

-- what the texts of both say, or their first line that doesn't match the format there
abbrev pub read_papers : List ℕ → List ℕ → Result (Reported × Certified) (Paper × ℕ)
read_papers report certificate = of_both (read_report report) (read_certificate certificate)

-- the word for a report or a certificate
abbrev pub paper_text : Paper → List ℕ
paper_text paper.Report = codes "report"
paper_text paper.Certificate = codes "certificate"

-- ---- queries and rows

-- two queries are the same: their canonical texts are equal
abbrev pub same_query : Query → Query → Bool
same_query a b = same_bytes (query_text a) (query_text b)

-- the candidates of rows
abbrev pub of_rows : List Named → List Candidate
of_rows rows = map (λ row. row.0) rows

-- the candidates of rows that were read
abbrev pub candidates_of : List Row → List Candidate
candidates_of rows = of_rows (map named_in rows)

-- each of these but the last, with the one after it
abbrev pub neighbours : {A : Type 0} → List A → List (A × A)
neighbours [] = []
neighbours (x ∷ []) = []
neighbours (x ∷ y ∷ xs) = (x, y) ∷ neighbours (y ∷ xs)

-- each candidate precedes the next
abbrev pub AreInOrder : List Candidate → Type 0
AreInOrder cs = AllByRecursion (λ two. precedes two.0 two.1 ≡ true) (neighbours cs)
