-- Rows that are given with their names, one after the other.
use Rattle.std.proofs.Common.{◌≡◌, ℕ, ◌+◌, ◌<◌, List, [], ◌∷◌, ◌++◌, length, take, get_or, sym, ap, ◌∙◌, arith, map}
use Rattle.std.specs.List.{enumerate_from}
use Rattle.std.proofs.lemmas.List.{take_more, length-map, map-append, length-take}
use Rattle.rank_query.specs.Meaning.Asked.{Query}
use Rattle.rank_papers.specs.declared.paper.Row.{Row}
use Rattle.rank_papers.specs.Meaning.Report.{text_line, row_fields}
use Rattle.rank_papers.specs.Report.{Named}
use Rattle.rank_papers.proofs.RowText.{rows_text}
use Rattle.rank_papers.specs.ReportLines.{named_in}
use Rattle.rank_papers.proofs.ReportRows.{rows-more}

-- how far some rows have been written
pub record HasGiven (q : Query) (rows : List Row) (i : ℕ) (before paper : List ℕ) : Type 0 where
  pub text : paper ≡ before ++ rows_text q (enumerate_from 1 (map named_in (take i rows)))

-- the next row was written
pub HasGiven-more : (q : Query) (rows : List Row) (i : ℕ) (row : Row) (before paper : List ℕ) → i < length rows
    → row ≡ get_or rows i row → HasGiven q rows i before paper
    → HasGiven q rows (i + 1) before (paper ++ text_line (row_fields q (i + 1, named_in row)))
HasGiven-more q rows i row before paper below at h =
    let names : List Named = map named_in (take i rows) in
    let taken : take (i + 1) rows ≡ take i rows ++ row ∷ [] =
    take_more rows i row below ∙ ap (λ (x : Row). take i rows ++ x ∷ []) (sym at) in
    let more : map named_in (take (i + 1) rows) ≡ names ++ named_in row ∷ [] =
    ap (map named_in) taken ∙ map-append named_in (take i rows) (row ∷ []) in
    let count : i ≡ length names = omega (arith, length-map (take i rows) named_in, length-take i rows) in
    record {
      text =
          rows-more q names (named_in row) i before paper count h.text
          ∙ ap (λ (all : List Named). before ++ rows_text q (enumerate_from 1 all)) (sym more);
    }
