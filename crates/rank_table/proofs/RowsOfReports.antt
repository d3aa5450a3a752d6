-- The rows of reports, and those of a report, by their places.
use Rattle.std.proofs.Common.{◌≡◌, ℕ, ◌+◌, ◌<◌, List, [], ◌∷◌, ◌++◌, length, map, take, drop, get_or, Ok, Err, Option}
use Rattle.std.proofs.Common.{Result, sym, ap, ap₂, ◌∙◌, subst, append-nil, arith}
use Rattle.std.specs.List.{enumerate_from}
use Rattle.std.proofs.lemmas.Grind.{flat_map-append}
use Rattle.std.proofs.lemmas.List.{map-append, take_more, drop_more, take-append-drop, length-map, length-take}
use Rattle.csv.specs.declared.writer.Writer.{Writer}
use Rattle.ghcn_files.specs.declared.station.Station.{Station}
use Rattle.ghcn_files.proofs.LineLaws.{enumerate_from-append}
use Rattle.rank_query.specs.declared.score.Score.{Score}
use Rattle.rank_query.specs.Meaning.QueryTexts.{query_text}
use Rattle.rank_papers.specs.declared.paper.Row.{Row}
use Rattle.rank_papers.specs.Report.{Named}
use Rattle.rank_papers.specs.ReportLines.{named_in}
use Rattle.rank_table.specs.declared.fault.TableFault.{TableFault}
use Rattle.rank_table.specs.declared.placed.PlacedReport.{PlacedReport}
use Rattle.rank_table.specs.Reports.{Placed, placed_in, placed_report}
use Rattle.rank_table.specs.Tables.{Fields, PlacedRow, and_record, fields_with_place, if_listed, record_of, records_of, row_fields, row_of, rows_in, rows_of}
use Rattle.rank_table.specs.Written.{Writes, WritesRows}
use Rattle.rank_table.proofs.Written.{HasWrittenRows, more_rows, refused_more}

-- ---- the rows of some reports

-- those of two lists of reports
rows_of-append : (xs ys : List PlacedReport)
    → rows_of (placed_in (xs ++ ys)) ≡ rows_of (placed_in xs) ++ rows_of (placed_in ys)
rows_of-append xs ys = ap rows_of (map-append placed_report xs ys) ∙ flat_map-append rows_in (placed_in xs)
    (placed_in ys)

module _ (reports : List PlacedReport) (i : ℕ) (d : PlacedReport) (below : i < length reports)
    (is : d ≡ get_or reports i d) where
  -- the rows of the report at this place
  abbrev own_rows : List PlacedRow
  own_rows = rows_in (placed_report d)

  -- the rows of one report more
  pub rows_of-next : rows_of (placed_in (take (i + 1) reports)) ≡ rows_of (placed_in (take i reports)) ++ own_rows
  rows_of-next =
      ap (λ (xs : List PlacedReport). rows_of (placed_in xs))
      (take_more reports i d below ∙ ap (λ (r : PlacedReport). take i reports ++ r ∷ []) (sym is))
      ∙ rows_of-append (take i reports) (d ∷ [])
      ∙ ap (λ (rows : List PlacedRow). rows_of (placed_in (take i reports)) ++ rows) (append-nil own_rows)

  -- the rows of all reports, with those of this one between
  pub rows_of-around : rows_of (placed_in reports)
      ≡ rows_of (placed_in (take i reports)) ++ (own_rows ++ rows_of (placed_in (drop (i + 1) reports)))
  rows_of-around =
      ap (λ (xs : List PlacedReport). rows_of (placed_in xs)) (sym (take-append-drop i reports))
      ∙ rows_of-append (take i reports) (drop i reports)
      ∙ ap (λ (xs : List PlacedReport). rows_of (placed_in (take i reports)) ++ rows_of (placed_in xs))
      (drop_more reports i d below ∙ ap (λ (r : PlacedReport). r ∷ drop (i + 1) reports) (sym is))

-- ---- the rows of one report

-- the rows that some of a report's are
abbrev pub rows_from : Placed → ℕ → List Named → List PlacedRow
rows_from p rank rows = map (row_of p) (enumerate_from rank rows)

-- those of two lists
rows_from-append : (p : Placed) (rank : ℕ) (xs ys : List Named)
    → rows_from p rank (xs ++ ys) ≡ rows_from p rank xs ++ rows_from p (rank + length xs) ys
rows_from-append p rank xs ys =
    ap (map (row_of p)) (enumerate_from-append rank xs ys)
    ∙ map-append (row_of p) (enumerate_from rank xs) (enumerate_from (rank + length xs) ys)

module _ (p : Placed) (rows : List Row) (i : ℕ) (row : Row) (below : i < length rows)
    (is : row ≡ get_or rows i row) where
  -- the rows before this one
  abbrev before : List Named
  before = map named_in (take i rows)

  -- this row, with its place
  abbrev pub here : PlacedRow
  here = row_of p (i + 1, named_in row)

  -- its rank
  rank_is : 1 + length before ≡ i + 1
  rank_is = omega (arith, length-map (take i rows) named_in, length-take i rows, below)

  -- one row more
  rows_from-next : rows_from p 1 (map named_in (take (i + 1) rows)) ≡ rows_from p 1 before ++ here ∷ []
  rows_from-next =
      ap (λ (xs : List Row). rows_from p 1 (map named_in xs)) (take_more rows i row below)
      ∙ ap (rows_from p 1) (map-append named_in (take i rows) (get_or rows i row ∷ []))
      ∙ rows_from-append p 1 before (named_in (get_or rows i row) ∷ [])
      ∙ ap₂ (λ (n : ℕ) (r : Row). rows_from p 1 before ++ row_of p (n, named_in r) ∷ []) rank_is (sym is)

  -- all rows, with this one between
  rows_from-around : rows_from p 1 (map named_in rows)
      ≡ rows_from p 1 before ++ (here ∷ [] ++ rows_from p (i + 1 + 1) (map named_in (drop (i + 1) rows)))
  rows_from-around =
      ap (λ (xs : List Row). rows_from p 1 (map named_in xs)) (sym (take-append-drop i rows))
      ∙ ap (rows_from p 1) (map-append named_in (take i rows) (drop i rows))
      ∙ rows_from-append p 1 before (map named_in (drop i rows))
      ∙ ap₂ (λ (n : ℕ) (xs : List Row). rows_from p 1 before ++ rows_from p n (map named_in xs)) rank_is
      (drop_more rows i row below ∙ ap (λ (r : Row). r ∷ drop (i + 1) rows) (sym is))

  module _ (stations : Option (List Station)) where
    -- what is made of its fields is its record, or there is none
    pub made_here : (text : List ℕ) (score : Score) (first : Fields) (made : Option Fields)
        → text ≡ query_text p.report.query → score ≡ p.report.query.score
        → first ≡ row_fields text score (i + 1) (named_in row)
        → made ≡ fields_with_place first stations row.candidate.id
        → record_of stations here ≡ if_listed here made
    made_here text score first made is_text is_score is_first is_made = cc

    module _ {W : Type 0} (contents : W → Option (List ℕ)) (old mid : Writer W)
        (h : HasWrittenRows contents stations old mid (rows_from p 1 before)) where
      -- the rows up to this one were written
      pub next_written : (new : Writer W) (fields : Fields) → record_of stations here ≡ Ok fields
          → Writes contents mid new (fields ∷ [])
          → HasWrittenRows contents stations old new (rows_from p 1 (map named_in (take (i + 1) rows)))
      next_written new fields made wrote =
          subst (HasWrittenRows contents stations old new) (sym rows_from-next)
          (more_rows contents stations old mid new (rows_from p 1 before) (here ∷ []) h
          (subst (WritesRows contents mid new)
          (sym (ap (λ (o : Result Fields TableFault). and_record o (Ok [])) made)) wrote))

      -- if it has no record, no row of the report is written
      pub row_refused : (why : TableFault) → record_of stations here ≡ Err why
          → records_of stations (rows_from p 1 (map named_in rows)) ≡ Err why
      row_refused why made =
          ap (records_of stations) rows_from-around
          ∙ refused_more contents stations old mid (rows_from p 1 before) (here ∷ []) _ why h
          (ap (λ (o : Result Fields TableFault). and_record o (Ok [])) made)
