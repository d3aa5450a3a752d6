-- The lines of a report: only the last begins with `end `.
use Rattle.std.proofs.Common.{◌≡◌, ℕ, suc, ◌+◌, true, false, List, [], ◌∷◌, ◌++◌, length, refl, sym, ap, ◌∙◌, Ok}
use Rattle.std.proofs.Common.{append_assoc, length-append, arith}
use Rattle.std.specs.Prelude.{nat_eq}
use Rattle.std.specs.List.{enumerate_from, flat_map, join_with_byte}
use Rattle.std.proofs.lemmas.Bool.Decides.{nat_tests}
use Rattle.rank_query.specs.Meaning.Asked.{Query}
use Rattle.rank_papers.specs.Meaning.Report.{end_fields, query_line, report_text, row_fields, text_line}
use Rattle.rank_papers.specs.Report.{Named}
use Rattle.rank_papers.specs.ReportLines.{Reported, IsReported, report_end, reported_lines, row_line}
use Rattle.rank_papers.proofs.OneKind.{lines_by}
use Rattle.rank_papers.proofs.ReportTexts.{lines-written, row_starts, starts_by_digit, text_read}
use Rattle.rank_papers.proofs.ReportValues.{lines_of, title, written}
use Rattle.rank_table.specs.Reading.{is_last}
use Rattle.rank_table.specs.Reports.{line_count, text_of}
use Rattle.rank_table.proofs.Cuts.{HaveNoLast, Lines}

-- ---- which lines begin with `end `

-- a line that begins by a digit doesn't
digit_is_other : (line : List ℕ) → starts_by_digit line ≡ true → is_last line ≡ false
digit_is_other [] digit = absurd cc
digit_is_other (b ∷ line) digit = let other : nat_eq 101 b ≡ false = grind (arith, nat_tests) in cc

-- so no row's line does
rows_have_none : (q : Query) (n : ℕ) (rows : List Named) → HaveNoLast (lines_of q n rows)
rows_have_none q n [] = tt
rows_have_none q n (row ∷ rows) =
    (digit_is_other (row_line q (suc n) row) (row_starts q (suc n) row), rows_have_none q (suc n) rows)

-- the lines of a report before its end line
abbrev pub front : Reported → Lines
front v = title ∷ query_line v.query ∷ lines_of v.query 0 v.rows

-- none of them is the last
pub front_has_none : (v : Reported) → HaveNoLast (front v)
front_has_none v = (refl, (refl, rows_have_none v.query 0 v.rows))

-- the end line of a report
abbrev pub end_of : Reported → List ℕ
end_of v = report_end v.query (length v.rows)

-- it is the last
pub end_is_last : (v : Reported) → is_last (end_of v) ≡ true
end_is_last v = refl

-- ---- how many there are

-- there are as many lines as values
lines_by-length : (line : ℕ → Named → List ℕ) (n : ℕ) (rows : List Named) → length (lines_by line n rows) ≡ length rows
lines_by-length line n [] = refl
lines_by-length line n (row ∷ rows) = ap suc (lines_by-length line (suc n) rows)

-- how many lines a report has
pub length-written : (v : Reported) → length (written v) ≡ line_count v
length-written v =
    let rows : length (lines_of v.query 0 v.rows) ≡ length v.rows = lines_by-length _ 0 v.rows in
    omega (arith, rows, length-append (lines_of v.query 0 v.rows) (end_of v ∷ []))

-- ---- reading and writing

-- the lines in which a report is written are read as it
pub written_read : (v : Reported) → IsReported v → reported_lines (written v) ≡ Ok v
written_read v can =
    ap reported_lines (sym (lines-written v can))
    ∙ text_read (report_text v.query v.rows) v (record { can_be = can; text = refl })

-- the text of a report ends by a line feed
pub ends_by_feed : (v : Reported) → (body : List ℕ) × (text_of v ≡ body ++ 10 ∷ [])
ends_by_feed v =
    let last : List ℕ = join_with_byte 32 (end_fields v.query.k (length v.rows)) in
    let before : List ℕ = title ++ query_line v.query
    ++ flat_map (λ row. text_line (row_fields v.query row)) (enumerate_from 1 v.rows) in
    (before ++ last, sym (append_assoc before last (10 ∷ [])))
