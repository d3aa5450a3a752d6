-- The text of a report is read as what it says.
use Rattle.std.proofs.Common.{◌≡◌, ℕ, zero, suc, ◌+◌, ◌/◌, ◌%◌, ◌<◌, ◌≤◌, Bool, true, false, cond, List, [], ◌∷◌, ◌++◌, length, Option, Some, None, Result, Ok, Err, refl, sym, ap, ◌∙◌, append_assoc, append-nil, arith, decimal}
use Rattle.std.specs.Prelude.{◌==◌, ◌&&◌, codes, slice_index_or, nat_le, nat_lt, IfOk}
use Rattle.std.specs.Char.{is_ascii_digit}
use Rattle.std.specs.Fmt.{digits, digits_onto, digit_glyph}
use Rattle.std.specs.List.{list_all, join_with_byte, enumerate_from, AllByRecursion}
use Rattle.std.specs.Option.{option_map_or}
use Rattle.std.proofs.lemmas.Bool.{leb-true, and_parts}
use Rattle.std.proofs.lemmas.Bool.Decides.{nat_tests}
use Rattle.ghcn_fields.specs.Meaning.Dates.{date_text}
use Rattle.ghcn_files.specs.Meaning.Ids.{is_visible}
use Rattle.ghcn_files.specs.Meaning.StationLines.{is_printable}
use Rattle.rank_query.specs.Meaning.Asked.{Query}
use Rattle.rank_query.specs.Meaning.QueryTexts.{query_text}
use Rattle.rank_query.proofs.CanonicalTexts.{canonical}
use Rattle.rank_query.proofs.PrintedWords.{date_word}
use Rattle.rank_papers.specs.declared.measure.Measure.{Measure}
use Rattle.rank_papers.specs.declared.measure.Measure.TheVariants.{Degrees, Millimetres, WholeMillimetres, Days}
use Rattle.rank_papers.specs.Meaning.Values.{measure_of_score, unit_text, value_text, value_of}
use Rattle.rank_papers.specs.Meaning.Report.{field_unless_empty, row_fields, end_fields, query_line, report_text}
use Rattle.rank_papers.specs.Report.{Named}
use Rattle.rank_papers.proofs.RowText.{rows_text}
use Rattle.rank_papers.specs.Lines.{paper_lines}
use Rattle.rank_papers.specs.ReportLines.{Reported, IsReported, IsReportOf, IsRow, ends_in_print, row_line, row_in, report_end, row_behind, rows_in, with_rows, reported_lines, read_report}
use Rattle.rank_papers.specs.Laws.{ReportsAreRead}
use Rattle.rank_papers.proofs.ReadLines.{query_in-line}
use Rattle.rank_papers.proofs.OneKind.{values-read}
use Rattle.rank_papers.proofs.ReportValues.{title, row_in-is, lines_of, written, lines-are}
use Rattle.rank_papers.proofs.LineValues.{same_text}
use Rattle.rank_papers.proofs.RowLines.{row_value_visible, row_behind-line}
use Rattle.rank_papers.proofs.WrittenLines.{lines-of_fields, printable-append, visible_text, decimal_printable}

-- ---- what can be printed

-- a unit can be printed
unit_printable : (m : Measure) → list_all is_printable (unit_text m) ≡ true
unit_printable Degrees = refl
unit_printable Millimetres = refl
unit_printable WholeMillimetres = refl
unit_printable Days = refl

-- so can a name after it
named_printable : (unit name : List ℕ) → list_all is_printable unit ≡ true → list_all is_printable name ≡ true
    → list_all is_printable (join_with_byte 32 (unit ∷ field_unless_empty name)) ≡ true
named_printable unit [] h k = h
named_printable unit (b ∷ name) h k = printable-append unit (32 ∷ b ∷ name) h k

-- so can what is in a row's line
row_printable : (q : Query) (rank : ℕ) (row : Named) → IsRow row
    → list_all is_printable (join_with_byte 32 (row_fields q (rank, row))) ≡ true
row_printable q rank row is =
    let id : List ℕ = row.0.id.0 in
    let first : List ℕ = date_text row.0.first in
    let last : List ℕ = date_text row.0.last in
    let value : List ℕ = value_text (measure_of_score q.score) (value_of q.score row.0.score) in
    let unit : List ℕ = unit_text (measure_of_score q.score) in
    let named : List ℕ = join_with_byte 32 (unit ∷ field_unless_empty row.1) in
    let visible = and_parts _ (list_all is_visible row.0.id.0) is.id in
    let name = and_parts (nat_le (length row.1) 30 && list_all is_printable row.1) (ends_in_print row.1) is.name in
    let bytes = and_parts (nat_le (length row.1) 30) (list_all is_printable row.1) name.0 in
    printable-append (decimal rank) (32 ∷ (id ++ 32 ∷ (first ++ 32 ∷ (last ++ 32 ∷ (value ++ 32 ∷ named)))))
    (decimal_printable rank)
    (printable-append id (32 ∷ (first ++ 32 ∷ (last ++ 32 ∷ (value ++ 32 ∷ named)))) (visible_text id visible.1)
    (printable-append first (32 ∷ (last ++ 32 ∷ (value ++ 32 ∷ named)))
    (visible_text first (date_word row.0.first).visible)
    (printable-append last (32 ∷ (value ++ 32 ∷ named)) (visible_text last (date_word row.0.last).visible)
    (printable-append value (32 ∷ named) (visible_text value (row_value_visible q row is))
    (named_printable unit row.1 (unit_printable (measure_of_score q.score)) bytes.1)))))

-- the last line can be printed
end_printable : (all : Bool) (n : ℕ)
    → list_all is_printable (join_with_byte 32 (codes "end" ∷ decimal n ∷ cond all (codes "all" ∷ []) [])) ≡ true
end_printable true n = printable-append (decimal n) (codes " all") (decimal_printable n) refl
end_printable false n = decimal_printable n

-- ---- the lines of a report

-- rows and an end line are cut into their lines
lines-rows : (q : Query) (rows : List Named) (n m : ℕ) → AllByRecursion IsRow rows
    → paper_lines (rows_text q (enumerate_from (suc n) rows) ++ report_end q m)
    ≡ lines_of q n rows ++ report_end q m ∷ []
lines-rows q [] n m h =
    ap paper_lines (sym (append-nil (report_end q m)))
    ∙ lines-of_fields (end_fields q.k m) [] (end_printable (nat_lt m q.k) m)
lines-rows q (row ∷ rows) n m h =
    let next : suc n + 1 ≡ suc (suc n) = omega arith in
    ap (λ (i : ℕ). paper_lines ((row_line q (suc n) row ++ rows_text q (enumerate_from i rows)) ++ report_end q m)) next
    ∙ ap paper_lines (append_assoc (row_line q (suc n) row) (rows_text q (enumerate_from (suc (suc n)) rows))
    (report_end q m))
    ∙ lines-of_fields (row_fields q (suc n, row)) (rows_text q (enumerate_from (suc (suc n)) rows) ++ report_end q m)
    (row_printable q (suc n) row h.0)
    ∙ ap (λ (ls : List (List ℕ)). row_line q (suc n) row ∷ ls) (lines-rows q rows (suc n) m h.1)

-- four texts may be joined from either end
from_the_end : (a b c d : List ℕ) → ((a ++ b) ++ c) ++ d ≡ a ++ (b ++ (c ++ d))
from_the_end a b c d = simp append_assoc

-- a report is cut into the lines in which it is written
pub lines-written : (v : Reported) → IsReported v → paper_lines (report_text v.query v.rows) ≡ written v
lines-written v is =
    let behind : List ℕ = rows_text v.query (enumerate_from 1 v.rows) ++ report_end v.query (length v.rows) in
    ap paper_lines (from_the_end title (query_line v.query) (rows_text v.query (enumerate_from 1 v.rows))
    (report_end v.query (length v.rows)))
    ∙ lines-of_fields (codes "extremes report 1" ∷ []) (query_line v.query ++ behind) refl
    ∙ ap (λ (ls : List (List ℕ)). title ∷ ls)
    (lines-of_fields (codes "query" ∷ query_text v.query ∷ []) behind (canonical v.query is.asked).line.printable)
    ∙ ap (λ (ls : List (List ℕ)). title ∷ query_line v.query ∷ ls)
    (lines-rows v.query v.rows 0 (length v.rows) is.rows)

-- ---- an end line isn't a row's

-- the first byte of a text is a digit
abbrev pub starts_by_digit : List ℕ → Bool
starts_by_digit bytes = is_ascii_digit (slice_index_or bytes 0 0)

-- the byte of a digit is a digit
digit_is : (d : ℕ) → d < 10 → is_ascii_digit (digit_glyph false d) ≡ true
digit_is d low = grind (arith, nat_tests)

-- the digits of a number, however many, begin with a digit
onto_starts : (k n : ℕ) (behind rest : List ℕ)
    → starts_by_digit (digits_onto (suc k) 10 false n behind ++ rest) ≡ true
onto_starts zero n behind rest =
    let one : is_ascii_digit (digit_glyph false (n % 10)) ≡ true = digit_is (n % 10) (omega arith) in
    elim (n / 10 == 0) as (λ t. starts_by_digit (cond t (digit_glyph false (n % 10) ∷ behind)
    (digits_onto zero 10 false (n / 10) (digit_glyph false (n % 10) ∷ behind)) ++ rest) ≡ true) [
      | true ↦ one
      | false ↦ one
    ]
onto_starts (suc k) n behind rest =
    let one : is_ascii_digit (digit_glyph false (n % 10)) ≡ true = digit_is (n % 10) (omega arith) in
    elim (n / 10 == 0) as (λ t. starts_by_digit (cond t (digit_glyph false (n % 10) ∷ behind)
    (digits_onto (suc k) 10 false (n / 10) (digit_glyph false (n % 10) ∷ behind)) ++ rest) ≡ true) [
      | true ↦ one
      | false ↦ onto_starts k (n / 10) (digit_glyph false (n % 10) ∷ behind) rest
    ]

-- so does a number
decimal_starts : (n : ℕ) (rest : List ℕ) → starts_by_digit (decimal n ++ rest) ≡ true
unfolding digits
decimal_starts n rest = onto_starts 63 n [] rest

-- so does a row's line
pub row_starts : (q : Query) (rank : ℕ) (row : Named) → starts_by_digit (row_line q rank row) ≡ true
row_starts q rank row =
    let behind : List ℕ = 32 ∷ join_with_byte 32 (row.0.id.0 ∷ date_text row.0.first ∷ date_text row.0.last
    ∷ value_text (measure_of_score q.score) (value_of q.score row.0.score) ∷ unit_text (measure_of_score q.score)
    ∷ field_unless_empty row.1) in
    ap starts_by_digit (append_assoc (decimal rank) behind (10 ∷ []))
    ∙ decimal_starts rank (behind ++ 10 ∷ [])

-- but no end line
pub end_is_other : (q : Query) (n rank : ℕ) (row : Named) → report_end q n ≡ row_line q rank row → ⊥
end_is_other q n rank row same =
    let digit : starts_by_digit (report_end q n) ≡ true = ap starts_by_digit same ∙ row_starts q rank row in
    absurd cc

-- so no row is read of it
row_in-end : (q : Query) (n rank : ℕ) → row_in q rank (report_end q n) ≡ None
row_in-end q n rank = by (row_in q rank (report_end q n)) refl
  where
    by : (o : Option Named) → row_in q rank (report_end q n) ≡ o → o ≡ None
    by None f = refl
    by (Some row) f = absurd (end_is_other q n rank row (row_in-is q rank (report_end q n) row f).1)

-- after however many others
pub row_behind-end : (q : Query) (n m : ℕ) → row_behind q n (report_end q m) ≡ None
row_behind-end q n m = elim (nat_lt n q.k) as (λ b. cond b (row_in q (suc n) (report_end q m)) None ≡ None) [
  | true ↦ row_in-end q m (suc n)
  | false ↦ refl
]

-- ---- the whole text

-- the lines of a report are read as what it says
written_read : (v : Reported) → IsReported v → reported_lines (written v) ≡ Ok v
written_read v is =
    let rows : List (List ℕ) = lines_of v.query 0 v.rows ++ report_end v.query (length v.rows) ∷ [] in
    let count : length v.rows ≡ 0 + length v.rows = omega arith in
    let few : length v.rows ≤ v.query.k = leb-true (length v.rows) v.query.k is.few in
    ap (λ (o : Option Query). option_map_or (λ q. with_rows q (rows_in q 0 rows)) o (Err 2))
    (query_in-line v.query is.asked)
    ∙ ap (with_rows v.query) (values-read 3 (row_behind v.query) (report_end v.query) (λ n. row_line v.query (suc n))
    IsRow (length v.rows) (λ n. row_behind-end v.query n (length v.rows))
    (λ n row can lt. row_behind-line v.query row can n (omega (arith, lt, few))) v.rows 0 is.rows count)

-- so the text of a report is read as it
pub text_read : (bytes : List ℕ) (v : Reported) → IsReportOf v bytes → read_report bytes ≡ Ok v
text_read bytes v h =
    ap read_report h.text ∙ ap reported_lines (lines-written v h.can_be) ∙ written_read v h.can_be

-- what was read is said, and its text is the very bytes
read_report-is : (bytes : List ℕ) (v : Reported) → read_report bytes ≡ Ok v → IsReportOf v bytes
read_report-is bytes v h =
    let are = lines-are (paper_lines bytes) v h in
    record { can_be = are.0; text = same_text bytes (report_text v.query v.rows) (are.1 ∙ sym (lines-written v are.0)) }

-- so is what a call returned
pub if_read_report-is : {X E : Type 0} (said : X → Reported) (bytes : List ℕ) (r : Result X E)
    → IfOk r (λ c. read_report bytes ≡ Ok (said c)) → IfOk r (λ c. IsReportOf (said c) bytes)
if_read_report-is said bytes (Ok c) h = read_report-is bytes (said c) h
if_read_report-is said bytes (Err e) h = tt

-- both directions
pub reports_read : ReportsAreRead
reports_read bytes v = (read_report-is bytes v, text_read bytes v)
