-- Where the reading of a report ends is its first bad line.
use Rattle.std.proofs.Common.{◌≡◌, ℕ, true, false, cond, List, Option, Some, None, Err, refl, sym, ◌∙◌}
use Rattle.std.specs.Option.{option_map_or}
use Rattle.ghcn_fields.specs.Meaning.Bytes.{same_bytes}
use Rattle.rank_query.specs.Meaning.Asked.{Query}
use Rattle.rank_papers.specs.Meaning.Report.{query_line, report_text}
use Rattle.rank_papers.specs.Lines.{query_in}
use Rattle.rank_papers.specs.ReportLines.{report_end, row_behind, rows_in, with_rows, behind_report_title, reported_lines}
use Rattle.rank_papers.specs.Places.{IsReportText}
use Rattle.rank_papers.specs.Laws.{ReportsGoWrong}
use Rattle.rank_papers.proofs.BadLines.{IsInOrder, by_line, values_in_order, IsForm, first_bad}
use Rattle.rank_papers.proofs.ReadLines.{some_query, some_query-line}
use Rattle.rank_papers.proofs.ReportValues.{title, lines-are}
use Rattle.rank_papers.proofs.ReportTexts.{lines-written, row_behind-end, text_read}

-- rows are read one after the other
rows_in_order : (q : Query) → IsInOrder (rows_in q 0) 3
rows_in_order q = values_in_order 3 (row_behind q) (report_end q) (λ n. row_behind-end q n n)

-- so are a query and rows
behind_title_in_order : IsInOrder behind_report_title 2
behind_title_in_order = by_line query_in (λ q. rows_in q 0) with_rows behind_report_title 2 (record {
  none = refl;
  some = λ l ls. refl;
  keeps = λ q. record { wrong = λ n. refl; right = λ rows. (record { query = q; rows = rows }, refl) };
}) (query_line some_query) some_query some_query-line rows_in_order

-- the version of a report whose first line this is
abbrev version_in : List ℕ → Option ℕ
version_in l = cond (same_bytes l title) (Some 1) None

-- and with a title before them
pub in_order : IsInOrder reported_lines 1
in_order = by_line version_in (λ w. behind_report_title) (λ w r. r) reported_lines 1 (record {
  none = refl;
  some = λ l ls. elim (same_bytes l title) as (λ b. cond b (behind_report_title ls) (Err 1)
      ≡ option_map_or (λ (w : ℕ). behind_report_title ls) (cond b (Some 1) None) (Err 1)) [
        | true ↦ refl
        | false ↦ refl
      ];
  keeps = λ w. record { wrong = λ n. refl; right = λ v. (v, refl) };
}) title 1 refl (λ w. behind_title_in_order)

-- the form of a report
form : IsForm IsReportText reported_lines
form = record {
  is_read = λ bytes is. (is.0, text_read bytes is.0 is.1);
  has_text = λ ls v e.
      let are = lines-are ls v e in
      (report_text v.query v.rows, (v, record { can_be = are.0; text = refl }), lines-written v are.0 ∙ sym are.1);
}

-- where the reading of a text ends is its first bad line
pub reports_wrong : ReportsGoWrong
reports_wrong = first_bad IsReportText reported_lines form in_order
