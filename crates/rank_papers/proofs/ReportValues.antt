-- What is read as a report is the text of what it says.
use Rattle.std.proofs.Common.{◌≡◌, ℕ, suc, ◌+◌, ◌-◌, ◌<◌, ◌≤◌, true, false, cond, List, [], ◌∷◌, ◌++◌, length, Option, Some, None, Result, Ok, Err, refl, sym, ap, ◌∙◌, subst, arith, decimal, FitsSigned, w64}
use Rattle.std.specs.Prelude.{◌&&◌, not, ℤ, codes, slice_range, nat_lt, filter, ◌==◌}
use Rattle.std.specs.Option.{option_map}
use Rattle.std.specs.Cmp.Lexicographic.{bytes_decides}
use Rattle.std.proofs.lemmas.Bool.{le-leb, and_parts}
use Rattle.std.proofs.lemmas.Bool.Decides.{nat_tests}
use Rattle.ghcn_fields.specs.Meaning.Bytes.{same_bytes}
use Rattle.ghcn_fields.specs.Meaning.Days.{is_day}
use Rattle.ghcn_fields.specs.Dates.{read_date}
use Rattle.ghcn_fields.specs.Numbers.{natural, signed_by}
use Rattle.ghcn_fields.proofs.DateTexts.{read_date-law}
use Rattle.ghcn_files.specs.Ids.{is_id}
use Rattle.rank_query.specs.Meaning.Asked.{Query}
use Rattle.rank_papers.specs.Meaning.Values.{measure_of_score, unit_text, value_of}
use Rattle.rank_papers.specs.Meaning.Report.{text_line, query_line}
use Rattle.rank_papers.specs.Report.{Named}
use Rattle.rank_papers.specs.Lines.{query_in}
use Rattle.rank_papers.specs.ReportLines.{Reported, IsReported, IsRow, is_name, row_line, score_in, row_with, first_word, row_in_columns, row_in, report_end, row_behind, rows_in, with_rows, behind_report_title, reported_lines}
use Rattle.rank_papers.proofs.LineValues.{exactly-some, in_i64-some, option-ok, cond-ok, query_in-is}
use Rattle.rank_papers.proofs.OneKind.{lines_by, values-are}

-- ---- a row

-- a row that was made of columns can be, if what they hold can
row_with-is : (id name : List ℕ) (first last score : Option ℤ) (row : Named)
    → row_with id name first last score ≡ Some row
    → ((d : ℤ) → first ≡ Some d → is_day d ≡ true) → ((d : ℤ) → last ≡ Some d → is_day d ≡ true)
    → ((z : ℤ) → score ≡ Some z → FitsSigned w64 z) → IsRow row
row_with-is id name None last score row h f l s = absurd cc
row_with-is id name (Some first) None score row h f l s = absurd cc
row_with-is id name (Some first) (Some last) None row h f l s = absurd cc
row_with-is id name (Some first) (Some last) (Some score) row h f l s = elim (is_id id && is_name name)
    as (λ b. (is_id id && is_name name) ≡ b
    → cond b (Some (record { id = record { 0 = id }; first = first; last = last; score = score }, name)) None ≡ Some row
    → IsRow row) [
      | true ↦ λ t g.
          let both = and_parts (is_id id) (is_name name) t in
          let same : (record { id = record { 0 = id }; first = first; last = last; score = score }, name) ≡ row = cc in
          subst IsRow same (record {
            id = both.0;
            first = f first refl;
            last = l last refl;
            score = s score refl;
            name = both.1;
          })
      | false ↦ λ t g. absurd cc
    ] refl h

-- a row that is read can be, and its line is the one it was read of
pub row_in-is : (q : Query) (rank : ℕ) (line : List ℕ) (row : Named) → row_in q rank line ≡ Some row
    → IsRow row × (line ≡ row_line q rank row)
row_in-is q rank line row h =
    let digits : ℕ = length (decimal rank) in
    let before_end : ℕ = length line - 1 in
    let value : List ℕ = first_word (slice_range line (digits + 35) before_end) in
    let parts = exactly-some (row_line q rank) line (row_in_columns q digits line) row h in
    let number : List ℕ = filter (λ b. not (b == 46)) value in (
      row_with-is (slice_range line (digits + 1) (digits + 12))
          (slice_range line (digits + length value + length (unit_text (measure_of_score q.score)) + 37) before_end)
          (read_date (slice_range line (digits + 13) (digits + 23)))
          (read_date (slice_range line (digits + 24) (digits + 34))) (score_in q value) row parts.0
          (λ d e. ((read_date-law (slice_range line (digits + 13) (digits + 23)) d).0 e).0)
          (λ d e. ((read_date-law (slice_range line (digits + 24) (digits + 34)) d).0 e).0)
          (λ z e. in_i64-some (option_map (value_of q.score) (signed_by natural number)) z e),
      parts.1,
    )

-- one that is read after others can be, has its line, and there may be one more
pub row_behind-is : (q : Query) (n : ℕ) (line : List ℕ) (row : Named) → row_behind q n line ≡ Some row
    → (n < q.k) × IsRow row × (line ≡ row_line q (suc n) row)
row_behind-is q n line row h = elim (nat_lt n q.k) as (λ b. nat_lt n q.k ≡ b
    → cond b (row_in q (suc n) line) None ≡ Some row → (n < q.k) × IsRow row × (line ≡ row_line q (suc n) row)) [
      | true ↦ λ s f.
          let below : n < q.k = grind (arith, nat_tests) in
          let own = row_in-is q (suc n) line row f in (below, own.0, own.1)
      | false ↦ λ s f. absurd cc
    ] refl h

-- ---- a whole report

-- a report was made of rows
with-some : (q : Query) (r : Result (List Named) ℕ) (v : Reported) → with_rows q r ≡ Ok v
    → (rows : List Named) × (r ≡ Ok rows) × (v ≡ record { query = q; rows = rows })
with-some q (Ok rows) v h = (rows, refl, cc)
with-some q (Err n) v h = absurd cc

-- the first line
abbrev pub title : List ℕ
title = text_line (codes "extremes report 1" ∷ [])

-- the lines of rows, after that many others
abbrev pub lines_of : Query → ℕ → List Named → List (List ℕ)
lines_of q = lines_by (λ n. row_line q (suc n))

-- the lines in which a report is written
abbrev pub written : Reported → List (List ℕ)
written v = title ∷ query_line v.query ∷ (lines_of v.query 0 v.rows ++ report_end v.query (length v.rows) ∷ [])

-- what is read of lines can be, and they are the lines in which it is written
pub lines-are : (ls : List (List ℕ)) (v : Reported) → reported_lines ls ≡ Ok v → IsReported v × (ls ≡ written v)
lines-are [] v h = absurd cc
lines-are (l1 ∷ []) v h = let no = cond-ok (same_bytes l1 title) (Err 2) 1 v h in absurd cc
lines-are (l1 ∷ l2 ∷ ls) v h =
    let first = cond-ok (same_bytes l1 title) (behind_report_title (l2 ∷ ls)) 1 v h in
    let second = option-ok (λ q. with_rows q (rows_in q 0 ls)) (query_in l2) 2 v first.1 in
    let q = second.0 in
    let rest = with-some q (rows_in q 0 ls) v second.2 in
    let rows = rest.0 in
    let query = query_in-is l2 q second.1 in
    let are = values-are 3 (row_behind q) (report_end q) (λ n. row_line q (suc n)) IsRow (λ n. n ≤ q.k) (behind q) ls 0
    rows (omega arith) rest.1 in
    let title_is : l1 ≡ title = (bytes_decides l1 title).0 first.0 in
    let count : 0 + length rows ≡ length rows = omega arith in
    let body : ls ≡ lines_of q 0 rows ++ report_end q (length rows) ∷ [] =
    are.lines ∙ ap (λ (n : ℕ). lines_of q 0 rows ++ report_end q n ∷ []) count in
    let can : IsReported (record { query = q; rows = rows }) = record {
      asked = query.0;
      few = le-leb (length rows) q.k (omega (arith, are.may, count));
      rows = are.each;
    } in
    let lines : l1 ∷ l2 ∷ ls ≡ written (record { query = q; rows = rows }) =
    λ i. title_is i ∷ query.1 i ∷ body i in
    subst (λ (x : Reported). IsReported x × (l1 ∷ l2 ∷ ls ≡ written x)) (sym rest.2) (can, lines)
  where
    behind : (q : Query) (n : ℕ) (l : List ℕ) (row : Named) → row_behind q n l ≡ Some row
        → (suc n ≤ q.k) × IsRow row × (l ≡ row_line q (suc n) row)
    behind q n l row h = let it = row_behind-is q n l row h in (omega (arith, it.0), it.1, it.2)
