-- Each row of reports is on the line of the file where it is said to be.
use Rattle.std.proofs.Common.{◌≡◌, ℕ, suc, ◌+◌, List, [], ◌∷◌, ◌++◌, length, map, refl, sym, ap, ◌∙◌, subst, append_assoc, length-append, arith}
use Rattle.std.specs.List.{AllByRecursion, AllZip, enumerate_from, flat_map}
use Rattle.std.proofs.lemmas.Grind.{flat_map-append}
use Rattle.rank_papers.specs.Lines.{paper_lines}
use Rattle.rank_papers.specs.Meaning.Report.{query_line}
use Rattle.rank_papers.specs.Report.{Named}
use Rattle.rank_papers.specs.ReportLines.{Reported, row_line}
use Rattle.rank_papers.proofs.ReportValues.{lines_of, title, written}
use Rattle.rank_table.specs.Laws.{IsThere, RowsAreThere}
use Rattle.rank_table.specs.Reports.{HoldsReports, Placed, line_count, placed_after, placed_from}
use Rattle.rank_table.specs.Tables.{row_of, rows_in, rows_of}
use Rattle.rank_table.proofs.Cuts.{Lines}
use Rattle.rank_table.proofs.ManyReports.{lines-reports}
use Rattle.rank_table.proofs.ReportLines.{end_of, length-written}

-- what holds of two lists holds of both
all-append : {X : Type 0} (P : X → Type 0) (xs ys : List X) → AllByRecursion P xs → AllByRecursion P ys
    → AllByRecursion P (xs ++ ys)
all-append P [] ys h k = k
all-append P (x ∷ xs) ys h k = (h.0, all-append P xs ys h.1 k)

-- a text is that of the file of this number
pub record IsTextOfFile (texts : List (List ℕ)) (file : ℕ) (bytes : List ℕ) : Type 0 where
  pub files : List (List ℕ)
  pub more_files : List (List ℕ)
  pub is : texts ≡ files ++ bytes ∷ more_files
  pub number : file ≡ length files + 1

module _ (texts : List (List ℕ)) where
  -- the rows of a report after some others, if the lines of the file go on with theirs
  rows_there : (p : Placed) (bytes : List ℕ) → IsTextOfFile texts p.file bytes → (rows : List Named) (n : ℕ)
      (above below : Lines) → length above ≡ p.before + n + 2
      → paper_lines bytes ≡ above ++ (lines_of p.report.query n rows ++ below)
      → AllByRecursion (IsThere texts) (map (row_of p) (enumerate_from (suc n) rows))
  rows_there p bytes at [] n above below count are = tt
  rows_there p bytes at (row ∷ rows) n above below count are =
      let line : List ℕ = row_line p.report.query (suc n) row in
      let next : suc (suc n) ≡ suc n + 1 = omega arith in
      let more : length (above ++ line ∷ []) ≡ p.before + suc n + 2 =
      omega (arith, count, length-append above (line ∷ [])) in
      let rest : paper_lines bytes ≡ (above ++ line ∷ []) ++ (lines_of p.report.query (suc n) rows ++ below) =
      are ∙ sym (append_assoc above (line ∷ []) (lines_of p.report.query (suc n) rows ++ below)) in (
        record {
          files = at.files;
          bytes = bytes;
          more_files = at.more_files;
          file = at.is;
          file_number = at.number;
          lines = above;
          more_lines = lines_of p.report.query (suc n) rows ++ below;
          line = are;
          line_number = omega (arith, count);
        },
        subst (λ (k : ℕ). AllByRecursion (IsThere texts) (map (row_of p) (enumerate_from k rows))) next
            (rows_there p bytes at rows (suc n) (above ++ line ∷ []) below more rest),
      )

  -- the rows of reports, if the lines of the file go on with theirs
  reports_there : (file : ℕ) (bytes : List ℕ) → IsTextOfFile texts file bytes → (rs : List Reported) (before : ℕ)
      (above : Lines) → length above ≡ before → paper_lines bytes ≡ above ++ flat_map written rs
      → AllByRecursion (IsThere texts) (rows_of (placed_after file before rs))
  reports_there file bytes at [] before above count are = tt
  reports_there file bytes at (r ∷ rs) before above count are =
      let p : Placed = record { file = file; before = before; report = r } in
      let heads : Lines = title ∷ query_line r.query ∷ [] in
      let behind : Lines = flat_map written rs in
      let body : Lines = lines_of r.query 0 r.rows in
      let head_count : length (above ++ heads) ≡ p.before + 0 + 2 =
      omega (arith, count, length-append above heads) in
      let own : paper_lines bytes ≡ (above ++ heads) ++ (body ++ end_of r ∷ behind) =
      are
      ∙ ap (λ (ls : Lines). above ++ title ∷ query_line r.query ∷ ls) (append_assoc body (end_of r ∷ []) behind)
      ∙ sym (append_assoc above heads (body ++ end_of r ∷ behind)) in
      let next_count : length (above ++ written r) ≡ before + line_count r =
      omega (arith, count, length-append above (written r), length-written r) in
      all-append (IsThere texts) (rows_in p) (rows_of (placed_after file (before + line_count r) rs))
      (rows_there p bytes at r.rows 0 (above ++ heads) (end_of r ∷ behind) head_count own)
      (reports_there file bytes at rs (before + line_count r) (above ++ written r) next_count
      (are ∙ sym (append_assoc above (written r) behind)))

  -- the rows of files, which come after some others
  files_there : (front behind : List (List ℕ)) (reports : List (List Reported)) (file : ℕ) → texts ≡ front ++ behind
      → file ≡ length front + 1 → AllZip HoldsReports behind reports
      → AllByRecursion (IsThere texts) (rows_of (placed_from file reports))
  files_there front [] [] file are number held = tt
  files_there front [] (rs ∷ reports) file are number held = absurd held
  files_there front (t ∷ behind) [] file are number held = tt
  files_there front (t ∷ behind) (rs ∷ reports) file are number held =
      let at : IsTextOfFile texts file t =
      record { files = front; more_files = behind; is = are; number = number } in
      let next : suc file ≡ length (front ++ t ∷ []) + 1 = omega (arith, number, length-append front (t ∷ [])) in
      let lines : paper_lines t ≡ [] ++ flat_map written rs =
      ap paper_lines held.0.text ∙ lines-reports rs held.0.can_be in
      subst (AllByRecursion (IsThere texts))
      (sym (flat_map-append rows_in (placed_after file 0 rs) (placed_from (suc file) reports)))
      (all-append (IsThere texts) (rows_of (placed_after file 0 rs)) (rows_of (placed_from (suc file) reports))
      (reports_there file t at rs 0 [] refl lines)
      (files_there (front ++ t ∷ []) behind reports (suc file) (are ∙ sym (append_assoc front (t ∷ []) behind)) next
      held.1))

-- each row of the reports that texts hold
pub rows_are_there : RowsAreThere
rows_are_there texts placed h =
    subst (λ (ps : List Placed). AllByRecursion (IsThere texts) (rows_of ps)) (sym h.places)
    (files_there texts [] texts h.reports 1 refl (omega arith) h.held)
