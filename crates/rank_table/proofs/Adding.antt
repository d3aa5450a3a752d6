-- The reports of one file, which are read one after the other.
use Rattle.std.proofs.Common.{◌≡◌, ℕ, ◌+◌, ◌<◌, ◌≤◌, List, [], ◌∷◌, ◌++◌, length, Result, Ok, Err, inl, inr, refl, sym}
use Rattle.std.proofs.Common.{ap, ap₂, ◌∙◌, append_assoc, append-nil, length-append, add-zero, add_assoc, arith}
use Rattle.ghcn_fields.specs.Refusals.{IsRefusal}
use Rattle.rank_papers.specs.Lines.{before_lines, paper_lines}
use Rattle.rank_papers.specs.ReportLines.{Reported, read_report, reported_lines}
use Rattle.rank_papers.proofs.ReportPlaces.{in_order}
use Rattle.rank_papers.proofs.ReportValues.{lines-are}
use Rattle.rank_table.specs.declared.fault.TableFault.{TableFault}
use Rattle.rank_table.specs.declared.fault.TableFault.TheVariants.{BadReport}
use Rattle.rank_table.specs.Files.{AddsReports}
use Rattle.rank_table.specs.Reading.{and_report, cut_lines, in_file, is_memory, one_report, read_reports, reports_after, reports_of_lines}
use Rattle.rank_table.specs.Reports.{Placed, line_count, placed_after}
use Rattle.rank_table.proofs.Cuts.{Lines, joined, joined-cuts, joined-reports, some_cut}
use Rattle.rank_table.proofs.ManyReports.{some_lines}
use Rattle.rank_table.proofs.ReportLines.{length-written}
use Rattle.rank_table.proofs.Written.{unless_memory}

-- ---- how many lines reports have

-- how many lines a report has that is read
lines_of_read : (ls : Lines) (r : Reported) → reported_lines ls ≡ Ok r → length ls ≡ line_count r
lines_of_read ls r e = ap (λ (xs : Lines). length xs) (lines-are ls r e).1 ∙ length-written r

-- all lines of reports
abbrev all_lines : List Reported → ℕ
all_lines [] = 0
all_lines (r ∷ rs) = line_count r + all_lines rs

-- those of one more
all_lines-more : (rs : List Reported) (r : Reported) → all_lines (rs ++ r ∷ []) ≡ all_lines rs + line_count r
all_lines-more [] r = omega arith
all_lines-more (s ∷ rs) r = let rest = all_lines-more rs r in omega (arith, rest)

-- where one more report is
placed_after-more : (file before : ℕ) (rs : List Reported) (r : Reported)
    → placed_after file before (rs ++ r ∷ []) ≡ placed_after file before rs
    ++ record { file = file; before = before + all_lines rs; report = r } ∷ []
placed_after-more file before [] r =
    ap (λ (n : ℕ). record { file = file; before = n; report = r } ∷ []) (sym (add-zero before))
placed_after-more file before (s ∷ rs) r =
    let rest = placed_after-more file (before + line_count s) rs r in
    let same = add_assoc before (line_count s) (all_lines rs) in
    cc

-- ---- the lines of a report and of what follows it

module _ (rest first behind : List ℕ)
    (cut : reports_of_lines (paper_lines rest) ≡ paper_lines first ∷ cut_lines (paper_lines behind)) where
  -- they are those of both
  lines_of_both : paper_lines rest ≡ paper_lines first ++ paper_lines behind
  lines_of_both =
      sym (joined-reports (paper_lines rest)) ∙ ap joined cut
      ∙ ap (λ (ls : Lines). paper_lines first ++ ls) (joined-cuts (paper_lines behind))

  -- and as many
  pub count_of_both : length (paper_lines rest) ≡ length (paper_lines first) + length (paper_lines behind)
  count_of_both = ap (λ (ls : Lines). length ls) lines_of_both ∙ length-append (paper_lines first) (paper_lines behind)

-- ---- the lines of a text

-- a byte makes at most one line more
one_line_more : (b : ℕ) (ls : Lines) → length (before_lines b ls) ≤ 1 + length ls
one_line_more b ls = grind arith

-- a text has no more lines than bytes
pub lines_within : (bytes : List ℕ) → length (paper_lines bytes) ≤ length bytes
lines_within [] = omega arith
lines_within (b ∷ bytes) = omega (arith, one_line_more b (paper_lines bytes), lines_within bytes)

-- ---- how far a file has been read

-- reports before those that are read
abbrev and_reports : List Reported → Result (List Reported) ℕ → Result (List Reported) ℕ
and_reports rs (Ok ss) = Ok (rs ++ ss)
and_reports rs (Err n) = Err n

-- one report more
and_reports-more : (rs : List Reported) (r : Reported) (before : ℕ) (rest : Result (List Reported) ℕ)
    → and_reports rs (and_report before (Ok r) rest) ≡ and_reports (rs ++ r ∷ []) rest
and_reports-more rs r before rest = grind (arith, append_assoc)

-- none
and_reports-none : (r : Result (List Reported) ℕ) → r ≡ and_reports [] r
and_reports-none r = grind arith

-- what the rest of a text says comes after the reports that were found, and after that many lines
pub record HasAdded (file : ℕ) (text : List ℕ) (old : List Placed) (before : ℕ) (rest : List ℕ) (found : List Placed)
    : Type 0 where
  pub reports : List Reported
  pub added : found ≡ old ++ placed_after file 0 reports
  pub count : before ≡ all_lines reports
  pub lines : before + length (paper_lines rest) ≡ length (paper_lines text)
  pub read : read_reports text ≡ and_reports reports (reports_after before (reports_of_lines (paper_lines rest)))

-- at the beginning
pub none_added : (file : ℕ) (text : List ℕ) (old : List Placed) → HasAdded file text old 0 text old
none_added file text old = record {
  reports = [];
  added = sym (append-nil old);
  count = refl;
  lines = omega arith;
  read = and_reports-none (read_reports text);
}

module _ {file : ℕ} {text : List ℕ} {old : List Placed} {before : ℕ} {rest : List ℕ} {found : List Placed}
    (h : HasAdded file text old before rest found) (first behind : List ℕ)
    (cut : reports_of_lines (paper_lines rest) ≡ paper_lines first ∷ cut_lines (paper_lines behind)) where
  -- what is read of the rest, if this is read of its first report
  read_first : (r : Result Reported ℕ) → read_report first ≡ r → read_reports text ≡ and_reports h.reports
      (and_report before r (reports_after (before + length (paper_lines first)) (cut_lines (paper_lines behind))))
  read_first r is =
      h.read ∙ ap (λ (cuts : List Lines). and_reports h.reports (reports_after before cuts)) cut
      ∙ ap (λ (x : Result Reported ℕ). and_reports h.reports (and_report before x
      (reports_after (before + length (paper_lines first)) (cut_lines (paper_lines behind))))) is

  -- a report that is refused refuses the file
  pub refused_first : (why : TableFault) → IsRefusal is_memory why (one_report file before (read_report first))
      → IsRefusal is_memory why (in_file file (read_reports text))
  refused_first why refused = unless_memory (is_memory why)
      (λ (e : one_report file before (read_report first) ≡ Err why). by (read_report first) refl e) refused
    where
      by : (r : Result Reported ℕ) → read_report first ≡ r → one_report file before r ≡ Err why
          → in_file file (read_reports text) ≡ Err why
      by (Ok r) is e = absurd cc
      by (Err n) is e = let same : BadReport file (before + n) ≡ why = cc in
          ap (in_file file) (read_first (Err n) is) ∙ ap Err same

  module _ (r : Reported) (is : read_report first ≡ Ok r) where
    -- the number of the first report's lines
    first_count : length (paper_lines first) ≡ line_count r
    first_count = lines_of_read (paper_lines first) r is

    -- the reports that were found, and the first of the rest
    abbrev more : List Placed
    more = found ++ record { file = file; before = before; report = r } ∷ []

    -- where they are
    more_added : more ≡ old ++ placed_after file 0 (h.reports ++ r ∷ [])
    more_added =
        let at : before ≡ 0 + all_lines h.reports = omega (arith, h.count) in
        let own : List Placed = record { file = file; before = before; report = r } ∷ [] in
        let apart = append_assoc old (placed_after file 0 h.reports) own in
        let all = placed_after-more file 0 h.reports r in
        cc

    -- what is read with it
    read_more : read_reports text
        ≡ and_reports (h.reports ++ r ∷ []) (reports_after (before + line_count r) (cut_lines (paper_lines behind)))
    read_more =
        read_first (Ok r) is ∙ and_reports-more h.reports r before _
        ∙ ap (λ (n : ℕ). and_reports (h.reports ++ r ∷ []) (reports_after (before + n)
        (cut_lines (paper_lines behind)))) first_count

    -- if nothing follows it, the file has been read
    pub all_added : (found_now : List Placed) → behind ≡ [] → found_now ≡ more → AddsReports file text old found_now
    all_added found_now none now = record {
      reports = h.reports ++ r ∷ [];
      read = read_more
          ∙ ap (λ (bytes : List ℕ). and_reports (h.reports ++ r ∷ [])
          (reports_after (before + line_count r) (cut_lines (paper_lines bytes)))) none
          ∙ ap Ok (append-nil (h.reports ++ r ∷ []));
      added = now ∙ more_added;
    }

    -- otherwise what follows it is read next
    pub one_added : (before_now : ℕ) (found_now : List Placed) → 0 < length behind → before_now ≡ before + line_count r
        → found_now ≡ more → HasAdded file text old before_now behind found_now
    one_added before_now found_now some count now = record {
      reports = h.reports ++ r ∷ [];
      added = now ∙ more_added;
      count = omega (arith, count, h.count, all_lines-more h.reports r);
      lines = omega (arith, count, h.lines, count_of_both rest first behind cut, first_count);
      read = read_more
          ∙ ap₂ (λ (n : ℕ) (cuts : List Lines). and_reports (h.reports ++ r ∷ []) (reports_after n cuts))
          (sym count) (sym (some_cut (paper_lines behind) (some_lines behind some)));
    }

    -- the numbers of its lines are at most the length of the text
    pub numbers_within : before + line_count r ≤ length text
    numbers_within =
        omega (arith, h.lines, count_of_both rest first behind cut, first_count, lines_within text)

-- ---- numbers that fit

-- the first bad line of a report is at most the one after its last
pub bad_within : (ls : Lines) (n : ℕ) → reported_lines ls ≡ Err n → n ≤ length ls + 1
bad_within ls n e =
    let at = in_order.ends ls n e in
    elim at.wrong [
      | inl w ↦ omega (arith, at.number, ap (λ (xs : Lines). length xs) w.2, length-append at.before (w.0 ∷ w.1))
      | inr all ↦ omega (arith, at.number, ap (λ (xs : Lines). length xs) all)
    ]

-- what follows a report that is read is shorter than both
pub behind_is_shorter : (rest first behind : List ℕ) (r : Reported) → rest ≡ first ++ behind
    → read_report first ≡ Ok r → length behind < length rest
behind_is_shorter rest first behind r parts is = omega (
  arith,
  ap (λ (xs : List ℕ). length xs) parts,
  length-append first behind,
  lines_of_read (paper_lines first) r is,
  lines_within first,
)
