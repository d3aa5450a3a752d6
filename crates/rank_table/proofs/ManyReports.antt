-- A text is read as reports if and only if it is their texts, one after the other.
use Rattle.std.proofs.Common.{◌≡◌, ◌↔◌, ℕ, ◌+◌, ◌<◌, List, [], ◌∷◌, ◌++◌, length, Result, Ok, Err, refl, sym, ap, ap₂}
use Rattle.std.proofs.Common.{◌∙◌, subst, append-nil, length-append, arith}
use Rattle.std.specs.List.{AllByRecursion, flat_map}
use Rattle.rank_papers.specs.Lines.{and_then, before_lines, paper_lines}
use Rattle.rank_papers.specs.Places.{IsFirstBadLine}
use Rattle.rank_papers.specs.ReportLines.{Reported, IsReported, reported_lines}
use Rattle.rank_papers.proofs.BadLines.{IsForm, first_bad}
use Rattle.rank_papers.proofs.LineValues.{same_text}
use Rattle.rank_papers.proofs.ReportTexts.{lines-written}
use Rattle.rank_papers.proofs.ReportValues.{lines-are, written}
use Rattle.rank_table.specs.Reading.{and_report, read_lines, read_reports, reports_after, reports_of_lines}
use Rattle.rank_table.specs.Reports.{AreReports, HoldsReports, text_of}
use Rattle.rank_table.proofs.Cuts.{Lines, joined, joined-reports}
use Rattle.rank_table.proofs.InOrder.{in_order}
use Rattle.rank_table.proofs.ReportLines.{end_is_last, end_of, ends_by_feed, front, front_has_none, written_read}
use Rattle.rank_table.proofs.Shifts.{read_last, read_more, shifted}

-- ---- the lines of texts, one after the other

-- a byte before some lines makes a line
has_line : (b : ℕ) (ls : Lines) → 0 < length (before_lines b ls)
has_line b ls = grind arith

-- so a text with a byte has one
pub some_lines : (bytes : List ℕ) → 0 < length bytes → 0 < length (paper_lines bytes)
some_lines [] some = absurd (omega arith)
some_lines (b ∷ bytes) some = has_line b (paper_lines bytes)

-- a byte before some lines, and others after these
before_some : (b : ℕ) (ls behind : Lines) → 0 < length ls → before_lines b (ls ++ behind) ≡ before_lines b ls ++ behind
before_some b [] behind some = absurd (omega arith)
before_some b (l ∷ ls) behind some = grind arith

-- the lines of bytes up to a line feed, and of what follows it
lines-feed : (body bytes : List ℕ)
    → paper_lines ((body ++ 10 ∷ []) ++ bytes) ≡ paper_lines (body ++ 10 ∷ []) ++ paper_lines bytes
lines-feed [] bytes = refl
lines-feed (b ∷ body) bytes =
    ap (before_lines b) (lines-feed body bytes)
    ∙ before_some b (paper_lines (body ++ 10 ∷ [])) (paper_lines bytes)
    (some_lines (body ++ 10 ∷ []) (omega (arith, length-append body (10 ∷ []))))

-- the lines of a report, and of what follows it
lines-report : (v : Reported) → IsReported v → (bytes : List ℕ)
    → paper_lines (text_of v ++ bytes) ≡ written v ++ paper_lines bytes
lines-report v can bytes =
    let ends = ends_by_feed v in
    ap (λ (t : List ℕ). paper_lines (t ++ bytes)) ends.1 ∙ lines-feed ends.0 bytes
    ∙ ap (λ (ls : Lines). ls ++ paper_lines bytes) (ap paper_lines (sym ends.1) ∙ lines-written v can)

-- the lines of reports
pub lines-reports : (rs : List Reported) → AllByRecursion IsReported rs
    → paper_lines (flat_map text_of rs) ≡ flat_map written rs
lines-reports [] can = refl
lines-reports (r ∷ rs) can =
    lines-report r can.0 (flat_map text_of rs) ∙ ap (λ (ls : Lines). written r ++ ls) (lines-reports rs can.1)

-- ---- what is written is read

-- the lines of reports, at least one, are read as these
lines-read : (r : Reported) (rs : List Reported) → AllByRecursion IsReported (r ∷ rs)
    → read_lines (flat_map written (r ∷ rs)) ≡ Ok (r ∷ rs)
lines-read r [] can = ap read_lines (append-nil (written r))
    ∙ read_last (front r) (end_of r) (front_has_none r) (end_is_last r) r (written_read r can.0)
lines-read r (s ∷ rs) can =
    read_more (front r) (end_of r) (front_has_none r) (end_is_last r) r (written_read r can.0) _ _
    ∙ ap (λ (x : Result (List Reported) ℕ). and_then r (shifted (0 + length (written r)) x)) (lines-read s rs can.1)

-- so is a text that holds them
text_read : (bytes : List ℕ) (rs : List Reported) → HoldsReports bytes rs → read_reports bytes ≡ Ok rs
text_read bytes [] h = absurd (omega (arith, h.some))
text_read bytes (r ∷ rs) h =
    ap read_reports h.text ∙ ap read_lines (lines-reports (r ∷ rs) h.can_be) ∙ lines-read r rs h.can_be

-- ---- what is read is written

-- a report before others was read
and_report-some : (before : ℕ) (r : Result Reported ℕ) (rest : Result (List Reported) ℕ) (rs : List Reported)
    → and_report before r rest ≡ Ok rs
    → (v : Reported) × (vs : List Reported) × (r ≡ Ok v) × (rest ≡ Ok vs) × (rs ≡ v ∷ vs)
and_report-some before (Err n) rest rs e = absurd cc
and_report-some before (Ok v) (Err n) rs e = absurd cc
and_report-some before (Ok v) (Ok vs) rs e = (v, vs, refl, refl, cc)

-- what is read of lines: reports that can be, whose lines these are
abbrev AreRead : Lines → List Reported → Type 0
AreRead ls rs = AllByRecursion IsReported rs × (ls ≡ flat_map written rs)

-- so it is with lines that were cut
are_read : (before : ℕ) (cuts : List Lines) (rs : List Reported) → reports_after before cuts ≡ Ok rs
    → AreRead (joined cuts) rs
are_read before [] rs e = let none : [] ≡ rs = cc in subst (AreRead []) none (tt, refl)
are_read before (ls ∷ cuts) rs e =
    let it = and_report-some before (reported_lines ls) (reports_after (before + length ls) cuts) rs e in
    let own = lines-are ls it.0 it.2 in
    let more = are_read (before + length ls) cuts it.1 it.3 in
    subst (AreRead (ls ++ joined cuts)) (sym it.4) ((own.0, more.0), ap₂ (λ (x y : Lines). x ++ y) own.1 more.1)

-- and with lines that are cut
read_are : (ls : Lines) (rs : List Reported) → read_lines ls ≡ Ok rs → AreRead ls rs
read_are ls rs e =
    let it = are_read 0 (reports_of_lines ls) rs e in (it.0, sym (joined-reports ls) ∙ it.1)

-- there is at least one
some_read : (ls : Lines) (rs : List Reported) → read_lines ls ≡ Ok rs → 0 < length rs
some_read ls [] e =
    let no : read_lines [] ≡ Ok [] = ap read_lines (sym (read_are ls [] e).1) ∙ e in absurd cc
some_read ls (r ∷ rs) e = omega arith

-- so a text holds what is read of it
text_holds : (bytes : List ℕ) (rs : List Reported) → read_reports bytes ≡ Ok rs → HoldsReports bytes rs
text_holds bytes rs e =
    let are = read_are (paper_lines bytes) rs e in
    record {
      some = some_read (paper_lines bytes) rs e;
      can_be = are.0;
      text = same_text bytes (flat_map text_of rs) (are.1 ∙ sym (lines-reports rs are.0));
    }

-- both directions
pub text_is_read : (bytes : List ℕ) (rs : List Reported) → (read_reports bytes ≡ Ok rs) ↔ HoldsReports bytes rs
text_is_read bytes rs = (text_holds bytes rs, text_read bytes rs)

-- ---- the first bad line

-- the form of texts of reports
form : IsForm AreReports read_lines
form = record {
  is_read = λ bytes is. (is.0, text_read bytes is.0 is.1);
  has_text = λ ls rs e.
      let are = read_are ls rs e in (
        flat_map text_of rs,
        (rs, record { some = some_read ls rs e; can_be = are.0; text = refl }),
        lines-reports rs are.0 ∙ sym are.1,
      );
}

-- where the reading of a text ends is its first bad line
pub text_goes_wrong : (bytes : List ℕ) (n : ℕ) → (read_reports bytes ≡ Err n) ↔ IsFirstBadLine AreReports bytes n
text_goes_wrong = first_bad AreReports read_lines form in_order
