-- Where the reading of a certificate ends is its first bad line.
use Rattle.std.proofs.Common.{ℕ, None, refl, sym, ◌∙◌}
use Rattle.rank_query.specs.Meaning.Asked.{Query}
use Rattle.rank_papers.specs.Meaning.Report.{query_line}
use Rattle.rank_papers.specs.Meaning.Certificate.{title_line, kth_line, end_line}
use Rattle.rank_papers.specs.Certificate.{certificate_text}
use Rattle.rank_papers.specs.Lines.{query_in}
use Rattle.rank_papers.specs.Places.{IsCertificateText}
use Rattle.rank_papers.specs.CertificateLines.{kth_in, entry_in, entries_in, with_entries, behind_query, behind_title, version_in, certified_lines}
use Rattle.rank_papers.specs.Laws.{CertificatesGoWrong}
use Rattle.rank_papers.proofs.BadLines.{IsInOrder, by_line, values_in_order, IsForm, first_bad}
use Rattle.rank_papers.proofs.CertificateValues.{with_lines, lines-are}
use Rattle.rank_papers.proofs.CertificateTexts.{lines-written, entry_in-end, text_read}
use Rattle.rank_papers.proofs.ReadLines.{some_query, some_query-line}

-- entries are read one after the other
entries_in_order : (w : ℕ) → IsInOrder (entries_in w 0) 4
entries_in_order w = values_in_order 4 (λ m. entry_in w) end_line (λ n. entry_in-end n w)

-- so are a k-th score and entries
behind_query_in_order : (w : ℕ) (q : Query) → IsInOrder (behind_query w q) 3
behind_query_in_order w q = by_line kth_in (λ k. entries_in w 0) (with_entries w q) (behind_query w q) 3 (record {
  none = refl;
  some = λ l ls. refl;
  keeps = λ k. record { wrong = λ n. refl; right = λ es. (with_lines w q k es, refl) };
}) (kth_line None) None refl (λ k. entries_in_order w)

-- with a query before them
behind_title_in_order : (w : ℕ) → IsInOrder (behind_title w) 2
behind_title_in_order w = by_line query_in (behind_query w) (λ q r. r) (behind_title w) 2 (record {
  none = refl;
  some = λ l ls. refl;
  keeps = λ q. record { wrong = λ n. refl; right = λ v. (v, refl) };
}) (query_line some_query) some_query some_query-line (behind_query_in_order w)

-- and with a title before it
in_order : IsInOrder certified_lines 1
in_order = by_line version_in behind_title (λ w r. r) certified_lines 1 (record {
  none = refl;
  some = λ l ls. refl;
  keeps = λ w. record { wrong = λ n. refl; right = λ v. (v, refl) };
}) (title_line 1) 1 refl behind_title_in_order

-- the form of a certificate
form : IsForm IsCertificateText certified_lines
form = record {
  is_read = λ bytes is. (is.0, text_read bytes is.0 is.1);
  has_text = λ ls v e.
      let are = lines-are ls v e in
      (certificate_text v, (v, record { can_be = are.0; text = refl }), lines-written v are.0 ∙ sym are.1);
}

-- where the reading of a text ends is its first bad line
pub certificates_wrong : CertificatesGoWrong
certificates_wrong = first_bad IsCertificateText certified_lines form in_order
