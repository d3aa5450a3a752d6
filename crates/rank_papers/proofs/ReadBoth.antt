-- A report and a certificate are read together if and only if each is read.
use Rattle.std.proofs.Common.{◌≡◌, ℕ, List, Result, Ok, Err, ap, ◌∙◌}
use Rattle.std.specs.Prelude.{◌↔◌}
use Rattle.rank_papers.specs.ReportLines.{Reported, IsReportOf, read_report}
use Rattle.rank_papers.specs.Certificate.{Certified, IsCertificateOf}
use Rattle.rank_papers.specs.CertificateLines.{read_certificate}
use Rattle.rank_papers.specs.Papers.{of_both, read_papers}
use Rattle.rank_papers.specs.Laws.{CertificatesAreRead, ReportsAreRead}

-- both are read only if each is
each_read : (r : Result Reported ℕ) (z : Result Certified ℕ) (a : Reported) (b : Certified)
    → of_both r z ≡ Ok (a, b) → (r ≡ Ok a) × (z ≡ Ok b)
each_read (Err n) z a b e = absurd cc
each_read (Ok r) (Err n) a b e = absurd cc
each_read (Ok r) (Ok z) a b e =
    let same : (r, z) ≡ (a, b) = cc in
    (ap (λ (p : Reported × Certified). Ok p.0) same, ap (λ (p : Reported × Certified). Ok p.1) same)

-- the texts are read together as what they say
pub papers_read : ReportsAreRead → CertificatesAreRead → (report certificate : List ℕ) (r : Reported) (z : Certified)
    → (read_papers report certificate ≡ Ok (r, z)) ↔ (IsReportOf r report × IsCertificateOf z certificate)
papers_read reports certificates report certificate r z = (
  λ e.
      let each = each_read (read_report report) (read_certificate certificate) r z e in
      ((reports report r).0 each.0, (certificates certificate z).0 each.1),
  λ are.
      ap (λ (x : Result Reported ℕ). of_both x (read_certificate certificate)) ((reports report r).1 are.0)
      ∙ ap (λ (x : Result Certified ℕ). of_both (Ok r) x) ((certificates certificate z).1 are.1),
)
