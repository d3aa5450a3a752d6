-- Reports and certificates of one element's data: of data with the same stations, the same best candidates, the same
-- k-th score and the same morsels the same report and the same certificates are right.
use Rattle.std.proofs.Common.{◌≡◌, ℕ, List, map, Option, refl, sym, ap, ◌∙◌, subst, ℤ}
use Rattle.std.specs.List.{AllZip}
use Rattle.ghcn_series.specs.Meaning.Series.{Series}
use Rattle.ghcn_series.specs.Series.{Data}
use Rattle.rank_query.specs.Meaning.Asked.{Query}
use Rattle.rank_scores.specs.Morsels.{best_of_query, kth_of_query, morsels}
use Rattle.rank_scores.specs.OneElement.{data_for, BestStay, KthStays, MorselsStay}
use Rattle.rank_blocks.specs.Bounds.{bound}
use Rattle.rank_papers.specs.Report.{IsFoundReport}
use Rattle.rank_papers.specs.Certificate.{IsFoundCertificate, IsRightEntry, counts_of, certificate_text}
use Rattle.rank_papers.specs.PlanPapers.{IsMeasuredCertificate}
use Rattle.rank_papers.specs.OneElement.{ReportStays, CertificateStays, MeasuredStays}

-- what is right of a report in some data is right of it in others, if they have the same stations and the same best
report-moved : (q : Query) (a b : Data) (bytes : List ℕ) → a.stations ≡ b.stations →
    best_of_query q a ≡ best_of_query q b → IsFoundReport q a bytes → IsFoundReport q b bytes
report-moved q a b bytes listed same r = record {
  rows = r.rows;
  best = r.best ∙ same;
  listed = rw (sym listed) r.listed;
  text = r.text;
}

-- and of a certificate, if they have the same best, the same k-th score and the same morsels
certificate-moved : (q : Query) (a b : Data) (bytes : List ℕ) → best_of_query q a ≡ best_of_query q b →
    kth_of_query q a ≡ kth_of_query q b → morsels q a ≡ morsels q b → IsFoundCertificate q a bytes → IsFoundCertificate q b bytes
certificate-moved q a b bytes best kth same z = record {
  version = z.version;
  known = z.known;
  entries = z.entries;
  right =
      subst (λ (ss : List Series). AllZip (IsRightEntry q (kth_of_query q b)) z.entries ss) same
      (subst (λ (k : Option ℤ). AllZip (IsRightEntry q k) z.entries (morsels q a)) kth z.right);
  text = z.text ∙ λ i. certificate_text (record {
    version = z.version;
    query = q;
    kth = kth i;
    entries = z.entries;
    counts = counts_of z.version (best i) z.entries;
  });
}

-- and of one with the bounds of the series
measured-moved : (q : Query) (a b : Data) (bytes : List ℕ) → best_of_query q a ≡ best_of_query q b →
    kth_of_query q a ≡ kth_of_query q b → morsels q a ≡ morsels q b → IsMeasuredCertificate q a bytes →
    IsMeasuredCertificate q b bytes
unfolding certificate-moved
measured-moved q a b bytes best kth same z = record {
  certificate = certificate-moved q a b bytes best kth same z.certificate;
  version = z.version;
  bounds = z.bounds ∙ ap (map (bound q)) same;
}

-- a report, both ways
pub report_stays : BestStay → ReportStays
report_stays best q c bytes = (
  report-moved q (data_for q c) c bytes refl (best q c),
  report-moved q c (data_for q c) bytes refl (sym (best q c)),
)

-- a certificate
pub certificate_stays : BestStay → KthStays → MorselsStay → CertificateStays
certificate_stays best kth series q c bytes = (
  certificate-moved q (data_for q c) c bytes (best q c) (kth q c) (series q c),
  certificate-moved q c (data_for q c) bytes (sym (best q c)) (sym (kth q c)) (sym (series q c)),
)

-- and one with the bounds of the series
pub measured_stays : BestStay → KthStays → MorselsStay → MeasuredStays
measured_stays best kth series q c bytes = (
  measured-moved q (data_for q c) c bytes (best q c) (kth q c) (series q c),
  measured-moved q c (data_for q c) bytes (sym (best q c)) (sym (kth q c)) (sym (series q c)),
)
