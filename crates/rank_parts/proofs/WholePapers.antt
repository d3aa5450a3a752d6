-- A report and a certificate that all parts accept are right for the whole.
use Rattle.rank_parts.proofs.Cited.{◌≡◌, ℕ, ◌<◌, List, [], ◌∷◌, length, map, Option, Result, Ok, Err, refl, sym, ap}
use Rattle.rank_parts.proofs.Cited.{◌∙◌, subst, arith, flat_map, sum, AllZip, option_map_or, Station, Data, data_of}
use Rattle.rank_parts.proofs.Cited.{IsContents, DataAreRight, Query, IsAsked, Candidate, morsels, kth_of_query, IsCut}
use Rattle.rank_parts.proofs.Cited.{IsDataOf, Filed, CutByFiles, IsFoundReport, Reported, IsReported, SaysRightReport}
use Rattle.rank_parts.proofs.Cited.{Certified, IsCertified, IsFoundCertificate, IsRightEntry, SaysRightCertificate, ◌↔◌}
use Rattle.rank_parts.proofs.Cited.{count_of, counts_of, Paper, read_papers, papers_read, CertificatesAreRead, Refusal}
use Rattle.rank_parts.proofs.Cited.{RightCertificatesSayRight, ReportsAreRead, RightReportsSayRight, HeadsAreRight, inr}
use Rattle.rank_parts.proofs.Cited.{IsRightHead, RightInPieces, Accepted, Refused, part_judged, AllAccept, AreDataOf}
use Rattle.rank_parts.proofs.Cited.{PartsMakeTheWhole, FilesMakeTheWhole, AllZip-long, zip-weaker, flat_map-map, ◌≤◌}
use Rattle.rank_parts.proofs.Cited.{of_rows, length-map, IsCount, ints, count_by-le-length, Line, Named, IsAccepted}
use Rattle.rank_parts.proofs.EntryLists.{rise_ids, zip_each, absent_where}
use Rattle.rank_parts.proofs.OwnLines.{SeesNothing, sees_nothing, add_up, line_accepted, line_for}
use Rattle.rank_parts.proofs.OwnLines.{nothing_refused, recounted}
use Rattle.rank_parts.proofs.StationRows.{few_rows, k_within}

-- ---- the counts of rows

-- a right head is right with the counts of another version
with_counts : (q : Query) (r : Reported) (z : Certified) (version : ℕ) (counts : List ℕ)
    → counts ≡ counts_of version (of_rows r.rows) z.entries → IsRightHead q r z
    → IsRightHead q r (record z { version = version; counts = counts })
with_counts q r z version counts are h = record {
  report = h.report;
  certificate = h.certificate;
  order = h.order;
  kth = h.kth;
  rise = h.rise;
  scanned = h.scanned;
  counts = are;
}

-- the count of few rows can be
count_can : (ds : List Candidate) (e : Line) → length ds ≤ 1000 → IsCount e (count_of ds e)
count_can ds e few = grind (arith, ints, count_by-le-length)

-- so with the counts of the rows the certificate can be, if the report has the query
recounted_can : (q : Query) (r : Reported) (z : Certified) → IsAsked q → IsReported r → IsCertified z
    → r.query ≡ q → IsCertified (recounted r.rows z)
recounted_can q r z asked report can same =
    let few : length (of_rows r.rows) ≤ 1000 =
    omega (arith, few_rows q r report same, (k_within q asked).1, length-map r.rows (λ (row : Named). row.0)) in
    let counts = (zip_each IsCount (count_of (of_rows r.rows)) z.entries).1 (λ e k. count_can (of_rows r.rows) e few) in
    record { asked = can.asked; kth = can.kth; entries = can.entries; counts = inr (refl, counts) }

-- ---- a report and a certificate that were read

-- of two lists that go together, of which the one isn't empty, two first elements
one_of_each : (R : Data → ℕ → Type 0) (es : List Data) (ns : List ℕ) → 0 < length es → AllZip R es ns
    → (d : Data) × (n : ℕ) × R d n
one_of_each R [] ns some h = absurd (omega (arith, some))
one_of_each R (d ∷ es) [] some h = absurd h
one_of_each R (d ∷ es) (n ∷ ns) some h = (d, n, h.0)

module _ (certificates : CertificatesAreRead) (right_certificates : RightCertificatesSayRight)
    (reports : ReportsAreRead) (right_reports : RightReportsSayRight) (heads : HeadsAreRight) (pieces : RightInPieces)
    (q : Query) (c : Data) (ds : List Data) (report certificate : List ℕ) (asked : IsAsked q)
    (dataset : IsContents c) (cut : IsCut q c ds) where
  module _ (r : Reported) (z : Certified) (can_report : IsReported r) (can_certificate : IsCertified z) where
    -- a report and a certificate that all parts accept say what is right
    accepted_say : (m : ℕ) (ns : List ℕ) → 0 < length ds
        → AllZip (λ d n. part_judged q d (Ok (r, z)) ≡ Accepted n m) ds ns → sum ns ≡ m
        → SaysRightReport q c r × SaysRightCertificate q c z
    accepted_say m ns some h adds =
        let seen = zip-weaker (λ (d : Data) (n : ℕ). part_judged q d (Ok (r, z)) ≡ Accepted n m)
        (λ (d : Data) (n : ℕ). SeesNothing q d r z n m) ds ns (λ d n e. sees_nothing q d r z n m e) h in
        let first = (one_of_each (λ (d : Data) (n : ℕ). SeesNothing q d r z n m) ds ns some seen).2 in
        let head = (heads q r z asked can_report can_certificate).0 first.head in
        let both = (pieces q c r (recounted r.rows z) asked dataset can_report
        (recounted_can q r z asked can_report can_certificate head.report) refl).1 (record {
          head = with_counts q r z 2 (map (count_of (of_rows r.rows)) z.entries) refl head;
          lines = (zip_each (IsAccepted q c r.rows) (count_of (of_rows r.rows)) z.entries).1
              (line_accepted q c ds dataset cut r z ns m seen (rise_ids z.entries head.rise) first.long adds);
          absent = absent_where q c z.entries (line_for q c ds dataset cut r z ns m seen);
        }) in
        let counts = head.counts ∙ ap (λ (l : List Candidate). counts_of z.version l z.entries) both.0.best in
        (both.0, record { asked = both.1.asked; kth = both.1.kth; entries = both.1.entries; counts = counts })

    -- ---- and back

    -- if a report and a certificate say what is right, their pieces and their head are right, so each part accepts them
    accepted_by : SaysRightReport q c r → SaysRightCertificate q c z
        → AllZip (λ d n. part_judged q d (Ok (r, z)) ≡ Accepted n (length z.entries)) ds
        (map (λ (d : Data). length (morsels q d)) ds)
    accepted_by said told = let counts = ap (λ (l : List Candidate). map (count_of l) z.entries) said.best in
        let right = (pieces q c r (recounted r.rows z) asked dataset can_report
        (recounted_can q r z asked can_report can_certificate said.asked) refl).0
        (said, record { asked = told.asked; kth = told.kth; entries = told.entries; counts = counts }) in
        let head = with_counts q r (recounted r.rows z) z.version z.counts
        (told.counts ∙ ap (λ (l : List Candidate). counts_of z.version l z.entries) (sym said.best)) right.head in
        let fine = (heads q r z asked can_report can_certificate).1 head in
        (zip_each (λ (d : Data) (n : ℕ). part_judged q d (Ok (r, z)) ≡ Accepted n (length z.entries))
        (λ (d : Data). length (morsels q d)) ds).1 (λ d h.
        ap (λ (f : Option Refusal). option_map_or Refused f (Accepted (length (morsels q d)) (length z.entries)))
        (nothing_refused q c ds cut r z right d h fine))

  -- ---- texts

  -- a report and a certificate that all parts accept are right for all data
  right_whole : 0 < length ds → AllAccept q report certificate ds
      → IsFoundReport q c report × IsFoundCertificate q c certificate
  right_whole some all = by (read_papers report certificate) refl all.accepted
    where
      by : (p : Result (Reported × Certified) (Paper × ℕ)) → read_papers report certificate ≡ p
          → AllZip (λ d n. part_judged q d p ≡ Accepted n all.lines) ds all.series
          → IsFoundReport q c report × IsFoundCertificate q c certificate
      by (Ok (r, z)) e h = let are = (papers_read reports certificates report certificate r z).0 e in
          let both = accepted_say r z are.0.can_be are.1.can_be all.lines all.series some h all.sum in (
            (right_reports q c report asked dataset).1 (r, are.0, both.0),
            (right_certificates q c certificate asked dataset).1 (z, are.1, both.1),
          )
      by (Err bad) e h =
          let one = one_of_each (λ (d : Data) (n : ℕ). part_judged q d (Err bad) ≡ Accepted n all.lines) ds
          all.series some h in
          let no : part_judged q one.0 (Err bad) ≡ Accepted one.1 all.lines = one.2 in absurd cc

  -- and a right report and a right certificate are accepted by all parts
  all_accept : IsFoundReport q c report → IsFoundCertificate q c certificate → AllAccept q report certificate ds
  all_accept is_report is_certificate = let said = (right_reports q c report asked dataset).0 is_report in
      let told = (right_certificates q c certificate asked dataset).0 is_certificate in
      let read = (papers_read reports certificates report certificate said.0 told.0).1 (said.1, told.1) in
      record {
        lines = length told.0.entries;
        series = map (λ (d : Data). length (morsels q d)) ds;
        accepted = subst (λ (x : Result (Reported × Certified) (Paper × ℕ)). AllZip (λ d n. part_judged q d x
            ≡ Accepted n (length told.0.entries)) ds (map (λ (d : Data). length (morsels q d)) ds)) (sym read)
            (accepted_by said.0 told.0 said.1.can_be told.1.can_be said.2 told.2);
        sum = add_up q c ds cut
            ∙ AllZip-long (IsRightEntry q (kth_of_query q c)) told.0.entries (morsels q c) told.2.entries;
      }

  -- so they are right if and only if all parts accept them
  pub whole : 0 < length ds
      → AllAccept q report certificate ds ↔ (IsFoundReport q c report × IsFoundCertificate q c certificate)
  whole some = (right_whole some, λ h. all_accept h.0 h.1)

-- ---- files

-- files without a report and a certificate, as parts that have them
abbrev without_papers : List (List ℕ) → Filed
without_papers files = (files, ([], []))

-- their data
data_filed : (stations : List Station) (parts : List (List (List ℕ))) (ds : List Data)
    → AllZip (AreDataOf stations) parts ds → AllZip (IsDataOf stations) (map without_papers parts) ds
data_filed stations [] [] h = tt
data_filed stations (p ∷ parts) (d ∷ ds) h = (h.0, data_filed stations parts ds h.1)
data_filed stations _ _ h = absurd h

-- a report and a certificate are right for all files if and only if all parts accept them
pub of_files : PartsMakeTheWhole → CutByFiles → DataAreRight → FilesMakeTheWhole
of_files whole cut are_right q list stations parts ds c report certificate asked lists are some =
    whole q c ds report certificate asked
    (are_right list stations (flat_map (λ (files : List (List ℕ)). files) parts) c lists are.all)
    (cut q stations (map without_papers parts) ds c (data_filed stations parts ds are.each)
    (ap (data_of stations) (flat_map-map (λ (p : Filed). p.0) without_papers parts) ∙ are.all) are.apart) some
