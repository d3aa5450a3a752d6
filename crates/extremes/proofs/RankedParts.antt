-- What is ranked in parts and merged is ranked.
use Rattle.std.proofs.Common.{◌≡◌, ◌⊎◌, inl, inr, ℕ, List, [], ◌∷◌, ◌++◌, length, Option, None, Some, refl, sym, ap}
use Rattle.std.proofs.Common.{◌∙◌, subst, arith}
use Rattle.std.specs.Prelude.{Result, Ok, Err, slice_index_or}
use Rattle.std.specs.List.{AllByRecursion, flat_map}
use Rattle.ghcn_files.specs.declared.station.StationId.{StationId}
use Rattle.ghcn_files.specs.declared.station.Station.{Station}
use Rattle.ghcn_files.specs.Listed.{listed}
use Rattle.ghcn_series.specs.Laws.{DataAreRight}
use Rattle.ghcn_series.specs.SaidLists.{said_by, stations_said}
use Rattle.ghcn_series.specs.Says.{data_of}
use Rattle.ghcn_series.specs.Series.{Data}
use Rattle.rank_query.specs.Meaning.Asked.{Query}
use Rattle.rank_query.proofs.Asks.{asks_read}
use Rattle.rank_scores.specs.Cut.{Filed}
use Rattle.rank_scores.specs.Morsels.{best_of_query, kth_of_query}
use Rattle.rank_papers.specs.Meaning.Report.{query_line, report_text}
use Rattle.rank_papers.specs.Report.{IsFoundReport}
use Rattle.rank_papers.specs.Meaning.Certificate.{title_line, kth_line, entry_line, end_line}
use Rattle.rank_papers.specs.Certificate.{IsFoundCertificate, certificate_text, counted, counts_of}
use Rattle.rank_papers.specs.RightLaws.{ReportsAreFound, CertificatesAreFound, ReportsAreSaid, CertificatesAreSaid}
use Rattle.rank_merge.specs.declared.fault.MergeFault.{MergeFault}
use Rattle.rank_merge.specs.Laws.{ArePapersOf, all_files, all_texts}
use Rattle.rank_merge.specs.Merged.{Part, merged_certificate, merged_entries, merged_rows}
use Rattle.rank_merge.specs.Merging.{Texts, papers_of, papers_unless, parts_from, twice}
use Rattle.extremes.proofs.Readings.{one_value, one_query, data_is_said, held_is_said}
use Rattle.extremes.proofs.RightAnswers.{answers_right}
use Rattle.extremes.specs.Answer.{IsFaultless}
use Rattle.extremes.specs.RankedInParts.{IsRankedPart, MergedIsRanked}

-- of files without an error, what they say is read
said_read : (query stations : List ℕ) (files : List (List ℕ)) (list : List Station) → listed stations ≡ Ok list
    → IsFaultless query stations files → data_of list files ≡ Ok (said_by (stations_said stations) files)
said_read query stations files list lists f =
    subst (λ (c : Data). data_of list files ≡ Ok c) (held_is_said query stations files f.asked f.dataset f.read)
    (subst (λ (l : List Station). data_of l files ≡ Ok f.dataset) (one_value _ _ _ f.read.lists lists) f.read.holds)

-- so it is for the stations that the list says
said_held : (query stations : List ℕ) (files : List (List ℕ)) → IsFaultless query stations files
    → data_of (stations_said stations) files ≡ Ok (said_by (stations_said stations) files)
said_held query stations files f =
    subst (λ (c : Data). data_of (stations_said stations) files ≡ Ok c)
    (held_is_said query stations files f.asked f.dataset f.read)
    (data_is_said query stations files f.asked f.dataset f.read)

-- ---- the version of what is merged

-- the certificate that is merged begins as one of version 2
begins_as_two : (q : Query) (parts : Result (List Part) MergeFault) (papers : Texts) → papers_of q parts ≡ Ok papers
    → (rest : List ℕ) × (papers.1 ≡ title_line 2 ++ rest)
begins_as_two q (Err why) papers e = absurd cc
begins_as_two q (Ok ps) papers e = by (twice (merged_entries ps)) e
  where
    by : (o : Option StationId) → papers_unless o q ps ≡ Ok papers
        → (rest : List ℕ) × (papers.1 ≡ title_line 2 ++ rest)
    by (Some id) e = absurd cc
    by None e =
        let v = merged_certificate q ps in
        let same : papers ≡ (report_text q (merged_rows q.k ps), certificate_text v) = cc in (
          query_line q ++ kth_line v.kth ++ flat_map (entry_line 2) (counted v.entries v.counts)
              ++ end_line (length v.entries),
          ap (λ (t : Texts). t.1) same,
        )

-- so a certificate that begins so is of version 2
of_version_two : (q : Query) (c : Data) (bytes other : List ℕ) (h : IsFoundCertificate q c bytes)
    → bytes ≡ title_line 2 ++ other → h.version ≡ 2
of_version_two q c bytes other h begins = by h.known
  where
    -- the text of such a certificate of a version
    text : ℕ → List ℕ
    text version = certificate_text (record {
      version = version;
      query = q;
      kth = kth_of_query q c;
      entries = h.entries;
      counts = counts_of version (best_of_query q c) h.entries;
    })

    by : (h.version ≡ 1) ⊎ (h.version ≡ 2) → h.version ≡ 2
    by (inr two) = two
    by (inl one) =
        let first : text 1 ≡ title_line 2 ++ other =
        subst (λ (v : ℕ). text v ≡ title_line 2 ++ other) one (sym h.text ∙ begins) in
        let byte : 49 ≡ 50 = ap (λ (t : List ℕ). slice_index_or t 21 0) first in
        absurd (omega (arith, byte))

-- ---- what is ranked in parts

module _ (are_right : DataAreRight) (reports : ReportsAreFound) (certificates : CertificatesAreFound)
    (reports_said : ReportsAreSaid) (certificates_said : CertificatesAreSaid) where
  -- a report and a certificate that a ranking returns for a part's files are right for them
  ranked-right : (stations : List ℕ) (q : Query) (list : List Station) (p : Filed) → listed stations ≡ Ok list
      → IsRankedPart q stations p → ArePapersOf q list p.0 p.1
  ranked-right stations q list p lists is =
      let a = is.answer in
      let right = answers_right is.query stations p.0 list is.papers lists a in
      let said = stations_said stations in
      let dataset = said_by said p.0 in
      let read = said_held is.query stations p.0 is.faultless in
      let holds = said_read is.query stations p.0 list lists is.faultless in
      let contents = are_right stations list p.0 dataset lists holds in
      let same : a.asked ≡ q = one_query is.query a.asked q a.asks is.asks in
      let report = (reports a.asked dataset is.papers.report.items a.asks.can contents).1
      ((reports_said a.asked said p.0 dataset is.papers.report.items read).1 right.report) in
      let certificate = (certificates 2 a.asked dataset is.papers.certificate.items a.asks.can contents).1
      ((certificates_said 2 a.asked said p.0 dataset is.papers.certificate.items read).1 right.certificate) in
      record {
        dataset = dataset;
        read = holds;
        report = subst (λ (x : Query). IsFoundReport x dataset p.1.0) same
            (subst (IsFoundReport a.asked dataset) (sym (ap (λ (t : List ℕ × List ℕ). t.0) is.texts)) report);
        certificate = subst (λ (x : Query). IsFoundCertificate x dataset p.1.1) same
            (subst (IsFoundCertificate a.asked dataset) (sym (ap (λ (t : List ℕ × List ℕ). t.1) is.texts)) certificate.0);
      }

  -- so are those of all parts
  all-ranked-right : (stations : List ℕ) (q : Query) (list : List Station) (parts : List Filed)
      → listed stations ≡ Ok list → AllByRecursion (IsRankedPart q stations) parts
      → AllByRecursion (λ p. ArePapersOf q list p.0 p.1) parts
  all-ranked-right stations q list [] lists are = tt
  all-ranked-right stations q list (p ∷ ps) lists are = (
    ranked-right stations q list p lists are.0,
    all-ranked-right stations q list ps lists are.1,
  )

  -- what is ranked in parts and merged is ranked
  pub merged-is-ranked : MergedIsRanked
  merged-is-ranked query merging stations parts whole merged answer faultless ranked asks is =
      let said = stations_said stations in
      let files = all_files parts in
      let dataset = said_by said files in
      let r = faultless.read in
      let read = said_held query stations files faultless in
      let holds = said_read query stations files r.list r.lists faultless in
      let contents = are_right stations r.list files dataset r.lists holds in
      let bytes : List ℕ = merged.certificate.items in
      let report = (reports answer.asked dataset whole.report.items answer.asks.can contents).1
      ((reports_said answer.asked said files dataset whole.report.items read).1
      (answers_right query stations files r.list whole r.lists answer).report) in
      let same : is.asked ≡ answer.asked = one_value _ _ _ is.read (asks_read merging answer.asked asks) in
      let ranked_for : AllByRecursion (IsRankedPart is.asked stations) parts =
      subst (λ (q : Query). AllByRecursion (IsRankedPart q stations) parts) (sym same) ranked in
      let right = is.right stations r.list parts dataset r.lists refl
      (all-ranked-right stations is.asked r.list parts r.lists ranked_for) holds in
      let begins = begins_as_two is.asked (parts_from is.asked 1 (all_texts parts)) (merged.report.items, bytes)
      is.merged in
      let of_two : (h : IsFoundCertificate is.asked dataset bytes) × (h.version ≡ 2) =
      (right.1, of_version_two is.asked dataset bytes begins.0 right.1 begins.1) in
      let found = subst (λ (q : Query). (h : IsFoundCertificate q dataset bytes) × (h.version ≡ 2)) same of_two in (
        sym (right.0.1 whole.report.items
            (subst (λ (q : Query). IsFoundReport q dataset whole.report.items) (sym same) report)),
        (certificates_said 2 answer.asked said files dataset bytes read).0
            ((certificates 2 answer.asked dataset bytes answer.asks.can contents).0 found),
      )
