-- What all parts accept is right for all files, and the other way round.
use Rattle.std.proofs.Common.{◌≡◌, ℕ, List, [], ◌∷◌, ◌++◌, length, map, refl, sym, ap, ◌∙◌, subst, arith}
use Rattle.std.specs.Prelude.{Ok}
use Rattle.std.specs.List.{flat_map, AllByRecursion, AllZip}
use Rattle.ghcn_files.specs.declared.station.Station.{Station}
use Rattle.ghcn_files.specs.Listed.{listed}
use Rattle.ghcn_series.specs.Laws.{DataAreRight}
use Rattle.ghcn_series.specs.SaidLists.{said_by, stations_said}
use Rattle.ghcn_series.specs.Says.{data_of}
use Rattle.ghcn_series.specs.Series.{Data}
use Rattle.rank_query.specs.Meaning.Asked.{Query}
use Rattle.rank_papers.specs.RightLaws.{ReportsAreFound, CertificatesAreFound, ReportsAreSaid, CertificatesAreSaid}
use Rattle.rank_parts.specs.Parts.{part_verdict}
use Rattle.rank_parts.specs.Laws as parts
use Rattle.rank_parts.specs.Laws.{AreDataOf, FilesMakeTheWhole}
use Rattle.extremes.specs.JudgedInParts.{JudgedPart, IsJudgedFor, said_by_parts, FilesAccept, PartsJudgeTheWhole}
use Rattle.extremes.proofs.Answering.{right_texts, texts_said}
use Rattle.extremes.proofs.Readings.{one_value, one_query, data_is_said, held_is_said}

-- the files of all parts are those of each, one part after the other
files-in-order : (ps : List JudgedPart) → flat_map (λ files. files) (map (λ p. p.files) ps) ≡ flat_map (λ p. p.files) ps
files-in-order [] = refl
files-in-order (p ∷ ps) = ap (λ (rest : List (List ℕ)). p.files ++ rest) (files-in-order ps)

-- as many parts as there are say something
length-said : (stations : List ℕ) (ps : List JudgedPart) → length (said_by_parts stations ps) ≡ length ps
length-said stations [] = refl
length-said stations (p ∷ ps) = omega (arith, length-said stations ps)

module _ (stations report certificate : List ℕ) (q : Query) where
  -- each part's verdict is about this report and this certificate
  abbrev All : List JudgedPart → Type 0
  All ps = AllByRecursion (IsJudgedFor q stations report certificate) ps

  -- a part's verdict is that on what its files say
  verdict-is : (p : JudgedPart) → IsJudgedFor q stations report certificate p
      → p.verdict ≡ part_verdict q (said_by (stations_said stations) p.files) report certificate
  verdict-is p is =
      let j = is.judged in
      j.verdict
      ∙ ap (λ (a : Query). part_verdict a j.dataset report certificate)
      (one_query p.query j.asked q j.read.asks is.asks)
      ∙ ap (λ (d : Data). part_verdict q d report certificate)
      (held_is_said p.query stations p.files j.asked j.dataset j.read)

  -- what the files of the parts say are their data
  each-holds : (list : List Station) → listed stations ≡ Ok list → (ps : List JudgedPart) → All ps
      → AllZip (AreDataOf list) (map (λ p. p.files) ps) (said_by_parts stations ps)
  each-holds list lists [] all = tt
  each-holds list lists (p ∷ ps) all =
      let j = all.0.judged in (
        subst (λ (d : Data). data_of list p.files ≡ Ok d)
            (held_is_said p.query stations p.files j.asked j.dataset j.read)
            (subst (λ (l : List Station). data_of l p.files ≡ Ok j.dataset) (one_value _ _ _ j.read.lists lists)
            j.read.holds),
        each-holds list lists ps all.1,
      )

  -- if the parts accept, their data do
  data-accept : (lines : ℕ) (ps : List JudgedPart) (series : List ℕ) → All ps → AllZip (FilesAccept lines) ps series
      → AllZip (parts.Accepts q report certificate lines) (said_by_parts stations ps) series
  data-accept lines [] [] all accept = tt
  data-accept lines [] (n ∷ ns) all accept = absurd accept
  data-accept lines (p ∷ ps) [] all accept = absurd accept
  data-accept lines (p ∷ ps) (n ∷ ns) all accept =
      (sym (verdict-is p all.0) ∙ accept.0, data-accept lines ps ns all.1 accept.1)

  -- and the other way round
  parts-accept : (lines : ℕ) (ps : List JudgedPart) (series : List ℕ) → All ps
      → AllZip (parts.Accepts q report certificate lines) (said_by_parts stations ps) series
      → AllZip (FilesAccept lines) ps series
  parts-accept lines [] [] all accept = tt
  parts-accept lines [] (n ∷ ns) all accept = absurd accept
  parts-accept lines (p ∷ ps) [] all accept = absurd accept
  parts-accept lines (p ∷ ps) (n ∷ ns) all accept =
      (verdict-is p all.0 ∙ accept.0, parts-accept lines ps ns all.1 accept.1)

-- so a report and a certificate are right for all files if and only if the parts accept them
pub parts-judge-the-whole : DataAreRight → ReportsAreFound → CertificatesAreFound → ReportsAreSaid
    → CertificatesAreSaid → FilesMakeTheWhole → PartsJudgeTheWhole
parts-judge-the-whole are_right found certified reports_said certificates_said whole query stations report certificate
    ps q c r some all apart =
    let files = flat_map (λ (p : JudgedPart). p.files) ps in
    let ds = said_by_parts stations ps in
    let exactly = whole q stations r.list (map (λ (p : JudgedPart). p.files) ps) ds c report certificate r.asks.can
    r.lists (record {
      each = each-holds stations report certificate q r.list r.lists ps all;
      all = ap (data_of r.list) (files-in-order ps) ∙ r.holds;
      apart = apart;
    }) (omega (arith, length-said stations ps, some)) in
    let are = right_texts q c report certificate found certified r.asks.can
    (are_right stations r.list files c r.lists r.holds) in
    let said = texts_said reports_said certificates_said q (stations_said stations) files c report certificate
    (data_is_said query stations files q c r) in (
      λ accept. said.0 (are.0 (exactly.0 (record {
        lines = accept.lines;
        series = accept.series;
        accepted = data-accept stations report certificate q accept.lines ps accept.series all accept.accepted;
        sum = accept.sum;
      }))),
      λ right.
          let accept = exactly.1 (are.1 (said.1 right)) in record {
            lines = accept.lines;
            series = accept.series;
            accepted = parts-accept stations report certificate q accept.lines ps accept.series all accept.accepted;
            sum = accept.sum;
          },
    )
