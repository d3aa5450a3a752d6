-- An input determines the report, and with a guess all that one worker returns.
use Rattle.std.proofs.Common.{◌≡◌, ℕ, List, [], ◌∷◌, Option, refl, sym, ap, ◌∙◌, subst, map, ℤ}
use Rattle.std.specs.Prelude.{Some, find}
use Rattle.std.specs.List.{AllByRecursion}
use Rattle.ghcn_files.specs.declared.station.Station.{Station}
use Rattle.ghcn_files.specs.Meaning.Listed.{is_station_of}
use Rattle.ghcn_series.specs.SaidLists.{said_by, stations_said}
use Rattle.ghcn_series.specs.Series.{Data}
use Rattle.rank_query.specs.Meaning.Asked.{Query}
use Rattle.rank_scores.specs.declared.candidate.Candidate.{Candidate}
use Rattle.rank_sched.specs.Plan.{Plan, planned}
use Rattle.rank_sched.specs.Task.{task_of}
use Rattle.rank_sched.specs.Laws.{RecordsAloneAreOne}
use Rattle.rank_papers.specs.Meaning.Report.{report_text}
use Rattle.rank_papers.specs.Meaning.Right.{IsAdmittedSeries}
use Rattle.rank_papers.specs.Report.{named}
use Rattle.rank_papers.specs.Right.{IsRightReport}
use Rattle.rank_papers.specs.RightLaws.{BestAreOne}
use Rattle.extremes.proofs.Readings.{one_query, one_saying}
use Rattle.extremes.proofs.RightAnswers.{AreRight, answers_right}
use Rattle.extremes.specs.Answer.{IsOfOneWorker, certificate_of_run, SerialPapersAreOne, ReportsAreOne}

-- candidates, each with its listed station, are one list
one_rows : (stations : List Station) (xs ys : List (Candidate × Station))
    → map (λ row. row.0) xs ≡ map (λ row. row.0) ys
    → AllByRecursion (λ row. find (is_station_of row.0.id) stations ≡ Some row.1) xs
    → AllByRecursion (λ row. find (is_station_of row.0.id) stations ≡ Some row.1) ys → xs ≡ ys
one_rows stations [] [] e f g = refl
one_rows stations [] (y ∷ ys) e f g = absurd cc
one_rows stations (x ∷ xs) [] e f g = absurd cc
one_rows stations (x ∷ xs) (y ∷ ys) e f g =
    let candidate : x.0 ≡ y.0 = cc in
    let rest : map (λ (row : Candidate × Station). row.0) xs ≡ map (λ (row : Candidate × Station). row.0) ys = cc in
    let station : Some x.1 ≡ Some y.1 = sym f.0
    ∙ ap (λ (c : Candidate). find (is_station_of c.id) stations) candidate ∙ g.0 in
    let other : x.1 ≡ y.1 = cc in
    λ i. (candidate i, other i) ∷ one_rows stations xs ys rest f.1 g.1 i

-- the right report is one text
one_report : (q : Query) (stations : List Station) (files : List (List ℕ)) (bytes bytes' : List ℕ) → BestAreOne
    → IsRightReport q stations (IsAdmittedSeries q stations files) bytes
    → IsRightReport q stations (IsAdmittedSeries q stations files) bytes' → bytes ≡ bytes'
one_report q stations files bytes bytes' best a b =
    let same : map (λ (row : Candidate × Station). row.0) a.2.rows ≡ map (λ (row : Candidate × Station). row.0) b.2.rows =
    a.2.best ∙ (best q).1 stations files a.0 b.0 a.1 b.1 ∙ sym b.2.best in
    a.2.text ∙ ap (λ (rows : List (Candidate × Station)). report_text q (map named rows))
    (one_rows stations a.2.rows b.2.rows same a.2.listed b.2.listed) ∙ sym b.2.text

-- so an input determines the report and the number of lines of unlisted stations
pub report_one : BestAreOne → ReportsAreOne
report_one best query stations files faultless a b answer-a answer-b =
    let q : Query = answer-a.asked in
    let list : List Station = stations_said stations in
    let own : AreRight q list files a =
    answers_right query stations files faultless.read.list a faultless.read.lists answer-a in
    let right : AreRight q list files b = subst (λ (x : Query). AreRight x list files b)
    (one_query query answer-b.asked q answer-b.asks answer-a.asks)
    (answers_right query stations files faultless.read.list b faultless.read.lists answer-b) in (
      one_report q list files a.report.items b.report.items best own.report right.report,
      own.unlisted ∙ sym right.unlisted,
    )

-- the certificate of one worker's run is one text
one_certificate : (p : Plan) (guess : Option ℤ) (bytes bytes' : List ℕ) → RecordsAloneAreOne
    → IsOfOneWorker p guess bytes → IsOfOneWorker p guess bytes' → bytes ≡ bytes'
one_certificate p guess bytes bytes' one a b =
    a.printed ∙ ap (certificate_of_run p) (one (task_of p) guess a.records b.records a.alone b.alone)
    ∙ sym b.printed

-- so an input and a guess determine all that one worker returns
pub serial_one : BestAreOne → RecordsAloneAreOne → SerialPapersAreOne
serial_one best one guess query stations files a b answer-a serial-a answer-b serial-b =
    let q : Query = answer-a.asked in
    let c : Data = said_by (stations_said stations) files in
    let mine : IsOfOneWorker (planned q c) guess a.certificate.items =
    subst (λ (x : Query × Data). IsOfOneWorker (planned x.0 x.1) guess a.certificate.items)
    (one_saying query stations files (serial-a.asked, serial-a.dataset) q serial-a.read answer-a.asks) serial-a.alone in
    let other : IsOfOneWorker (planned q c) guess b.certificate.items =
    subst (λ (x : Query × Data). IsOfOneWorker (planned x.0 x.1) guess b.certificate.items)
    (one_saying query stations files (serial-b.asked, serial-b.dataset) q serial-b.read answer-a.asks) serial-b.alone in
    let same : (a.report.items ≡ b.report.items) × (a.unlisted ≡ b.unlisted) =
    report_one best query stations files (record {
      asked = serial-a.asked;
      dataset = serial-a.dataset;
      read = serial-a.read;
    }) a b answer-a answer-b in
    record {
      report = same.0;
      certificate = one_certificate (planned q c) guess a.certificate.items b.certificate.items one mine other;
      unlisted = same.1;
    }
