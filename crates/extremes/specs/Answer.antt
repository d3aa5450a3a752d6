-- What is returned for an input without an error.
use Rattle.std.specs.Prelude.{◌≡◌, ℕ, List, Option, ℤ}
use Rattle.ghcn_series.specs.Series.{Data}
use Rattle.rank_query.specs.Meaning.Asked.{Query}
use Rattle.rank_sched.specs.declared.record.Record.{Record}
use Rattle.rank_sched.specs.Plan.{Plan, planned}
use Rattle.rank_sched.specs.Task.{task_of}
use Rattle.rank_sched.specs.Hauls.{AreSoundRecords}
use Rattle.rank_sched.specs.Answers.{best_of_plan, lines_of, AreRecordsAlone}
use Rattle.rank_papers.specs.Certificate.{certificate_of_best}
use Rattle.rank_papers.specs.Report.{IsFoundReport}
use Rattle.rank_papers.specs.RightLaws.{IsRightReportFor, IsRightCertificateFor}
use Rattle.rank_papers.specs.PlanPapers.{IsMeasuredCertificate, IsReportOfPlan, IsCertificateOfPlan}
use Rattle.extremes.specs.declared.papers.Papers.{Papers}
use Rattle.rank_input.specs.Input.{IsReadOf}
use Rattle.extremes.specs.Meaning.Answer.{Answers}

-- a report and a certificate are right for a query and data
pub record AreRightFor (q : Query) (c : Data) (papers : Papers) : Type 0 where
  pub report : IsRightReportFor q c papers.report.items
  pub certificate : IsRightCertificateFor 2 q c papers.certificate.items
  pub unlisted : papers.unlisted ≡ c.unlisted

-- the report and the certificate of a query and data: the right report, a right certificate whose bounds are those of
-- the series, and how many lines belong to unlisted stations
pub record ArePapers (q : Query) (c : Data) (papers : Papers) : Type 0 where
  pub report : IsFoundReport q c papers.report.items
  pub certificate : IsMeasuredCertificate q c papers.certificate.items
  pub unlisted : papers.unlisted ≡ c.unlisted

-- the report and the certificate of a plan, whatever the data of which it is the plan
pub record ArePapersOfPlan (p : Plan) (passed_over : ℕ) (papers : Papers) : Type 0 where
  pub report : IsReportOfPlan p papers.report.items
  pub certificate : IsCertificateOfPlan p papers.certificate.items
  pub unlisted : papers.unlisted ≡ passed_over

-- the input has no error
pub record IsFaultless (query stations : List ℕ) (files : List (List ℕ)) : Type 0 where
  pub asked : Query
  pub dataset : Data
  pub read : IsReadOf query stations files asked dataset

-- the certificate of a run over a plan with these records: it is about the plan's best, and has the run's lines
abbrev pub certificate_of_run : Plan → List Record → List ℕ
certificate_of_run p rs = certificate_of_best p.query (best_of_plan p) (lines_of p rs)

-- the bytes are the certificate of a sound run of that many workers over a plan, under a guess or none
pub record IsOfCrew (p : Plan) (guess : Option ℤ) (workers : ℕ) (bytes : List ℕ) : Type 0 where
  pub records : List Record
  pub sound : AreSoundRecords (task_of p) guess workers records
  pub printed : bytes ≡ certificate_of_run p records

-- the bytes are the certificate of the run that one worker makes over a plan, under a guess or none
pub record IsOfOneWorker (p : Plan) (guess : Option ℤ) (bytes : List ℕ) : Type 0 where
  pub records : List Record
  pub alone : AreRecordsAlone (task_of p) guess records
  pub printed : bytes ≡ certificate_of_run p records

-- the certificate is that of a sound run of that many workers over the plan of what the input asks and holds, and its
-- bounds are those of the series
pub record IsCrewed (workers : ℕ) (guess : Option ℤ) (query stations : List ℕ) (files : List (List ℕ))
    (papers : Papers) : Type 0 where
  pub asked : Query
  pub dataset : Data
  pub read : IsReadOf query stations files asked dataset
  pub bounds : IsMeasuredCertificate asked dataset papers.certificate.items
  pub crew : IsOfCrew (planned asked dataset) guess workers papers.certificate.items

-- the certificate is that of the run that one worker makes over the plan of what the input asks and holds, and its
-- bounds are those of the series
pub record IsSerial (guess : Option ℤ) (query stations : List ℕ) (files : List (List ℕ)) (papers : Papers)
    : Type 0 where
  pub asked : Query
  pub dataset : Data
  pub read : IsReadOf query stations files asked dataset
  pub bounds : IsMeasuredCertificate asked dataset papers.certificate.items
  pub alone : IsOfOneWorker (planned asked dataset) guess papers.certificate.items

-- two rankings have the same report and the same certificate, byte for byte, and count the same lines
pub record AreSamePapers (a b : Papers) : Type 0 where
  pub report : a.report.items ≡ b.report.items
  pub certificate : a.certificate.items ≡ b.certificate.items
  pub unlisted : a.unlisted ≡ b.unlisted

-- an input and a guess determine all that one worker returns
abbrev pub SerialPapersAreOne : Type 0
SerialPapersAreOne = (guess : Option ℤ) (query stations : List ℕ) (files : List (List ℕ)) (a b : Papers)
    → Answers query stations files a → IsSerial guess query stations files a
    → Answers query stations files b → IsSerial guess query stations files b → AreSamePapers a b

-- an input without an error determines the report: two rankings of it have the same report, byte for byte, and count the
-- same lines, however many workers each had and whatever their certificates say
abbrev pub ReportsAreOne : Type 0
ReportsAreOne = (query stations : List ℕ) (files : List (List ℕ)) → IsFaultless query stations files → (a b : Papers)
    → Answers query stations files a → Answers query stations files b
    → (a.report.items ≡ b.report.items) × (a.unlisted ≡ b.unlisted)
