-- What is returned for the query and the data of a question, as an answer to its input.
use Rattle.std.proofs.Common.{◌≡◌, ℕ, List, refl, sym, ap, ◌∙◌, subst, map, Option, ℤ}
use Rattle.std.specs.Prelude.{◌↔◌, Ok}
use Rattle.ghcn_fields.specs.Sorting.{sorted_by}
use Rattle.ghcn_files.specs.declared.station.Station.{Station}
use Rattle.ghcn_series.specs.Meaning.Series.{Series}
use Rattle.ghcn_series.specs.Series.{Data}
use Rattle.ghcn_series.specs.Held.{IsContents}
use Rattle.ghcn_series.specs.SaidLists.{stations_said}
use Rattle.ghcn_series.specs.Says.{data_of}
use Rattle.ghcn_series.proofs.SaidLines.{held-said}
use Rattle.rank_query.specs.Meaning.Asked.{Query, IsAsked}
use Rattle.rank_scores.specs.OneElement.{data_for, MorselsStay}
use Rattle.rank_sched.specs.Plan.{Plan, planned, measured, is_drawn_first}
use Rattle.rank_papers.specs.OneElement.{MeasuredStays}
use Rattle.rank_papers.specs.Report.{IsFoundReport}
use Rattle.rank_papers.specs.Certificate.{IsFoundCertificate}
use Rattle.rank_papers.specs.RightLaws.{IsRightReportFor, IsRightCertificateFor, ReportsAreFound, CertificatesAreFound}
use Rattle.rank_papers.specs.RightLaws.{ReportsAreSaid, CertificatesAreSaid, RightReportStays, RightCertificateStays}
use Rattle.rank_papers.specs.PlanPapers.{IsMeasuredCertificate}
use Rattle.rank_check.specs.declared.verdict.Verdict.{Verdict}
use Rattle.rank_check.specs.declared.verdict.Verdict.TheVariants.{Accepted}
use Rattle.rank_check.specs.Tests.{verdict}
use Rattle.rank_check.specs.Laws.{VerdictStays}
use Rattle.rank_parts.specs.declared.verdict.PartVerdict.{PartVerdict}
use Rattle.rank_parts.specs.Parts.{part_verdict}
use Rattle.rank_parts.specs.Laws.{PartVerdictStays}
use Rattle.ghcn_description.specs.declared.counts.Description.{Description}
use Rattle.ghcn_description.specs.Texts.{description_text}
use Rattle.ghcn_description.specs.declared.describer.RowDescriber.{RowDescriber}
use Rattle.ghcn_description.specs.Describing.{HasDescribedByRows, MakesDescription}
use Rattle.rank_input.specs.declared.intake.Intake.{Intake}
use Rattle.rank_input.specs.declared.question.Question.{Question}
use Rattle.rank_input.specs.Takes.{MakesTaken}
use Rattle.rank_input.specs.Taken.{HoldsInput, IsTrueOf}
use Rattle.ghcn_series.specs.Fed.{files_of}
use Rattle.extremes.specs.declared.papers.Papers.{Papers}
use Rattle.extremes.proofs.Readings.{data_is_said}
use Rattle.extremes.proofs.RightAnswers.{AreRight, right_answers}
use Rattle.extremes.specs.Answer.{ArePapers, AreRightFor, IsOfCrew, IsOfOneWorker, IsSerial}
use Rattle.extremes.specs.Judged.{AreRightTexts}
use Rattle.extremes.specs.Runs.{AnswersInput, FaultlessInput, CrewsInput, JudgesInput, JudgesPart}
use Rattle.extremes.specs.declared.describe.DescriptionText.{DescriptionText}
use Rattle.extremes.specs.Describes.{DescribesIntake}

-- two texts are the right report and a right certificate
abbrev AreRightTextsFor : Query → Data → List ℕ → List ℕ → Type 0
AreRightTextsFor q c report certificate =
    IsRightReportFor q c report × (version : ℕ) × IsRightCertificateFor version q c certificate

-- a report and a certificate with what is found are the right ones
pub right_texts : (q : Query) (c : Data) (report certificate : List ℕ) → ReportsAreFound → CertificatesAreFound
    → IsAsked q → IsContents c
    → (IsFoundReport q c report × IsFoundCertificate q c certificate) ↔ AreRightTextsFor q c report certificate
right_texts q c report certificate reports certificates asked right = (
  λ are. (
    (reports q c report asked right).0 are.0,
    are.1.version,
    (certificates are.1.version q c certificate asked right).0 (are.1, refl),
  ),
  λ are. (
    (reports q c report asked right).1 are.0,
    ((certificates are.1 q c certificate asked right).1 are.2).0,
  ),
)

-- if a report and a certificate with what is found are accepted, the right ones are
pub accepted_right : (q : Query) (c : Data) (report certificate : List ℕ) (v : Verdict) → ReportsAreFound
    → CertificatesAreFound → IsAsked q → IsContents c
    → (v ≡ Accepted) ↔ (IsFoundReport q c report × IsFoundCertificate q c certificate)
    → (v ≡ Accepted) ↔ AreRightTextsFor q c report certificate
accepted_right q c report certificate v reports certificates asked right accepted =
    let are = right_texts q c report certificate reports certificates asked right in
    (λ is. are.0 (accepted.0 is), λ is. accepted.1 (are.1 is))

-- a report and a certificate are right for what a query needs of some data if and only if they are for these data
pub right_for : (query : Query) (dataset whole : Data) (report certificate : List ℕ) → RightReportStays
    → RightCertificateStays → dataset ≡ data_for query whole
    → AreRightTextsFor query dataset report certificate ↔ AreRightTextsFor query whole report certificate
right_for query dataset whole report certificate reports certificates needed =
    subst (λ (h : Data).
    AreRightTextsFor query h report certificate ↔ AreRightTextsFor query whole report certificate)
    (sym needed) (
      λ are. (
        (reports query whole report).0 are.0,
        are.1,
        (certificates are.1 query whole certificate).0 are.2,
      ),
      λ are. (
        (reports query whole report).1 are.0,
        are.1,
        (certificates are.1 query whole certificate).1 are.2,
      ),
    )

-- a report and a certificate are right for the data of files if and only if they are for what the files say
pub texts_said : ReportsAreSaid → CertificatesAreSaid → (query : Query) (stations : List Station)
    (files : List (List ℕ)) (dataset : Data) (report certificate : List ℕ) → data_of stations files ≡ Ok dataset
    → AreRightTextsFor query dataset report certificate ↔ AreRightTexts query stations files report certificate
texts_said reports certificates query stations files dataset report certificate is = (
  λ are. (
    (reports query stations files dataset report is).0 are.0,
    are.1,
    (certificates are.1 query stations files dataset certificate is).0 are.2,
  ),
  λ are. (
    (reports query stations files dataset report is).1 are.0,
    are.1,
    (certificates are.1 query stations files dataset certificate is).1 are.2,
  ),
)

-- the verdict for the query and the data of a question is that for its input
pub judges_input : (t : Question) (query : Query) (dataset : Data) (report certificate : List ℕ) (v : Verdict)
    → RightReportStays → RightCertificateStays → ReportsAreSaid → CertificatesAreSaid → VerdictStays
    → HoldsInput t query dataset → v ≡ verdict query dataset report certificate
    → (v ≡ Accepted) ↔ AreRightTextsFor query dataset report certificate
    → JudgesInput t report certificate v
judges_input t query dataset report certificate v reports certificates reports_said certificates_said verdicts holds is
    accepted = record {
      is = λ i taken.
          let input = holds.is i taken in
          let right = right_for query dataset input.whole report certificate reports certificates input.needed in
          let said = texts_said reports_said certificates_said query (stations_said i.stations) (files_of i.files)
          input.whole report certificate
          (data_is_said i.query i.stations (files_of i.files) query input.whole input.read) in
          record {
            asked = query;
            dataset = input.whole;
            read = input.read;
            verdict = is ∙ ap (λ (h : Data). verdict query h report certificate) input.needed
                ∙ verdicts query input.whole report certificate;
            accepted = (λ a. said.0 (right.0 (accepted.0 a)), λ r. accepted.1 (right.1 (said.1 r)));
          };
    }

-- the same for a part's verdict
pub judges_part : (t : Question) (query : Query) (dataset : Data) (report certificate : List ℕ) (v : PartVerdict)
    → PartVerdictStays → HoldsInput t query dataset → v ≡ part_verdict query dataset report certificate
    → JudgesPart t report certificate v
judges_part t query dataset report certificate v verdicts holds is = record {
  is = λ i taken.
      let input = holds.is i taken in
      record {
        asked = query;
        dataset = input.whole;
        read = input.read;
        verdict = is ∙ ap (λ (h : Data). part_verdict query h report certificate) input.needed
            ∙ verdicts query input.whole report certificate;
      };
}

-- a report and a certificate that are right for what a query needs of some data are right for these data
pub papers_for : (query : Query) (dataset whole : Data) (papers : Papers) → RightReportStays → RightCertificateStays
    → dataset ≡ data_for query whole → AreRightFor query dataset papers → AreRightFor query whole papers
papers_for query dataset whole papers reports certificates needed are =
    let of : AreRightFor query (data_for query whole) papers =
    subst (λ (h : Data). AreRightFor query h papers) needed are in
    record {
      report = (reports query whole papers.report.items).0 of.report;
      certificate = (certificates 2 query whole papers.certificate.items).0 of.certificate;
      unlisted = of.unlisted;
    }

-- the report and the certificate of a query and data are right for them
pub right_papers : (query : Query) (dataset : Data) (papers : Papers) → ReportsAreFound → CertificatesAreFound
    → IsAsked query → IsContents dataset → ArePapers query dataset papers → AreRightFor query dataset papers
right_papers query dataset papers reports certificates asked right are = record {
  report = (reports query dataset papers.report.items asked right).0 are.report;
  certificate = (certificates 2 query dataset papers.certificate.items asked right).0
      (are.certificate.certificate, are.certificate.version);
  unlisted = are.unlisted;
}

-- a certificate with the bounds of what a query needs of some data has those of these data
pub measured_for : (query : Query) (dataset whole : Data) (bytes : List ℕ) → MeasuredStays
    → dataset ≡ data_for query whole
    → IsMeasuredCertificate query dataset bytes → IsMeasuredCertificate query whole bytes
measured_for query dataset whole bytes certificates needed is =
    (certificates query whole bytes).0 (subst (λ (h : Data). IsMeasuredCertificate query h bytes) needed is)

-- a report and a certificate that are right for a query and the data of files are right for what the files say
pub right_said : ReportsAreSaid → CertificatesAreSaid → (query : Query) (stations : List Station) (files : List (List ℕ))
    (dataset : Data) (papers : Papers) → data_of stations files ≡ Ok dataset → AreRightFor query dataset papers
    → AreRight query stations files papers
right_said reports certificates query stations files dataset papers is are = record {
  report = (reports query stations files dataset papers.report.items is).0 are.report;
  certificate = (certificates 2 query stations files dataset papers.certificate.items is).0 are.certificate;
  unlisted = are.unlisted ∙ ap (λ (c : Data). c.unlisted) (held-said stations files dataset is);
}

-- a report and a certificate that are right for the query and the data of a question answer its input
pub answers_input : (t : Question) (query : Query) (dataset : Data) (papers : Papers) → RightReportStays
    → RightCertificateStays → ReportsAreSaid → CertificatesAreSaid → HoldsInput t query dataset
    → AreRightFor query dataset papers → AnswersInput t papers
answers_input t query dataset papers reports certificates reports_said certificates_said holds are = record {
  is = λ i taken.
      let input = holds.is i taken in
      right_answers i.query i.stations (files_of i.files) input.read.list papers input.read.lists query input.read.asks
      (right_said reports_said certificates_said query (stations_said i.stations) (files_of i.files) input.whole papers
      (data_is_said i.query i.stations (files_of i.files) query input.whole input.read)
      (papers_for query dataset input.whole papers reports certificates input.needed are));
}

-- what a question was given has no error
pub faultless_input : (t : Question) (query : Query) (dataset : Data) → HoldsInput t query dataset → FaultlessInput t
faultless_input t query dataset holds = record {
  is = λ i taken.
      let input = holds.is i taken in
      record { asked = query; dataset = input.whole; read = input.read };
}

-- a plan of these series
abbrev plan_of : Query → List Station → List Series → Plan
plan_of q stations series = record {
  query = q;
  stations = stations;
  morsels = sorted_by is_drawn_first (map (measured q) series);
}

-- the plan of what a query needs of some data is that of these data
pub plan_for : (q : Query) (dataset whole : Data) → MorselsStay → dataset ≡ data_for q whole
    → planned q dataset ≡ planned q whole
plan_for q dataset whole stay needed =
    ap (planned q) needed ∙ ap (plan_of q whole.stations) (stay q whole)

-- a report and a certificate that are a crew's for the query and the data of a question are so for its input
pub crews_input : (t : Question) (workers : ℕ) (guess : Option ℤ) (query : Query) (dataset : Data) (papers : Papers)
    → MorselsStay → MeasuredStays → HoldsInput t query dataset
    → IsMeasuredCertificate query dataset papers.certificate.items
    → IsOfCrew (planned query dataset) guess workers papers.certificate.items → CrewsInput t workers guess papers
crews_input t workers guess query dataset papers stay certificates holds measures are = record {
  is = λ i taken.
      let input = holds.is i taken in
      record {
        asked = query;
        dataset = input.whole;
        read = input.read;
        bounds = measured_for query dataset input.whole papers.certificate.items certificates input.needed measures;
        crew = subst (λ (p : Plan). IsOfCrew p guess workers papers.certificate.items)
            (plan_for query dataset input.whole stay input.needed) are;
      };
}

-- a report and a certificate that are one worker's for the query and the data of a question are so for its input
pub serial_input : (t : Question) (guess : Option ℤ) (query : Query) (dataset : Data) (papers : Papers)
    → MorselsStay → MeasuredStays → HoldsInput t query dataset
    → IsMeasuredCertificate query dataset papers.certificate.items
    → IsOfOneWorker (planned query dataset) guess papers.certificate.items
    → IsTrueOf t (λ words stations files. IsSerial guess words stations files papers)
serial_input t guess query dataset papers stay certificates holds measures are = record {
  is = λ i taken.
      let input = holds.is i taken in
      record {
        asked = query;
        dataset = input.whole;
        read = input.read;
        bounds = measured_for query dataset input.whole papers.certificate.items certificates input.needed measures;
        alone = subst (λ (p : Plan). IsOfOneWorker p guess papers.certificate.items)
            (plan_for query dataset input.whole stay input.needed) are;
      };
}

-- the text of the description of an intake says what its files hold
pub text_of_intake : (t : Intake RowDescriber) (d : Description) (text : DescriptionText)
    → MakesTaken HasDescribedByRows MakesDescription t d
    → text.bytes.items ≡ description_text d → text.warnings ≡ d.warnings → DescribesIntake t text
text_of_intake t d text describes is warnings = record {
  is = λ i taken.
      let of = describes.is i taken in
      record {
        description = d;
        described = record { list = of.list; lists = of.lists; describes = of.made };
        written = is;
        warnings = warnings ∙ of.made.is.warnings;
      };
}
