-- What is returned for each of some queries over one reading, as answers to texts that denote these queries.
use Rattle.std.proofs.Common.{◌≡◌, ℕ, ◌+◌, true, List, [], ◌∷◌, ◌++◌, refl, sym, ap, ◌∙◌, subst}
use Rattle.std.specs.Prelude.{Option, None, Ok, Err, IfErr, IfOk}
use Rattle.std.proofs.lemmas.Bool.{OnFalse_from}
use Rattle.std.proofs.lemmas.Result.{IfErr-weaker, IfOk-weaker}
use Rattle.std.specs.List.{AllByRecursion, AllZip}
use Rattle.std.proofs.lemmas.List.Elements.{recursion_from_All}
use Rattle.ghcn_files.specs.declared.station.Station.{Station}
use Rattle.ghcn_files.specs.Elements.{is_kept}
use Rattle.ghcn_files.specs.Listed.{listed}
use Rattle.ghcn_series.specs.declared.counts.Warnings.{Warnings}
use Rattle.ghcn_series.specs.declared.rows.RowReader.{RowReader}
use Rattle.ghcn_series.specs.Fed.{files_of}
use Rattle.ghcn_series.specs.Gathered.{HasReadByRows}
use Rattle.ghcn_series.specs.Kept.{HoldFiles, kept}
use Rattle.ghcn_series.specs.SaidLists.{stations_said}
use Rattle.ghcn_series.specs.Says.{data_of}
use Rattle.ghcn_series.specs.Series.{Data}
use Rattle.ghcn_series.proofs.SaidLines.{held-said, listed-said}
use Rattle.rank_query.specs.Meaning.Asked.{Query, score_element}
use Rattle.rank_query.specs.Meaning.Asks.{Asks}
use Rattle.rank_scores.specs.OneElement.{KeptAreEnough, MorselsStay, data_for}
use Rattle.rank_sched.specs.Plan.{Plan, planned}
use Rattle.rank_papers.specs.OneElement.{MeasuredStays}
use Rattle.rank_papers.specs.RightLaws.{CertificatesAreSaid, ReportsAreSaid, RightCertificateStays, RightReportStays}
use Rattle.rank_input.specs.declared.intake.Intake.{Intake}
use Rattle.rank_input.specs.declared.fault.Fault.{Fault}
use Rattle.rank_input.specs.Input.{is_memory}
use Rattle.rank_input.specs.Takes.{FileInput, HasTaken, MakesTaken, RefusesTaken}
use Rattle.extremes.specs.declared.papers.Papers.{Papers}
use Rattle.extremes.specs.Answer.{AreRightFor, IsOfCrew}
use Rattle.extremes.specs.declared.papers_folder.Stop.{Stop}
use Rattle.extremes.specs.declared.papers_folder.Stop.TheVariants.{Input, NotWritten}
use Rattle.extremes.specs.Each.{EndsFor, EndsTaken, IsRankedBy, IsRankedOver, RankingStops, RanksAll, RanksUntil}
use Rattle.extremes.specs.Each.{Reports, WarnsOfTaken}
use Rattle.extremes.specs.PapersFolder.{new_files}
use Rattle.extremes.specs.Targets.{NewFile, Storing}
use Rattle.extremes.proofs.Answering.{measured_for, papers_for, plan_for, right_said}
use Rattle.extremes.proofs.RightAnswers.{right_answers}

-- ---- the data of one element among those of others

module _ (reports : RightReportStays) (certificates : RightCertificateStays) (measures : MeasuredStays)
    (morsels : MorselsStay) (q : Query) (c whole : Data) (same : data_for q c ≡ data_for q whole) where
  -- a report and a certificate that are right for data are so for other data of which the query needs the same
  papers_among : (papers : Papers) → AreRightFor q c papers → AreRightFor q whole papers
  papers_among papers are = papers_for q (data_for q c) whole papers reports certificates same (record {
    report = (reports q c papers.report.items).1 are.report;
    certificate = (certificates 2 q c papers.certificate.items).1 are.certificate;
    unlisted = are.unlisted;
  })

  -- and the plans are the same
  plans_among : planned q c ≡ planned q whole
  plans_among = sym (plan_for q (data_for q c) c morsels refl) ∙ plan_for q (data_for q c) whole morsels same

  -- so what is ranked over the one is ranked over the other
  ranked_among : (workers : ℕ) (papers : Papers) → IsRankedOver workers c q papers → IsRankedOver workers whole q papers
  ranked_among workers papers are = record {
    right = papers_among papers are.right;
    bounds = measured_for q (data_for q c) whole papers.certificate.items measures same
        ((measures q c papers.certificate.items).1 are.bounds);
    crew = subst (λ (p : Plan). IsOfCrew p None workers papers.certificate.items) plans_among are.crew;
  }

-- ---- texts that denote the queries

module _ (reports : ReportsAreSaid) (certificates : CertificatesAreSaid) (stations : List ℕ) (list : List Station)
    (files : List (List ℕ)) (whole : Data) (lists : listed stations ≡ Ok list) (read : data_of list files ≡ Ok whole)
  where
    -- the data are those of the stations that the list says
    whole_said : data_of (stations_said stations) files ≡ Ok whole
    whole_said =
        subst (λ (ss : List Station). data_of ss files ≡ Ok whole) (listed-said stations list lists) read

    -- what is ranked over all data of some texts answers these
    ranked_by : (workers : ℕ) (query : List ℕ) (q : Query) (papers : Papers) → Asks query q
        → IsRankedOver workers whole q papers → IsRankedBy workers stations files query papers
    ranked_by workers query q papers asks are = record {
      answers = right_answers query stations files list papers lists q asks
          (right_said reports certificates q (stations_said stations) files whole papers whole_said are.right);
      crew = record {
        asked = q;
        dataset = whole;
        read = record { list = list; asks = asks; lists = lists; holds = read };
        bounds = are.bounds;
        crew = are.crew;
      };
    }

-- if each query is denoted by a line and has these papers, each line does
zip-through : {A B C : Type 0} (P : A → B → Type 0) (K : B → Type 0) (R : B → C → Type 0) (S : A → C → Type 0)
    → ((x : A) (y : B) (z : C) → P x y → K y → R y z → S x z)
    → (xs : List A) (ys : List B) (zs : List C) → AllZip P xs ys → AllByRecursion K ys → AllZip R ys zs → AllZip S xs zs
zip-through P K R S step [] [] [] p k r = tt
zip-through P K R S step [] [] (z ∷ zs) p k r = absurd r
zip-through P K R S step [] (y ∷ ys) zs p k r = absurd p
zip-through P K R S step (x ∷ xs) [] zs p k r = absurd p
zip-through P K R S step (x ∷ xs) (y ∷ ys) [] p k r = absurd r
zip-through P K R S step (x ∷ xs) (y ∷ ys) (z ∷ zs) p k r =
    (step x y z p.0 k.0 r.0, zip-through P K R S step xs ys zs p.1 k.1 r.1)

-- the first of these go with those
record BeginSo {A B : Type 0} (P : A → B → Type 0) (xs : List A) (ys : List B) : Type 0 where
  pub first : List A
  pub more : List A
  pub among : xs ≡ first ++ more
  pub each : AllZip P first ys

begin-so : {A B : Type 0} (P : A → B → Type 0) (xs : List A) (ys zs : List B) → AllZip P xs (ys ++ zs) → BeginSo P xs ys
begin-so P xs [] zs all = record { first = []; more = xs; among = refl; each = tt }
begin-so P [] (y ∷ ys) zs all = absurd all
begin-so {A} P (x ∷ xs) (y ∷ ys) zs all = let rest = begin-so P xs ys zs all.1 in record {
  first = x ∷ rest.first;
  more = rest.more;
  among = ap (λ (l : List A). x ∷ l) rest.among;
  each = (all.0, rest.each);
}

-- what holds of all holds of the first
all-first : {B : Type 0} (K : B → Type 0) (ys zs : List B) → AllByRecursion K (ys ++ zs) → AllByRecursion K ys
all-first K [] zs all = tt
all-first K (y ∷ ys) zs all = (all.0, all-first K ys zs all.1)

module _ {A B : Type 0} (P : A → B → Type 0) (K : B → Type 0) (R : B → Papers → Type 0) (S : A → Papers → Type 0)
    (step : (x : A) (y : B) (p : Papers) → P x y → K y → R y p → S x p) (xs : List A) (ys : List B)
    (pairs : AllZip P xs ys) (kept : AllByRecursion K ys) (folder : Option (List ℕ)) (n : ℕ) (stores : Storing) where
  -- if all queries are ranked, the lines that denote them are
  pub ranks-all-as : (text : List ℕ) → RanksAll R ys folder n stores text → RanksAll S xs folder n stores text
  ranks-all-as text has = record {
    papers = has.papers;
    ranked = zip-through P K R S step xs ys has.papers pairs kept has.ranked;
    reports = has.reports;
    stored = has.stored;
  }

  -- and if the first of them are
  pub until-as : (failed : Option NewFile) → RanksUntil R ys folder n stores failed → RanksUntil S xs folder n stores failed
  until-as failed has =
      let begin = begin-so P xs has.first has.more (subst (λ (l : List B). AllZip P xs l) has.among pairs) in
      record {
        first = begin.first;
        more = begin.more;
        among = begin.among;
        papers = has.papers;
        ranked = zip-through P K R S step begin.first has.first has.papers begin.each
            (all-first K has.first has.more (subst (AllByRecursion K) has.among kept)) has.ranked;
        put = has.put;
      }

  pub stops-as : (stop : Stop) → RankingStops R ys folder n stores stop → RankingStops S xs folder n stores stop
  stops-as (Input fault) is = (is.0, until-as None is.1)
  stops-as (NotWritten path) is = (is.0, until-as _ is.1)

-- rankings that stop because memory runs out end so
ends-for : (workers : ℕ) (stations : List ℕ) (files lines : List (List ℕ)) (folder : Option (List ℕ)) (stores : Storing)
    (answer : Reports)
    → IfOk answer (λ text. RanksAll (IsRankedBy workers stations files) lines folder 1 stores text.items)
    → IfErr answer (RankingStops (IsRankedBy workers stations files) lines folder 1 stores)
    → EndsFor workers stations files lines folder stores answer
ends-for workers stations files lines folder stores (Ok text) ok stopped = ok
ends-for workers stations files lines folder stores (Err (Input fault)) ok stopped =
    (rw stopped.0 tt, rw stopped.0 tt, stopped.1)
ends-for workers stations files lines folder stores (Err (NotWritten path)) ok stopped = stopped

module _ (enough : KeptAreEnough) (reports : RightReportStays) (certificates : RightCertificateStays)
    (measures : MeasuredStays) (morsels : MorselsStay) (reports_said : ReportsAreSaid)
    (certificates_said : CertificatesAreSaid) (t : Intake RowReader) (made : Data × Warnings)
    (makes : MakesTaken HasReadByRows HoldFiles t made) where
  -- what is ranked over what an intake kept answers texts that denote the queries
  ranked_taken : (s : FileInput) (taken : HasTaken HasReadByRows t s) (workers : ℕ) (line : List ℕ) (q : Query)
      (papers : Papers) → Asks line q → is_kept s.keep (score_element q.score) ≡ true
      → IsRankedOver workers made.0 q papers → IsRankedBy workers s.stations (files_of s.files) line papers
  ranked_taken s taken workers line q papers asks own are =
      let all = makes.is s taken in
      let held = all.made.held in
      ranked_by reports_said certificates_said s.stations all.list (files_of s.files) held.whole all.lists held.read
      workers line q papers asks
      (ranked_among reports certificates measures morsels q made.0 held.whole
      (ap (data_for q) held.is ∙ enough s.keep q held.whole own) workers papers are)

  -- so the rankings of the queries end for these texts
  pub ends_taken : (queries : List Query) (workers : ℕ) (folder : Option (List ℕ)) (stores : Storing) (answer : Reports)
      → IfOk answer (λ text. RanksAll (IsRankedOver workers made.0) queries folder 1 stores text.items)
      → IfErr answer (RankingStops (IsRankedOver workers made.0) queries folder 1 stores)
      → EndsTaken t queries workers folder stores answer
  ends_taken queries workers folder stores answer ok stopped = record {
    is = λ s taken keeps lines asks.
        let own : Query → Type 0 = λ q. is_kept s.keep (score_element q.score) ≡ true in
        let step = ranked_taken s taken workers in
        let kept = recursion_from_All own queries keeps in
        let by = IsRankedBy workers s.stations (files_of s.files) in
        ends-for workers s.stations (files_of s.files) lines folder stores answer
        (IfOk-weaker answer _ _ (λ text has. ranks-all-as Asks own (IsRankedOver workers made.0) by step lines queries asks
        kept folder 1 stores text.items has) ok)
        (IfErr-weaker answer _ _ (stops-as Asks own (IsRankedOver workers made.0) by step lines queries asks kept folder 1
        stores) stopped);
  }

-- what is warned of is so, and the lines of unlisted stations are counted
pub warns_of_taken : (t : Intake RowReader) (made : Data × Warnings) (warnings : Warnings) (unlisted : ℕ)
    → MakesTaken HasReadByRows HoldFiles t made → warnings ≡ made.1 → unlisted ≡ made.0.unlisted
    → WarnsOfTaken t warnings unlisted
warns_of_taken t made warnings unlisted makes same counted = record {
  is = λ s taken.
      let all = makes.is s taken in
      let held = all.made.held in (
        same ∙ all.made.warned,
        counted ∙ ap (λ (c : Data). c.unlisted) held.is
            ∙ ap (λ (c : Data). c.unlisted) (held-said (stations_said s.stations) (files_of s.files) held.whole
            (subst (λ (ss : List Station). data_of ss (files_of s.files) ≡ Ok held.whole)
            (listed-said s.stations all.list all.lists) held.read)),
      );
}

-- an error of the files ends the rankings before anything is put
pub refuses_taken : (t : Intake RowReader) (queries : List Query) (workers : ℕ) (folder : Option (List ℕ))
    (stores : Storing) (fault : Fault) → RefusesTaken HasReadByRows t fault → stores [] None
    → EndsTaken t queries workers folder stores (Err (Input fault))
refuses_taken t queries workers folder stores fault refuses none = record {
  is = λ s taken keeps lines asks. (
    refuses.is s taken,
    OnFalse_from (is_memory fault) _ (λ e. none),
    record {
      first = [];
      more = lines;
      among = refl;
      papers = [];
      ranked = tt;
      put = record { put = []; rest = new_files folder 1 []; among = refl; fails = tt; stored = none };
    },
  );
}
