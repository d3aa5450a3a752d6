-- What an answer of a plan is for the query and the data of which it is the plan.
use Rattle.std.proofs.Common.{◌≡◌, ℕ, List, length, Option, ◌∙◌, ap, subst}
use Rattle.std.specs.Prelude.{ℤ}
use Rattle.ghcn_series.specs.Series.{Data}
use Rattle.ghcn_series.specs.Held.{IsContents}
use Rattle.rank_query.specs.Meaning.Asked.{Query, IsAsked}
use Rattle.rank_sched.specs.Plan.{Plan, planned}
use Rattle.rank_scores.specs.declared.candidate.Candidate.{Candidate}
use Rattle.rank_sched.specs.declared.answer.Answer.{Answer}
use Rattle.rank_sched.specs.declared.record.Record.{Record}
use Rattle.rank_sched.specs.Task.{task_of}
use Rattle.rank_sched.specs.Hauls.{all_records, AreSoundRecords}
use Rattle.rank_sched.specs.Laws.{RecordsAreSound}
use Rattle.rank_sched.specs.Answers.{IsAnswer, IsAnswerOfPlan, IsAnswerOfCrew, AreRecordsAlone, best_of_plan}
use Rattle.rank_papers.specs.Certificate.{certificate_of_best}
use Rattle.extremes.specs.declared.papers.Papers.{Papers}
use Rattle.extremes.specs.Answer.{ArePapers, ArePapersOfPlan, IsOfCrew, IsOfOneWorker, certificate_of_run}

-- an answer of a crew is one of its plan
pub crew_is_plan : (p : Plan) (guess : Option ℤ) (workers : ℕ) (a : Answer) → IsAnswerOfCrew p guess workers a
    → IsAnswerOfPlan p a
crew_is_plan p guess workers a of = record {
  hauls = of.hauls;
  sound = of.sound;
  best_are = of.answer.best_are;
  lines_are = of.answer.lines_are;
}

-- the report and the certificate of a plan are those of the query and the data of which it is the plan
pub papers_are : (p : Plan) (q : Query) (c : Data) (passed_over : ℕ) (papers : Papers) → IsAsked q
    → IsContents c → p ≡ planned q c → passed_over ≡ c.unlisted
    → ArePapersOfPlan p passed_over papers → ArePapers q c papers
papers_are p q c passed_over papers asked dataset made counted are = record {
  report = are.report q c asked dataset made;
  certificate = are.certificate q c asked dataset made;
  unlisted = are.unlisted ∙ counted;
}

-- bytes that are printed from the answer of a run over a plan are the run's certificate for the query and the data
printed_run : (p : Plan) (q : Query) (c : Data) (rs : List Record) (a : Answer) (bytes : List ℕ)
    → p ≡ planned q c → IsAnswer p rs a → bytes ≡ certificate_of_best p.query a.best.items a.lines.items
    → bytes ≡ certificate_of_run (planned q c) rs
printed_run p q c rs a bytes made is printed =
    printed ∙ ap (λ (best : List Candidate). certificate_of_best p.query best a.lines.items) is.best_are
    ∙ ap (certificate_of_best p.query (best_of_plan p)) is.lines_are
    ∙ ap (λ (x : Plan). certificate_of_run x rs) made

-- what is printed from a crew's answer of a plan is a crew's for the query and the data
pub of_crew_is : (p : Plan) (q : Query) (c : Data) (guess : Option ℤ) (workers : ℕ) (a : Answer)
    (bytes : List ℕ) → RecordsAreSound → p ≡ planned q c → IsAnswerOfCrew p guess workers a
    → bytes ≡ certificate_of_best p.query a.best.items a.lines.items
    → IsOfCrew (planned q c) guess workers bytes
of_crew_is p q c guess workers a bytes records made of printed =
    let rs : List Record = all_records of.hauls in
    let sound : AreSoundRecords (task_of p) guess (length of.hauls) rs =
    records (task_of p) guess of.hauls of.floor of.sound of.under_floor in
    record {
      records = rs;
      sound = subst (λ (n : ℕ). AreSoundRecords (task_of (planned q c)) guess n rs) of.count
          (subst (λ (x : Plan). AreSoundRecords (task_of x) guess (length of.hauls) rs) made sound);
      printed = printed_run p q c rs a bytes made of.answer printed;
    }

-- what is printed from one worker's answer of a plan is that worker's for the query and the data
pub of_one_is : (p : Plan) (q : Query) (c : Data) (guess : Option ℤ) (a : Answer) (bytes : List ℕ)
    → p ≡ planned q c → IsAnswerOfCrew p guess 1 a → AreRecordsAlone (task_of p) guess a.records.items
    → bytes ≡ certificate_of_best p.query a.best.items a.lines.items
    → IsOfOneWorker (planned q c) guess bytes
of_one_is p q c guess a bytes made of alone printed =
    let rs : List Record = all_records of.hauls in
    record {
      records = rs;
      alone = subst (AreRecordsAlone (task_of (planned q c)) guess) of.answer.records_are
          (subst (λ (x : Plan). AreRecordsAlone (task_of x) guess a.records.items) made alone);
      printed = printed_run p q c rs a bytes made of.answer printed;
    }
