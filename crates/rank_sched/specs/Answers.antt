-- The answer that is made of the records of a run.
use Rattle.std.specs.Prelude.{◌≡◌, ℕ, true, List, length, map, Option, ℤ}
use Rattle.std.specs.List.{enumerate_from, flat_map}
use Rattle.ghcn_fields.specs.Sorting.{sorted_by}
use Rattle.rank_scores.specs.declared.candidate.Candidate.{Candidate}
use Rattle.rank_scores.specs.Order.{best}
use Rattle.ghcn_series.specs.Series.{Data}
use Rattle.ghcn_series.specs.Held.{IsContents}
use Rattle.rank_query.specs.Meaning.Asked.{Query, IsAsked}
use Rattle.rank_scores.specs.Morsels.{id_comes_first, best_of_query}
use Rattle.rank_sched.specs.declared.record.Record.{Record}
use Rattle.rank_sched.specs.declared.line.Line.{Line}
use Rattle.rank_sched.specs.declared.haul.Haul.{Haul}
use Rattle.rank_sched.specs.declared.answer.Answer.{Answer}
use Rattle.rank_sched.specs.Plan.{Morsel, Plan, planned}
use Rattle.rank_sched.specs.Task.{Task, task_of, all_of_task}
use Rattle.rank_sched.specs.declared.event.Event.{Event}
use Rattle.rank_sched.specs.Machine.{Worker, State, Reaches, all_stopped}
use Rattle.rank_sched.specs.Hauls.{all_records, AreSound, AreUnderFloor}
use Rattle.rank_sched.specs.TakingBack.{stays, taken_back}

-- the line of a morsel with its number: its ID and bound, and whether it was skipped and stays so
abbrev pub line_of : Plan → List Record → ℕ × Morsel → Line
line_of p rs m = record { id = m.1.series.id; bound = m.1.bound; skipped = stays (task_of p) rs m.0 }

-- a line for each morsel, by increasing ID
abbrev pub lines_of : Plan → List Record → List Line
lines_of p rs = sorted_by (λ a b. id_comes_first a.id b.id) (map (line_of p rs) (enumerate_from 0 p.morsels))

-- the best candidates of a plan's morsels
abbrev pub best_of_plan : Plan → List Candidate
best_of_plan p = best p.query.k (all_of_task (task_of p))

-- these are the best candidates of the query and the data of which this is the plan
abbrev pub AreBestOfQuery : Plan → List Candidate → Type 0
AreBestOfQuery p best =
    (q : Query) (c : Data) → IsAsked q → IsContents c → p ≡ planned q c → best ≡ best_of_query q c

-- the answer of a run with these records
pub record IsAnswer (p : Plan) (rs : List Record) (a : Answer) : Type 0 where
  pub best_are : a.best.items ≡ best_of_plan p
  pub lines_are : a.lines.items ≡ lines_of p rs
  pub records_are : a.records.items ≡ rs
  pub taken_back_is : a.taken_back ≡ taken_back (task_of p) rs

-- an answer whose best candidates and lines are those of some sound hauls of the plan
pub record IsAnswerOfPlan (p : Plan) (a : Answer) : Type 0 where
  pub hauls : List Haul
  pub sound : AreSound (task_of p) hauls
  pub best_are : a.best.items ≡ best_of_plan p
  pub lines_are : a.lines.items ≡ lines_of p (all_records hauls)

-- the answer of a crew: its records are those of sound hauls of that many workers under a floor from the guess on
pub record IsAnswerOfCrew (p : Plan) (guess : Option ℤ) (workers : ℕ) (a : Answer) : Type 0 where
  pub hauls : List Haul
  pub floor : Option ℤ
  pub count : length hauls ≡ workers
  pub sound : AreSound (task_of p) hauls
  pub under_floor : AreUnderFloor (task_of p) guess hauls floor
  pub answer : IsAnswer p (all_records hauls) a

-- the records of some workers, worker after worker
abbrev pub records_in : List Worker → List Record
records_in vs = flat_map (λ v. v.records) vs

-- the records are those of the run that one worker makes from the start to its end, under a guess or none
pub record AreRecordsAlone (t : Task) (guess : Option ℤ) (rs : List Record) : Type 0 where
  pub events : List Event
  pub state : State
  pub reached : Reaches t 1 guess events state
  pub stopped : all_stopped state.workers ≡ true
  pub records_are : rs ≡ records_in state.workers
