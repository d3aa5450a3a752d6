-- What is asked, and what the files were given so far that it is asked of.
use Rattle.std.specs.Prelude.{◌≡◌, ℕ, List, Result, Ok, Err}
use Rattle.ghcn_files.specs.Elements.{only}
use Rattle.ghcn_series.specs.declared.counts.Warnings.{Warnings}
use Rattle.ghcn_series.specs.declared.rows.RowReader.{RowReader}
use Rattle.ghcn_series.specs.Series.{Data}
use Rattle.ghcn_series.specs.Fed.{Files, ended_files, files_of}
use Rattle.ghcn_series.specs.Gathered.{HasReadByRows}
use Rattle.ghcn_series.specs.LineKinds.{warnings_of}
use Rattle.rank_query.specs.declared.fault.QueryFault.{QueryFault}
use Rattle.rank_query.specs.Meaning.Asked.{Query, score_element}
use Rattle.rank_query.specs.Reading.{read_query}
use Rattle.rank_scores.specs.OneElement.{data_for}
use Rattle.ghcn_fields.specs.Refusals.{IsRefusal}
use Rattle.rank_input.specs.declared.fault.Fault.{Fault}
use Rattle.rank_input.specs.declared.intake.Intake.{Intake}
use Rattle.rank_input.specs.declared.question.Question.{Question}
use Rattle.rank_input.specs.Input.{IsReadOf, of_query, read_input, is_memory}
use Rattle.rank_input.specs.Takes as takes
use Rattle.rank_input.specs.Takes.{FileInput}

-- what a run was given: the query, the station list, and the daily files as they came
pub record Input : Type 0 where
  pub query : List ℕ
  pub stations : List ℕ
  pub files : Files

-- a query, the station list, and these daily files
abbrev pub given : List ℕ → List ℕ → List (List ℕ) → Input
given query stations files = record { query = query; stations = stations; files = ended_files files }

-- what an intake is given for a query: it keeps the series of the query's element
abbrev pub files_for : Query → Input → FileInput
files_for q i = record { keep = only (score_element q.score); stations = i.stations; files = i.files }

-- the query has an error, and this is it
pub record IsQueryFault (query : List ℕ) (fault : Fault) : Type 0 where
  pub why : QueryFault
  pub asks : read_query query ≡ Err why
  pub is : fault ≡ of_query why

-- the query has no error, and an intake was given the files for it, or the query has this error
abbrev pub IsAskedOf : Result Query Fault → Intake RowReader → Input → Type 0
IsAskedOf (Ok q) t i = (read_query i.query ≡ Ok q) × takes.HasTaken HasReadByRows t (files_for q i)
IsAskedOf (Err fault) t i = IsQueryFault i.query fault

-- a question was given this input
abbrev pub HasTaken : Question → Input → Type 0
HasTaken t i = IsAskedOf t.query t.files i

-- the intake of a question was given something
abbrev pub HasTakenSome : Question → Type 0
HasTakenSome t = takes.HasTakenSome HasReadByRows t.files

-- whatever a question was given, this is true of the query, the station list and the daily files
pub record IsTrueOf (t : Question) (P : List ℕ → List ℕ → List (List ℕ) → Type 0) : Type 0 where
  pub is : (i : Input) → HasTaken t i → P i.query i.stations (files_of i.files)

-- these are the foreign files among the daily files that a question was given, and their odd lines
abbrev pub AreWarningsOf : Question → Warnings → Type 0
AreWarningsOf t warnings = IsTrueOf t (λ query stations files. warnings ≡ warnings_of files)

-- an input has no error and asks this, and these are what the query needs of the data that it holds
pub record Needs (query stations : List ℕ) (files : List (List ℕ)) (asked : Query) (dataset : Data) : Type 0 where
  pub whole : Data
  pub read : IsReadOf query stations files asked whole
  pub needed : dataset ≡ data_for asked whole

-- a query and data are what a question's input asks and needs
abbrev pub HoldsInput : Question → Query → Data → Type 0
HoldsInput t asked dataset = IsTrueOf t (λ query stations files. Needs query stations files asked dataset)

-- out of memory, or the first error of a question's input
abbrev pub RefusesInput : Question → Fault → Type 0
RefusesInput t fault =
    IsTrueOf t (λ query stations files. IsRefusal is_memory fault (read_input query stations files))

-- if the query of a question's input has an error, this error is returned, even if memory ran out
pub record ReportsQuery {A : Type 0} (t : Question) (result : Result A Fault) : Type 0 where
  pub is : (i : Input) → HasTaken t i → (why : QueryFault) → read_query i.query ≡ Err why → result ≡ Err (of_query why)
