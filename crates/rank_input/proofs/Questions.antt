-- What a question takes, and what it returns at its end.
use Rattle.std.proofs.Common.{◌≡◌, List, ℕ, [], ◌∷◌, ◌++◌, true, refl, sym, ap, ◌∙◌, subst}
use Rattle.std.specs.Prelude.{Option, Result, Ok, Err}
use Rattle.std.proofs.lemmas.Bool.{OnFalse_at, OnFalse_from}
use Rattle.ghcn_fields.specs.Refusals.{IsRefusal}
use Rattle.ghcn_files.specs.Elements.{only}
use Rattle.ghcn_files.specs.Listed.{listed}
use Rattle.ghcn_series.specs.declared.counts.Warnings.{Warnings}
use Rattle.ghcn_series.specs.declared.rows.RowReader.{RowReader}
use Rattle.ghcn_series.specs.Fed.{files_of}
use Rattle.ghcn_series.specs.Gathered.{HasReadByRows}
use Rattle.ghcn_series.specs.Kept.{HoldFiles}
use Rattle.ghcn_series.specs.Says.{data_of}
use Rattle.ghcn_series.specs.Series.{Data}
use Rattle.rank_query.specs.Meaning.Asked.{Query, score_element}
use Rattle.rank_query.specs.Reading.{read_query}
use Rattle.rank_query.proofs.Asks.{read_asks}
use Rattle.rank_input.specs.declared.fault.Fault.{Fault}
use Rattle.rank_input.specs.declared.intake.Intake.{Intake}
use Rattle.rank_input.specs.declared.question.Question.{Question}
use Rattle.rank_input.specs.Input.{of_query, of_stations, of_data, is_memory, then_read, read_files, read_input}
use Rattle.rank_input.specs.Feeding.{FeedsFiles}
use Rattle.rank_input.specs.Takes as takes
use Rattle.rank_input.specs.Takes.{file_input, with_bytes, with_file_end, TakesBytes, TakesFileEnd, MakesTaken, RefusesTaken}
use Rattle.rank_input.specs.Taken.{Input, given, files_for, IsQueryFault, IsAskedOf, HasTaken}
use Rattle.rank_input.specs.Taken.{AreWarningsOf, HoldsInput, RefusesInput, ReportsQuery}
use Rattle.rank_input.proofs.Feedings.{input-files}

-- two errors that are returned alike are the same
err_same : {A E : Type 0} {a b : E} → ◌≡◌ {A = Result A E} (Err a) (Err b) → a ≡ b
err_same e = cc

-- a question about what another intake was given
abbrev pub with_intake : Question → Intake RowReader → Question
with_intake t files = record { query = t.query; files = files }

-- what is asked goes on with what the intake takes
goes_on : (query : Result Query Fault) (old new : Intake RowReader) (i j : Input) → i.query ≡ j.query
    → ((q : Query) → takes.HasTaken HasReadByRows old (files_for q i)
    → takes.HasTaken HasReadByRows new (files_for q j)) → IsAskedOf query old i → IsAskedOf query new j
goes_on (Ok q) old new i j same step is =
    (subst (λ (text : List ℕ). read_query text ≡ Ok q) same is.0, step q is.1)
goes_on (Err fault) old new i j same step is = subst (λ (text : List ℕ). IsQueryFault text fault) same is

-- one file more is given
pub file_given : (t : Question) (mid new : Intake RowReader) (query stations bytes : List ℕ) (files : List (List ℕ))
    → TakesBytes HasReadByRows t.files mid bytes → TakesFileEnd HasReadByRows mid new
    → HasTaken t (given query stations files)
    → HasTaken (with_intake t new) (given query stations (files ++ bytes ∷ []))
file_given t mid new query stations bytes files takes ends is =
    goes_on t.query t.files new (given query stations files) (given query stations (files ++ bytes ∷ [])) refl
    (λ q has. ends.holds (with_bytes (file_input (only (score_element q.score)) stations files) bytes)
    (takes.holds (file_input (only (score_element q.score)) stations files) has)) is

-- all files are given
pub files_given : (t : Question) (new : Intake RowReader) (known : List (Option (List ℕ))) (query stations : List ℕ)
    (fed : FeedsFiles HasReadByRows t.files new known) → HasTaken t (given query stations [])
    → HasTaken (with_intake t new) (given query stations fed.files)
files_given t new known query stations fed is =
    goes_on t.query t.files new (given query stations []) (given query stations fed.files) refl
    (λ q has. subst (takes.HasTaken HasReadByRows new) (input-files (only (score_element q.score)) stations [] fed.files)
    (fed.taken (file_input (only (score_element q.score)) stations []) has)) is

-- an error of the query is that of the input
refused_query : (query stations : List ℕ) (files : List (List ℕ)) (fault : Fault) → IsQueryFault query fault
    → IsRefusal is_memory fault (read_input query stations files)
refused_query query stations files fault is =
    OnFalse_from (is_memory fault) _ (λ e. rw (is.asks, is.is) refl)

-- a question with an error has taken a query that has it
faulty : (t : Question) (fault : Fault) (i : Input) → t.query ≡ Err fault → HasTaken t i → IsQueryFault i.query fault
faulty t fault i is taken = subst (λ (query : Result Query Fault). IsAskedOf query t.files i) is taken

-- its error is that of the input
pub refuses_query : (t : Question) (fault : Fault) → t.query ≡ Err fault → RefusesInput t fault
refuses_query t fault is = record {
  is = λ i taken. refused_query i.query i.stations (files_of i.files) fault (faulty t fault i is taken);
}

-- and it is returned
pub reports_query : {A : Type 0} (t : Question) (fault : Fault) → t.query ≡ Err fault
    → ReportsQuery {A = A} t (Err fault)
reports_query t fault is = record {
  is = λ i taken why asks.
      let query = faulty t fault i is taken in
      let same : query.why ≡ why = err_same (sym query.asks ∙ asks) in
      ap Err (query.is ∙ ap of_query same);
}

-- a question without an error asks this, and its intake was given the files for it
asked_of : (t : Question) (q : Query) (i : Input) → t.query ≡ Ok q → HasTaken t i → IsAskedOf (Ok q) t.files i
asked_of t q i is taken = subst (λ (query : Result Query Fault). IsAskedOf query t.files i) is taken

-- then the query has no error to return
pub right_query : {A : Type 0} (t : Question) (q : Query) (result : Result A Fault) → t.query ≡ Ok q
    → ReportsQuery t result
right_query t q result is = record {
  is = λ i taken why asks. let both = sym (asked_of t q i is taken).0 ∙ asks in absurd cc;
}

-- what is kept of the files is what the input holds
pub holds_input : (t : Question) (q : Query) (made : Data × Warnings) → t.query ≡ Ok q
    → MakesTaken HasReadByRows HoldFiles t.files made → HoldsInput t q made.0
holds_input t q made is makes = record {
  is = λ i taken.
      let asked = asked_of t q i is taken in
      let all = makes.is (files_for q i) asked.1 in
      record {
        whole = all.made.held.whole;
        read = record {
          list = all.list;
          asks = read_asks i.query q asked.0;
          lists = all.lists;
          holds = all.made.held.read;
        };
        needed = all.made.held.is;
      };
}

-- and what a run over them warns of is what a run over the input does
pub warns_of_input : (t : Question) (q : Query) (made : Data × Warnings) → t.query ≡ Ok q
    → MakesTaken HasReadByRows HoldFiles t.files made → AreWarningsOf t made.1
warns_of_input t q made is makes = record {
  is = λ i taken. (makes.is (files_for q i) (asked_of t q i is taken).1).made.warned;
}

-- the same error comes, whatever is made of what was read
same_error : {A B C E : Type 0} (of : E → Fault) (read : Result A E) (f : A → Result B Fault) (g : A → Result C Fault)
    (fault : Fault) → ((a : A) → f a ≡ Err fault → g a ≡ Err fault) → then_read of read f ≡ Err fault
    → then_read of read g ≡ Err fault
same_error of (Ok a) f g fault step is = step a is
same_error of (Err e) f g fault step is = let same : of e ≡ fault = cc in ap Err same

-- after a query without an error the error of the files is that of the input
pub refused_input : (query stations : List ℕ) (files : List (List ℕ)) (q : Query) (fault : Fault)
    → read_query query ≡ Ok q → IsRefusal is_memory fault (read_files stations files)
    → IsRefusal is_memory fault (read_input query stations files)
refused_input query stations files q fault asks is =
    OnFalse_from (is_memory fault) _ (λ e.
    rw asks (same_error of_stations (listed stations) _ _ fault
    (λ list. same_error of_data (data_of list files) _ _ fault (λ held wrong. absurd cc)) (OnFalse_at e is)))

-- the error of the files is that of the input
pub refuses_input : (t : Question) (q : Query) (fault : Fault) → t.query ≡ Ok q
    → RefusesTaken HasReadByRows t.files fault → RefusesInput t fault
refuses_input t q fault is refuses = record {
  is = λ i taken.
      let asked = asked_of t q i is taken in
      refused_input i.query i.stations (files_of i.files) q fault asked.0 (refuses.is (files_for q i) asked.1);
}

-- out of memory is a refusal of any input
pub memory_refuses : (t : Question) (fault : Fault) → is_memory fault ≡ true → RefusesInput t fault
memory_refuses t fault is = record { is = λ i taken. rw is tt }
