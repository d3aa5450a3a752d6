-- What is said about an error of an input.
use Rattle.std.specs.Prelude.{◌≡◌, ◌⊎◌, ℕ, ◌-◌, List, [], ◌++◌, codes, Option, String, string_bytes}
use Rattle.std.specs.List.{slice_get}
use Rattle.std.specs.Option.{option_map_or}
use Rattle.rank_input.specs.declared.fault.Fault.{Fault}
use Rattle.rank_input.specs.declared.fault.Fault.TheVariants as faults
use Rattle.rank_query.specs.declared.fault.QueryFault.{QueryFault}
use Rattle.rank_query.specs.declared.fault.QueryFault.TheVariants as queries
use Rattle.explanations.specs.declared.explanation.Explanation.{Explanation}
use Rattle.explanations.specs.declared.input.Given.{Given}
use Rattle.explanations.specs.declared.query.WrongWord.{WrongWord}
use Rattle.explanations.specs.declared.query.MoreWords.{MoreWords}
use Rattle.explanations.specs.Daily.{daily_found, daily_wanted}
use Rattle.explanations.specs.Queries.{IsWordOf, wrong_word_text, more_words_text}
use Rattle.explanations.specs.Shown.{shown_text}
use Rattle.explanations.specs.Station.{station_found, station_wanted}
use Rattle.explanations.specs.Texts.{Says, line_text}

-- the path of the file of this number, from 1
abbrev pub file_path : {A : Type 0} → List (String A) → ℕ → List ℕ
file_path {A} files number = option_map_or (λ (path : String A). string_bytes path) (slice_get files (number - 1)) []

-- the path of the file with the error, if the error is one of a line, and otherwise an empty path
abbrev pub path_of : Given → Fault → List ℕ
path_of given (faults.StationLine line why) = given.stations.now
path_of given (faults.DailyLine file line why) = file_path given.files.now file
path_of given fault = []

-- an explanation says why a word of the query is wrong, or that there is no such word
abbrev pub SaysWord : List ℕ → Explanation → Type 0
SaysWord query e = ((w : WrongWord) × IsWordOf query w × Says e (wrong_word_text w))
    ⊎ Says e (shown_text query ++ codes ": " ++ codes "it has no such word")

-- an explanation says what has to follow the words of the query
abbrev pub SaysMore : List ℕ → Explanation → Type 0
SaysMore query e = (m : MoreWords) × (m.query.now ≡ query) × Says e (more_words_text m)

-- an error of a query, in words
abbrev pub IsOfQuery : QueryFault → List ℕ → Explanation → Type 0
IsOfQuery queries.QueryTooLong query e = Says e (codes "a query has at most 256 bytes")
IsOfQuery (queries.UnexpectedWord at) query e = SaysWord query e
IsOfQuery queries.QueryEnds query e = SaysMore query e
IsOfQuery (queries.OutOfLimits at) query e = SaysWord query e
IsOfQuery (queries.BadDate at) query e = SaysWord query e
IsOfQuery (queries.BadBox at) query e = SaysWord query e
IsOfQuery queries.EmptyPeriod query e = Says e (shown_text query ++ codes ": " ++ codes "its second day is before its first")

-- an error of an input, in words, with the line that has it, if that is known
abbrev pub IsOfInput : Fault → Given → Option (List ℕ) → Explanation → Type 0
IsOfInput (faults.StationLine number why) given line e =
    Says e (line_text given.stations.now number (station_found why line) (station_wanted why))
IsOfInput faults.TooManyStations given line e =
    Says e (shown_text given.stations.now ++ codes ": " ++ codes "a station list has at most 1048576 stations")
IsOfInput (faults.Memory m) given line e = Says e (codes "out of memory: the system gave no more")
IsOfInput (faults.DailyLine file number why) given line e =
    Says e (line_text (file_path given.files.now file) number (daily_found why line) (daily_wanted why))
IsOfInput faults.TooManyFiles given line e = Says e (codes "at most 1048576 daily files are read")
IsOfInput faults.QueryTooLong given line e = IsOfQuery queries.QueryTooLong given.query.now e
IsOfInput (faults.UnexpectedWord at) given line e = IsOfQuery (queries.UnexpectedWord at) given.query.now e
IsOfInput faults.QueryEnds given line e = IsOfQuery queries.QueryEnds given.query.now e
IsOfInput (faults.OutOfLimits at) given line e = IsOfQuery (queries.OutOfLimits at) given.query.now e
IsOfInput (faults.BadDate at) given line e = IsOfQuery (queries.BadDate at) given.query.now e
IsOfInput (faults.BadBox at) given line e = IsOfQuery (queries.BadBox at) given.query.now e
IsOfInput faults.EmptyPeriod given line e = IsOfQuery queries.EmptyPeriod given.query.now e
IsOfInput faults.BadWorkers given line e = Says e (codes "--workers: 1 to 64 workers may run")
IsOfInput faults.BadGuess given line e = Says e (codes "--guess: a score is from -2147483648 to 2147483648")
