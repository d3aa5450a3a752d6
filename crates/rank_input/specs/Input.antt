-- What the input says, and the first error in it.
use Rattle.std.specs.Prelude.{◌≡◌, ℕ, Bool, true, false, ◌&&◌, if◌then◌else◌, List, Option, None, Some, Result, Ok}
use Rattle.std.specs.Prelude.{Err, ℤ, pos, neg_ℤ, int_le, nat_lt, nat_le}
use Rattle.ghcn_files.specs.declared.fault.StationsFault.{StationsFault}
use Rattle.ghcn_files.specs.declared.fault.StationsFault.TheVariants as station
use Rattle.ghcn_files.specs.declared.station.Station.{Station}
use Rattle.ghcn_files.specs.Listed.{listed}
use Rattle.ghcn_series.specs.declared.fault.DataFault.{DataFault}
use Rattle.ghcn_series.specs.declared.fault.DataFault.TheVariants as daily
use Rattle.ghcn_series.specs.Series.{Data}
use Rattle.ghcn_series.specs.Says.{data_of}
use Rattle.rank_query.specs.declared.fault.QueryFault.{QueryFault}
use Rattle.rank_query.specs.declared.fault.QueryFault.TheVariants as query
use Rattle.rank_query.specs.Meaning.Asked.{Query}
use Rattle.rank_query.specs.Reading.{read_query}
use Rattle.rank_query.specs.Meaning.Asks.{Asks}
use Rattle.rank_input.specs.declared.fault.Fault.{Fault}
use Rattle.rank_input.specs.declared.fault.Fault.TheVariants.{StationLine, TooManyStations, Memory, DailyLine}
use Rattle.rank_input.specs.declared.fault.Fault.TheVariants.{TooManyFiles, QueryTooLong, UnexpectedWord, QueryEnds}
use Rattle.rank_input.specs.declared.fault.Fault.TheVariants.{OutOfLimits, BadDate, BadBox, EmptyPeriod, BadWorkers}
use Rattle.rank_input.specs.declared.fault.Fault.TheVariants.{BadGuess}

-- a guess that may be made: none, or a score from -2^31 to 2^31
abbrev pub is_guess : Option ℤ → Bool
is_guess None = true
is_guess (Some s) = int_le (neg_ℤ (pos 2_147_483_648)) s && int_le s (pos 2_147_483_648)

-- a number of workers that may run: 1 to 64
abbrev pub is_crew : ℕ → Bool
is_crew workers = nat_lt 0 workers && nat_le workers 64

-- an error of the query, as the whole input's error
abbrev pub of_query : QueryFault → Fault
of_query query.QueryTooLong = QueryTooLong
of_query (query.UnexpectedWord at) = UnexpectedWord at
of_query query.QueryEnds = QueryEnds
of_query (query.OutOfLimits at) = OutOfLimits at
of_query (query.BadDate at) = BadDate at
of_query (query.BadBox at) = BadBox at
of_query query.EmptyPeriod = EmptyPeriod

-- an error of the stations
abbrev pub of_stations : StationsFault → Fault
of_stations (station.StationLine line why) = StationLine line why
of_stations station.TooManyStations = TooManyStations
of_stations (station.Memory m) = Memory m

-- an error of the daily files
abbrev pub of_data : DataFault → Fault
of_data daily.TooManyFiles = TooManyFiles
of_data (daily.DailyLine file line why) = DailyLine file line why
of_data (daily.Memory m) = Memory m

-- what comes next is read only if this was read without an error
abbrev pub then_read : {A B E : Type 0} → (E → Fault) → Result A E → (A → Result B Fault) → Result B Fault
then_read of (Ok a) next = next a
then_read of (Err e) next = Err (of e)

-- the data that a station list and daily files hold, or the first error of these
abbrev pub read_files : List ℕ → List (List ℕ) → Result Data Fault
read_files stations files = then_read of_stations (listed stations) (λ ss.
    then_read of_data (data_of ss files) (λ dataset. Ok dataset))

-- the query and the data that an input holds, or the first error: of the query, the stations, the daily files
abbrev pub read_input : List ℕ → List ℕ → List (List ℕ) → Result (Query × Data) Fault
read_input query stations files =
    then_read of_query (read_query query) (λ q.
    then_read of_stations (listed stations) (λ ss.
    then_read of_data (data_of ss files) (λ dataset. Ok (q, dataset))))

-- an input has no error, and this is what it asks and holds
pub record IsReadOf (query stations : List ℕ) (files : List (List ℕ)) (asked : Query) (dataset : Data)
    : Type 0 where
  pub list : List Station
  pub asks : Asks query asked
  pub lists : listed stations ≡ Ok list
  pub holds : data_of list files ≡ Ok dataset

-- the first error of the arguments of a run: of the number of workers, of the guess
abbrev pub words_fault : ℕ → Option ℤ → Option Fault
words_fault workers guess =
    if is_crew workers then if is_guess guess then None else Some BadGuess else Some BadWorkers

-- what was read, unless there is an error that comes before it
abbrev pub read_unless : {A : Type 0} → Option Fault → Result A Fault → Result A Fault
read_unless None read = read
read_unless (Some fault) read = Err fault

-- what the input of a run of that many workers holds, under a guess or none, or the first error, arguments first
abbrev pub read_run : ℕ → Option ℤ → List ℕ → List ℕ → List (List ℕ) → Result (Query × Data) Fault
read_run workers guess query stations files =
    read_unless (words_fault workers guess) (read_input query stations files)

-- memory ran out
abbrev pub is_memory : Fault → Bool
is_memory (Memory m) = true
is_memory fault = false
