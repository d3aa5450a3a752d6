-- What is returned if a table is made of texts of reports, and of the files of these that are named.
use Rattle.std.specs.Prelude.{◌≡◌, ⊤, ℕ, Bool, List, [], ◌∷◌, ◌++◌, map, Option, None, Some, Result, Ok, Err, String, string_bytes}
use Rattle.std.specs.List.{AllByRecursion}
use Rattle.command_line.specs.declared.asked.TableArguments.{TableArguments}
use Rattle.ghcn_fields.specs.Refusals.{IsRefusal}
use Rattle.ghcn_files.specs.declared.fault.StationsFault.{StationsFault}
use Rattle.ghcn_files.specs.declared.station.Station.{Station}
use Rattle.ghcn_files.specs.Listed as listed
use Rattle.rank_input.specs.Feeding.{AreAllOf, AreFilesOf, AreOpenedFor, Opening}
use Rattle.rank_input.specs.Named.{list_path}
use Rattle.rank_table.specs.declared.fault.TableFault.{TableFault}
use Rattle.rank_table.specs.declared.fault.TableFault.TheVariants as table
use Rattle.rank_table.specs.Reports.{Placed, AreReportsOf, IsFirstBadText}
use Rattle.rank_table.specs.Reading as reading
use Rattle.rank_table.specs.Tables.{rows_of, table_of}
use Rattle.rank_table.specs.Laws.{IsFirstUnlisted, IsReadBack, IsThere}
use Rattle.extremes.specs.declared.table.TableText.{TableText}
use Rattle.extremes.specs.declared.table.TablingFault.{TablingFault}
use Rattle.extremes.specs.declared.table.TablingFault.TheVariants.{Stations, Reports}
use Rattle.extremes.specs.Merges.{Known}

-- ---- texts

-- a list of stations, or its error
abbrev pub some_listed : Result (List Station) StationsFault → Result (Option (List Station)) StationsFault
some_listed (Ok stations) = Ok (Some stations)
some_listed (Err cause) = Err cause

-- the stations of the text of a list, or its error; none if there is no list
abbrev pub listed_if_any : Option (List ℕ) → Result (Option (List Station)) StationsFault
listed_if_any None = Ok None
listed_if_any (Some text) = some_listed (listed.listed text)

-- the table of reports that were read, or the first error of them
abbrev pub table_of_reports : Option (List Station) → Result (List Placed) TableFault → Result (List ℕ) TableFault
table_of_reports stations (Ok reports) = table_of stations (rows_of reports)
table_of_reports stations (Err why) = Err why

-- a table, or an error of reports
abbrev pub of_reports : Result (List ℕ) TableFault → Result (List ℕ) TablingFault
of_reports (Ok text) = Ok text
of_reports (Err why) = Err (Reports why)

-- the table of these texts with a station list that was read, or the list's error
abbrev pub table_with : Result (Option (List Station)) StationsFault → List (List ℕ) → Result (List ℕ) TablingFault
table_with (Ok stations) texts = of_reports (table_of_reports stations (reading.reports_from 1 texts))
table_with (Err cause) texts = Err (Stations cause)

-- the table of these texts, with a station list if there is one; or the first error: the list's, or that of the texts
abbrev pub table_of_texts : Option (List ℕ) → List (List ℕ) → Result (List ℕ) TablingFault
table_of_texts stations texts = table_with (listed_if_any stations) texts

-- memory ran out
abbrev pub is_memory : TablingFault → Bool
is_memory (Stations cause) = listed.is_memory cause
is_memory (Reports why) = reading.is_memory why

-- this is the table of the reports that texts hold, with the places of a station list if there is one; read back it has
-- the rows of these reports
pub record IsTableOf (stations : Option (List ℕ)) (texts : List (List ℕ)) (bytes : List ℕ) : Type 0 where
  pub list : Option (List Station)
  pub listed : listed_if_any stations ≡ Ok list
  pub reports : List Placed
  pub held : AreReportsOf texts reports
  pub table : table_of list (rows_of reports) ≡ Ok bytes
  pub back : IsReadBack list (rows_of reports) bytes

-- the row on this line of the file of this number is the first of those of the texts whose station isn't in the list
pub record IsFirstUnlistedOf (stations : Option (List ℕ)) (texts : List (List ℕ)) (file line : ℕ) : Type 0 where
  pub list : Option (List Station)
  pub listed : listed_if_any stations ≡ Ok list
  pub reports : List Placed
  pub held : AreReportsOf texts reports
  pub there : AllByRecursion (IsThere texts) (rows_of reports)
  pub first : IsFirstUnlisted list (rows_of reports) file line

-- if a line of a text is refused, it is the first bad line, or that of the first row whose station isn't listed
abbrev pub SaysWrong : Option (List ℕ) → List (List ℕ) → TablingFault → Type 0
SaysWrong stations texts (Stations cause) = ⊤
SaysWrong stations texts (Reports (table.BadReport file line)) = IsFirstBadText texts file line
SaysWrong stations texts (Reports (table.NotListed file line)) = IsFirstUnlistedOf stations texts file line
SaysWrong stations texts (Reports (table.Memory m)) = ⊤

-- the table of these texts, or the first error
abbrev pub IsTableOrError : Option (List ℕ) → List (List ℕ) → Result TableText TablingFault → Type 0
IsTableOrError stations texts (Ok made) = IsTableOf stations texts made.bytes.items
IsTableOrError stations texts (Err fault) =
    IsRefusal is_memory fault (table_of_texts stations texts) × SaysWrong stations texts fault

-- ---- files

-- the path of a station list, if one is named
abbrev pub list_paths : {A : Type 0} → Option (String A) → List (List ℕ)
list_paths None = []
list_paths (Some path) = string_bytes path ∷ []

-- the path of a file of reports; `-` is standard input
abbrev pub report_path : {A : Type 0} → String A → List ℕ
report_path report = list_path (string_bytes report)

-- those of all files of reports
abbrev pub report_paths : {A : Type 0} → List (String A) → List (List ℕ)
report_paths reports = map report_path reports

-- what is known of the bytes of a file of reports
abbrev pub known_report : {A : Type 0} → Known → String A → Option (List ℕ)
known_report bytes_of report = bytes_of (report_path report)

-- the paths of what becomes a table, in the order in which it is read
abbrev pub tabling_paths : TableArguments → List (List ℕ)
tabling_paths asked = list_paths asked.stations ++ report_paths asked.reports.items

-- these are all the bytes of a station list, if one is named and they are known
abbrev pub IsListOf : {A : Type 0} → Known → Option (String A) → Option (List ℕ) → Type 0
IsListOf bytes_of None None = ⊤
IsListOf bytes_of None (Some text) = ⊥
IsListOf bytes_of (Some path) None = ⊥
IsListOf bytes_of (Some path) (Some text) = AreAllOf (bytes_of (string_bytes path)) text

-- the table of all bytes of the files of reports that are named, in order, and of the station list if one is
pub record TablesFiles (bytes_of : Known) (opens : Opening) (asked : TableArguments)
    (answer : Result TableText TablingFault) : Type 0 where
  pub opened : AreOpenedFor is_memory opens (tabling_paths asked) answer
  pub stations : Option (List ℕ)
  pub whole : IsListOf bytes_of asked.stations stations
  pub texts : List (List ℕ)
  pub all : AreFilesOf (map (known_report bytes_of) asked.reports.items) texts
  pub tabled : IsTableOrError stations texts answer
