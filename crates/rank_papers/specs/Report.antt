-- The rows of a report with the names of stations, and the right report of data.
use Rattle.std.specs.Prelude.{ℕ, List, ◌∷◌, map, Option}
use Rattle.std.specs.List.{find, filter_map}
use Rattle.std.specs.Option.{option_map}
use Rattle.ghcn_files.specs.declared.station.Station.{Station}
use Rattle.ghcn_files.specs.Meaning.Listed.{is_station_of}
use Rattle.ghcn_series.specs.Series.{Data}
use Rattle.rank_query.specs.Meaning.Asked.{Query}
use Rattle.rank_scores.specs.declared.candidate.Candidate.{Candidate}
use Rattle.rank_scores.specs.Morsels.{best_of_query}
use Rattle.rank_papers.specs.Meaning.Report.{trimmed, report_text, IsReportOfBest}

-- ---- lines

-- a blank and a field
abbrev pub after_blank : List ℕ → List ℕ
after_blank field = 32 ∷ field

-- a row as it is printed: a candidate, and a name, which may be empty
abbrev pub Named : Type 0
Named = Candidate × List ℕ

-- ---- whose rows are right

-- the row of a candidate and its station: the name without the blanks at its end
abbrev pub named : Candidate × Station → Named
named row = (row.0, trimmed row.1.name)

-- a candidate with its listed station
abbrev pub with_station : List Station → Candidate → Option (Candidate × Station)
with_station stations c = option_map (λ station. (c, station)) (find (is_station_of c.id) stations)

-- candidates with their listed stations
abbrev pub with_stations : List Station → List Candidate → List (Candidate × Station)
with_stations stations cs = filter_map (with_station stations) cs

-- the right report of a query and data: that of the best candidates
abbrev pub IsFoundReport : Query → Data → List ℕ → Type 0
IsFoundReport q c bytes = IsReportOfBest q c.stations (best_of_query q c) bytes

-- the rows of candidates of listed stations
abbrev pub rows_of_best : List Station → List Candidate → List Named
rows_of_best stations best = map named (with_stations stations best)

-- the text of the report with these best candidates of listed stations
abbrev pub text_of_best : Query → List Station → List Candidate → List ℕ
text_of_best q stations best = report_text q (rows_of_best stations best)
