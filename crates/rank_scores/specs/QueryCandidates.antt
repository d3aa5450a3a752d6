-- What is true of the candidates of every query, as statements for the contract of a public function.
use Rattle.std.specs.Prelude.{List, IsTrue}
use Rattle.std.specs.List.{find, AllByRecursion}
use Rattle.std.specs.Option.{is_some}
use Rattle.ghcn_files.specs.declared.station.Station.{Station}
use Rattle.ghcn_files.specs.Meaning.Listed.{is_station_of}
use Rattle.ghcn_series.specs.Series.{Data}
use Rattle.ghcn_series.specs.Held.{IsContents}
use Rattle.rank_query.specs.Meaning.Asked.{Query}
use Rattle.rank_scores.specs.declared.candidate.Candidate.{Candidate}
use Rattle.rank_scores.specs.Order.{AreApart}
use Rattle.rank_scores.specs.Morsels.{all_candidates, best_of_query}

-- each candidate belongs to a listed station
abbrev pub AreOfListed : List Station → List Candidate → Type 0
AreOfListed stations cs = AllByRecursion (λ c. IsTrue (is_some (find (is_station_of c.id) stations))) cs

-- no two candidates of a query belong to one station and begin on one day
abbrev pub CandidatesAreApart : Type 0
CandidatesAreApart = (q : Query) (c : Data) → IsContents c → AreApart (all_candidates q c)

-- all candidates of a query belong to listed stations
abbrev pub CandidatesAreOfListed : Type 0
CandidatesAreOfListed = (q : Query) (c : Data) → IsContents c → AreOfListed c.stations (all_candidates q c)

-- and so do the best of them
abbrev pub BestAreOfListed : Type 0
BestAreOfListed = (q : Query) (c : Data) → IsContents c → AreOfListed c.stations (best_of_query q c)
