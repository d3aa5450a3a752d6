-- Files of an archive that are cut into parts, as a query sees them.
use Rattle.std.specs.Prelude.{◌≡◌, ℕ, Bool, List, Ok, map}
use Rattle.std.specs.List.{flat_map, AllByRecursion, AllZip, IsDistinct}
use Rattle.std.specs.List.Sorted.{IsPermutation}
use Rattle.ghcn_fields.specs.Sorting.{sorted_by}
use Rattle.ghcn_files.specs.declared.station.StationId.{StationId}
use Rattle.ghcn_files.specs.declared.station.Station.{Station}
use Rattle.ghcn_files.specs.Meaning.Ids.{same_id}
use Rattle.ghcn_series.specs.Meaning.Series.{Series}
use Rattle.ghcn_series.specs.Series.{Data}
use Rattle.ghcn_series.specs.Says.{data_of}
use Rattle.rank_query.specs.Meaning.Asked.{Query}
use Rattle.rank_scores.specs.Candidates.{candidates}
use Rattle.rank_scores.specs.Morsels.{admitted_series, all_candidates, morsels, id_comes_first}

-- a series of a part can take the place of one of the whole: it has its ID and its candidates
pub record IsSameFor (q : Query) (a b : Series) : Type 0 where
  pub id : a.id ≡ b.id
  pub candidates : candidates q a ≡ candidates q b

-- a series whose ID comes before another's, or is the same
abbrev pub series_first : Series → Series → Bool
series_first a b = id_comes_first a.id b.id

-- the data are cut into these parts, as far as a query sees: of the same stations, the candidates are those of the
-- parts, and so are the morsels, by increasing ID
pub record IsCut (q : Query) (c : Data) (ds : List Data) : Type 0 where
  pub stations : AllByRecursion (λ d. d.stations ≡ c.stations) ds
  pub candidates : IsPermutation (flat_map (all_candidates q) ds) (all_candidates q c)
  pub morsels : AllZip (IsSameFor q) (sorted_by series_first (flat_map (morsels q) ds)) (morsels q c)

-- the IDs of the morsels of some data
abbrev pub morsel_ids : Query → List Data → List StationId
morsel_ids q ds = map (λ s. s.id) (flat_map (morsels q) ds)

-- the IDs of the series that a query is about, of some data
abbrev pub series_ids : Query → List Data → List StationId
series_ids q ds = map (λ s. s.id) (flat_map (admitted_series q) ds)

-- the files of a part, and its report and certificate
abbrev pub Filed : Type 0
Filed = List (List ℕ) × (List ℕ × List ℕ)

-- the data of the files of a part
abbrev pub IsDataOf : List Station → Filed → Data → Type 0
IsDataOf stations p d = data_of stations p.0 ≡ Ok d

-- files that are cut into parts are cut as a query sees it, if all files together have no error, and no station has
-- morsels in two parts
abbrev pub CutByFiles : Type 0
CutByFiles = (q : Query) (stations : List Station) (parts : List Filed) (ds : List Data) (dataset : Data)
    → AllZip (IsDataOf stations) parts ds → data_of stations (flat_map (λ p. p.0) parts) ≡ Ok dataset
    → IsDistinct same_id (morsel_ids q ds) → IsCut q dataset ds

-- if no station has a series of the query's element in two parts, the morsels of all files are those of the parts
abbrev pub MorselsOfParts : Type 0
MorselsOfParts = (q : Query) (stations : List Station) (parts : List Filed) (ds : List Data) (dataset : Data)
    → AllZip (IsDataOf stations) parts ds → data_of stations (flat_map (λ p. p.0) parts) ≡ Ok dataset
    → IsDistinct same_id (series_ids q ds) → morsels q dataset ≡ sorted_by series_first (flat_map (morsels q) ds)
