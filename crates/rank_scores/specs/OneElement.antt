-- What a query needs of all data, the series of its element, as statements for the contract of a public function.
use Rattle.std.specs.Prelude.{◌≡◌, true}
use Rattle.ghcn_files.specs.declared.element.Keep.{Keep}
use Rattle.ghcn_files.specs.Elements.{is_kept, only}
use Rattle.ghcn_series.specs.Series.{Data}
use Rattle.ghcn_series.specs.Kept.{kept}
use Rattle.rank_query.specs.Meaning.Asked.{Query, score_element}
use Rattle.rank_scores.specs.Morsels.{admitted_series, all_candidates, morsels, best_of_query, kth_of_query}

-- what a query needs of these data: of all series, those of its element
abbrev pub data_for : Query → Data → Data
data_for q c = kept (only (score_element q.score)) c

-- in what a query needs of any data, it is about the same series as in all of them
abbrev pub SeriesStay : Type 0
SeriesStay = (q : Query) (c : Data) → admitted_series q (data_for q c) ≡ admitted_series q c

-- it has the same candidates
abbrev pub CandidatesStay : Type 0
CandidatesStay = (q : Query) (c : Data) → all_candidates q (data_for q c) ≡ all_candidates q c

-- the same morsels
abbrev pub MorselsStay : Type 0
MorselsStay = (q : Query) (c : Data) → morsels q (data_for q c) ≡ morsels q c

-- the same best candidates
abbrev pub BestStay : Type 0
BestStay = (q : Query) (c : Data) → best_of_query q (data_for q c) ≡ best_of_query q c

-- and the same k-th score
abbrev pub KthStays : Type 0
KthStays = (q : Query) (c : Data) → kth_of_query q (data_for q c) ≡ kth_of_query q c

-- a query's own element is enough among others: what it needs of the series that are kept, it needs of all
abbrev pub KeptAreEnough : Type 0
KeptAreEnough = (keep : Keep) (q : Query) (c : Data) → is_kept keep (score_element q.score) ≡ true
    → data_for q (kept keep c) ≡ data_for q c
