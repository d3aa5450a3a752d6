-- The greatest scores of series, put in order by ID, are those of the morsels.
use Rattle.std.proofs.Common.{◌≡◌, List, map, filter, sym, ◌∙◌, subst}
use Rattle.std.specs.List.Sorted.{IsPermutation, IsSortedBy}
use Rattle.ghcn_files.specs.declared.station.StationId.{StationId}
use Rattle.ghcn_files.proofs.IdOrder.{comes_first, same_station, strictly, one_sort}
use Rattle.ghcn_files.proofs.Ordered.{distinct-map, sorted-map}
use Rattle.ghcn_series.specs.Meaning.Series.{Series}
use Rattle.ghcn_series.specs.Series.{Data}
use Rattle.ghcn_series.specs.Held.{IsContents}
use Rattle.rank_query.specs.Meaning.Asked.{Query}
use Rattle.rank_scores.specs.Morsels.{has_admitted, admitted_series, morsels}
use Rattle.rank_scores.proofs.QueryCandidates.{morsels_apart}
use Rattle.rank_check.specs.declared.survey.Top.{Top}
use Rattle.rank_check.specs.Survey.{top}

-- the ID of a station's greatest score
abbrev pub id_of : Top → StationId
id_of t = t.id

-- what a sort by ID makes of the series' greatest scores are those of the morsels
pub sorted_tops : (q : Query) (c : Data) (before after : List Top) → IsContents c
    → before ≡ map (top q) (filter (has_admitted q) (admitted_series q c))
    → IsPermutation before after → IsSortedBy (strictly id_of) after → after ≡ map (top q) (morsels q c)
sorted_tops q c before after right e p up =
    let kept : List Series = filter (has_admitted q) (admitted_series q c) in
    one_sort id_of (map (top q) kept) after (distinct-map (top q) (same_station id_of) kept (morsels_apart q c right))
    (subst (λ (l : List Top). IsPermutation l after) e p) up
    ∙ sym (sorted-map (top q) (comes_first id_of) kept)
