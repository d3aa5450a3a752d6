use Rattle.std.proofs.Common.{◌≡◌, ◌∙◌, Option, arith, rules}
use Rattle.std.proofs.Math.Path.{fun_ext}
use Rattle.std.proofs.lemmas.Bool.{and_parts}
use Rattle.ghcn_files.specs.declared.element.Element.{Element}
use Rattle.ghcn_files.specs.declared.station.StationId.{StationId}
use Rattle.ghcn_files.specs.Meaning.Ids.{same_id}
use Rattle.ghcn_files.specs.Elements.{same_element, is_kept, only}
use Rattle.ghcn_files.proofs.KeptElements.{is_kept-only}
use Rattle.ghcn_series.specs.Series.{Data, series_of, is_series_of}
use Rattle.ghcn_series.specs.Kept.{kept}
use Rattle.rank_scores.proofs.Rising.{find-filter}
use Rattle.rank_scores.specs.OneElement.{SeriesStay}
use Rattle.rank_scores.proofs.laws.one_element_is_enough.Goals as goal

-- a station has the same series of an element among those of that element
series_of-kept : (e : Element) (c : Data) (id : StationId) → series_of (kept (only e) c) id e ≡ series_of c id e
series_of-kept e c id = find-filter (is_series_of id e) (λ u. is_kept (only e) u.element) c.series
    (λ u is. is_kept-only e u.element ∙ (and_parts (same_id u.id id) (same_element u.element e) is).1)

-- so a query is about the same series
series_stay : SeriesStay
series_stay q c = search (rules, arith, Option, fun_ext, series_of-kept)

-- the series of a query stay, and so does all that is made of them
pub returns : goal.returns
returns c = search (rules, arith, series_stay)
