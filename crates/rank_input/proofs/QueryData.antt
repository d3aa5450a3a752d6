-- What a query needs of data that are kept for several queries.
use Rattle.std.proofs.Common.{◌≡◌, ℕ, true, List, Ok, ap, ◌∙◌}
use Rattle.ghcn_files.specs.declared.element.Keep.{Keep}
use Rattle.ghcn_files.specs.declared.station.Station.{Station}
use Rattle.ghcn_files.specs.Elements.{is_kept}
use Rattle.ghcn_files.specs.Listed.{listed}
use Rattle.ghcn_series.specs.Series.{Data}
use Rattle.ghcn_series.specs.Kept.{AreKept}
use Rattle.rank_query.specs.Meaning.Asked.{Query, score_element}
use Rattle.rank_query.specs.Meaning.Asks.{Asks}
use Rattle.rank_scores.specs.OneElement.{data_for, KeptAreEnough}
use Rattle.rank_input.specs.Input.{IsReadOf}

-- an input has no error and asks this, and what the query needs of the data that it holds, it needs of these
pub record IsEnough (query stations : List ℕ) (files : List (List ℕ)) (asked : Query) (held : Data) : Type 0 where
  pub whole : Data
  pub read : IsReadOf query stations files asked whole
  pub same : data_for asked held ≡ data_for asked whole

-- data are enough for a query if the values of its element are kept, whatever else is
pub kept_are_enough : KeptAreEnough → (query stations : List ℕ) (files : List (List ℕ)) (list : List Station)
    (keep : Keep) (asked : Query) (held : Data) → Asks query asked
    → is_kept keep (score_element asked.score) ≡ true → listed stations ≡ Ok list → AreKept keep list files held
    → IsEnough query stations files asked held
kept_are_enough enough query stations files list keep asked held asks own lists kept = record {
  whole = kept.whole;
  read = record { list = list; asks = asks; lists = lists; holds = kept.read };
  same = ap (data_for asked) kept.is ∙ enough keep asked kept.whole own;
}
