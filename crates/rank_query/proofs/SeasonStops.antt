-- Where the reading of a season stops.
use Rattle.rank_query.proofs.Cited.{◌≡◌, true, AllByRecursion, Season, Months, Dates, is_season}
use Rattle.rank_query.proofs.SeasonWords.{season_rows}
use Rattle.rank_query.proofs.Stops.{ReadsPart}
use Rattle.rank_query.proofs.PartStops.{part_word, part_made}
use Rattle.rank_query.proofs.WordStops.{reads_months, reads_dates}

-- a season that can be asked for
abbrev pub GoodSeason : Season → Type 0
GoodSeason s = is_season s ≡ true

-- a season is a part after its word
pub season_parts : AllByRecursion (λ row. ReadsPart Season GoodSeason row.1) season_rows
season_parts = (
  part_made (λ s. Months s.0 s.1) (λ s is. is) (part_word reads_months),
  (part_made (λ s. Dates s.0 s.1) (λ s is. is) (part_word reads_dates), tt),
)
