-- What a query may have at each of its places.
use Rattle.std.specs.Prelude.{ℕ, List, [], codes}
use Rattle.explanations.specs.declared.query.Wanted.{Wanted}
use Rattle.explanations.specs.declared.query.Wanted.TheVariants.{OneOf, Form, Nothing}
use Rattle.explanations.specs.declared.place.Place.{Place}
use Rattle.explanations.specs.declared.place.Place.TheVariants as places

-- the words that say what is allowed at a place
abbrev pub words_wanted : Wanted → List ℕ
words_wanted (OneOf words) = words.now
words_wanted (Form form) = form.now
words_wanted Nothing = []

-- these words, by the place
abbrev pub words_at : Place → List ℕ
words_at places.Top = codes "top"
words_at places.Rows = codes "a number from 1 to 1000"
words_at places.Score = codes "highest lowest sum dry wet hot cold"
words_at places.Element = codes "PRCP SNOW SNWD TMAX TMIN"
words_at places.Temperature = codes "TMAX TMIN"
words_at places.Days = codes "a number from 1 to 366"
words_at places.Fall = codes "PRCP SNOW"
words_at places.Heat = codes "a number from -100 to 100 with at most one decimal"
words_at places.Region = codes "box country state station months days from per"
words_at places.South = codes "a latitude from -90 to 90"
words_at places.West = codes "a longitude from -180 to 180"
words_at places.North = codes "a latitude from that of the southern edge to 90"
words_at places.East = codes "a longitude from -180 to 180"
words_at places.Code = codes "a code of two characters"
words_at places.Station = codes "an ID of eleven characters"
words_at places.Season = codes "months days from per"
words_at places.Months = codes "two months from 1 to 12, written A..B"
words_at places.Dates = codes "two days of a year, written MM-DD..MM-DD"
words_at places.Period = codes "from per"
words_at places.FirstDay = codes "a date from 0001-01-01 to 9999-12-31"
words_at places.To = codes "to"
words_at places.LastDay = codes "a date from 0001-01-01 to 9999-12-31"
words_at places.Per = codes "per"
words_at places.Group = codes "station year"
words_at places.End = []
