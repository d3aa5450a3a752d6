-- Days that are admitted alike, as one after another comes.
use Rattle.std.specs.Prelude.{◌≡◌, List, filter, ◌≤ℤ◌, IsTrue}
use Rattle.std.specs.List.{AllByRecursion}
use Rattle.ghcn_fields.specs.Meaning.Days.{is_day}
use Rattle.ghcn_series.specs.Meaning.Series.{DayValue}
use Rattle.ghcn_series.specs.Series.{is_by_day}
use Rattle.rank_query.specs.Meaning.Asked.{Query}
use Rattle.rank_query.specs.Meaning.Admits.{admits_day}
use Rattle.rank_scores.specs.declared.admitted.Stretch.{Stretch}

-- those of some days that a query admits
abbrev pub admitted_among : Query → List DayValue → List DayValue
admitted_among q days = filter (λ x. admits_day q x.0) days

-- the days to come rise, and those up to the stretch's last one are admitted, or aren't, as it has it
pub record IsStretch (q : Query) (days : List DayValue) (s : Stretch) : Type 0 where
  pub by_day : IsTrue (is_by_day days)
  pub calendar : AllByRecursion (λ x. IsTrue (is_day x.0)) days
  pub alike : AllByRecursion (λ x. x.0 ≤ℤ s.last → admits_day q x.0 ≡ s.admitted) days
