use Rattle.ghcn_series.proofs.Cited.{ℕ, List, ap, ◌∙◌, filter_map, Series, Data, month_on, all_of}
use Rattle.ghcn_series.proofs.AllSeries.{all_ready, series_are, all_listed, are_by_station}
use Rattle.ghcn_series.proofs.ReadMonths.{as_many_gathered}
use Rattle.ghcn_series.proofs.reader.Reader.into_data.Goals as goal

-- each station has its gatherings
pub into_series-requires-clause-number : goal.into_series-requires-clause-number
into_series-requires-clause-number c = as_many_gathered _ c.args.self c.requires.1.months

-- which can become series
pub into_series-requires-clause-ready : goal.into_series-requires-clause-ready
into_series-requires-clause-ready c =
    let read = c.requires.1.months in
    all_ready c.args.self.keep (filter_map month_on c.requires.0) read.right c.args.self.stations
    c.args.self.gathered.stations read.gathered

-- the series are grouped by station
pub of-requires : goal.of-requires
of-requires c =
    let read = c.requires.1.months in
    rw c.in_ok-series.ensures (are_by_station c.args.self.keep (filter_map month_on c.requires.0) c.args.self.stations
    c.args.self.gathered.stations read.listed read.right read.gathered)

-- all that was read is held
pub returns : goal.returns
returns c = record {
  is = λ ls read. let stations = c.args.self.stations in
      let series = ap all_of c.in_ok-series.ensures
      ∙ series_are c.args.self.keep stations (filter_map month_on ls) stations c.args.self.gathered.stations
      (all_listed stations) read.months.gathered in
      let of : List Series → ℕ → Data = λ us n. record { stations = stations; series = us; unlisted = n } in
      c.of.ensures ∙ ap (λ us. of us c.args.self.unlisted) series ∙ ap (of _) read.months.unlisted;
}
