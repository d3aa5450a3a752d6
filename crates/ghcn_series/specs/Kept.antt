-- What is kept of data.
use Rattle.std.specs.Prelude.{◌≡◌, ℕ, List, filter, Ok}
use Rattle.ghcn_files.specs.declared.station.Station.{Station}
use Rattle.ghcn_files.specs.declared.element.Keep.{Keep}
use Rattle.ghcn_files.specs.Elements.{is_kept}
use Rattle.ghcn_series.specs.declared.counts.Warnings.{Warnings}
use Rattle.ghcn_series.specs.LineKinds.{warnings_of}
use Rattle.ghcn_series.specs.Series.{Data}
use Rattle.ghcn_series.specs.Says.{data_of}

-- of these data, the series of the elements that are kept
abbrev pub kept : Keep → Data → Data
kept keep c = record {
  stations = c.stations;
  series = filter (λ u. is_kept keep u.element) c.series;
  unlisted = c.unlisted;
}

-- these data are what is kept of the data that the files hold
pub record AreKept (keep : Keep) (stations : List Station) (files : List (List ℕ)) (held : Data)
    : Type 0 where
  pub whole : Data
  pub read : data_of stations files ≡ Ok whole
  pub is : held ≡ kept keep whole

-- these are what is kept of the data that the files hold, and what a run over them warns of
pub record HoldFiles (stations : List Station) (keep : Keep) (files : List (List ℕ)) (made : Data × Warnings)
    : Type 0 where
  pub held : AreKept keep stations files made.0
  pub warned : made.1 ≡ warnings_of files
