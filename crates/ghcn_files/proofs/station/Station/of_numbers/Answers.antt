use Rattle.std.proofs.Common.{rules, List, ℕ, ap, ◌∙◌, FitsSigned, to_z-of_z, w32}
use Rattle.ghcn_files.specs.declared.station.Numbers.{Numbers}
use Rattle.ghcn_files.specs.declared.station.StationId.{StationId}
use Rattle.ghcn_files.proofs.StationTests.{station_of-parts}
use Rattle.ghcn_files.proofs.station.Station.of_numbers.Goals as goal

-- the station has the line's ID and texts, and its numbers
pub returns : goal.returns
returns c =
    let make : List ℕ → StationId = λ bytes. record { 0 = bytes } in
    let north_fits : FitsSigned w32 c.args.numbers.latitude = search rules in
    let east_fits : FitsSigned w32 c.args.numbers.longitude = search rules in
    station_of-parts c.args.line.now _ _ _ _ _ _ (ap make c.columns.ensures)
    (to_z-of_z north_fits ∙ ap (λ (n : Numbers). n.latitude) c.requires)
    (to_z-of_z east_fits ∙ ap (λ (n : Numbers). n.longitude) c.requires)
    (ap (λ (n : Numbers). n.elevation) c.requires)
    c.printable_columns.ensures c.printable_columns-2.ensures
