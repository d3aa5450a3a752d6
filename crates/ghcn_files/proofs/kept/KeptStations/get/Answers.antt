use Rattle.std.proofs.Common.{ap, sym, ◌∙◌}
use Rattle.std.specs.Option.{option_copied}
use Rattle.ghcn_files.proofs.ById.{found-at_place, none-without_place}
use Rattle.ghcn_files.proofs.kept.KeptStations.get.Goals as goal

-- no station has an ID without a place
pub returns-in_err-place : goal.returns-in_err-place
returns-in_err-place c =
    ap option_copied c.from_residual.ensures
    ∙ none-without_place c.args.self.now c.args.id.now (sym c.place.ensures ∙ c.in_err-place.was)

-- the station at the ID's place has it
pub returns : goal.returns
returns c =
    c.at.ensures
    ∙ found-at_place c.args.self.now c.args.id.now c.in_ok-place.field-0 (sym c.place.ensures ∙ c.in_ok-place.was)
