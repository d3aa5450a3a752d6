use Rattle.ghcn_series.proofs.Cited.{sym, ap, ◌∙◌, option_copied, same_id-is}
use Rattle.ghcn_series.proofs.Places.{place_of-at}
use Rattle.ghcn_series.proofs.reader.Reader.place.Goals as goal

-- the place of the line before is the station's
pub returns-in-Some : goal.returns-in-Some
returns-in-Some c =
    let here = sym c.at.ensures ∙ ap option_copied c.in-Some.is in
    let same = same_id-is c.in-Some.station.now.id c.args.id.now (sym c.is_same.ensures ∙ c.if-is_same.true) in
    sym (place_of-at c.args.self.now.stations c.last-last.result c.in-Some.station.now c.args.id.now
    c.requires.distinct here same)
