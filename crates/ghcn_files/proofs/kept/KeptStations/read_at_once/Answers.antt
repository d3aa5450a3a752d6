use Rattle.std.proofs.Common.{List, subst}
use Rattle.std.specs.Prelude.{Option, IfSome}
use Rattle.ghcn_files.specs.declared.station.Station.{Station}
use Rattle.ghcn_files.specs.Listed.{FollowLines}
use Rattle.ghcn_files.proofs.Following.{listed_alone}
use Rattle.ghcn_files.proofs.kept.KeptStations.read_at_once.Goals as goal

-- the stations are those of the text's lines
pub returns-in-Some : goal.returns-in-Some
returns-in-Some c =
    listed_alone c.args.text.now c.new.result c.in-Some.reader c.of_reader.result c.new.ensures
    (subst (λ (read : Option (List Station)). IfSome read (FollowLines c.new.result c.args.text.now)) c.in-Some.is
    c.in_ok-reader.ensures.taken) c.of_reader.ensures.stations c.of_reader.ensures.listed
