use Rattle.std.proofs.Common.{true, List, subst}
use Rattle.std.specs.Prelude.{Option, IfSome, None, Some}
use Rattle.ghcn_files.specs.declared.station.Station.{Station}
use Rattle.rank_input.specs.Lists.{ListsStretch}
use Rattle.rank_input.proofs.ListPieces.{stretches_listed}
use Rattle.rank_input.proofs.list.read_stretches.Goals as goal

-- the lists of both stretches make that of the file
pub returns : goal.returns
returns g c =
    let known = g.A.Archive.bytes_of c.args.archive.now c.args.path.now in
    let opened = g.A.Archive.opens c.args.archive.now c.args.path.now true in
    stretches_listed known opened c.args.cut c.in_ok-begun.begun c.in_ok-rest.rest c.in-Ok.stations
    (subst (λ (o : Option (List Station)). IfSome o (ListsStretch known opened 0 (Some c.args.cut))) c.in_ok-begun.was
    c.join-rest.ensures.second)
    (subst (λ (o : Option (List Station)). IfSome o (ListsStretch known opened c.args.cut None)) c.in_ok-rest.was
    c.join-rest.ensures.first)
    c.in-Ok.ensures.together
