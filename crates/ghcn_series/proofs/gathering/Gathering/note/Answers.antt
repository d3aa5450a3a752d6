use Rattle.std.proofs.Common.{refl}
use Rattle.ghcn_series.proofs.SeenMonths.{noted}
use Rattle.ghcn_series.proofs.gathering.Gathering.note.Goals as goal

-- a month is noted, unless one of its time was
pub returns-clause-added : goal.returns-clause-added
returns-clause-added c =
    let number = c.number_of.ensures in
    noted c.args.row.now c.args.self.now _ c.add.result (rw number at c.add.ensures.is_new)
    (rw number at c.add.ensures.added) refl
