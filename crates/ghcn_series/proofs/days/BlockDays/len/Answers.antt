use Rattle.std.proofs.Common.{rules, sym}
use Rattle.ghcn_series.proofs.RunDays.{long-days}
use Rattle.ghcn_series.proofs.days.BlockDays.len.Goals as goal

-- there is a day for each bit
pub returns : goal.returns
returns c = rw (← c.self.view_is)
    (sym (long-days c.self.inside.number c.self.inside.values.now c.self.inside.left (search rules)))
