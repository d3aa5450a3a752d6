use Rattle.ghcn_series.proofs.Cited.{Some, ℕ, ℤ, ap, w32, to_z-of_z}
use Rattle.ghcn_series.proofs.LastDays.{highest-bit}
use Rattle.ghcn_series.proofs.columns.last_day.Goals as goal

-- the highest bit has the last day
pub returns : goal.returns
returns c =
    let t : ℕ = c.ilog2.result in
    let top = highest-bit c.args.word t c.ilog2.ensures.power_le c.ilog2.ensures.next_power_gt in
    let is = ap (λ (d : ℤ). Some d) (rw (to_z-of_z w32 c.args.number c.ranges.number) at c.day_at.ensures) in
    record { place = t; below = c.ilog2.ensures.bound; set = top.0; highest = top.1; is = is }
