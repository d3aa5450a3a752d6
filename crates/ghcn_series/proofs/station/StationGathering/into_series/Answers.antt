use Rattle.std.proofs.Common.{sym, ◌∙◌}
use Rattle.ghcn_series.proofs.ReadySeries.{is_series}
use Rattle.ghcn_series.proofs.station.StationGathering.into_series.Goals as goal

-- its days are those of a series
pub of-requires : goal.of-requires
of-requires c =
    let ready = rw c.in-Some.ensures.steps.0 at c.loop-gathering.invariant.ready in
    rw c.element-element.ensures (is_series c.args.id c.in-Some.gathering c.in_ok-days.days ready.0
    (sym c.is_empty.ensures ∙ c.if-is_empty.false) c.in_ok-days.ensures)
