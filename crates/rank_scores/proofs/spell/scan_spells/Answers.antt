use Rattle.std.proofs.Common.{ap, ap₂, ◌∙◌}
use Rattle.std.specs.Prelude.{filter}
use Rattle.std.specs.List.{fold}
use Rattle.rank_scores.specs.Candidates.{test_of}
use Rattle.rank_scores.specs.Spells.{offered_of_kind}
use Rattle.rank_scores.proofs.SpellDays.{offered-spells}
use Rattle.rank_scores.proofs.spell.scan_spells.Goals as goal

-- at first no spell is open
pub loop-part-init : goal.loop-part-init
loop-part-init g c =
    ap (fold g.S.Sink.taken c.args.sink.now)
    (ap₂ (offered_of_kind c.args.id) c.none-run.ensures
    (ap (filter (λ x. test_of c.args.spell x.1)) c.of-admitted.ensures.days)
    ∙ offered-spells c.args.id (test_of c.args.spell) c.args.query.now c.args.series.now c.of-admitted.ensures.series)
