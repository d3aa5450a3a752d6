use Rattle.std.proofs.Common.{sym, subst, List, arith}
use Rattle.std.proofs.lemmas.Int.{ints}
use Rattle.ghcn_series.specs.Meaning.Series.{DayValue}
use Rattle.rank_scores.specs.Stretches.{IsStretch}
use Rattle.rank_scores.proofs.StretchDays.{stretch-first}
use Rattle.rank_scores.proofs.admitted.Admitted.of.Goals as goal

-- at first nothing is known of the days
pub invariant_of-result : goal.invariant_of-result
invariant_of-result c =
    subst (λ (days : List DayValue). IsStretch c.args.query.now days _) (sym c.days.ensures.days)
    (stretch-first c.args.query.now c.args.series.now _ c.days.ensures.series (omega (arith, ints)))
