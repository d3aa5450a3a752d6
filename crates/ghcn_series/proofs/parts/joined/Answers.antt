use Rattle.std.proofs.Common.{rules}
use Rattle.ghcn_series.proofs.JoinedDays.{joins-more}
use Rattle.ghcn_series.proofs.parts.joined.Goals as goal

-- one place more is joined
pub loop-place-preserved : goal.loop-place-preserved
loop-place-preserved c = record {
  long = search rules;
  so_far = joins-more c.args.values.now c.args.more.now c.loop-place.both c.loop-place.place (search rules)
      (search rules) (search rules) c.loop-place.invariant.so_far;
}
