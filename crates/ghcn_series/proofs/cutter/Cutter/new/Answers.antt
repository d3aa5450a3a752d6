use Rattle.ghcn_series.proofs.Cited.{rules, nothing_fed}
use Rattle.ghcn_series.proofs.cutter.Cutter.new.Goals as goal

-- nothing is fed, which is something
pub returns-in-Ok-clause-going : goal.returns-in-Ok-clause-going
returns-in-Ok-clause-going g c = (nothing_fed c.args.keep c.args.stations, search rules)
