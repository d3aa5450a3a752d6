use Rattle.ghcn_series.proofs.Cited.{w32, to_z-of_z}
use Rattle.ghcn_series.proofs.Searches.{absent-from_search}
use Rattle.ghcn_series.proofs.columns.place_of.Goals as goal

-- a number that isn't found is nowhere
pub returns-clause-none : goal.returns-clause-none
returns-clause-none c =
    rw c.ok.ensures.value (absent-from_search c.args.numbers.now c.requires c.args.number c.binary_search.result
    (rw (to_z-of_z w32 c.args.number c.ranges.number) at c.binary_search.ensures.position))
