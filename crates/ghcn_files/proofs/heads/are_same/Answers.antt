use Rattle.std.proofs.lemmas.Bool.{eqb-true}
use Rattle.ghcn_files.proofs.SameLanes.{same_seventeen}
use Rattle.ghcn_files.proofs.heads.are_same.Goals as goal

-- sixteen columns are the same, and the last one is
pub returns-then-has_same_lanes : goal.returns-then-has_same_lanes
returns-then-has_same_lanes c = λ last.
    same_seventeen c.args.columns.now c.args.front.now c.told-columns c.told-front
    (c.has_same_lanes.ensures c.if-has_same_lanes.true) (eqb-true _ _ last)
