use Rattle.ghcn_files.proofs.SameLanes.{from_full_mask}
use Rattle.ghcn_files.proofs.heads.has_same_lanes.Goals as goal

-- the mask is full if the lanes are the same
pub returns : goal.returns
returns c = from_full_mask c.args.known c.args.lanes c.requires.known c.requires.lanes
