use Rattle.ghcn_fields.proofs.FieldLanes.{set_mask}
use Rattle.ghcn_fields.proofs.lanes.are_set.Goals as goal

-- the mask is full if each lane has all its bits
pub returns : goal.returns
returns c = set_mask c.args.lanes c.requires
