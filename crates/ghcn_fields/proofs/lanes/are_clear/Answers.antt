use Rattle.ghcn_fields.proofs.ClearLanes.{clear_mask}
use Rattle.ghcn_fields.proofs.lanes.are_clear.Goals as goal

-- the mask is full if each lane of a field is 0
pub returns : goal.returns
returns c = clear_mask c.args.lanes c.requires c.fits-lanes.1
