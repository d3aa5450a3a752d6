use Rattle.ghcn_fields.proofs.LineFeeds.{above_mask}
use Rattle.ghcn_fields.proofs.line.are_above.Goals as goal

-- the mask is full if each lane is above a line feed
pub returns : goal.returns
returns c = above_mask c.args.lanes c.requires
