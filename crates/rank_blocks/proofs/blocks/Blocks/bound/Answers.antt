use Rattle.rank_blocks.proofs.Cited.{to_z, of_z, w64, arith, rules}
use Rattle.rank_blocks.proofs.BoundsMet.{bound-computed, bound-above}
use Rattle.rank_blocks.proofs.blocks.Blocks.bound.Goals as goal

-- the bound by what it is greatest of is the one that is computed, and no candidate is above it
pub returns : goal.returns
returns c = search (rules, arith, to_z, w64, of_z, bound-computed, bound-above)
