use Rattle.ghcn_series.proofs.RowParts.{low-bits}
use Rattle.ghcn_series.proofs.parts.low_bits.Goals as goal

-- the word has the row's bits in its first block
pub returns : goal.returns
returns c = low-bits c.args.word c.args.place c.requires
