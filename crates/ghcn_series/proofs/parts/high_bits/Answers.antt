use Rattle.ghcn_series.proofs.RowParts.{high-bits}
use Rattle.ghcn_series.proofs.parts.high_bits.Goals as goal

-- the word has the row's bits in the next block
pub returns : goal.returns
returns c = high-bits c.args.word c.args.place c.ranges.word.fits c.requires
