use Rattle.rank_blocks.proofs.Cited.{◌≡◌, to_z, of_z, w32, sym, arith, rules, to_z-of_z, rise-from_by_day}
use Rattle.rank_blocks.proofs.ReadBlocks.{block-IsBlock, read-more, read-next}
use Rattle.rank_blocks.proofs.blocks.add_block.Goals as goal

-- a block that holds a day is one of the calendar
pub of_block-requires : goal.of_block-requires
of_block-requires c =
    let is = c.in-Some.ensures.some in
    record {
      number = block-IsBlock c.args.series.now _ c.in-Some.block.0 c.in-Some.block.1 c.requires.series is.fits is;
    }

-- the summary of the block is added
pub returns-in_ok-push-in-Some-clause-read : goal.returns-in_ok-push-in-Some-clause-read
returns-in_ok-push-in-Some-clause-read c =
    search (rules, arith, to_z, w32, of_z, to_z-of_z, block-IsBlock, rise-from_by_day, read-more)

-- a block without a day is skipped, and fewer numbers are left
pub returns-in-None : goal.returns-in-None
returns-in-None c =
    let s = c.args.series.now in
    let number : to_z w32 (of_z w32 c.args.number) ≡ c.args.number = to_z-of_z w32 _ c.ranges.number in
    let next = read-next c.args.score s c.args.number c.args.summaries.now.items c.requires
    (rw number at c.in-None.ensures.none) c.next_block.result (rw number at (sym c.next_block.ensures.first)) in
    record { read = next.0; later = next.1 }
