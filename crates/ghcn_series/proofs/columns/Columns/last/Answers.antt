use Rattle.ghcn_series.proofs.Cited.{rules, ◌∙◌, ◌-◌, List, length, ℤ, ℕ, sym, w32, ◌≡◌, Some, to_z-of_z}
use Rattle.ghcn_series.proofs.Cited.{days_of_blocks, blocks_of}
use Rattle.std.specs.Prelude.{slice_get}
use Rattle.ghcn_series.proofs.LastDays.{IsLastBlock, last-block, last-of_columns, last_of-at}
use Rattle.ghcn_series.proofs.columns.Columns.last.Goals as goal
use Rattle.ghcn_series.proofs.columns.Columns.last.Goals.{After-last-2}

-- the last number and the last word are those of one block
last : (c : After-last-2) (w : ℕ) → Some w ≡ slice_get c.deref-2.result.now (length c.deref-2.result.now - 1)
    → IsLastBlock c.self.inside.numbers.items c.self.inside.words.items c.in_ok-number.number.now w
last c w there = last-block _ _ _ c.in_ok-number.number.now w c.self.invariant.columns.blocks
    (rw c.deref.ensures.value at c.in_ok-number.ensures.value) (rw c.deref-2.ensures.value at there)

-- the bits of the last word are days
pub last_day-requires-clause-days : goal.last_day-requires-clause-days
last_day-requires-clause-days c = rw (to_z-of_z w32 c.in_ok-number.number.now (search rules))
    (last (goal.at.last_day-requires-clause-days c).After-last-2 _ c.in_ok-word.ensures.value).days

-- and there is one
pub last_day-requires-clause-some : goal.last_day-requires-clause-some
last_day-requires-clause-some c =
    (last (goal.at.last_day-requires-clause-some c).After-last-2 _ c.in_ok-word.ensures.value).present

-- the last day of the last block is that of all
pub returns : goal.returns
returns c =
    let ns : List ℤ = c.self.inside.numbers.items in
    let block = last (goal.at.returns c).After-last-2 _ c.in_ok-word.ensures.value in
    let of = rw (to_z-of_z w32 c.in_ok-number.number.now (search rules)) at c.last_day.ensures in
    rw (← c.self.view_is)
    (sym (last-of_columns _ _ _ (length ns - 1) c.last_day.result c.self.invariant.columns.blocks block.some_block
    (rw (block.number, block.word) of))
    ∙ last_of-at (days_of_blocks (blocks_of ns c.self.inside.words.items c.self.inside.values.items)))
