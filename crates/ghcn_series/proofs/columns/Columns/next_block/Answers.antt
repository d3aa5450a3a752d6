use Rattle.ghcn_series.proofs.Cited.{ℤ, sym, ◌∙◌, w32, to_z-of_z}
use Rattle.ghcn_series.proofs.Searches.{next-of_columns}
use Rattle.ghcn_series.proofs.columns.Columns.next_block.Goals as goal

-- the first number from there on is that of the next day's block
pub returns : goal.returns
returns c =
    let b : ℤ = c.args.number in
    rw (← c.self.view_is) ((rw (to_z-of_z w32 b c.ranges.number, c.deref.ensures.value) at c.first_from.ensures)
    ∙ sym (next-of_columns _ _ _ c.self.invariant.columns b))
