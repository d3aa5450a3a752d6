use Rattle.ghcn_series.proofs.Cited.{arith, ◌∙◌, ◌≡◌, w32, get_or, [], to_z-of_z, get_or_default}
use Rattle.ghcn_series.proofs.Cited.{IsPacked}
use Rattle.ghcn_series.specs.Packed as packed
use Rattle.ghcn_series.proofs.PartsAdded.{packed-at}
use Rattle.ghcn_series.proofs.Searches.{block-absent, block-found}
use Rattle.ghcn_series.proofs.columns.Columns.block_near.Goals as goal
use Rattle.ghcn_series.proofs.columns.Columns.block_near.Goals.{After-index-2}

-- without the number there is no day of the block
pub returns-in_err-at-clause-none : goal.returns-in_err-at-clause-none
returns-in_err-at-clause-none c =
    let nowhere : packed.IsNowhere c.self.inside.numbers.items c.args.number =
    rw (to_z-of_z w32 c.args.number c.ranges.number, c.deref.ensures.value) at c.in_err-at.ensures.none in
    rw (c.from_residual.ensures, ← c.self.view_is)
    (block-absent _ _ _ c.self.invariant.columns c.args.number nowhere)

-- the number is at the place
number-at : (c : After-index-2) → packed.IsAt c.self.inside.numbers.items c.args.number c.in_ok-at.at
number-at c = rw (to_z-of_z w32 c.args.number c.ranges.number, c.deref.ensures.value) at c.in_ok-at.ensures.some

-- the word and the values are those at the place
word-at : (c : After-index-2) → c.index.result.now ≡ get_or c.self.inside.words.items c.in_ok-at.at 0
word-at c = c.index.ensures ∙ get_or_default c.self.inside.words.items c.in_ok-at.at c.index.result.now 0
    (omega (arith, (number-at c).in_range, c.self.invariant.columns.blocks.enough_words))

values-at : (c : After-index-2) → c.index-2.result.now ≡ get_or c.self.inside.values.items c.in_ok-at.at []
values-at c = c.index-2.ensures ∙ get_or_default c.self.inside.values.items c.in_ok-at.at c.index-2.result.now []
    (omega (arith, (number-at c).in_range, c.self.invariant.columns.blocks.enough_values))

-- the block there has a day, and its extremes are those that are held there
pub of-requires : goal.of-requires
of-requires c =
    let at = (goal.at.of-requires c).After-index-2 in
    let packed : IsPacked _ = packed-at _ _ _ c.self.invariant.columns.blocks c.in_ok-at.at (number-at at).in_range in
    rw (word-at at, values-at at) (record {
      present = packed.present;
      zeros = packed.zeros;
      extremes = c.extremes_at-held.ensures c.self.inside.words.items c.self.inside.values.items c.self.invariant.extremes;
    })

-- the block at the number's place is the one
pub returns-clause-some : goal.returns-clause-some
returns-clause-some c =
    let at = (goal.at.returns-clause-some c).After-index-2 in
    rw (c.of.ensures, word-at at, values-at at, ← c.self.view_is)
    (block-found c.self.inside.numbers.items c.self.inside.words.items c.self.inside.values.items
    c.self.invariant.columns c.args.number c.in_ok-at.at (number-at at))
