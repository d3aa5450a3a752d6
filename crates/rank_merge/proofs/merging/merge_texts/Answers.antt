use Rattle.rank_merge.proofs.Cited.{◌∙◌}
use Rattle.rank_merge.proofs.Orders.{ordered_once}
use Rattle.rank_merge.proofs.merging.merge_texts.Goals as goal

-- the lines were put in order
pub twice-requires : goal.twice-requires
twice-requires c =
    ordered_once c.as_slice.result.now c.in_ok-all.all.lines.items (c.as_slice.ensures.value ∙ c.in_ok-lines.ensures)
