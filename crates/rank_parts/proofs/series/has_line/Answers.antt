use Rattle.rank_parts.proofs.Cited.{rules, ◌∙◌, slice_cmp, nat_cmp, always_returns_same}
use Rattle.rank_parts.proofs.Walks.{searched}
use Rattle.rank_parts.proofs.series.has_line.Goals as goal

-- the search says so
pub returns : goal.returns
returns c = c.is_ok.ensures.value
    ∙ searched c.args.id.now c.args.lines.now c.requires c.binary_search_by.result c.binary_search_by.ensures.bound
    (c.binary_search_by.ensures.position (λ e. slice_cmp nat_cmp e.id.0 c.args.id.now.0)
    (always_returns_same _ _ _ (λ a r g called. search rules)))
