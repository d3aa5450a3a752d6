use Rattle.rank_merge.proofs.Cited.{rules, answers_always}
use Rattle.rank_merge.proofs.Orders.{id_cmp, id_total}
use Rattle.rank_merge.proofs.StableSorts.{before, before_ranks, stable-sorted}
use Rattle.rank_merge.proofs.lines.by_id.Goals as goal

-- a stable sort returns the one list in this order
pub returns : goal.returns
returns c =
    stable-sorted id_cmp id_total c.args.lines.items c.sort_by.new.self.items
    (c.in_ok-sort_by.ensures.sorted (before id_cmp id_total) (before_ranks id_cmp id_total)
    (answers_always _ _ _ (λ f a r g called. search rules)))
    (c.sort_by.ensures.stable (before id_cmp id_total) (before_ranks id_cmp id_total)
    (answers_always _ _ _ (λ f a r g called. search rules)))
