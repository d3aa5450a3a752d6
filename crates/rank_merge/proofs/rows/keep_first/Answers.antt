use Rattle.rank_merge.proofs.Cited.{◌≡◌, ◌∙◌, List, ap, sym, map, rules, take, take-map, answers_always, sorted_by}
use Rattle.rank_merge.proofs.Cited.{comes_first, Row, Named, named_in, sorted-map}
use Rattle.rank_merge.proofs.Orders.{row_cmp, row_total}
use Rattle.rank_merge.proofs.StableSorts.{first, before, before_ranks, stable-sorted}
use Rattle.rank_merge.proofs.rows.keep_first.Goals as goal

-- the first k of the one list in this order
pub returns : goal.returns
returns c =
    let sorted : c.sort_by.new.self.items ≡ sorted_by (first row_cmp row_total) c.args.rows.now.items =
    stable-sorted row_cmp row_total c.args.rows.now.items c.sort_by.new.self.items
    (c.in_ok-sort_by.ensures.sorted (before row_cmp row_total) (before_ranks row_cmp row_total)
    (answers_always _ _ _ (λ f a r g called. search rules)))
    (c.sort_by.ensures.stable (before row_cmp row_total) (before_ranks row_cmp row_total)
    (answers_always _ _ _ (λ f a r g called. search rules))) in
    ap (λ (l : List Row). map named_in l) c.truncate.ensures.items
    ∙ sym (take-map named_in c.args.k c.sort_by.new.self.items)
    ∙ ap (λ (l : List Row). take c.args.k (map named_in l)) sorted
    ∙ ap (take c.args.k) (sorted-map named_in (λ (a b : Named). comes_first a.0 b.0) c.args.rows.now.items)
