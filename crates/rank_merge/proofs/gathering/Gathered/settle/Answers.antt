use Rattle.rank_merge.proofs.Cited.{◌∙◌, ◌-◌, List, length, map, ap, rules, slice_get, option_map, Row, named_in}
use Rattle.rank_merge.proofs.FirstRows.{first_again}
use Rattle.rank_merge.proofs.Orders.{named_cmp, named_total}
use Rattle.rank_merge.proofs.RowFloors.{kept_floor}
use Rattle.rank_merge.proofs.gathering.Gathered.settle.Goals as goal

-- the first rows of those that stay are theirs
pub returns-clause-rows : goal.returns-clause-rows
returns-clause-rows c =
    first_again named_cmp named_total c.args.k (map named_in c.args.self.now.rows.items)
    (map named_in c.keep_first.new.rows.items) c.in_ok-keep_first.ensures

-- of k rows the last is a floor
pub returns-clause-floor : goal.returns-clause-floor
returns-clause-floor c =
    kept_floor c.args.k c.args.self.now.rows.items c.keep_first.new.rows.items c.last_of-self.result
    (search rules) c.in_ok-keep_first.ensures
    (c.last_of-self.ensures ∙ ap (λ (l : List Row). option_map (λ (r : Row). r.candidate) (slice_get l (length l - 1)))
    c.as_slice.ensures.value)
