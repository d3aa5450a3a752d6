use Rattle.std.proofs.Common.{arith}
use Rattle.rank_check.proofs.Failing.{follows-behind}
use Rattle.rank_check.proofs.rows.follows.Goals as goal

-- the row before one decides
pub returns-else-place-eq0 : goal.returns-else-place-eq0
returns-else-place-eq0 c =
    follows-behind c.args.rows.now c.args.place c.index-rows-place.result c.index-rows-place-else-place-eq0.result
    c.precedes.result (λ e. omega arith) (omega arith) c.index-rows-place.is c.index-rows-place-else-place-eq0.is
    c.precedes.ensures
