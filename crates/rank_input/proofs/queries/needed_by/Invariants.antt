use Rattle.std.proofs.Common.{take}
use Rattle.rank_input.proofs.QueryElements.{HasNeeded}
use Rattle.rank_input.proofs.queries.needed_by.Given as goal

-- the elements of the queries so far are kept, and no others
abbrev pub invariant-loop-query : goal.invariant-loop-query
invariant-loop-query l = HasNeeded (take l.query-index l.queries) l.keep
