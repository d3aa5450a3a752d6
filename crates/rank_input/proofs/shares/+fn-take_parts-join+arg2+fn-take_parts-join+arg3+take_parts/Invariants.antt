use Rattle.std.proofs.Common.{◌+◌, ◌*◌}
use Rattle.rank_input.proofs.shares.+fn-take_parts-join+arg2+fn-take_parts-join+arg3+take_parts.Given as goal

-- the last files have fewer shares than all
abbrev pub decreases-join+arg2 : goal.decreases-join+arg2
decreases-join+arg2 g l = 2 * l.after + 1

-- and those before them have the other shares
abbrev pub decreases-join+arg3 : goal.decreases-join+arg3
decreases-join+arg3 g l = 2 * l.before + 1

-- there are that many shares
abbrev pub decreases-take_parts : goal.decreases-take_parts
decreases-take_parts g l = 2 * l.shares
