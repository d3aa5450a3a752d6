use Rattle.std.proofs.Common.{◌≡◌, take, false}
use Rattle.rank_check.specs.Marks.{is_met}
use Rattle.rank_check.proofs.tally.is_met_anywhere.Given as goal

-- none so far
abbrev pub invariant-loop-mark : goal.invariant-loop-mark
invariant-loop-mark l = is_met (take l.mark-index l.marks) l.candidate ≡ false
