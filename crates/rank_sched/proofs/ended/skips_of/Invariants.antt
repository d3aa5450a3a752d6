use Rattle.rank_sched.proofs.Cited.{take, was_skipped, AreMarks}
use Rattle.rank_sched.proofs.ended.skips_of.Given as goal

-- the skips of the records so far are marked
abbrev pub invariant-loop-record : goal.invariant-loop-record
invariant-loop-record l = AreMarks (was_skipped (take l.record-index l.records)) l.len l.skips.items
