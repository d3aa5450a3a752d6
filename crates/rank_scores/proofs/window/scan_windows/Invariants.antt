use Rattle.std.proofs.Common.{◌++◌, length}
use Rattle.rank_scores.proofs.LowWindows.{IsScanned, IsInRow}
use Rattle.rank_scores.proofs.window.scan_windows.Given as goal

-- once the windows from the first day of this one on are taken too, the sink is as it will be
abbrev pub invariant-loop-part : goal.invariant-loop-part
invariant-loop-part g l = IsScanned g.S.Sink.taken l.sink l.fn.sink l.id l.n l.query l.series l.only_rises l.ring
    l.window l.next l.admitted

-- each part takes a day at least
abbrev pub decreases-loop-part : goal.decreases-loop-part
decreases-loop-part g l = length l.admitted

-- the same in the midst of a part
abbrev pub invariant-loop-row : goal.invariant-loop-row
invariant-loop-row g l = IsScanned g.S.Sink.taken l.sink l.fn.sink l.id l.n l.query l.series l.only_rises l.ring
    l.window l.next (l.part ++ l.admitted)

-- each row takes a day at least
abbrev pub decreases-loop-row : goal.decreases-loop-row
decreases-loop-row g l = length l.part

-- and in the midst of a row
abbrev pub invariant-loop-place : goal.invariant-loop-place
invariant-loop-place g l = IsInRow g.S.Sink.taken l.sink l.fn.sink l.id l.n l.query l.series l.only_rises l.ring
    l.window l.first l.values l.place (l.part ++ l.admitted)
