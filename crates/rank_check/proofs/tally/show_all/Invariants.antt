use Rattle.std.proofs.Common.{◌≡◌, length, take, drop, map}
use Rattle.rank_check.specs.Marks.{shown_by}
use Rattle.rank_check.proofs.tally.show_all.Given as goal

-- the marks so far took the candidate into account, and the others are as they were
abbrev pub invariant-loop-mark : goal.invariant-loop-mark
invariant-loop-mark l = record {
  many : length l.mark-items ≡ length l.fn.marks;
  shown : take l.mark-index l.mark-items ≡ map (shown_by l.candidate) (take l.mark-index l.fn.marks);
  left : drop l.mark-index l.mark-items ≡ drop l.mark-index l.fn.marks;
}
