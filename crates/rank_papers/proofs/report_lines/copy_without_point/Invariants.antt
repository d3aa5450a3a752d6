use Rattle.std.proofs.Common.{◌≡◌, take}
use Rattle.std.specs.Prelude.{filter, not, ◌==◌}
use Rattle.rank_papers.proofs.report_lines.copy_without_point.Given as goal

-- `paper` has what was gone through, without its points
abbrev pub invariant-loop-byte : goal.invariant-loop-byte
invariant-loop-byte l = l.paper.items ≡ filter (λ b. not (b == 46)) (take l.byte-index l.field)
