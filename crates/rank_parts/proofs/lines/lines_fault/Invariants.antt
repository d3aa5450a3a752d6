use Rattle.rank_parts.proofs.Cited.{◌≡◌, ◌+◌, drop, map, named_in, why_of_line, first_refused}
use Rattle.rank_parts.proofs.lines.lines_fault.Given as goal

-- the first refusal is that of the lines that are left
abbrev pub invariant-loop-place : goal.invariant-loop-place
invariant-loop-place l =
    first_refused (why_of_line l.query l.dataset (map named_in l.rows)) (l.place + 4) (drop l.place l.lines)
    ≡ first_refused (why_of_line l.query l.dataset (map named_in l.rows)) 4 l.lines
