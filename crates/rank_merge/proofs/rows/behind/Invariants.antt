use Rattle.rank_merge.proofs.Cited.{◌≡◌, ◌≤◌, drop, length, true, AllByRecursion, comes_first, Row}
use Rattle.rank_merge.proofs.rows.behind.Given as goal

-- the floor comes before each row from the place on, or ties with it
abbrev pub invariant-loop-kept : goal.invariant-loop-kept
invariant-loop-kept l = (l.kept ≤ length l.rows)
    × AllByRecursion (λ (r : Row). comes_first l.floor r.candidate ≡ true) (drop l.kept l.rows)

abbrev pub decreases-loop-kept : goal.decreases-loop-kept
decreases-loop-kept l = l.kept
