use Rattle.std.proofs.Common.{◌+◌, ap, ◌∙◌}
use Rattle.ghcn_series.proofs.FollowedCounts.{counts_joined}
use Rattle.ghcn_series.proofs.counts.LineCounts.join.Goals as goal

-- the counts of the files and of those after them
pub returns : goal.returns
returns c = counts_joined c.args.self c.args.next _ c.args.place c.args.line c.args.ends
    (c.in_ok-checked_add.ensures.1 ∙ ap (λ n. n + c.args.next.lines)
    (c.in_ok-ended.ensures.1 ∙ ap (λ n. c.args.self.lines + n) c.lines_if.ensures))
    c.in_ok-checked_add-2.ensures.1 c.in_ok-join.ensures c.in_ok-join-2.ensures c.goes_on.ensures c.goes_on-2.ensures
