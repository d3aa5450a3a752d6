use Rattle.std.proofs.Common.{◌≡◌, length}
use Rattle.std.specs.List.{fold}
use Rattle.rank_scores.specs.Meaning.Candidates.{Days, admitted}
use Rattle.rank_scores.specs.Candidates.{contenders_among}
use Rattle.rank_scores.specs.Extremes.{score_by}
use Rattle.rank_scores.proofs.scans.scan_days.Given as goal

-- once the days to come are offered too, the sink is as it will be
abbrev pub invariant-loop-part : goal.invariant-loop-part
invariant-loop-part g l =
    fold g.S.Sink.taken l.sink (contenders_among l.id (Days (score_by l.extreme)) l.admitted)
    ≡ fold g.S.Sink.taken l.fn.sink (contenders_among l.id (Days (score_by l.extreme)) (admitted l.query l.series))

-- each part takes a day at least
abbrev pub decreases-loop-part : goal.decreases-loop-part
decreases-loop-part g l = length l.admitted
