use Rattle.std.proofs.Common.{◌≡◌}
use Rattle.std.specs.List.{fold}
use Rattle.rank_scores.specs.Meaning.Candidates.{Days}
use Rattle.rank_scores.specs.Candidates.{contenders_among}
use Rattle.rank_scores.specs.Extremes.{score_by}
use Rattle.rank_scores.proofs.scans.offer_days.Given as goal

-- once the days to come are offered too, the sink is as it will be
abbrev pub invariant-loop-day : goal.invariant-loop-day
invariant-loop-day g l =
    fold g.S.Sink.taken l.sink (contenders_among l.id (Days (score_by l.extreme)) l.day-iterator)
    ≡ fold g.S.Sink.taken l.fn.sink (contenders_among l.id (Days (score_by l.extreme)) l.fn.part)
