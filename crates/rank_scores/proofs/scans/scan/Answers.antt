use Rattle.std.proofs.Common.{arith, rules}
use Rattle.rank_scores.specs.Candidates.{candidates}
use Rattle.rank_scores.proofs.LeadingFolds.{offered_on-after, same_on-after}
use Rattle.rank_scores.proofs.scans.scan.Goals as goal

-- what the sink without a floor was offered is offered to its own
pub returns : goal.returns
returns g c =
    let all = candidates c.args.query.now c.args.series.now in
    let same = same_on-after g.S.Sink.taken _ c.scan_to_floor.new.sink all c.scan_to_floor.ensures in
    let offered = offered_on-after g.S.Sink.taken _ c.scan_to_floor.new.sink all c.scan_to_floor.ensures in
    search (rules, arith, same, offered)
