use Rattle.std.proofs.Common.{arith, rules}
use Rattle.rank_scores.specs.Candidates.{contenders}
use Rattle.rank_scores.specs.Leading.{leading_with}
use Rattle.rank_scores.proofs.LeadingFolds.{held-after, offered_on-after, same_on-after, same_sink-after}
use Rattle.rank_scores.proofs.scans.scan_to_leading.Goals as goal

-- the sink stays the same one
pub returns-clause-same_sink : goal.returns-clause-same_sink
returns-clause-same_sink g c =
    let all = contenders c.args.query.now c.args.series.now in
    let leads = leading_with g.S.Sink.taken in
    let same = same_on-after leads _ c.scan_contenders.new.sink all c.scan_contenders.ensures.offered in
    let stays = same_sink-after g.S.Sink.taken c.args.leading.now _ all
    (offered_on-after leads _ c.scan_contenders.new.sink all c.scan_contenders.ensures.offered) in
    search (rules, arith, same, stays)

-- and has taken the best of each group but the open one
pub returns-clause-held : goal.returns-clause-held
returns-clause-held g c =
    let all = contenders c.args.query.now c.args.series.now in
    let leads = leading_with g.S.Sink.taken in
    let same = same_on-after leads _ c.scan_contenders.new.sink all c.scan_contenders.ensures.offered in
    let held = held-after g.S.Sink.taken c.args.leading.now _ all
    (offered_on-after leads _ c.scan_contenders.new.sink all c.scan_contenders.ensures.offered) in
    search (rules, arith, same, held)
