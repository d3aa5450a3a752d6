use Rattle.std.proofs.Common.{◌∙◌, rules, arith}
use Rattle.rank_scores.proofs.LedContenders.{let_go-of, offered-led}
use Rattle.rank_scores.proofs.scans.scan_groups.Goals as goal

-- the best of the open group is offered last
pub returns-in-Some : goal.returns-in-Some
returns-in-Some g c =
    let after = c.scan_to_leading.new.leading in
    let led = offered-led g.S.Sink.taken c.args.query.now c.args.series.now c.of-leading.result.per c.args.sink.now
    c.of-leading.result.sink.now after.sink.now c.of-leading.result.group after.group c.scan_to_leading.ensures.series
    (c.of-leading.ensures.per ∙ c.per.ensures) c.of-leading.ensures.group c.of-leading.ensures.sink
    c.scan_to_leading.ensures.held in
    let last = let_go-of g.S.Sink.taken after.sink.now after.group c.in-Some.open c.in-Some.is in
    search (rules, arith) ∙ last ∙ led

-- if none is open, none was offered
pub returns-in_default : goal.returns-in_default
returns-in_default g c =
    let after = c.scan_to_leading.new.leading in
    let led = offered-led g.S.Sink.taken c.args.query.now c.args.series.now c.of-leading.result.per c.args.sink.now
    c.of-leading.result.sink.now after.sink.now c.of-leading.result.group after.group c.scan_to_leading.ensures.series
    (c.of-leading.ensures.per ∙ c.per.ensures) c.of-leading.ensures.group c.of-leading.ensures.sink
    c.scan_to_leading.ensures.held in
    search (rules, arith, led)
