use Rattle.std.proofs.Common.{map}
use Rattle.rank_papers.specs.ReportLines.{named_in}
use Rattle.rank_head.proofs.Decided.{early_is, lines_rise}
use Rattle.rank_head.proofs.head.place_fault.Goals as goal

-- the first of the tests that fails decides
pub returns-clause-first : goal.returns-clause-first
returns-clause-first c =
    early_is c.args.query.now (map named_in c.args.rows.now) c.args.kth c.args.lines.now
    c.order_fault.result c.floor_fault.result c.rise_fault-rise.result c.or.result c.or-2.result
    c.order_fault.ensures c.floor_fault.ensures c.rise_fault-rise.ensures c.or.ensures c.or-2.ensures

-- if none fails the lines rise
pub returns-clause-rise : goal.returns-clause-rise
returns-clause-rise c =
    lines_rise c.args.query.now (map named_in c.args.rows.now) c.args.kth c.args.lines.now
    c.order_fault.result c.floor_fault.result c.rise_fault-rise.result c.or.result c.or-2.result
    c.order_fault.ensures c.floor_fault.ensures c.rise_fault-rise.ensures c.or.ensures c.or-2.ensures
