use Rattle.std.proofs.Common.{◌-◌, arith}
use Rattle.rank_crew.proofs.Groups.{both_groups}
use Rattle.rank_crew.proofs.part.+fn-part-join+arg3+part.Goals as goal

-- the hauls of both are those of all
pub returns-clause-gathers : goal.returns-clause-gathers
returns-clause-gathers g t c =
    let both = c.join-other in
    both_groups c.args.board.now (g.J.Job.task c.args.job.now) 0 (c.args.workers - 1) (c.args.workers - 1) 1
    c.args.workers _ c.args.seat c.split-other.new.seat c.split-other.result both.result.1.0 both.result.0.0
    c.join.new.seat (omega arith) (omega arith) c.split-other.ensures.splits c.join.ensures.joins (λ v. v.items)
    both.result.1.1 both.result.0.1 c.both.result c.both.ensures both.ensures.second.1 both.ensures.first.1
