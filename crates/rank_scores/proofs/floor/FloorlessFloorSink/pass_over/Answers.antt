use Rattle.std.proofs.Common.{sym}
use Rattle.rank_scores.proofs.LeadingFolds.{ignored}
use Rattle.rank_scores.proofs.floor.FloorlessFloorSink.pass_over.Goals as goal

-- what its own sink ignores changes nothing
pub returns : goal.returns
returns g c candidates low many = sym (ignored g.S.Sink.taken c.args.self.now c.args._floor candidates c.requires low)
