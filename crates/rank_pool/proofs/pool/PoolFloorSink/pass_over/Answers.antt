use Rattle.rank_pool.proofs.Offers.{all_fall_out}
use Rattle.rank_pool.proofs.pool.PoolFloorSink.pass_over.Goals as goal

-- what scores below the last place is dropped, one after the other
pub returns : goal.returns
returns c candidates low many =
    all_fall_out c.args.self.now candidates c.args._floor c.requires.pool c.requires.last low
