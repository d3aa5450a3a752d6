use Rattle.extremes.proofs.FedRuns.{ranks-input, words-input}
use Rattle.extremes.proofs.files.rank_fed.Goals as goal

-- the arguments have no error
pub returns-in-Ok-clause-ranks : goal.returns-in-Ok-clause-ranks
returns-in-Ok-clause-ranks g c =
    ranks-input c.args.question c.args.workers c.workers_for-started.result c.args.guess c.rank_intake.result.answer
    c.in-Ok.ensures.workers c.in-Ok.ensures.guess c.workers_for-started.ensures.few c.rank_intake.ensures.ok
    c.rank_intake.ensures.crew c.rank_intake.ensures.err

-- or their error is the first
pub returns-in-Err-clause-ranks : goal.returns-in-Err-clause-ranks
returns-in-Err-clause-ranks g c =
    rw c.without_data.ensures (words-input c.args.question c.args.workers c.args.guess c.in-Err.fault
    c.in-Err.ensures.err)
