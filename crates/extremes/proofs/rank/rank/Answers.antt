use Rattle.std.specs.Prelude.{map}
use Rattle.std.proofs.lemmas.Result.{IfOk-weaker, IfErr-weaker}
use Rattle.rank_input.specs.Taken.{given}
use Rattle.extremes.proofs.FedRuns.{input_refuses}
use Rattle.extremes.proofs.rank.rank.Goals as goal

-- the report and the certificate answer all that was given
pub returns-clause-ok : goal.returns-clause-ok
returns-clause-ok g c =
    IfOk-weaker c.rank_intake.result.answer _ _ (λ papers are.
    are.is (given c.args.query.now c.args.stations.now (map (λ file. file.now) c.args.files.now))
    c.of_files-question.ensures.taken) c.rank_intake.ensures.ok

-- which had no error
pub returns-clause-faultless : goal.returns-clause-faultless
returns-clause-faultless g c =
    IfOk-weaker c.rank_intake.result.answer _ _ (λ papers are.
    are.is (given c.args.query.now c.args.stations.now (map (λ file. file.now) c.args.files.now))
    c.of_files-question.ensures.taken) c.rank_intake.ensures.faultless

-- they are those of the crew that was asked for
pub returns-clause-crew : goal.returns-clause-crew
returns-clause-crew g c =
    IfOk-weaker c.rank_intake.result.answer _ _ (λ papers are.
    are.is (given c.args.query.now c.args.stations.now (map (λ file. file.now) c.args.files.now))
    c.of_files-question.ensures.taken) c.rank_intake.ensures.crew

-- and an error is that of what was given
pub returns-clause-err : goal.returns-clause-err
returns-clause-err g c =
    IfErr-weaker c.rank_intake.result.answer _ _ (λ fault is.
    input_refuses c.args.workers c.args.guess c.args.query.now c.args.stations.now
    (map (λ file. file.now) c.args.files.now) fault c.in_ok-check_words.ensures.workers
    c.in_ok-check_words.ensures.guess
    (is.is (given c.args.query.now c.args.stations.now (map (λ file. file.now) c.args.files.now))
    c.of_files-question.ensures.taken)) c.rank_intake.ensures.err
