use Rattle.std.specs.Prelude.{map}
use Rattle.std.proofs.lemmas.Result.{err_from_is_err_and}
use Rattle.rank_input.specs.Taken.{given}
use Rattle.extremes.proofs.judge.judge_part.Goals as goal

-- the verdict is that on the texts
pub returns-clause-ok : goal.returns-clause-ok
returns-clause-ok c =
    c.in_ok-verdict.ensures.ok.is
    (given c.args.query.now c.args.stations.now (map (λ file. file.now) c.args.files.now)) c.of_files-question.ensures.taken

-- and an error is theirs
pub returns-in_err-verdict-clause-err : goal.returns-in_err-verdict-clause-err
returns-in_err-verdict-clause-err c =
    let p = err_from_is_err_and c.from_residual.result c.from_residual.ensures.1 in
    rw (p.1, p.2) (c.in_err-verdict.ensures.err.is
    (given c.args.query.now c.args.stations.now (map (λ file. file.now) c.args.files.now)) c.of_files-question.ensures.taken)
