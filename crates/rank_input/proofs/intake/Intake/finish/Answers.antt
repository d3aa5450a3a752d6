use Rattle.std.proofs.lemmas.Result.{err_from_is_err_and}
use Rattle.rank_input.proofs.Reading.{makes_taken, refuses_taken, refused_before}
use Rattle.rank_input.proofs.intake.Intake.finish.Goals as goal

-- an error before the daily files
pub returns-in_err-cutter-clause-err : goal.returns-in_err-cutter-clause-err
returns-in_err-cutter-clause-err g c =
    let p = err_from_is_err_and c.from_residual.result c.from_residual.ensures.1 in
    rw (p.1, p.2) (refused_before g.L.LineReader.has_read c.args.self c.in_err-cutter.field-0.0 c.in_err-cutter.was)

-- a cutter's error is that of the files
pub returns-in_err-finish-clause-err : goal.returns-in_err-finish-clause-err
returns-in_err-finish-clause-err g c =
    let p = err_from_is_err_and c.from_residual-in_err-finish.result c.from_residual-in_err-finish.ensures.1 in
    rw (p.1, p.2) (refuses_taken g.L.LineReader.has_read c.args.self c.in_ok-cutter.cutter c.in_err-finish.field-0.0
    c.in_ok-cutter.was c.in_err-finish.ensures.err)

-- what a reader makes of them is made of all that was given
pub returns-clause-ok : goal.returns-clause-ok
returns-clause-ok g c =
    makes_taken g.L.LineReader.has_read g.L.LineReader.makes c.args.self c.in_ok-cutter.cutter c.in_ok-finish.field-0
    c.in_ok-cutter.was c.in_ok-finish.ensures.ok
