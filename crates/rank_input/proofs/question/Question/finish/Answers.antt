use Rattle.std.proofs.lemmas.Result.{err_from_is_err_and}
use Rattle.rank_input.proofs.Questions.{holds_input, warns_of_input, refuses_query, refuses_input}
use Rattle.rank_input.proofs.Questions.{reports_query, right_query}
use Rattle.rank_input.proofs.question.Question.finish.Goals as goal

-- the error of the query is that of the input
pub returns-in_err-query-clause-err : goal.returns-in_err-query-clause-err
returns-in_err-query-clause-err c =
    let p = err_from_is_err_and c.from_residual.result c.from_residual.ensures.1 in
    rw (p.1, p.2) (refuses_query c.args.self c.in_err-query.field-0.0 c.in_err-query.was)

-- so is the error of the files
pub returns-in_err-dataset-clause-err : goal.returns-in_err-dataset-clause-err
returns-in_err-dataset-clause-err c =
    let p = err_from_is_err_and c.from_residual-in_err-dataset.result c.from_residual-in_err-dataset.ensures.1 in
    rw (p.1, p.2) (refuses_input c.args.self c.in_ok-query.query c.in_err-dataset.field-0.0 c.in_ok-query.was
    c.in_err-dataset.ensures.err)

-- what is kept of the files is what the input holds
pub returns-clause-ok : goal.returns-clause-ok
returns-clause-ok c =
    holds_input c.args.self c.in_ok-query.query (c.in_ok-dataset.dataset, c.in_ok-dataset.warnings) c.in_ok-query.was
    c.in_ok-dataset.ensures.ok

-- and what it warns of is the input's
pub returns-clause-warnings : goal.returns-clause-warnings
returns-clause-warnings c =
    warns_of_input c.args.self c.in_ok-query.query (c.in_ok-dataset.dataset, c.in_ok-dataset.warnings)
    c.in_ok-query.was c.in_ok-dataset.ensures.ok

-- the error of the query is returned
pub returns-in_err-query-clause-query : goal.returns-in_err-query-clause-query
returns-in_err-query-clause-query c =
    let p = err_from_is_err_and c.from_residual.result c.from_residual.ensures.1 in
    rw (p.1, p.2) (reports_query c.args.self c.in_err-query.field-0.0 c.in_err-query.was)

-- there is none if the error of the files is
pub returns-in_err-dataset-clause-query : goal.returns-in_err-dataset-clause-query
returns-in_err-dataset-clause-query c = right_query c.args.self c.in_ok-query.query _ c.in_ok-query.was

-- nor if there is none
pub returns-clause-query : goal.returns-clause-query
returns-clause-query c = right_query c.args.self c.in_ok-query.query _ c.in_ok-query.was
