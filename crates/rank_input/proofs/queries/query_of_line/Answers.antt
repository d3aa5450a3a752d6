use Rattle.std.proofs.Common.{◌≡◌, ℕ, List, Ok, sym, subst}
use Rattle.rank_query.proofs.Asks.{read_asks}
use Rattle.rank_query.specs.Reading.{read_query}
use Rattle.rank_input.proofs.queries.query_of_line.Goals as goal

-- the line is read as a query, so it asks it
pub returns-in-Ok-parse-clause-ok : goal.returns-in-Ok-parse-clause-ok
returns-in-Ok-parse-clause-ok c =
    read_asks c.args.line.now c.in-Ok-parse.query
    (subst (λ (text : List ℕ). read_query text ≡ Ok c.in-Ok-parse.query) c.in-Ok.ensures.cases.0
    (sym c.in-Ok-parse.ensures.read))
