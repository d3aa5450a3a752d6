use Rattle.std.proofs.Common.{option_map}
use Rattle.std.proofs.lemmas.Result.{IfErr-weaker, IfOk-weaker}
use Rattle.rank_table.specs.Reports.{placed_in}
use Rattle.rank_table.specs.Tables.{rows_of}
use Rattle.rank_table.proofs.Unlisted.{bad_row}
use Rattle.rank_table.proofs.tabling.table.Goals as goal

-- a table is read back
pub returns-clause-back : goal.returns-clause-back
returns-clause-back c =
    IfOk-weaker c.write_table.result _ _
    (λ text e. c.tables_are_read_back.ensures (option_map (λ s. s.now) c.args.stations)
    (rows_of (placed_in c.args.reports.now)) text.items e) c.write_table.ensures.ok

-- and a refusal is that of the first unlisted row
pub returns-clause-wrong : goal.returns-clause-wrong
returns-clause-wrong c =
    IfErr-weaker c.write_table.result _ _
    (λ why e. bad_row (option_map (λ s. s.now) c.args.stations) (rows_of (placed_in c.args.reports.now)) why
    c.unlisted_rows_are_refused.ensures e) c.write_table.ensures.err
