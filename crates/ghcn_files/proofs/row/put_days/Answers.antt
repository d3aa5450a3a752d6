use Rattle.std.proofs.Common.{Bool, sym, subst}
use Rattle.ghcn_files.specs.Rows.{AreDays, if_kept, line_value}
use Rattle.ghcn_files.proofs.Rows.{no-days}
use Rattle.ghcn_files.proofs.row.put_days.Goals as goal

-- the days that count are kept
pub returns-then-kept-clause-days : goal.returns-then-kept-clause-days
returns-then-kept-clause-days c =
    let days = λ (k : Bool). AreDays (λ j. if_kept k (line_value c.args.element c.args.count c.args.line.now j))
    c.put_kept.result c.put_kept.new.values in
    subst days (sym c.if-kept.true) c.put_kept.ensures

-- no day is kept
pub returns-else-kept-clause-days : goal.returns-else-kept-clause-days
returns-else-kept-clause-days c =
    let days = λ (k : Bool). AreDays (λ j. if_kept k (line_value c.args.element c.args.count c.args.line.now j)) in
    subst (λ (k : Bool). days k _ _) (sym c.if-kept.false) no-days
