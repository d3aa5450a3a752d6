use Rattle.std.proofs.lemmas.Result.{IfOk-weaker}
use Rattle.ghcn_series.proofs.rows.RowReaderLineReader.finish.Goals as goal

-- what the reader makes of the lines is made of them
pub returns : goal.returns
returns c = IfOk-weaker c.finish.result _ _ (λ done makes. record { is = makes.is }) c.finish.ensures
