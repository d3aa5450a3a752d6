use Rattle.std.proofs.lemmas.Result.{IfOk-weaker, IfErr-weaker}
use Rattle.rank_table.specs.Reports.{placed_in, texts_in}
use Rattle.rank_table.proofs.FilesRead.{bad_text}
use Rattle.rank_table.proofs.reading.read_reports.Goals as goal

-- what is read is held
pub returns-clause-held : goal.returns-clause-held
returns-clause-held c =
    IfOk-weaker c.read_texts.result _ _
    (λ found e. (c.texts_of_reports_are_read.ensures.read (texts_in c.args.texts.now) (placed_in found.items)).0 e)
    c.read_texts.ensures.ok

-- and a refusal is that of the first bad text
pub returns-clause-wrong : goal.returns-clause-wrong
returns-clause-wrong c =
    IfErr-weaker c.read_texts.result _ _
    (λ why e. bad_text (texts_in c.args.texts.now) why c.texts_of_reports_are_read.ensures.wrong e)
    c.read_texts.ensures.err

-- each row is where it is said to be
pub returns-clause-there : goal.returns-clause-there
returns-clause-there c =
    IfOk-weaker c.read_texts.result _ _
    (λ found e. c.texts_of_reports_are_read.ensures.there (texts_in c.args.texts.now) (placed_in found.items)
    ((c.texts_of_reports_are_read.ensures.read (texts_in c.args.texts.now) (placed_in found.items)).0 e))
    c.read_texts.ensures.ok
