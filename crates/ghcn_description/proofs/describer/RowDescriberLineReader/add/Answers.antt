use Rattle.std.proofs.Common.{◌≡◌, Ok, None, map, sym, subst, ◌∙◌}
use Rattle.ghcn_files.specs.Elements.{everything, nothing}
use Rattle.ghcn_files.specs.Months.{read_month}
use Rattle.ghcn_files.specs.Rows.{IsOfLine}
use Rattle.ghcn_series.specs.DailyFaults.{FileLine, file_line}
use Rattle.ghcn_series.proofs.AlikeLines.{same_code}
use Rattle.ghcn_series.proofs.AlikeMonths.{same_read}
use Rattle.ghcn_series.proofs.ReadLines.{read-passed, refused-line, other_code}
use Rattle.ghcn_description.specs.Lines.{shown}
use Rattle.ghcn_description.specs.Steps.{CountsCode}
use Rattle.ghcn_description.proofs.DescribedLines.{counted-other}
use Rattle.ghcn_description.proofs.describer.RowDescriberLineReader.add.Goals as goal

-- a line of another code
pub returns-in-Ok-clause-element : goal.returns-in-Ok-clause-element
returns-in-Ok-clause-element c =
    other_code c.args.bytes.now (rw c.in-Ok-false.field-0-test at c.in-Ok-false.ensures)

-- it is counted
pub returns-in-Ok-clause-read : goal.returns-in-Ok-clause-read
returns-in-Ok-clause-read c =
    let is : read_month c.args.bytes.now ≡ Ok None = rw c.in-Ok-false.field-0-test at c.in-Ok-false.ensures in
    let adds = subst (λ code. CountsCode c.args.self.now.describer.others c.add.new.self code 1) c.shown_code.ensures
    c.in-Ok.ensures in
    record {
      holds = λ like alike.
          let l : FileLine = file_line c.args.file (c.args.line, like) in
          let passed : read_month like ≡ Ok None = same_read like c.args.bytes.now alike ∙ is in
          let code = subst (λ cs. CountsCode c.args.self.now.describer.others c.add.new.self (map shown cs) 1)
          (sym (same_code like c.args.bytes.now alike)) adds in
          record {
            holds = λ stations keep before of.
                counted-other stations keep before l passed c.args.self.now.describer
                c.args.self.now.describer.reader c.add.new.self
                (read-passed c.args.self.now.describer.reader l passed stations nothing before of.read) code of;
          };
    }

-- the row is that of the line
pub add_month-requires-clause-row : goal.add_month-requires-clause-row
add_month-requires-clause-row c =
    subst (IsOfLine everything c.args.bytes.now) (sym c.row.ensures)
    (rw (c.in-Ok-true.field-0-test, c.everything.ensures) at c.in-Ok-true.ensures)

-- a month of an earlier line is refused
pub returns-in-Ok-false-add_month-clause-fault : goal.returns-in-Ok-false-add_month-clause-fault
returns-in-Ok-false-add_month-clause-fault c =
    rw c.refused-in-Ok-false-add_month.ensures (record {
      holds = λ like alike. record {
        first = λ stations keep before of.
            c.in-Ok-false-add_month.ensures.refused stations keep before
            (file_line c.args.file (c.args.line, like)) alike of c.in-Ok-false-add_month.field-0-test;
      };
    })

-- a new month is counted
pub returns-in-Ok-true-add_month-clause-read : goal.returns-in-Ok-true-add_month-clause-read
returns-in-Ok-true-add_month-clause-read c =
    let adds = rw c.in-Ok-true-add_month.field-0-test at c.in-Ok-true-add_month.ensures in
    record {
      holds = λ like alike. record {
        holds = λ stations keep before of.
            adds.read stations keep before (file_line c.args.file (c.args.line, like)) alike of;
      };
    }

-- a line that fails a test is refused
pub returns-in-Err-clause-fault : goal.returns-in-Err-clause-fault
returns-in-Err-clause-fault c =
    rw c.refused.ensures (record {
      holds = λ like alike. record {
        first = λ stations keep before of.
            refused-line c.args.self.now.describer.reader (file_line c.args.file (c.args.line, like)) c.in-Err.why
            (same_read like c.args.bytes.now alike ∙ c.in-Err.ensures) stations nothing before of.read;
      };
    })
