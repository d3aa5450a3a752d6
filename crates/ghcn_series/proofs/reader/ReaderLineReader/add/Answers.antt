use Rattle.ghcn_series.proofs.Cited.{◌≡◌, Ok, None, inr, ◌∙◌, read_month, file_line}
use Rattle.ghcn_series.proofs.AlikeMonths.{same_read}
use Rattle.ghcn_series.proofs.ReadLines.{read-passed, read-month, refused-month, refused-line, other_code, element_code}
use Rattle.ghcn_series.proofs.reader.ReaderLineReader.add.Goals as goal

-- a line of none of the elements is skipped
pub returns-in-Ok-None-clause-read : goal.returns-in-Ok-None-clause-read
returns-in-Ok-None-clause-read c =
    let is : read_month c.args.bytes.now ≡ Ok None = rw c.in-Ok-None.field-0-is at c.in-Ok-None.ensures in record {
      holds = λ like alike. record {
        holds = read-passed c.args.self.now (file_line c.args.file (c.args.line, like))
            (same_read like c.args.bytes.now alike ∙ is);
      };
    }

-- which has another code
pub returns-in-Ok-None-clause-element : goal.returns-in-Ok-None-clause-element
returns-in-Ok-None-clause-element c = other_code c.args.bytes.now (rw c.in-Ok-None.field-0-is at c.in-Ok-None.ensures)

-- a new month is read
pub returns-in-Ok-true-clause-read : goal.returns-in-Ok-true-clause-read
returns-in-Ok-true-clause-read c =
    let is = rw c.in-Ok-Some.field-0-is at c.in-Ok-Some.ensures in
    let adds = rw c.in-Ok-true.field-0-test at c.in-Ok-true.ensures.added in record {
      holds = λ like alike. record {
        holds = read-month c.args.self.now c.add_month.new.self (file_line c.args.file (c.args.line, like))
            is.month (same_read like c.args.bytes.now alike ∙ is.read) c.add_month.ensures.stations
            c.add_month.ensures.keep (adds is.month is.right (inr is.row));
      };
    }

-- of one of the elements
pub returns-in-Ok-true-clause-element : goal.returns-in-Ok-true-clause-element
returns-in-Ok-true-clause-element c =
    let is = rw c.in-Ok-Some.field-0-is at c.in-Ok-Some.ensures in
    element_code c.args.bytes.now is.month is.read

-- a month of an earlier line is refused
pub returns-in-Ok-false-clause-fault : goal.returns-in-Ok-false-clause-fault
returns-in-Ok-false-clause-fault c =
    let is = rw c.in-Ok-Some.field-0-is at c.in-Ok-Some.ensures in
    let adds = rw c.in-Ok-false.field-0-test at c.in-Ok-false.ensures.added in
    rw c.refused-in-Ok-false.ensures (record {
      holds = λ like alike. record {
        first = refused-month c.args.self.now c.add_month.new.self
            (file_line c.args.file (c.args.line, like)) is.month (same_read like c.args.bytes.now alike ∙ is.read)
            (adds is.month is.right (inr is.row));
      };
    })

-- so is a line that fails a test
pub returns-in-Err-clause-fault : goal.returns-in-Err-clause-fault
returns-in-Err-clause-fault c = rw c.refused.ensures (record {
  holds = λ like alike. record {
    first = refused-line c.args.self.now (file_line c.args.file (c.args.line, like)) c.in-Err.why
        (same_read like c.args.bytes.now alike ∙ c.in-Err.ensures);
  };
})
