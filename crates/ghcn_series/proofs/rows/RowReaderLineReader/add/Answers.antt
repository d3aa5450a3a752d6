use Rattle.ghcn_series.proofs.Cited.{◌≡◌, Ok, None, sym, subst, inr, ◌∙◌, read_month, file_line}
use Rattle.ghcn_files.specs.Rows.{IsOfLine}
use Rattle.ghcn_series.proofs.AlikeMonths.{same_read}
use Rattle.ghcn_series.proofs.ReadLines.{read-passed, read-month, refused-month, refused-line, other_code, element_code}
use Rattle.ghcn_series.proofs.rows.RowReaderLineReader.add.Goals as goal

-- a line of none of the elements is skipped
pub returns-in-Ok-false-clause-read : goal.returns-in-Ok-false-clause-read
returns-in-Ok-false-clause-read c =
    let is : read_month c.args.bytes.now ≡ Ok None = rw c.in-Ok-false.field-0-test at c.in-Ok-false.ensures in record {
      holds = λ like alike. record {
        holds = read-passed c.args.self.now.reader (file_line c.args.file (c.args.line, like))
            (same_read like c.args.bytes.now alike ∙ is);
      };
    }

-- which has another code
pub returns-in-Ok-false-clause-element : goal.returns-in-Ok-false-clause-element
returns-in-Ok-false-clause-element c =
    other_code c.args.bytes.now (rw c.in-Ok-false.field-0-test at c.in-Ok-false.ensures)

-- a new month is read
pub returns-in-Ok-true-add_month-clause-read : goal.returns-in-Ok-true-add_month-clause-read
returns-in-Ok-true-add_month-clause-read c =
    let of = IsOfLine c.args.self.now.reader.keep c.args.bytes.now in
    let is = subst of (sym c.row.ensures) (rw c.in-Ok-true.field-0-test at c.in-Ok-true.ensures) in
    let adds = rw c.in-Ok-true-add_month.field-0-test at c.in-Ok-true-add_month.ensures.added in record {
      holds = λ like alike. record {
        holds = read-month c.args.self.now.reader c.add_month.new.self (file_line c.args.file (c.args.line, like))
            is.month (same_read like c.args.bytes.now alike ∙ is.read) c.add_month.ensures.stations
            c.add_month.ensures.keep (adds is.month is.right (inr is.row));
      };
    }

-- of one of the elements
pub returns-in-Ok-true-add_month-clause-element : goal.returns-in-Ok-true-add_month-clause-element
returns-in-Ok-true-add_month-clause-element c =
    let is : IsOfLine c.args.self.now.reader.keep c.args.bytes.now c.read.new.self.row =
    rw c.in-Ok-true.field-0-test at c.in-Ok-true.ensures in
    element_code c.args.bytes.now is.month is.read

-- a month of an earlier line is refused
pub returns-in-Ok-false-add_month-clause-fault : goal.returns-in-Ok-false-add_month-clause-fault
returns-in-Ok-false-add_month-clause-fault c =
    let of = IsOfLine c.args.self.now.reader.keep c.args.bytes.now in
    let is = subst of (sym c.row.ensures) (rw c.in-Ok-true.field-0-test at c.in-Ok-true.ensures) in
    let adds = rw c.in-Ok-false-add_month.field-0-test at c.in-Ok-false-add_month.ensures.added in
    rw c.refused-in-Ok-false-add_month.ensures (record {
      holds = λ like alike. record {
        first = refused-month c.args.self.now.reader c.add_month.new.self
            (file_line c.args.file (c.args.line, like)) is.month (same_read like c.args.bytes.now alike ∙ is.read)
            (adds is.month is.right (inr is.row));
      };
    })

-- so is a line that fails a test
pub returns-in-Err-clause-fault : goal.returns-in-Err-clause-fault
returns-in-Err-clause-fault c = rw c.refused.ensures (record {
  holds = λ like alike. record {
    first = refused-line c.args.self.now.reader (file_line c.args.file (c.args.line, like)) c.in-Err.why
        (same_read like c.args.bytes.now alike ∙ c.in-Err.ensures);
  };
})
