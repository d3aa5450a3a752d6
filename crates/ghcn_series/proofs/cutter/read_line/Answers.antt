use Rattle.ghcn_series.proofs.Cited.{sym, ap, ◌∙◌, err_from_is_err_and, is_blank}
use Rattle.ghcn_series.proofs.AlikeReads.{blank-read, text-read, text-refused}
use Rattle.ghcn_series.proofs.cutter.read_line.Goals as goal

-- a blank line is no line
pub returns-then-is_blank-clause-read : goal.returns-then-is_blank-clause-read
returns-then-is_blank-clause-read g c = blank-read c.args.reader.now c.args.file c.args.line c.args.bytes.now
    (ap is_blank (sym c.without_return-bytes.ensures) ∙ sym c.is_blank.ensures ∙ c.if-is_blank.true)

-- a line of an element is read
pub returns-then-of_element-clause-read : goal.returns-then-of_element-clause-read
returns-then-of_element-clause-read g c =
    text-read c.args.reader.now c.add.new.self c.args.file c.args.line c.args.bytes.now
    (ap is_blank (sym c.without_return-bytes.ensures) ∙ sym c.is_blank.ensures ∙ c.if-is_blank.false)
    (rw c.without_return-bytes.ensures at c.in_ok-of_element.ensures.read)

-- so is one of another code
pub returns-then-has_form-clause-read : goal.returns-then-has_form-clause-read
returns-then-has_form-clause-read g c =
    text-read c.args.reader.now c.add.new.self c.args.file c.args.line c.args.bytes.now
    (ap is_blank (sym c.without_return-bytes.ensures) ∙ sym c.is_blank.ensures ∙ c.if-is_blank.false)
    (rw c.without_return-bytes.ensures at c.in_ok-of_element.ensures.read)

-- and an odd one
pub returns-else-has_form-clause-read : goal.returns-else-has_form-clause-read
returns-else-has_form-clause-read g c =
    text-read c.args.reader.now c.add.new.self c.args.file c.args.line c.args.bytes.now
    (ap is_blank (sym c.without_return-bytes.ensures) ∙ sym c.is_blank.ensures ∙ c.if-is_blank.false)
    (rw c.without_return-bytes.ensures at c.in_ok-of_element.ensures.read)

-- its error is that of the line as it is
pub returns-in_err-of_element-clause-fault : goal.returns-in_err-of_element-clause-fault
returns-in_err-of_element-clause-fault g c =
    let p = err_from_is_err_and c.from_residual.result c.from_residual.ensures.1 in
    rw (p.1, p.2) (text-refused c.args.reader.now c.args.file c.args.line c.args.bytes.now c.in_err-of_element.field-0.0
    (ap is_blank (sym c.without_return-bytes.ensures) ∙ sym c.is_blank.ensures ∙ c.if-is_blank.false)
    (rw c.without_return-bytes.ensures at c.in_err-of_element.ensures.fault))
