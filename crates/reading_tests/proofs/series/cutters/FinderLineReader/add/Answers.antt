use Rattle.std.proofs.lemmas.Result.{err_from_is_err_and}
use Rattle.reading_tests.proofs.series.cutters.FinderLineReader.add.Goals as goal

-- the reader reads the line
pub returns-clause-read : goal.returns-clause-read
returns-clause-read c = record {
  holds = λ like alike. record { holds = (c.in_ok-of_element.ensures.read.holds like alike).holds };
}

-- or refuses it
pub returns-in_err-of_element-clause-fault : goal.returns-in_err-of_element-clause-fault
returns-in_err-of_element-clause-fault c =
    let p = err_from_is_err_and c.from_residual.result c.from_residual.ensures.1 in
    rw (p.1, p.2) (record {
      holds = λ like alike. record { first = (c.in_err-of_element.ensures.fault.holds like alike).first };
    })
