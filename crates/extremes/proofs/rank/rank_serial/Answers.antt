use Rattle.std.specs.Prelude.{map}
use Rattle.rank_input.specs.Taken.{given}
use Rattle.extremes.proofs.rank.rank_serial.Goals as goal
use Rattle.extremes.proofs.Answering.{answers_input, faultless_input, serial_input}

-- the report and the certificate of what the query needs answer all that was given
pub returns-clause-ok : goal.returns-clause-ok
returns-clause-ok c =
    (answers_input c.of_files-question.result c.in_ok-taken.taken.query c.in_ok-taken.taken.dataset
    c.in_ok-ranked_alone.field-0
    c.papers_of_one_element.ensures.right_report c.papers_of_one_element.ensures.right_certificate
    c.papers_are_said.ensures.report c.papers_are_said.ensures.certificate
    c.in_ok-taken.ensures.ok c.in_ok-ranked_alone.ensures.right).is
    (given c.args.query.now c.args.stations.now (map (λ file. file.now) c.args.files.now))
    c.of_files-question.ensures.taken

-- and they are those of one worker
pub returns-clause-serial : goal.returns-clause-serial
returns-clause-serial c =
    (serial_input c.of_files-question.result c.args.guess c.in_ok-taken.taken.query c.in_ok-taken.taken.dataset
    c.in_ok-ranked_alone.field-0
    c.one_element_is_enough.ensures.morsels c.papers_of_one_element.ensures.measured c.in_ok-taken.ensures.ok
    c.in_ok-ranked_alone.ensures.bounds c.in_ok-ranked_alone.ensures.alone).is
    (given c.args.query.now c.args.stations.now (map (λ file. file.now) c.args.files.now))
    c.of_files-question.ensures.taken

-- which had no error
pub returns-clause-faultless : goal.returns-clause-faultless
returns-clause-faultless c =
    (faultless_input c.of_files-question.result c.in_ok-taken.taken.query c.in_ok-taken.taken.dataset
    c.in_ok-taken.ensures.ok).is
    (given c.args.query.now c.args.stations.now (map (λ file. file.now) c.args.files.now)) c.of_files-question.ensures.taken
