use Rattle.rank_input.specs.Takes.{with_file_end}
use Rattle.rank_input.proofs.Reading.{cutter_ends}
use Rattle.rank_input.proofs.intake.Intake.end_of_file.Goals as goal

-- the cutter ends the file
pub returns-in-Ok-clause-taken : goal.returns-in-Ok-clause-taken
returns-in-Ok-clause-taken g c =
    cutter_ends g.L.LineReader.has_read c.args.self.now c.in-Ok.cutter c.end_of_file.new.self _ c.in-Ok.is
    c.end_of_file.ensures.fed

-- and more can follow
pub returns-in-Ok-clause-going : goal.returns-in-Ok-clause-going
returns-in-Ok-clause-going g c =
    (with_file_end c.requires.0, (returns-in-Ok-clause-taken g c).holds c.requires.0 c.requires.1)
