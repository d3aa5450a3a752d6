use Rattle.rank_input.specs.Takes.{with_bytes}
use Rattle.rank_input.proofs.Reading.{cutter_takes}
use Rattle.rank_input.proofs.intake.Intake.piece.Goals as goal

-- the cutter takes the bytes
pub returns-in-Ok-clause-taken : goal.returns-in-Ok-clause-taken
returns-in-Ok-clause-taken g c =
    cutter_takes g.L.LineReader.has_read c.args.self.now c.in-Ok.cutter c.piece.new.self _ c.args.bytes.now c.in-Ok.is
    c.piece.ensures.fed

-- and more can follow
pub returns-in-Ok-clause-going : goal.returns-in-Ok-clause-going
returns-in-Ok-clause-going g c =
    (with_bytes c.requires.0 c.args.bytes.now, (returns-in-Ok-clause-taken g c).holds c.requires.0 c.requires.1)
