use Rattle.extremes.proofs.SerialPapers.{serial_one}
use Rattle.extremes.proofs.rank.serial_papers_are_one.Goals as goal

-- there is only one list of the best, and one list of records of one worker, so all that it returns is determined
pub returns : goal.returns
returns c = serial_one c.papers_are_found.ensures.one c.runs_are_sound.ensures.records
