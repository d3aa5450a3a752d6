-- How a run ends, and its exit status.
use Rattle.std.specs.Prelude.{ℕ}
use Rattle.rank_check.specs.declared.verdict.Verdict.TheVariants as verdicts
use Rattle.rank_parts.specs.declared.verdict.PartVerdict.TheVariants as parts
use Rattle.extremes.specs.declared.judgement.Judgement.{Judgement}
use Rattle.extremes.specs.declared.judgement.Judgement.TheVariants.{Whole, Part}
use Rattle.extremes.specs.declared.ending.Ending.{Ending}
use Rattle.extremes.specs.declared.ending.Ending.TheVariants.{Done, Refused, Words, File}

-- 0 if it is done, 1 if the input was refused, 2 for the arguments, 3 for a file
abbrev pub status_of : Ending → ℕ
status_of Done = 0
status_of Refused = 1
status_of Words = 2
status_of File = 3

-- a run is done if the report and the certificate are accepted, and refused if they aren't
abbrev pub ending_of : Judgement → Ending
ending_of (Whole verdicts.Accepted) = Done
ending_of (Whole (verdicts.Refused paper line why)) = Refused
ending_of (Part (parts.Accepted series lines)) = Done
ending_of (Part (parts.Refused refusal)) = Refused
