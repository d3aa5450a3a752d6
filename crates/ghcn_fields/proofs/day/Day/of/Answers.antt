use Rattle.std.proofs.Common.{rules}
use Rattle.std.proofs.lemmas.Int.{to_z_pos}
use Rattle.jiff_core.proofs.SignedLemmas.{signed_arith}
use Rattle.ghcn_fields.proofs.DayNumbers.{is_day-date}
use Rattle.ghcn_fields.proofs.CivilDates.{civil-of}
use Rattle.ghcn_fields.proofs.day.Day.of.Goals as goal

-- a date from the year 1 on has the number of a day
pub invariant_of-result : goal.invariant_of-result
invariant_of-result c = search (rules, to_z_pos, signed_arith, is_day-date)

-- the day's date is the one given
pub returns-in-Ok-clause-date : goal.returns-in-Ok-clause-date
returns-in-Ok-clause-date c = search (rules, to_z_pos, signed_arith, civil-of)
