use Rattle.std.proofs.Common.{sym}
use Rattle.rank_input.specs.Takes.{IsRead, JoinsReadings}
use Rattle.rank_input.proofs.Joinings.{going-joined}
use Rattle.rank_input.proofs.intake.Intake.join.Goals as goal

-- what both were given is read
pub returns-clause-joined : goal.returns-clause-joined
returns-clause-joined g c =
    let joins : JoinsReadings (IsRead g.L.LineReader.has_read) c.args.self.read c.args.next.read
    c.in_ok-transpose.field-0 = rw (sym c.in_ok-transpose.ensures) at c.joined.ensures.joined in
    record { holds = joins.holds }

-- and more can follow
pub returns-clause-going : goal.returns-clause-going
returns-clause-going g c =
    going-joined g.L.LineReader.has_read c.args.self.read c.args.next.read c.in_ok-transpose.field-0
    (returns-clause-joined g c) c.requires
