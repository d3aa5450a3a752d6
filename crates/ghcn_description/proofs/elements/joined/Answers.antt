use Rattle.ghcn_description.proofs.MonthFigures.{joined-span}
use Rattle.ghcn_description.proofs.elements.joined.Goals as goal

-- both have days
pub returns-in-Some-Some : goal.returns-in-Some-Some
returns-in-Some-Some c days more here there =
    rw (c.earlier.ensures, c.later.ensures)
    (joined-span days more c.in-Some-Some.one c.in-Some-Some.other (rw c.in-Some-Some.is-0 at here)
    (rw c.in-Some-Some.is-1 at there))
