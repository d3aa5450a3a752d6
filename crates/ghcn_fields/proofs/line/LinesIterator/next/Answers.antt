use Rattle.std.proofs.Common.{arith, rules}
use Rattle.std.proofs.lemmas.Bool.Decides.{nat_tests}
use Rattle.std.proofs.lemmas.Grind.{common_steps}
use Rattle.ghcn_fields.proofs.FirstLine.{lines-first, lines-last, lines_left, longer}
use Rattle.ghcn_fields.proofs.line.LinesIterator.next.Goals as goal

-- the first line ends at a line feed
pub returns-in-Some-clause-steps : goal.returns-in-Some-clause-steps
returns-in-Some-clause-steps c = grind (arith, common_steps, nat_tests, lines-first, lines_left)

-- fewer lines are left
pub returns-in-Some-clause-goes : goal.returns-in-Some-clause-goes
returns-in-Some-clause-goes c =
    let less = longer _ _ _ (returns-in-Some-clause-steps c) in
    record { on = λ _. (tt, tt, less); keeps = tt; rests = λ _. tt }

-- without one the text is the last line
pub returns-in-None-clause-steps : goal.returns-in-None-clause-steps
returns-in-None-clause-steps c = search (rules, lines-last, lines_left)
