use Rattle.std.proofs.Common.{rules}
use Rattle.crew_tests.proofs.Drawn.{DrewAll, floor_of_two}
use Rattle.crew_tests.proofs.boards.draw_by_halves.Goals as goal

-- the greatest of all numbers drawn
pub returns-clause-floor : goal.returns-clause-floor
returns-clause-floor g c =
    let split = c.split-two in
    let drawn = c.join-one.result in
    let one : DrewAll split.new.seat drawn.0 = (search rules, search rules, search rules) in
    let two : DrewAll split.result drawn.1 = (search rules, search rules, search rules) in
    floor_of_two _ _ _ _ _ _ _ _ _ c.in_ok-board.ensures.opens split.ensures.splits one two c.join.ensures.joins _
    c.requires.some_rights c.close.ensures.whole
