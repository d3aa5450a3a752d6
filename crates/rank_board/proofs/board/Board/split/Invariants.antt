use Rattle.rank_board.proofs.board.Board.split.Given as goal

-- how many rights go to the new seat
abbrev pub ghosts-hand_over : goal.ghosts-hand_over
ghosts-hand_over a = record { number = a.rights }
