use Rattle.rank_board.proofs.board.Board.claim.Given as goal

-- the number of rights that the board was opened with
abbrev pub ghosts-claim_one_of : goal.ghosts-claim_one_of
ghosts-claim_one_of a = record { number = a.self.now.table.shared.key.rights }
