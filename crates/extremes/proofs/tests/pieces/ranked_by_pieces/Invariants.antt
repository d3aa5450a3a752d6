use Rattle.rank_input.specs.Taken.{HasTakenSome}
use Rattle.extremes.proofs.tests.pieces.ranked_by_pieces.Given as goal

-- what was given stays what a question was given
abbrev pub invariant-loop-file : goal.invariant-loop-file
invariant-loop-file g l = HasTakenSome l.question

-- so it does in a file
abbrev pub invariant-loop-piece : goal.invariant-loop-piece
invariant-loop-piece g l = HasTakenSome l.question
