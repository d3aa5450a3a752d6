use Rattle.rank_input.specs.Taken.{HasTakenSome}
use Rattle.ranking_tests.proofs.input.end_files.Given as goal

-- what was given stays what a question was given
abbrev pub invariant-loop : goal.invariant-loop
invariant-loop l = HasTakenSome l.question
