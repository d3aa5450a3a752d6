use Rattle.std.proofs.Common.{[]}
use Rattle.ghcn_files.specs.Elements.{nothing}
use Rattle.rank_input.specs.Takes.{file_input}
use Rattle.rank_input.proofs.question.Question.new.Goals as goal

-- an intake that reads nothing may have been given anything
pub returns-in-Err-clause-going : goal.returns-in-Err-clause-going
returns-in-Err-clause-going c =
    (file_input nothing c.args.stations.now [], c.closed.ensures.taken (file_input nothing c.args.stations.now []))
