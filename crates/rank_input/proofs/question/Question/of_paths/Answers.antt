use Rattle.std.proofs.Common.{[]}
use Rattle.ghcn_files.specs.Elements.{nothing}
use Rattle.rank_input.specs.Takes.{file_input}
use Rattle.rank_input.proofs.question.Question.of_paths.Goals as goal

-- an intake that reads nothing may have been given anything
pub feed_files-requires : goal.feed_files-requires
feed_files-requires g c =
    let none = file_input nothing [] [] in
    (none, c.closed-files.ensures.taken none)
