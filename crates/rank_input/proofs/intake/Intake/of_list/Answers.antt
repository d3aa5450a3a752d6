use Rattle.std.proofs.Common.{[]}
use Rattle.rank_input.specs.Takes.{file_input}
use Rattle.rank_input.proofs.intake.Intake.of_list.Goals as goal

-- an intake that reads nothing may have been given anything
pub returns-in-Err-clause-going : goal.returns-in-Err-clause-going
returns-in-Err-clause-going g c =
    let none = file_input c.args.keep [] [] in
    (none, c.closed.ensures.taken none)
