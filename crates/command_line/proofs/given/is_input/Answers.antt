use Rattle.std.proofs.Common.{◌∙◌}
use Rattle.clap.specs.Words.{found_of}
use Rattle.clap.proofs.WalkLemmas.{first_value-rows}
use Rattle.command_line.proofs.CommandLines.{is_text}
use Rattle.command_line.proofs.given.is_input.Goals as goal

-- the value is `-` if and only if the rows have that under the name
pub returns : goal.returns
returns c = is_text c.get_str.result _ _ _ c.eq.ensures
    (c.get_str.ensures ∙ first_value-rows (found_of c.args.matches.now) c.args.option.now)
