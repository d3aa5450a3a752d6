use Rattle.std.proofs.Common.{◌∙◌}
use Rattle.clap.specs.Words.{found_of}
use Rattle.clap.proofs.WalkLemmas.{first_value-rows}
use Rattle.command_line.proofs.CommandLines.{is_some-read}
use Rattle.command_line.proofs.given.has_value.Goals as goal

-- a value is there if the rows have one under the name
pub returns : goal.returns
returns c = c.is_some.ensures ∙ is_some-read _ c.get_str.result _
    (c.get_str.ensures ∙ first_value-rows (found_of c.args.matches.now) c.args.option.now)
