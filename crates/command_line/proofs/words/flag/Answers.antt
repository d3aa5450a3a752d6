use Rattle.std.proofs.Common.{ap, ◌∙◌, Some}
use Rattle.clap.specs.Words.{Rule, Text, rule_of}
use Rattle.clap.specs.declared.builder.ArgAction.TheVariants.{SetTrue}
use Rattle.command_line.specs.CommandLine.{is_global}
use Rattle.command_line.proofs.words.flag.Goals as goal

-- an argument that is true if it is given
abbrev set_true : Rule → Rule
set_true r = record r { action = Some SetTrue }

-- an option of this name
abbrev long_by : Text → Rule → Rule
long_by t r = record r { long = Some t }

-- the flag is the one of the definition
pub returns-clause-rule : goal.returns-clause-rule
returns-clause-rule c = ap rule_of c.action.ensures
    ∙ ap set_true (ap rule_of c.help.ensures ∙ ap rule_of c.long.ensures ∙ ap (long_by _) c.new.ensures.rule)

-- and it isn't a flag of subcommands
pub returns-clause-local : goal.returns-clause-local
returns-clause-local c = ap is_global c.action.ensures ∙ ap is_global c.help.ensures ∙ ap is_global c.long.ensures
    ∙ c.new.ensures.optional.1
