use Rattle.std.proofs.Common.{ap, ◌∙◌, Some}
use Rattle.clap.specs.Words.{Rule, Text, rule_of}
use Rattle.clap.specs.declared.builder.ArgAction.TheVariants.{Set}
use Rattle.command_line.specs.CommandLine.{is_global}
use Rattle.command_line.proofs.words.option.Goals as goal

-- an argument given once
abbrev set_once : Rule → Rule
set_once r = record r { action = Some Set }

-- one with a name for its value
abbrev named : Rule → Rule
named r = record r { value_names = 1 }

-- an option of this name
abbrev long_by : Text → Rule → Rule
long_by t r = record r { long = Some t }

-- the option is the one of the definition
pub returns-clause-rule : goal.returns-clause-rule
returns-clause-rule c = ap rule_of c.action.ensures
    ∙ ap set_once (ap rule_of c.help.ensures ∙ ap rule_of c.value_name.ensures
    ∙ ap named (ap rule_of c.long.ensures ∙ ap (long_by _) c.new.ensures.rule))

-- and it isn't an option of subcommands
pub returns-clause-local : goal.returns-clause-local
returns-clause-local c = ap is_global c.action.ensures ∙ ap is_global c.help.ensures
    ∙ ap is_global c.value_name.ensures ∙ ap is_global c.long.ensures ∙ c.new.ensures.optional.1
