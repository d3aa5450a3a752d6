use Rattle.std.proofs.Common.{ap, Some, ◌≡◌, ◌∙◌, codes}
use Rattle.clap.specs.Words.{rule_of}
use Rattle.clap.specs.declared.builder.ValueParser.{ValueParser}
use Rattle.command_line.specs.CommandLine.{option_of, is_global, few_readers}
use Rattle.command_line.proofs.CommandLines.{parsed_by}
use Rattle.command_line.proofs.words.readers.Goals as goal

-- its values are those that the parser accepts
pub returns : goal.returns
returns c =
    let few : c.value_parser.result.value_parser ≡ Some few_readers = c.value_parser.ensures.given.1
    ∙ ap (λ (p : ValueParser). Some p) (c.value_parser.ensures.given.2 ∙ c.unsigned.ensures) in
    record {
      rule = ap rule_of c.value_parser.ensures.others
          ∙ ap (parsed_by c.value_parser.result.value_parser) c.option.ensures.rule
          ∙ ap (λ p. parsed_by p (option_of (codes "workers"))) few;
      local = ap is_global c.value_parser.ensures.others ∙ c.option.ensures.local;
    }
