use Rattle.std.proofs.Common.{◌∙◌, map, [], refl, ap}
use Rattle.clap.specs.Words.{found_of}
use Rattle.clap.proofs.WalkLemmas.{first_value-rows, raw_values-rows}
use Rattle.command_line.specs.CommandLine.{or_input}
use Rattle.command_line.proofs.CommandLines.{read_or}
use Rattle.command_line.proofs.words.table_of.Goals as goal

-- each field is what the matches have under its name
pub returns : goal.returns
returns c = let f = found_of c.args.matches.now in record {
  stations = c.in_ok-copy.ensures ∙ c.get_str.ensures ∙ first_value-rows f _;
  reports = c.in_ok-copies.ensures ∙ c.or_input.ensures ∙ ap or_input (read_or (λ s. map (λ v. v.now) s.now) _ _ _ _ []
      c.unwrap_or-reports.ensures (c.get_strs.ensures ∙ raw_values-rows f _) refl);
}
