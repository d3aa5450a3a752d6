use Rattle.std.proofs.Common.{rules, length, ap, arith, ◌∙◌}
use Rattle.std.proofs.lemmas.Grind.{common_steps}
use Rattle.std.proofs.lemmas.List.{length-map}
use Rattle.ghcn_series.specs.DailyFaults.{daily_lines}
use Rattle.ghcn_series.specs.Says.{usable_facts}
use Rattle.ghcn_description.specs.Describing.{elements_with}
use Rattle.ghcn_description.proofs.JoinedLines.{series-counted}
use Rattle.ghcn_description.proofs.describer.Describer.finish.Goals as goal

-- the files that were read are described
pub returns : goal.returns
returns c = record {
  is = λ stations keep files read number counted.
      let long = ap length read.with_days
      ∙ length-map stations (elements_with (usable_facts stations (daily_lines files))) in
      record {
        listed = grind (arith, common_steps, long);
        given = search rules;
        lines = first_of (search rules, grind (arith, common_steps));
        counts = series-counted stations (daily_lines files) c.args.self.elements c.count_series.new.elements _
            (c.deref.ensures.value ∙ read.with_days) c.count_series.ensures read.counts;
        others = search rules;
        unlisted = search rules;
        blank = first_of (search rules, grind (arith, common_steps));
        warnings = first_of (search rules, grind (arith, common_steps));
      };
}
