use Rattle.std.proofs.Common.{◌+◌, ap, refl, ◌∙◌}
use Rattle.ghcn_description.proofs.counts.ElementCounts.join.Goals as goal

-- what was counted on more lines is added
pub returns : goal.returns
returns c = record {
  holds = λ more long is. record {
    element = refl;
    lines = c.in_ok-self.ensures;
    days = c.in_ok-self-2.ensures ∙ ap (λ n. c.args.self.now.days + n) long;
    flagged = c.in_ok-self-3.ensures;
    span = λ days was. c.joined-self.ensures days more was is;
  };
}
