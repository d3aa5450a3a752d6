use Rattle.std.proofs.Common.{◌+◌, ap, refl, ◌∙◌}
use Rattle.ghcn_description.proofs.MonthFigures.{ones-of_row}
use Rattle.ghcn_description.proofs.counts.ElementCounts.add.Goals as goal

-- the month is counted
pub returns : goal.returns
returns c m right of flagged = record {
  element = refl;
  lines = c.in_ok-self.ensures;
  days = c.in_ok-self-2.ensures ∙ ap (λ n. c.args.self.now.days + n) (ones-of_row m c.args.row.now right of);
  flagged = c.in_ok-self-3.ensures ∙ ap (λ n. c.args.self.now.flagged + n) flagged;
  span = λ days is. c.joined-self.ensures days _ is (c.span_of.ensures m right of);
}
