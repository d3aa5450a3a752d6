use Rattle.std.proofs.Common.{rules, ◌≡◌, ◌+◌, sym, ap, ◌∙◌}
use Rattle.ghcn_series.proofs.CountedLines.{foreign-added, foreign-same, counted-end, same_test}
use Rattle.ghcn_series.proofs.counts.LineCounts.end_file.Goals as goal
use Rattle.ghcn_series.proofs.counts.LineCounts.end_file.Goals.{then-is_foreign, else-is_foreign}

-- the counts are those of one file more
pub returns : goal.returns
returns c = λ ended whole at many is.
    let value : c.in_ok-self.field-0 ≡ c.args.self.now.lines + c.args.count = search rules in
    let more = value ∙ ap (λ n. c.args.self.now.lines + n) many in elim c.if-is_foreign.branch [
      | then-is_foreign w ↦ rw w.self-is (counted-end c.args.self.now _ _ ended whole more
          (foreign-added c.args.self.now.warnings.foreign w.add.new.self ended whole c.args.place at c.requires.few
          (same_test c.args.self.now ended whole is ∙ sym c.is_foreign.ensures ∙ w.if-is_foreign.true) is.foreign
          w.add.ensures) is)
      | else-is_foreign w ↦ rw w.self-is (counted-end c.args.self.now _ _ ended whole more
          (is.foreign ∙ foreign-same ended whole
          (same_test c.args.self.now ended whole is ∙ sym c.is_foreign.ensures ∙ w.if-is_foreign.false)) is)
    ]
