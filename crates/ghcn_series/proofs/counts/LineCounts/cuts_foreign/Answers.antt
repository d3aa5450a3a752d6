use Rattle.ghcn_series.proofs.Cited.{◌≡◌, ◌∙◌, sym, refl, ne_eqb}
use Rattle.ghcn_series.proofs.FollowedCounts.{is_first, cuts-noted}
use Rattle.ghcn_series.proofs.counts.LineCounts.cuts_foreign.Goals as goal
use Rattle.ghcn_series.proofs.counts.LineCounts.cuts_foreign.Goals.{in-Some-eq0, in_default, in_default-2}

-- the current file has a line and an element, so it depends on the first file of the others
pub returns-else-not-self : goal.returns-else-not-self
returns-else-not-self c =
    let first : c.match-matches.matches ≡ is_first c.args.next.now.warnings.foreign.first =
    elim c.match-matches.branch [
      | in-Some-eq0 w ↦
          let none : w.in-Some-eq0.field-0 ≡ 0 = sym w.in-Some-eq0.field-0-is ∙ w.in-Some-eq0.field-0-test in
          w.matches-is ∙ rw (w.in-Some-eq0.is, none) refl
      | in_default w ↦ w.matches-is ∙ rw w.in_default.is (sym (ne_eqb w.in_default.field-0 0
          (λ e. w.in_default.field-0-test.1 (w.in_default.field-0-is ∙ e))))
      | in_default-2 w ↦ w.matches-is ∙ rw w.in_default.is refl
    ] in
    cuts-noted c.args.self.now c.args.next.now c.match-matches.matches (rw (c.if-self.true, c.if-not-self.false) first)
