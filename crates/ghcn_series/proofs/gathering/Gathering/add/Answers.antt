use Rattle.ghcn_series.proofs.Cited.{true, not, sym, ap, ◌∙◌, not-true}
use Rattle.ghcn_series.proofs.SeenMonths.{gathering-more, month-new, seen-is, number_is}
use Rattle.ghcn_series.proofs.gathering.Gathering.add.Goals as goal

-- a month whose time was seen isn't new
pub returns-then-not-branch-clause-added : goal.returns-then-not-branch-clause-added
returns-then-not-branch-clause-added c = λ m right of.
    let number = number_is true m c.args.row.now c.number_of.result of c.number_of.ensures in
    let told = sym c.if-not-branch.true ∙ (rw number at c.in_ok-add.ensures.is_new) in record {
      is_new = λ before is. told ∙ ap not (seen-is true c.args.self.now m before right is);
      holds = λ before is. tt;
    }

-- no day of a new month was added before
pub add_days-requires-clause-fresh : goal.add_days-requires-clause-fresh
add_days-requires-clause-fresh c = λ m right of.
    let number = number_is true m c.args.row.now c.number_of.result of c.number_of.ensures in
    let told = sym c.if-not-branch.false ∙ (rw number at c.in_ok-add.ensures.is_new) in
    month-new c.args.self.now m c.requires.gathered.0 right c.requires.gathered.1 (not-true _ (sym told))

-- any other is added
pub returns-clause-added : goal.returns-clause-added
returns-clause-added c = λ m right of.
    let number = number_is true m c.args.row.now c.number_of.result of c.number_of.ensures in
    let told = sym c.if-not-branch.false ∙ (rw number at c.in_ok-add.ensures.is_new) in
    let adds = rw number at c.in_ok-add.ensures.added in
    record {
      is_new = λ before is. told ∙ ap not (seen-is true c.args.self.now m before right is);
      holds = λ before is.
          gathering-more c.args.self.now _ m before right is (not-true _ (sym told)) adds
          c.in_ok-add_days.ensures.parts (c.in_ok-add_days.ensures.joined m right of);
    }
