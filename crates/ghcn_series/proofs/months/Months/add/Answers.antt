use Rattle.std.proofs.Common.{◌≡◌, ℕ, not, List, sym, ap, subst, ◌∙◌}
use Rattle.ghcn_series.specs.SeenMonths.{has_month, seen_months, RiseUnless}
use Rattle.ghcn_series.proofs.RisingMonths.{fresh-after}
use Rattle.ghcn_series.proofs.months.Months.add.Goals as goal

-- a month after rising ones is new
pub returns-in_ok-push-in-None-clause-is_new : goal.returns-in_ok-push-in-None-clause-is_new
returns-in_ok-push-in-None-clause-is_new c =
    let months : List ℕ = c.self.inside.rising.items in
    let rise = subst (RiseUnless months) c.in-None.is c.self.invariant in
    let now : months ≡ c.args.self.now = sym (ap (seen_months months) c.in-None.is) ∙ c.self.view_is in
    let after = rw c.deref.ensures.value at (sym c.is_after.ensures ∙ c.if-is_after.true) in
    ap not (sym (fresh-after months rise c.args.month after) ∙ ap (λ (l : List ℕ). has_month l c.args.month) now)
