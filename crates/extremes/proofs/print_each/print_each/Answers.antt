use Rattle.std.proofs.Common.{sym, subst}
use Rattle.extremes.proofs.EachPrinting.{reports-after}
use Rattle.extremes.proofs.print_each.print_each.Goals as goal

-- the warnings come before the reports
pub returns : goal.returns
returns g c =
    reports-after g.M.Messages.prints _ _ _ _ _ _ _ _ c.print_warnings.ensures c.print_unlisted.ensures _
    c.args.ranked.reports c.in-Ok.reports c.deref-2.result.now _ c.in-Ok.is c.deref-2.ensures.value c.print_text-ending.ensures
