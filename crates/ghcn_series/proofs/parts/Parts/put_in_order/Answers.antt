use Rattle.ghcn_series.proofs.Cited.{List, refl, ◌∙◌, DayValue, days_held}
use Rattle.ghcn_series.proofs.ApartParts.{apart-distinct}
use Rattle.ghcn_series.proofs.PartsInOrder.{ordered-rise}
use Rattle.ghcn_series.proofs.SortedDays.{sorted-are}
use Rattle.ghcn_series.proofs.parts.Parts.put_in_order.Goals as goal

-- parts in order are in their order
pub returns-then-self : goal.returns-then-self
returns-then-self c =
    let held : List DayValue = days_held c.args.self in
    c.into_columns.ensures ∙ sorted-are held held (apart-distinct _ c.requires.apart)
    (ordered-rise c.args.self (record { parts = c.requires; in_order = c.if-self.true })) (λ d. refl)

-- other parts are once they are added in that order
pub returns : goal.returns
returns c =
    let ordered = c.in_ok-ordered.ordered in
    c.into_columns-2.ensures ∙ sorted-are (days_held c.args.self) (days_held ordered)
    (apart-distinct _ c.requires.apart) (ordered-rise ordered c.in_ok-ordered.ensures.order)
    c.in_ok-ordered.ensures.days
