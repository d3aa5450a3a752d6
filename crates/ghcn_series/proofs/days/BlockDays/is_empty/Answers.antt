use Rattle.ghcn_series.proofs.Cited.{rules, arith, ◌≡◌, ◌∙◌, ◌<◌, ◌^◌, sym, nat_tests}
use Rattle.ghcn_series.proofs.FirstDays.{block-empty}
use Rattle.ghcn_series.proofs.PartDays.{no-day}
use Rattle.ghcn_series.proofs.days.BlockDays.is_empty.Goals as goal

-- there is a day for each bit
pub returns : goal.returns
returns c =
    let n = c.self.inside.number in let w = c.self.inside.left in
    let vs = c.self.inside.values.now in let fits : w < 2 ^ 32 = search rules in (
      λ zero. sym c.self.view_is ∙ block-empty n vs w (grind (arith, nat_tests, zero)),
      λ none. let zero : w ≡ 0 = no-day n vs w fits (c.self.view_is ∙ none) in grind (arith, nat_tests, zero),
    )
