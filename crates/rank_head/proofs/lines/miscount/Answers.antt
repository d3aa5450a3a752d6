use Rattle.std.proofs.Common.{◌≡◌, ℕ, ◌+◌, Some, sym, ap, ◌∙◌, arith}
use Rattle.rank_head.specs.declared.fault.HeadFault.TheVariants.{NotCounted}
use Rattle.rank_head.proofs.lines.miscount.Goals as goal

-- none fails
pub returns-in_err-place : goal.returns-in_err-place
returns-in_err-place c = c.from_residual.ensures ∙ sym (c.in_err-place.ensures.place NotCounted 4)

-- the first that fails
pub returns : goal.returns
returns c =
    let turned : c.in_ok-place.place + 4 ≡ 4 + c.in_ok-place.place = omega arith in
    ap (λ (n : ℕ). Some (NotCounted n)) turned ∙ sym (c.in_ok-place.ensures.place NotCounted 4)
