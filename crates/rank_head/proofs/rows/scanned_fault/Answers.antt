use Rattle.std.proofs.Common.{◌≡◌, ℕ, ◌+◌, Some, sym, ap, ◌∙◌, arith}
use Rattle.rank_head.specs.declared.fault.HeadFault.TheVariants.{NotScanned}
use Rattle.rank_head.proofs.rows.scanned_fault.Goals as goal

-- none fails
pub returns-in_err-place-clause-fault : goal.returns-in_err-place-clause-fault
returns-in_err-place-clause-fault c = c.from_residual.ensures ∙ sym (c.in_err-place.ensures.place NotScanned 3)

-- the first that fails
pub returns-clause-fault : goal.returns-clause-fault
returns-clause-fault c =
    let turned : c.in_ok-place.place + 3 ≡ 3 + c.in_ok-place.place = omega arith in
    ap (λ (n : ℕ). Some (NotScanned n)) turned ∙ sym (c.in_ok-place.ensures.place NotScanned 3)
