use Rattle.ghcn_series.proofs.Cited.{◌+◌, ◌-◌, List, ℕ, ℤ, pos, drop, ◌∙◌, get_or-drop}
use Rattle.ghcn_series.proofs.RowParts.{placed-row}
use Rattle.ghcn_series.proofs.parts.put_row.Goals as goal

-- the row is between zeros
pub returns : goal.returns
returns c = λ at lt.
    let place : ℕ = c.args.place in let zeros : List ℤ = c.args.both.now in
    let none = c.requires.zeros in
    placed-row c.args.values.now zeros _ _ place c.requires.place c.told-values c.told-both
    c.copy_from_slice.ensures.after none
    (λ (j : ℕ). get_or-drop (place + 32 - place) (drop place zeros) j (pos 0)
    ∙ get_or-drop place zeros (place + 32 - place + j) (pos 0) ∙ none (place + (place + 32 - place + j))) at
