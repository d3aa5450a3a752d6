use Rattle.ghcn_series.proofs.Cited.{rules, ℤ, None, ◌≡◌, ◌∙◌, sym, w32, to_z-of_z, block_of, value_on}
use Rattle.ghcn_series.specs.Packed as packed
use Rattle.ghcn_series.proofs.Lookups.{at_day}
use Rattle.ghcn_series.proofs.columns.Columns.value.Goals as goal

-- without its block a day has no value
pub returns-in_err-word : goal.returns-in_err-word
returns-in_err-word c =
    let none : packed.HasNone c.args.self.now (block_of c.args.day) =
    rw (to_z-of_z w32 c.block.result (search rules), c.block.ensures.value) at c.in_err-word.ensures.none in
    c.from_residual.ensures ∙ sym (at_day (λ (d : ℤ). value_on c.args.self.now d ≡ None) c.args.day none)
