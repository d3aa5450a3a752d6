use Rattle.rank_blocks.proofs.Cited.{ℕ, sym, ap, ◌∙◌, ◌==◌, bit_at_ones}
use Rattle.rank_blocks.proofs.values.all_or_none.Goals as goal

-- each bit is set
pub returns-then-all : goal.returns-then-all
returns-then-all c = λ j lt. ap (λ (v : ℕ). v == 1) (bit_at_ones 32 j lt) ∙ sym c.if-all.true
