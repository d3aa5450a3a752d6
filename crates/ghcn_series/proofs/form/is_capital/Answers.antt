use Rattle.ghcn_series.proofs.Cited.{[], false, get_or, refl, arith, is_ascii_uppercase, agree_below_at, BYTES}
use Rattle.ghcn_series.proofs.form.is_capital.Goals as goal

-- the table has what is said at each byte
pub returns : goal.returns
returns c = agree_below_at (λ b. get_or (get_or BYTES 0 []) b false) (λ b. is_ascii_uppercase b) 256 c.args.byte refl (omega arith)
