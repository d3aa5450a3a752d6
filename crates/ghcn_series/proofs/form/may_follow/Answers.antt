use Rattle.ghcn_series.proofs.Cited.{[], false, get_or, refl, arith, agree_below_at, BYTES, may_follow}
use Rattle.ghcn_series.proofs.form.may_follow.Goals as goal

-- the table has what is said at each byte
pub returns : goal.returns
returns c = agree_below_at (λ b. get_or (get_or BYTES 1 []) b false) (λ b. may_follow b) 256 c.args.byte refl (omega arith)
