-- Errors that are handed on.
use Rattle.std.proofs.Common.{◌≡◌, Result, Ok, Err}
use Rattle.std.specs.Result.{IsErrAnd}

-- a result whose error is that of another call
pub err_given : {T E : Type 0} (r : Result T E) (e : E) → IsErrAnd r (λ v. v ≡ e) → r ≡ Err e
err_given (Ok x) e h = absurd h
err_given (Err v) e h = cc
