-- What follows of a result, if there is one.
use Rattle.std.proofs.Common.{Result, Ok, Err}
use Rattle.std.specs.Prelude.{IfOk}

-- what follows of any result follows of this one
pub if_ok : {T E : Type 0} (P Q : T → Type 0) (r : Result T E) → ((x : T) → P x → Q x) → IfOk r P → IfOk r Q
if_ok P Q (Ok x) f p = f x p
if_ok P Q (Err e) f p = tt

-- so does what follows of two facts
pub if_both : {T E : Type 0} (P R Q : T → Type 0) (r : Result T E) → ((x : T) → P x → R x → Q x) → IfOk r P
    → IfOk r R → IfOk r Q
if_both P R Q (Ok x) f p h = f x p h
if_both P R Q (Err e) f p h = tt
