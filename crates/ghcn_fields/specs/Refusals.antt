-- Refusals: out of memory, or the error of what was read.
use Rattle.std.specs.Prelude.{◌≡◌, Bool, Result, Err}
use Rattle.std.specs.Bool.{OnFalse}

-- out of memory, or an error of which something is true
abbrev pub OrMemory : {F : Type 0} → (F → Bool) → (F → Type 0) → F → Type 0
OrMemory is_memory P fault = OnFalse (is_memory fault) (P fault)

-- out of memory, or the very error that was read
abbrev pub IsRefusal : {A F : Type 0} → (F → Bool) → F → Result A F → Type 0
IsRefusal is_memory fault read = OrMemory is_memory (λ f. read ≡ Err f) fault
