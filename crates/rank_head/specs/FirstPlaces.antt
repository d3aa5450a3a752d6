-- The first of some that fails a test, by its place.
use Rattle.std.specs.Prelude.{◌≡◌, ℕ, ◌+◌, Bool, List, Option}
use Rattle.std.specs.Option.{option_map}
use Rattle.ghcn_fields.specs.Faults.{first_failing}
use Rattle.rank_head.specs.declared.fault.HeadFault.{HeadFault}
use Rattle.rank_head.specs.HeadTests.{on_lines}

-- the place of the first of these that fails a test, from 0: whatever the reason, and on whatever line they begin, the
-- line that many after it is refused
abbrev pub IsFirstPlace : {A : Type 0} → (A → Bool) → List A → Option ℕ → Type 0
IsFirstPlace passes xs place = (why : ℕ → HeadFault) (line : ℕ)
    → first_failing (on_lines passes why line xs) ≡ option_map (λ i. why (line + i)) place
