-- A number of workers that may run is from 1 to 64.
use Rattle.std.proofs.Common.{◌≡◌, ℕ, ◌<◌, ◌≤◌, true, arith}
use Rattle.std.proofs.lemmas.Bool.Decides.{nat_tests}
use Rattle.rank_input.specs.Input.{is_crew}

-- there is a worker
pub some_workers : (workers : ℕ) → is_crew workers ≡ true → 0 < workers
some_workers workers e = grind (arith, nat_tests)

-- there are at most 64
pub few_workers : (workers : ℕ) → is_crew workers ≡ true → workers ≤ 64
few_workers workers e = grind (arith, nat_tests)
