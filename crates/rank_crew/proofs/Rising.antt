-- Numbers that rise, below n, are at most n.
use Rattle.std.proofs.Common.{ℕ, ◌+◌, ◌<◌, ◌≤◌, List, [], ◌∷◌, length, arith}
use Rattle.std.specs.List.{AllByRecursion}
use Rattle.rank_sched.specs.SoundRun.{NumbersRise}
use Rattle.rank_sched.proofs.Lists.{each-weaker}

-- numbers that rise from m on, below n, are at most n less m
rise_from : (m n : ℕ) (xs : List ℕ) → m ≤ n → AllByRecursion (λ x. m ≤ x) xs → NumbersRise xs
    → AllByRecursion (λ x. x < n) xs
    → m + length xs ≤ n
rise_from m n [] le low up high = omega arith
rise_from m n (x ∷ xs) le low up high =
    let a : m ≤ x = low.0 in
    let b : x < n = high.0 in
    omega (
      arith,
      rise_from (x + 1) n xs (omega arith)
          (each-weaker (λ y. x < y) (λ y. x + 1 ≤ y) xs (λ y h. omega arith) up.0) up.1 high.1,
    )

-- numbers that rise below n are at most n
pub rise_few : (n : ℕ) (xs : List ℕ) → NumbersRise xs → AllByRecursion (λ x. x < n) xs → length xs ≤ n
rise_few n xs up high = omega (
  arith,
  rise_from 0 n xs (omega arith)
      (each-weaker (λ y. y < n) (λ y. 0 ≤ y) xs (λ y h. omega arith) high) up high,
)
