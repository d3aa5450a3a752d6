-- How often numbers occur in lists.
use Rattle.std.specs.Prelude.{◌≡◌, ℕ, zero, suc, ◌+◌, ◌==◌, if◌then◌else◌, nat_lt, List, count_by}

-- 1 if the two numbers are equal, 0 otherwise
abbrev pub one_if_equal : ℕ → ℕ → ℕ
one_if_equal a b = if a == b then 1 else 0

-- how often x occurs in the list
abbrev pub times : ℕ → List ℕ → ℕ
times x xs = count_by (λ y. y == x) xs

-- how often x occurs among the numbers below n: once if it is one of them
abbrev pub times_below : ℕ → ℕ → ℕ
times_below x n = if nat_lt x n then 1 else 0

-- the list has every number below n, each once, and no other
abbrev pub HasEachBelow : ℕ → List ℕ → Type 0
HasEachBelow n xs = (x : ℕ) → times x xs ≡ times_below x n

-- f of each number below n, added up
abbrev pub sum_below : (ℕ → ℕ) → ℕ → ℕ
sum_below f zero = 0
sum_below f (suc n) = sum_below f n + f n
