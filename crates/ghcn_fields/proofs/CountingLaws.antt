-- Laws of counting: what follows if numbers occur once in a list, and in two lists together.
use Rattle.std.proofs.Common.{◌≡◌, ◌≢◌, ℕ, zero, suc, ◌+◌, ◌*◌, ◌<◌, ◌≤◌, ◌==◌, cond, List, [], ◌∷◌, ◌++◌, length, All}
use Rattle.std.proofs.Common.{Contains, count_by, sum_by, refl, sym, ap, subst, ◌∙◌, inl, inr, arith, eq-eqb, ne_eqb}
use Rattle.std.proofs.lemmas.List.Elements.{All-nil, All-cons, All-head, All-tail, Contains-append_right}
use Rattle.std.proofs.lemmas.List.Sums.{sum_by-append, sum_by-cons}
use Rattle.std.proofs.lemmas.Bool.{cases_eq}
use Rattle.ghcn_fields.specs.Counting.{one_if_equal, times, times_below, HasEachBelow, sum_below}

-- ---- equal numbers

-- equal numbers count as one
pub one_if_equal-equal : (a b : ℕ) → a ≡ b → one_if_equal a b ≡ 1
one_if_equal-equal a b e = ap (λ t. cond t 1 0) (eq-eqb a b e)

-- numbers that differ count as none
pub one_if_equal-apart : (a b : ℕ) → a ≢ b → one_if_equal a b ≡ 0
one_if_equal-apart a b n = ap (λ t. cond t 1 0) (ne_eqb a b n)

-- what counts as one is equal
pub equal_if_one : (a b : ℕ) → 0 < one_if_equal a b → a ≡ b
equal_if_one a b one = grind arith

-- ---- numbers below a number

-- one number more is below m = n + 1 than below n, and that is n
pub times_below-suc : (x n m : ℕ) → m ≡ n + 1 → times_below x m ≡ times_below x n + one_if_equal n x
times_below-suc x n m e = grind arith

-- what counts as below n is below n
pub below_if_one : (x n : ℕ) → 0 < times_below x n → x < n
below_if_one x n one = grind arith

-- a number below n occurs there once
pub times_below-yes : (x n : ℕ) → x < n → times_below x n ≡ 1
times_below-yes x n below = grind arith

-- ---- what has a number, counted by it

module _ {A : Type 0} (number : A → ℕ) where
  -- how many of the list have the number n
  abbrev count : ℕ → List A → ℕ
  count n xs = count_by (λ y. number y == n) xs

  -- the count of a list by its first element and the rest
  pub count-cons : (n : ℕ) (x : A) (xs : List A) → count n (x ∷ xs) ≡ one_if_equal (number x) n + count n xs
  count-cons n x xs = sum_by-cons (λ y. one_if_equal (number y) n) x xs

  -- what holds of each that is counted holds of all
  pub all_counted : (P : A → Type 0) (xs : List A) → ((y : A) → 0 < count (number y) xs → P y) → All P xs
  all_counted P [] each = All-nil P
  all_counted P (x ∷ xs) each = All-cons P x xs
      (each x (omega (arith, count-cons (number x) x xs, one_if_equal-equal (number x) (number x) refl)))
      (all_counted P xs (λ y some_here. each y (omega (arith, count-cons (number y) x xs))))

  -- if some are counted, the list has one with that number
  pub some_counted : (n : ℕ) (xs : List A) → 0 < count n xs → (y : A) × Contains xs y × (number y ≡ n)
  some_counted n [] some_here = absurd (omega arith)
  some_counted n (x ∷ xs) some_here = elim (cases_eq (number x) n) [
    | inl e ↦ (x, (0, omega arith, refl), e)
    | inr apart ↦
        let rest = some_counted n xs (omega (arith, count-cons n x xs, one_if_equal-apart (number x) n apart)) in
        (rest.0, Contains-append_right (x ∷ []) xs rest.0 rest.1, rest.2)
  ]

-- the count of a list of numbers by its first and the rest
times-cons : (x y : ℕ) (ys : List ℕ) → times x (y ∷ ys) ≡ one_if_equal y x + times x ys
times-cons x y ys = count-cons (λ z. z) x y ys

-- a number occurs in two lists, one after the other, as often as in both
pub times-append : (x : ℕ) (xs ys : List ℕ) → times x (xs ++ ys) ≡ times x xs + times x ys
times-append x xs ys = sum_by-append (λ y. one_if_equal y x) xs ys

-- a number below n doesn't occur among numbers from n on
pub times-none_below : (n x : ℕ) (xs : List ℕ) → All (λ y. n ≤ y) xs → x < n → times x xs ≡ 0
times-none_below n x [] all below = refl
times-none_below n x (y ∷ ys) all below =
    let here : n ≤ y = All-head (λ z. n ≤ z) y ys all in
    let rest = times-none_below n x ys (All-tail (λ z. n ≤ z) y ys all) below in
    grind (arith, times-cons)

-- ---- sums below a number

-- a sum of sums
sum_below-plus : (f g : ℕ → ℕ) (n : ℕ) → sum_below (λ x. f x + g x) n ≡ sum_below f n + sum_below g n
sum_below-plus f g zero = refl
sum_below-plus f g (suc n) = omega (arith, sum_below-plus f g n)

-- a sum of nothing
sum_below-none : (f : ℕ → ℕ) (n : ℕ) → ((x : ℕ) → x < n → f x ≡ 0) → sum_below f n ≡ 0
sum_below-none f zero each = refl
sum_below-none f (suc n) each =
    omega (arith, sum_below-none f n (λ x below. each x (omega arith)), each n (omega arith))

-- equal terms have equal sums
sum_below-same : (f g : ℕ → ℕ) (n : ℕ) → ((x : ℕ) → x < n → f x ≡ g x) → sum_below f n ≡ sum_below g n
sum_below-same f g zero each = refl
sum_below-same f g (suc n) each =
    omega (arith, sum_below-same f g n (λ x below. each x (omega arith)), each n (omega arith))

-- once a number is that number
once_of : (a m : ℕ) → a ≡ 1 → a * m ≡ m
once_of a m e = grind arith

-- and zero times a number is zero
never_of : (a m : ℕ) → a ≡ 0 → a * m ≡ 0
never_of a m e = ap (λ (x : ℕ). x * m) e ∙ omega arith

-- of the terms below n one alone is left, that of y
sum_below-one : (f : ℕ → ℕ) (y n : ℕ) → y < n → sum_below (λ x. one_if_equal y x * f x) n ≡ f y
sum_below-one f y zero below = absurd (omega arith)
sum_below-one f y (suc n) below = elim (cases_eq y n) [
  | inl e ↦
      let others = sum_below-none (λ x. one_if_equal y x * f x) n
      (λ x less. never_of (one_if_equal y x) (f x) (one_if_equal-apart y x (λ d. absurd (omega (arith, d, e))))) in
      omega (arith, others, once_of (one_if_equal y n) (f n) (one_if_equal-equal y n e), ap f e)
  | inr apart ↦ grind (arith, sum_below-one f y n, never_of, one_if_equal-apart)
]

-- a sum over a list of numbers below n, by how often each occurs there
total-times : (f : ℕ → ℕ) (n : ℕ) (xs : List ℕ) → All (λ x. x < n) xs
    → sum_below (λ x. times x xs * f x) n ≡ sum_by f xs
total-times f n [] all = sum_below-none (λ x. 0 * f x) n (λ x below. omega arith)
total-times f n (y ∷ ys) all =
    let parts : (x : ℕ) → times x (y ∷ ys) * f x ≡ one_if_equal y x * f x + times x ys * f x =
    λ x. ap (λ (k : ℕ). k * f x) (times-cons x y ys) ∙ omega arith in
    omega (
      arith,
      sum_below-same (λ x. times x (y ∷ ys) * f x) (λ x. one_if_equal y x * f x + times x ys * f x) n
          (λ x below. parts x),
      sum_below-plus (λ x. one_if_equal y x * f x) (λ x. times x ys * f x) n,
      sum_below-one f y n (All-head (λ x. x < n) y ys all),
      total-times f n ys (All-tail (λ x. x < n) y ys all),
      sum_by-cons f y ys,
    )

-- n ones added up
sum_below-ones : (n : ℕ) → sum_below (λ _. 1) n ≡ n
sum_below-ones zero = refl
sum_below-ones (suc n) = omega (arith, sum_below-ones n)

-- one for each element
sum_by-ones : (xs : List ℕ) → sum_by (λ _. 1) xs ≡ length xs
sum_by-ones [] = refl
sum_by-ones (x ∷ xs) = omega (arith, sum_by-cons (λ (_ : ℕ). 1) x xs, sum_by-ones xs)

-- ---- a list that has each number below n once, and no other

-- it has only numbers below n
pub all_below : (n : ℕ) (xs : List ℕ) → HasEachBelow n xs → All (λ x. x < n) xs
all_below n xs each = all_counted (λ y. y) (λ x. x < n) xs (λ x some_here. below_if_one x n (omega (arith, each x)))

-- it has each number below n
pub has_each : (n : ℕ) (xs : List ℕ) → HasEachBelow n xs → (x : ℕ) → x < n → Contains xs x
has_each n xs each x below =
    let found = some_counted (λ y. y) x xs (omega (arith, each x, times_below-yes x n below)) in
    subst (Contains xs) found.2 found.1

-- a sum over it is the sum below n
pub total-each_below : (f : ℕ → ℕ) (n : ℕ) (xs : List ℕ) → HasEachBelow n xs → sum_by f xs ≡ sum_below f n
total-each_below f n xs each =
    sym (total-times f n xs (all_below n xs each)) ∙ sum_below-same (λ x. times x xs * f x) f n
    (λ x below. once_of (times x xs) (f x) (each x ∙ times_below-yes x n below))

-- it is n long
pub length-each_below : (n : ℕ) (xs : List ℕ) → HasEachBelow n xs → length xs ≡ n
length-each_below n xs each = sym (sum_by-ones xs) ∙ total-each_below (λ _. 1) n xs each ∙ sum_below-ones n
