-- How many candidates of some morsels score above a number, added up morsel by morsel.
use Rattle.rank_sched.proofs.Cited.{rules, ◌≡◌, ℕ, zero, suc, ◌+◌, ◌≤◌, Bool, cond, List, [], ◌∷◌, ◌++◌, refl, arith, ℤ}
use Rattle.rank_sched.proofs.Cited.{◌≤ℤ◌, common_steps, sum_by, flat_map, range_with_len, sum_by-cons, sum_by-append}
use Rattle.rank_sched.proofs.Cited.{ints, one_if_equal, times, HasEachBelow, sum_below, total-each_below, Candidate}
use Rattle.rank_sched.proofs.Cited.{above, above-append, below_kth, Record, Task, all_of_task, morsels_of, all_records}
use Rattle.rank_sched.proofs.Cited.{known_before, SkipsAreRight, SkipsStayOnwards}

-- ---- sums over the numbers below n

-- how often a number occurs in a list with one more in front
pub times-cons : (x y : ℕ) (ys : List ℕ) → times x (y ∷ ys) ≡ one_if_equal y x + times x ys
times-cons x y ys = sum_by-cons (λ z. one_if_equal z x) y ys

-- the numbers from a on, with one more at the end
pub range-push : (a n : ℕ) → range_with_len a (suc n) ≡ range_with_len a n ++ (a + n) ∷ []
range-push a zero = search rules
range-push a (suc n) = grind (arith, range-push (a + 1) n)

-- a sum over the numbers below n is their total
sum-range : (f : ℕ → ℕ) (n : ℕ) → sum_by f (range_with_len 0 n) ≡ sum_below f n
sum-range f zero = refl
sum-range f (suc n) = grind (arith, sum-range f n, range-push 0 n, sum_by-append f (range_with_len 0 n) (n ∷ []))

-- ---- candidates above a number

-- how many candidates of a morsel score above a number
abbrev pub over : Task → ℤ → ℕ → ℕ
over t b m = above b (t.candidates m)

-- candidates that score above a number are counted morsel by morsel
above-flat : (b : ℤ) (f : ℕ → List Candidate) (ms : List ℕ) → above b (flat_map f ms) ≡ sum_by (λ m. above b (f m)) ms
above-flat b f [] = refl
above-flat b f (m ∷ ms) = simp (above-append, sum_by-cons, above-flat b f ms)

-- of all candidates
all_over : (t : Task) (b : ℤ) → above b (all_of_task t) ≡ sum_below (over t b) t.len
all_over t b = search (rules, above-flat, sum-range)

-- of the morsels of some records
abbrev pub over_records : Task → ℤ → List Record → ℕ
over_records t b rs = sum_by (over t b) (morsels_of rs)

-- a record in front adds the candidates of its morsel
over_records-cons : (t : Task) (b : ℤ) (r : Record) (rs : List Record)
    → over_records t b (r ∷ rs) ≡ over t b r.morsel + over_records t b rs
over_records-cons t b r rs = search (rules, sum_by-cons)

-- records of each morsel once stand for all candidates
pub records_over : (t : Task) (b : ℤ) (rs : List Record) → HasEachBelow t.len (morsels_of rs)
    → over_records t b rs ≡ above b (all_of_task t)
records_over t b rs once = search (rules, total-each_below, all_over)

-- a part of a record's candidates
part_over : (b : ℤ) (xs : List Candidate) (known : Bool) → above b (cond known xs []) ≤ above b xs
part_over b xs known = grind arith

-- what is known is no more than what the records stand for
pub known_over : (t : Task) (b : ℤ) (m : ℕ) (rs : List Record) → above b (known_before t rs m) ≤ over_records t b rs
known_over t b m [] = omega arith
known_over t b m (r ∷ rs) = search (rules, above-append, part_over, over_records-cons, known_over t b m rs)

-- a skip that stays has its bound strictly below the k-th score of all candidates
pub skips_right : SkipsAreRight
skips_right t hs m fair sound h =
    let b : ℤ = t.bound m in
    let rs : List Record = all_records hs in
    let reached : t.k ≤ above b (known_before t rs m) =
    grind (arith, below_kth) in
    (below_kth t.k b (all_of_task t) fair.some).1
    (search (rules, known_over, records_over))

-- ---- later skips

-- more is known before a later morsel
pub known_later : (t : Task) (b : ℤ) (m n : ℕ) (rs : List Record) → m ≤ n
    → above b (known_before t rs m) ≤ above b (known_before t rs n)
known_later t b m n [] le = omega arith
known_later t b m n (r ∷ rs) le = grind (arith, common_steps, known_later t b m n rs le)

-- fewer score above a greater number
pub fewer_above : (b c : ℤ) (xs : List Candidate) → b ≤ℤ c → above c xs ≤ above b xs
fewer_above b c [] le = omega arith
fewer_above b c (x ∷ xs) le = grind (arith, ints, common_steps, fewer_above b c xs le)

-- if a skip stays, every skip of a later number stays
pub skips_onwards : SkipsStayOnwards
skips_onwards t rs m n fair le lt h s =
    let more = known_later t (t.bound m) m n rs le in
    let fewer = fewer_above (t.bound n) (t.bound m) (known_before t rs n) (fair.falling m n le lt) in
    let reached = below_kth t.k (t.bound m) (known_before t rs m) fair.some in
    grind (arith, below_kth t.k (t.bound n) (known_before t rs n) fair.some)
