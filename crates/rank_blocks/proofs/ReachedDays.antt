-- The days of the blocks of a range.
use Rattle.rank_blocks.proofs.Cited.{◌≡◌, Bool, true, false, cond, List, [], ◌∷◌, map, filter, Option, Some, None, sym}
use Rattle.rank_blocks.proofs.Cited.{ap, ◌∙◌, subst, arith, ℤ, Contains, int_eq, AllByRecursion, option_map_or}
use Rattle.rank_blocks.proofs.Cited.{Decides-int_eq, ints, block_of, DayValue, Series, value_on, Query, admits_day}
use Rattle.rank_blocks.proofs.Cited.{is_such, Summary, is_reached, IsGreatest, IsDayScore, AreOfBlocks, HasDay}
use Rattle.rank_blocks.proofs.Members.{itself, of_each, of_kept, pick, in_kept, from_kept}
use Rattle.rank_blocks.proofs.DaysInBlocks.{block-rises}

module _ (p : ℤ → Bool) (d : ℤ) where
  -- the pairs whose day passes
  abbrev kept : List DayValue → List DayValue
  kept xs = filter (λ x. p x.0) xs

  -- of the days that pass a test, a day has the value that it had
  pub value_on-filter : (days : List DayValue) → value_on (kept days) d ≡ cond (p d) (value_on days d) None
  value_on-filter [] = grind (arith, ints)
  value_on-filter (x ∷ xs) = grind (arith, ints, Decides-int_eq x.0 d, value_on-filter xs)

-- a day that has a value is one of the days, and all that is true of each of them is true of it
pub value_on-among : (Q : ℤ → ℤ → Type 0) (days : List DayValue) (d v : ℤ) → AllByRecursion (λ x. Q x.0 x.1) days
    → value_on days d ≡ Some v → Q d v
value_on-among Q [] d v all e = absurd cc
value_on-among Q (x ∷ xs) d v all e = grind (arith, ints, value_on-among Q xs d v all.1)

-- a day that has a value is one of the days, with that value
pub value_on-in : (days : List DayValue) (d v : ℤ) → value_on days d ≡ Some v → Contains days (d, v)
value_on-in days d v e = value_on-among (λ n w. Contains days (n, w)) days d v (itself days) e

-- a day that passes has a value, which passes
pub such-has : (test : ℤ → Bool) (o : Option ℤ) → option_map_or test o false ≡ true → (v : ℤ) × (o ≡ Some v)
    × (test v ≡ true)
such-has test k e = grind (arith, ints)

-- such a day is one of the days, with a value that passes
pub such-in : (test : ℤ → Bool) (days : List DayValue) (d : ℤ) → is_such test days d ≡ true
    → (v : ℤ) × Contains days (d, v) × (test v ≡ true)
such-in test days d e =
    let has = such-has test (value_on days d) e in (has.0, value_on-in days d has.0 has.1, has.2)

-- of days that pass a test that d passes too, d is such a day or isn't, as before
pub such-filter : (test : ℤ → Bool) (p : ℤ → Bool) (days : List DayValue) (d : ℤ) → p d ≡ true
    → is_such test (filter (λ x. p x.0) days) d ≡ is_such test days d
such-filter test p days d passes = grind (arith, ints, value_on-filter)

-- such a day among those that pass a test passes it, and is such a day among all
pub such-kept : (test : ℤ → Bool) (p : ℤ → Bool) (days : List DayValue) (d : ℤ)
    → is_such test (filter (λ x. p x.0) days) d ≡ true → (p d ≡ true) × (is_such test days d ≡ true)
such-kept test p days d e =
    let day = such-in test (filter (λ x. p x.0) days) d e in
    grind (arith, ints, of_kept (λ x. p x.0) days (d, day.0) day.1, such-filter test p days d)

-- such a day among those that pass one test is such a day among those that pass a wider one
pub such-wider : (test : ℤ → Bool) (p q : ℤ → Bool) (days : List DayValue) (d : ℤ) → ((n : ℤ) → p n ≡ true → q n ≡ true)
    → is_such test (filter (λ x. p x.0) days) d ≡ true → is_such test (filter (λ x. q x.0) days) d ≡ true
such-wider test p q days d wider e = grind (arith, ints, such-kept, such-filter)

-- an admitted day lies in a block of the period
pub admitted-reached : (q : Query) (d : ℤ) → admits_day q d ≡ true → is_reached q.period (block_of d) ≡ true
admitted-reached q d e = grind (arith, ints, block-rises)

-- ---- the greatest score of a day, from the summaries

-- the block of a day has a summary
pub summary-of : (P : Summary → Type 0) (s : Series) (ms : List Summary) → AreOfBlocks P s ms → (x : DayValue)
    → Contains s.days x → (m : Summary) × Contains ms m × (m.number ≡ block_of x.0)
summary-of P s ms are x has =
    pick (λ m. m.number) (Contains ms) ms (block_of x.0) (itself ms)
    (of_each (λ x. Contains (map (λ m. m.number) ms) (block_of x.0)) s.days are.all x has)

-- the greatest score of the summaries of the blocks that pass is the greatest of their days
pub greatest-of_blocks : (f : ℤ → ℤ) (P : ℤ → Bool) (s : Series) (ms : List Summary) (z : ℤ)
    → AreOfBlocks (HasDay f s.days) s ms → IsGreatest (Contains (map (λ m. m.day) (filter (λ m. P m.number) ms))) z
    → IsGreatest (IsDayScore f (filter (λ x. P (block_of x.0)) s.days)) z
greatest-of_blocks f P s ms z are of_z =
    let block = from_kept (λ m. m.day) (λ m. P m.number) ms z of_z.is_one in
    let day = from_kept (λ x. f x.1) (λ x. int_eq (block_of x.0) block.0.number) s.days block.0.day
    (of_each (HasDay f s.days) ms are.each block.0 block.1.0).is_one in
    let passes = ap P ((Decides-int_eq (block_of day.0.0) block.0.number).0 day.1.1) ∙ block.1.1 in
    record {
      is_one = subst (IsDayScore f (filter (λ x. P (block_of x.0)) s.days)) (day.2 ∙ block.2)
          (in_kept (λ x. f x.1) (λ x. P (block_of x.0)) s.days day.0 day.1.0 passes);
      is_most = λ y h.
          let x = from_kept (λ x. f x.1) (λ x. P (block_of x.0)) s.days y h in
          let m = summary-of (HasDay f s.days) s ms are x.0 x.1.0 in
          let own = (of_each (HasDay f s.days) ms are.each m.0 m.1).is_most (f x.0.1)
          (in_kept (λ x. f x.1) (λ x. int_eq (block_of x.0) m.0.number) s.days x.0 x.1.0
          ((Decides-int_eq (block_of x.0.0) m.0.number).1 (sym m.2))) in
          let most = of_z.is_most m.0.day (in_kept (λ m. m.day) (λ m. P m.number) ms m.0 m.1 (ap P m.2 ∙ x.1.1)) in
          omega (arith, ints);
    }
