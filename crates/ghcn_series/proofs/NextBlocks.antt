-- The next block of rising days is the least one from there on that has one of them.
use Rattle.ghcn_series.proofs.Cited.{◌≡◌, inl, inr, true, false, List, [], ◌∷◌, Option, None, Some, refl, arith, sym}
use Rattle.ghcn_series.proofs.Cited.{subst, ℤ, ◌<ℤ◌, ◌≤ℤ◌, int_le, int_lt, and_parts, cases_Bool, ints, block_of}
use Rattle.ghcn_series.proofs.Cited.{AreRising, IsNextBlock, next_block, DayValue, is_by_day}
use Rattle.ghcn_series.specs.Packed.{IsLeastBlock}
use Rattle.ghcn_series.proofs.ListFacts.{each-weaker}
use Rattle.ghcn_series.proofs.Lookups.{block-holds}
use Rattle.ghcn_series.proofs.Members.{contains-in, in-contains}

-- a later day is in no earlier block
block_rises : (a b : ℤ) → a ≤ℤ b → block_of a ≤ℤ block_of b
block_rises a b le = grind (arith, ints, block-holds)

-- days of which each is later than the one before it rise
rising : (days : List DayValue) → is_by_day days ≡ true → AreRising days
rising [] e = tt
rising (x ∷ []) e = (tt, tt)
rising (x ∷ y ∷ ys) e =
    let both = and_parts (int_lt x.0 y.0) (is_by_day (y ∷ ys)) e in
    let later : x.0 <ℤ y.0 = grind (arith, ints, both.0) in
    let rest = rising (y ∷ ys) both.1 in
    ((later, each-weaker (λ z. y.0 <ℤ z.0) (λ z. x.0 <ℤ z.0) ys (λ z lt. omega (arith, ints, later, lt)) rest.0), rest)

module _ (b : ℤ) where
  -- the block of the first of some days that isn't in a block before
  at_first : (x : DayValue) (xs : List DayValue) → AreRising (x ∷ xs) → int_le b (block_of x.0) ≡ true
      → IsLeastBlock (x ∷ xs) b (block_of x.0)
  at_first x xs rise le = record {
    from_there = grind (arith, ints);
    has = (x, in-contains (x ∷ xs) x (inl refl), refl);
    least = (
      λ ge. omega (arith, ints),
      each-weaker (λ y. x.0 <ℤ y.0) (λ y. b ≤ℤ block_of y.0 → block_of x.0 ≤ℤ block_of y.0) xs
          (λ y lt ge. block_rises x.0 y.0 (omega (arith, ints, lt))) rise.0,
    );
  }

  -- it is that of days after one in a block before
  behind : (x : DayValue) (xs : List DayValue) (o : Option ℤ) → int_le b (block_of x.0) ≡ false → IsNextBlock xs b o
      → IsNextBlock (x ∷ xs) b o
  behind x xs None gt next = (grind (arith, ints), next)
  behind x xs (Some k) gt next =
      let low : block_of x.0 <ℤ b = grind (arith, ints) in
      record {
        from_there = next.from_there;
        has = (next.has.0, in-contains (x ∷ xs) next.has.0 (inr (contains-in xs next.has.0 next.has.1)), next.has.2);
        least = (λ ge. absurd (omega (arith, ints, low, ge)), next.least);
      }

  -- the next block is the least, and there is none if all days are in blocks before
  next-least : (days : List DayValue) (o : Option ℤ) → AreRising days → next_block days b ≡ o → IsNextBlock days b o
  next-least [] None rise is = tt
  next-least [] (Some k) rise is = absurd cc
  next-least (x ∷ xs) o rise is = elim (cases_Bool (int_le b (block_of x.0))) [
    | inl le ↦ subst (IsNextBlock (x ∷ xs) b) (rw le at is) (at_first x xs rise le)
    | inr gt ↦ behind x xs o gt (next-least xs o rise.1 (rw gt at is))
  ]

-- so it is with the days of a series
pub next-is : (days : List DayValue) (b : ℤ) (o : Option ℤ) → is_by_day days ≡ true → o ≡ next_block days b
    → IsNextBlock days b o
next-is days b o by_day is = next-least b days o (rising days by_day) (sym is)
