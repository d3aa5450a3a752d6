-- The longest run of days, block by block.
use Rattle.rank_blocks.proofs.Cited.{◌≡◌, ℕ, zero, suc, ◌+◌, ◌-◌, ◌<◌, ◌≤◌, Bool, true, false, max, ◌⊎◌, inl, inr, sym}
use Rattle.rank_blocks.proofs.Cited.{ap, ◌∙◌, arith, ℤ, pos, ◌≤ℤ◌, ◌<ℤ◌, ◌+ℤ◌, ◌-ℤ◌, ints, max-eq_left, max-eq_right}
use Rattle.rank_blocks.proofs.Cited.{Runs, block_start, has_bit, ComeFirst, ComeLast, IsLongest, AllFrom, AreRuns, subst}
use Rattle.rank_blocks.proofs.Cited.{runs_before, NoneBetween, AreBitsOf, both_ways, by_lt_z, refl, cases_lt}
use Rattle.rank_blocks.proofs.DaysInBlocks.{distance}

-- of two numbers that something is true of, it is true of the greater
pub max-one : (P : ℕ → Type 0) (m n : ℕ) → P m → P n → P (max m n)
max-one P m n hm hn = grind (arith, ints, max-eq_right, max-eq_left)

module _ (such : ℤ → Bool) where
  -- a run that ends before a block, after days of which none is of the kind, is among those that are noted
  earlier : (r : Runs) (next : ℤ) → AreRuns such r → NoneBetween such r.next next → (len : ℕ) (first : ℤ)
      → (first +ℤ pos len) ≤ℤ block_start next → AllFrom such first len → len ≤ r.longest
  earlier r next are none zero first within pass = omega arith
  earlier r next are none (suc n) first within pass =
      grind (arith, ints, pass n, none (first +ℤ pos n), are.nowhere_more first (suc n))

  -- if no day before a block is of the kind
  pub runs-none : (b : ℤ) → ((d : ℤ) → d <ℤ block_start b → such d ≡ false) → AreRuns such (runs_before b)
  runs-none b none =
      let somewhere : (first : ℤ) × AllFrom such first 0 = (pos 0, λ i lt. absurd (omega arith)) in
      grind (arith, ints, none (block_start b -ℤ pos 1), somewhere, most)
    where
      -- no run ends before the block
      most : (first : ℤ) (len : ℕ) → (first +ℤ pos len) ≤ℤ block_start b → AllFrom such first len → len ≤ 0
      most first zero within pass = omega arith
      most first (suc n) within pass = grind (arith, ints, none (first +ℤ pos n), pass n)

  -- up to a later block, if no day between is of the kind: no run is open
  pub runs-later : (r : Runs) (n : ℤ) → AreRuns such r → r.next <ℤ n → NoneBetween such r.next n
      → AreRuns such (record { next = n; last = 0; longest = r.longest })
  runs-later r n are later none = grind (arith, ints, earlier r n are none, none (block_start n -ℤ pos 1), are)

  -- a day that isn't of the kind lies before a run or after it
  outside : (first d : ℤ) (len : ℕ) → AllFrom such first len → such d ≡ false → (d <ℤ first) ⊎ ((first +ℤ pos len) ≤ℤ d)
  outside first d len pass fails = by_lt_z d first (λ lt. inl lt) (λ le. by_lt_z d (first +ℤ pos len) (λ lt.
      let far = distance first d le in
      let at = far.1 in
      absurd (both_ways _ fails (ap such at ∙ pass far.0 (omega (arith, ints))))) (λ behind. inr behind))

  module _ (r : Runs) (are : AreRuns such r) (word f l m : ℕ) (bits : AreBitsOf such r.next word)
      (firsts : ComeFirst (has_bit word) 32 f) (lasts : ComeLast (has_bit word) 32 l)
      (most : IsLongest (has_bit word) 32 (max r.longest (r.last + f)) m) where
    -- a day of the block is of the kind as its bit says
    of_bit : (j : ℕ) (d : ℤ) (v : Bool) → j < 32 → d ≡ block_start r.next +ℤ pos j → has_bit word j ≡ v → such d ≡ v
    of_bit j d v lt is bit = ap such is ∙ sym (bits j lt) ∙ bit

    -- the open run goes on with the days that come first
    over_border : AllFrom such are.from (r.last + f)
    over_border i lt =
        let here = of_bit (i - r.last) (are.from +ℤ pos i) true in
        grind (arith, ints, here, firsts.pass (i - r.last), are.last i)

    -- a run over the border begins no earlier than the open run, and ends no later than the days that come first
    over-most : (first : ℤ) (len : ℕ) → first <ℤ block_start r.next → block_start r.next <ℤ (first +ℤ pos len)
        → (first +ℤ pos len) ≤ℤ (block_start r.next +ℤ pos 32) → AllFrom such first len → len ≤ r.last + f
    over-most first len low high within pass =
        let begins = outside first (are.from -ℤ pos 1) len pass are.begins in
        let ends = λ (lt : f < 32). outside first (block_start r.next +ℤ pos f) len pass
        (of_bit f _ false lt refl (firsts.ends lt)) in
        grind (arith, ints, begins, ends)

    -- no run that ends in the block or before it is longer than those that are noted
    most-so_far : (first : ℤ) (len : ℕ) → (first +ℤ pos len) ≤ℤ (block_start r.next +ℤ pos 32)
        → AllFrom such first len → len ≤ m
    most-so_far first len within pass =
        by_lt_z (block_start r.next) (first +ℤ pos len) (λ over. by_lt_z first (block_start r.next)
        (λ cross. let least = over-most first len cross over within pass in omega (arith, most.no_less)) (λ behind.
        let far = distance (block_start r.next) first behind in
        let here = most.nowhere_more far.0 len (omega (arith, ints)) (λ k low high.
        grind (arith, ints, bits k, pass (k - far.0))) in
        here)) (λ before. let old = are.nowhere_more first len before pass in omega (arith, most.no_less))

    -- the longest run that is noted is somewhere
    somewhere-so_far : (first : ℤ) × AllFrom such first m
    somewhere-so_far =
        let P : ℕ → Type 0 = λ n. (first : ℤ) × AllFrom such first n in
        elim most.somewhere [
          | inl is ↦ subst P (sym is) (max-one P _ _ are.somewhere (are.from, over_border))
          | inr place ↦ (
            block_start r.next +ℤ pos place.0,
            λ i lt. grind (arith, ints, bits (place.0 + i), place.1, place.2 (place.0 + i)),
          )
        ]

    -- if not all days come first, not all come last
    few-last : f < 32 → l < 32
    few-last lt = grind (arith, ints, firsts.ends lt, λ (at : 0 + l ≡ 32). lasts.pass 0 at f)

    -- what was noted goes on with the block
    pub runs-more : (new : Runs) → new.next ≡ r.next +ℤ pos 1 → (f ≡ 32 → new.last ≡ r.last + f)
        → (f < 32 → new.last ≡ l) → new.longest ≡ m → AreRuns such new
    runs-more new next full part longest =
        let place = somewhere-so_far in
        let tail : (from : ℤ) × (from +ℤ pos new.last ≡ block_start new.next) × AllFrom such from new.last
        × (such (from -ℤ pos 1) ≡ false) =
        elim (cases_lt f 32) [
          | inr all ↦ (are.from, omega (arith, ints), (λ i lt. over_border i (omega arith)), are.begins)
          | inl lt ↦
              let few = few-last lt in (
                block_start r.next +ℤ pos (32 - l),
                omega (arith, ints),
                λ i below. grind (arith, ints, of_bit (32 - l + i), lasts.pass (32 - l) (omega arith) (32 - l + i)),
                of_bit (31 - l) _ false (omega arith) (omega (arith, ints)) (lasts.begins (31 - l) (omega arith)),
              )
        ] in
        record {
          from = tail.0;
          ends = tail.1;
          last = tail.2;
          begins = tail.3;
          somewhere = (place.0, λ i lt. place.1 i (omega arith));
          nowhere_more = λ first len within pass.
              let le = most-so_far first len (omega (arith, ints)) pass in omega arith;
        }
