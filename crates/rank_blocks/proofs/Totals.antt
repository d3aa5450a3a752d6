-- Totals of days, block by block.
use Rattle.rank_blocks.proofs.Cited.{rules, ◌≡◌, ℕ, Bool, false, cond, List, [], ◌∷◌, map, filter, inl, inr, refl, sym}
use Rattle.rank_blocks.proofs.Cited.{ap, arith, ℤ, pos, ◌+ℤ◌, Contains, int_cmp, int_eq, Less, AllByRecursion}
use Rattle.rank_blocks.proofs.Cited.{IsStrictlySortedBy, ints, block_of, DayValue, Series, Summary, days_in, total}
use Rattle.rank_blocks.proofs.Cited.{blocks_total, is_among_blocks, summaries_total, AreOfBlocks, HasSum, from_each, int_eq-no}
use Rattle.rank_blocks.proofs.Members.{of_each, contains-cases, total-cons}
use Rattle.rank_blocks.proofs.PossibleBlocks.{int_cmp-less}
use Rattle.std.proofs.Math.Path.{fun_ext}

-- the total of zeros is zero
total-zeros : (ns : List ℤ) → total (map (λ n. pos 0) ns) ≡ pos 0
total-zeros [] = refl
total-zeros (n ∷ ns) = omega (arith, ints, total-zeros ns)

module _ (P : ℤ → Bool) (b v : ℤ) (g : ℤ → ℤ) where
  -- what each block has, once v was added to that of block b
  abbrev more : ℤ → ℤ
  more n = cond (int_eq b n) (v +ℤ g n) (g n)

  -- the total over the blocks that pass
  abbrev over : (ℤ → ℤ) → List ℤ → ℤ
  over h ns = total (map h (filter P ns))

  -- if block b isn't among them, nothing was added
  over-absent : (ns : List ℤ) → AllByRecursion (λ n. int_eq b n ≡ false) ns → over more ns ≡ over g ns
  over-absent [] h = refl
  over-absent (n ∷ ns) h = grind (arith, ints, over-absent ns h.1)

  -- two numbers are added together or each by itself
  added : (t : Bool) (y z : ℤ) → cond t (y +ℤ z) (pos 0) ≡ cond t y (pos 0) +ℤ cond t z (pos 0)
  added x y z = grind (arith, ints)

  -- if it is among them, v was added if it passes
  over-added : (ns : List ℤ) → IsStrictlySortedBy int_cmp ns → Contains ns b
      → over more ns ≡ cond (P b) v (pos 0) +ℤ over g ns
  unfolding IsStrictlySortedBy
  over-added [] sorted h = absurd (let lt = h.1 in omega arith)
  over-added (n ∷ ns) sorted h =
      elim (contains-cases n b ns h) [
        | inl is ↦ search (rules, arith, ints, over-absent, from_each, int_eq-no, int_cmp-less, added, total-cons)
        | inr there ↦
            let lt = int_cmp-less n b (of_each (λ y. int_cmp n y ≡ Less) ns sorted.0 b there) in
            let other = int_eq-no b n (λ e. omega (arith, ints, e)) in
            let part = ap (λ (t : Bool). cond (P n) (cond t (v +ℤ g n) (g n)) (pos 0)) other in
            omega (arith, ints, total-cons more P n ns, total-cons g P n ns, over-added ns sorted.1 there)
      ]

-- the total of a block's days, with one more day in front
total-front : (x : DayValue) (xs : List DayValue) (n : ℤ) → total (map (λ y. y.1) (days_in (x ∷ xs) n)) ≡ cond
    (int_eq (block_of x.0) n) (x.1 +ℤ total (map (λ y. y.1) (days_in xs n))) (total (map (λ y. y.1) (days_in xs n)))
total-front x xs n = grind (arith, ints)

-- the total of the days in blocks that pass is found block by block
total-by_blocks : (P : ℤ → Bool) (ns : List ℤ) (days : List DayValue) → IsStrictlySortedBy int_cmp ns
    → AllByRecursion (λ x. Contains ns (block_of x.0)) days
    → total (map (λ y. y.1) (filter (λ x. P (block_of x.0)) days)) ≡ total
    (map (λ n. total (map (λ y. y.1) (days_in days n))) (filter P ns))
total-by_blocks P ns [] sorted h = sym (total-zeros (filter P ns))
total-by_blocks P ns (x ∷ xs) sorted h =
    let g : ℤ → ℤ = λ n. total (map (λ y. y.1) (days_in xs n)) in
    let rest = total-by_blocks P ns xs sorted h.1 in
    let added = over-added P (block_of x.0) x.1 g ns sorted h.0 in
    let fronts = ap (λ (h : ℤ → ℤ). total (map h (filter P ns))) (fun_ext (total-front x xs)) in
    grind (arith, ints, rest, added, fronts)

-- the totals of summaries are those of their blocks
totals-summaries : (P : ℤ → Bool) (days : List DayValue) (ms : List Summary) → AllByRecursion (HasSum days) ms
    → total (map (λ m. m.total) (filter (λ m. P m.number) ms)) ≡ total
    (map (λ n. total (map (λ y. y.1) (days_in days n))) (filter P (map (λ m. m.number) ms)))
totals-summaries P days [] h = refl
totals-summaries P days (m ∷ ms) h = grind (arith, ints, totals-summaries P days ms h.1)

-- the total of some blocks is that of their days
pub summaries_total-is : (s : Series) (ms : List Summary) → AreOfBlocks (HasSum s.days) s ms → (w : ℕ) (first : ℤ)
    → summaries_total ms w first ≡ blocks_total s.days w first
summaries_total-is s ms are w first =
    grind (arith, ints, totals-summaries (is_among_blocks first w) s.days ms are.each, total-by_blocks)
