-- Days of a block that join those that are held.
use Rattle.ghcn_series.proofs.Cited.{◌≡◌, ℕ, zero, suc, ◌+◌, ◌<◌, ◌^◌, List, [], ◌∷◌, ◌++◌, length, get_or, Option}
use Rattle.ghcn_series.proofs.Cited.{Some, None, ◌⊎◌, inl, inr, refl, sym, ap, subst, ◌∙◌, arith, ℤ, pos, ◌+ℤ◌, w32}
use Rattle.ghcn_series.proofs.Cited.{to_z, of_z, FitsSigned, ◌==◌, bit_or, bit_at, AllByRecursion, option_or, int_eq}
use Rattle.ghcn_series.proofs.Cited.{both_ways, cases_Bool, cases_lt, Decides-int_eq, bit_at_or, bit_at-lt}
use Rattle.ghcn_series.proofs.Cited.{get_or-set_same, get_or-set_other, to_z-of_z, block_of, DayValue, value_on, Block}
use Rattle.ghcn_series.proofs.Cited.{block_start, if_so, value_at, block_days, days_of_blocks, blocks_of, IsPacked}
use Rattle.ghcn_series.proofs.Cited.{AreJoined, JoinsAt, JoinsValues}
use Rattle.std.proofs.Common.{set}
use Rattle.std.proofs.lemmas.Nat.{le_or_l}
use Rattle.std.specs.Int.Bits.{or_zero_l, or_zero_r}
use Rattle.ghcn_series.proofs.Lookups.{or_none, at_day, block-value, block-other, value_on-append}

-- of two that may be nothing, joined to nothing, both are
pub both-none : (a b : Option ℤ) → option_or a b ≡ None → (a ≡ None) × (b ≡ None)
both-none a b e = grind arith

-- two numbers are equal or differ
pub same_block : (a b : ℤ) → (a ≡ b) ⊎ (a ≡ b → ⊥)
same_block a b = elim (cases_Bool (int_eq a b)) [
  | inl holds ↦ inl ((Decides-int_eq a b).0 holds)
  | inr fails ↦ inr (λ same. both_ways (int_eq a b) fails ((Decides-int_eq a b).1 same))
]

-- a bit is 0 or 1
bit_cases : (w i : ℕ) → (bit_at w i ≡ 0) ⊎ (bit_at w i ≡ 1)
bit_cases w i = elim (cases_lt (bit_at w i) 1) [
  | inl below ↦ inl (omega arith)
  | inr more ↦ inr (omega (arith, bit_at-lt w i))
]

module _ (w p : ℕ) (v u r : List ℤ) (j : ℕ)
    (zeros_w : bit_at w j ≡ 0 → get_or v j (pos 0) ≡ pos 0) (zeros_p : bit_at p j ≡ 0 → get_or u j (pos 0) ≡ pos 0)
    (apart : bit_at w j ≡ 1 → bit_at p j ≡ 1 → ⊥)
    (row : JoinsAt v u r j) where
  -- at a place the joined block has the value of the one that has a day there
  pub value-joined : value_at (bit_or w p) r j ≡ option_or (value_at w v j) (value_at p u j)
  value-joined = elim (bit_cases w j) [
    | inl absent ↦
        let bit : bit_at (bit_or w p) j ≡ bit_at p j = omega (arith, bit_at_or w p j) in
        rw (bit, absent) (ap (if_so (bit_at p j == 1)) (row.second (zeros_w absent)))
    | inr present ↦
        let other : bit_at p j ≡ 0 = omega (arith, bit_at-lt p j, apart present) in
        let bit : bit_at (bit_or w p) j ≡ 1 = omega (arith, bit_at_or w p j) in
        rw (bit, present) (ap Some (row.first (zeros_p other)))
  ]

-- days of one block that are apart
pub record AreApart (w p : ℕ) : Type 0 where
  pub apart : (j : ℕ) → j < 32 → bit_at w j ≡ 1 → bit_at p j ≡ 1 → ⊥

module _ (n : ℤ) (w p : ℕ) (v u r : List ℤ) (a : IsPacked (n, (w, v))) (b : IsPacked (n, (p, u))) (apart : AreApart w p)
    (row : JoinsValues v u r) where
  -- on a day the new part has the value of one of the two
  abbrev Joined : ℤ → Type 0
  Joined d = value_on (block_days (n, (bit_or w p, r))) d ≡ option_or (value_on (block_days (n, (w, v))) d)
      (value_on (block_days (n, (p, u))) d)

  -- so it is at each place of the block
  at_places : (j : ℕ) → j < 32 → Joined (block_start n +ℤ pos j)
  at_places j lt =
      rw (block-value (n, (bit_or w p, r)) j lt, block-value (n, (w, v)) j lt, block-value (n, (p, u)) j lt)
      (value-joined w p v u r j (a.zeros j lt) (b.zeros j lt) (apart.apart j lt) (row j lt))

  -- the joined block has the days of both
  pub block-joined : AreJoined (block_days (n, (w, v))) (block_days (n, (p, u))) (block_days (n, (bit_or w p, r)))
  block-joined d = elim (same_block n (block_of d)) [
    | inl here ↦ at_day Joined d (subst (λ (b : ℤ). (j : ℕ) → j < 32 → Joined (block_start b +ℤ pos j)) here at_places)
    | inr other ↦
        rw (block-other (n, (bit_or w p, r)) d other, block-other (n, (w, v)) d other, block-other (n, (p, u)) d other)
  ]

  -- and is as it may be
  pub packed-joined : bit_or w p < 2 ^ 32 → IsPacked (n, (bit_or w p, r))
  packed-joined fits = record {
    present = omega (arith, a.present, le_or_l w p);
    fits = fits;
    zeros = λ j lt none. (row j lt).second (a.zeros j lt (omega (arith, bit_at_or w p j)))
        ∙ b.zeros j lt (omega (arith, bit_at_or w p j));
    days = λ j lt set. elim (bit_cases w j) [
      | inl absent ↦ b.days j lt (omega (arith, bit_at_or w p j))
      | inr present ↦ a.days j lt present
    ];
  }

-- a first choice is the same in either grouping
pub or_assoc : (a b c : Option ℤ) → option_or a (option_or b c) ≡ option_or (option_or a b) c
or_assoc a b c = grind arith

-- the last block joined with more days: all days are joined with them
pub last-joined : (ns : List ℤ) (ws : List ℕ) (vs : List (List ℤ)) (i : ℕ) (p : ℕ) (r : List ℤ) (more : List DayValue)
    → length ws ≡ length ns → length vs ≡ length ns → i + 1 ≡ length ns
    → AreJoined (block_days (get_or ns i (pos 0), (get_or ws i 0, get_or vs i []))) more
    (block_days (get_or ns i (pos 0), (p, r)))
    → AreJoined (days_of_blocks (blocks_of ns ws vs)) more (days_of_blocks (blocks_of ns (set ws i p) (set vs i r)))
last-joined [] ws vs i p r more lw lv last is d = absurd (omega arith)
last-joined (n ∷ ns) [] vs i p r more lw lv last is d = absurd (omega arith)
last-joined (n ∷ ns) (w ∷ ws) [] i p r more lw lv last is d = absurd (omega arith)
last-joined (n ∷ []) (w ∷ ws) (v ∷ vs) zero p r more lw lv last is d = simp (value_on-append, or_none) (is d)
last-joined (n ∷ m ∷ ns) (w ∷ ws) (v ∷ vs) zero p r more lw lv last is d = absurd (omega arith)
last-joined (n ∷ ns) (w ∷ ws) (v ∷ vs) (suc i) p r more lw lv last is d =
    simp (value_on-append, last-joined ns ws vs i p r more (omega arith) (omega arith) (omega arith) is d, or_assoc)

-- and the blocks are as they may be
pub last-packed : (ns : List ℤ) (ws : List ℕ) (vs : List (List ℤ)) (i : ℕ) (p : ℕ) (r : List ℤ)
    → AllByRecursion IsPacked (blocks_of ns ws vs) → IsPacked (get_or ns i (pos 0), (p, r))
    → AllByRecursion IsPacked (blocks_of ns (set ws i p) (set vs i r))
last-packed (n ∷ ns) (w ∷ ws) (v ∷ vs) zero p r all one = (one, all.1)
last-packed (n ∷ ns) (w ∷ ws) (v ∷ vs) (suc i) p r all one = (all.0, last-packed ns ws vs i p r all.1 one)
last-packed (n ∷ ns) (w ∷ ws) [] zero p r all one = tt
last-packed _ _ _ _ p r all one = tt

-- one block more: all days are joined with its own
pub pushed-blocks : (ns : List ℤ) (ws : List ℕ) (vs : List (List ℤ)) (n : ℤ) (w : ℕ) (v : List ℤ)
    → length ws ≡ length ns → length vs ≡ length ns
    → blocks_of (ns ++ n ∷ []) (ws ++ w ∷ []) (vs ++ v ∷ []) ≡ blocks_of ns ws vs ++ (n, (w, v)) ∷ []
pushed-blocks [] [] [] n w v lw lv = refl
pushed-blocks (n' ∷ ns) (w' ∷ ws) (v' ∷ vs) n w v lw lv = ap (λ (l : List Block). (n', (w', v')) ∷ l)
    (pushed-blocks ns ws vs n w v (omega arith) (omega arith))
pushed-blocks _ _ _ n w v lw lv = absurd (omega arith)

-- a day that none of the blocks has isn't in the one at a place
pub none-at : (ns : List ℤ) (ws : List ℕ) (vs : List (List ℤ)) (i : ℕ) (d : ℤ) → length ws ≡ length ns
    → length vs ≡ length ns → i < length ns → value_on (days_of_blocks (blocks_of ns ws vs)) d ≡ None
    → value_on (block_days (get_or ns i (pos 0), (get_or ws i 0, get_or vs i []))) d ≡ None
none-at (n ∷ ns) (w ∷ ws) (v ∷ vs) zero d lw lv lt none = (both-none (value_on (block_days (n, (w, v))) d) _
    (sym (value_on-append (block_days (n, (w, v))) (days_of_blocks (blocks_of ns ws vs)) d) ∙ none)).0
none-at (n ∷ ns) (w ∷ ws) (v ∷ vs) (suc i) d lw lv lt none =
    none-at ns ws vs i d (omega arith) (omega arith) (omega arith) (both-none (value_on (block_days (n, (w, v))) d) _
    (sym (value_on-append (block_days (n, (w, v))) (days_of_blocks (blocks_of ns ws vs)) d) ∙ none)).1
none-at _ _ _ _ d lw lv lt none = absurd (omega arith)

-- joined to 0 a value stays
or-first : (a b : ℤ) → FitsSigned w32 b → a ≡ pos 0 → to_z w32 (bit_or (of_z w32 a) (of_z w32 b)) ≡ b
or-first a b fits e = rw (e, or_zero_l (of_z w32 b)) (to_z-of_z w32 b fits)

-- and so with the 0 after it
or-second : (a b : ℤ) → FitsSigned w32 a → b ≡ pos 0 → to_z w32 (bit_or (of_z w32 a) (of_z w32 b)) ≡ a
or-second a b fits e = rw (e, or_zero_r (of_z w32 a)) (to_z-of_z w32 a fits)

-- one place more is joined
pub joins-more : (a b both : List ℤ) (i : ℕ) → i < length both → FitsSigned w32 (get_or a i (pos 0))
    → FitsSigned w32 (get_or b i (pos 0)) → ((j : ℕ) → j < i → JoinsAt a b both j)
    → (j : ℕ) → j < i + 1 → JoinsAt a b (set both i
    (to_z w32 (bit_or (of_z w32 (get_or a i (pos 0))) (of_z w32 (get_or b i (pos 0)))))) j
joins-more a b both i lt fits_a fits_b so_far j less =
    let v : ℤ = to_z w32 (bit_or (of_z w32 (get_or a i (pos 0))) (of_z w32 (get_or b i (pos 0)))) in
    elim (cases_lt j i) [
      | inl before ↦
          let same = get_or-set_other both i j v (pos 0) (omega arith) in
          record { second = λ e. same ∙ (so_far j before).second e; first = λ e. same ∙ (so_far j before).first e }
      | inr here ↦
          let is : i ≡ j = omega arith in
          let now : get_or (set both i v) i (pos 0) ≡ v = get_or-set_same both i v (pos 0) lt in
          subst (JoinsAt a b (set both i v)) is
          (record { second = λ e. now ∙ or-first _ _ fits_b e; first = λ e. now ∙ or-second _ _ fits_a e })
    ]
