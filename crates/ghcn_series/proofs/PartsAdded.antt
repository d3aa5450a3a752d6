-- Parts that are joined or pushed.
use Rattle.ghcn_series.proofs.Cited.{◌≡◌, ℕ, ◌+◌, ◌-◌, ◌<◌, true, List, [], ◌∷◌, ◌++◌, length, get_or, Some, None}
use Rattle.ghcn_series.proofs.Cited.{IsSome, inl, inr, refl, sym, ap, subst, ◌∙◌, arith, ℤ, pos, ◌+ℤ◌, ◌<ℤ◌, ◌==◌, ◌||◌}
use Rattle.ghcn_series.proofs.Cited.{bit_or, int_lt, AllByRecursion, option_or, cases_lt, nat_tests, ints, common_steps}
use Rattle.ghcn_series.proofs.Cited.{get_or_append_left, get_or_push, DayValue, value_on, Block, block_start, if_so}
use Rattle.ghcn_series.proofs.Cited.{block_days, days_of_blocks, blocks_of, IsPacked, AreBlocks, Rise, AreNew}
use Rattle.ghcn_series.proofs.Cited.{AreJoined, JoinsValues}
use Rattle.std.proofs.Common.{set}
use Rattle.std.proofs.lemmas.Nat.{or_lt}
use Rattle.ghcn_series.proofs.ListFacts.{all-at, each-append}
use Rattle.ghcn_series.proofs.Lookups.{no_block, or_none, block-value, value_on-append, blocks-at, blocks-length}
use Rattle.ghcn_series.proofs.FirstDays.{block-empty}
use Rattle.ghcn_series.proofs.JoinedDays.{AreApart, block-joined, packed-joined, last-joined, last-packed}
use Rattle.ghcn_series.proofs.JoinedDays.{pushed-blocks, none-at, or_assoc}

-- the days of a block more
pub days-pushed : (bs : List Block) (b : Block) (d : ℤ) → value_on (days_of_blocks (bs ++ b ∷ [])) d
    ≡ option_or (value_on (days_of_blocks bs) d) (value_on (block_days b) d)
days-pushed [] b d = simp (value_on-append, or_none)
days-pushed (x ∷ xs) b d = simp (value_on-append, days-pushed xs b d, or_assoc)

-- a number after the last one is greater than it
last_less : (k : ℕ) (last n : ℤ) → (k == 0 || int_lt last n) ≡ true → 0 < k → last <ℤ n
last_less k last n e some = grind (arith, ints, nat_tests)

-- and greater than all of rising numbers
below_last : (ns : List ℤ) (n : ℤ) → Rise ns → (i : ℕ) → i < length ns
    → (length ns == 0 || int_lt (get_or ns (length ns - 1) (pos 0)) n) ≡ true → get_or ns i (pos 0) <ℤ n
below_last ns n rise i lt after =
    let last : get_or ns (length ns - 1) (pos 0) <ℤ n = last_less (length ns) _ n after (omega arith) in
    elim (cases_lt i (length ns - 1)) [
      | inl before ↦ let less = rise.less i (length ns - 1) before (omega arith) in omega (arith, ints)
      | inr end ↦ let here : length ns - 1 ≡ i = omega arith in rw here at last
    ]

module _ (ns : List ℤ) (ws : List ℕ) (vs : List (List ℤ)) (bs : AreBlocks ns ws vs) where
  -- the block at a place is as it may be
  pub packed-at : (i : ℕ) → i < length ns → IsPacked (get_or ns i (pos 0), (get_or ws i 0, get_or vs i []))
  packed-at i lt = subst IsPacked (blocks-at ns ws vs i bs.enough_words bs.enough_values lt)
      (all-at IsPacked (blocks_of ns ws vs) i no_block bs.packed
      (omega (arith, blocks-length ns ws vs bs.enough_words bs.enough_values)))

  -- a part more
  pub push-blocks : (n : ℤ) (w : ℕ) (v : List ℤ) → IsPacked (n, (w, v))
      → AreBlocks (ns ++ n ∷ []) (ws ++ w ∷ []) (vs ++ v ∷ [])
  push-blocks n w v one = record {
    enough_words = grind (arith, common_steps, bs.enough_words);
    enough_values = grind (arith, common_steps, bs.enough_values);
    packed = subst (AllByRecursion IsPacked) (sym (pushed-blocks ns ws vs n w v bs.enough_words bs.enough_values))
        (each-append IsPacked (blocks_of ns ws vs) ((n, (w, v)) ∷ []) bs.packed (one, tt));
  }

  -- a block more adds its days
  pub push-days : (n : ℤ) (w : ℕ) (v : List ℤ) → AreJoined (days_of_blocks (blocks_of ns ws vs))
      (block_days (n, (w, v))) (days_of_blocks (blocks_of (ns ++ n ∷ []) (ws ++ w ∷ []) (vs ++ v ∷ [])))
  push-days n w v d = rw (pushed-blocks ns ws vs n w v bs.enough_words bs.enough_values)
      (days-pushed (blocks_of ns ws vs) (n, (w, v)) d)

-- days of the last part's block that the parts don't have, and their values joined to those of the part
pub record IsJoin (ns : List ℤ) (ws : List ℕ) (vs : List (List ℤ)) (i p : ℕ) (u r : List ℤ) : Type 0 where
  pub blocks : AreBlocks ns ws vs
  pub last : i + 1 ≡ length ns
  pub one : IsPacked (get_or ns i (pos 0), (p, u))
  pub fresh : AreNew (days_of_blocks (blocks_of ns ws vs)) (block_days (get_or ns i (pos 0), (p, u)))
  pub row : JoinsValues (get_or vs i []) u r

module _ (ns : List ℤ) (ws : List ℕ) (vs : List (List ℤ)) (i p : ℕ) (u r : List ℤ) (is : IsJoin ns ws vs i p u r) where
  -- the last part as it was
  abbrev old : Block
  old = (get_or ns i (pos 0), (get_or ws i 0, get_or vs i []))

  -- it is as it may be
  old_packed : IsPacked old
  old_packed = packed-at ns ws vs is.blocks i (omega (arith, is.last))

  -- no day is in both
  apart : AreApart (get_or ws i 0) p
  apart = record {
    apart = λ j lt mine other.
        let d : ℤ = block_start (get_or ns i (pos 0)) +ℤ pos j in
        let here : value_on (block_days old) d ≡ Some (get_or (get_or vs i []) j (pos 0)) =
        block-value old j lt ∙ ap (λ (b : ℕ). if_so (b == 1) (get_or (get_or vs i []) j (pos 0))) mine in
        let there : value_on (block_days (get_or ns i (pos 0), (p, u))) d ≡ Some (get_or u j (pos 0)) =
        block-value (get_or ns i (pos 0), (p, u)) j lt ∙ ap (λ (b : ℕ). if_so (b == 1) (get_or u j (pos 0))) other in
        let none : value_on (block_days old) d ≡ None =
        none-at ns ws vs i d is.blocks.enough_words is.blocks.enough_values (omega (arith, is.last))
        (is.fresh d (subst IsSome (sym there) refl)) in absurd (cc (here, none));
  }

  -- the last part, joined with more days of its block
  pub join-last : AreJoined (block_days old) (block_days (get_or ns i (pos 0), (p, u)))
      (block_days (get_or ns i (pos 0), (bit_or (get_or ws i 0) p, r)))
  join-last = block-joined (get_or ns i (pos 0)) (get_or ws i 0) p (get_or vs i []) u r old_packed is.one apart is.row

  -- all parts, if the last is joined with them
  pub join-days : AreJoined (days_of_blocks (blocks_of ns ws vs)) (block_days (get_or ns i (pos 0), (p, u)))
      (days_of_blocks (blocks_of ns (set ws i (bit_or (get_or ws i 0) p)) (set vs i r)))
  join-days = last-joined ns ws vs i (bit_or (get_or ws i 0) p) r (block_days (get_or ns i (pos 0), (p, u)))
      is.blocks.enough_words is.blocks.enough_values is.last join-last

  -- they are as they may be
  pub join-blocks : AreBlocks ns (set ws i (bit_or (get_or ws i 0) p)) (set vs i r)
  join-blocks = record {
    enough_words = grind (arith, common_steps, is.blocks.enough_words);
    enough_values = grind (arith, common_steps, is.blocks.enough_values);
    packed = last-packed ns ws vs i (bit_or (get_or ws i 0) p) r is.blocks.packed
        (packed-joined (get_or ns i (pos 0)) (get_or ws i 0) p (get_or vs i []) u r old_packed is.one apart is.row
        (or_lt 32 (get_or ws i 0) p old_packed.fits is.one.fits));
  }

-- numbers that rise with one after them that is greater than the last
pub push-rise : (ns : List ℤ) (n : ℤ) → Rise ns → (length ns == 0 || int_lt (get_or ns (length ns - 1) (pos 0)) n)
    ≡ true → Rise (ns ++ n ∷ [])
push-rise ns n rise after = record {
  less = λ i j lt in_range.
      let long : length (ns ++ n ∷ []) ≡ length ns + 1 = grind (arith, common_steps) in
      let old_i = get_or_append_left ns (n ∷ []) (pos 0) i (omega arith) in
      elim (cases_lt j (length ns)) [
        | inl before ↦ rw (old_i, get_or_append_left ns (n ∷ []) (pos 0) j before) (rise.less i j lt before)
        | inr end ↦ rw (old_i, get_or_push ns n (pos 0) j (omega arith)) (below_last ns n rise i (omega arith) after)
      ];
}

-- nothing is added
pub add-none : (old : List DayValue) (n : ℤ) (w : ℕ) (v : List ℤ) → w ≡ 0 → AreJoined old (block_days (n, (w, v))) old
add-none old n w v e d = rw (block-empty n v w e) (sym (or_none (value_on old d)))
