-- The last day of a word, of a block and of columns.
use Rattle.ghcn_series.proofs.Cited.{◌≡◌, ℕ, zero, suc, ◌+◌, ◌-◌, ◌*◌, ◌<◌, ◌≤◌, ◌^◌, List, [], ◌∷◌, ◌++◌, length}
use Rattle.ghcn_series.proofs.Cited.{get_or, drop, Option, Some, None, inl, inr, refl, sym, ap, ◌∙◌, arith, ℤ, pos}
use Rattle.ghcn_series.proofs.Cited.{◌+ℤ◌, bit_at, cons_option, filter_map, range_with_len, option_map, pow-succ'}
use Rattle.ghcn_series.proofs.Cited.{cases_lt, append-nil, slice_get_within, get_or_from_slice_get, bit_at_above}
use Rattle.ghcn_series.proofs.Cited.{DayValue, Block, block_start, day_at, block_days, days_from, days_of_blocks}
use Rattle.ghcn_series.proofs.Cited.{blocks_of, AreBlocks, AreCalendarDays, IsPacked}
use Rattle.std.specs.Prelude.{slice_get}
use Rattle.std.proofs.lemmas.Nat.Bits.{bit_at_cat_high}
use Rattle.ghcn_series.specs.Packed.{IsLastOf}
use Rattle.ghcn_series.proofs.Lookups.{blocks-behind, blocks-end}
use Rattle.ghcn_series.proofs.FirstDays.{none-set}
use Rattle.ghcn_series.proofs.PartsAdded.{packed-at}

-- the day of the last of some days
abbrev pub last_of : List DayValue → Option ℤ
last_of [] = None
last_of (x ∷ []) = Some x.0
last_of (x ∷ y ∷ ys) = last_of (y ∷ ys)

-- it is at the last place
pub last_of-at : (days : List DayValue) → last_of days ≡ option_map (λ x. x.0) (slice_get days (length days - 1))
last_of-at [] = refl
last_of-at (x ∷ []) = refl
last_of-at (x ∷ y ∷ ys) =
    let same : suc (suc (length ys)) - 1 ≡ suc (suc (length ys) - 1) = omega arith in rw same (last_of-at (y ∷ ys))

-- the last of some days and others is that of the others
pub last_of-append : (xs ys : List DayValue) (d : ℤ) → last_of ys ≡ Some d → last_of (xs ++ ys) ≡ Some d
last_of-append [] ys d e = e
last_of-append (x ∷ []) [] d e = absurd cc
last_of-append (x ∷ []) (y ∷ ys) d e = e
last_of-append (x ∷ z ∷ zs) ys d e = last_of-append (z ∷ zs) ys d e

-- a value more in front changes no last one
last-cons : (o : Option DayValue) (xs : List DayValue) (d : ℤ) → last_of xs ≡ Some d → last_of (cons_option o xs)
    ≡ Some d
last-cons None xs d e = e
last-cons (Some x) xs d e = last_of-append (x ∷ []) xs d e

-- among places, the last day is at the highest bit
last-places : (b : Block) (t s m : ℕ) → s ≤ t → t < s + m → bit_at b.1.0 t ≡ 1 → ((i : ℕ) → t < i → bit_at b.1.0 i ≡ 0)
    → last_of (filter_map (day_at b) (range_with_len s m)) ≡ Some (block_start b.0 +ℤ pos t)
last-places b t s zero le lt set above = absurd (omega arith)
last-places b t s (suc m) le lt set above = elim (cases_lt s t) [
  | inl before ↦ last-cons (day_at b s) (filter_map (day_at b) (range_with_len (s + 1) m)) (block_start b.0 +ℤ pos t)
      (last-places b t (s + 1) m (omega arith) (omega arith) set above)
  | inr here ↦
      let is : s ≡ t = omega arith in
      let rest : filter_map (day_at b) (range_with_len (s + 1) m) ≡ [] =
      none-set b.0 b.1.1 b.1.0 (s + 1) m (λ i more less. above i (omega arith)) in rw (rest, is, set)
]

-- the last day of a block
pub last-of_block : (b : Block) (day : Option ℤ) → IsLastOf b.0 b.1.0 day → last_of (block_days b) ≡ day
unfolding days_from
last-of_block b day is = last-places b is.place 0 32 (omega arith) is.below is.set is.highest ∙ sym is.is

-- the last day of some blocks is that of those after the first ones
last-behind : (bs : List Block) (i : ℕ) (d : ℤ) → last_of (days_of_blocks (drop i bs)) ≡ Some d
    → last_of (days_of_blocks bs) ≡ Some d
last-behind bs zero d e = e
last-behind [] (suc i) d e = e
last-behind (b ∷ bs) (suc i) d e = last_of-append (block_days b) (days_of_blocks bs) d (last-behind bs i d e)

-- the last day of columns is that of their last block
pub last-of_columns : (ns : List ℤ) (ws : List ℕ) (vs : List (List ℤ)) (i : ℕ) (day : Option ℤ) → AreBlocks ns ws vs
    → i + 1 ≡ length ns → IsLastOf (get_or ns i (pos 0)) (get_or ws i 0) day
    → last_of (days_of_blocks (blocks_of ns ws vs)) ≡ day
last-of_columns ns ws vs i day bs at is =
    let b : Block = (get_or ns i (pos 0), (get_or ws i 0, get_or vs i [])) in
    last-behind (blocks_of ns ws vs) i (block_start b.0 +ℤ pos is.place)
    (rw (blocks-behind ns ws vs i bs (omega arith), blocks-end ns ws vs (i + 1) bs (omega arith))
    (ap last_of (append-nil (block_days b)) ∙ last-of_block b day is ∙ is.is)) ∙ sym is.is

-- the highest bit of a number
pub highest-bit : (w t : ℕ) → 2 ^ t ≤ w → w < 2 * 2 ^ t → (bit_at w t ≡ 1) × ((i : ℕ) → t < i → bit_at w i ≡ 0)
highest-bit w t low high =
    let rest : ℕ = w - 2 ^ t in
    let parts : 1 * 2 ^ t + rest ≡ w = omega arith in
    let set : bit_at w t ≡ 1 = ap (λ (k : ℕ). bit_at k t) (sym parts)
    ∙ bit_at_cat_high 1 t rest t (omega arith) (omega arith) ∙ ap (bit_at 1) {x = t - t} {y = 0} (omega arith) in
    (set, λ i lt. bit_at_above w (suc t) i (omega (arith, pow-succ' 2 t)) (omega arith))

-- the last block of columns, and its days
pub record IsLastBlock (ns : List ℤ) (ws : List ℕ) (n : ℤ) (w : ℕ) : Type 0 where
  pub some_block : (length ns - 1) + 1 ≡ length ns
  pub number : get_or ns (length ns - 1) (pos 0) ≡ n
  pub word : get_or ws (length ns - 1) 0 ≡ w
  pub days : AreCalendarDays n w
  pub present : 0 < w

-- the last number and the last word are those of one block
pub last-block : (ns : List ℤ) (ws : List ℕ) (vs : List (List ℤ)) (n : ℤ) (w : ℕ) → AreBlocks ns ws vs
    → Some n ≡ slice_get ns (length ns - 1) → Some w ≡ slice_get ws (length ws - 1) → IsLastBlock ns ws n w
last-block ns ws vs n w bs here there =
    let i : ℕ = length ns - 1 in let within : i < length ns = slice_get_within ns i n (sym here) in
    let number : get_or ns i (pos 0) ≡ n = get_or_from_slice_get ns i n (pos 0) (sym here) in
    let word : get_or ws i 0 ≡ w = ap (λ (k : ℕ). get_or ws (k - 1) 0) (sym bs.enough_words)
    ∙ get_or_from_slice_get ws (length ws - 1) w 0 (sym there) in
    let packed : IsPacked (n, (w, get_or vs i [])) = rw (number, word) at (packed-at ns ws vs bs i within) in
    record {
      some_block = omega (arith, within);
      number = number;
      word = word;
      days = record { days = packed.days };
      present = packed.present;
    }
