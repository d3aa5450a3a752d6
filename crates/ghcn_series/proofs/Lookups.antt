-- What is looked up among the days of blocks.
use Rattle.ghcn_series.proofs.Cited.{◌≡◌, ℕ, zero, suc, ◌+◌, ◌<◌, ◌≤◌, Bool, true, false, List, [], ◌∷◌, ◌++◌}
use Rattle.ghcn_series.proofs.Cited.{length, get_or, Option, Some, None, inl, inr, refl, sym, ap, subst, ◌∙◌, arith, ℤ}
use Rattle.ghcn_series.proofs.Cited.{pos, ◌≤ℤ◌, ◌<ℤ◌, ◌+ℤ◌, drop, ◌==◌, unsigned_abs, bit_at, find, cons_option}
use Rattle.ghcn_series.proofs.Cited.{filter_map, range_with_len, zip, option_or, int_eq, find-append, cases_lt}
use Rattle.ghcn_series.proofs.Cited.{Decides-int_eq, ints, length-zip, block_of, DayValue, value_on, Block, block_start}
use Rattle.ghcn_series.proofs.Cited.{if_so, value_at, days_from, block_days, days_of_blocks, blocks_of, AreBlocks}
use Rattle.std.proofs.Common.{negsuc}
use Rattle.std.proofs.Common.{drop_of_length-le}
use Rattle.std.proofs.lemmas.Bool.{false_from_ne_true}
use Rattle.std.proofs.lemmas.List.{drop_more}
use Rattle.std.proofs.lemmas.Slice.Zip.{get_or-zip}
use Rattle.ghcn_series.specs.Packed.{place_in_block, day_from}
use Rattle.ghcn_series.proofs.ListFacts.{map_or}

-- equal numbers pass the test
pub int_eq-yes : (a b : ℤ) → a ≡ b → int_eq a b ≡ true
int_eq-yes a b e = (Decides-int_eq a b).1 e

-- others fail it
pub int_eq-no : (a b : ℤ) → (a ≡ b → ⊥) → int_eq a b ≡ false
int_eq-no a b h = false_from_ne_true (int_eq a b) (λ e. h ((Decides-int_eq a b).0 e))

-- a day lies in its block
pub block-holds : (day : ℤ) → (block_start (block_of day) ≤ℤ day) × (day <ℤ (block_start (block_of day) +ℤ pos 32))
block-holds (pos a) = (omega (arith, ints), omega (arith, ints))
block-holds (negsuc a) = (omega (arith, ints), omega (arith, ints))

-- the day at a place of a block is in that block
pub block-of_place : (b : ℤ) (k : ℕ) → k < 32 → block_of (block_start b +ℤ pos k) ≡ b
block-of_place b k lt = let holds = block-holds (block_start b +ℤ pos k) in omega (arith, ints)

-- a day that isn't the first of some days is looked up after it
pub value_on-other : (t : Bool) (x : DayValue) (xs : List DayValue) (day : ℤ) → int_eq x.0 day ≡ false
    → value_on (cons_option (if_so t x) xs) day ≡ value_on xs day
value_on-other true x xs day e = rw e
value_on-other false x xs day e = refl

-- a day that is at most the first of some days
pub value_on-same : (t : Bool) (x : DayValue) (xs : List DayValue) (day : ℤ) → int_eq x.0 day ≡ true
    → value_on xs day ≡ None → value_on (cons_option (if_so t x) xs) day ≡ if_so t x.1
value_on-same true x xs day e none = rw e
value_on-same false x xs day e none = none

module _ (first : ℤ) (w : ℕ) (vs : List ℤ) where
  -- a day at none of n places has no value there
  none_among : (day : ℤ) (s n : ℕ) → ((j : ℕ) → s ≤ j → j < s + n → first +ℤ pos j ≡ day → ⊥)
      → value_on (filter_map (day_from first w vs) (range_with_len s n)) day ≡ None
  none_among day s zero h = refl
  none_among day s (suc n) h =
      let behind : List DayValue = filter_map (day_from first w vs) (range_with_len (s + 1) n) in
      value_on-other (bit_at w s == 1) (first +ℤ pos s, get_or vs s (pos 0)) behind day
      (int_eq-no (first +ℤ pos s) day (h s (omega arith) (omega arith)))
      ∙ none_among day (s + 1) n (λ j le lt. h j (omega arith) (omega arith))

  -- the day at one of n places has the value of that place
  found_at : (j s n : ℕ) → s ≤ j → j < s + n
      → value_on (filter_map (day_from first w vs) (range_with_len s n)) (first +ℤ pos j) ≡ value_at w vs j
  found_at j s zero le lt = absurd (omega arith)
  found_at j s (suc n) le lt =
      let day : ℤ = first +ℤ pos j in let x : DayValue = (first +ℤ pos s, get_or vs s (pos 0)) in
      let xs : List DayValue = filter_map (day_from first w vs) (range_with_len (s + 1) n) in
      elim (cases_lt s j) [
        | inl before ↦ value_on-other (bit_at w s == 1) x xs day (int_eq-no x.0 day (λ e. omega (arith, ints)))
            ∙ found_at j (s + 1) n (omega arith) (omega arith)
        | inr here ↦
            let same : s ≡ j = omega arith in
            value_on-same (bit_at w s == 1) x xs day (int_eq-yes x.0 day (ap (λ (k : ℕ). first +ℤ pos k) same))
            (none_among day (s + 1) n (λ k more less e. omega (arith, ints))) ∙ ap (value_at w vs) same
      ]

  -- each of 32 days has the value of its place
  pub from-value : (j : ℕ) → j < 32 → value_on (days_from first w vs) (first +ℤ pos j) ≡ value_at w vs j
  unfolding days_from
  from-value j lt = found_at j 0 32 (omega arith) (omega arith)

  -- any other day has none
  pub from-other : (day : ℤ) → ((j : ℕ) → j < 32 → first +ℤ pos j ≡ day → ⊥) → value_on (days_from first w vs) day
      ≡ None
  unfolding days_from
  from-other day h = none_among day 0 32 (λ j le lt e. h j (omega arith) e)

-- a day of a block has the value of its place
pub block-value : (b : Block) (j : ℕ) → j < 32 → value_on (block_days b) (block_start b.0 +ℤ pos j)
    ≡ value_at b.1.0 b.1.1 j
block-value b j lt = from-value (block_start b.0) b.1.0 b.1.1 j lt

-- a day of another block has no value there
pub block-other : (b : Block) (day : ℤ) → (b.0 ≡ block_of day → ⊥) → value_on (block_days b) day ≡ None
block-other b day h =
    from-other (block_start b.0) b.1.0 b.1.1 day (λ j lt e. h (sym (block-of_place b.0 j lt) ∙ ap block_of e))

-- a day is looked up among some days, and otherwise among those after them
pub value_on-append : (xs ys : List DayValue) (day : ℤ) → value_on (xs ++ ys) day ≡ option_or (value_on xs day)
    (value_on ys day)
value_on-append xs ys day =
    let is : DayValue → Bool = λ x. int_eq x.0 day in
    rw (find-append is xs ys) (map_or (λ (x : DayValue). x.1) (find is xs) (find is ys))

-- x, or nothing
pub or_none : {X : Type 0} (x : Option X) → option_or x None ≡ x
or_none (Some v) = refl
or_none None = refl

-- the block at a place past the last
abbrev pub no_block : Block
no_block = (pos 0, (0, []))

-- if no block has the day's number, the day has no value
pub days-without : (bs : List Block) (day : ℤ) → ((k : ℕ) → k < length bs → (get_or bs k no_block).0 ≡ block_of day → ⊥)
    → value_on (days_of_blocks bs) day ≡ None
days-without [] day h = refl
days-without (b ∷ bs) day h =
    rw (value_on-append (block_days b) (days_of_blocks bs) day, block-other b day (h 0 (omega arith)))
    (days-without bs day (λ k lt. h (suc k) (omega arith)))

-- if one block alone has the day's number, the day has the value of its place there
pub days-at : (bs : List Block) (i : ℕ) (number : ℤ) (j : ℕ) → j < 32 → i < length bs
    → (get_or bs i no_block).0 ≡ number → ((k : ℕ) → k < length bs → (get_or bs k no_block).0 ≡ number → k ≡ i)
    → value_on (days_of_blocks bs) (block_start number +ℤ pos j) ≡ value_at (get_or bs i no_block).1.0
    (get_or bs i no_block).1.1 j
days-at [] i number j below lt is alone = absurd (omega arith)
days-at (b ∷ bs) zero number j below lt is alone =
    let day : ℤ = block_start number +ℤ pos j in
    let of : block_of day ≡ number = block-of_place number j below in
    let here = subst (λ (n : ℤ). value_on (block_days b) (block_start n +ℤ pos j) ≡ value_at b.1.0 b.1.1 j) is
    (block-value b j below) in
    let behind : value_on (days_of_blocks bs) day ≡ None = days-without bs day
    (λ k less e. omega (arith, alone (suc k) (omega arith) (e ∙ of))) in
    rw (value_on-append (block_days b) (days_of_blocks bs) day, behind, or_none (value_on (block_days b) day)) here
days-at (b ∷ bs) (suc i) number j below lt is alone =
    let day : ℤ = block_start number +ℤ pos j in
    let of : block_of day ≡ number = block-of_place number j below in
    let other : b.0 ≡ block_of day → ⊥ = λ e. omega (arith, alone zero (omega arith) (e ∙ of)) in
    rw (value_on-append (block_days b) (days_of_blocks bs) day, block-other b day other)
    (days-at bs i number j below (omega arith) is (λ k less e. omega (arith, alone (suc k) (omega arith) e)))

-- the block at a place of three columns of one length
pub blocks-at : (numbers : List ℤ) (words : List ℕ) (values : List (List ℤ)) (i : ℕ) → length words ≡ length numbers
    → length values ≡ length numbers → i < length numbers → get_or (blocks_of numbers words values) i no_block
    ≡ (get_or numbers i (pos 0), (get_or words i 0, get_or values i []))
blocks-at numbers words values i w v lt =
    get_or-zip numbers (zip words values) i no_block lt (rw (length-zip words values) (omega arith))
    ∙ ap (λ (p : ℕ × List ℤ). (get_or numbers i (pos 0), p))
    (get_or-zip words values i (0, []) (omega arith) (omega arith))

-- there are as many blocks as numbers
pub blocks-length : (numbers : List ℤ) (words : List ℕ) (values : List (List ℤ)) → length words ≡ length numbers
    → length values ≡ length numbers → length (blocks_of numbers words values) ≡ length numbers
blocks-length numbers words values w v = omega (arith, length-zip numbers (zip words values), length-zip words values)

-- the place of a day in its block, which is below 32
place_is : (day : ℤ) → (block_start (block_of day) +ℤ place_in_block day ≡ day)
    × (pos 0 ≤ℤ place_in_block day) × (place_in_block day <ℤ pos 32)
place_is (pos a) = (omega (arith, ints), omega (arith, ints), omega (arith, ints))
place_is (negsuc a) = (omega (arith, ints), omega (arith, ints), omega (arith, ints))

-- what is true at each place of a day's block is true of the day
pub at_day : (P : ℤ → Type 0) (day : ℤ) → ((j : ℕ) → j < 32 → P (block_start (block_of day) +ℤ pos j)) → P day
at_day P day h =
    let is = place_is day in
    subst P {x = block_start (block_of day) +ℤ pos (unsigned_abs (place_in_block day))}
    (omega (arith, ints, is.0, is.1, is.2)) (h (unsigned_abs (place_in_block day)) (omega (arith, ints, is.1, is.2)))

-- the blocks after that many are the next one and those after it
pub blocks-behind : (ns : List ℤ) (ws : List ℕ) (vs : List (List ℤ)) (i : ℕ) → AreBlocks ns ws vs → i < length ns
    → drop i (blocks_of ns ws vs)
    ≡ (get_or ns i (pos 0), (get_or ws i 0, get_or vs i [])) ∷ drop (i + 1) (blocks_of ns ws vs)
blocks-behind ns ws vs i bs lt =
    drop_more (blocks_of ns ws vs) i no_block (rw (blocks-length ns ws vs bs.enough_words bs.enough_values) lt)
    ∙ ap (λ (b : Block). b ∷ drop (i + 1) (blocks_of ns ws vs))
    (blocks-at ns ws vs i bs.enough_words bs.enough_values lt)

-- after all of them there is none
pub blocks-end : (ns : List ℤ) (ws : List ℕ) (vs : List (List ℤ)) (i : ℕ) → AreBlocks ns ws vs → length ns ≤ i
    → drop i (blocks_of ns ws vs) ≡ []
blocks-end ns ws vs i bs le =
    drop_of_length-le (blocks_of ns ws vs) (rw (blocks-length ns ws vs bs.enough_words bs.enough_values) le)
