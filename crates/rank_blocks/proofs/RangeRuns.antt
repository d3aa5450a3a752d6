-- The longest run of days in the blocks of a range, as a loop over the summaries finds it.
use Rattle.rank_blocks.proofs.Cited.{◌≡◌, ℕ, zero, suc, ◌+◌, ◌*◌, ◌<◌, ◌≤◌, Bool, true, false, List, map, length, refl}
use Rattle.rank_blocks.proofs.Cited.{sym, ap, ◌∙◌, arith, ℤ, pos, ◌≤ℤ◌, ◌<ℤ◌, ◌+ℤ◌, Contains, ints, All-from_recursion}
use Rattle.rank_blocks.proofs.Cited.{All-get_or, All-from_get_or, recursion_from_All, block_of, Series, Spell, Runs}
use Rattle.rank_blocks.proofs.Cited.{Summary, BlockRange, block_start, AreRuns, runs_before, NoneBetween, AllFrom}
use Rattle.rank_blocks.proofs.Cited.{Continues, IsGreatest, IsRunLength, in_range, days_in_range, counts, AreOfBlocks}
use Rattle.rank_blocks.proofs.Cited.{ArePossible, HasDays, false_from_ne_true, block-holds, block-of_place}
use Rattle.rank_blocks.proofs.PossibleBlocks.{block_at, no_block, rises}
use Rattle.rank_blocks.proofs.LongestRuns.{runs-none}
use Rattle.rank_blocks.proofs.Members.{pick}
use Rattle.rank_blocks.proofs.HotBlocks.{counts-kept, counts-filter, counts-among}

-- a day that counts for a spell among the usable days in the blocks of a range
abbrev pub kind : BlockRange → Spell → Series → ℤ → Bool
kind r k s = counts k (days_in_range r s.days)

-- the runs of the days before a block are noted, whatever the series; of the blocks of the range those that come before
-- it are those of the summaries before a place
pub record IsTold (r : BlockRange) (ms : List Summary) (i : ℕ) (runs : Runs) : Type 0 where
  pub room : runs.last ≤ 32 * i
  pub before : (j : ℕ) → j < i → in_range r (block_at ms j).number ≡ true → (block_at ms j).number <ℤ runs.next
  pub ahead : (j : ℕ) → i ≤ j → j < length ms → in_range r (block_at ms j).number ≡ true
      → runs.next ≤ℤ (block_at ms j).number
  pub told : (k : Spell) (s : Series) → AreOfBlocks (HasDays k s.days) s ms → AreRuns (kind r k s) runs

-- before any block
pub told-start : (r : BlockRange) (ms : List Summary) → IsTold r ms 0 (runs_before r.first)
told-start r ms = record {
  room = omega arith;
  before = λ j lt. absurd (omega arith);
  ahead = λ j le lt holds. grind (arith, ints);
  told = λ k s are. runs-none (kind r k s) r.first
      (λ d lt. grind (arith, ints, counts-kept k (in_range r) s.days d, block-holds d));
}

-- the block of a day of the kind is one of the range and has a summary
block-of_kind : (r : BlockRange) (k : Spell) (s : Series) (ms : List Summary) → AreOfBlocks (HasDays k s.days) s ms
    → (d : ℤ) → kind r k s d ≡ true
    → (j : ℕ) × (j < length ms) × ((block_at ms j).number ≡ block_of d) × (in_range r (block_at ms j).number ≡ true)
block-of_kind r k s ms are d e =
    let kept = counts-kept k (in_range r) s.days d e in
    let At : Summary → Type 0 = λ m. (j : ℕ) × (j < length ms) × (block_at ms j ≡ m) in
    let found = pick (λ m. m.number) At ms (block_of d)
    (recursion_from_All At ms (All-from_get_or At ms no_block (λ j lt. (j, lt, refl))))
    (counts-among k (Contains (map (λ m. m.number) ms)) s.days d are.all kept.1) in
    let is = ap (λ (m : Summary). m.number) found.1.2 ∙ found.2 in
    (found.1.0, found.1.1, is, ap (in_range r) is ∙ kept.0)

module _ (r : BlockRange) (ms : List Summary) (i : ℕ) (runs : Runs) (far : IsTold r ms i runs) where
  module _ (possible : ArePossible ms) (lt : i < length ms) where
    -- no day of the kind lies between the block after those noted and that of the summary at the place
    none-between : (k : Spell) (s : Series) → AreOfBlocks (HasDays k s.days) s ms
        → NoneBetween (kind r k s) runs.next (block_at ms i).number
    none-between k s are d low high = false_from_ne_true (kind r k s d) (λ e.
        let at = block-of_kind r k s ms are d e in
        let rise = rises ms possible.by_number i at.0 in
        grind (arith, ints, block-holds d, rise, far.before at.0))

    -- with a block of the range
    pub told-in : (new : Runs) → in_range r (block_at ms i).number ≡ true
        → Continues runs (block_at ms i).number (block_at ms i).days new
        → new.next ≡ (block_at ms i).number +ℤ pos 1 → new.last ≤ runs.last + 32 → IsTold r ms (i + 1) new
    told-in new holds continues next room =
        let order = far.ahead i (omega arith) lt holds in
        record {
          room = omega arith;
          before = λ j earlier in_it. grind (arith, ints, far.before j);
          ahead = λ j later within in_it. grind (arith, ints, rises ms possible.by_number i j);
          told = λ k s are. continues (kind r k s) (far.told k s are) (none-between k s are) (λ b bit.
              All-get_or (HasDays k s.days) ms i no_block lt (All-from_recursion (HasDays k s.days) ms are.each) b bit
              ∙ sym (counts-filter k (in_range r) s.days (block_start (block_at ms i).number +ℤ pos b)
              (ap (in_range r) (block-of_place (block_at ms i).number b bit) ∙ holds)));
        }

  -- a block that isn't in the range changes nothing
  pub told-out : in_range r (block_at ms i).number ≡ false → IsTold r ms (i + 1) runs
  told-out out = grind (arith, ints, far)

  -- after the last block, the longest run is that of the range
  pub told-end : length ms ≤ i → (k : Spell) (s : Series) → AreOfBlocks (HasDays k s.days) s ms
      → IsGreatest (IsRunLength (kind r k s)) (pos runs.longest)
  told-end end k s are =
      let told = far.told k s are in
      let most : (len : ℕ) (first : ℤ) → AllFrom (kind r k s) first len → len ≤ runs.longest = λ len first pass.
      elim len as (λ len. AllFrom (kind r k s) first len → len ≤ runs.longest) [
        | zero ↦ λ pass. omega arith
        | suc n ↦ λ pass.
            let at = block-of_kind r k s ms are (first +ℤ pos n) (pass n (omega arith)) in
            grind (arith, ints, far.before at.0, block-holds (first +ℤ pos n), told.nowhere_more first (suc n))
      ] pass in
      record {
        is_one = (runs.longest, told.somewhere.0, refl, told.somewhere.1);
        is_most = λ y run. let le = most run.0 run.1 run.3 in omega (arith, ints);
      }
