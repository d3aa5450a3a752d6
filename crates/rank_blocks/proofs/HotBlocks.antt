-- Blocks that hold a day whose value passes, and how they and their days follow one another.
use Rattle.rank_blocks.proofs.Cited.{◌≡◌, ℕ, zero, suc, ◌*◌, ◌/◌, ◌%◌, ◌<◌, ◌≤◌, Bool, true, List, [], ◌∷◌, filter}
use Rattle.rank_blocks.proofs.Cited.{refl, sym, ap, ◌∙◌, subst, arith, ℤ, pos, neg_ℤ, ◌+ℤ◌, ◌&&◌, int_le, Contains, int_eq}
use Rattle.rank_blocks.proofs.Cited.{int_max, AllByRecursion, Decides-int_eq, ints, clamps, block_of, DayValue, test_of}
use Rattle.rank_blocks.proofs.Cited.{is_such, Spell, block_start, days_in, holds_such, AreBitsOf, has_bit, IsGreatest}
use Rattle.rank_blocks.proofs.Cited.{IsDayScore, IsRunLength, counts, and_from, int_eq-yes, false_from_ne_true}
use Rattle.rank_blocks.proofs.Cited.{block-of_place, block-holds, cases_Bool, inl, inr}
use Rattle.rank_scores.specs.declared.spell.Spell.TheVariants.{Dry, Wet, Hot, Cold}
use Rattle.rank_blocks.proofs.DaysInBlocks.{distance, block-rises}
use Rattle.rank_blocks.proofs.Members.{of_each, any_in, any_of, of_kept, in_kept, from_kept}
use Rattle.rank_blocks.proofs.ReachedDays.{such-filter, such-kept, such-in}

-- ---- blocks that hold a day which passes

module _ (test : ℤ → Bool) where
  -- a block that holds one holds one of the days
  pub holds-in : (days : List DayValue) (b : ℤ) → holds_such test days b ≡ true
      → (x : DayValue) × Contains days x × (block_of x.0 ≡ b) × (test x.1 ≡ true)
  holds-in days b e = grind (arith, ints, any_in)

  -- such a day lies in a block that holds one
  pub such-holds : (days : List DayValue) (d : ℤ) → is_such test days d ≡ true
      → holds_such test days (block_of d) ≡ true
  such-holds days d e =
      let has = such-in test days d e in
      any_of (λ y. int_eq (block_of y.0) (block_of d) && test y.1) days (d, has.0) has.1
      (and_from _ (test has.0) (int_eq-yes _ (block_of d) refl) has.2)

  -- of the days of some blocks, one of these holds what it held
  pub holds-filter : (p : ℤ → Bool) (days : List DayValue) (b : ℤ) → p b ≡ true
      → holds_such test (filter (λ x. p (block_of x.0)) days) b ≡ holds_such test days b
  holds-filter p [] b inside = refl
  holds-filter p (x ∷ xs) b inside =
      grind (arith, ints, holds-filter p xs b inside, Decides-int_eq (block_of x.0) b)

  -- a block that holds one of the days of some blocks is one of these, and holds it
  pub holds-kept : (p : ℤ → Bool) (days : List DayValue) (b : ℤ)
      → holds_such test (filter (λ x. p (block_of x.0)) days) b ≡ true → (p b ≡ true) × (holds_such test days b ≡ true)
  holds-kept p days b e =
      let found = holds-in (filter (λ x. p (block_of x.0)) days) b e in
      grind (arith, ints, of_kept (λ x. p (block_of x.0)) days found.0 found.1, found.2, holds-filter p days b)

  -- all that is true of the block of each day is true of one that holds one
  holds-among : (Q : ℤ → Type 0) (days : List DayValue) (b : ℤ) → AllByRecursion (λ x. Q (block_of x.0)) days
      → holds_such test days b ≡ true → Q b
  holds-among Q days b all e =
      let day = holds-in days b e in
      subst Q day.2 (of_each (λ x. Q (block_of x.0)) days all day.0 day.1)

-- a value passes if what a measure makes of it isn't below a least number
abbrev IsFrom : (ℤ → ℤ) → ℤ → (ℤ → Bool) → Type 0
IsFrom f least test = (v : ℤ) → test v ≡ int_le least (f v)

module _ (f : ℤ → ℤ) (least : ℤ) (test : ℤ → Bool) (from : IsFrom f least test) (days : List DayValue) (b z : ℤ)
    (of_z : IsGreatest (IsDayScore f (days_in days b)) z) where
  -- a block holds a day whose value passes if the greatest that the measure makes of its values isn't below that number
  holds-greatest : holds_such test days b ≡ int_le least z
  holds-greatest = elim (cases_Bool (int_le least z)) [
    | inl e ↦
        let day = from_kept (λ x. f x.1) (λ x. int_eq (block_of x.0) b) days z of_z.is_one in
        any_of (λ x. int_eq (block_of x.0) b && test x.1) days day.0 day.1.0
        (and_from _ _ day.1.1 (from day.0.1 ∙ ap (int_le least) day.2 ∙ e)) ∙ sym e
    | inr e ↦
        false_from_ne_true (holds_such test days b) (λ holds.
        let day = holds-in test days b holds in
        let most = of_z.is_most (f day.0.1) (in_kept (λ x. f x.1) (λ x. int_eq (block_of x.0) b) days day.0 day.1
        (int_eq-yes (block_of day.0.0) b day.2)) in
        grind (arith, ints, most, day.3, e, from day.0.1)) ∙ sym e
  ]

  -- then all its days count, and otherwise none
  pub block-bits : (word : ℕ) → ((j : ℕ) → j < 32 → has_bit word j ≡ int_le least z)
      → AreBitsOf (λ d. holds_such test days (block_of d)) b word
  block-bits word all = λ i lt. all i lt ∙ sym holds-greatest ∙ ap (holds_such test days) (sym (block-of_place b i lt))

-- two numbers are in the order of the negated ones exchanged
pub int_le-neg : (a b : ℤ) → int_le a b ≡ int_le (neg_ℤ b) (neg_ℤ a)
int_le-neg a b = grind (arith, ints)

-- a hot day isn't below the degrees
pub from-hot : (t : ℤ) → IsFrom (λ v. v) t (test_of (Hot t))
from-hot t v = refl

-- a cold day negated isn't below the degrees negated
pub from-cold : (t : ℤ) → IsFrom neg_ℤ (neg_ℤ t) (test_of (Cold t))
from-cold t v = int_le-neg v t

-- ---- days that count for a spell

-- of the days of some blocks, a day of these counts as it did
pub counts-filter : (k : Spell) (p : ℤ → Bool) (days : List DayValue) (d : ℤ) → p (block_of d) ≡ true
    → counts k (filter (λ x. p (block_of x.0)) days) d ≡ counts k days d
counts-filter Dry p days d inside = such-filter (test_of Dry) (λ n. p (block_of n)) days d inside
counts-filter Wet p days d inside = such-filter (test_of Wet) (λ n. p (block_of n)) days d inside
counts-filter (Hot t) p days d inside = holds-filter (test_of (Hot t)) p days (block_of d) inside
counts-filter (Cold t) p days d inside = holds-filter (test_of (Cold t)) p days (block_of d) inside

-- a day that counts among them lies in one of the blocks
pub counts-kept : (k : Spell) (p : ℤ → Bool) (days : List DayValue) (d : ℤ)
    → counts k (filter (λ x. p (block_of x.0)) days) d ≡ true → (p (block_of d) ≡ true) × (counts k days d ≡ true)
counts-kept Dry p days d e = such-kept (test_of Dry) (λ n. p (block_of n)) days d e
counts-kept Wet p days d e = such-kept (test_of Wet) (λ n. p (block_of n)) days d e
counts-kept (Hot t) p days d e = holds-kept (test_of (Hot t)) p days (block_of d) e
counts-kept (Cold t) p days d e = holds-kept (test_of (Cold t)) p days (block_of d) e

-- a day that counts lies in the block of one of the days, and all that is true of each of these is true of it
pub counts-among : (k : Spell) (Q : ℤ → Type 0) (days : List DayValue) (d : ℤ)
    → AllByRecursion (λ x. Q (block_of x.0)) days → counts k days d ≡ true → Q (block_of d)
counts-among Dry Q days d all e = of_each (λ x. Q (block_of x.0)) days all _ (such-in (test_of Dry) days d e).1
counts-among Wet Q days d all e = of_each (λ x. Q (block_of x.0)) days all _ (such-in (test_of Wet) days d e).1
counts-among (Hot t) Q days d all e = holds-among (test_of (Hot t)) Q days (block_of d) all e
counts-among (Cold t) Q days d all e = holds-among (test_of (Cold t)) Q days (block_of d) all e

-- ---- blocks in a row, and their days

module _ (such : ℤ → Bool) (k : ℕ) (of_k : IsGreatest (IsRunLength such) (pos k)) where
  -- days one after another in such blocks are no more than that many blocks have
  days-most : (len : ℕ) (first : ℤ) → ((i : ℕ) → i < len → such (block_of (first +ℤ pos i)) ≡ true) → len ≤ 32 * k
  days-most zero first pass = omega arith
  days-most (suc n) first pass =
      let low = block-holds first in
      let high = block-holds (first +ℤ pos n) in
      let far = distance (block_of first) (block_of (first +ℤ pos n))
      (block-rises first (first +ℤ pos n) (omega (arith, ints))) in
      let most = of_k.is_most (pos (suc far.0)) (
        suc far.0,
        block_of first,
        refl,
        λ j lt.
            let day : ℤ = int_max first (block_start (block_of first +ℤ pos j)) in
            let at = distance first day (omega (arith, ints, clamps)) in
            let block : block_of (first +ℤ pos at.0) ≡ block_of first +ℤ pos j =
            grind (arith, ints, at, low, block-holds (first +ℤ pos at.0)) in
            ap such (sym block) ∙ pass at.0 (omega (arith, ints, clamps, at.1, far.1, low.0, high.0, lt)),
      ) in
      omega (arith, ints, most, far.1, low.0, high.1)

  -- the days of the most such blocks in a row are the most days in a row in such blocks
  pub days-greatest : IsGreatest (IsRunLength (λ d. such (block_of d))) (pos (32 * k))
  days-greatest =
      let run = of_k.is_one in
      record {
        is_one = (
          32 * k,
          block_start run.1,
          refl,
          λ i lt. grind (arith, ints, block-of_place (run.1 +ℤ pos (i / 32)) (i % 32), run.3 (i / 32), run.2),
        );
        is_most = λ y h. omega (arith, ints, h.2, days-most h.0 h.1 h.3);
      }
