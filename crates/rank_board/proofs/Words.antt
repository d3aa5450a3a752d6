-- Scores and floors, and the words that stand for them.
use Rattle.std.proofs.Common.{◌≡◌, ℕ, ◌+◌, ◌<◌, ◌≤◌, ◌≢◌, ◌^◌, cond, List, ℤ, pos, negsuc, ◌+ℤ◌, ◌≤ℤ◌, Option, Some}
use Rattle.std.proofs.Common.{None, IsSomeAnd, option_to_list, sym, ap, subst, inl, inr, arith, eq-eqb, ne_eqb}
use Rattle.std.proofs.lemmas.List.Elements.{All-weaker}
use Rattle.std.proofs.lemmas.Int.{ints}
use Rattle.std.proofs.lemmas.Bool.{cases_eq}
use Rattle.ghcn_fields.specs.Floor.{IsScore, IsAtLeast}
use Rattle.ghcn_fields.proofs.CountingLaws.{equal_if_one}
use Rattle.rank_board.specs.Word.{score_word, score_of_word, floor_of}
use Rattle.rank_board.specs.Rule.{standing}
use Rattle.rank_board.specs.Steps.{AreUnder}
use Rattle.ghcn_fields.specs.Counting.{one_if_equal}

-- where the word of a score lies
pub score_word-limits : (s : ℤ) → IsScore s → (2 ^ 31 ≤ score_word s) × (score_word s ≤ 2 ^ 32 + 2 ^ 31)
score_word-limits (pos n) f = let a = f.0 in let b = f.1 in (omega (arith, ints), omega (arith, ints))
score_word-limits (negsuc n) f = let a = f.0 in let b = f.1 in (omega (arith, ints), omega (arith, ints))

-- a score that is n after 2^32 is added has the word n
score_word-shifted : (s : ℤ) (n : ℕ) → s +ℤ pos 4294967296 ≡ pos n → score_word s ≡ n
score_word-shifted (pos m) n e = omega (arith, ints)
score_word-shifted (negsuc m) n e = omega (arith, ints)

-- the word of the score that has the word n is n
pub score_word-score_of : (n : ℕ) → score_word (score_of_word n) ≡ n
score_word-score_of n = score_word-shifted (score_of_word n) n (omega (arith, ints))

-- scores are ordered as their words are
pub score_word-le : (s t : ℤ) → score_word s ≤ score_word t → 0 < score_word t → s ≤ℤ t
score_word-le (pos m) (pos n) le real = omega (arith, ints)
score_word-le (pos m) (negsuc n) le real = omega (arith, ints)
score_word-le (negsuc m) (pos n) le real = omega (arith, ints)
score_word-le (negsuc m) (negsuc n) le real = omega (arith, ints)

-- one word stands for one score
pub score_word-injective : (s t : ℤ) → score_word s ≡ score_word t → 0 < score_word t → s ≡ t
score_word-injective (pos m) (pos n) e real = omega (arith, ints)
score_word-injective (pos m) (negsuc n) e real = omega (arith, ints)
score_word-injective (negsuc m) (pos n) e real = omega (arith, ints)
score_word-injective (negsuc m) (negsuc n) e real = omega (arith, ints)

-- the word 0 stands for none
pub floor_of-none : (f : ℕ) → f ≡ 0 → floor_of f ≡ None
floor_of-none f z = ap (λ t. cond t None (Some (score_of_word f))) (eq-eqb f 0 z)

-- any other word stands for a score
pub floor_of-some : (f : ℕ) → f ≢ 0 → floor_of f ≡ Some (score_of_word f)
floor_of-some f ne = ap (λ t. cond t None (Some (score_of_word f))) (ne_eqb f 0 ne)

-- a look at the floor with the word f adds a score with the word f alone, and none if f is 0
pub floor_seen : (f n : ℕ) → 0 < standing n (option_to_list (floor_of f)) → (f ≡ n) × (0 < f)
floor_seen f n some_seen = elim (cases_eq f 0) [
  | inl z ↦ absurd (omega (arith, ap (λ t. standing n (option_to_list t)) (floor_of-none f z)))
  | inr ne ↦ (
    equal_if_one f n (omega (
      arith,
      ap (λ t. standing n (option_to_list t)) (floor_of-some f ne),
      ap
          (λ m. one_if_equal m n) (score_word-score_of f),
    )),
    omega arith,
  )
]

-- if the words of scores are at most the floor's, the floor is at least these scores
pub floor_above : (f : ℕ) (scores : List ℤ) → AreUnder f scores → IsAtLeast (floor_of f) scores
floor_above f scores all =
    All-weaker (λ s. (score_word s ≤ f) × (0 < f)) (λ s. IsSomeAnd (floor_of f) (λ g. s ≤ℤ g)) under scores all
  where
    under : (s : ℤ) → (score_word s ≤ f) × (0 < f) → IsSomeAnd (floor_of f) (λ g. s ≤ℤ g)
    under s h = let e = score_word-score_of f in let le = h.0 in let real = h.1 in
        subst (λ (o : Option ℤ). IsSomeAnd o (λ g. s ≤ℤ g)) (sym (floor_of-some f (λ z. absurd (omega arith))))
        (score_word-le s (score_of_word f) (omega arith) (omega arith))
