-- What is made of the values of a block, step by step.
use Rattle.rank_blocks.proofs.Cited.{◌≡◌, ℕ, ◌<◌, ◌^◌, Bool, List, get_or, ℤ, w32, bit_and, not, arith, ints, bit_not}
use Rattle.rank_blocks.proofs.Cited.{bit_at-lt, bit_at_and, bit_at_not, IsPlacesOf, IsWordOf}

-- the word of the usable days whose values pass
pub usable-word : (test : ℤ → Bool) (word all : ℕ) (values : List ℤ) → IsPlacesOf test values all
    → IsWordOf test word values (bit_and all word)
usable-word test word all values read = grind (arith, ints, bit_at_and, get_or, bit_at-lt)

-- the places whose numbers don't pass one test, if these pass another
pub other-places : (test other : ℤ → Bool) (word : ℕ) (values : List ℤ) → word < 2 ^ 32
    → ((v : ℤ) → not (test v) ≡ other v) → IsPlacesOf test values word → IsPlacesOf other values (bit_not w32 word)
other-places test other word values fits are read = grind (arith, ints, bit_at_not w32 word, bit_at-lt word)
